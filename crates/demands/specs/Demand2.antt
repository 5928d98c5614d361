-- Demand 2: excitations, conditions C1 to C3 and both passes are those of the report as document 01 fixes them.
use Rattle.std.specs.Prelude.{ℕ, ◌<◌, ◌≡◌, ◌↔◌, List, length, take, drop}
use Rattle.ternary.specs.Lists.{table}
use Rattle.ternary.specs.Bits.{bit}
use Rattle.ternary.specs.Signal.{X, Signal, at}
use Rattle.ternary.specs.Excitation.{H}
use Rattle.ternary.specs.Passes.{mix, Ends}
use Rattle.net.specs.declared.Net.{Net}
use Rattle.net.specs.Graph.{key_count, key_vertex}
use Rattle.net.specs.Walks.{ExcitedTo0, ExcitedTo1, Floating, Fought}
use Rattle.net.specs.Network.{network}
use Rattle.net.specs.Ternary.{settled, SignalsDisagree}
use Rattle.settlements.specs.Settle.{Settlement}
use Rattle.settlements.specs.Batch.{Batch}
use Rattle.demands.specs.Demand1.{result_of, answer_of}

-- v is the excitation of storage vertex y: each of the five values exactly in the case that documents 01 and 02 give it
pub record ExcitationMeans (N : Net) (a q y v : ℕ) : Type 0 where
  pub zero : (v ≡ 0) ↔ ExcitedTo0 N a q y
  pub one : (v ≡ 1) ↔ ExcitedTo1 N a q y
  pub floating : (v ≡ 3) ↔ Floating N a q y
  pub fought : (v ≡ 5) ↔ Fought N a q y
  pub otherwise : (v ≡ 2) ↔ ((¬ ExcitedTo0 N a q y) × (¬ ExcitedTo1 N a q y) × (¬ Floating N a q y) × (¬ Fought N a q y))

-- vector v ends a pass by H(p, .) from `from` with so many steps: it is the first fixed point, its h bytes are 0, 1 or X, and key node k is X exactly
-- if two assignments of the signals of its component, both covered by those signals, disagree on its excitation
pub record PassMeans (N : Net) (p from v : List ℕ) (steps : ℕ) : Type 0 where
  pub ends : Ends (H (network N) (key_count N) p) (key_count N) from (record { vector = v; steps = steps })
  pub size : length v ≡ key_count N
  pub signals : (k : ℕ) → k < key_count N → Signal (at v k)
  pub unknown : (k : ℕ) → k < key_count N → (at v k ≡ X) ↔ SignalsDisagree N p v (key_vertex N k)

-- the first h bytes of two buffers are the two passes, with their step counts: the first from q with X where A and B differ, the second under B from the
-- first's last vector
pub record PassesMean (N : Net) (A B q : ℕ) (first_steps second_steps : ℕ) (r t : List ℕ) : Type 0 where
  pub first : PassMeans N (mix N.letter_count A B) (table (key_count N) (bit q)) (take (key_count N) r) first_steps
  pub second : PassMeans N (table N.letter_count (bit B)) (take (key_count N) r) (take (key_count N) t) second_steps

-- over what settling gives
abbrev pub SettlePasses : Net → ℕ → ℕ → ℕ → Settlement → Type 0
SettlePasses N A B q S = PassesMean N A B q S.answer.first_steps S.answer.second_steps S.r S.t

-- over what both passes give, which is what the text shows (`TextPromise`)
abbrev pub SettledPasses : Net → ℕ → ℕ → ℕ → Type 0
SettledPasses N A B q =
    let s = settled N A B q in
    PassesMean N A B q s.first_steps s.second_steps s.r s.t

-- and over the bytes of job n, from 0, of a batch
abbrev pub JobPasses : Net → ℕ → ℕ → ℕ → ℕ → Batch → Type 0
JobPasses N A B q n S =
    let three = answer_of n S.buffers.answers in
    let own = result_of N n S.buffers.results in
    PassesMean N A B q (at three 1) (at three 2) own (drop (key_count N) own)
