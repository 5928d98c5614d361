-- Demand 3: what settling wrote is never against any run, whatever order the race takes.
use Rattle.std.specs.Prelude.{ℕ, ◌^◌, ◌≤◌, ◌<◌, ◌≡◌, List, [], ◌∷◌, ◌++◌, drop}
use Rattle.ternary.specs.Bits.{bit}
use Rattle.ternary.specs.Signal.{Against, at}
use Rattle.ternary.specs.Run.{Run, Step, start, run_all}
use Rattle.net.specs.declared.Net.{Net}
use Rattle.net.specs.Graph.{key_count}
use Rattle.net.specs.Network.{network, Stable}
use Rattle.net.specs.WellFormed.{C1}
use Rattle.net.specs.Ternary.{settled}
use Rattle.sheet.specs.Rows.{answer}
use Rattle.sheet.specs.Record.{accepted}
use Rattle.sheet.specs.Reading.{read_sheet}
use Rattle.settlements.specs.Settle.{Settlement}
use Rattle.settlements.specs.Batch.{Batch}
use Rattle.demands.specs.Demand1.{result_of, answer_of}

-- an accepted net that meets C1, an old and a new input state, and a start that is stable under the old
pub record Settles (sheet : List ℕ) (N : Net) (A B q : ℕ) : Type 0 where
  pub reads : read_sheet sheet ≡ accepted N
  pub c1 : C1 N
  pub old : A < 2 ^ N.letter_count
  pub new : B < 2 ^ N.letter_count
  pub key : q < 2 ^ key_count N
  pub rest : Stable N A q

-- the run that a list of steps leaves, from A and q
abbrev pub run_of : Net → ℕ → ℕ → ℕ → List Step → Run
run_of N A B q steps = run_all N.letter_count (key_count N) (network N) A B (start A q) steps

-- no key node of the run is against the buffer's signals, key node k having byte k
abbrev pub NoneAgainst : Net → List ℕ → Run → Type 0
NoneAgainst N buffer s = (k : ℕ) → k < key_count N → ¬ Against (at buffer k) (bit s.key k)

-- the answer is 0; after every list of steps, of any length, refused ones included, no key node is against a 0 or 1 of r, and where the list has closed
-- at least as many rounds as the second count none is against a 0 or 1 of t; that count is at most h
pub record Promise (N : Net) (A B q : ℕ) (number second_steps : ℕ) (r t : List ℕ) : Type 0 where
  pub answer : number ≡ 0
  pub first : (steps : List Step) → NoneAgainst N r (run_of N A B q steps)
  pub second : (steps : List Step) → second_steps ≤ (run_of N A B q steps).rounds → NoneAgainst N t (run_of N A B q steps)
  pub most : second_steps ≤ key_count N

-- what settling with buffers R and T promises: each buffer is a pass's vector and then the rest of what it was
pub record SettlePromise (N : Net) (A B q : ℕ) (R T : List ℕ) (S : Settlement) : Type 0 where
  pub r-written : S.r ≡ (settled N A B q).r ++ drop (key_count N) R
  pub t-written : S.t ≡ (settled N A B q).t ++ drop (key_count N) T
  pub promise : Promise N A B q S.answer.number S.answer.second_steps S.r S.t

-- what a batch promises of its job n, from 0: its own bytes are r and then t, and its three answer bytes are 0 and the step counts
pub record JobPromise (N : Net) (A B q n : ℕ) (S : Batch) : Type 0 where
  pub answer : S.answer ≡ answer 0 0
  pub answers : answer_of n S.buffers.answers ≡ 0 ∷ (settled N A B q).first_steps ∷ (settled N A B q).second_steps ∷ []
  pub results : result_of N n S.buffers.results ≡ (settled N A B q).r ++ (settled N A B q).t
  pub promise : Promise N A B q (at (answer_of n S.buffers.answers) 0) (at (answer_of n S.buffers.answers) 2)
      (result_of N n S.buffers.results) (drop (key_count N) (result_of N n S.buffers.results))
