-- The settling call: its answer, and both lent buffers whole, for every input.
use Rattle.std.specs.Prelude.{ℕ, not, ◌&&◌, ◌||◌, List, [], ◌∷◌, ◌++◌, ltb, length, drop}
use Rattle.net.specs.declared.Net.{Net}
use Rattle.net.specs.Graph.{key_count}
use Rattle.net.specs.Network.{is_input_state, is_key_state, stable}
use Rattle.net.specs.WellFormed.{place_c1}
use Rattle.net.specs.Ternary.{settled}
use Rattle.sheet.specs.declared.Answer.{Answer}
use Rattle.sheet.specs.Rows.{Row, row, when, by_rows}
use Rattle.sheet.specs.Valid.{valid}
use Rattle.settlements.specs.declared.Settling.{Settling}

abbrev pub settling : ℕ → ℕ → ℕ → ℕ → Settling
settling n p s₁ s₂ = record { number = n; place = p; first_steps = s₁; second_steps = s₂ }

-- an answer, and what the two lent buffers then hold
pub record Settlement : Type 0 where
  pub answer : Settling
  pub r : List ℕ
  pub t : List ℕ

abbrev pub settlement : Settling → List ℕ → List ℕ → Settlement
settlement s R T = record { answer = s; r = R; t = T }

-- a refusal: counts 0, and no byte lent changes
abbrev pub unsettled : Answer → List ℕ → List ℕ → Settlement
unsettled a R T = record { answer = settling a.number a.place 0 0; r = R; t = T }

-- answer 0: h bytes of each buffer are written, the first pass's vector and the second's, and nothing beyond
unfoldable pub written : Net → ℕ → ℕ → ℕ → List ℕ → List ℕ → Settlement
written N A B q R T =
    let s = settled N A B q in
    record {
      answer = settling 0 0 s.first_steps s.second_steps;
      r = s.r ++ drop (key_count N) R;
      t = s.t ++ drop (key_count N) T;
    }

-- by the rows given: the first that holds refuses, and where none holds the passes are written
unfoldable pub settle_under : List Row → Net → ℕ → ℕ → ℕ → List ℕ → List ℕ → Settlement
settle_under rows N A B q R T = by_rows rows (written N A B q R T) (λ a. unsettled a R T)

-- record; C1 broken; A or B no input state; q no key state; a buffer shorter than h; start not stable under A
unfoldable pub settle_rows : Net → ℕ → ℕ → ℕ → List ℕ → List ℕ → List Row
settle_rows N A B q R T =
    row 41 (when (not (valid N)))
    ∷ row 31 (place_c1 N)
    ∷ row 42 (when (not (is_input_state N A && is_input_state N B)))
    ∷ row 43 (when (not (is_key_state N q)))
    ∷ row 45 (when (ltb (length R) (key_count N) || ltb (length T) (key_count N)))
    ∷ row 44 (when (not (stable N A q)))
    ∷ []

unfoldable pub settle_of : Net → ℕ → ℕ → ℕ → List ℕ → List ℕ → Settlement
settle_of N A B q R T = settle_under (settle_rows N A B q R T) N A B q R T
