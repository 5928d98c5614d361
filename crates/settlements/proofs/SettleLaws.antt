-- Laws of the settling call: where no row holds the passes are written, h bytes to each buffer; a refusal changes nothing.
use Prim.Native.Nat.{ℕ, ◌≤◌, ◌<◌}
use mathlib.Core.Path.{◌≡◌, refl, ap}
use mathlib.Core.Bool.{true, ◌&&◌}
use mathlib.Core.Logic.{◌↔◌}
use mathlib.Core.List.{List}
use mathlib.Core.Option.{none, some}
use native.Mathlib.Omega.{arith}
use lib.ListN.{length, length-append, length-drop, get_or-append}
use borrow.Author.Tests.{lt-ltb, le-ltb}
use Rattle.ternary.specs.Signal.{at}
use Rattle.ternary.proofs.Passes.{first_vector_length, second_vector_length}
use Rattle.net.specs.declared.Net.{Net}
use Rattle.net.specs.Graph.{key_count}
use Rattle.net.specs.Network.{network, Clean, is_input_state, is_key_state, Stable, stable}
use Rattle.net.specs.WellFormed.{C1}
use Rattle.net.specs.Ternary.{settled}
use Rattle.net.proofs.WellFormed.{place_c1_none, stable_iff}
use Rattle.sheet.specs.declared.Answer.{Answer}
use Rattle.sheet.specs.Rows.{answer, Row, first_row, answered, First, NoRow}
use Rattle.sheet.specs.Valid.{valid}
use Rattle.sheet.proofs.RowLaws.{by_rows_none, by_rows_some, by_rows-first, by_rows-answer, positive, answered_zero, answered_some}
use Rattle.settlements.specs.Settle.{Settlement, unsettled, written, settle_under, settle_rows, settle_of}

-- what a job may be settled from: both inputs are input states, and the start is a key state that is stable under the old
pub record Startable (N : Net) (A B q : ℕ) : Type 0 where
  pub old : Clean N A q
  pub new : Clean N B q
  pub rest : Stable N A q

module _ (N : Net) (A B q : ℕ) where
  pub settle_none : (rows : List Row) (R T : List ℕ) → first_row rows ≡ none → settle_under rows N A B q R T ≡ written N A B q R T
  unfolding settle_under
  settle_none rows R T e = by_rows_none rows _ _ e

  pub settle_some : (rows : List Row) (R T : List ℕ) (a : Answer) → first_row rows ≡ some a → settle_under rows N A B q R T ≡ unsettled a R T
  unfolding settle_under
  settle_some rows R T a e = by_rows_some rows _ _ a e

  module _ (s : Startable N A B q) where
    pub inputs_pass : (is_input_state N A && is_input_state N B) ≡ true
    inputs_pass = rw (lt-ltb A _ s.old.input, lt-ltb B _ s.new.input)

    pub start-passes : is_key_state N q ≡ true
    start-passes = lt-ltb q _ s.old.key

    pub rest-passes : stable N A q ≡ true
    rest-passes = (stable_iff N A q).1 s.rest

    -- every row of settling passes
    pub settle_accepts : (R T : List ℕ) → valid N ≡ true → C1 N → key_count N ≤ length R → key_count N ≤ length T
        → settle_of N A B q R T ≡ written N A B q R T
    unfolding settle_of settle_rows first_row
    settle_accepts R T v c hr ht = settle_none (settle_rows N A B q R T) R T
        (rw (
          v,
          (place_c1_none N).1 c,
          inputs_pass,
          start-passes,
          le-ltb (length R) (key_count N) hr,
          le-ltb (length T) (key_count N) ht,
          rest-passes,
        ))

  -- the bytes written are the passes' signals, and each buffer keeps its length
  pub written_r : (R T : List ℕ) (k : ℕ) → k < key_count N → at (written N A B q R T).r k ≡ at (settled N A B q).r k
  unfolding written
  written_r R T k h = get_or-append (settled N A B q).r _ 0 k (rw (first_vector_length N.letter_count (key_count N) (network N) A B q) h)

  pub written-t : (R T : List ℕ) (k : ℕ) → k < key_count N → at (written N A B q R T).t k ≡ at (settled N A B q).t k
  unfolding written
  written-t R T k h = get_or-append (settled N A B q).t _ 0 k (rw (second_vector_length N.letter_count (key_count N) (network N) A B q) h)

  pub length-written-r : (R T : List ℕ) → key_count N ≤ length R → length (written N A B q R T).r ≡ length R
  unfolding written
  length-written-r R T h = simp (length-append, length-drop) (omega (arith, first_vector_length N.letter_count (key_count N) (network N) A B q))

  pub length-written-t : (R T : List ℕ) → key_count N ≤ length T → length (written N A B q R T).t ≡ length T
  unfolding written
  length-written-t R T h = simp (length-append, length-drop) (omega (arith, second_vector_length N.letter_count (key_count N) (network N) A B q))

-- ---- the answer, by rows

-- the number and place that a settlement answers with
abbrev pub settlement_answer : Settlement → Answer
settlement_answer s = answer s.answer.number s.answer.place

module _ (N : Net) (A B q : ℕ) (R T : List ℕ) where
  settle_answer : settlement_answer (settle_of N A B q R T) ≡ answered (first_row (settle_rows N A B q R T))
  unfolding settle_of settle_under written
  settle_answer = by_rows-answer (settle_rows N A B q R T) _ _ settlement_answer refl (λ a. refl)

  -- 0 exactly if no row's condition holds
  pub settle_zero : ((settle_of N A B q R T).answer.number ≡ 0) ↔ NoRow (settle_rows N A B q R T)
  unfolding settle_rows positive
  settle_zero = rw (ap (λ (a : Answer). a.number) settle_answer) (answered_zero (settle_rows N A B q R T) refl)

  -- a number with its place exactly if its row is the first that holds
  pub settle_number : (n p : ℕ) → 1 ≤ n → (settlement_answer (settle_of N A B q R T) ≡ answer n p) ↔ First (settle_rows N A B q R T) n p
  settle_number n p h = rw settle_answer (answered_some (settle_rows N A B q R T) n p h)

  -- and then the counts are 0 and no byte changes
  pub settle_refused : (n p : ℕ) → First (settle_rows N A B q R T) n p → settle_of N A B q R T ≡ unsettled (answer n p) R T
  unfolding settle_of settle_under
  settle_refused n p f = by_rows-first (settle_rows N A B q R T) _ _ n p f
