-- The tests that give a number, as the code makes them.
use Prim.Native.Nat.{ℕ, zero, ◌*◌, ◌/◌, ◌^◌, ◌<◌}
use native.Mathlib.Nat.{mul-zero, div-lt_iff_lt-mul}
use native.Mathlib.Omega.{arith}
use mathlib.Core.Path.{◌≡◌, refl, sym}
use mathlib.Core.Bool.{Bool, true, false, cond, not, ◌&&◌, true≢false}
use mathlib.Core.List.{List, ◌∷◌}
use mathlib.Core.Option.{some}
use Rattle.std.specs.Prelude.{Option, Some, None}
use lib.Dec.{ltb}
use borrow.Author.Tests.{ltb-true, lt-ltb, le-ltb}
use Rattle.ternary.proofs.Tests.{same_test, and_left, and_right}
use Rattle.net.specs.declared.Net.{Net}
use Rattle.net.specs.Graph.{key_count}
use Rattle.net.specs.Network.{Clean, is_input_state, is_key_state}
use Rattle.sheet.specs.Rows.{answer, Row, row, when, first_row}
use Rattle.settlements.specs.Numbers.{state_number}

-- ---- bytes by division

pub no_width : (bytes count : ℕ) {width : ℕ} → width ≡ 0 → false ≡ ltb bytes (count * width)
no_width bytes count e = rw (e, mul-zero) (sym (le-ltb bytes 0 (omega arith)))

pub by_width : (bytes count width : ℕ) → (width ≡ 0 → ⊥) → ltb (bytes / width) count ≡ ltb bytes (count * width)
by_width bytes count width ne =
    let some-width : zero < width = omega arith in
    let iff = div-lt_iff_lt-mul {k = width} {x = bytes} {y = count} some-width in
    same_test (ltb (bytes / width) count) (ltb bytes (count * width))
    (λ e. lt-ltb _ _ (iff.0 (ltb-true _ _ e)))
    (λ e. lt-ltb _ _ (iff.1 (ltb-true _ _ e)))

-- ---- states

-- by the tests of the inputs and of the start
abbrev number_by : Bool → Bool → Option ℕ
number_by i k = cond i (cond k None (Some 43)) (Some 42)

refused-first : (rows : List Row) (i k : Bool) (n : ℕ) → number_by i k ≡ Some n
    → first_row (row 42 (when (not i)) ∷ row 43 (when (not k)) ∷ rows) ≡ some (answer n 0)
unfolding first_row
refused-first rows true true n e = absurd (true≢false (cc))
refused-first rows true false n e = cc
refused-first rows false k n e = cc

passed : (i k : Bool) → number_by i k ≡ None → (i ≡ true) × (k ≡ true)
passed true true e = (refl, refl)
passed true false e = absurd (true≢false (cc))
passed false k e = absurd (true≢false (cc))

-- the tests in their order, with L letters and h key nodes
module _ (L h A B q : ℕ) where
  pub old_refused : ltb A (2 ^ L) ≡ false → Some 42 ≡ state_number L h A B q
  unfolding state_number
  old_refused e = rw e

  module _ (old : ltb A (2 ^ L) ≡ true) where
    pub new_refused : ltb B (2 ^ L) ≡ false → Some 42 ≡ state_number L h A B q
    unfolding state_number
    new_refused e = rw (old, e)

    module _ (new : ltb B (2 ^ L) ≡ true) where
      pub start-refused : ltb q (2 ^ h) ≡ false → Some 43 ≡ state_number L h A B q
      unfolding state_number
      start-refused e = rw (old, new, e)

      pub none_refused : ltb q (2 ^ h) ≡ true → None ≡ state_number L h A B q
      unfolding state_number
      none_refused e = rw (old, new, e)

-- what the number tells of a net
abbrev pub number_of : Net → ℕ → ℕ → ℕ → Option ℕ
number_of N A B q = state_number N.letter_count (key_count N) A B q

module _ (N : Net) (A B q : ℕ) where
  pub state_refused : (rows : List Row) {n : ℕ} → number_of N A B q ≡ Some n
      → first_row (row 42 (when (not (is_input_state N A && is_input_state N B))) ∷ row 43 (when (not (is_key_state N q))) ∷ rows) ≡ some (answer n 0)
  unfolding state_number
  state_refused rows e = refused-first rows (is_input_state N A && is_input_state N B) (is_key_state N q) _ e

  module _ (e : number_of N A B q ≡ None) where
    both : ((is_input_state N A && is_input_state N B) ≡ true) × (is_key_state N q ≡ true)
    unfolding state_number
    both = passed (is_input_state N A && is_input_state N B) (is_key_state N q) e

    pub inputs_told : (is_input_state N A && is_input_state N B) ≡ true
    inputs_told = both.0

    pub key_told : is_key_state N q ≡ true
    key_told = both.1

    pub old_clean : Clean N A q
    old_clean = record { input = ltb-true _ _ (and_left (is_input_state N A) (is_input_state N B) inputs_told); key = ltb-true _ _ key_told }

    pub new_clean : Clean N B q
    new_clean = record { input = ltb-true _ _ (and_right (is_input_state N A) (is_input_state N B) inputs_told); key = ltb-true _ _ key_told }
