-- The cases that are left after each turn.
use Prim.Native.Nat.{ℕ, zero, suc, ◌-◌, ◌≤◌, ◌<◌}
use native.Mathlib.Omega.{arith}
use mathlib.Core.Path.{◌≡◌, refl, sym, ap, ◌∙◌}
use mathlib.Core.Bool.{cond}
use mathlib.Core.Logic.{◌≢◌}
use mathlib.Core.List.{List, [], ◌∷◌}
use lib.Dec.{ltb, eqb}
use lib.ListN.{length}
use borrow.Author.Tests.{lt-ltb, le-ltb, ltb-true, ltb-false, eq-eqb, ne_eqb}
use Rattle.std.specs.List.{All}
use Rattle.std.proofs.lemmas.List.Elements.{All-nil, All-cons}
use Rattle.ternary.proofs.Tests.{by_test}
use Rattle.cases.specs.Input.{next_of}
use Rattle.cases.specs.Turns.{note, kind_at, brought, turns_from, turns}
use Rattle.cases.proofs.InputLaws.{next_less}

module _ (b : List ℕ) (brings : ℕ) where
  -- all turns, as those that are left at the start
  pub turns_all : turns_from b brings (length b - 0) 0 0 ≡ turns b brings
  unfolding turns
  turns_all = ap (λ (n : ℕ). turns_from b brings n 0 0) (omega arith)

  -- no turn is left at the end
  pub turns_end : (most at from : ℕ) → length b ≤ at → turns_from b brings most at from ≡ []
  unfolding turns_from
  turns_end zero at from h = refl
  turns_end (suc most) at from h = rw (le-ltb at (length b) h)

  -- one turn
  abbrev step : ℕ → ℕ → List (ℕ × ℕ) → List (ℕ × ℕ)
  step at last rest = cond (eqb (kind_at b at) note) rest ((at, last) ∷ rest)

  turns_step : (most at from : ℕ) → at < length b
      → turns_from b brings (suc most) at from ≡ step at (brought b brings at from) (turns_from b brings most (next_of b at) (brought b brings at from))
  unfolding turns_from
  turns_step most at from h = rw (lt-ltb at (length b) h)

  -- so many turns as reach the end are all
  turns_same : (m n at from : ℕ) → length b - at ≤ m → length b - at ≤ n → turns_from b brings m at from ≡ turns_from b brings n at from
  turns_same zero n at from h k = turns_end zero at from (omega arith) ∙ sym (turns_end n at from (omega arith))
  turns_same (suc m) zero at from h k = turns_end (suc m) at from (omega arith) ∙ sym (turns_end zero at from (omega arith))
  turns_same (suc m) (suc n) at from h k =
      by_test (ltb at (length b))
      (λ t. let more = ltb-true at (length b) t in
      let less = next_less b at more in
      turns_step m at from more
      ∙ ap (step at (brought b brings at from)) (turns_same m n (next_of b at) (brought b brings at from) (omega arith) (omega arith))
      ∙ sym (turns_step n at from more))
      (λ t. let done = ltb-false at (length b) t in turns_end (suc m) at from done ∙ sym (turns_end (suc n) at from done))

  -- what is left at a place, by its case
  turn : (n at from : ℕ) → length b - at ≡ n → at < length b
      → turns_from b brings n at from
      ≡ step at (brought b brings at from) (turns_from b brings (length b - next_of b at) (next_of b at) (brought b brings at from))
  turn zero at from e h = absurd (omega arith)
  turn (suc n) at from e h =
      let less = next_less b at h in
      turns_step n at from h
      ∙ ap (step at (brought b brings at from))
      (turns_same n (length b - next_of b at) (next_of b at) (brought b brings at from) (omega arith) (omega arith))

  -- what holds of the cases that are left, by the case at a place
  module _ (P : ℕ × ℕ → Type 0) where
    pub all_end : (most at from : ℕ) → length b ≤ at → All P (turns_from b brings most at from)
    all_end most at from h = rw (turns_end most at from h) (All-nil P)

    module _ (at from next last : ℕ) (h : at < length b) (goes : next ≡ next_of b at) (brought_is : last ≡ brought b brings at from)
        (rest : All P (turns_from b brings (length b - next) next last)) where
      now : All P (turns_from b brings (length b - next_of b at) (next_of b at) (brought b brings at from))
      now = rw (goes, brought_is) at rest

      pub all_note : kind_at b at ≡ note → All P (turns_from b brings (length b - at) at from)
      all_note e = rw (turn (length b - at) at from refl h, eq-eqb (kind_at b at) note e) now

      pub all_answer : kind_at b at ≢ note → P (at, last) → All P (turns_from b brings (length b - at) at from)
      all_answer e p = rw (turn (length b - at) at from refl h, ne_eqb (kind_at b at) note e) (All-cons P (at, brought b brings at from) _ (rw brought_is at p) now)
