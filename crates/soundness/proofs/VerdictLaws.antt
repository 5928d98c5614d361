-- The verdict: 0 exactly for a valid record whose net is well formed, else the number of the first condition broken, with the lowest offender.
use Prim.Native.Nat.{ℕ, ◌≤◌}
use native.Mathlib.Omega.{arith}
use mathlib.Core.Path.{◌≡◌, refl, ap}
use mathlib.Core.Bool.{Bool, true, false, not}
use mathlib.Core.Logic.Iff
use mathlib.Core.Logic.{◌↔◌, ◌≢◌}
use mathlib.Core.List.{[], ◌∷◌}
use mathlib.Core.Option.{Option, none, some}
use borrow.Author.Tests.{not-true, not-false}
use Rattle.ternary.proofs.Tests.{fails, not_both}
use Rattle.net.specs.declared.Net.{Net}
use Rattle.net.specs.WellFormed.{C1, C2, WellFormed, LowestC1, LowestC3, test_c2}
use Rattle.net.proofs.WellFormed.{place_c1_none, place_c1_some, c2_iff, place_c3_none, place_c3_some}
use Rattle.sheet.specs.declared.Answer.{Answer}
use Rattle.sheet.specs.Rows.{row, when, answer, answered, first_row, First, NoRow}
use Rattle.sheet.specs.Valid.{valid}
use Rattle.sheet.proofs.RowLaws.{positive, answered_zero, answered_some, when_none, when_some}
use Rattle.soundness.specs.Verdict.{verdict_rows, verdict_of}

module _ (N : Net) where
  -- ---- by rows

  pub verdict_zero : ((verdict_of N).number ≡ 0) ↔ NoRow (verdict_rows N)
  unfolding verdict_of verdict_rows positive
  verdict_zero = answered_zero (verdict_rows N) refl

  pub verdict_number : (n p : ℕ) → 1 ≤ n → (verdict_of N ≡ answer n p) ↔ First (verdict_rows N) n p
  unfolding verdict_of
  verdict_number = answered_some (verdict_rows N)

-- ---- what each verdict says

-- the answer of the four rows, by their places
abbrev four : Option ℕ → Option ℕ → Option ℕ → Option ℕ → Answer
four a b c d = answered (first_row (row 41 a ∷ row 31 b ∷ row 32 c ∷ row 33 d ∷ []))

four_0 : (a b c d : Option ℕ) → ((four a b c d).number ≡ 0) ↔ ((a ≡ none) × (b ≡ none) × (c ≡ none) × (d ≡ none))
unfolding first_row
four_0 a b c d = (there a b c d, λ h. rw (h.0, h.1, h.2, h.3))
  where
    there : (a b c d : Option ℕ) → (four a b c d).number ≡ 0 → (a ≡ none) × (b ≡ none) × (c ≡ none) × (d ≡ none)
    there (some x) b c d e = absurd (omega arith)
    there none (some x) c d e = absurd (omega arith)
    there none none (some x) d e = absurd (omega arith)
    there none none none (some x) e = absurd (omega arith)
    there none none none none e = (refl, refl, refl, refl)

module _ (v : ℕ) where
  -- two answers with different numbers
  differ : {A : Type 0} (m n p : ℕ) → m ≢ n → answer m p ≡ answer n v → A
  differ m n p ne e = absurd (ne (ap (λ (x : Answer). x.number) e))

  four_31 : (a b c d : Option ℕ) → (four a b c d ≡ answer 31 v) ↔ ((a ≡ none) × (b ≡ some v))
  unfolding first_row
  four_31 a b c d = (there a b c d, λ h. rw (h.0, h.1))
    where
      there : (a b c d : Option ℕ) → four a b c d ≡ answer 31 v → (a ≡ none) × (b ≡ some v)
      there (some x) b c d e = differ 41 31 x (omega arith) e
      there none (some x) c d e = (refl, ap (λ (y : Answer). some y.place) e)
      there none none (some x) d e = differ 32 31 x (omega arith) e
      there none none none (some x) e = differ 33 31 x (omega arith) e
      there none none none none e = differ 0 31 0 (omega arith) e

  four_32 : (a b c d : Option ℕ) → (four a b c d ≡ answer 32 v) ↔ ((a ≡ none) × (b ≡ none) × (c ≡ some v))
  unfolding first_row
  four_32 a b c d = (there a b c d, λ h. rw (h.0, h.1, h.2))
    where
      there : (a b c d : Option ℕ) → four a b c d ≡ answer 32 v → (a ≡ none) × (b ≡ none) × (c ≡ some v)
      there (some x) b c d e = differ 41 32 x (omega arith) e
      there none (some x) c d e = differ 31 32 x (omega arith) e
      there none none (some x) d e = (refl, refl, ap (λ (y : Answer). some y.place) e)
      there none none none (some x) e = differ 33 32 x (omega arith) e
      there none none none none e = differ 0 32 0 (omega arith) e

  four_33 : (a b c d : Option ℕ) → (four a b c d ≡ answer 33 v) ↔ ((a ≡ none) × (b ≡ none) × (c ≡ none) × (d ≡ some v))
  unfolding first_row
  four_33 a b c d = (there a b c d, λ h. rw (h.0, h.1, h.2, h.3))
    where
      there : (a b c d : Option ℕ) → four a b c d ≡ answer 33 v → (a ≡ none) × (b ≡ none) × (c ≡ none) × (d ≡ some v)
      there (some x) b c d e = differ 41 33 x (omega arith) e
      there none (some x) c d e = differ 31 33 x (omega arith) e
      there none none (some x) d e = differ 32 33 x (omega arith) e
      there none none none (some x) e = (refl, refl, refl, ap (λ (y : Answer). some y.place) e)
      there none none none none e = differ 0 33 0 (omega arith) e

-- a row that asks for a test to fail does not hold where the test passes, and holds with place 0 where it fails
asks_none : (b : Bool) → (when (not b) ≡ none) ↔ (b ≡ true)
asks_none b = Iff.trans (when_none (not b)) (not-false b, λ e. rw e)

asks_some : (b : Bool) (p : ℕ) → (when (not b) ≡ some p) ↔ ((b ≡ false) × (p ≡ 0))
asks_some b p = Iff.trans (when_some (not b) p) (λ h. (not-true b h.0, h.1), λ h. (rw h.0, h.1))

module _ (N : Net) where
  -- 0: a valid record of a net that is well formed
  pub verdict_0 : ((verdict_of N).number ≡ 0) ↔ ((valid N ≡ true) × WellFormed N)
  unfolding verdict_of verdict_rows
  verdict_0 = Iff.trans (four_0 _ _ _ _) (
    λ h. (
      (asks_none (valid N)).0 h.0,
      record { c1 = (place_c1_none N).0 h.1; c2 = (c2_iff N).0 ((asks_none (test_c2 N)).0 h.2); c3 = (place_c3_none N).0 h.3 },
    ),
    λ h. ((asks_none (valid N)).1 h.0, (place_c1_none N).1 h.1.c1, (asks_none (test_c2 N)).1 ((c2_iff N).1 h.1.c2), (place_c3_none N).1 h.1.c3),
  )

  -- 31: C1 is broken, at the lowest offending key vertex
  pub verdict_31 : (v : ℕ) → (verdict_of N ≡ answer 31 v) ↔ ((valid N ≡ true) × LowestC1 N v)
  unfolding verdict_of verdict_rows
  verdict_31 v = Iff.trans (four_31 v _ _ _ _) (Iff.and (asks_none (valid N)) (place_c1_some N v))

  -- 32: C1 holds and C2 is broken; the place is 0
  pub verdict_32 : (p : ℕ) → (verdict_of N ≡ answer 32 p) ↔ ((valid N ≡ true) × C1 N × (¬ C2 N) × (p ≡ 0))
  unfolding verdict_of verdict_rows
  verdict_32 p = Iff.trans (four_32 p _ _ _ _) (
    λ h. let t = (asks_some (test_c2 N) p).0 h.2 in
        ((asks_none (valid N)).0 h.0, (place_c1_none N).0 h.1, λ c. not_both (test_c2 N) ((c2_iff N).1 c) t.0, t.1),
    λ h. ((asks_none (valid N)).1 h.0, (place_c1_none N).1 h.1, (asks_some (test_c2 N) p).1 (fails (test_c2 N) (λ t. h.2 ((c2_iff N).0 t)), h.3)),
  )

  -- 33: C1 and C2 hold and C3 is broken, at the lowest offending output
  pub verdict_33 : (y : ℕ) → (verdict_of N ≡ answer 33 y) ↔ ((valid N ≡ true) × C1 N × C2 N × LowestC3 N y)
  unfolding verdict_of verdict_rows
  verdict_33 y = Iff.trans (four_33 y _ _ _ _) (
    λ h. ((asks_none (valid N)).0 h.0, (place_c1_none N).0 h.1, (c2_iff N).0 ((asks_none (test_c2 N)).0 h.2), (place_c3_some N y).0 h.3),
    λ h. ((asks_none (valid N)).1 h.0, (place_c1_none N).1 h.1, (asks_none (test_c2 N)).1 ((c2_iff N).1 h.2), (place_c3_some N y).1 h.3),
  )
