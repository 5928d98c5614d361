-- A call whose rows all have place 0 need only tell its number.
use Prim.Native.Nat.{ℕ, ◌≤◌}
use mathlib.Core.Path.{◌≡◌, ap, subst, ◌∙◌}
use mathlib.Core.Bool.{Bool}
use mathlib.Core.Logic.{◌↔◌}
use mathlib.Core.List.{List, [], ◌∷◌}
use Rattle.sheet.specs.declared.Answer.{Answer}
use Rattle.sheet.specs.Rows.{answer, Row, row, when, First, NoRow}
use Rattle.sheet.specs.Rows.First.{here, later}
use Rattle.sheet.proofs.RowLaws.{when_some}
use Rattle.demands.specs.Demand1.{Answers}

pub data Unplaced : List Row → Type 0 where
  no_row : Unplaced []
  a_row : {n : ℕ} {rows : List Row} (condition : Bool) → Unplaced rows → Unplaced (row n (when condition) ∷ rows)

place_0 : {rows : List Row} {n p : ℕ} → Unplaced rows → First rows n p → p ≡ 0
place_0 no_row none = elim none [ ]
place_0 (a_row b u) (here {p = p} e) = ((when_some b p).0 e).1
place_0 (a_row b u) (later _ f) = place_0 u f

pub by_number : {rows : List Row} (number : ℕ) → Unplaced rows → ((number ≡ 0) ↔ NoRow rows)
    → ((n : ℕ) → 1 ≤ n → (number ≡ n) ↔ ((p : ℕ) × First rows n p)) → Answers rows (answer number 0)
by_number {rows} number u zero row_of = record {
  fit = zero;
  wrong = λ n p h. (there n p h, λ f. let e = (row_of n h).1 (p, f) in let o = place_0 u f in cc);
}
  where
    there : (n p : ℕ) → 1 ≤ n → answer number 0 ≡ answer n p → First rows n p
    there n p h e =
        let f = (row_of n h).0 (ap (λ (a : Answer). a.number) e) in
        subst (First rows n) (place_0 u f.1 ∙ ap (λ (a : Answer). a.place) e) f.1
