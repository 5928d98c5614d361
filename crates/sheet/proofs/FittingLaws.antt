-- Every place of a list fits exactly if all in use are allowed and all others unused. Over any element type.
use Prim.Native.Nat.{ℕ, ◌-◌, ◌+◌, ◌≤◌, ◌<◌}
use native.Mathlib.Omega.{arith}
use mathlib.Core.Path.{◌≡◌, sym, ap, ◌∙◌}
use mathlib.Core.Bool.{Bool, true, ◌&&◌}
use mathlib.Core.List.{List}
use lib.Dec.{ltb}
use lib.ListN.{length, take, drop, get_or, length-drop}
use lib.Seq.{get_or-take, get_or-drop, length-take-le}
use borrow.Author.Tests.{ltb-true, ltb-false, lt-ltb, le-ltb}
use Rattle.ternary.specs.Lists.{all_below}
use Rattle.ternary.proofs.ListLaws.{all_at, all_of_lem}
use Rattle.ternary.proofs.Tests.{ands, both, by_test, same_test}
use Rattle.sheet.specs.Valid.{all_of}
use Rattle.sheet.specs.SheetRows.{placed}
use Rattle.sheet.specs.Fitting.{fits}
use Rattle.sheet.proofs.Places.{all_get_d, all_listed, all_taken}
use Rattle.sheet.proofs.PlacedLaws.{length-placed, placed_at}

module _ {A : Type 0} (p q : A → Bool) (z : A) (n count : ℕ) (l : List A) (size : length l ≡ n) (few : count ≤ n) where
  in_use : all_below n (fits p q count l z) ≡ true → all_of p (take count l) ≡ true
  in_use t =
      all_listed p (take count l) z
      (λ i h.
      let low : i < count = omega (arith, length-take-le count l (rw size few)) in
      rw (get_or-take count l i z low) (rw (lt-ltb i count low) at (all_at (fits p q count l z) n t i (omega arith))))

  unused : all_below n (fits p q count l z) ≡ true → all_of q (drop count l) ≡ true
  unused t =
      all_listed q (drop count l) z
      (λ i h.
      rw (get_or-drop count l i z)
      (rw (le-ltb (count + i) count (omega arith)) at (all_at (fits p q count l z) n t (count + i) (omega (arith, length-drop count l)))))

  fitting : all_of p (take count l) ≡ true → all_of q (drop count l) ≡ true → all_below n (fits p q count l z) ≡ true
  fitting used rest =
      all_of_lem (fits p q count l z) n
      (λ i h. by_test (ltb i count)
      (λ low. rw low (all_taken p count l z i used (rw size few) (ltb-true i count low)))
      (λ high.
      let from = ltb-false i count high in
      let place : count + (i - count) ≡ i = omega arith in
      let at_rest = rw (get_or-drop count l (i - count) z) at (all_get_d q (drop count l) z (i - count) rest (omega (arith, length-drop count l))) in
      rw high (sym (ap (λ (k : ℕ). q (get_or l k z)) place) ∙ at_rest)))

  pub all_fit : all_below n (fits p q count l z) ≡ (all_of p (take count l) && all_of q (drop count l))
  all_fit = same_test _ _ (λ t. both (in_use t) (unused t)) (λ t. fitting (search ands) (search ands))

-- places of which those in use are allowed
pub placed_fit : {A : Type 0} (p q : A → Bool) (z : A) (n count : ℕ) (f : ℕ → A) → count ≤ n → ((i : ℕ) → i < count → p (f i) ≡ true) → q z ≡ true
    → (all_of p (take count (placed n count f z)) && all_of q (drop count (placed n count f z))) ≡ true
placed_fit p q z n count f few allowed unused =
    sym (all_fit p q z n count (placed n count f z) (length-placed n f z count) few)
    ∙ all_of_lem _ n (λ i h. by_test (ltb i count)
    (λ low. rw (placed_at n f z count i h, low) (allowed i (ltb-true i count low)))
    (λ high. rw (placed_at n f z count i h, high) unused))
