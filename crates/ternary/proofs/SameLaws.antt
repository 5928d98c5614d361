-- Lists are compared place by place. Assumes nothing.
use Prim.Native.Nat.{ℕ}
use mathlib.Core.Path.{◌≡◌, refl, sym, ap, ◌∙◌}
use mathlib.Core.Bool.{◌&&◌}
use mathlib.Core.List.{List, [], ◌∷◌}
use native.Mathlib.Omega.{arith}
use lib.Dec.{eqb}
use lib.ListN.{length, get_or}
use lib.Pointwise.{pointwise}
use lib.Seq.{ext_get_or}
use borrow.Author.Tests.{eqb-true, eq-eqb}
use Rattle.ternary.specs.Lists.{same, all_below}
use Rattle.ternary.proofs.Tests.{same_test}
use Rattle.ternary.proofs.ListLaws.{same_true, same_refl, all_at, all_of_lem}

pub same_all : (n : ℕ) (l m : List ℕ) → length l ≡ n → length m ≡ n → same l m ≡ all_below n (λ k. eqb (get_or l k 0) (get_or m k 0))
same_all n l m e f = same_test _ _
    (λ t. all_of_lem _ n (λ k _. eq-eqb _ _ (ap (λ (v : List ℕ). get_or v k 0) (same_true l m t))))
    (λ t.
    let equal : l ≡ m = ext_get_or 0 l m (e ∙ sym f) (λ k h. eqb-true _ _ (all_at _ n t k (omega arith))) in
    rw equal (same_refl m))

-- as the code's `==` compares them
pub same_pointwise : (l m : List ℕ) → pointwise eqb l m ≡ same l m
unfolding same
same_pointwise [] [] = refl
same_pointwise [] (y ∷ ys) = refl
same_pointwise (x ∷ xs) [] = refl
same_pointwise (x ∷ xs) (y ∷ ys) = ap (λ b. eqb x y && b) (same_pointwise xs ys)
