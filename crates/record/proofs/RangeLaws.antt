-- A test of all numbers of a range is the specification's test of all numbers below its end.
use Prim.Native.Nat.{ℕ, zero, suc, ◌+◌}
use native.Mathlib.Numerals.{add-one}
use native.Mathlib.Omega.{arith}
use mathlib.Core.Path.{◌≡◌, refl, sym, ap, ap₂, ◌∙◌}
use mathlib.Core.Bool.{Bool, true, false, ◌&&◌}
use mathlib.Core.List.{[], ◌∷◌}
use Rattle.std.specs.List.{list_all, range_with_len}
use Rattle.std.proofs.lemmas.List.Folds.{list_all-append, list_all-map}
use Rattle.std.proofs.lemmas.List.FromFn.{map-range_with_len_more}
use Rattle.ternary.specs.Lists.{all_below}

last : (b : Bool) → (b && true) ≡ b
last true = refl
last false = refl

module _ (p : ℕ → Bool) where
  more : (n : ℕ) → list_all p (range_with_len 0 (n + 1)) ≡ (list_all p (range_with_len 0 n) && p n)
  more n =
      sym (list_all-map p (λ x. x) (range_with_len 0 (n + 1)))
      ∙ ap (list_all p) (map-range_with_len_more (λ x. x) 0 n n (omega arith))
      ∙ list_all-append p _ (n ∷ [])
      ∙ ap₂ ◌&&◌ (list_all-map p (λ x. x) (range_with_len 0 n)) (last (p n))

  pub all_of_range : (n : ℕ) → list_all p (range_with_len 0 n) ≡ all_below n p
  unfolding all_below
  all_of_range zero = refl
  all_of_range (suc n) = rw add-one at (more n) ∙ ap (λ (b : Bool). b && p n) (all_of_range n)
