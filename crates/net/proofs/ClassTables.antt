-- Labels of classes as the code's tables have them: one edge more, and tables longer than the vertices in use.
use mathlib.Core.Path.{◌≡◌, refl, ap, ◌∙◌}
use mathlib.Core.Bool.{Bool, true, false}
use mathlib.Core.List.{List, ◌∷◌}
use Prim.Native.Nat.{ℕ, zero, suc, ◌+◌, ◌<◌, ◌≤◌}
use native.Mathlib.Nat.{not-suc-le-zero, le_of_suc-le-suc}
use native.Mathlib.Numerals.{add-one}
use native.Mathlib.Omega.{arith}
use lib.ListN.{length, take, length-map}
use Rattle.ternary.specs.Lists.{table}
use Rattle.ternary.proofs.Tests.{by_test}
use Rattle.ternary.proofs.ListLaws.{length-table}
use Rattle.net.specs.Classes.{merge, classes}
use Rattle.net.proofs.Classes.{take-merge}

module _ (m : ℕ) (u v : ℕ → ℕ) (on : ℕ → Bool) where
  -- one edge more, which counts or does not
  pub classes-on : (n : ℕ) → on n ≡ true → merge (u n) (v n) (classes m u v on n) ≡ classes m u v on (n + 1)
  unfolding classes
  classes-on n e = rw (add-one, e)

  pub classes_off : (n : ℕ) → on n ≡ false → classes m u v on n ≡ classes m u v on (n + 1)
  unfolding classes
  classes_off n e = rw (add-one, e)

  pub length-classes : (n : ℕ) → length (classes m u v on n) ≡ m
  unfolding classes merge
  length-classes zero = length-table m (λ x. x)
  length-classes (suc n) = by_test (on n) (λ e. rw (e, length-map) (length-classes n)) (λ e. rw e (length-classes n))

pub take-table : {A : Type 0} (m n : ℕ) (f : ℕ → A) → m ≤ n → take m (table n f) ≡ table m f
unfolding table
take-table zero n f h = refl
take-table (suc m) zero f h = absurd (not-suc-le-zero h)
take-table {A} (suc m) (suc n) f h = ap (λ (l : List A). f 0 ∷ l) (take-table m n (λ k. f (suc k)) (le_of_suc-le-suc h))

-- the first m labels of a longer table are those of a table of m, if the edges that count join numbers below m
module _ (m M : ℕ) (u v : ℕ → ℕ) (on : ℕ → Bool) (short : m ≤ M) where
  pub take-classes : (n : ℕ) → ((i : ℕ) → i < n → on i ≡ true → u i < m) → ((i : ℕ) → i < n → on i ≡ true → v i < m)
      → take m (classes M u v on n) ≡ classes m u v on n
  unfolding classes
  take-classes zero hu hv = take-table m M (λ x. x) short
  take-classes (suc n) hu hv =
      go (take-classes n (λ i l. hu i (omega arith)) (λ i l. hv i (omega arith)))
    where
      go : take m (classes M u v on n) ≡ classes m u v on n → take m (classes M u v on (suc n)) ≡ classes m u v on (suc n)
      go ih = by_test (on n)
          (λ e. rw e (take-merge m (u n) (v n) (classes M u v on n) (hu n (omega arith) e) (hv n (omega arith) e) ∙ ap (merge (u n) (v n)) ih))
          (λ e. rw e ih)
