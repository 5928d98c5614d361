-- The flags that pass the filter are those that the specification counts by their places.
use Prim.Native.Nat.{ℕ, zero, suc, ◌≤◌, ◌<◌, ◌+◌}
use native.Mathlib.Numerals.{add-one}
use native.Mathlib.Omega.{arith}
use mathlib.Core.Path.{◌≡◌, refl, sym, ap, ◌∙◌}
use mathlib.Core.Bool.{Bool}
use mathlib.Core.List.{List}
use lib.Dec.{eqb}
use lib.ListN.{length, get_or, take}
use lib.Seq.{take-length}
use borrow.Author.Rules.{rules}
use Rattle.std.specs.List.{count_by}
use Rattle.std.proofs.lemmas.List.Sums.{count_by_more_yes, count_by_more_no}
use Rattle.ternary.specs.Lists.{count_below}
use Rattle.ternary.proofs.Tests.{by_test}
use Rattle.net.proofs.Counting.{count-on, count_off}
use Rattle.flags.proofs.count_flags.Goals as goal

module _ (p : ℕ → Bool) (xs : List ℕ) where
  abbrev at_place : ℕ → Bool
  at_place k = p (get_or xs k 0)

  -- one more place
  more : (i : ℕ) → i < length xs → count_by p (take i xs) ≡ count_below i at_place → count_by p (take (i + 1) xs) ≡ count_below (i + 1) at_place
  more i h e =
      by_test (at_place i)
      (λ t. count_by_more_yes p xs i 0 h t ∙ ap (λ (n : ℕ). n + 1) e ∙ count-on _ i t)
      (λ t. count_by_more_no p xs i 0 h t ∙ e ∙ count_off _ i t)

  counted : (i : ℕ) → i ≤ length xs → count_by p (take i xs) ≡ count_below i at_place
  unfolding count_below
  counted zero h = refl
  counted (suc i) h = rw (add-one i) at (more i h (counted i (omega arith)))

pub returns : goal.returns
returns c =
    let flags = c.args.flags.now in
    let all : c.count.result ≡ count_by (λ x. eqb x 1) flags = search rules in
    all ∙ ap (count_by (λ x. eqb x 1)) (sym (take-length flags)) ∙ counted (λ x. eqb x 1) flags (length flags) (omega arith)
