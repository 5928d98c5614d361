-- `c1::breaks` meets its contract: the part of the table that it hands on is row y. Assumes nothing.
use Prim.Native.Nat.{ℕ, zero, suc, ◌+◌, ◌-◌, ◌*◌, ◌≤◌}
use native.Mathlib.Numerals.{add-one}
use native.Mathlib.Omega.{arith}
use mathlib.Core.Path.{◌≡◌, refl, sym, ap, ap₂, ◌∙◌}
use mathlib.Core.Bool.{Bool, ◌||◌}
use mathlib.Core.List.{List}
use lib.Dec.{leb}
use lib.ListN.{length, take, drop, get_or, length-drop}
use borrow.Author.Tests.{eq-eqb}
use Rattle.std.specs.List.{list_any}
use Rattle.std.proofs.lemmas.List.{get_or-drop}
use Rattle.std.proofs.lemmas.List.Folds.{list_any_more}
use Rattle.ternary.specs.Lists.{any_below}
use Rattle.lanes.specs.Lanes.{assignments}
use Rattle.c1.proofs.breaks.Goals as goal

-- does some entry of a part of a list pass a test?
any_part : (p : ℕ → Bool) (xs : List ℕ) (a n : ℕ) → a + n ≤ length xs → list_any p (take n (drop a xs)) ≡ any_below n (λ w. p (get_or xs (a + w) 0))
unfolding any_below
any_part p xs a zero h = refl
any_part p xs a (suc n) h =
    ap (λ (k : ℕ). list_any p (take k (drop a xs))) (sym (add-one n))
    ∙ list_any_more p (drop a xs) n 0 (omega (arith, length-drop a xs))
    ∙ ap₂ (λ (s t : Bool). s || t) (any_part p xs a n (omega arith)) (ap p (get_or-drop a xs n 0))

pub returns-then-key-eq1 : goal.returns-then-key-eq1
returns-then-key-eq1 c =
    let a : ℕ = c.args.y * assignments in
    let size : a + assignments - a ≡ assignments = omega arith in
    c.row_breaks.ensures ∙ ap (λ (k : ℕ). list_any (leb 2) (take k (drop a c.args.excitations.now))) size
    ∙ any_part (leb 2) c.args.excitations.now a assignments (omega arith)
    ∙ sym (rw (eq-eqb _ _ c.if-key-eq1.true))
