-- `signal_places::place_row` meets its contract: the entries before s of row y are stored, and the flags before s are counted. Assumes nothing.
use native.Mathlib.Omega.{arith}
use borrow.Author.Rules.{rules}
use mathlib.Core.Path.{refl, ap, ◌∙◌}
use Prim.Native.Nat.{ℕ, ◌+◌}
use borrow.Author.Tests.{eq-eqb, ne_eqb}
use Rattle.ternary.specs.Lists.{count_below}
use Rattle.net.proofs.Counting.{count-on, count_off}
use Rattle.lanes.proofs.GridLaws.{row-start, row_step, row_end}
use Rattle.signal_places.proofs.place_row.Goals as goal
use Rattle.signal_places.proofs.place_row.Goals.{else-flag-eq1, then-flag-eq1}

pub loop-s-init : goal.loop-s-init
unfolding count_below
loop-s-init c = (search rules, search rules, refl, row-start)

pub loop-s-preserved : goal.loop-s-preserved
loop-s-preserved c =
    let e = c.loop-s.invariant.2 in (
      search rules,
      elim c.if-flag-eq1.branch [
        | then-flag-eq1 w ↦ omega arith
        | else-flag-eq1 w ↦ omega arith
      ],
      elim c.if-flag-eq1.branch [
        | then-flag-eq1 w ↦ w.count-is ∙ ap (λ (n : ℕ). n + 1) e ∙ count-on _ _ (eq-eqb _ _ w.if-flag-eq1.true)
        | else-flag-eq1 w ↦ w.count-is ∙ e ∙ count_off _ _ (ne_eqb _ _ w.if-flag-eq1.false)
      ],
      row_step c.loop-s.invariant.3 (omega arith) e,
    )

pub returns : goal.returns
returns c = row_end c.loop-s.invariant.3 (omega arith) (omega arith)
