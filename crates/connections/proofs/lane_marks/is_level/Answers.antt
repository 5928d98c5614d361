-- `lane_marks::is_level` meets its contract: found tells whether a lane before w differs. Assumes nothing.
use native.Mathlib.Omega.{arith}
use borrow.Author.Rules.{rules}
use mathlib.Core.Path.{◌≡◌, refl}
use Rattle.ternary.specs.Lists.{any_below}
use Rattle.ternary.proofs.BitLaws.{any_noted}
use Rattle.lanes.specs.Lanes.{assignments}
use Rattle.lanes.proofs.LaneLaws.{found-level}
use Rattle.connections.proofs.lane_marks.is_level.Goals as goal

pub loop-w-init : goal.loop-w-init
unfolding any_below
loop-w-init c = (search rules, refl)

pub loop-w-preserved : goal.loop-w-preserved
loop-w-preserved c =
    let e = c.loop-w.invariant.1 in
    (search rules, any_noted _ _ e c.gap-found.ensures)

pub returns : goal.returns
returns c =
    let l = c.loop-w in
    let q : l.w ≡ assignments = omega arith in
    found-level _ _ _ _ _ (rw q at l.invariant.1)
