-- `signal_places::store_row` meets its contract: the row of a lower vertex of the component, or a count of the component's flags. Assumes nothing.
use Prim.Native.Nat.{◌<◌}
use native.Mathlib.Omega.{arith}
use mathlib.Core.Path.{◌∙◌}
use mathlib.Core.Logic.{⊎_elim}
use Rattle.net.specs.Component.{SameComponent}
use Rattle.net.proofs.Members.{lowest_member_lem}
use Rattle.excitations.proofs.PlaceLaws.{row-counted, row_shared}
use Rattle.signal_places.proofs.store_row.Goals as goal
use Rattle.signal_places.proofs.store_row.Goals.{Then-x-y}

-- x is a lower vertex of y's component
lower : (c : Then-x-y) → (let a = c.args in (c.lowest_member-x.result < a.y) × SameComponent a.graph.now.net a.y c.lowest_member-x.result)
lower c =
    let x = c.lowest_member-x.ensures in
    rw x (⊎_elim (λ q. absurd (c.if-x-y.true (x ∙ q))) (λ m. m) (lowest_member_lem c.args.graph.now.net c.args.graph.now.prepared c.args.y c.requires.1 c.requires.0))

pub copy_row-requires : goal.copy_row-requires
copy_row-requires c =
    (c.requires.2, omega (arith, lower (goal.at.copy_row-requires c).Then-x-y), c.requires.1)

pub returns-then-x-y : goal.returns-then-x-y
returns-then-x-y c =
    let l = lower (goal.at.returns-then-x-y c).Then-x-y in
    c.copy_row.ensures ∙ row_shared c.args.graph.now.net _ l.1 (λ k h. c.requires.3 _ k l.1.to l.0 h)

pub returns : goal.returns
returns c =
    c.place_row.ensures ∙ row-counted c.args.graph.now.net c.args.y _ c.signal_flags-flags.ensures
