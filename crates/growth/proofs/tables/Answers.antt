-- `growth::tables` meets its contract: the tables of the key nodes before k are stored, the rest is zero.
use native.Mathlib.Omega.{arith}
use borrow.Author.Rules.{rules}
use mathlib.Core.Path.{◌≡◌, ◌∙◌}
use Prim.Native.Nat.{◌+◌, ◌*◌, ◌≤◌, ◌<◌}
use lib.ListN.{length}
use Rattle.net.specs.Limits.{most_key_nodes}
use Rattle.net.specs.Graph.{key_count}
use Rattle.lanes.specs.Lanes.{assignments}
use Rattle.growth.proofs.RowLaws.{tables_none, tables_step, row_inside, tables_all}
use Rattle.growth.proofs.tables.Goals as goal
use Rattle.growth.proofs.tables.Goals.{After-wide-from, In-loop-k}

-- the key node of this turn is one of the net
in-range : (c : In-loop-k) → c.loop-k.k < key_count c.args.net
in-range c = omega (arith, c.loop-k-test.true, c.key_count-count.ensures)

-- and there is a row for it
room : (c : In-loop-k) → c.loop-k.k < most_key_nodes
room c = omega (arith, in-range c, c.requires.0.keys)

-- the row of its vertex
row : (c : After-wide-from) → c.wide-from.result * assignments + assignments ≤ length c.args.excitations.now
row c = row_inside _ c.requires.0 c.requires.1 c.requires.2 (in-range (goal.at.After-wide-from c).In-loop-k) c.wide-from.ensures.0

pub loop-k-init : goal.loop-k-init
loop-k-init c = (search rules, tables_none _ _)

pub slice_bounds-grow-end : goal.slice_bounds-grow-end
slice_bounds-grow-end c = omega (arith, row (goal.at.slice_bounds-grow-end c).After-wide-from, c.told-excitations)

pub loop-k-preserved : goal.loop-k-preserved
loop-k-preserved c = (
  omega (arith, c.loop-k-test.true),
  tables_step _ _ (room (goal.at.loop-k-preserved c).In-loop-k) c.wide-from.ensures.0 c.grow.auto.out c.grow.ensures c.loop-k.invariant.1,
)

pub returns : goal.returns
returns c =
    let q : c.loop-k.k ≡ key_count c.args.net = omega (arith, c.key_count-count.ensures) in
    rw q at c.loop-k.invariant.1 ∙ tables_all c.args.net c.requires.0 c.requires.1 c.requires.2
