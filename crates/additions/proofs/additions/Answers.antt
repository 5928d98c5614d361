-- `additions::additions` meets its contract: the columns of the key nodes before k are stored.
use native.Mathlib.Omega.{arith}
use borrow.Author.Rules.{rules}
use mathlib.Core.Path.{◌≡◌, ap, ◌∙◌}
use mathlib.Core.Bool.{true}
use Prim.Native.Nat.{◌*◌, ◌<◌}
use lib.ListN.{length, get_or}
use Rattle.ternary.specs.TruthTable.{signal_kinds}
use Rattle.net.specs.Limits.{most_key_nodes}
use Rattle.net.specs.Graph.{is_storage, key_count, key_vertex}
use Rattle.states.specs.Weights.{variables}
use Rattle.states.proofs.WeightLaws.{weights_bound}
use Rattle.states.proofs.KeyRowLaws.{key_vertex_read, key_vertex_storage}
use Rattle.lookups.proofs.AdditionLaws.{length-columns, columns_none, columns-step, columns_all}
use Rattle.additions.proofs.additions.Goals as goal
use Rattle.additions.proofs.additions.Goals.{At-loop-k, In-loop-k}

in-range : (c : In-loop-k) → c.loop-k.k < key_count c.args.tables.now.graph.net
in-range c = omega (arith, c.loop-k-test.true, c.key_count-count.ensures)

-- the key node of this turn
vertex : (c : In-loop-k) → get_or c.args.tables.now.keys c.loop-k.k 0 ≡ key_vertex c.args.tables.now.graph.net c.loop-k.k
vertex c = key_vertex_read _ c.args.tables.now.fit c.loop-k.k c.args.tables.now.keyed (in-range c)

storage : (c : In-loop-k) → is_storage c.args.tables.now.graph.net (get_or c.args.tables.now.keys c.loop-k.k 0) ≡ true
storage c = rw (vertex c) (key_vertex_storage _ c.args.tables.now.fit c.loop-k.k (in-range c))

size : (c : At-loop-k) → length c.loop-k.sums ≡ variables * signal_kinds * most_key_nodes
size c = ap length c.loop-k.invariant.1 ∙ length-columns _ _

pub loop-k-init : goal.loop-k-init
loop-k-init c = (search rules, columns_none _)

pub weights_in-list-requires : goal.weights_in-list-requires
weights_in-list-requires c = (storage (goal.at.weights_in-list-requires c).In-loop-k, omega arith)

pub addition_column-requires : goal.addition_column-requires
addition_column-requires c = (
  size (goal.at.addition_column-requires c).At-loop-k,
  omega (arith, in-range (goal.at.addition_column-requires c).In-loop-k, c.args.tables.now.fit.keys),
  rw c.weights_in-list.ensures (weights_bound signal_kinds _ _ (omega arith) c.args.tables.now.fit (storage (goal.at.addition_column-requires c).In-loop-k)),
)

pub loop-k-preserved : goal.loop-k-preserved
loop-k-preserved c = (
  omega (arith, in-range (goal.at.loop-k-preserved c).In-loop-k),
  columns-step _ _ (vertex (goal.at.loop-k-preserved c).In-loop-k) c.weights_in-list.ensures c.loop-k.invariant.1 c.addition_column.ensures,
)

pub returns : goal.returns
returns c =
    let l = c.loop-k in
    let q : l.k ≡ key_count c.args.tables.now.graph.net = omega (arith, c.key_count-count.ensures) in
    rw q at l.invariant.1 ∙ columns_all _
