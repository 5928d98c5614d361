-- `graph::key_flags` meets its contract: the flags are those of the key nodes that the edges so far show. Assumes nothing.
use native.Mathlib.Omega.{arith}
use borrow.Author.Rules.{rules}
use mathlib.Core.Path.{◌≡◌, ap, ◌∙◌}
use Prim.Native.Nat.{◌≤◌}
use lib.ListN.{length-take}
use Rattle.net.specs.Limits.{most_vertices}
use Rattle.net.specs.Graph.{edge_at}
use Rattle.net.specs.Symbols.{decode}
use Rattle.net.specs.Tables.{vertex_of}
use Rattle.net.proofs.InUse.{edge_read}
use Rattle.net.proofs.TableLaws.{storage_read}
use Rattle.net.proofs.KeyFlags.{vertex_of_range, keys_none, key_step, keys_all}
use Rattle.graph.proofs.key_flags.Goals as goal
use Rattle.graph.proofs.key_flags.Goals.{After-vertex_of-v}

-- the vertex of this turn's symbol
marks : (c : After-vertex_of-v) → c.vertex_of-v.result ≡ vertex_of (decode (edge_at c.args.net c.loop-edge.edge-index).symbol)
marks c = c.vertex_of-v.ensures ∙ ap vertex_of (rw (edge_read c.args.net c.loop-edge-test.true) at c.from.ensures)

in_table : (c : After-vertex_of-v) → c.vertex_of-v.result ≤ most_vertices
in_table c = rw (marks c) (vertex_of_range _)

pub loop-edge-init : goal.loop-edge-init
loop-edge-init c = (search rules, keys_none _)

pub bounds-storage-v : goal.bounds-storage-v
bounds-storage-v c = omega (arith, in_table (goal.at.bounds-storage-v c).After-vertex_of-v)

pub bounds-keys-v : goal.bounds-keys-v
bounds-keys-v c = omega (arith, in_table (goal.at.bounds-keys-v c).After-vertex_of-v)

pub loop-edge-preserved : goal.loop-edge-preserved
loop-edge-preserved c = (
  search rules,
  rw (marks (goal.at.loop-edge-preserved c).After-vertex_of-v)
      (key_step c.args.net c.requires.0.vertices c.loop-edge.edge-index _ c.loop-edge.invariant.1
      (storage_read c.args.net c.args.storage.now c.requires.1 _ (vertex_of_range _))),
)

pub returns : goal.returns
returns c =
    let q : c.loop-edge.edge-index ≡ c.args.net.edge_count = omega (arith, length-take c.args.net.edge_count c.args.net.edges) in
    keys_all _ (rw q at c.loop-edge.invariant.1)
