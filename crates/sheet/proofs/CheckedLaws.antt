-- What a checked record offers to the functions over its graph.
use Prim.Native.Nat.{ℕ, ◌<◌}
use native.Mathlib.Omega.{arith}
use Rattle.net.specs.declared.Net.{Net}
use Rattle.net.specs.Graph.{edge_at}
use Rattle.net.specs.Tables.{Readable}
use Rattle.sheet.specs.Checked.{Checked}
use Rattle.sheet.specs.EdgeNumbers.{InRange}
use Rattle.sheet.proofs.RuleLaws.{Counts, counts_facts, EdgeRange, edge_range}

module _ (N : Net) (c : Checked N) where
  pub checked_counts : Counts N.vertex_count N.edge_count N.letter_count
  checked_counts = counts_facts _ _ _ c.counts

  pub checked-edge : (i : ℕ) → i < N.edge_count → EdgeRange N (edge_at N i)
  checked-edge i h = edge_range N (edge_at N i) (c.edges i h)

  pub checked_range : (i : ℕ) → i < N.edge_count → InRange (edge_at N i)
  checked_range i h =
      let n = checked_counts in
      let r = checked-edge i h in
      record { end1 = omega arith; end2 = omega arith; symbol = r.symbol; form = omega arith }

  pub checked_readable : Readable N
  checked_readable =
      let n = checked_counts in
      record {
        vertices = n.vertices;
        edges = n.edges;
        first_end = λ i h. let r = checked-edge i h in omega arith;
        second_end = λ i h. let r = checked-edge i h in omega arith;
      }
