-- A loop over the places of a record that are in use: the first n of a list. Assumes nothing.
use mathlib.Core.Path.{◌≡◌}
use mathlib.Core.List.{List}
use Prim.Native.Nat.{ℕ, ◌<◌, ◌≤◌}
use native.Mathlib.Omega.{arith}
use lib.ListN.{length, take, get_or, length-take}
use lib.Seq.{get_or-take}
use Rattle.net.specs.declared.Net.{Net}
use Rattle.net.specs.Limits.{most_vertices}
use Rattle.net.specs.Graph.{no_edge, edge_at}
use Rattle.net.specs.Tables.{Readable}

pub in_use : {X : Type 0} (n : ℕ) (xs : List X) {i : ℕ} → i < length (take n xs) → i < n
in_use n xs h = omega (arith, length-take n xs)

module _ (N : Net) where
  pub edge_read : {i : ℕ} → i < length (take N.edge_count N.edges) → get_or (take N.edge_count N.edges) i no_edge ≡ edge_at N i
  unfolding edge_at
  edge_read {i} h = get_or-take N.edge_count N.edges i no_edge (in_use N.edge_count N.edges h)

  -- the ends of an edge in use
  pub ends_read : Readable N → {i : ℕ} → i < length (take N.edge_count N.edges)
      → (let e = get_or (take N.edge_count N.edges) i no_edge in (e.end1 ≤ most_vertices) × (e.end2 ≤ most_vertices))
  ends_read r {i} h = rw (edge_read h) (r.first_end i (in_use N.edge_count N.edges h), r.second_end i (in_use N.edge_count N.edges h))
