-- Excitations in lanes, from the tables of connections.
use Prim.Native.Nat.{ℕ, suc, ◌*◌, ◌/◌, ◌%◌, ◌<◌}
use mathlib.Core.Path.{◌≡◌, ap, ◌∙◌}
use mathlib.Core.Bool.{cond}
use mathlib.Core.List.{List}
use lib.Dec.{eqb}
use lib.ListN.{get_or}
use Rattle.ternary.specs.Lists.{table}
use Rattle.ternary.proofs.BitLaws.{eqb_digit}
use Rattle.ternary.proofs.ListLaws.{get_or-table, table_ext}
use Rattle.ternary.proofs.Tests.{by_test}
use Rattle.net.specs.declared.Net.{Net}
use Rattle.net.specs.declared.Kind.{Kind}
use Rattle.net.specs.declared.Kind.TheVariants.{Any, NType, PType}
use Rattle.net.specs.Limits.{most_vertices}
use Rattle.net.specs.Graph.{is_storage}
use Rattle.net.specs.Excitation.{connected, excitation_of, excitation}
use Rattle.net.specs.SignalTable.{excitation_at}
use Rattle.lanes.specs.Grid.{grid}
use Rattle.lanes.specs.Lanes.{assignments}
use Rattle.excitations.specs.Connections.{connected_at, connected_lanes}
use Rattle.excitations.specs.Excitations.{excitation_lanes}

module _ (N : Net) where
  -- an entry of a table of connections, as a test
  entry : (k : Kind) (b i : ℕ) → i < suc most_vertices * assignments → eqb (get_or (connected_lanes N k b) i 0) 1 ≡ connected_at N k b (i / assignments) (i % assignments)
  unfolding connected_lanes grid
  entry k b i h = ap (λ (x : ℕ). eqb x 1) (get_or-table (suc most_vertices * assignments) _ i 0 h) ∙ eqb_digit _

  -- the excitation of y at w
  excited_at : (y w : ℕ) → excitation_of (connected_at N NType 0 y w) (connected_at N Any 0 y w) (connected_at N PType 1 y w) (connected_at N Any 1 y w)
      ≡ cond (is_storage N y) (excitation_at N y w) 3
  unfolding connected_at excitation_at excitation connected excitation_of
  excited_at y w = by_test (is_storage N y) (λ s. rw s) (λ s. rw s)

  module _ (n0 c0 p1 c1 : List ℕ) (en0 : n0 ≡ connected_lanes N NType 0) (ec0 : c0 ≡ connected_lanes N Any 0) (ep1 : p1 ≡ connected_lanes N PType 1) (ec1 : c1 ≡ connected_lanes N Any 1) where
    pub excitations_of : table (suc most_vertices * assignments) (λ i. excitation_of (eqb (get_or n0 i 0) 1) (eqb (get_or c0 i 0) 1) (eqb (get_or p1 i 0) 1) (eqb (get_or c1 i 0) 1)) ≡ excitation_lanes N
    unfolding excitation_lanes grid
    excitations_of = table_ext (suc most_vertices * assignments) _ _
        (λ i h. rw (en0, ec0, ep1, ec1, entry NType 0 i h, entry Any 0 i h, entry PType 1 i h, entry Any 1 i h) (excited_at (i / assignments) (i % assignments)))
