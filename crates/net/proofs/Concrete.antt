-- Nets written out, and one name that opens the whole model for computation.
use mathlib.Core.List.{List, ◌++◌}
use Prim.Native.Nat.{ℕ, ◌-◌}
use lib.ListN.{length, replicate}
use Rattle.net.specs.declared.Vertex.{Vertex}
use Rattle.net.specs.declared.Edge.{Edge}
use Rattle.ternary.specs.Bits.{bit}
use Rattle.net.specs.declared.Net.{Net}
use Rattle.ternary.specs.Lists.{table, any_below, all_below, count_below, list_below, least_below}
use Rattle.net.specs.Limits.{most_vertices, most_edges}
use Rattle.net.specs.Symbols.{decode}
use Rattle.net.specs.Graph.{no_vertex, no_edge, vertex_at, edge_at, has_role, is_storage, is_key, key_index, keys, key_count, key_vertex}
use Rattle.net.specs.State.{symbol_value, value, condition_of, condition, usable, conditions, input_of}
use Rattle.net.specs.Classes.{relabel, merge, classes, inner, labels, same_label, exits, leads, reaches}
use Rattle.net.specs.Excitation.{connected_under, connected, excitation_of, excitation, uncertain, edge_fights, vertex_fights, fights}
use Rattle.net.specs.Component.{same_component, carries, gives, is_signal, signals}
use Rattle.ternary.specs.Run.{is_stable}
use Rattle.net.specs.Network.{stable}
use Rattle.net.specs.WellFormed.{every_state, breaks_c1, place_c1, test_c2, breaks_c3, place_c3}

abbrev pub vertex : ℕ → ℕ → Vertex
vertex r l = record { role = r; label = l }

abbrev pub edge : ℕ → ℕ → ℕ → ℕ → Edge
edge u v f s = record { end1 = u; end2 = v; form = f; symbol = s }

-- the record of a net: the arrays are filled up to their lengths
unfoldable pub net : List Vertex → List Edge → ℕ → Net
net vs es l =
    record {
      vertices = vs ++ replicate (most_vertices - length vs) no_vertex;
      edges = es ++ replicate (most_edges - length es) no_edge;
      vertex_count = length vs;
      edge_count = length es;
      letter_count = l;
    }

-- `unfolding model` opens every definition of the model
unfoldable pub model : Unit {0}
unfolding excitation uncertain connected_under connected excitation_of reaches labels merge relabel classes inner table leads exits same_label any_below all_below count_below list_below edge_at vertex_at has_role is_storage is_key key_index keys key_count key_vertex usable conditions input_of condition condition_of value symbol_value decode bit edge_fights vertex_fights fights same_component carries gives is_signal signals is_stable stable least_below every_state breaks_c1 place_c1 test_c2 breaks_c3 place_c3
model = tt
