-- For the code alone: what it decodes a line to, how it builds the record of gates, appending vertices and edges, and what is left to read.
use Rattle.std.specs.Prelude.{ℕ, ◌+◌, cond, Option, Some, None, List, [], ◌∷◌, ◌++◌, set, replicate}
use Rattle.ternary.specs.Lists.{Bytes}
use Rattle.net.specs.declared.Vertex.{Vertex}
use Rattle.net.specs.declared.Edge.{Edge}
use Rattle.net.specs.declared.Net.{Net}
use Rattle.net.specs.Limits.{most_vertices, most_edges}
use Rattle.net.specs.Graph.{no_vertex, no_edge}
use Rattle.sheet.specs.declared.Line.{Line}
use Rattle.sheet.specs.declared.Reading.{Reading}
use Rattle.sheet.specs.Graph.{key_place}
use Rattle.sheet.specs.Record.{read_by}
use Rattle.sheet.specs.Rows.{row}
use Rattle.sheet.specs.SheetRows.{placed, in_turn}
use Rattle.gates.specs.declared.Gate.{Gate}
use Rattle.gates.specs.Gates.{high, net_with, gate_edges, has_inner, inner, vertex_from}
use Rattle.gates.specs.GateRows.{line_gate, gate_line_ok, net_of_gates, gate_line_rows}

-- what the code answers for the line of gate g
abbrev pub decode_gate : (G L g : ℕ) → Line → Option Gate
decode_gate G L g v = cond (gate_line_ok G L g v) (Some (line_gate v)) None

abbrev pub append_vertex : Net → Vertex → Net
append_vertex N x = net_with (set N.vertices N.vertex_count x) (N.vertex_count + 1) N.edges N.edge_count N.letter_count

abbrev pub append_edge : Net → Edge → Net
append_edge N e = net_with N.vertices N.vertex_count (set N.edges N.edge_count e) (N.edge_count + 1) N.letter_count

unfoldable pub append_edges : Net → List Edge → Net
append_edges N [] = N
append_edges N (e ∷ es) = append_edges (append_edge N e) es

-- a gate with output o; its inner vertex, if it has one, is the next
unfoldable pub add_gate : Net → (o : ℕ) → Gate → Net
add_gate N o γ = append_edges (cond (has_inner γ) (append_vertex N inner) N) (gate_edges o (N.vertex_count + 1) γ)

-- the rails and the first k of G outputs, with L letters
unfoldable pub outputs_of : (G L k : ℕ) → Net
outputs_of G L k = net_with (placed most_vertices (high + k) (vertex_from G) no_vertex) (high + k) (replicate most_edges no_edge) 0 L

-- what is left to read: m gate lines from gate g, then the key nodes
unfoldable pub gate_rest : Bytes → (m g : ℕ) → Reading
gate_rest b m g = read_by (in_turn m g (gate_line_rows b) ++ row 22 (key_place (net_of_gates b)) ∷ []) (net_of_gates b)
