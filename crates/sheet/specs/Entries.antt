-- For the code alone: a line below the header is decoded, without the record, to what it adds; the record with it is a second step.
use Rattle.std.specs.Prelude.{ℕ, ◌-◌, ◌≤◌, ◌<◌, cond, ltb, set, Option, Some, None}
use Rattle.net.specs.declared.Net.{Net}
use Rattle.net.specs.Limits.{most_vertices, most_edges}
use Rattle.sheet.specs.declared.Line.{Line}
use Rattle.sheet.specs.declared.Entry.{Entry}
use Rattle.sheet.specs.declared.Entry.TheVariants.{Vertex, Edge}
use Rattle.sheet.specs.Reading.Step.{next, stop}
use Rattle.sheet.specs.Reading.{Step, vertex_of, edge_of, with_vertices, with_edges, vertex_line_ok, edge_line_ok}

-- line j of five numbers: a vertex where j is below the vertex count, else an edge; nothing where its values are refused
unfoldable pub decode_line : Net → ℕ → Line → Option Entry
decode_line N j v =
    cond
    (ltb j N.vertex_count)
    (cond (vertex_line_ok N j v) (Some (Vertex (vertex_of v))) None)
    (cond (edge_line_ok N v) (Some (Edge (edge_of v))) None)

-- the number that line j is refused with
abbrev pub refusal_of : Net → ℕ → ℕ
refusal_of N j = cond (ltb j N.vertex_count) 15 16

-- the record with what line j adds
abbrev pub with_entry : Net → ℕ → Entry → Net
with_entry N j (Vertex x) = with_vertices N (set N.vertices j x)
with_entry N j (Edge e) = with_edges N (set N.edges (j - N.vertex_count) e)

-- reading goes on with that record, or stops with the number of the refusal
abbrev pub step_of : Net → ℕ → Option Entry → Step
step_of N j (Some x) = next (with_entry N j x)
step_of N j None = stop (refusal_of N j)

-- the record has a place for what line j adds
abbrev pub HasPlace : Net → ℕ → Entry → Type 0
HasPlace N j (Vertex x) = j < most_vertices
HasPlace N j (Edge e) = (N.vertex_count ≤ j) × (j - N.vertex_count < most_edges)
