-- Computed examples: document 01's worked sheet, damaged copies of it, single lines, job lines, and nets at the limits.
use Prim.Native.Nat.{ℕ, zero, suc, ◌+◌}
use mathlib.Core.Path.{◌≡◌, refl}
use mathlib.Core.Bool.{true, false}
use mathlib.Core.List.{List, [], ◌∷◌, ◌++◌}
use mathlib.Core.Option.{none, some}
use lib.ListN.{set}
use Rattle.net.specs.declared.Vertex.{Vertex}
use Rattle.net.specs.declared.Edge.{Edge}
use Rattle.net.specs.declared.Net.{Net}
use Rattle.net.specs.Limits.{most_letters, most_key_nodes, most_signals, letter_base, vertex_base}
use Rattle.net.proofs.Concrete.{vertex, edge, net}
use Rattle.std.specs.Prelude.{None}
use Rattle.sheet.specs.Limits.{field_width, line_width, most_bytes}
use Rattle.sheet.specs.Field.{read_field}
use Rattle.sheet.specs.Line.{sheet_line, line_number}
use Rattle.sheet.specs.Rows.{answer, first_row}
use Rattle.sheet.specs.Record.{refused, accepted}
use Rattle.sheet.specs.Graph.{key_place, graph_rows}
use Rattle.sheet.specs.Reading.{with_vertices, with_edges, size_ok, read_sheet}
use Rattle.sheet.specs.Writing.{write_sheet}
use Rattle.sheet.specs.Valid.{valid}
use Rattle.sheet.specs.Job.{asks, job_of}
use Rattle.sheet.specs.Text.{bytes}
use Rattle.sheet.proofs.Sheets.{open_all, sheet_with, worked_sheet, worked_net}

-- ---- the worked sheet

worked_read : read_sheet worked_sheet ≡ accepted worked_net
unfolding open_all worked_net
worked_read = refl

worked-written : write_sheet worked_net ≡ worked_sheet
unfolding open_all worked_net
worked-written = refl

worked-valid : valid worked_net ≡ true
unfolding open_all worked_net
worked-valid = refl

-- ---- damaged copies of it

no_bytes : read_sheet [] ≡ refused (answer 11 0)
unfolding open_all
no_bytes = refl

-- a header without the byte that ends it
no_line_end : read_sheet (bytes "   1   4   4   1   1") ≡ refused (answer 11 0)
unfolding open_all
no_line_end = refl

full_size : size_ok field_width most_bytes ≡ true
unfolding open_all
full_size = refl

over_size : size_ok field_width (most_bytes + line_width) ≡ false
unfolding open_all
over_size = refl

four_fields_lem : read_sheet (sheet_with "   1   4   4   1   1\n" "   2   4   1   0    \n" "   3   3   4   0  11\n") ≡ refused (answer 12 5)
unfolding open_all
four_fields_lem = refl

leading_zero : read_sheet (sheet_with "   1   4   4   1  01\n" "   2   4   1   0   0\n" "   3   3   4   0  11\n") ≡ refused (answer 12 1)
unfolding open_all
leading_zero = refl

edition_2 : read_sheet (sheet_with "   1   4   4   1   2\n" "   2   4   1   0   0\n" "   3   3   4   0  11\n") ≡ refused (answer 13 1)
unfolding open_all
edition_2 = refl

one_line_short : read_sheet (sheet_with "   1   4   5   1   1\n" "   2   4   1   0   0\n" "   3   3   4   0  11\n") ≡ refused (answer 14 0)
unfolding open_all
one_line_short = refl

role_3 : read_sheet (sheet_with "   1   4   4   1   1\n" "   2   4   3   0   0\n" "   3   3   4   0  11\n") ≡ refused (answer 15 5)
unfolding open_all
role_3 = refl

unknown_letter : read_sheet (sheet_with "   1   4   4   1   1\n" "   2   4   1   0   0\n" "   3   3   4   0  12\n") ≡ refused (answer 16 8)
unfolding open_all
unknown_letter = refl

input_symbol : read_sheet (sheet_with "   1   4   4   1   1\n" "   2   4   1   0   0\n" "   3   3   4   0 101\n") ≡ refused (answer 16 8)
unfolding open_all
input_symbol = refl

primed_constant : read_sheet (sheet_with "   1   4   4   1   1\n" "   2   4   1   0   0\n" "   3   3   4   3   1\n") ≡ refused (answer 16 8)
unfolding open_all
primed_constant = refl

-- no edge of form 0 stands beside the edge of form 3 at line 8
no_partner : read_sheet (sheet_with "   1   4   4   1   1\n" "   2   4   1   0   0\n" "   3   3   4   3  11\n") ≡ refused (answer 21 8)
unfolding open_all
no_partner = refl

-- the edge of form 1 at line 6 is the partner of that of form 2 at line 8, whose ends stand in the other order
partner : (read_sheet (sheet_with "   1   4   4   1   1\n" "   2   4   1   0   0\n" "   3   3   2   2  11\n")).answer ≡ answer 0 0
unfolding open_all
partner = refl

-- it cannot be that of a second one too, which is one too many at line 9; with a partner more, at line 10, both have their own
shared_partner : read_sheet (sheet_with "   1   4   5   1   1\n" "   2   4   1   0   0\n" "   3   3   2   2  11\n   3   2   3   2  11\n") ≡ refused (answer 21 9)
unfolding open_all
shared_partner = refl

two_pairs : (read_sheet (sheet_with "   1   4   6   1   1\n" "   2   4   1   0   0\n" "   3   3   2   2  11\n   3   2   3   2  11\n   3   2   3   1  11\n")).answer ≡ answer 0 0
unfolding open_all
two_pairs = refl

-- ---- fields, single lines and job lines

zero_field : read_field field_width (bytes "   0") ≡ some 0
unfolding open_all
zero_field = refl

blank-field : read_field field_width (bytes "    ") ≡ none
unfolding open_all
blank-field = refl

gap_field : read_field field_width (bytes " 1 2") ≡ none
unfolding open_all
gap_field = refl

line_2 : sheet_line worked_sheet 2 ≡ bytes "   2   1   0   0   0\n"
unfolding open_all
line_2 = refl

line_0 : sheet_line worked_sheet 0 ≡ []
unfolding open_all
line_0 = refl

line_10 : sheet_line worked_sheet 10 ≡ []
unfolding open_all
line_10 = refl

line-numbers : line_number worked_sheet 0 ∷ line_number worked_sheet 2 ∷ line_number worked_sheet 10 ∷ [] ≡ 47 ∷ 0 ∷ 47 ∷ []
unfolding open_all
line-numbers = refl

job : job_of (bytes "   4   0   1   1   0\n") ≡ asks 0 1 1
unfolding open_all
job = refl

short_job : job_of (bytes "   4   0   1   1   0") ≡ None
unfolding open_all
short_job = refl

-- ---- records that no sheet gives

stray_edge : valid (with_edges worked_net (set worked_net.edges 4 (edge 1 3 0 0))) ≡ false
unfolding open_all worked_net
stray_edge = refl

stray_vertex : valid (with_vertices worked_net (set worked_net.vertices 4 (vertex 1 0))) ≡ false
unfolding open_all worked_net
stray_vertex = refl

-- ---- limits: as many as are allowed, and one more

abbrev storages : ℕ → List Vertex
storages zero = []
storages (suc n) = vertex 1 0 ∷ storages n

-- an edge for each of the n vertices from y on, with the vertex as its symbol
abbrev loads : ℕ → ℕ → List Edge
loads y zero = []
loads y (suc n) = edge 1 y 0 (vertex_base + y) ∷ loads (suc y) n

-- input vertex 1 and n key nodes, from vertex 2 on
abbrev keyed : ℕ → Net
keyed n = net (vertex 0 0 ∷ storages n) (loads 2 n) 0

-- row 22 alone: to compute the signals of so many components takes seconds
most_keys : key_place (keyed most_key_nodes) ≡ none
unfolding open_all
most_keys = refl

one_key_more : first_row (graph_rows (keyed (most_key_nodes + 1))) ≡ some (answer 22 (most_key_nodes + 2))
unfolding open_all
one_key_more = refl

-- edges with the letters' symbols from s on
abbrev lettered : ℕ → ℕ → List Edge
lettered s zero = []
lettered s (suc n) = edge 1 2 0 s ∷ lettered (suc s) n

-- storage vertex 2 with an edge for each letter, after the edges given
abbrev signalled : List Edge → Net
signalled es = net (vertex 0 0 ∷ vertex 1 0 ∷ []) (es ++ lettered (letter_base + 1) most_signals) most_letters

most_signals_lem : first_row (graph_rows (signalled [])) ≡ none
unfolding open_all
most_signals_lem = refl

one_signal_more : first_row (graph_rows (signalled (edge 2 1 0 (vertex_base + 2) ∷ []))) ≡ some (answer 23 2)
unfolding open_all
one_signal_more = refl
