-- The sheet of a valid record reads to that record, in every width whose fields hold a record's numbers.
use Prim.Native.Nat.{ℕ, suc, ◌+◌, ◌-◌, ◌*◌, ◌/◌, ◌%◌, ◌≤◌, ◌<◌}
use native.Mathlib.Nat.{zero-add, add-zero, suc-add, add-suc, mul-zero, mul-suc, mul-add, mul-le-mul_left}
use native.Mathlib.Omega.{arith}
use mathlib.Core.Path.{◌≡◌, refl, sym, ap, ap₂, ◌∙◌}
use mathlib.Core.Bool.{true}
use mathlib.Core.List.{List, [], ◌∷◌, ◌++◌, append_assoc}
use mathlib.Core.Option.{some}
use lib.ListN.{length, take, drop, set, replicate, length-append}
use lib.Seq.{sets, length-take-le}
use borrow.Author.Tests.{lt-ltb, le-ltb, eq-eqb, le-leb}
use Rattle.net.specs.declared.Vertex.{Vertex}
use Rattle.net.specs.declared.Edge.{Edge}
use Rattle.net.specs.declared.Net.{Net}
use Rattle.net.specs.Limits.{most_vertices, most_edges}
use Rattle.net.specs.Graph.{no_vertex, no_edge, vertex_at, has_role, is_storage}
use Rattle.ternary.proofs.Tests.{ands}
use Rattle.sheet.specs.Limits.{record_columns, line_bytes, most_lines, sheet_bytes}
use Rattle.sheet.specs.declared.Line.{Line}
use Rattle.sheet.specs.Line.{read_line, write_line}
use Rattle.sheet.specs.Rows.{first_row}
use Rattle.sheet.specs.Record.{start_net, accepted}
use Rattle.sheet.specs.Rules.{header_ok, vertex_ok, symbol_ok, edge_ok}
use Rattle.sheet.specs.Graph.{graph_rows}
use Rattle.sheet.specs.Reading.{with_vertices, with_edges, vertex_line_ok, edge_line_ok, add_line, step_line, conclude, read_lines, whole_lines, size_ok, read_header, read_in}
use Rattle.sheet.specs.Reading.Step.{next}
use Rattle.sheet.specs.Writing.{header_line, vertex_line, edge_line, vertex_lines, edge_lines, write_in}
use Rattle.sheet.specs.Valid.{all_of, is_no_vertex, is_no_edge, valid}
use Rattle.sheet.proofs.WholeLines.{line-count, lines_fill, holds_record}
use Rattle.sheet.proofs.LineLaws.{SmallLine, read_write_line, take-line, drop-line, length-line}
use Rattle.sheet.proofs.RuleLaws.{vertex_range, edge_range, no_vertex_lem, no_edge_lem}
use Rattle.sheet.proofs.Places.{restored, all_same}
use Rattle.sheet.proofs.Validity.{Valid, valid_iff, counts_of}

-- ---- one written line is read

read_line_lem : (w : ℕ) (v : Line) (rest : List ℕ) (left j : ℕ) (N N' : Net) → SmallLine w v → add_line N j v ≡ next N'
    → read_lines w (suc left) (write_line w v ++ rest) j N ≡ read_lines w left rest (suc j) N'
unfolding read_lines step_line
read_line_lem w v rest left j N N' s e =
    let read : read_line w (take (line_bytes w) (write_line w v ++ rest)) ≡ some v = rw take-line (read_write_line w v s) in
    rw (read, read_lines, e, drop-line)

add_vertex : (N : Net) (j : ℕ) (x : Vertex) → j < N.vertex_count → vertex_ok N x ≡ true
    → add_line N j (vertex_line j x) ≡ next (with_vertices N (set N.vertices j x))
unfolding add_line vertex_line_ok
add_vertex N j x h ok = rw (lt-ltb j N.vertex_count h, eq-eqb (suc j) (suc j) refl, ok)

add_edge : (N : Net) (k : ℕ) (e : Edge) → edge_ok N e ≡ true
    → add_line N (N.vertex_count + k) (edge_line e) ≡ next (with_edges N (set N.edges k e))
unfolding add_line edge_line_ok
add_edge N k e ok =
    let past : N.vertex_count ≤ N.vertex_count + k = omega arith in
    let place : N.vertex_count + k - N.vertex_count ≡ k = omega arith in
    rw (le-ltb (N.vertex_count + k) N.vertex_count past, ok, place)

-- ---- the vertex lines, then the edge lines

read_vertices : (w : ℕ) → record_columns ≤ w → (N : Net) (j : ℕ) (xs : List Vertex) (rest : List ℕ) (left : ℕ)
    → N.vertex_count ≤ most_vertices → j + length xs ≤ N.vertex_count → all_of (vertex_ok N) xs ≡ true
    → read_lines w (length xs + left) (vertex_lines w j xs ++ rest) j N ≡ read_lines w left rest (j + length xs) (with_vertices N (sets N.vertices j xs))
unfolding all_of vertex_lines vertex_ok
read_vertices w wide N j [] rest left most h ok = rw (zero-add, add-zero)
read_vertices w wide N j (x ∷ xs) rest left most h ok =
    let okx : vertex_ok N x ≡ true = search ands in
    let held = holds_record w wide in
    let s = vertex_range N x okx in
    let small : SmallLine w (vertex_line j x) = omega arith in
    let N' : Net = with_vertices N (set N.vertices j x) in
    rw (suc-add, append_assoc, add-suc)
    (read_line_lem w (vertex_line j x) (vertex_lines w (suc j) xs ++ rest) (length xs + left) j N N' small (add_vertex N j x (omega arith) okx)
    ∙ read_vertices w wide N' (suc j) xs rest left most (omega arith) (search ands)
    ∙ rw suc-add)

read_edges : (w : ℕ) → record_columns ≤ w → (N : Net) (k : ℕ) (es : List Edge) → N.vertex_count ≤ most_vertices → all_of (edge_ok N) es ≡ true
    → read_lines w (length es) (edge_lines w es) (N.vertex_count + k) N
    ≡ conclude (with_edges N (sets N.edges k es)) (first_row (graph_rows (with_edges N (sets N.edges k es))))
unfolding read_lines all_of edge_lines edge_ok symbol_ok is_storage has_role vertex_at
read_edges w wide N k [] most ok = refl
read_edges w wide N k (e ∷ es) most ok =
    let oke : edge_ok N e ≡ true = search ands in
    let held = holds_record w wide in
    let s = edge_range N e oke in
    let small : SmallLine w (edge_line e) = omega arith in
    let N' : Net = with_edges N (set N.edges k e) in
    read_line_lem w (edge_line e) (edge_lines w es) (length es) (N.vertex_count + k) N N' small (add_edge N k e oke)
    ∙ rw (← (add-suc N.vertex_count k)) (read_edges w wide N' (suc k) es most (search ands))

pub length_vertices : (w j : ℕ) (xs : List Vertex) → length (vertex_lines w j xs) ≡ line_bytes w * length xs
unfolding vertex_lines
length_vertices w j [] = sym (mul-zero (line_bytes w))
length_vertices w j (x ∷ xs) =
    let ih = length_vertices w (suc j) xs in
    rw length-append (omega (arith, length-line w (vertex_line j x), mul-suc (line_bytes w) (length xs)))

pub length_edges : (w : ℕ) (es : List Edge) → length (edge_lines w es) ≡ line_bytes w * length es
unfolding edge_lines
length_edges w [] = sym (mul-zero (line_bytes w))
length_edges w (e ∷ es) =
    let ih = length_edges w es in
    rw length-append (omega (arith, length-line w (edge_line e), mul-suc (line_bytes w) (length es)))

-- the lines below the header
read_body : (w : ℕ) → record_columns ≤ w → (N : Net) → Valid N
    → read_lines w (N.vertex_count + N.edge_count)
    (vertex_lines w 0 (take N.vertex_count N.vertices) ++ edge_lines w (take N.edge_count N.edges))
    0 (start_net N.vertex_count N.edge_count N.letter_count)
    ≡ accepted N
unfolding start_net conclude vertex_ok edge_ok symbol_ok is_storage has_role vertex_at
read_body w wide N f =
    let c = counts_of N f in
    let vs : List Vertex = take N.vertex_count N.vertices in
    let es : List Edge = take N.edge_count N.edges in
    let v-size : length vs ≡ N.vertex_count = length-take-le N.vertex_count N.vertices (omega (arith, f.vertex_places)) in
    let e-size : length es ≡ N.edge_count = length-take-le N.edge_count N.edges (omega (arith, f.edge_places)) in
    let start : Net = start_net N.vertex_count N.edge_count N.letter_count in
    let v-same = restored no_vertex most_vertices N.vertex_count N.vertices f.vertex_places c.vertices
    (all_same is_no_vertex no_vertex no_vertex_lem _ f.vertices_end) in
    let e-same = restored no_edge most_edges N.edge_count N.edges f.edge_places c.edges
    (all_same is_no_edge no_edge no_edge_lem _ f.edges_end) in
    ap (λ (n : ℕ). read_lines w n (vertex_lines w 0 vs ++ edge_lines w es) 0 start) (omega arith)
    ∙ read_vertices w wide start 0 vs (edge_lines w es) (length es) c.vertices (omega arith) f.vertices
    ∙ ap₂ (λ (n : ℕ) (l : List Vertex). read_lines w (length es) (edge_lines w es) n (with_vertices start l)) (omega arith) v-same
    ∙ read_edges w wide (with_edges N (replicate most_edges no_edge)) 0 es c.vertices f.edges
    ∙ ap (λ (l : List Edge). conclude (with_edges N l) (first_row (graph_rows (with_edges N l)))) e-same
    ∙ ap (conclude N) f.graph

-- ---- the header

size_passed : (w n k : ℕ) → n ≡ line_bytes w * (1 + k) → 1 + k ≤ most_lines → size_ok w n ≡ true
unfolding whole_lines
size_passed w n k e h =
    let first : line_bytes w * 1 ≤ line_bytes w * (1 + k) = mul-le-mul_left (line_bytes w) (omega arith) in
    let most : line_bytes w * (1 + k) ≤ sheet_bytes w = mul-le-mul_left (line_bytes w) h in
    rw (le-leb 1 n (omega (arith, e, first)), eq-eqb (n % line_bytes w) 0 (lines_fill (line_bytes w) n (1 + k) (omega arith) e), le-leb n (sheet_bytes w) (rw e most))

header_read : (w : ℕ) (b : List ℕ) (h : Line) → size_ok w (length b) ≡ true → read_line w (take (line_bytes w) b) ≡ some h → header_ok h ≡ true
    → length b / line_bytes w ≡ 1 + h.second + h.third
    → read_in w b ≡ read_lines w (h.second + h.third) (drop (line_bytes w) b) 0 (start_net h.second h.third h.fourth)
unfolding read_in read_header
header_read w b h size first ok lines = rw (size, first, ok, eq-eqb (length b / line_bytes w) (1 + h.second + h.third) lines)

length_sheet : (w : ℕ) (N : Net) → Valid N → length (write_in w N) ≡ line_bytes w * (1 + (N.vertex_count + N.edge_count))
unfolding write_in
length_sheet w N f =
    let c = counts_of N f in
    let v-fits : N.vertex_count ≤ length N.vertices = omega (arith, f.vertex_places) in
    let e-fits : N.edge_count ≤ length N.edges = omega (arith, f.edge_places) in
    let v-size = length-take-le N.vertex_count N.vertices v-fits in
    let e-size = length-take-le N.edge_count N.edges e-fits in
    rw (length-append, length-append, length-line, length_vertices, length_edges, v-size, e-size)
    (omega (arith, mul-suc (line_bytes w) (N.vertex_count + N.edge_count), mul-add (line_bytes w) N.vertex_count N.edge_count))

-- in fewer columns than `record_columns` a symbol would lose its first digit
pub read_write_sheet : (w : ℕ) → record_columns ≤ w → (N : Net) → valid N ≡ true → read_in w (write_in w N) ≡ accepted N
unfolding write_in header_ok
read_write_sheet w wide N ok =
    let f = (valid_iff N).0 ok in
    let c = counts_of N f in
    let len = length_sheet w N f in
    let held = holds_record w wide in
    let small : SmallLine w (header_line N) = omega arith in
    header_read w (write_in w N) (header_line N)
    (size_passed w (length (write_in w N)) (N.vertex_count + N.edge_count) len (omega arith))
    (rw take-line (read_write_line w (header_line N) small))
    f.counts
    (line-count (line_bytes w) (length (write_in w N)) (1 + N.vertex_count + N.edge_count) (omega arith) (len ∙ ap (λ (n : ℕ). line_bytes w * n) (omega arith)))
    ∙ rw drop-line (read_body w wide N f)
