-- An accepted sheet gives a valid record, whose sheet it is, in any width.
use Prim.Native.Nat.{ℕ, suc, ◌+◌, ◌*◌, ◌%◌, ◌≤◌}
use native.Mathlib.Nat.{zero-add, mul-zero}
use native.Mathlib.Omega.{arith}
use mathlib.Core.Path.{◌≡◌, refl, sym, ap, ap₂, subst, ◌∙◌}
use mathlib.Core.Logic.{◌↔◌}
use mathlib.Core.Bool.{true, false, ◌&&◌, true≢false}
use mathlib.Core.List.{List, [], ◌++◌, append-nil}
use mathlib.Core.Option.{Option, none, some}
use lib.ListN.{length, take, drop, drop_of_length-le}
use borrow.Author.Tests.{eqb-true}
use Rattle.ternary.proofs.Tests.{ands}
use Rattle.net.specs.declared.Net.{Net}
use Rattle.net.specs.Limits.{most_vertices, most_edges}
use Rattle.net.specs.Graph.{no_vertex, no_edge}
use Rattle.sheet.specs.declared.Line.{Line}
use Rattle.sheet.specs.declared.Reading.{Reading}
use Rattle.sheet.specs.Limits.{record_columns, line_bytes}
use Rattle.sheet.specs.Line.{write_line}
use Rattle.sheet.specs.Record.{accepted}
use Rattle.sheet.specs.Rules.{header_ok, vertex_ok, edge_ok}
use Rattle.sheet.specs.Reading.{vertex_of, edge_of, vertex_line_ok, edge_line_ok, whole_lines, read_in}
use Rattle.sheet.specs.Writing.{header_line, vertex_line, edge_line, vertex_lines, edge_lines, write_in}
use Rattle.sheet.specs.SheetRows.{line_at, is_missing, numbers_of, header, vertex_count_of, edge_count_of, vertex_from, edge_from, net_in}
use Rattle.sheet.specs.Valid.{all_of, is_no_vertex, is_no_edge, valid}
use Rattle.sheet.proofs.RuleLaws.{Counts, header_counts}
use Rattle.sheet.proofs.PlacedLaws.{length-placed, placed_taken}
use Rattle.sheet.proofs.FittingLaws.{placed_fit}
use Rattle.sheet.proofs.Validity.{Valid, valid_iff}
use Rattle.sheet.proofs.WholeLines.{lines_whole}
use Rattle.sheet.proofs.LineLaws.{piece-rest, write_read_line}
use Rattle.sheet.proofs.JoinedLines.{vertex_lines_lem, edge_lines_lem, lines_back}
use Rattle.sheet.proofs.WriteLaws.{read_write_sheet}
use Rattle.sheet.proofs.SheetRowLaws.{sheet_zero, sheet_accepted}
use Rattle.sheet.proofs.FitSheets.{Fit, fit}

-- ---- the record is valid

module _ (w : ℕ) (b : List ℕ) (f : Fit w b) where
  header_ok_lem : header_ok (header w b) ≡ true
  header_ok_lem = f.first.allowed

  counts : Counts (vertex_count_of w b) (edge_count_of w b) (header w b).fourth
  counts = header_counts (header w b) header_ok_lem

  vertices_fit : (all_of (vertex_ok (net_in w b)) (take (vertex_count_of w b) (net_in w b).vertices) && all_of is_no_vertex (drop (vertex_count_of w b) (net_in w b).vertices)) ≡ true
  unfolding net_in is_no_vertex vertex_line_ok
  vertices_fit =
      placed_fit (vertex_ok (net_in w b)) is_no_vertex no_vertex most_vertices (vertex_count_of w b) _ counts.vertices
      (λ j h. let p = (f.vertices j h).allowed in search ands) refl

  edges_fit : (all_of (edge_ok (net_in w b)) (take (edge_count_of w b) (net_in w b).edges) && all_of is_no_edge (drop (edge_count_of w b) (net_in w b).edges)) ≡ true
  unfolding net_in is_no_edge edge_line_ok
  edges_fit =
      placed_fit (edge_ok (net_in w b)) is_no_edge no_edge most_edges (edge_count_of w b) _ counts.edges
      (λ i h. let p = (f.edges i h).allowed in search ands) refl

  is_valid : Valid (net_in w b)
  unfolding net_in header_ok
  is_valid =
      let ok = header_ok_lem in
      let vs = vertices_fit in
      let es = edges_fit in
      record {
        vertex_places = length-placed most_vertices _ no_vertex (vertex_count_of w b);
        edge_places = length-placed most_edges _ no_edge (edge_count_of w b);
        counts = search ands;
        vertices = search ands;
        vertices_end = search ands;
        edges = search ands;
        edges_end = search ands;
        graph = f.graph;
      }

  -- ---- the sheet is the record's

  header-same : header_line (net_in w b) ≡ header w b
  unfolding net_in header_ok
  header-same =
      let ok = header_ok_lem in
      let k = eqb-true (header w b).kind 1 (search ands) in
      let e = eqb-true (header w b).fifth 1 (search ands) in
      λ i. record { kind = sym k i; second = vertex_count_of w b; third = edge_count_of w b; fourth = (header w b).fourth; fifth = sym e i }

  vertex_line_lem : (j : ℕ) (v : Line) → vertex_line_ok (net_in w b) j v ≡ true → vertex_line j (vertex_of v) ≡ v
  unfolding vertex_line_ok
  vertex_line_lem j v ok =
      let k = eqb-true v.kind 2 (search ands) in
      let n = eqb-true v.second (suc j) (search ands) in
      let z = eqb-true v.fifth 0 (search ands) in
      λ i. record { kind = sym k i; second = sym n i; third = v.third; fourth = v.fourth; fifth = sym z i }

  edge_line_lem : (v : Line) → edge_line_ok (net_in w b) v ≡ true → edge_line (edge_of v) ≡ v
  unfolding edge_line_ok
  edge_line_lem v ok =
      let k = eqb-true v.kind 3 (search ands) in
      λ i. record { kind = sym k i; second = v.second; third = v.third; fourth = v.fourth; fifth = v.fifth }

  line_bytes_lem : (n : ℕ) → is_missing (line_at w b n) ≡ false → write_line w (numbers_of (line_at w b n)) ≡ take (line_bytes w) (drop (line_bytes w * n) b)
  unfolding line_at
  line_bytes_lem n = go (line_at w b n) refl
    where
      go : (o : Option Line) → line_at w b n ≡ o → is_missing o ≡ false → write_line w (numbers_of o) ≡ take (line_bytes w) (drop (line_bytes w * n) b)
      go none h t = absurd (true≢false t)
      go (some v) h t = (write_read_line w (take (line_bytes w) (drop (line_bytes w * n) b)) v h).written

  vertices_back : vertex_lines w 0 (take (vertex_count_of w b) (net_in w b).vertices) ++ drop (line_bytes w * (1 + vertex_count_of w b)) b ≡ drop (line_bytes w * 1) b
  unfolding net_in
  vertices_back =
      ap (λ (l : List ℕ). l ++ drop (line_bytes w * (1 + vertex_count_of w b)) b)
      (ap (vertex_lines w 0) (placed_taken most_vertices (vertex_from w b) no_vertex (vertex_count_of w b) counts.vertices) ∙ vertex_lines_lem w (vertex_count_of w b) 0 (vertex_from w b))
      ∙ lines_back w b (vertex_count_of w b) 1 (λ j. vertex_line (0 + j) (vertex_from w b j))
      (λ j h. let p = f.vertices j h in ap (write_line w) (rw (zero-add j) (vertex_line_lem j _ p.allowed)) ∙ line_bytes_lem (1 + j) p.there)

  edges_back : edge_lines w (take (edge_count_of w b) (net_in w b).edges) ++ drop (line_bytes w * (1 + vertex_count_of w b + edge_count_of w b)) b
      ≡ drop (line_bytes w * (1 + vertex_count_of w b)) b
  unfolding net_in
  edges_back =
      ap (λ (l : List ℕ). l ++ drop (line_bytes w * (1 + vertex_count_of w b + edge_count_of w b)) b)
      (ap (edge_lines w) (placed_taken most_edges (edge_from w b) no_edge (edge_count_of w b) counts.edges) ∙ edge_lines_lem w (edge_count_of w b) (edge_from w b))
      ∙ lines_back w b (edge_count_of w b) (1 + vertex_count_of w b) (λ i. edge_line (edge_from w b i))
      (λ i h. let p = f.edges i h in ap (write_line w) (edge_line_lem _ p.allowed) ∙ line_bytes_lem (1 + vertex_count_of w b + i) p.there)

  -- no byte is left behind the last line
  all_read : drop (line_bytes w * (1 + vertex_count_of w b + edge_count_of w b)) b ≡ []
  unfolding whole_lines
  all_read =
      let ok = f.size in
      let whole : length b % line_bytes w ≡ 0 = eqb-true (length b % line_bytes w) 0 (search ands) in
      let past : length b ≤ line_bytes w * (1 + vertex_count_of w b + edge_count_of w b) = omega (arith, lines_whole (line_bytes w) (length b) _ whole f.lines) in
      drop_of_length-le b past

  written : write_in w (net_in w b) ≡ b
  unfolding write_in net_in
  written =
      let edges-whole : edge_lines w (take (edge_count_of w b) (net_in w b).edges) ≡ drop (line_bytes w * (1 + vertex_count_of w b)) b =
      sym (append-nil _) ∙ (rw all_read at edges_back) in
      ap₂ (λ (l r : List ℕ). l ++ r) (ap (write_line w) header-same ∙ line_bytes_lem 0 f.first.there)
      (ap (λ (l : List ℕ). vertex_lines w 0 (take (vertex_count_of w b) (net_in w b).vertices) ++ l) edges-whole ∙ vertices_back)
      ∙ piece-rest (line_bytes w) b 0
      ∙ ap (λ (n : ℕ). drop n b) (mul-zero (line_bytes w))

-- ---- accepted sheets

accepted-net : (w : ℕ) (b : List ℕ) (N : Net) → read_in w b ≡ accepted N → Fit w b × (net_in w b ≡ N)
accepted-net w b N e =
    let none_holds = (sheet_zero w b).0 (ap (λ (r : Reading). r.answer.number) e) in
    (fit w b none_holds, ap (λ (r : Reading). r.net) (sym (sheet_accepted w b none_holds) ∙ e))

-- an accepted sheet gives a valid record
pub read_valid : (w : ℕ) (b : List ℕ) (N : Net) → read_in w b ≡ accepted N → valid N ≡ true
read_valid w b N e = let a = accepted-net w b N e in subst (λ (M : Net). valid M ≡ true) a.1 ((valid_iff (net_in w b)).1 (is_valid w b a.0))

-- the valid records are those that some accepted sheet gives: number 41 is for the others. In fewer columns some record has no sheet.
pub valid_iff_accepted : (w : ℕ) → record_columns ≤ w → (N : Net) → (valid N ≡ true) ↔ ((b : List ℕ) × (read_in w b ≡ accepted N))
valid_iff_accepted w wide N = (λ ok. (write_in w N, read_write_sheet w wide N ok), λ s. read_valid w s.0 N s.1)

-- an accepted sheet is the sheet of its record
pub write_read_sheet : (w : ℕ) (b : List ℕ) (N : Net) → read_in w b ≡ accepted N → write_in w N ≡ b
write_read_sheet w b N e = let a = accepted-net w b N e in ap (write_in w) (sym a.1) ∙ written w b a.0
