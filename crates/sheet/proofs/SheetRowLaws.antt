-- Reading a sheet answers by document 01's rows, in their order; where none holds it gives the record of its lines.
use Prim.Native.Nat.{ℕ, zero, suc, ◌+◌, ◌-◌, ◌*◌, ◌/◌, ◌≤◌, ◌<◌}
use native.Mathlib.Nat.{zero-add, add-zero, add-suc, suc-add, mul-zero, mul-one, mul-suc}
use native.Mathlib.Omega.{arith}
use mathlib.Core.Path.{◌≡◌, refl, sym, ap, ap₂, ◌∙◌}
use mathlib.Core.Logic.{◌↔◌}
use mathlib.Core.Bool.{Bool, true, false, not, cond}
use mathlib.Core.List.{List, ◌∷◌, ◌++◌}
use mathlib.Core.Option.{Option, none, some}
use lib.Dec.{eqb}
use lib.ListN.{length, take, drop, set}
use borrow.Author.Tests.{lt-ltb, le-ltb}
use Rattle.net.specs.declared.Vertex.{Vertex}
use Rattle.net.specs.declared.Edge.{Edge}
use Rattle.net.specs.declared.Net.{Net}
use Rattle.net.specs.Limits.{most_vertices, most_edges}
use Rattle.net.specs.Graph.{no_vertex, no_edge, vertex_at, has_role, is_storage}
use Rattle.sheet.specs.declared.Answer.{Answer}
use Rattle.sheet.specs.declared.Line.{Line}
use Rattle.sheet.specs.Limits.{line_bytes}
use Rattle.sheet.specs.Line.{read_line}
use Rattle.sheet.specs.Rows.{answer, Row, row, when, when_at, first_row, by_rows, First, NoRow}
use Rattle.sheet.specs.Record.{start_net, refused, accepted, read_by}
use Rattle.sheet.specs.Rules.{header_ok, vertex_ok, symbol_ok, edge_ok}
use Rattle.sheet.specs.Graph.{graph_rows}
use Rattle.sheet.specs.Reading.{vertex_of, edge_of, with_vertices, with_edges, vertex_line_ok, edge_line_ok, add_line, step_line, conclude, read_lines, size_ok, read_header, read_in}
use Rattle.sheet.specs.Reading.Step.{next, stop}
use Rattle.sheet.specs.SheetRows.{line_at, is_missing, numbers_of, placed, in_turn, header, vertex_count_of, edge_count_of, vertex_from, edge_from, net_in, vertex_rows, edge_rows, rows_in}
use Rattle.sheet.proofs.RowLaws.{by_rows-tested, positive, positive-append}
use Rattle.sheet.proofs.ReadingLaws.{read_zero, read_number, read_refused, read_accepted, read_then}
use Rattle.sheet.proofs.RuleLaws.{Counts, header_counts}
use Rattle.sheet.proofs.TurnLaws.{turn_positive}
use Rattle.sheet.proofs.LoopLaws.{after_step, read_step}
use Rattle.sheet.proofs.PlacedLaws.{placed_none, placed_more}

-- ---- one line: its fields, then its values

module _ (w left : ℕ) (rest : List ℕ) (j p n : ℕ) (line-number : p ≡ j + 2) (N N₁ : Net) (rs : List Row) (allowed : Line → Bool) (added : Line → Net)
    (adds : (v : Line) → add_line N j v ≡ cond (allowed v) (next (added v)) (stop n)) where
  after_test : (t : Bool) (M : Net) → after_step w left rest j (cond t (next M) (stop n)) ≡ cond t (read_lines w left rest (suc j) M) (refused (answer n p))
  after_test true M = refl
  after_test false M = rw line-number

  line-by_rows : (o : Option Line) → (allowed (numbers_of o) ≡ true → read_lines w left rest (suc j) (added (numbers_of o)) ≡ read_by rs N₁)
      → after_step w left rest j (step_line o j N)
      ≡ read_by (row 12 (when_at p (is_missing o)) ∷ row n (when_at p (not (allowed (numbers_of o)))) ∷ rs) N₁
  unfolding step_line by_rows first_row
  line-by_rows none after = rw line-number
  line-by_rows (some v) after =
      ap (after_step w left rest j) (adds v) ∙ after_test (allowed v) (added v) ∙ by_rows-tested rs (accepted N₁) refused (allowed v) n p after

-- ---- the lines below the header, with the record so far

module _ (w : ℕ) (b : List ℕ) where
  -- all vertices and k edges are read
  abbrev with_edge : ℕ → Net
  with_edge k = with_edges (net_in w b) (placed most_edges k (edge_from w b) no_edge)

  -- k vertices are read
  abbrev with_vertex : ℕ → Net
  with_vertex k = with_edges (with_vertices (net_in w b) (placed most_vertices k (vertex_from w b) no_vertex)) (placed most_edges 0 (edge_from w b) no_edge)

  -- line n is taken off the front
  read_line_lem : (left n j : ℕ) (N : Net) → read_lines w (suc left) (drop (line_bytes w * n) b) j N ≡ after_step w left (drop (line_bytes w * suc n) b) j (step_line (line_at w b n) j N)
  unfolding line_at
  read_line_lem left n j N = read_step w b (line_bytes w * n) left j N ∙ rw (mul-suc (line_bytes w) n)

  concluded : (N : Net) (o : Option Answer) → conclude N o ≡ elim o [ none ↦ accepted N | some a ↦ refused a ]
  unfolding conclude
  concluded N none = refl
  concluded N (some a) = refl

  edge_adds : (k : ℕ) (v : Line)
      → add_line (with_edge k) (vertex_count_of w b + k) v ≡ cond (edge_line_ok (net_in w b) v) (next (with_edges (net_in w b) (set (placed most_edges k (edge_from w b) no_edge) k (edge_of v)))) (stop 16)
  unfolding add_line edge_line_ok edge_ok symbol_ok is_storage has_role vertex_at net_in
  edge_adds k v =
      let place : vertex_count_of w b + k - vertex_count_of w b ≡ k = omega arith in
      rw (le-ltb (vertex_count_of w b + k) (vertex_count_of w b) (omega arith), place)

  vertex_adds : (k : ℕ) → k < vertex_count_of w b → (v : Line)
      → add_line (with_vertex k) k v ≡ cond (vertex_line_ok (net_in w b) k v) (next (with_vertices (with_vertex k) (set (placed most_vertices k (vertex_from w b) no_vertex) k (vertex_of v)))) (stop 15)
  unfolding add_line vertex_line_ok vertex_ok net_in
  vertex_adds k h v = rw (lt-ltb k (vertex_count_of w b) h)

  module _ (counts : Counts (vertex_count_of w b) (edge_count_of w b) (header w b).fourth) where
    edges_by_rows : (m k : ℕ) → k + m ≡ edge_count_of w b
        → read_lines w m (drop (line_bytes w * (1 + vertex_count_of w b + k)) b) (vertex_count_of w b + k) (with_edge k) ≡ read_by (in_turn m k (edge_rows w b) ++ graph_rows (net_in w b)) (net_in w b)
    unfolding read_lines in_turn by_rows net_in edge_rows
    edges_by_rows zero k h =
        let all : k ≡ edge_count_of w b = omega arith in
        ap (λ (n : ℕ). conclude (with_edge n) (first_row (graph_rows (with_edge n)))) all ∙ concluded (net_in w b) (first_row (graph_rows (net_in w b)))
    edges_by_rows (suc m) k h =
        read_line_lem m (1 + vertex_count_of w b + k) (vertex_count_of w b + k) (with_edge k)
        ∙ line-by_rows w m (drop (line_bytes w * suc (1 + vertex_count_of w b + k)) b) (vertex_count_of w b + k) (suc (1 + vertex_count_of w b + k)) 16 (omega arith)
        (with_edge k) (net_in w b) (in_turn m (suc k) (edge_rows w b) ++ graph_rows (net_in w b)) (edge_line_ok (net_in w b))
        (λ v. with_edges (net_in w b) (set (placed most_edges k (edge_from w b) no_edge) k (edge_of v))) (edge_adds k) (line_at w b (1 + vertex_count_of w b + k))
        (λ _.
        rw (placed_more most_edges (edge_from w b) no_edge k (omega (arith, counts.edges)))
        (rw (add-suc (1 + vertex_count_of w b) k, add-suc (vertex_count_of w b) k) at (edges_by_rows m (suc k) (omega arith))))

    vertices_by_rows : (m k : ℕ) → k + m ≡ vertex_count_of w b
        → read_lines w (m + edge_count_of w b) (drop (line_bytes w * (1 + k)) b) k (with_vertex k)
        ≡ read_by (in_turn m k (vertex_rows w b) ++ (in_turn (edge_count_of w b) 0 (edge_rows w b) ++ graph_rows (net_in w b))) (net_in w b)
    unfolding in_turn by_rows net_in vertex_rows
    vertices_by_rows zero k h =
        let all : k ≡ vertex_count_of w b = omega arith in
        ap (λ (n : ℕ). read_lines w (0 + edge_count_of w b) (drop (line_bytes w * (1 + n)) b) n (with_vertex n)) all
        ∙ rw (zero-add (edge_count_of w b)) (rw (add-zero (1 + vertex_count_of w b), add-zero (vertex_count_of w b)) at (edges_by_rows (edge_count_of w b) 0 (zero-add (edge_count_of w b))))
    vertices_by_rows (suc m) k h =
        rw (suc-add m (edge_count_of w b))
        (read_line_lem (m + edge_count_of w b) (1 + k) k (with_vertex k)
        ∙ line-by_rows w (m + edge_count_of w b) (drop (line_bytes w * suc (1 + k)) b) k (suc (1 + k)) 15 (omega arith)
        (with_vertex k) (net_in w b) (in_turn m (suc k) (vertex_rows w b) ++ (in_turn (edge_count_of w b) 0 (edge_rows w b) ++ graph_rows (net_in w b))) (vertex_line_ok (net_in w b) k)
        (λ v. with_vertices (with_vertex k) (set (placed most_vertices k (vertex_from w b) no_vertex) k (vertex_of v))) (vertex_adds k (omega arith)) (line_at w b (1 + k))
        (λ _.
        rw (placed_more most_vertices (vertex_from w b) no_vertex k (omega (arith, counts.vertices)))
        (rw (add-suc 1 k) at (vertices_by_rows m (suc k) (omega arith)))))

-- ---- the header, and the whole sheet

module _ (w : ℕ) (b : List ℕ) (rs : List Row) (N : Net) where
  -- the rows after those of the header's own line
  abbrev counted : Line → List Row
  counted h = row 14 (when (not (eqb (length b / line_bytes w) (1 + h.second + h.third)))) ∷ rs

  header-by_rows : (o : Option Line)
      → (header_ok (numbers_of o) ≡ true
      → read_lines w ((numbers_of o).second + (numbers_of o).third) (drop (line_bytes w) b) 0 (start_net (numbers_of o).second (numbers_of o).third (numbers_of o).fourth)
      ≡ read_by rs N)
      → read_header w b o
      ≡ read_by (row 12 (when_at 1 (is_missing o)) ∷ row 13 (when_at 1 (not (header_ok (numbers_of o)))) ∷ counted (numbers_of o)) N
  unfolding read_header by_rows first_row
  header-by_rows none after = refl
  header-by_rows (some h) after =
      by_rows-tested (counted h) (accepted N) refused (header_ok h) 13 1
      (λ ok. by_rows-tested rs (accepted N) refused (eqb (length b / line_bytes w) (1 + h.second + h.third)) 14 0 (λ _. after ok))

-- before the first line below the header nothing is in use
start_unused : (w : ℕ) (b : List ℕ) → start_net (vertex_count_of w b) (edge_count_of w b) (header w b).fourth ≡ with_vertex w b 0
unfolding start_net net_in
start_unused w b =
    ap₂ (λ (xs : List Vertex) (es : List Edge). with_edges (with_vertices (net_in w b) xs) es)
    (placed_none most_vertices (vertex_from w b) no_vertex) (placed_none most_edges (edge_from w b) no_edge)

module _ (w : ℕ) (b : List ℕ) where
  abbrev body : List Row
  body = in_turn (vertex_count_of w b) 0 (vertex_rows w b) ++ (in_turn (edge_count_of w b) 0 (edge_rows w b) ++ graph_rows (net_in w b))

  body-by_rows : header_ok (header w b) ≡ true
      → read_lines w (vertex_count_of w b + edge_count_of w b) (drop (line_bytes w) b) 0 (start_net (vertex_count_of w b) (edge_count_of w b) (header w b).fourth) ≡ read_by body (net_in w b)
  body-by_rows ok =
      ap (read_lines w (vertex_count_of w b + edge_count_of w b) (drop (line_bytes w) b) 0) (start_unused w b)
      ∙ ap (λ (n : ℕ). read_lines w (vertex_count_of w b + edge_count_of w b) (drop n b) 0 (with_vertex w b 0)) (sym (mul-one (line_bytes w)))
      ∙ vertices_by_rows w b (header_counts (header w b) ok) (vertex_count_of w b) 0 (zero-add (vertex_count_of w b))

  pub read_by-rows : read_in w b ≡ by_rows (rows_in w b) (accepted (net_in w b)) refused
  unfolding read_in rows_in line_at
  read_by-rows =
      by_rows-tested (row 12 (when_at 1 (is_missing (line_at w b 0))) ∷ row 13 (when_at 1 (not (header_ok (header w b)))) ∷ counted w b body (net_in w b) (header w b))
      (accepted (net_in w b)) refused (size_ok w (length b)) 11 0
      (λ _. ap (λ (n : ℕ). read_header w b (read_line w (take (line_bytes w) (drop n b)))) (sym (mul-zero (line_bytes w)))
      ∙ header-by_rows w b body (net_in w b) (line_at w b 0) body-by_rows)

  -- ---- what a sheet is answered

  pub sheet_positive : positive (rows_in w b) ≡ true
  unfolding rows_in positive vertex_rows edge_rows graph_rows
  sheet_positive =
      positive-append (in_turn (vertex_count_of w b) 0 (vertex_rows w b)) _ (turn_positive (vertex_count_of w b) 0 (vertex_rows w b) (λ _. refl))
      (positive-append (in_turn (edge_count_of w b) 0 (edge_rows w b)) (graph_rows (net_in w b)) (turn_positive (edge_count_of w b) 0 (edge_rows w b) (λ _. refl)) refl)

  pub sheet_zero : ((read_in w b).answer.number ≡ 0) ↔ NoRow (rows_in w b)
  sheet_zero = read_zero (rows_in w b) sheet_positive (net_in w b) read_by-rows

  pub sheet_number : (n p : ℕ) → 1 ≤ n → ((read_in w b).answer ≡ answer n p) ↔ First (rows_in w b) n p
  sheet_number = read_number (rows_in w b) sheet_positive (net_in w b) read_by-rows

  -- a refusal has the empty record
  pub sheet_refused : (n p : ℕ) → First (rows_in w b) n p → read_in w b ≡ refused (answer n p)
  sheet_refused = read_refused (rows_in w b) sheet_positive (net_in w b) read_by-rows

  pub sheet_accepted : NoRow (rows_in w b) → read_in w b ≡ accepted (net_in w b)
  sheet_accepted = read_accepted (rows_in w b) sheet_positive (net_in w b) read_by-rows

  -- what a call that reads a sheet first gives: by the sheet's rows, and where none holds by the net
  pub sheet_then : {A : Type 0} (good : Net → A) (bad : Answer → A)
      → cond (eqb (read_in w b).answer.number 0) (good (read_in w b).net) (bad (read_in w b).answer) ≡ by_rows (rows_in w b) (good (net_in w b)) bad
  sheet_then = read_then (rows_in w b) sheet_positive (net_in w b) read_by-rows
