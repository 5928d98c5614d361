-- Lines that are written one after the other to a lent part of just their size.
use Prim.Native.Nat.{ℕ, zero, suc, ◌+◌, ◌-◌, ◌*◌, ◌≤◌, ◌<◌}
use native.Mathlib.Nat.{add-zero, add-suc, suc-add, mul-suc, mul-zero, mul-one, mul-add, mul-le-mul_left}
use native.Mathlib.Numerals.{add-one}
use native.Mathlib.Omega.{arith}
use mathlib.Core.Path.{◌≡◌, refl, sym, ap, ap₂, ◌∙◌}
use mathlib.Core.List.{List, [], ◌∷◌, ◌++◌, append_assoc, append-nil}
use lib.ListN.{length, get_or, take}
use lib.Seq.{take-suc, length-take-le}
use borrow.Author.Tests.{lt-ltb, le-ltb}
use borrow.Rule.Slice.PartMut.{put_mid}
use Rattle.ternary.specs.Lists.{Bytes}
use Rattle.net.specs.declared.Vertex.{Vertex}
use Rattle.net.specs.declared.Edge.{Edge}
use Rattle.net.specs.declared.Net.{Net}
use Rattle.net.specs.Graph.{no_vertex, no_edge}
use Rattle.sheet.specs.Limits.{Columns, line_bytes}
use Rattle.sheet.specs.Line.{write_line}
use Rattle.sheet.specs.declared.Line.{Line}
use Rattle.sheet.specs.Writing.{vertex_line, edge_line, vertex_lines, edge_lines}
use Rattle.sheet.proofs.LineLaws.{length-line}
use Rattle.writer.specs.Fronts.{Sized, body_line}
use Rattle.sheet.proofs.FrontLaws.{Front, nothing, next_part, all_written}

module _ (w : Columns) where
  -- ---- one line more

  vertices_append : (j : ℕ) (xs ys : List Vertex) → vertex_lines w j (xs ++ ys) ≡ vertex_lines w j xs ++ vertex_lines w (j + length xs) ys
  unfolding vertex_lines
  vertices_append j [] ys = rw add-zero
  vertices_append j (x ∷ xs) ys = rw (vertices_append (suc j) xs ys, append_assoc, add-suc, suc-add)

  edges_append : (xs ys : List Edge) → edge_lines w (xs ++ ys) ≡ edge_lines w xs ++ edge_lines w ys
  unfolding edge_lines
  edges_append [] ys = refl
  edges_append (x ∷ xs) ys = rw (edges_append xs ys, append_assoc)

  vertex-alone : (j : ℕ) (x : Vertex) → vertex_lines w j (x ∷ []) ≡ write_line w (vertex_line j x)
  unfolding vertex_lines
  vertex-alone j x = append-nil (write_line w (vertex_line j x))

  edge-alone : (e : Edge) → edge_lines w (e ∷ []) ≡ write_line w (edge_line e)
  unfolding edge_lines
  edge-alone e = append-nil (write_line w (edge_line e))

  -- one line more

  vertices_more : (xs : List Vertex) (j : ℕ) → j < length xs
      → vertex_lines w 0 (take j xs) ++ write_line w (vertex_line j (get_or xs j no_vertex)) ≡ vertex_lines w 0 (take (suc j) xs)
  vertices_more xs j h =
      let size : 0 + length (take j xs) ≡ j = omega (arith, length-take-le j xs (omega arith)) in
      sym (rw (take-suc xs j no_vertex h, vertices_append 0 (take j xs) (get_or xs j no_vertex ∷ []), size, vertex-alone))

  edges_more : (xs : List Edge) (i : ℕ) → i < length xs → edge_lines w (take i xs) ++ write_line w (edge_line (get_or xs i no_edge)) ≡ edge_lines w (take (suc i) xs)
  edges_more xs i h = sym (rw (take-suc xs i no_edge h, edges_append (take i xs) (get_or xs i no_edge ∷ []), edge-alone))

  -- ---- so many lines of any kind

  unfoldable pub lines_text : (ℕ → Line) → ℕ → Bytes
  lines_text f zero = []
  lines_text f (suc k) = lines_text f k ++ write_line w (f k)

  module _ (N : Net) (s : Sized N) where
    vertices_text : (j : ℕ) → j ≤ N.vertex_count → lines_text (body_line N) j ≡ vertex_lines w 0 (take j N.vertices)
    unfolding lines_text vertex_lines body_line
    vertices_text zero h = refl
    vertices_text (suc j) h =
        ap (λ (t : Bytes). t ++ write_line w (body_line N j)) (vertices_text j (omega arith))
        ∙ rw (lt-ltb j N.vertex_count h) (vertices_more N.vertices j (omega (arith, s.vertices, s.vertex_places)))

    edge_at_lem : (k : ℕ) → body_line N (N.vertex_count + k) ≡ edge_line (get_or N.edges k no_edge)
    unfolding body_line
    edge_at_lem k =
        let v : ℕ = N.vertex_count in
        let place : v + k - v ≡ k = omega arith in
        rw (le-ltb (v + k) v (omega arith), place)

    edges_text : (k : ℕ) → k ≤ N.edge_count
        → lines_text (body_line N) (N.vertex_count + k) ≡ vertex_lines w 0 (take N.vertex_count N.vertices) ++ edge_lines w (take k N.edges)
    unfolding lines_text edge_lines
    edges_text zero h = rw (add-zero, append-nil) (vertices_text N.vertex_count (omega arith))
    edges_text (suc k) h =
        let v : ℕ = N.vertex_count in
        let vertices : Bytes = vertex_lines w 0 (take v N.vertices) in
        ap (lines_text (body_line N)) (add-suc v k)
        ∙ ap₂ {C = Bytes} (λ t l. t ++ write_line w l) (edges_text k (omega arith)) (edge_at_lem k)
        ∙ append_assoc vertices (edge_lines w (take k N.edges)) (write_line w (edge_line (get_or N.edges k no_edge)))
        ∙ ap (λ (t : Bytes). vertices ++ t) (edges_more N.edges k (omega (arith, s.edges, s.edge_places)))

    -- all of them are the lines of a sheet below its header
    pub body-text : lines_text (body_line N) (N.vertex_count + N.edge_count)
        ≡ vertex_lines w 0 (take N.vertex_count N.vertices) ++ edge_lines w (take N.edge_count N.edges)
    body-text = edges_text N.edge_count (omega arith)

-- ---- the loop: the buffer has the first i of so many lines

pub record LinesWritten (w : Columns) (f : ℕ → Line) (count i at : ℕ) (out : Bytes) : Type 0 where
  pub some_left : i ≤ count
  pub reached : at ≡ line_bytes w * i
  pub front : Front (line_bytes w * count) at (lines_text w f i) out

module _ {w : Columns} {f : ℕ → Line} {count : ℕ} where
  pub lines_start : (out : Bytes) → length out ≡ line_bytes w * count → LinesWritten w f count 0 0 out
  unfolding lines_text
  lines_start out size = record { some_left = omega arith; reached = sym (mul-zero (line_bytes w)); front = nothing out size }

  module _ {i at : ℕ} {out : Bytes} (l : LinesWritten w f count i at out) where
    -- there is room for one line more
    pub lines_room : i < count → at + line_bytes w ≤ line_bytes w * count
    lines_room h = omega (arith, l.reached, mul-suc (line_bytes w) i, mul-le-mul_left {m = suc i} {n = count} (line_bytes w) h)

    pub lines_step : i < count → (end : ℕ) → end ≡ at + line_bytes w → {part : Bytes} → part ≡ write_line w (f i)
        → LinesWritten w f count (i + 1) end (put_mid at (end - at) out part)
    unfolding lines_text
    lines_step h end e q =
        let room = lines_room h in
        record {
          some_left = omega arith;
          reached = omega (arith, l.reached, mul-suc (line_bytes w) i, add-one i);
          front = rw (add-one i) (next_part l.front end q (omega arith) (omega arith) (length-line w (f i) ∙ omega arith));
        }

  pub lines_end : {i at : ℕ} {out : Bytes} → LinesWritten w f count i at out → i ≡ count → out ≡ lines_text w f count
  lines_end {i} {at} {out} l e = all_written l.front (l.reached ∙ ap (λ (n : ℕ). line_bytes w * n) e) ∙ ap (lines_text w f) e

-- a line of L bytes, and n more
pub lines_below : (L n : ℕ) → L * (1 + n) ≡ L + L * n
lines_below L n = mul-add L 1 n ∙ ap (λ (k : ℕ). k + L * n) (mul-one L)
