-- The sheet of a record part by part, and what the calls that write it answer.
use Prim.Native.Nat.{ℕ, ◌+◌, ◌*◌, ◌≤◌, ◌<◌}
use native.Mathlib.Nat.{mul-add, mul-le-mul_left}
use native.Mathlib.Omega.{arith}
use mathlib.Core.Path.{◌≡◌, refl, sym, ap, ap₂, ◌∙◌}
use mathlib.Core.Bool.{true, false}
use mathlib.Core.Logic.{◌↔◌}
use mathlib.Core.List.{List, ◌++◌}
use lib.Dec.{ltb}
use lib.ListN.{length, take, drop, length-append}
use lib.Seq.{length-take-le}
use borrow.Author.Tests.{lt-ltb, le-ltb}
use Rattle.net.specs.declared.Net.{Net}
use Rattle.sheet.specs.Limits.{Columns, most_columns, line_bytes, most_lines, sheet_bytes}
use Rattle.sheet.specs.Line.{write_line}
use Rattle.sheet.specs.Rows.{Row, answer, first_row, by_rows, answered, First, NoRow}
use Rattle.sheet.specs.declared.Answer.{Answer}
use Rattle.sheet.specs.Writing.{header_line, vertex_lines, edge_lines, write_in}
use Rattle.sheet.specs.Valid.{valid}
use Rattle.sheet.proofs.RowLaws.{positive, by_rows-answer, by_rows-first, by_rows_fit, answered_zero, answered_some}
use Rattle.sheet.proofs.LineLaws.{length-line}
use Rattle.sheet.proofs.WriteLaws.{length_vertices, length_edges}
use Rattle.sheet.proofs.Validity.{valid_iff, counts_of}
use Rattle.ternary.specs.Lists.{Bytes}
use Rattle.ternary.proofs.Tests.{by_test}
use Rattle.writer.specs.Agreed.{canonical, canonical_in}
use Rattle.writer.specs.Write.{Writing, writing, writing_rows, writing_by}
use Rattle.writer.specs.Fronts.{Sized, at_front}
use Rattle.writer.proofs.AgreedLaws.{canonical-valid}
use Rattle.writer.proofs.LineSteps.{lines_below}

module _ (w : Columns) where
  -- ---- lengths

  module _ (N : Net) (s : Sized N) where
    pub body-length : length (vertex_lines w 0 (take N.vertex_count N.vertices) ++ edge_lines w (take N.edge_count N.edges))
        ≡ line_bytes w * (N.vertex_count + N.edge_count)
    body-length =
        let v : ℕ = N.vertex_count in
        let e : ℕ = N.edge_count in
        let vertices = length_vertices w 0 (take v N.vertices) ∙ ap (λ (n : ℕ). line_bytes w * n) (length-take-le v N.vertices (omega (arith, s.vertices, s.vertex_places))) in
        let edges = length_edges w (take e N.edges) ∙ ap (λ (n : ℕ). line_bytes w * n) (length-take-le e N.edges (omega (arith, s.edges, s.edge_places))) in
        simp (length-append, vertices, edges) (sym (mul-add (line_bytes w) v e))

    pub sheet_length : length (write_in w N) ≡ line_bytes w * (1 + (N.vertex_count + N.edge_count))
    unfolding write_in
    sheet_length =
        length-append (write_line w (header_line N)) _ ∙ ap₂ ◌+◌ (length-line w (header_line N)) body-length
        ∙ omega (arith, lines_below (line_bytes w) (N.vertex_count + N.edge_count))

  -- no sheet of any width that is read is longer
  pub sheet_most : w ≤ most_columns → (N : Net) → Sized N → line_bytes w * (1 + (N.vertex_count + N.edge_count)) ≤ line_bytes most_columns * most_lines
  sheet_most h N s =
      let lines : 1 + (N.vertex_count + N.edge_count) ≤ most_lines = omega (arith, s.vertices, s.edges) in
      omega (arith, mul-le-mul_left {m = 1 + (N.vertex_count + N.edge_count)} {n = most_lines} (line_bytes w) lines)

pub valid_sized : (N : Net) → valid N ≡ true → Sized N
valid_sized N v =
    let f = (valid_iff N).0 v in
    record { vertices = (counts_of N f).vertices; edges = (counts_of N f).edges; vertex_places = f.vertex_places; edge_places = f.edge_places }

-- every sheet fits where the longest does: the record's own, and the one in the agreed order
pub own-fits : (w : Columns) (N : Net) → valid N ≡ true → length (write_in w N) ≤ sheet_bytes w
own-fits w N v =
    let s = valid_sized N v in
    let lines : 1 + (N.vertex_count + N.edge_count) ≤ most_lines = omega (arith, s.vertices, s.edges) in
    rw (sheet_length w N s) (mul-le-mul_left {m = 1 + (N.vertex_count + N.edge_count)} {n = most_lines} (line_bytes w) lines)

pub canonical-fits : (w : Columns) (N : Net) → valid N ≡ true → length (canonical_in w N) ≤ sheet_bytes w
unfolding canonical_in
canonical-fits w N v = own-fits w (canonical N) (canonical-valid N v)

-- ---- a sheet of so many bytes, where it has room and where it has not

module _ (sheet buffer : Bytes) {n : ℕ} (size : length sheet ≡ n) where
  pub front_short : length buffer < n → writing (answer 51 0) 0 buffer ≡ at_front sheet buffer
  unfolding at_front
  front_short h = rw (size, lt-ltb (length buffer) n h)

  pub front_fits : n ≤ length buffer → {part : Bytes} → part ≡ sheet → writing (answer 0 0) n (part ++ drop n buffer) ≡ at_front sheet buffer
  unfolding at_front
  front_fits h p = rw (size, le-ltb (length buffer) n h, p)

-- ---- the calls, for a sheet of the record

module _ (N : Net) (sheet buffer : Bytes) where
  pub refused_record : valid N ≡ false → writing (answer 41 0) 0 buffer ≡ writing_by N sheet buffer
  unfolding writing_by writing_rows by_rows first_row
  refused_record e = rw e

  pub front_record : valid N ≡ true → at_front sheet buffer ≡ writing_by N sheet buffer
  unfolding writing_by writing_rows by_rows first_row at_front
  front_record v = rw v (by_test (ltb (length buffer) (length sheet)) (λ t. rw t) (λ t. rw t))

  pub written_record : valid N ≡ true → length sheet ≤ length buffer
      → writing_by N sheet buffer ≡ writing (answer 0 0) (length sheet) (sheet ++ drop (length sheet) buffer)
  unfolding writing_by writing_rows by_rows first_row
  written_record v h = rw (v, le-ltb (length buffer) (length sheet) h)

  -- ---- by its rows

  abbrev rows : List Row
  rows = writing_rows N sheet buffer

  writing-answer : (writing_by N sheet buffer).answer ≡ answered (first_row rows)
  unfolding writing_by
  writing-answer = by_rows-answer rows _ _ (λ (x : Writing). x.answer) refl (λ a. refl)

  -- 0 exactly if no row's condition holds
  pub writing_zero : ((writing_by N sheet buffer).answer.number ≡ 0) ↔ NoRow rows
  unfolding writing_rows positive
  writing_zero = rw (ap (λ (a : Answer). a.number) writing-answer) (answered_zero rows refl)

  -- a number with its place exactly if its row is the first that holds
  pub writing-number : (n p : ℕ) → 1 ≤ n → ((writing_by N sheet buffer).answer ≡ answer n p) ↔ First rows n p
  writing-number n p h = rw writing-answer (answered_some rows n p h)

  -- and then the length is 0 and no byte changes
  pub writing-refused : (n p : ℕ) → First rows n p → writing_by N sheet buffer ≡ writing (answer n p) 0 buffer
  unfolding writing_by
  writing-refused n p f = by_rows-first rows _ _ n p f

  -- else the sheet stands at the front, and the bytes beyond it stay
  pub writing_fit : NoRow rows → writing_by N sheet buffer ≡ writing (answer 0 0) (length sheet) (sheet ++ drop (length sheet) buffer)
  unfolding writing_by
  writing_fit f = by_rows_fit rows _ _ f
