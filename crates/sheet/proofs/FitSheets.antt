-- What it means that none of a sheet's rows holds: each of its lines is five fields with values that are allowed.
use Prim.Native.Nat.{ℕ, suc, ◌+◌, ◌/◌, ◌<◌}
use mathlib.Core.Path.{◌≡◌}
use mathlib.Core.Bool.{Bool, true, false}
use mathlib.Core.List.{List}
use mathlib.Core.Option.{none}
use lib.ListN.{length}
use borrow.Author.Tests.{eqb-true, not-false}
use Rattle.sheet.specs.declared.Line.{Line}
use Rattle.sheet.specs.Limits.{line_bytes}
use Rattle.sheet.specs.Rows.{first_row, NoRow}
use Rattle.sheet.specs.Rows.NoRow.{end, next}
use Rattle.sheet.specs.Rules.{header_ok}
use Rattle.sheet.specs.Graph.{graph_rows}
use Rattle.sheet.specs.Reading.{vertex_line_ok, edge_line_ok, size_ok}
use Rattle.sheet.specs.SheetRows.{line_at, is_missing, numbers_of, in_turn, vertex_count_of, edge_count_of, net_in, vertex_rows, edge_rows, rows_in}
use Rattle.sheet.proofs.RowLaws.{first_none, none_append, not_held}
use Rattle.sheet.proofs.TurnLaws.{each_turn}

module _ (w : ℕ) (b : List ℕ) where
  -- line n is five fields, and its values pass the test
  pub record Passing (n : ℕ) (test : Line → Bool) : Type 0 where
    pub there : is_missing (line_at w b n) ≡ false
    pub allowed : test (numbers_of (line_at w b n)) ≡ true

  -- none of the rows holds
  pub record Fit : Type 0 where
    pub size : size_ok w (length b) ≡ true
    pub first : Passing 0 header_ok
    pub lines : length b / line_bytes w ≡ 1 + vertex_count_of w b + edge_count_of w b
    pub vertices : (j : ℕ) → j < vertex_count_of w b → Passing (1 + j) (vertex_line_ok (net_in w b) j)
    pub edges : (i : ℕ) → i < edge_count_of w b → Passing (1 + vertex_count_of w b + i) (edge_line_ok (net_in w b))
    pub graph : first_row (graph_rows (net_in w b)) ≡ none

  vertex_passing : (j : ℕ) → NoRow (vertex_rows w b j) → Passing (1 + j) (vertex_line_ok (net_in w b) j)
  unfolding vertex_rows
  vertex_passing j (next h (next k end)) = record { there = not_held (suc (1 + j)) _ h; allowed = not-false _ (not_held (suc (1 + j)) _ k) }

  edge_passing : (i : ℕ) → NoRow (edge_rows w b i) → Passing (1 + vertex_count_of w b + i) (edge_line_ok (net_in w b))
  unfolding edge_rows
  edge_passing i (next h (next k end)) =
      let p = suc (1 + vertex_count_of w b + i) in
      record { there = not_held p _ h; allowed = not-false _ (not_held p _ k) }

  pub fit : NoRow (rows_in w b) → Fit
  unfolding rows_in
  fit (next size (next there (next allowed (next lines rest)))) =
      let parts = none_append (in_turn (vertex_count_of w b) 0 (vertex_rows w b)) _ rest in
      let later = none_append (in_turn (edge_count_of w b) 0 (edge_rows w b)) _ parts.1 in
      record {
        size = not-false _ (not_held 0 _ size);
        first = record { there = not_held 1 _ there; allowed = not-false _ (not_held 1 _ allowed) };
        lines = eqb-true _ _ (not-false _ (not_held 0 _ lines));
        vertices = λ j h. vertex_passing j (each_turn (vertex_count_of w b) (vertex_rows w b) parts.0 j h);
        edges = λ i h. edge_passing i (each_turn (edge_count_of w b) (edge_rows w b) later.0 i h);
        graph = (first_none (graph_rows (net_in w b))).1 later.1;
      }
