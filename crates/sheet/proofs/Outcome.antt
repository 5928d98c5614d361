-- Every sheet is accepted, or refused with the empty record, a number of document 01's table for sheets, and a place that this number can have.
use Prim.Native.Nat.{ℕ, suc, ◌+◌, ◌/◌, ◌<◌}
use native.Mathlib.Omega.{arith}
use mathlib.Core.Path.{◌≡◌, sym, ap, subst, ◌∙◌}
use mathlib.Core.Logic.{◌⊎◌, inl, inr}
use mathlib.Core.Bool.{Bool, true, not}
use mathlib.Core.List.{List, [], ◌∷◌, ◌++◌}
use mathlib.Core.Option.{Option}
use lib.Dec.{eqb}
use lib.ListN.{length}
use borrow.Author.Tests.{not-false}
use Rattle.sheet.specs.declared.Answer.{Answer}
use Rattle.sheet.specs.declared.Reading.{Reading}
use Rattle.sheet.specs.Limits.{line_bytes}
use Rattle.sheet.specs.Rows.{row, when_at, First}
use Rattle.sheet.specs.Rows.First.{here, later}
use Rattle.sheet.specs.Record.{accepted}
use Rattle.sheet.specs.Graph.{graph_rows}
use Rattle.sheet.specs.Rules.{header_ok}
use Rattle.sheet.specs.Reading.{vertex_line_ok, edge_line_ok, size_ok, read_in}
use Rattle.sheet.specs.SheetRows.{line_at, is_missing, numbers_of, in_turn, header, vertex_count_of, edge_count_of, net_in, vertex_rows, edge_rows, rows_in}
use Rattle.sheet.specs.Outcome.{Listed, Outcome}
use Rattle.sheet.specs.Outcome.Listed.{size, fields, at_header_line, lines, at_vertex_line, at_edge_line, partner, key_nodes, signals}
use Rattle.sheet.specs.Outcome.Outcome.{accept, refuse}
use Rattle.sheet.specs.Valid.{valid}
use Rattle.sheet.proofs.RowLaws.{RowsAnswer, nothing, found, rows-answer, first-append, not_held, held_at}
use Rattle.sheet.proofs.TurnLaws.{some_turn}
use Rattle.sheet.proofs.RuleLaws.{Counts, header_counts}
use Rattle.sheet.proofs.GraphLaws.{partner_some, key_vertex_lem, signal_vertex}
use Rattle.sheet.proofs.SheetRowLaws.{sheet_zero, sheet_refused, sheet_accepted}
use Rattle.sheet.proofs.ReadLaws.{read_valid}

-- ---- each row of a sheet is listed

-- of a line's two rows
line_listed : (q m : ℕ) (missing allowed : Bool) → Listed 12 q → Listed m q
    → {n p : ℕ} → First (row 12 (when_at q missing) ∷ row m (when_at q (not allowed)) ∷ []) n p → Listed n p
line_listed q m missing allowed a c (here e) = subst (Listed 12) (sym (held_at q missing e)) a
line_listed q m missing allowed a c (later _ (here e)) = subst (Listed m) (sym (held_at q (not allowed) e)) c
line_listed q m missing allowed a c (later _ (later _ none)) = elim none [ ]

module _ (w : ℕ) (b : List ℕ) where
  module _ (c : Counts (vertex_count_of w b) (edge_count_of w b) (header w b).fourth) where
    vertex_listed : (j : ℕ) → j < vertex_count_of w b → {n p : ℕ} → First (vertex_rows w b j) n p → Listed n p
    unfolding vertex_rows
    vertex_listed j h f =
        let few = c.vertices in
        line_listed (suc (1 + j)) 15 (is_missing (line_at w b (1 + j))) (vertex_line_ok (net_in w b) j (numbers_of (line_at w b (1 + j))))
        (fields _ (omega arith) (omega arith)) (at_vertex_line _ (omega arith) (omega arith)) f

    edge_listed : (i : ℕ) → i < edge_count_of w b → {n p : ℕ} → First (edge_rows w b i) n p → Listed n p
    unfolding edge_rows
    edge_listed i h f =
        let few = c.vertices in
        let few_edges = c.edges in
        let n = 1 + vertex_count_of w b + i in
        line_listed (suc n) 16 (is_missing (line_at w b n)) (edge_line_ok (net_in w b) (numbers_of (line_at w b n)))
        (fields _ (omega arith) (omega arith)) (at_edge_line _ (omega arith) (omega arith)) f

    graph_listed : {n p : ℕ} → First (graph_rows (net_in w b)) n p → Listed n p
    unfolding graph_rows net_in
    graph_listed (here {p = p} h) =
        let f = (partner_some (net_in w b) p).0 h in
        partner p (omega (arith, f.line)) (omega (arith, f.line, f.below, c.vertices, c.edges))
    graph_listed (later _ (here {p = p} h)) = let v = key_vertex_lem (net_in w b) p h in key_nodes p v.low (omega (arith, v.high, c.vertices))
    graph_listed (later _ (later _ (here {p = p} h))) = let v = signal_vertex (net_in w b) p h in signals p v.low (omega (arith, v.high, c.vertices))
    graph_listed (later _ (later _ (later _ none))) = elim none [ ]

    body_listed : {n p : ℕ} → First (in_turn (vertex_count_of w b) 0 (vertex_rows w b) ++ (in_turn (edge_count_of w b) 0 (edge_rows w b) ++ graph_rows (net_in w b))) n p → Listed n p
    body_listed f = go (first-append (in_turn (vertex_count_of w b) 0 (vertex_rows w b)) _ f)
      where
        later_listed : {n p : ℕ} → First (in_turn (edge_count_of w b) 0 (edge_rows w b)) n p ⊎ First (graph_rows (net_in w b)) n p → Listed n p
        later_listed (inl g) = let t = some_turn (edge_count_of w b) (edge_rows w b) g in edge_listed t.0 t.1 t.2
        later_listed (inr g) = graph_listed g

        go : {n p : ℕ} → First (in_turn (vertex_count_of w b) 0 (vertex_rows w b)) n p ⊎ First (in_turn (edge_count_of w b) 0 (edge_rows w b) ++ graph_rows (net_in w b)) n p → Listed n p
        go (inl g) = let t = some_turn (vertex_count_of w b) (vertex_rows w b) g in vertex_listed t.0 t.1 t.2
        go (inr g) = later_listed (first-append (in_turn (edge_count_of w b) 0 (edge_rows w b)) (graph_rows (net_in w b)) g)

  listed : {n p : ℕ} → First (rows_in w b) n p → Listed n p
  unfolding rows_in
  listed (here e) = subst (Listed 11) (sym (held_at 0 (not (size_ok w (length b))) e)) size
  listed (later _ (here e)) = subst (Listed 12) (sym (held_at 1 (is_missing (line_at w b 0)) e)) (fields 1 (omega arith) (omega arith))
  listed (later _ (later _ (here e))) = subst (Listed 13) (sym (held_at 1 (not (header_ok (header w b))) e)) at_header_line
  listed (later _ (later _ (later _ (here e)))) = subst (Listed 14) (sym (held_at 0 (not (eqb (length b / line_bytes w) (1 + vertex_count_of w b + edge_count_of w b))) e)) lines
  listed (later _ (later _ (later ok (later _ rest)))) =
      body_listed (header_counts (header w b) (not-false (header_ok (header w b)) (not_held 1 (not (header_ok (header w b))) ok))) rest

  pub outcome : Outcome (read_in w b)
  outcome = go (rows-answer (rows_in w b))
    where
      go : {o : Option Answer} → RowsAnswer (rows_in w b) o → Outcome (read_in w b)
      go (nothing f) = subst Outcome (sym (sheet_accepted w b f)) (accept (net_in w b))
      go (found {n = n} {p = p} f) = subst Outcome (sym (sheet_refused w b n p f)) (refuse (listed f))

  -- ---- number 0 is for the accepted sheets

  pub accepted-at_zero : (read_in w b).answer.number ≡ 0 → read_in w b ≡ accepted (read_in w b).net
  accepted-at_zero e = let a = sheet_accepted w b ((sheet_zero w b).0 e) in a ∙ ap (λ (r : Reading). accepted r.net) (sym a)

-- what the reader answers with number 0 is a valid net
pub valid-at_zero : (w : ℕ) (b : List ℕ) (r : Reading) → r ≡ read_in w b → r.answer.number ≡ 0 → valid r.net ≡ true
valid-at_zero w b r read e = rw read (read_valid w b (read_in w b).net (accepted-at_zero w b (rw read at e)))
