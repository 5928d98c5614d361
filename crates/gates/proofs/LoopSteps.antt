-- The steps of the loop over the lines of a gate sheet. Its invariant says that what is left to read gives the whole answer:
--     gateRest b (gateCount b - g) g ≡ gateRest b (gateCount b) 0
use Prim.Native.Nat.{ℕ, suc, ◌+◌, ◌-◌, ◌*◌, ◌/◌, ◌<◌, ◌≤◌}
use native.Mathlib.Nat.{sub-zero}
use native.Mathlib.Numerals.{add-one}
use native.Mathlib.Omega.{arith}
use mathlib.Core.Path.{◌≡◌, refl, sym, ap, ◌∙◌}
use mathlib.Core.Logic.{◌⊎◌, inl, inr}
use mathlib.Core.Bool.{true, false}
use mathlib.Core.List.{[], ◌∷◌}
use mathlib.Core.Option.{Option, none, some}
use lib.ListN.{length}
use borrow.Author.Tests.{eqb-true}
use Rattle.ternary.specs.Lists.{Bytes}
use Rattle.ternary.proofs.Tests.{ands}
use Rattle.ternary.proofs.ListLaws.{below_cases}
use Rattle.net.specs.declared.Net.{Net}
use Rattle.net.specs.Limits.{most_vertices, most_edges}
use Rattle.sheet.specs.declared.Line.{Line}
use Rattle.std.specs.Prelude.{Some, None}
use Rattle.sheet.specs.Checked.{Checked}
use Rattle.sheet.specs.Graph.{graph_rows, key_place}
use Rattle.sheet.specs.Line.{read_line, line_answer}
use Rattle.sheet.specs.Reading.{conclude}
use Rattle.sheet.specs.Record.{refused, accepted}
use Rattle.sheet.specs.Rows.{answer, row, first_row, by_rows}
use Rattle.sheet.specs.SheetRows.{line_at, in_turn}
use Rattle.sheet.proofs.LineSteps.{five_of, unread_of, part}
use Rattle.sheet.proofs.ReaderSteps.{lent}
use Rattle.gates.specs.declared.Gate.{Gate}
use Rattle.gates.specs.Limits.{most_gates, gate_columns, gate_line_bytes}
use Rattle.gates.specs.Gates.{output_at, net_of_first}
use Rattle.gates.specs.GateRows.{line_gate, gate_line_ok, gate_sheet_line, gate_count, letter_count, gate_line_at, gate_from, net_of_gates, first_line_ok, gate_line_rows}
use Rattle.gates.specs.Building.{decode_gate, add_gate, outputs_of, gate_rest}
use Rattle.gates.proofs.BuildLaws.{gate_added, outputs_first}
use Rattle.gates.proofs.Vertices.{inners_few, edges_few}
use Rattle.gates.proofs.Validity.{partners, signals_few, gates_checked}
use Rattle.gates.proofs.GateRowLaws.{line_allowed, few_gates, few_letters}
use Rattle.gates.proofs.LineSteps.{decoded_refused, decoded_gate}

module _ (b : Bytes) where
  abbrev G : ℕ
  G = gate_count b

  abbrev L : ℕ
  L = letter_count b

  -- the values of gate g's line are allowed
  abbrev LineOk : ℕ → Type 0
  LineOk g = gate_line_ok G L g (gate_line_at b g) ≡ true

  -- ---- the next line

  rest_missing : (m g : ℕ) → gate_sheet_line b (1 + g) ≡ none → gate_rest b (suc m) g ≡ refused (answer 12 (suc (1 + g)))
  unfolding gate_rest in_turn gate_line_rows by_rows first_row
  rest_missing m g e = rw (in_turn, e)

  rest_bad : (m g : ℕ) (v : Line) → gate_sheet_line b (1 + g) ≡ some v → gate_line_ok G L g v ≡ false → gate_rest b (suc m) g ≡ refused (answer 52 (suc (1 + g)))
  unfolding gate_rest in_turn gate_line_rows by_rows first_row
  rest_bad m g v e t = rw (in_turn, e, t)

  rest-next : (m g : ℕ) (v : Line) → gate_sheet_line b (1 + g) ≡ some v → gate_line_ok G L g v ≡ true → gate_rest b (suc m) g ≡ gate_rest b m (suc g)
  unfolding gate_rest in_turn gate_line_rows by_rows first_row
  rest-next m g v e t = rw (in_turn, e, t)

  -- ---- the line that is lent

  module _ (at g : ℕ) (place : at ≡ gate_line_bytes * (1 + g)) where
    same_line : read_line gate_columns (lent gate_line_bytes b at) ≡ gate_sheet_line b (1 + g)
    unfolding line_at
    same_line = ap (read_line gate_columns) (part b at gate_line_bytes ∙ rw place)

    not_fields : line_answer (read_line gate_columns (lent gate_line_bytes b at)) ≡ None → gate_sheet_line b (1 + g) ≡ none
    not_fields e = unread_of (gate_sheet_line b (1 + g)) (rw same_line at e)

    five_fields_lem : (v : Line) → line_answer (read_line gate_columns (lent gate_line_bytes b at)) ≡ Some v → gate_sheet_line b (1 + g) ≡ some v
    five_fields_lem v e = five_of (gate_sheet_line b (1 + g)) v (rw same_line at e)

    line_is : (v : Line) → line_answer (read_line gate_columns (lent gate_line_bytes b at)) ≡ Some v → gate_line_at b g ≡ v
    line_is v e = rw (five_fields_lem v e)

    module _ (inv : gate_rest b (G - g) g ≡ gate_rest b G 0) (h : g < G) where
      left : G - g ≡ suc (G - suc g)
      left = omega arith

      stops_12 : line_answer (read_line gate_columns (lent gate_line_bytes b at)) ≡ None → refused (answer 12 (g + 2)) ≡ gate_rest b G 0
      stops_12 e =
          let p : g + 2 ≡ suc (1 + g) = omega arith in
          rw p (sym (rest_missing (G - suc g) g (not_fields e)) ∙ (rw left at inv))

      module _ (v : Line) (e : line_answer (read_line gate_columns (lent gate_line_bytes b at)) ≡ Some v) where
        stops_52 : gate_line_ok G L g v ≡ false → refused (answer 52 (g + 2)) ≡ gate_rest b G 0
        stops_52 t =
            let p : g + 2 ≡ suc (1 + g) = omega arith in
            rw p (sym (rest_bad (G - suc g) g v (five_fields_lem v e) t) ∙ (rw left at inv))

        goes_on_lem : gate_line_ok G L g v ≡ true → gate_rest b (G - (g + 1)) (g + 1) ≡ gate_rest b G 0
        goes_on_lem t = rw (add-one g) (sym (rest-next (G - suc g) g v (five_fields_lem v e) t) ∙ (rw left at inv))

  -- one line more is allowed
  more_ok : (g : ℕ) → ((k : ℕ) → k < g → LineOk k) → LineOk g → (k : ℕ) → k < g + 1 → LineOk k
  more_ok g f t k h = go (below_cases (rw add-one at h))
    where
      go : (k < g) ⊎ (k ≡ g) → LineOk k
      go (inl l) = f k l
      go (inr e) = rw e t

  module _ (first : first_line_ok b ≡ true) where
    all_lines : gate_line_bytes * (1 + G) ≤ length b
    unfolding first_line_ok
    all_lines = let n = eqb-true (length b / gate_line_bytes) (1 + G) (search ands) in omega arith

    -- the record with the gate of a line more
    gate_more : (g : ℕ) → g < G → (N : Net) → N ≡ net_of_first G (gate_from b) L g → (v : Line) → gate_line_at b g ≡ v
        → add_gate N (output_at g) (line_gate v) ≡ net_of_first G (gate_from b) L (g + 1)
    gate_more g h N e v f = rw (e, ← f, add-one g) (gate_added G (gate_from b) L (few_gates b first) g h)

    -- ---- the end

    module _ (all-ok : (k : ℕ) → k < G → LineOk k) where
      checked : Checked (net_of_gates b)
      unfolding net_of_gates
      checked = gates_checked G (gate_from b) L (few_gates b first) (few_letters b first) (λ g h. line_allowed G L g (gate_line_at b g) (all-ok g h))

      -- of the rows over the graph only 22 can hold
      concludes : conclude (net_of_gates b) (first_row (graph_rows (net_of_gates b))) ≡ gate_rest b 0 G
      unfolding gate_rest in_turn net_of_gates graph_rows first_row by_rows conclude
      concludes = rw (in_turn, partners G (gate_from b) L (few_gates b first), signals_few G (gate_from b) L (few_gates b first)) (go (key_place (net_of_gates b)))
        where
          go : (o : Option ℕ) → conclude (net_of_gates b) (first_row (row 22 o ∷ row 23 none ∷ [])) ≡ by_rows (row 22 o ∷ []) (accepted (net_of_gates b)) refused
          go none = refl
          go (some p) = refl

-- ---- the loop: g gates are read into N, and the next line begins at byte `at`

module _ (b : Bytes) where
  pub record SoFarGates (gates letters : ℕ) (N : Net) (at g : ℕ) : Type 0 where
    first : first_line_ok b ≡ true
    all_gates : gates ≡ gate_count b
    all_letters : letters ≡ letter_count b
    few : g ≤ gates
    place : at ≡ gate_line_bytes * (1 + g)
    built : N ≡ net_of_first (gate_count b) (gate_from b) (letter_count b) g
    passed : (k : ℕ) → k < g → LineOk b k
    rest : gate_rest b (gate_count b - g) g ≡ gate_rest b (gate_count b) 0

  pub loop_starts : (gates letters : ℕ) (N : Net) → first_line_ok b ≡ true → gates ≡ gate_count b → letters ≡ letter_count b → N ≡ outputs_of gates letters gates
      → SoFarGates gates letters N gate_line_bytes 0
  loop_starts gates letters N first e f h =
      record {
        first = first;
        all_gates = e;
        all_letters = f;
        few = omega arith;
        place = refl;
        built = h ∙ rw (e, f) (outputs_first (gate_count b) (letter_count b) (few_gates b first) (gate_from b));
        passed = λ k l. absurd (omega arith);
        rest = rw sub-zero;
      }

  module _ {gates letters : ℕ} {N : Net} {at g : ℕ} (s : SoFarGates gates letters N at g) where
    -- the sheet has the next line, and the record room for a gate
    pub next-line : g < gates → at + gate_line_bytes ≤ length b
    next-line h = omega (arith, s.place, s.all_gates, all_lines b s.first)

    pub few_lines : gates ≤ most_gates
    few_lines = rw s.all_gates (few_gates b s.first)

    pub vertex_room : g < gates → N.vertex_count < most_vertices
    unfolding net_of_first
    vertex_room h = rw s.built (omega (arith, few_lines, s.all_gates, inners_few (gate_count b) (gate_from b) g))

    pub edge_room : g < gates → N.edge_count + 4 ≤ most_edges
    unfolding net_of_first
    edge_room h = rw s.built (omega (arith, few_lines, edges_few (gate_count b) (gate_from b) g))

    module _ (h : g < gates) where
      below : g < gate_count b
      below = omega (arith, s.all_gates)

      pub refuses_12 : line_answer (read_line gate_columns (lent gate_line_bytes b at)) ≡ None → refused (answer 12 (g + 2)) ≡ gate_rest b gates 0
      refuses_12 e = rw s.all_gates (stops_12 b at g s.place s.rest below e)

      module _ (v : Line) (five : line_answer (read_line gate_columns (lent gate_line_bytes b at)) ≡ Some v) where
        pub refuses_52 : decode_gate gates letters g v ≡ None → refused (answer 52 (g + 2)) ≡ gate_rest b gates 0
        refuses_52 e =
            let bad = decoded_refused gates letters g v e in
            rw s.all_gates (stops_52 b at g s.place s.rest below v five (rw (s.all_gates, s.all_letters) at bad))

        pub takes_gate : (γ : Gate) → decode_gate gates letters g v ≡ Some γ → SoFarGates gates letters (add_gate N (output_at g) γ) (at + gate_line_bytes) (g + 1)
        takes_gate γ e =
            let decoded = decoded_gate gates letters g v γ e in
            let ok : gate_line_ok (gate_count b) (letter_count b) g v ≡ true = rw (s.all_gates, s.all_letters) at decoded.0 in
            let is = line_is b at g s.place v five in
            record {
              first = s.first;
              all_gates = s.all_gates;
              all_letters = s.all_letters;
              few = omega arith;
              place = omega (arith, s.place);
              built = ap (add_gate N (output_at g)) (sym decoded.1) ∙ gate_more b s.first g below N s.built v is;
              passed = more_ok b g s.passed (rw is ok);
              rest = goes_on_lem b at g s.place s.rest below v five ok;
            }

    module _ (h : gates ≤ g) where
      all_read : g ≡ gate_count b
      all_read = omega (arith, s.few, s.all_gates)

      whole : N ≡ net_of_gates b
      unfolding net_of_gates
      whole = s.built ∙ ap (net_of_first (gate_count b) (gate_from b) (letter_count b)) all_read

      every : (k : ℕ) → k < gate_count b → LineOk b k
      every k l = s.passed k (omega (arith, all_read))

      pub loop_checked : Checked N
      loop_checked = rw whole (checked b s.first every)

      pub loop_ends : conclude N (first_row (graph_rows N)) ≡ gate_rest b gates 0
      loop_ends =
          let none_left : gate_count b - g ≡ 0 = omega (arith, all_read) in
          rw (whole, s.all_gates) (concludes b s.first every ∙ ap (gate_rest b 0) (sym all_read) ∙ (rw none_left at s.rest))
