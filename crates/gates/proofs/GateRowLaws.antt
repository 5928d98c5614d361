-- Reading a gate sheet answers by the rows of C-14, in their order. An accepted one gives a valid record that is well formed, and in every state the excitation
-- of each output is its gate's formula.
use Prim.Native.Nat.{ℕ, zero, suc, ◌+◌, ◌<◌, ◌≤◌}
use native.Mathlib.Omega.{arith}
use mathlib.Core.Path.{◌≡◌, refl, sym, ap, subst, ◌∙◌}
use mathlib.Core.Logic.{◌↔◌}
use mathlib.Core.Bool.{true, cond}
use mathlib.Core.List.{[], ◌∷◌}
use mathlib.Core.Option.{none}
use lib.Dec.{eqb}
use borrow.Author.Tests.{leb-true, not-false}
use Rattle.ternary.specs.Bits.{InputState, KeyState}
use Rattle.ternary.specs.Lists.{Bytes}
use Rattle.ternary.proofs.Tests.{ands}
use Rattle.net.specs.declared.Net.{Net}
use Rattle.net.specs.Limits.{most_letters}
use Rattle.net.specs.Symbols.{within, decode}
use Rattle.net.specs.Graph.{is_output, is_key}
use Rattle.net.specs.Excitation.{excitation}
use Rattle.net.specs.WellFormed.{WellFormed}
use Rattle.net.proofs.Values.{within_low, within-high}
use Rattle.sheet.specs.declared.Answer.{Answer}
use Rattle.sheet.specs.declared.Line.{Line}
use Rattle.sheet.specs.declared.Reading.{Reading}
use Rattle.sheet.specs.Rows.{answer, Row, by_rows, First, NoRow}
use Rattle.sheet.specs.Rows.NoRow.{end, next}
use Rattle.sheet.specs.Record.{refused, accepted, read_by}
use Rattle.sheet.specs.Graph.{key_place}
use Rattle.sheet.specs.SheetRows.{in_turn}
use Rattle.sheet.specs.Valid.{valid}
use Rattle.sheet.proofs.FitSheets.{Passing}
use Rattle.sheet.proofs.RowLaws.{positive, positive-append, none_append, not_held}
use Rattle.sheet.proofs.ReadingLaws.{read_zero, read_number, read_refused, read_accepted, read_then}
use Rattle.sheet.proofs.TurnLaws.{turn_positive, each_turn}
use Rattle.gates.specs.Limits.{most_gates, gate_columns}
use Rattle.gates.specs.Gates.{gate_value, output_at}
use Rattle.gates.specs.GateRows.{gate_symbol, gate_header_ok, gate_of, line_gate, gate_line_ok, gate_count, letter_count, gate_line_at, gate_from, net_of_gates, first_line_ok, gate_line_rows, gate_rows, read_gates}
use Rattle.gates.proofs.Excited.{output-excitation}
use Rattle.gates.proofs.Vertices.{role_output}
use Rattle.gates.proofs.WholeNet.{output_gate}
use Rattle.gates.proofs.Sound.{Allowed, key_gate, gates_well_formed}
use Rattle.gates.proofs.Validity.{gates_valid}

-- ---- an allowed line gives a gate whose symbols are allowed

gate_allowed : (G L n s t : ℕ) → within 1 3 n ≡ true → gate_symbol G L (decode s) ≡ true → cond (eqb n 1) (eqb t 0) (gate_symbol G L (decode t)) ≡ true
    → Allowed G L (gate_of n s t)
unfolding gate_of
gate_allowed G L zero s t w p q = absurd (omega (arith, within_low 1 3 zero w))
gate_allowed G L (suc zero) s t w p q = record { first = p; second = p }
gate_allowed G L (suc (suc zero)) s t w p q = record { first = p; second = q }
gate_allowed G L (suc (suc (suc zero))) s t w p q = record { first = p; second = q }
gate_allowed G L (suc (suc (suc (suc n)))) s t w p q = absurd (omega (arith, within-high 1 3 (suc (suc (suc (suc n)))) w))

pub line_allowed : (G L g : ℕ) (v : Line) → gate_line_ok G L g v ≡ true → Allowed G L (line_gate v)
unfolding gate_line_ok
line_allowed G L g v ok = gate_allowed G L v.second v.fourth v.fifth (search ands) (search ands) (search ands)

module _ (b : Bytes) where
  -- ---- answers

  gate_positive : positive (gate_rows b) ≡ true
  unfolding gate_rows positive gate_line_rows
  gate_positive = positive-append (in_turn (gate_count b) 0 (gate_line_rows b)) _ (turn_positive (gate_count b) 0 (gate_line_rows b) (λ _. refl)) refl

  by_rows_lem : read_gates b ≡ read_by (gate_rows b) (net_of_gates b)
  unfolding read_gates
  by_rows_lem = refl

  -- 0 exactly if no row holds, and n exactly if row n is the first that does
  pub gate_zero : ((read_gates b).answer.number ≡ 0) ↔ NoRow (gate_rows b)
  gate_zero = read_zero (gate_rows b) gate_positive (net_of_gates b) by_rows_lem

  pub gate_number : (n p : ℕ) → 1 ≤ n → ((read_gates b).answer ≡ answer n p) ↔ First (gate_rows b) n p
  gate_number = read_number (gate_rows b) gate_positive (net_of_gates b) by_rows_lem

  pub gate_refused : (n p : ℕ) → First (gate_rows b) n p → read_gates b ≡ refused (answer n p)
  gate_refused = read_refused (gate_rows b) gate_positive (net_of_gates b) by_rows_lem

  pub gate_accepted : NoRow (gate_rows b) → read_gates b ≡ accepted (net_of_gates b)
  gate_accepted = read_accepted (gate_rows b) gate_positive (net_of_gates b) by_rows_lem

  -- what a call gives that reads a gate sheet first
  pub gate_then : {A : Type 0} (good : Net → A) (bad : Answer → A)
      → cond (eqb (read_gates b).answer.number 0) (good (read_gates b).net) (bad (read_gates b).answer) ≡ by_rows (gate_rows b) (good (net_of_gates b)) bad
  gate_then = read_then (gate_rows b) gate_positive (net_of_gates b) by_rows_lem

  -- ---- line 1

  module _ (ok : first_line_ok b ≡ true) where
    pub few_gates : gate_count b ≤ most_gates
    unfolding first_line_ok gate_header_ok
    few_gates = within-high 1 most_gates (gate_count b) (search ands)

    pub few_letters : letter_count b ≤ most_letters
    unfolding first_line_ok gate_header_ok
    few_letters = leb-true (letter_count b) most_letters (search ands)

  -- ---- what it means that no row holds

  record FitGates : Type 0 where
    first : first_line_ok b ≡ true
    lines : (g : ℕ) → g < gate_count b → Passing gate_columns b (1 + g) (gate_line_ok (gate_count b) (letter_count b) g)
    keys : key_place (net_of_gates b) ≡ none

  line_passing : (g : ℕ) → NoRow (gate_line_rows b g) → Passing gate_columns b (1 + g) (gate_line_ok (gate_count b) (letter_count b) g)
  unfolding gate_line_rows
  line_passing g (next h (next k end)) = record { there = not_held (suc (1 + g)) _ h; allowed = not-false _ (not_held (suc (1 + g)) _ k) }

  fit_gates : NoRow (gate_rows b) → FitGates
  unfolding gate_rows
  fit_gates (next size (next there (next first rest))) =
      let parts = none_append (in_turn (gate_count b) 0 (gate_line_rows b)) _ rest in
      record {
        first = not-false _ (not_held 1 _ first);
        lines = λ g h. line_passing g (each_turn (gate_count b) (gate_line_rows b) parts.0 g h);
        keys = last parts.1;
      }
    where
      last : {r : Row} → NoRow (r ∷ []) → r.place ≡ none
      last (next h end) = h

  -- ---- what holds of every accepted gate sheet

  -- the formula of each gate
  abbrev pub ByFormula : Net → Type 0
  ByFormula N = (a : InputState) (q : KeyState) (g : ℕ) → g < gate_count b → excitation N a q (output_at g) ≡ gate_value N a q (gate_from b g)

  -- y is the output of a gate
  abbrev pub GateOutput : ℕ → Type 0
  GateOutput y = (g : ℕ) × (g < gate_count b) × (output_at g ≡ y)

  abbrev Outputs : Net → Type 0
  Outputs N = (y : ℕ) → (is_output N y ≡ true) ↔ GateOutput y

  abbrev Keys : Net → Type 0
  Keys N = (y : ℕ) → is_key N y ≡ true → GateOutput y

  module _ (f : FitGates) where
    allowed : (g : ℕ) → g < gate_count b → Allowed (gate_count b) (letter_count b) (gate_from b g)
    allowed g h = line_allowed (gate_count b) (letter_count b) g (gate_line_at b g) (f.lines g h).allowed

    fit_valid : valid (net_of_gates b) ≡ true
    unfolding net_of_gates
    fit_valid = gates_valid (gate_count b) (gate_from b) (letter_count b) (few_gates f.first) (few_letters f.first) allowed f.keys

    fit_well_formed : WellFormed (net_of_gates b)
    unfolding net_of_gates
    fit_well_formed = gates_well_formed (gate_count b) (gate_from b) (letter_count b) (few_gates f.first) allowed

    fit_formula : ByFormula (net_of_gates b)
    unfolding net_of_gates
    fit_formula a q g h = output-excitation (gate_count b) (gate_from b) (letter_count b) (few_gates f.first) g h a q

    fit_outputs : Outputs (net_of_gates b)
    unfolding net_of_gates
    fit_outputs y = (
      output_gate (gate_count b) (gate_from b) (letter_count b) (few_gates f.first) y,
      λ (g, h, e). rw (sym e) (role_output (gate_count b) (gate_from b) (letter_count b) (few_gates f.first) (output_at g) 2 (omega arith) (omega arith)),
    )

    fit_keys : Keys (net_of_gates b)
    unfolding net_of_gates
    fit_keys y k = key_gate (gate_count b) (gate_from b) (letter_count b) (few_gates f.first) allowed y k

  module _ (N : Net) (e : read_gates b ≡ accepted N) where
    none_holds : NoRow (gate_rows b)
    none_holds = gate_zero.0 (ap (λ (r : Reading). r.answer.number) e)

    pub is_record_lem : net_of_gates b ≡ N
    is_record_lem = ap (λ (r : Reading). r.net) (sym (gate_accepted none_holds) ∙ e)

    pub accepted-valid : valid N ≡ true
    accepted-valid = subst (λ (M : Net). valid M ≡ true) is_record_lem (fit_valid (fit_gates none_holds))

    pub accepted_well_formed : WellFormed N
    accepted_well_formed = subst WellFormed is_record_lem (fit_well_formed (fit_gates none_holds))

    pub accepted-formula : ByFormula N
    accepted-formula = subst ByFormula is_record_lem (fit_formula (fit_gates none_holds))

    -- the outputs of the net are those of the gates, and key nodes are among them
    pub accepted_outputs : (y : ℕ) → (is_output N y ≡ true) ↔ GateOutput y
    accepted_outputs = subst Outputs is_record_lem (fit_outputs (fit_gates none_holds))

    pub accepted-keys : (y : ℕ) → is_key N y ≡ true → GateOutput y
    accepted-keys = subst Keys is_record_lem (fit_keys (fit_gates none_holds))

  -- where the answer is 0 there is a record
  pub gives_record : (read_gates b).answer.number ≡ 0 → valid (read_gates b).net ≡ true
  gives_record z = let none = gate_zero.0 z in rw (gate_accepted none) (fit_valid (fit_gates none))
