-- The tests of a length and of the first line, in turn; then the lines of the gates.
use Prim.Native.Nat.{◌+◌, ◌/◌, ◌≤◌}
use native.Mathlib.Omega.{arith}
use mathlib.Core.Path.{◌≡◌, refl, sym, ◌∙◌}
use mathlib.Core.Bool.{true, ◌&&◌}
use lib.Dec.{eqb}
use lib.ListN.{length, take}
use lib.Seq.{length-take-le}
use Rattle.std.specs.Prelude.{Some}
use Rattle.sheet.specs.Line.{read_line, line_answer}
use Rattle.sheet.specs.Reading.{whole_lines}
use Rattle.sheet.proofs.HeaderSteps.{first_line_lem}
use Rattle.gates.specs.Limits.{gate_columns, gate_line_bytes, most_gate_lines}
use Rattle.gates.specs.GateRows.{gate_header_ok}
use Rattle.gates.proofs.FirstLineSteps.{bad_length, bad_first_line, bad_values, first_ok, gates_are, letters_are, letters_few, lines_read_lem}
use Rattle.gates_reader.proofs.read.Goals as goal
use Rattle.gates_reader.proofs.read.Goals.{Else-not-first_line_ok, Else-not-whole_lines, In-Some}

-- the length is allowed, so there is a first line
size-at : (c : Else-not-whole_lines) → whole_lines gate_columns most_gate_lines (length c.args.sheet.now) ≡ true
size-at c = sym c.whole_lines.ensures ∙ c.if-not-whole_lines.false

first-at : (c : Else-not-whole_lines) → gate_line_bytes ≤ length c.args.sheet.now
first-at c = first_line_lem gate_columns c.args.sheet.now most_gate_lines (size-at c) gate_line_bytes refl

-- it is five fields
five-at : (c : In-Some) → line_answer (read_line gate_columns (take gate_line_bytes c.args.sheet.now)) ≡ Some c.in-Some.header
five-at c = sym c.read_line.ensures ∙ c.in-Some.is

-- and its values are allowed
ok_at : (c : Else-not-first_line_ok) →
    let h = c.in-Some.header in
    (gate_header_ok h && eqb (length c.args.sheet.now / gate_line_bytes) (1 + h.second)) ≡ true
ok_at c = sym c.first_line_ok.ensures ∙ c.if-not-first_line_ok.false

pub returns-then-not-whole_lines : goal.returns-then-not-whole_lines
returns-then-not-whole_lines c = c.refusal.ensures ∙ bad_length _ (sym c.whole_lines.ensures ∙ c.if-not-whole_lines.true)

pub slice_bounds-read_line-end : goal.slice_bounds-read_line-end
slice_bounds-read_line-end c = sym (length-take-le gate_line_bytes c.args.sheet.now (first-at (goal.at.slice_bounds-read_line-end c).Else-not-whole_lines))

pub returns-in_default : goal.returns-in_default
returns-in_default c =
    c.refusal-in_default.ensures ∙ bad_first_line _ (size-at (goal.at.returns-in_default c).Else-not-whole_lines) (sym c.read_line.ensures ∙ c.in_default.is)

pub returns-then-not-first_line_ok : goal.returns-then-not-first_line_ok
returns-then-not-first_line_ok c =
    c.refusal-then-not-first_line_ok.ensures
    ∙ bad_values _ (size-at (goal.at.returns-then-not-first_line_ok c).Else-not-whole_lines) _ (five-at (goal.at.returns-then-not-first_line_ok c).In-Some) (sym c.first_line_ok.ensures ∙ c.if-not-first_line_ok.true)

pub overflow_cast-header-2 : goal.overflow_cast-header-2
overflow_cast-header-2 c =
    omega (arith, letters_few c.args.sheet.now (size-at (goal.at.overflow_cast-header-2 c).Else-not-whole_lines) _ (five-at (goal.at.overflow_cast-header-2 c).In-Some) (ok_at (goal.at.overflow_cast-header-2 c).Else-not-first_line_ok))

pub read_lines-requires : goal.read_lines-requires
read_lines-requires c =
    let size = size-at (goal.at.read_lines-requires c).Else-not-whole_lines in
    (first_ok _ size _ (five-at (goal.at.read_lines-requires c).In-Some) (ok_at (goal.at.read_lines-requires c).Else-not-first_line_ok), gates_are _ size _ (five-at (goal.at.read_lines-requires c).In-Some) (ok_at (goal.at.read_lines-requires c).Else-not-first_line_ok), letters_are _ size _ (five-at (goal.at.read_lines-requires c).In-Some) (ok_at (goal.at.read_lines-requires c).Else-not-first_line_ok))

pub returns : goal.returns
returns c =
    c.read_lines.ensures ∙ lines_read_lem _ (size-at (goal.at.returns c).Else-not-whole_lines) _ (five-at (goal.at.returns c).In-Some) (ok_at (goal.at.returns c).Else-not-first_line_ok)
