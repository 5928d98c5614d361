-- The length of a gate sheet and its first line, as code tests them.
use Prim.Native.Nat.{◌+◌, ◌/◌, ◌≤◌}
use mathlib.Core.Path.{◌≡◌, refl, sym, ap, ◌∙◌}
use mathlib.Core.Bool.{true, false, ◌&&◌}
use lib.Dec.{eqb}
use lib.ListN.{length, take}
use Rattle.ternary.specs.Lists.{Bytes}
use Rattle.net.specs.Limits.{most_letters}
use Rattle.sheet.specs.declared.Line.{Line}
use Rattle.std.specs.Prelude.{Some, None}
use Rattle.sheet.specs.Line.{read_line, line_answer}
use Rattle.sheet.specs.Reading.{whole_lines}
use Rattle.sheet.specs.Record.{refused}
use Rattle.sheet.specs.Rows.{answer, first_row, by_rows}
use Rattle.sheet.specs.SheetRows.{line_at, is_missing}
use Rattle.sheet.proofs.LineSteps.{five_of, unread_of}
use Rattle.gates.specs.Limits.{gate_columns, gate_line_bytes, most_gate_lines}
use Rattle.gates.specs.GateRows.{gate_header_ok, gate_sheet_line, gate_header, gate_count, letter_count, first_line_ok, gate_rows, read_gates}
use Rattle.gates.specs.Building.{gate_rest}
use Rattle.gates.proofs.GateRowLaws.{few_letters}

module _ (b : Bytes) where
  pub bad_length : whole_lines gate_columns most_gate_lines (length b) ≡ false → refused (answer 11 0) ≡ read_gates b
  unfolding read_gates gate_rows by_rows first_row
  bad_length e = rw e

  module _ (size : whole_lines gate_columns most_gate_lines (length b) ≡ true) where
    line_at_0 : gate_sheet_line b 0 ≡ read_line gate_columns (take gate_line_bytes b)
    unfolding line_at
    line_at_0 = refl

    pub bad_first_line : line_answer (read_line gate_columns (take gate_line_bytes b)) ≡ None → refused (answer 12 1) ≡ read_gates b
    unfolding read_gates gate_rows by_rows first_row
    bad_first_line e = rw (size, line_at_0, unread_of (read_line gate_columns (take gate_line_bytes b)) e)

    module _ (h : Line) (five : line_answer (read_line gate_columns (take gate_line_bytes b)) ≡ Some h) where
      header_is : gate_header b ≡ h
      header_is = rw (line_at_0, five_of (read_line gate_columns (take gate_line_bytes b)) h five)

      here : is_missing (gate_sheet_line b 0) ≡ false
      here = rw (line_at_0, five_of (read_line gate_columns (take gate_line_bytes b)) h five)

      first_line_is : first_line_ok b ≡ (gate_header_ok h && eqb (length b / gate_line_bytes) (1 + h.second))
      unfolding first_line_ok
      first_line_is = ap (λ (x : Line). gate_header_ok x && eqb (length b / gate_line_bytes) (1 + x.second)) header_is

      pub bad_values : (gate_header_ok h && eqb (length b / gate_line_bytes) (1 + h.second)) ≡ false → refused (answer 52 1) ≡ read_gates b
      unfolding read_gates gate_rows by_rows first_row
      bad_values e = rw (size, here, first_line_is, e)

      module _ (ok : (gate_header_ok h && eqb (length b / gate_line_bytes) (1 + h.second)) ≡ true) where
        pub first_ok : first_line_ok b ≡ true
        first_ok = first_line_is ∙ ok

        pub gates_are : h.second ≡ gate_count b
        gates_are = ap (λ (x : Line). x.second) (sym header_is)

        pub letters_are : h.third ≡ letter_count b
        letters_are = ap (λ (x : Line). x.third) (sym header_is)

        pub letters_few : h.third ≤ most_letters
        letters_few = rw letters_are (few_letters b first_ok)

        pub lines_read_lem : gate_rest b h.second 0 ≡ read_gates b
        unfolding read_gates gate_rows by_rows first_row gate_rest
        lines_read_lem = rw (gates_are, size, here, first_ok)
