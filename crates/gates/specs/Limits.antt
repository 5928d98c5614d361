-- The limits of a gate sheet, each written once.
use Rattle.std.specs.Prelude.{ℕ, ◌+◌, ◌*◌}
use Rattle.sheet.specs.Limits.{Columns, field_width, line_bytes}
use Rattle.gates.specs.declared.GateLimits.{GateLimits}

abbrev pub most_gates : ℕ
most_gates = 24

-- how many columns a field has: a gate sheet keeps those of document 01
abbrev pub gate_columns : Columns
gate_columns = field_width

abbrev pub gate_line_bytes : ℕ
gate_line_bytes = line_bytes gate_columns

-- a header, and a line for each gate
abbrev pub most_gate_lines : ℕ
most_gate_lines = 1 + most_gates

abbrev pub most_gate_bytes : ℕ
most_gate_bytes = gate_line_bytes * most_gate_lines

-- the last number of a header
abbrev pub gate_edition : ℕ
gate_edition = 1

abbrev pub gate_limits : GateLimits
gate_limits =
    record {
      columns = gate_columns;
      line = gate_line_bytes;
      gates = most_gates;
      lines = most_gate_lines;
      bytes = most_gate_bytes;
      edition = gate_edition;
    }
