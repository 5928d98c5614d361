-- Reading a gate sheet: the rows of document 02's C-14, each a condition on the bytes with its place, and the answer by the first that holds.
use Rattle.std.specs.Prelude.{ℕ, zero, suc, ◌+◌, ◌/◌, Bool, true, false, cond, not, ◌&&◌, List, [], ◌∷◌, ◌++◌, leb, eqb, length}
use Rattle.std.proofs.Math.Option.{Option}
use Rattle.ternary.specs.Lists.{Bytes}
use Rattle.net.specs.declared.Net.{Net}
use Rattle.net.specs.declared.Symbol.{Symbol}
use Rattle.net.specs.declared.Symbol.TheVariants.{Constant, Letter, Vertex, Unknown}
use Rattle.net.specs.Limits.{most_letters, vertex_base}
use Rattle.net.specs.Symbols.{within, decode}
use Rattle.sheet.specs.declared.Line.{Line}
use Rattle.sheet.specs.declared.Reading.{Reading}
use Rattle.sheet.specs.Rows.{Row, row, when, when_at}
use Rattle.sheet.specs.Record.{read_by}
use Rattle.sheet.specs.Graph.{key_place}
use Rattle.sheet.specs.Reading.{whole_lines}
use Rattle.sheet.specs.SheetRows.{line_at, numbers_of, in_turn, header, fields_row}
use Rattle.gates.specs.declared.Gate.{Gate}
use Rattle.gates.specs.declared.Gate.TheVariants.{Inverter, Nand, Nor}
use Rattle.gates.specs.Limits.{most_gates, gate_columns, gate_line_bytes, most_gate_lines, gate_edition}
use Rattle.gates.specs.Gates.{high, first_output, output_at, gate_net}

-- ---- what a line may hold

-- header: 6, gates, letters, 0, 1
unfoldable pub gate_header_ok : Line → Bool
gate_header_ok h =
    eqb h.kind 6
    && within 1 most_gates h.second
    && leb h.third most_letters
    && eqb h.fourth 0
    && eqb h.fifth gate_edition

-- a symbol is 0, 1, one of L letters, or one of the G outputs
abbrev pub gate_symbol : (G L : ℕ) → Symbol → Bool
gate_symbol G L s = elim s [ Constant c ↦ true | Letter j ↦ leb j L | Vertex v ↦ within first_output (high + G) v | Unknown ↦ false ]

-- line of gate g, counted from 0: 7, type, the symbol of its output, symbol, second symbol; an inverter's last field is 0
unfoldable pub gate_line_ok : (G L g : ℕ) → Line → Bool
gate_line_ok G L g v =
    eqb v.kind 7
    && within 1 3 v.second
    && eqb v.third (vertex_base + output_at g)
    && gate_symbol G L (decode v.fourth)
    && cond (eqb v.second 1) (eqb v.fifth 0) (gate_symbol G L (decode v.fifth))

-- the gate of type 1, 2 or 3 with these symbols; of another type, which its row 52 tells, some gate
unfoldable pub gate_of : (type s t : ℕ) → Gate
gate_of zero s t = Inverter s
gate_of (suc zero) s t = Inverter s
gate_of (suc (suc zero)) s t = Nand s t
gate_of (suc (suc (suc n))) s t = Nor s t

abbrev pub line_gate : Line → Gate
line_gate v = gate_of v.second v.fourth v.fifth

module _ (b : Bytes) where
  -- line n, the header being line 0: its five numbers, or none where it is not five fields
  abbrev pub gate_sheet_line : ℕ → Option Line
  gate_sheet_line n = line_at gate_columns b n

  abbrev pub gate_header : Line
  gate_header = header gate_columns b

  -- G and L
  abbrev pub gate_count : ℕ
  gate_count = gate_header.second

  abbrev pub letter_count : ℕ
  letter_count = gate_header.third

  -- the line of gate g, and the gate that it gives
  abbrev pub gate_line_at : ℕ → Line
  gate_line_at g = numbers_of (gate_sheet_line (1 + g))

  abbrev pub gate_from : ℕ → Gate
  gate_from g = line_gate (gate_line_at g)

  -- the record that the lines of a gate sheet give, be they allowed or not
  unfoldable pub net_of_gates : Net
  net_of_gates = gate_net gate_count gate_from letter_count

  -- ---- the rows

  -- the number of lines is line 1's matter
  unfoldable pub first_line_ok : Bool
  first_line_ok = gate_header_ok gate_header && eqb (length b / gate_line_bytes) (1 + gate_count)

  -- the line of gate g: its fields, then its values; places are numbers of lines, counted from 1
  unfoldable pub gate_line_rows : ℕ → List Row
  gate_line_rows g =
      fields_row gate_columns b (1 + g)
      ∷ row 52 (when_at (suc (1 + g)) (not (gate_line_ok gate_count letter_count g (gate_line_at g))))
      ∷ []

  -- its length; line 1; each gate's line in turn; the key nodes
  unfoldable pub gate_rows : List Row
  gate_rows =
      row 11 (when (not (whole_lines gate_columns most_gate_lines (length b))))
      ∷ fields_row gate_columns b 0
      ∷ row 52 (when_at 1 (not first_line_ok))
      ∷ (in_turn gate_count 0 gate_line_rows ++ row 22 (key_place net_of_gates) ∷ [])

  unfoldable pub read_gates : Reading
  read_gates = read_by gate_rows net_of_gates
