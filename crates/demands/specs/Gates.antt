-- Gate sheets (document 02, C-14): demand 1 of the call that reads one and of the program's text; and what every accepted one gives.
use Rattle.std.specs.Prelude.{ℕ, ◌<◌, ◌≡◌, true, ◌↔◌}
use Rattle.ternary.specs.Lists.{Bytes}
use Rattle.ternary.specs.Bits.{InputState, KeyState}
use Rattle.net.specs.declared.Net.{Net}
use Rattle.net.specs.Graph.{is_output, is_key, key_count}
use Rattle.net.specs.Excitation.{excitation}
use Rattle.net.specs.WellFormed.{WellFormed}
use Rattle.sheet.specs.declared.Reading.{Reading}
use Rattle.sheet.specs.Rows.{answer, First, NoRow}
use Rattle.sheet.specs.Record.{refused, accepted}
use Rattle.sheet.specs.Reading.{read_sheet}
use Rattle.sheet.specs.Writing.{write_sheet}
use Rattle.soundness.specs.Verdict.{verdict_of}
use Rattle.output.specs.Output.{first_line, judged, judged_of}
use Rattle.gates.specs.Gates.{gate_value, output_at}
use Rattle.gates.specs.GateRows.{gate_count, gate_from, net_of_gates, gate_rows}
use Rattle.demands.specs.Demand1.{Answers}

-- the call: a refusal has the empty record; without one, the record is that of the gates
pub record GateAnswers (sheet : Bytes) (given : Reading) : Type 0 where
  pub answered : Answers (gate_rows sheet) given.answer
  pub empty : (n p : ℕ) → First (gate_rows sheet) n p → given ≡ refused (answer n p)
  pub read : NoRow (gate_rows sheet) → given ≡ accepted (net_of_gates sheet)

-- y is the output of gate g, counted from 0
pub record OutputOf (sheet : Bytes) (y g : ℕ) : Type 0 where
  pub below : g < gate_count sheet
  pub at : output_at g ≡ y

-- the record N of an accepted gate sheet: an accepted sheet of vertices and edges gives it too; its outputs are those of the gates, and each key node is one
-- of them; in every state the excitation of an output is what its gate's formula gives; so C1 holds, and C2 and C3 as well, and the verdict is 0
pub record GatesKept (sheet : Bytes) (N : Net) : Type 0 where
  pub listed : (b : Bytes) × (read_sheet b ≡ accepted N)
  pub outputs : (y : ℕ) → (is_output N y ≡ true) ↔ ((g : ℕ) × OutputOf sheet y g)
  pub key_nodes : (y : ℕ) → is_key N y ≡ true → is_output N y ≡ true
  pub by_formula : (a : InputState) (q : KeyState) (y g : ℕ) → OutputOf sheet y g → excitation N a q y ≡ gate_value N a q (gate_from sheet g)
  pub well_formed : WellFormed N
  pub verdict : verdict_of N ≡ answer 0 0

-- what the program prints for the bytes of a gate sheet: the number and the place under a refusal, else the net's sheet, which reads to that net and is judged
-- to be sound
pub record GateTextAnswers (sheet text : Bytes) : Type 0 where
  pub refused : (n p : ℕ) → First (gate_rows sheet) n p → text ≡ first_line (answer n p) 0
  pub written : NoRow (gate_rows sheet) → text ≡ write_sheet (net_of_gates sheet)
  pub reads : NoRow (gate_rows sheet) → read_sheet text ≡ accepted (net_of_gates sheet)
  pub judged_sound : NoRow (gate_rows sheet) → judged_of text ≡ judged (answer 0 0) (key_count (net_of_gates sheet))
