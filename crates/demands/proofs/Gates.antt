-- Gate sheets keep what is promised of them.
use native.Mathlib.Omega.{arith}
use mathlib.Core.Path.{◌≡◌, refl, sym, ap, ◌∙◌}
use mathlib.Core.Bool.{true}
use Rattle.ternary.specs.Lists.{Bytes}
use Rattle.net.specs.declared.Net.{Net}
use Rattle.net.specs.WellFormed.{WellFormed}
use Rattle.sheet.specs.Limits.{field_width}
use Rattle.sheet.specs.Record.{accepted}
use Rattle.sheet.specs.Rows.{NoRow, answer, answered}
use Rattle.sheet.specs.Reading.{read_sheet}
use Rattle.sheet.specs.Valid.{valid}
use Rattle.sheet.specs.Writing.{write_sheet}
use Rattle.sheet.proofs.ReadLaws.{valid_iff_accepted}
use Rattle.sheet.proofs.RowLaws.{positive, answered_zero, first_none, by_rows-first}
use Rattle.sheet.proofs.WriteLaws.{read_write_sheet}
use Rattle.soundness.specs.Verdict.{verdict_rows, verdict_of}
use Rattle.soundness.proofs.VerdictLaws.{verdict_0}
use Rattle.output.specs.Output.{first_line, judged_of}
use Rattle.gates.specs.GateRows.{net_of_gates, gate_rows, read_gates}
use Rattle.gates.proofs.GateRowLaws.{gate_zero, gate_number, gate_refused, gate_accepted, gate_then, accepted-valid, accepted_well_formed, accepted-formula, accepted_outputs, accepted-keys}
use Rattle.writer_text.specs.Text.{printed}
use Rattle.gates_text.specs.Text.{gate_text_of}
use Rattle.demands.specs.Gates.{GateAnswers, GatesKept, GateTextAnswers}

pub demand1_gates : (sheet : Bytes) → GateAnswers sheet (read_gates sheet)
demand1_gates sheet =
    record { answered = record { fit = gate_zero sheet; wrong = gate_number sheet }; empty = gate_refused sheet; read = gate_accepted sheet }

-- a valid record that is well formed has verdict 0
sound : (N : Net) → valid N ≡ true → WellFormed N → verdict_of N ≡ answer 0 0
unfolding verdict_of verdict_rows positive
sound N v w = ap answered ((first_none (verdict_rows N)).1 ((answered_zero (verdict_rows N) refl).0 ((verdict_0 N).1 (v, w))))

pub gates_kept : (sheet : Bytes) (N : Net) → read_gates sheet ≡ accepted N → GatesKept sheet N
gates_kept sheet N e =
    let v = accepted-valid sheet N e in
    let w = accepted_well_formed sheet N e in
    record {
      listed = (valid_iff_accepted field_width (omega arith) N).0 v;
      outputs = λ y. (
        λ o. let r = (accepted_outputs sheet N e y).0 o in (r.0, record { below = r.1; at = r.2 }),
        λ r. (accepted_outputs sheet N e y).1 (r.0, r.1.below, r.1.at),
      );
      key_nodes = λ y k. (accepted_outputs sheet N e y).1 (accepted-keys sheet N e y k);
      by_formula = λ a q y g o. rw (sym o.at) (accepted-formula sheet N e a q g o.below);
      well_formed = w;
      verdict = sound N v w;
    }

-- ---- the program's text

module _ (sheet : Bytes) (f : NoRow (gate_rows sheet)) where
  abbrev N : Net
  N = net_of_gates sheet

  is_valid : valid N ≡ true
  is_valid = accepted-valid sheet N (gate_accepted sheet f)

  text_is : gate_text_of sheet ≡ write_sheet N
  unfolding gate_text_of printed
  text_is = rw (gate_accepted sheet f)

  text_reads : read_sheet (gate_text_of sheet) ≡ accepted N
  text_reads = ap read_sheet text_is ∙ read_write_sheet field_width (omega arith) N is_valid

pub demand1_gate_text : (sheet : Bytes) → GateTextAnswers sheet (gate_text_of sheet)
unfolding gate_text_of printed judged_of
demand1_gate_text sheet =
    record {
      refused = λ n p f. gate_then sheet write_sheet (λ a. first_line a 0) ∙ by_rows-first (gate_rows sheet) _ _ n p f;
      written = text_is sheet;
      reads = text_reads sheet;
      judged_sound = λ f.
          rw (text_reads sheet f, sound (net_of_gates sheet) (is_valid sheet f) (accepted_well_formed sheet (net_of_gates sheet) (gate_accepted sheet f))) refl;
    }
