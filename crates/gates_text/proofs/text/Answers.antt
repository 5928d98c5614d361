-- `text` meets its contract: the room, then what is printed of the reading that the gate sheet gives.
use native.Mathlib.Omega.{arith}
use mathlib.Core.Path.{ap, subst, sym, ◌∙◌}
use Rattle.sheet.specs.declared.Reading.{Reading}
use Rattle.writer_text.specs.Text.{GivesRecord, own_report_of}
use Rattle.writer_text.proofs.TextLaws.{text_short}
use Rattle.gates.proofs.GateRowLaws.{gives_record}
use Rattle.gates_text.specs.Text.{gate_text_of}
use Rattle.gates_text.proofs.text.Goals as goal

pub returns-then-out-lt-MOST_BYTES : goal.returns-then-out-lt-MOST_BYTES
returns-then-out-lt-MOST_BYTES c = text_short _ _ (omega arith)

pub own_text-requires : goal.own_text-requires
own_text-requires c = (subst GivesRecord (sym c.read-reading.ensures) (gives_record _), omega arith)

pub returns : goal.returns
unfolding gate_text_of
returns c =
    c.own_text.ensures ∙ ap (λ (r : Reading). own_report_of r c.args.out.now) c.read-reading.ensures
