-- `write_line` meets its contract: four fields, the fifth, and the end of the line.
use Prim.Native.Nat.{◌*◌}
use native.Mathlib.Omega.{arith}
use mathlib.Core.Path.{refl, ◌∙◌}
use mathlib.Core.List.{append_assoc}
use lib.ListN.{length-append}
use Rattle.sheet.specs.Limits.{line_end}
use Rattle.sheet.specs.Line.{write_line}
use Rattle.sheet.proofs.FieldLaws.{length-field}
use Rattle.sheet.proofs.FrontLaws.{first_part, next_field, next_byte, all_written}
use Rattle.line_values.proofs.write_line.Goals as goal

pub returns : goal.returns
unfolding write_line
returns c =
    let w = c.args.columns in
    let f₁ = first_part {at = w * 4} c.args.out.now c.write_four.ensures c.requires.1 (omega arith) (simp (length-append, length-field) (omega arith)) in
    let f₂ = next_field f₁ w _ (w * 5) c.write_field.ensures (omega arith) (omega arith) in
    all_written (next_byte f₂ line_end (omega arith)) refl ∙ simp append_assoc
