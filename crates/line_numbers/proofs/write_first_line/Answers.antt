-- `write_first_line` meets its contract: four fields and the end of the line.
use native.Mathlib.Omega.{arith}
use mathlib.Core.Path.{refl, ◌∙◌}
use mathlib.Core.List.{append_assoc}
use Rattle.sheet.specs.Limits.{line_end}
use Rattle.sheet.proofs.FrontLaws.{first_part, next_byte, all_written}
use Rattle.output.specs.Output.{first_line}
use Rattle.output.proofs.Lengths.{length-four}
use Rattle.line_numbers.proofs.write_first_line.Goals as goal

pub returns : goal.returns
unfolding first_line
returns c =
    let f = first_part c.args.out.now c.write_four.ensures c.requires (omega arith) (length-four _ _ _ _) in
    all_written (next_byte f line_end (omega arith)) refl ∙ simp append_assoc
