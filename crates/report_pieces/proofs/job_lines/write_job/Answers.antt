-- `write_job` meets its contract: four fields, then the vectors. Of the places, s is the start, w after the fields, b after the vectors.
use native.Mathlib.Omega.{arith}
use mathlib.Core.Path.{refl, ◌∙◌}
use mathlib.Core.List.{append_assoc}
use Rattle.sheet.proofs.FrontLaws.{first_part, last_part, all_written}
use Rattle.output.specs.Text.{job_text}
use Rattle.output.proofs.Lengths.{length-four, length_both}
use Rattle.report_pieces.proofs.job_lines.write_job.Goals as goal

pub returns : goal.returns
unfolding job_text
returns c =
    let f₁ = first_part c.args.out.now c.write_four.ensures c.requires.0 (omega arith) (length-four _ _ _ _) in
    let f₂ = last_part f₁ c.write_both.ensures (omega arith) (length_both _ _ _ c.requires.2 ∙ omega arith) in
    all_written f₂ refl ∙ simp append_assoc
