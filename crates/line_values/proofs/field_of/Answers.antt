-- `field_of` meets its contract: the part that it hands on is the field.
use Rattle.sheet.specs.Line.{field_at}
use Rattle.sheet.proofs.LineSteps.{part}
use Rattle.line_values.proofs.field_of.Goals as goal

pub returns : goal.returns
unfolding field_at
returns c = rw (c.read_field.ensures, part)
