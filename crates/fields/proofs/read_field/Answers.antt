-- `read_field` meets its contract: of what `value` and `is_field` ensure, and of a wrong width.
use native.Mathlib.Omega.{arith}
use mathlib.Core.Path.{sym, ◌∙◌}
use Rattle.sheet.proofs.FieldSteps.{field_read, field-refused, field_fits, wrong_width}
use Rattle.fields.proofs.read_field.Goals as goal

pub returns-then-b-columns : goal.returns-then-b-columns
returns-then-b-columns c = rw (wrong_width _ _ c.if-b-columns.true)

pub overflow_cast-result : goal.overflow_cast-result
overflow_cast-result c =
    omega (arith, field_fits _ _ _ c.value-n.ensures (sym c.is_field.ensures ∙ c.if-is_field.true) (omega (arith, c.if-b-columns.false, c.requires.held)))

pub returns-then-is_field : goal.returns-then-is_field
returns-then-is_field c =
    rw (← c.if-b-columns.false, field_read _ _ _ c.value-n.ensures (sym c.is_field.ensures ∙ c.if-is_field.true))

pub returns : goal.returns
returns c =
    rw (← c.if-b-columns.false, field-refused _ _ _ c.value-n.ensures (sym c.is_field.ensures ∙ c.if-is_field.false))
