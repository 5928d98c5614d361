-- `read_line` meets its contract. Places, each from a later one: past the tests of length and end, then past each field that is a number.
use native.Mathlib.Omega.{arith}
use mathlib.Core.Path.{sym, ◌∙◌}
use Rattle.sheet.proofs.LineSteps.{wrong_length, wrong_end, missing_field, all_fields}
use Rattle.line_values.proofs.read_line.Goals as goal

pub returns-then-part-width : goal.returns-then-part-width
returns-then-part-width c = rw (wrong_length _ _ _ c.line_bytes-width.ensures c.if-part-width.true)

pub returns-then-part-width-ne-LINE_END : goal.returns-then-part-width-ne-LINE_END
returns-then-part-width-ne-LINE_END c = rw (wrong_end _ _ _ c.line_bytes-width.ensures c.if-part-width-ne-LINE_END.true)

pub returns-in_err-kind : goal.returns-in_err-kind
returns-in_err-kind c = rw (c.from_residual.ensures, missing_field _ _ 0 (omega arith) (sym c.field_of.ensures ∙ c.in_err-kind.was))

pub returns-in_err-second : goal.returns-in_err-second
returns-in_err-second c = rw (c.from_residual-in_err-second.ensures, missing_field _ _ 1 (omega arith) (sym c.field_of-2.ensures ∙ c.in_err-second.was))

pub returns-in_err-third : goal.returns-in_err-third
returns-in_err-third c = rw (c.from_residual-in_err-third.ensures, missing_field _ _ 2 (omega arith) (sym c.field_of-3.ensures ∙ c.in_err-third.was))

pub returns-in_err-fourth : goal.returns-in_err-fourth
returns-in_err-fourth c = rw (c.from_residual-in_err-fourth.ensures, missing_field _ _ 3 (omega arith) (sym c.field_of-4.ensures ∙ c.in_err-fourth.was))

pub returns-in_err-fifth : goal.returns-in_err-fifth
returns-in_err-fifth c = rw (c.from_residual-in_err-fifth.ensures, missing_field _ _ 4 (omega arith) (sym c.field_of-5.ensures ∙ c.in_err-fifth.was))

pub returns : goal.returns
returns c =
    rw (all_fields _ _ _ c.line_bytes-width.ensures c.if-part-width.false c.if-part-width-ne-LINE_END.false _ _ _ _ _
    (sym c.field_of.ensures ∙ c.in_ok-kind.was)
    (sym c.field_of-2.ensures ∙ c.in_ok-second.was)
    (sym c.field_of-3.ensures ∙ c.in_ok-third.was)
    (sym c.field_of-4.ensures ∙ c.in_ok-fourth.was)
    (sym c.field_of-5.ensures ∙ c.in_ok-fifth.was))
