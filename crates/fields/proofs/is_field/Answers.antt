-- `is_field` meets its contract. The columns from i on agree with those of n, and rest is n without the digits to the right (`Agreeing`).
use mathlib.Core.Path.{refl, sym, ◌∙◌}
use Rattle.sheet.proofs.FieldSteps.{last_agrees, last_differs, left_agrees, left-differs}
use Rattle.fields.proofs.is_field.Goals as goal

pub returns-then-b-last : goal.returns-then-b-last
returns-then-b-last c = sym (last_differs _ _ _ refl c.requires (λ e. c.if-b-last.true (e ∙ sym c.last_column.ensures)))

pub loop-i-init : goal.loop-i-init
loop-i-init c = last_agrees _ _ _ refl c.requires (c.if-b-last.false ∙ c.last_column.ensures)

pub returns-then-b-i : goal.returns-then-b-i
returns-then-b-i c =
    sym (left-differs _ _ _ _ _ c.loop-i.invariant c.loop-i-test.true (λ e. c.if-b-i.true (e ∙ sym c.left_column.ensures)))

pub loop-i-preserved : goal.loop-i-preserved
loop-i-preserved c =
    left_agrees _ _ _ _ _ c.loop-i.invariant c.loop-i-test.true (c.if-b-i.false ∙ c.left_column.ensures)
