-- `Form::from` meets its contract, form by form.
use native.Mathlib.Omega.{arith}
use Rattle.sheet.proofs.RuleSteps.{form_plain, form_primed, form_unknown}
use Rattle.sheet.proofs.FormFromU8.from.Goals as goal

pub returns-in-0-to-1 : goal.returns-in-0-to-1
returns-in-0-to-1 c = form_plain c.args.form c.in-0-to-1.if-form-lt2-own.true

pub returns-in-2-to-3 : goal.returns-in-2-to-3
returns-in-2-to-3 c = form_primed c.args.form c.in-2-to-3.if-form-lt2-own.false (omega (arith, c.in-2-to-3.if-form-lt4-own.true))

pub returns-in_default : goal.returns-in_default
returns-in_default c = form_unknown c.args.form c.in_default.if-form-lt4-own.false
