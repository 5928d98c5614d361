-- `refusal` meets its contract: the record, then C1. Assumes nothing.
use mathlib.Core.Path.{◌≡◌, sym, ◌∙◌}
use mathlib.Core.Bool.{true}
use borrow.Author.Rules.{rules}
use Rattle.sheet.specs.Valid.{valid}
use Rattle.troubles.proofs.FitLaws.{valid_fit}
use Rattle.settlements.proofs.RefusalLaws.{refused_record, refused_c1, accepted}
use Rattle.settling.proofs.refusal.Goals as goal
use Rattle.settling.proofs.refusal.Goals.{Else-not-is_record}

-- the record has passed
valid-record : (c : Else-not-is_record) → valid c.args.net ≡ true
valid-record c = sym c.is_record.ensures ∙ c.if-not-is_record.false

pub returns-then-not-is_record-clause-told : goal.returns-then-not-is_record-clause-told
returns-then-not-is_record-clause-told c = refused_record _ (sym c.is_record.ensures ∙ c.if-not-is_record.true)

pub lowest_break-requires : goal.lowest_break-requires
lowest_break-requires c = let h = valid_fit _ (valid-record (goal.at.lowest_break-requires c).Else-not-is_record) in search rules

pub returns-in-Some-clause-told : goal.returns-in-Some-clause-told
returns-in-Some-clause-told c = refused_c1 _ (valid-record (goal.at.returns-in-Some-clause-told c).Else-not-is_record) (sym c.lowest_break.ensures.0 ∙ c.in-Some.is)

pub returns-clause-told : goal.returns-clause-told
returns-clause-told c = accepted _ (valid-record (goal.at.returns-clause-told c).Else-not-is_record) (sym c.lowest_break.ensures.0 ∙ c.in_default.is)
