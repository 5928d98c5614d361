-- `key_nodes` meets its contract: the record test, then h, which a valid record keeps within its limit.
use native.Mathlib.Omega.{arith}
use mathlib.Core.Path.{◌≡◌, sym, ◌∙◌}
use mathlib.Core.Bool.{true}
use Rattle.excitations.specs.Fit.{Fit}
use Rattle.sheet.specs.Valid.{valid}
use Rattle.troubles.proofs.FitLaws.{valid_fit}
use Rattle.soundness.proofs.KeyNodesLaws.{no_record, counted}
use Rattle.record_keys.proofs.key_nodes.Goals as goal
use Rattle.record_keys.proofs.key_nodes.Goals.{Else-not-is_record}

valid-record : (c : Else-not-is_record) → valid c.args.net ≡ true
valid-record c = sym c.is_record.ensures ∙ c.if-not-is_record.false

fit : (c : Else-not-is_record) → Fit c.args.net
fit c = valid_fit _ (valid-record c)

pub returns-then-not-is_record : goal.returns-then-not-is_record
returns-then-not-is_record c = no_record _ (sym c.is_record.ensures ∙ c.if-not-is_record.true)

pub key_count-h-requires : goal.key_count-h-requires
key_count-h-requires c = (fit (goal.at.key_count-h-requires c).Else-not-is_record).readable

pub overflow_cast-result : goal.overflow_cast-result
overflow_cast-result c = record { fits = omega (arith, c.key_count-h.ensures, (fit (goal.at.overflow_cast-result c).Else-not-is_record).keys) }

pub returns : goal.returns
returns c = counted _ (valid-record (goal.at.returns c).Else-not-is_record) c.key_count-h.ensures
