-- `settling::settle` meets its contract: the record and C1, then the rest. Assumes nothing.
use mathlib.Core.Path.{sym, ◌∙◌}
use Rattle.settlements.proofs.RefusalLaws.{passed, unsettled_by}
use Rattle.settling.proofs.settle.Goals as goal

pub returns-in-Some : goal.returns-in-Some
returns-in-Some c = rw c.refused.ensures (unsettled_by _ _ _ _ _ _ (sym c.refusal.ensures.told ∙ c.in-Some.is))

pub invariant_of-sound : goal.invariant_of-sound
invariant_of-sound c = let p = passed _ (sym c.refusal.ensures.told ∙ c.in_default.is) in record { accepted = p.0; sound = p.1; excited = c.refusal.ensures.excited c.in_default.is }
