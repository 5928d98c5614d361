-- `signals::mark_end` meets its contract. Assumes nothing.
use mathlib.Core.Path.{ap, ◌∙◌}
use Rattle.net.specs.Tables.{mark_symbol}
use Rattle.net.proofs.SignalFlags.{mark_member, mark_stranger}
use Rattle.signals.proofs.mark_end.Goals as goal

pub returns-then-member : goal.returns-then-member
returns-then-member c = c.mark_symbol-then-member.ensures ∙ ap (mark_symbol _) c.mark_symbol.ensures ∙ mark_member _ _ _ _ c.if-member.true

pub returns-else-member : goal.returns-else-member
returns-else-member c = mark_stranger _ _ _ _ c.if-member.false
