-- `connections::carry` meets its contract: an edge whose ends are level carries nothing. Assumes nothing.
use mathlib.Core.Path.{sym, ◌∙◌}
use Rattle.excitations.proofs.Levels.{carry-level}
use Rattle.connections.proofs.carry.Goals as goal

pub returns-then-is_level : goal.returns-then-is_level
returns-then-is_level c = let e = sym c.is_level.ensures ∙ c.if-is_level.true in (sym (carry-level _ _ _ _ _ e), sym e)
