-- `prepared::additions` meets its contract. Assumes nothing.
use Rattle.sound_settling.proofs.prepared.additions.Goals as goal

pub returns : goal.returns
returns c = rw c.tables.ensures at c.additions.ensures
