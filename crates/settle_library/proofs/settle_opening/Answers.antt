-- `settle_library::settle_opening` meets its contract. Assumes nothing.
use Rattle.output.proofs.ForCSteps.{opening_told}
use Rattle.settle_library.proofs.settle_opening.Goals as goal

pub returns : goal.returns
returns c = opening_told c.tell.ensures _ _ c.opening-wrote.ensures
