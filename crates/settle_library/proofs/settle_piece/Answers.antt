-- `settle_library::settle_piece` meets its contract. Assumes nothing.
use Rattle.output.proofs.ForCSteps.{piece-told}
use Rattle.settle_library.proofs.settle_piece.Goals as goal

pub returns : goal.returns
returns c = piece-told c.tell.ensures _ _ _ _ c.piece-wrote.ensures
