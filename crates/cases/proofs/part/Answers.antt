-- The part is handed back where it lies within the input.
use native.Mathlib.Omega.{arith}
use Rattle.cases.proofs.InputLaws.{part_missing, part_there}
use Rattle.cases.proofs.part.Goals as goal

pub returns-then-size-n : goal.returns-then-size-n
returns-then-size-n c = part_missing _ _ _ (omega arith)

pub returns-then-size-n-2 : goal.returns-then-size-n-2
returns-then-size-n-2 c = part_missing _ _ _ (omega arith)

pub returns : goal.returns
returns c = part_there _ _ _ (omega arith)
