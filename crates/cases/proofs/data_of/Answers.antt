-- The data stand after their size; beyond the input there are none.
use native.Mathlib.Omega.{arith}
use Rattle.cases.specs.Input.{data_of}
use Rattle.cases.proofs.InputLaws.{part_missing}
use Rattle.cases.proofs.data_of.Goals as goal

pub returns-then-input-at : goal.returns-then-input-at
unfolding data_of
returns-then-input-at c = part_missing _ _ _ (omega arith)

pub returns : goal.returns
unfolding data_of
returns c = rw (c.part.ensures, c.number_at-size.ensures)
