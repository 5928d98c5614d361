-- `settle_library::settle_batch` meets its contract: the reader's answer, then the batch. Assumes nothing.
use native.Mathlib.Omega.{arith}
use Rattle.sheet.proofs.Outcome.{valid-at_zero}
use Rattle.troubles.proofs.FitLaws.{valid_fit}
use Rattle.output.proofs.ForCSteps.{batch-refused, batch_run}
use Rattle.settle_library.proofs.settle_batch.Goals as goal

pub returns-then-read-ne0 : goal.returns-then-read-ne0
returns-then-read-ne0 c =
    batch-refused _ _ _ _ _ c.read-reading.ensures c.if-read-ne0.true

pub key_count-keys-requires : goal.key_count-keys-requires
key_count-keys-requires c =
    (valid_fit _ (valid-at_zero _ _ _ c.read-reading.ensures c.if-read-ne0.false)).readable

pub overflow_cast-h : goal.overflow_cast-h
overflow_cast-h c =
    record { fits = omega (arith, c.key_count-keys.ensures, (valid_fit _ (valid-at_zero _ _ _ c.read-reading.ensures c.if-read-ne0.false)).keys) }

pub returns : goal.returns
returns c =
    batch_run _ _ _ _ _ c.read-reading.ensures c.if-read-ne0.false c.batch-whole.ensures c.key_count-keys.ensures
