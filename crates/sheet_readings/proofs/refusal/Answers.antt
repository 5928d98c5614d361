-- The record is that of a header of zeros.
use Rattle.sheet.specs.Record.{empty_net}
use Rattle.sheet_readings.proofs.refusal.Goals as goal

pub returns : goal.returns
unfolding empty_net
returns c = rw c.start_net-empty.ensures
