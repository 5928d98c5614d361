-- One name that opens the definitions, so that the examples compute.
use Rattle.ternary.specs.Signal.{every}
use Rattle.ternary.specs.Excitation.{common, H}
use Rattle.ternary.specs.Passes.{settle_by, mix, first_pass, second_pass, settled}
use Rattle.sheet.specs.Rows.{by_rows}
use Rattle.sheet.proofs.Sheets.{open_all}
use Rattle.soundness.specs.Excited.{excitation_rows, excited_of}
use Rattle.settlements.specs.Settle.{written, settle_under, settle_rows, settle_of}
use Rattle.settlements.specs.Batch.{job_count, pieces, job_rows, job_settlement, run_jobs, batch_rows, batch_of}

unfoldable pub opened : Unit {0}
unfolding
    open_all every common H settle_by mix first_pass second_pass settled by_rows excitation_rows excited_of written settle_under settle_rows settle_of
    job_count pieces job_rows job_settlement run_jobs batch_rows batch_of
opened = tt
