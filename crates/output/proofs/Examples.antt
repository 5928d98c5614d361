-- Computed examples, byte for byte: document 01's worked example, and one for each other way that an output can go. They open the definitions and use no law.
use Prim.Native.Nat.{ℕ}
use mathlib.Core.Path.{◌≡◌, refl}
use mathlib.Core.List.{List, [], ◌∷◌}
use Rattle.ternary.specs.Signal.{every}
use Rattle.ternary.specs.Excitation.{common, H}
use Rattle.ternary.specs.Passes as passes
use Rattle.net.specs.declared.Net.{Net}
use Rattle.net.proofs.Concrete.{vertex, edge, net}
use Rattle.sheet.specs.Rows.{by_rows}
use Rattle.sheet.specs.Writing.{write_sheet}
use Rattle.sheet.specs.Text.{bytes, text}
use Rattle.sheet.proofs.Sheets.{open_all, worked_sheet}
use Rattle.soundness.specs.Verdict.{verdict_rows, verdict_of}
use Rattle.settlements.specs.Settle.{written, settle_under}
use Rattle.settlements.specs.Batch.{job_count, pieces, job_rows, job_settlement, run_jobs, batch_rows, batch_of}
use Rattle.output.specs.Text.{vector_text, job_text, job_texts}
use Rattle.output.specs.Output.{first_line, judged_of, opening_text, batch_for, net_text, jobs_text, output_of}

opened : Unit {0}
unfolding
    open_all every common H passes.settle_by passes.mix passes.first_pass passes.second_pass passes.settled by_rows verdict_rows verdict_of written settle_under
    job_count pieces job_rows job_settlement run_jobs batch_rows batch_of vector_text job_text job_texts first_line judged_of opening_text batch_for net_text jobs_text output_of
opened = tt

jobs : List ℕ
jobs =
    text (
    "   4   0   1   1   0\n"
    ∷ "   4   0   0   1   0\n"
    ∷ "   4   1   0   1   0\n"
    ∷ "   4   2   0   1   0\n"
    ∷ [])

worked-output : output_of worked_sheet jobs
    ≡ text (
    "   0   0   0   1\n"
    ∷ "   1   0   1   0 X X\n"
    ∷ "   2   0   0   0 1 1\n"
    ∷ "   3  44   0   0 - -\n"
    ∷ "   4  42   0   0 - -\n"
    ∷ [])
unfolding opened jobs
worked-output = refl

-- an empty or missing sheet: the reader's number, and no line of a job
no_sheet : output_of [] jobs ≡ bytes "   0  11   0   0\n"
unfolding opened jobs
no_sheet = refl

-- key node 3 floats at a = 1: after verdict 31 there is no line of a job, and the first line still shows h
floating : Net
unfolding open_all
floating = net (vertex 0 0 ∷ vertex 0 1 ∷ vertex 1 0 ∷ vertex 2 0 ∷ []) (edge 2 3 1 11 ∷ edge 2 4 1 103 ∷ edge 4 1 0 103 ∷ []) 1

floating_output : output_of (write_sheet floating) jobs ≡ bytes "   0  31   3   1\n"
unfolding opened jobs floating
floating_output = refl

-- an edge between the rails fights at a = 1: after verdict 32 the jobs are run; with no key node r and t are empty
fighting : Net
unfolding open_all
fighting = net (vertex 0 0 ∷ vertex 0 1 ∷ vertex 2 0 ∷ []) (edge 1 2 0 11 ∷ []) 1

fighting_output : output_of (write_sheet fighting) (bytes "   4   0   1   0   0\n") ≡ text ("   0  32   0   0\n" ∷ "   1   0   0   0  \n" ∷ [])
unfolding opened fighting
fighting_output = refl

-- three inverters in a row: r comes before t, and key node 1 first
follower : Net
unfolding open_all
follower =
    net (vertex 0 0 ∷ vertex 0 1 ∷ vertex 1 0 ∷ vertex 1 0 ∷ vertex 2 0 ∷ [])
    (edge 2 3 1 11 ∷ edge 3 1 0 11 ∷ edge 2 4 1 103 ∷ edge 4 1 0 103 ∷ edge 2 5 1 104 ∷ edge 5 1 0 104 ∷ [])
    1

-- one byte after the last full line is one more job, refused
follower_output : output_of (write_sheet follower) (bytes "   4   0   1   1   0\n\n")
    ≡ text ("   0   0   0   2\n" ∷ "   1   0   2   2 XX 01\n" ∷ "   2  46   0   0 -- --\n" ∷ [])
unfolding opened follower
follower_output = refl
