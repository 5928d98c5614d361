-- Demands 2 and 3 on real nets with concrete buffers: no premise of theirs is empty.
-- In plain words (`nands_settle`): when the inputs of the report's three NANDs go from 11 to 00, from the key state 010, then in whatever order the key
-- nodes switch, and whatever else is tried in between, once two rounds have closed under 00 the key state is 101.
use Prim.Native.Nat.{ℕ, zero, suc, ◌≤◌, ◌<◌}
use native.Mathlib.Omega.{arith}
use mathlib.Core.Path.{◌≡◌, refl, subst}
use mathlib.Core.List.{List, [], ◌∷◌}
use lib.Dec.{lit<}
use Rattle.ternary.specs.Bits.{bit}
use Rattle.ternary.specs.Signal.{X, at}
use Rattle.ternary.specs.Run.{Step}
use Rattle.net.specs.Graph.{key_count}
use Rattle.sheet.specs.Record.{accepted}
use Rattle.sheet.specs.Line.{write_number}
use Rattle.sheet.specs.Reading.{read_sheet}
use Rattle.soundness.specs.Verdict.{verdict_rows, verdict_of}
use Rattle.settlements.specs.Settle.{settling}
use Rattle.settlements.specs.Batch.{batch_of}
use Rattle.output.specs.Text.{vector_text, job_text, job_texts}
use Rattle.output.specs.Printed.{printed_line, printed_answer}
use Rattle.output.specs.Output.{first_line, judged_of, opening_text, batch_for, net_text, jobs_text, output_of}
use Rattle.gates.specs.GateRows.{read_gates}
use Rattle.writer_text.specs.Text.{printed as printed-reading}
use Rattle.gates_text.specs.Text.{gate_text_of}
use Rattle.bench_examples.specs.Nets.{worked, three_nands}
use Rattle.demands.specs.Demand3.{run_of}
use Rattle.demands.specs.Kept.{Kept, JobLineKept}
use Rattle.demands.specs.Gates.{GatesKept}
use Rattle.demands.specs.Instance.{lent, nands, nand_gates, worked_net, jobs, batch, printed}
use Rattle.demands.specs.Text.{TextKept}
use Rattle.gates.proofs.Examples.{open_gates}
use Rattle.bench_examples.proofs.Opened.{opened}
use Rattle.demands.proofs.Kept.{settle_kept_on, job_kept_on, settles_at}
use Rattle.demands.proofs.TextKept.{text_kept}
use Rattle.demands.proofs.Gates.{gates_kept}

-- ---- three NANDs, from 11 to 00, from 010; one buffer is longer than the net needs, the other just long enough

nands_read : read_sheet three_nands ≡ accepted nands
unfolding opened nands
nands_read = refl

pub nands_kept : Kept three_nands nands 3 0 2 (lent 4) (lent 3) (record { answer = settling 0 0 2 2; r = X ∷ X ∷ X ∷ 9 ∷ []; t = 1 ∷ 0 ∷ 1 ∷ [] })
unfolding opened nands
nands_kept = settle_kept_on three_nands nands_read 3 0 2 (lent 4) (lent 3) refl refl

three-keys : key_count nands ≡ 3
unfolding opened nands
three-keys = refl

pub nands_settle : (steps : List Step) → 2 ≤ (run_of nands 3 0 2 steps).rounds
    → (k : ℕ) → k < 3 → bit (run_of nands 3 0 2 steps).key k ≡ at (1 ∷ 0 ∷ 1 ∷ []) k
nands_settle steps enough k h = settles_at nands_kept k (rw three-keys h) (binary k h) steps enough
  where
    binary : (k : ℕ) → k < 3 → at (1 ∷ 0 ∷ 1 ∷ []) k < 2
    binary zero h = lit< tt
    binary (suc zero) h = lit< tt
    binary (suc (suc zero)) h = lit< tt
    binary (suc (suc (suc k))) h = absurd (omega arith)

-- ---- the same NANDs as gates: they give the same record, and the program prints its sheet, which settles as above

gates_read : read_gates nand_gates ≡ accepted nands
unfolding opened open_gates nands nand_gates
gates_read = refl

pub nand_gates_kept : GatesKept nand_gates nands
nand_gates_kept = gates_kept nand_gates nands gates_read

pub nand_gates-printed : gate_text_of nand_gates ≡ three_nands
unfolding opened open_gates nand_gates gate_text_of printed-reading
nand_gates-printed = refl

-- ---- document 01's worked net

worked_read : read_sheet worked ≡ accepted worked_net
unfolding opened worked_net
worked_read = refl

-- A, B, q of 0, 1, 1: X in 1 step, then X in 0
pub worked_kept : Kept worked worked_net 0 1 1 (lent 2) (lent 1) (record { answer = settling 0 0 1 0; r = X ∷ 9 ∷ []; t = X ∷ [] })
unfolding opened worked_net
worked_kept = settle_kept_on worked worked_read 0 1 1 (lent 2) (lent 1) refl refl

-- its four jobs in one batch, with result bytes for just as many and answer bytes for one more
pub batch_runs : batch_of worked_net jobs (lent 8) (lent 15) ≡ batch
unfolding opened worked_net jobs
batch_runs = refl

-- jobs 1 and 2 are answered 0
pub job_1_kept : JobLineKept worked worked_net jobs 0 batch
unfolding opened worked_net jobs
job_1_kept = job_kept_on worked worked_read 0 jobs (lent 8) (lent 15) batch_runs refl (lit< tt) refl

pub job_2_kept : JobLineKept worked worked_net jobs 1 batch
unfolding opened worked_net jobs
job_2_kept = job_kept_on worked worked_read 1 jobs (lent 8) (lent 15) batch_runs refl (lit< tt) refl

-- ---- the text of these jobs

text-printed : output_of worked jobs ≡ printed
unfolding opened verdict_rows verdict_of vector_text job_text job_texts first_line judged_of opening_text batch_for net_text jobs_text output_of jobs
text-printed = refl

-- the second line shows answer 0, and that is all that is asked
shows_0 : printed_answer (printed_line (key_count worked_net) 1 printed) ≡ write_number 0
unfolding opened worked_net
shows_0 = refl

pub line_2_kept : TextKept worked worked_net jobs 1 printed
unfolding worked_net
line_2_kept = subst (TextKept worked worked_net jobs 1) text-printed (text_kept worked jobs 1 (rw text-printed shows_0))
