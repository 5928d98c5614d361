-- Whoever is answered 0 has demands 2 and 3 kept, with no further premise: that the record is one that a sheet gives, that the net meets C1, that the
-- states are fit and that the buffers are long enough follows from the answer.
use Prim.Native.Nat.{ℕ, zero, suc, ◌≤◌, ◌<◌}
use native.Mathlib.Omega.{arith}
use mathlib.Core.Path.{◌≡◌, refl, ap, subst, ◌∙◌}
use mathlib.Core.Logic.{inl, inr}
use mathlib.Core.List.{List}
use Rattle.ternary.specs.Bits.{bit}
use Rattle.ternary.specs.Signal.{Against, at}
use Rattle.ternary.specs.Run.{Step}
use Rattle.ternary.proofs.BitLaws.{bit_lt}
use Rattle.net.specs.declared.Net.{Net}
use Rattle.net.specs.Graph.{key_count}
use Rattle.net.specs.WellFormed.{C1}
use Rattle.sheet.specs.Record.{accepted}
use Rattle.sheet.specs.Reading.{read_sheet}
use Rattle.sheet.specs.Job.{job_of}
use Rattle.settlements.specs.Settle.{Settlement, settle_of}
use Rattle.settlements.specs.Batch.{job_count, Batch, batch_of}
use Rattle.settlements.proofs.SettleLaws.{Startable, settle_zero}
use Rattle.settlements.proofs.BatchLaws.{batch_zero}
use Rattle.demands.specs.Demand1.{line_of, answer_of}
use Rattle.demands.specs.Demand3.{Settles, run_of}
use Rattle.demands.specs.Kept.{Kept, JobLineKept}
use Rattle.demands.proofs.Fit.{SettleFit, settle_fit, job_line_fit, BatchFit, batch_fit}
use Rattle.demands.proofs.Demand1.{demand1_record, demand1_job}
use Rattle.demands.proofs.Demand2.{demand2_settle, demand2_job}
use Rattle.demands.proofs.Demand3.{demand3_settle, demand3_job}

-- answer 0 tells that no row's condition holds
settle_fits : (N : Net) (A B q : ℕ) (R T : List ℕ) {S : Settlement} → settle_of N A B q R T ≡ S → S.answer.number ≡ 0 → SettleFit N A B q R T
settle_fits N A B q R T e ok = settle_fit N A B q R T ((settle_zero N A B q R T).0 (ap (λ (s : Settlement). s.answer.number) e ∙ ok))

batch-fits : (N : Net) (jobs results answers : List ℕ) → (batch_of N jobs results answers).answer.number ≡ 0 → BatchFit N (job_count jobs) results answers
batch-fits N jobs results answers ok = batch_fit N (job_count jobs) results answers ((batch_zero N jobs results answers).0 ok)

module _ (sheet : List ℕ) {N : Net} (reads : read_sheet sheet ≡ accepted N) where
  pub settles_of : {A B q : ℕ} → C1 N → Startable N A B q → Settles sheet N A B q
  settles_of c1 s = record { reads = reads; c1 = c1; old = s.old.input; new = s.new.input; key = s.old.key; rest = s.rest }

  -- over the sheet that the record was read from
  pub settle_kept_on : (A B q : ℕ) (R T : List ℕ) {S : Settlement} → settle_of N A B q R T ≡ S → S.answer.number ≡ 0 → Kept sheet N A B q R T S
  settle_kept_on A B q R T e ok =
      let fit = settle_fits N A B q R T e ok in
      let s = settles_of fit.c1 fit.startable in
      subst (Kept sheet N A B q R T) e (record {
        settles = s;
        promise = demand3_settle s R T fit.r_room fit.t_room;
        passes = demand2_settle s R T fit.r_room fit.t_room;
      })

  pub job_kept_on : (n : ℕ) (jobs results answers : List ℕ) {S : Batch} → batch_of N jobs results answers ≡ S → S.answer.number ≡ 0
      → n < job_count jobs → at (answer_of n S.buffers.answers) 0 ≡ 0 → JobLineKept sheet N jobs n S
  job_kept_on n jobs results answers e ok h job-ok =
      let whole = ap (λ (b : Batch). b.answer.number) e ∙ ok in
      let room = batch-fits N jobs results answers whole in
      let number = ap (λ (b : Batch). at (answer_of n b.buffers.answers) 0) e ∙ job-ok in
      let fit = job_line_fit N (job_of (line_of n jobs)) ((demand1_job N jobs results answers n h whole).answered.fit.0 number) in
      let s = settles_of room.c1 fit.startable in
      let promise = demand3_job s jobs results answers n h fit.asked room.results_room room.answers_room in
      subst (JobLineKept sheet N jobs n) e (record {
        A = fit.A;
        B = fit.B;
        q = fit.q;
        asked = fit.asked;
        kept = record { settles = s; promise = promise; passes = demand2_job s promise };
      })

-- WHOEVER IS ANSWERED 0: the record is one that some sheet gives, and on it all is kept
pub settle_kept : (N : Net) (A B q : ℕ) (R T : List ℕ) {S : Settlement} → settle_of N A B q R T ≡ S → S.answer.number ≡ 0
    → (sheet : List ℕ) × Kept sheet N A B q R T S
settle_kept N A B q R T e ok =
    let read = (demand1_record N).0 (settle_fits N A B q R T e ok).is_valid in
    (read.0, settle_kept_on read.0 read.1 A B q R T e ok)

-- the batch is answered 0, and the job's own number is 0
pub job_kept : (N : Net) (n : ℕ) (jobs results answers : List ℕ) {S : Batch} → batch_of N jobs results answers ≡ S → S.answer.number ≡ 0
    → n < job_count jobs → at (answer_of n S.buffers.answers) 0 ≡ 0 → (sheet : List ℕ) × JobLineKept sheet N jobs n S
job_kept N n jobs results answers e ok h job-ok =
    let read = (demand1_record N).0 (batch-fits N jobs results answers (ap (λ (b : Batch). b.answer.number) e ∙ ok)).is_valid in
    (read.0, job_kept_on read.0 read.1 n jobs results answers e ok h job-ok)

-- a binary value that is not against a binary signal equals it
equals : (s v : ℕ) → s < 2 → v < 2 → ¬ Against s v → v ≡ s
equals zero zero hs hv f = refl
equals zero (suc zero) hs hv f = absurd (f (inl (refl, refl)))
equals (suc zero) zero hs hv f = absurd (f (inr (refl, refl)))
equals (suc zero) (suc zero) hs hv f = refl
equals zero (suc (suc v)) hs hv f = absurd (omega arith)
equals (suc zero) (suc (suc v)) hs hv f = absurd (omega arith)
equals (suc (suc s)) v hs hv f = absurd (omega arith)

-- where the second pass left a 0 or 1, that is the key node's value once as many rounds have closed as that pass counted steps
pub settles_at : {sheet : List ℕ} {N : Net} {A B q : ℕ} {R T : List ℕ} {S : Settlement} → Kept sheet N A B q R T S
    → (k : ℕ) → k < key_count N → at S.t k < 2
    → (steps : List Step) → S.answer.second_steps ≤ (run_of N A B q steps).rounds → bit (run_of N A B q steps).key k ≡ at S.t k
settles_at kept k h binary steps enough = equals _ _ binary (bit_lt _ k) (kept.promise.promise.second steps enough k h)
