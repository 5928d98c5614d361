-- Demand 3 over the definitions that the contracts of settling and of a batch name.
use Prim.Native.Nat.{ℕ, ◌-◌, ◌*◌, ◌≤◌, ◌<◌}
use native.Mathlib.Omega.{arith}
use native.Mathlib.Nat.{mul-le-mul_right, suc-mul}
use mathlib.Core.Path.{◌≡◌, refl, sym, ap, ◌∙◌, subst}
use mathlib.Core.Bool.{true}
use mathlib.Core.List.{List, [], ◌∷◌, ◌++◌}
use lib.ListN.{length, take, drop, length-drop}
use lib.Seq.{get_or-take, length-take-le}
use Rattle.ternary.specs.Signal.{at}
use Rattle.ternary.specs.Demand.{Premises}
use Rattle.ternary.proofs.Demand.{demand3}
use Rattle.net.specs.declared.Net.{Net}
use Rattle.net.specs.Graph.{key_count}
use Rattle.net.specs.Network.{network}
use Rattle.net.specs.Ternary.{settled}
use Rattle.sheet.specs.Limits.{field_width}
use Rattle.sheet.specs.Valid.{valid}
use Rattle.sheet.specs.Job.{asks, job_of}
use Rattle.sheet.proofs.ReadLaws.{read_valid}
use Rattle.settlements.specs.Settle.{written, settle_of}
use Rattle.settlements.specs.Batch.{job_count, pieces, job_width, answer_width, run_jobs, batch_of}
use Rattle.settlements.proofs.SettleLaws.{Startable, settle_accepts}
use Rattle.settlements.proofs.BatchLaws.{vectors_of, answer_bytes, settlement_at, results_at, answers_at, length-pieces, piece-at, job_accepts, batch_accepts}
use Rattle.demands.specs.Demand1.{line_of, result_of, answer_of}
use Rattle.demands.specs.Demand3.{Settles, Promise, SettlePromise, JobPromise}
use Rattle.demands.proofs.Vectors.{Holds, settle_holds, job_holds, job_writes}

module _ {sheet : List ℕ} {N : Net} {A B q : ℕ} (s : Settles sheet N A B q) where
  pub premises : Premises N.letter_count (key_count N) (network N) A B q
  premises = record { c1 = s.c1; old = s.old; new = s.new; key = s.key; rest = s.rest }

  pub startable : Startable N A B q
  startable = record { old = record { input = s.old; key = s.key }; new = record { input = s.new; key = s.key }; rest = s.rest }

  pub is_valid : valid N ≡ true
  is_valid = read_valid field_width sheet N s.reads

  -- buffers that hold the passes' vectors keep the promise
  holds_promise : {r t : List ℕ} → Holds N A B q r t → Promise N A B q 0 (settled N A B q).second_steps r t
  holds_promise {r} {t} v = record {
    answer = refl;
    first = λ steps k h. rw (signal r v.holds_r k h) ((demand3 _ _ _ A B q premises steps).first k h);
    second = λ steps enough k h. rw (signal t v.holds_t k h) ((demand3 _ _ _ A B q premises steps).second enough k h);
    most = (demand3 _ _ _ A B q premises []).most;
  }
    where
      signal : (buffer : List ℕ) {vector : List ℕ} → take (key_count N) buffer ≡ vector → (k : ℕ) → k < key_count N → at buffer k ≡ at vector k
      signal buffer e k h = sym (get_or-take (key_count N) buffer k 0 h) ∙ ap (λ (l : List ℕ). at l k) e

  -- DEMAND 3 of settling
  pub demand3_settle : (R T : List ℕ) → key_count N ≤ length R → key_count N ≤ length T → SettlePromise N A B q R T (settle_of N A B q R T)
  unfolding written
  demand3_settle R T hr ht = subst (SettlePromise N A B q R T) (sym (settle_accepts N A B q startable R T is_valid s.c1 hr ht)) (record {
    r-written = refl;
    t-written = refl;
    promise = holds_promise (settle_holds N A B q R T);
  })

  -- DEMAND 3 of a job of a batch: job n, from 0
  pub demand3_job : (jobs results answers : List ℕ) (n : ℕ) → n < job_count jobs → job_of (line_of n jobs) ≡ asks A B q
      → job_count jobs * job_width N ≤ length results → job_count jobs * answer_width ≤ length answers
      → JobPromise N A B q n (batch_of N jobs results answers)
  unfolding written
  demand3_job jobs results answers n h asked hr ha = subst (JobPromise N A B q n) (sym (batch_accepts N jobs results answers is_valid s.c1 hr ha)) (record {
    answer = refl;
    answers = three;
    results = own-bytes;
    promise = rw (three, own-bytes) (holds_promise (job_holds N A B q));
  })
    where
      js : List (List ℕ)
      js = pieces (job_count jobs) jobs

      count : length js ≡ job_count jobs
      count = length-pieces (job_count jobs) jobs

      own : List ℕ
      own = result_of N n results

      settles : settlement_at N js n results ≡ written N A B q (take (key_count N) own) (drop (key_count N) own)
      settles = rw (piece-at (job_count jobs) jobs n h, asked) (job_accepts N A B q startable own)

      room : (w : ℕ) → job_count jobs * w ≤ length results → w ≤ length results - n * w
      room w fits = omega (arith, fits, mul-le-mul_right w h, suc-mul n w)

      own_size : length own ≡ job_width N
      own_size = length-take-le (job_width N) (drop (n * job_width N) results) (rw length-drop (room (job_width N) hr))

      own-bytes : result_of N n (run_jobs N js results answers).results ≡ (settled N A B q).r ++ (settled N A B q).t
      own-bytes = results_at N js results answers n (rw count h) (rw count hr) ∙ ap vectors_of settles ∙ job_writes N A B q own own_size

      three : answer_of n (run_jobs N js results answers).answers ≡ 0 ∷ (settled N A B q).first_steps ∷ (settled N A B q).second_steps ∷ []
      three = answers_at N js results answers n (rw count h) ∙ ap answer_bytes settles
