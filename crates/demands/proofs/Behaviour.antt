-- Records of the same net behave alike: every call that settles gives the same, and so does the program's text.
use Prim.Native.Nat.{ℕ, ◌*◌, ◌^◌}
use mathlib.Core.Path.{◌≡◌, refl, sym, ap, ap₂, ◌∙◌}
use mathlib.Core.Bool.{Bool, true, not, cond, ◌&&◌, ◌||◌}
use mathlib.Core.List.{List, [], ◌∷◌, ◌++◌}
use mathlib.Core.Option.{Option}
use lib.Dec.{ltb}
use lib.ListN.{length, take, drop, replicate}
use Rattle.ternary.specs.Lists.{Bytes}
use Rattle.ternary.specs.Bits.{InputState, KeyState}
use Rattle.ternary.specs.Passes.{Settled}
use Rattle.net.specs.declared.Net.{Net}
use Rattle.sheet.specs.declared.Answer.{Answer}
use Rattle.std.specs.Prelude.{Some, None}
use Rattle.std.specs.Prelude.{Option as Answered}
use Rattle.sheet.specs.declared.Job.{Job}
use Rattle.sheet.specs.Rows.{answer, Row, row, when, by_rows}
use Rattle.sheet.specs.Job.{job_of, job_number}
use Rattle.sheet.specs.Valid.{valid}
use Rattle.soundness.specs.Verdict.{verdict_rows, verdict_of}
use Rattle.settlements.specs.Settle.{Settlement, settling, settlement, unsettled, written, settle_under, settle_rows, settle_of}
use Rattle.settlements.specs.Batch.{job_count, pieces, job_width, answer_width, job_rows, job_settlement, Buffers, run_jobs, Batch, batched, batch_rows, batch_of}
use Rattle.output.specs.Output.{goes_on, batch_for, net_text}
use Rattle.output.specs.Text.{job_texts}
use Rattle.writer.specs.SameNet.{SameNet}
use Rattle.writer.proofs.SameGraph.{same_among, same_storage, same_keys, same-key_count, same-excitation}
use Rattle.writer.proofs.SameConditions.{same-stable, same-place_c1, same-test_c2, same-place_c3, same-settled}
use Rattle.demands.specs.Writer.{BehavesAs}

-- ---- what settling gives, of what it takes from the net: letters L, h key nodes, whether the start is stable, and both passes

abbrev states : InputState → InputState → KeyState → ℕ → ℕ → List Row → List Row
states A B q L h rest = row 42 (when (not (ltb A (2 ^ L) && ltb B (2 ^ L)))) ∷ row 43 (when (not (ltb q (2 ^ h)))) ∷ rest

abbrev passed : ℕ → Settled → Bytes → Bytes → Settlement
passed h p R T = settlement (settling 0 0 p.first_steps p.second_steps) (p.r ++ drop h R) (p.t ++ drop h T)

module _ {M N : Net} (s : SameNet M N) where
  same_job : (j : Answered Job) (own : Bytes) → job_settlement M j own ≡ job_settlement N j own
  unfolding job_settlement job_rows settle_under written
  same_job (Some line) own =
      let by : ℕ → ℕ → Bool → Settled → Settlement =
      λ L h stable p. by_rows (states line.old line.new line.start L h (row 44 (when (not stable)) ∷ [])) (passed h p (take h own) (drop h own)) (λ a. unsettled a (take h own) (drop h own)) in
      λ i. by (s.letter_count i) (same-key_count s i) (same-stable s line.old line.start i) (same-settled s line.old line.new line.start i)
  same_job None own = ap (λ (h : ℕ). unsettled (answer (job_number None) 0) (take h own) (drop h own)) (same-key_count s)

  same_width : job_width M ≡ job_width N
  same_width = ap (λ (h : ℕ). 2 * h) (same-key_count s)

  same-jobs : (js : List Bytes) (results answers : Bytes) → run_jobs M js results answers ≡ run_jobs N js results answers
  unfolding run_jobs
  same-jobs [] results answers = refl
  same-jobs (j ∷ js) results answers =
      let by : Settlement → Buffers → Buffers =
      λ x rest.
      record {
        results = (x.r ++ x.t) ++ rest.results;
        answers = (x.answer.number ∷ x.answer.first_steps ∷ x.answer.second_steps ∷ []) ++ rest.answers;
      } in
      ap₂ by
      (ap (λ (w : ℕ). job_settlement M (job_of j) (take w results)) same_width ∙ same_job (job_of j) (take (job_width N) results))
      (ap (λ (w : ℕ). run_jobs M js (drop w results) (drop answer_width answers)) same_width ∙ same-jobs js (drop (job_width N) results) (drop answer_width answers))

-- ---- the calls, which test the record first

module _ {M N : Net} (s : SameNet M N) (valid-m : valid M ≡ true) (valid-n : valid N ≡ true) where
  both_valid : valid M ≡ valid N
  both_valid = valid-m ∙ sym valid-n

  same_verdict : verdict_of M ≡ verdict_of N
  unfolding verdict_of verdict_rows
  same_verdict = rw (both_valid, same-place_c1 s, same-test_c2 s, same-place_c3 s)

  same-settling : (A B : InputState) (q : KeyState) (R T : Bytes) → settle_of M A B q R T ≡ settle_of N A B q R T
  unfolding settle_of settle_rows settle_under written
  same-settling A B q R T =
      let by : Bool → Option ℕ → ℕ → ℕ → Bool → Settled → Settlement =
      λ v c1 L h stable p.
      let short = row 45 (when (ltb (length R) h || ltb (length T) h)) in
      by_rows (row 41 (when (not v)) ∷ row 31 c1 ∷ states A B q L h (short ∷ row 44 (when (not stable)) ∷ [])) (passed h p R T) (λ a. unsettled a R T) in
      λ i. by (both_valid i) (same-place_c1 s i) (s.letter_count i) (same-key_count s i) (same-stable s A q i) (same-settled s A B q i)

  same-batch : (jobs results answers : Bytes) → batch_of M jobs results answers ≡ batch_of N jobs results answers
  unfolding batch_of batch_rows
  same-batch jobs results answers =
      let count = job_count jobs in
      let by : Bool → Option ℕ → ℕ → Buffers → Batch =
      λ v c1 h filled.
      let short = row 45 (when (ltb (length results) (count * (2 * h)) || ltb (length answers) (count * answer_width))) in
      by_rows (row 41 (when (not v)) ∷ row 31 c1 ∷ short ∷ []) (record { answer = answer 0 0; buffers = filled }) (λ a. batched a results answers) in
      λ i. by (both_valid i) (same-place_c1 s i) (same-key_count s i) (same-jobs s (pieces count jobs) results answers i)

  pub same_behaviour : BehavesAs M N
  same_behaviour = record {
    letters = s.letter_count;
    key_nodes = same_keys s;
    storage = same_storage (same_among s);
    excitations = same-excitation s;
    c1 = same-place_c1 s;
    c2 = same-test_c2 s;
    c3 = same-place_c3 s;
    verdict = same_verdict;
    passes = same-settled s;
    settling = same-settling;
    batch = same-batch;
  }

  -- ---- the lines that the program prints for jobs

  same-batch_for : (lines : Bytes) → batch_for M lines ≡ batch_for N lines
  unfolding batch_for
  same-batch_for lines =
      ap (λ (w : ℕ). batch_of M lines (replicate (job_count lines * w) 0) (replicate (job_count lines * answer_width) 0)) (same_width s)
      ∙ same-batch lines _ _

  pub same-net_text : (n : ℕ) (lines : Bytes) → net_text M n lines ≡ net_text N n lines
  unfolding net_text
  same-net_text n lines =
      let by : Answer → ℕ → Batch → Bytes =
      λ a h batch. cond (goes_on a.number) (job_texts h (job_count lines) n batch.buffers.results batch.buffers.answers) [] in
      λ i. by (same_verdict i) (same-key_count s i) (same-batch_for lines i)
