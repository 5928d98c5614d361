-- Demand 2 over an accepted net, by the laws of the definitions.
use Prim.Native.Nat.{ℕ, ◌≤◌}
use mathlib.Core.Path.{◌≡◌, refl, sym, subst}
use mathlib.Core.Bool.{true}
use mathlib.Core.Logic.Iff
use mathlib.Core.Logic.{◌↔◌}
use mathlib.Core.List.{List}
use lib.ListN.{length}
use Rattle.ternary.specs.Lists.{table}
use Rattle.ternary.specs.Bits.{bit}
use Rattle.ternary.specs.Passes as passes
use Rattle.ternary.proofs.Passes.{first_ends, second-ends, second_signal, first_vector_length, second_vector_length}
use Rattle.net.specs.declared.Net.{Net}
use Rattle.net.specs.Graph.{is_storage, key_count}
use Rattle.net.specs.Excitation.{excitation}
use Rattle.net.specs.Network.{network, Clean}
use Rattle.net.specs.WellFormed.{C1, C2, WellFormed, LowestC1, LowestC3}
use Rattle.net.specs.FourValues.{AsBefore}
use Rattle.net.specs.Known.{Known}
use Rattle.net.specs.Ternary.{settled}
use Rattle.net.proofs.Connected.{excitation_0, excitation_1, excitation_2, excitation_3, excitation_5}
use Rattle.net.proofs.FourValues.{as_before}
use Rattle.net.proofs.TernaryLaws.{first_pass_unknown, second_pass_unknown}
use Rattle.sheet.specs.Limits.{field_width}
use Rattle.sheet.specs.Rows.{answer}
use Rattle.sheet.specs.Record.{accepted}
use Rattle.sheet.specs.Reading.{read_sheet}
use Rattle.sheet.specs.Valid.{valid}
use Rattle.sheet.proofs.ReadLaws.{read_valid}
use Rattle.sheet.proofs.Known.{valid_known}
use Rattle.std.specs.Prelude.{Ok}
use Rattle.soundness.specs.Excited.{excited_of}
use Rattle.soundness.specs.Verdict.{verdict_of}
use Rattle.soundness.proofs.ExcitedLaws.{excited_accepts}
use Rattle.soundness.proofs.VerdictLaws.{verdict_0, verdict_31, verdict_32, verdict_33}
use Rattle.settlements.specs.Settle.{written, settle_of}
use Rattle.settlements.specs.Batch.{Batch}
use Rattle.settlements.proofs.SettleLaws.{settle_accepts}
use Rattle.demands.specs.Demand2.{ExcitationMeans, PassMeans, PassesMean, SettledPasses, SettlePasses, JobPasses}
use Rattle.demands.specs.Demand3.{Settles, JobPromise}
use Rattle.demands.proofs.Vectors.{Holds, vectors_hold, settle_holds, job_holds}
use Rattle.demands.proofs.Demand3.{premises, startable, is_valid}

-- ---- an accepted net

module _ (sheet : List ℕ) (N : Net) (reads : read_sheet sheet ≡ accepted N) where
  ok : valid N ≡ true
  ok = read_valid field_width sheet N reads

  -- the excitation of one vertex, in every clean state
  pub demand2_excitation : (a q y : ℕ) → Clean N a q → is_storage N y ≡ true → (v : ℕ) × (excited_of N a q y ≡ Ok v) × ExcitationMeans N a q y v
  demand2_excitation a q y c s = (
    excitation N a q y,
    excited_accepts N a q y ok c s,
    record {
      zero = excitation_0 N a q y s;
      one = excitation_1 N a q y s;
      floating = excitation_3 N a q y s;
      fought = excitation_5 N a q y s;
      otherwise = excitation_2 N a q y s;
    },
  )

  -- document 01's four values, and that what follows from them stays
  pub demand2_as_before : AsBefore N
  demand2_as_before = as_before N

  -- the verdict: 0 exactly if C1 to C3 hold over all clean states
  pub demand2_well_formed : ((verdict_of N).number ≡ 0) ↔ WellFormed N
  demand2_well_formed = Iff.trans (verdict_0 N) (λ h. h.1, λ w. (ok, w))

  -- 31, 32 and 33: the first condition broken, with the lowest offender
  pub demand2_31 : (v : ℕ) → (verdict_of N ≡ answer 31 v) ↔ LowestC1 N v
  demand2_31 v = Iff.trans (verdict_31 N v) (λ h. h.1, λ w. (ok, w))

  pub demand2_32 : (verdict_of N ≡ answer 32 0) ↔ (C1 N × (¬ C2 N))
  demand2_32 = Iff.trans (verdict_32 N 0) (λ h. (h.1, h.2), λ w. (ok, w.0, w.1, refl))

  pub demand2_33 : (y : ℕ) → (verdict_of N ≡ answer 33 y) ↔ (C1 N × C2 N × LowestC3 N y)
  demand2_33 y = Iff.trans (verdict_33 N y) (λ h. (h.1, h.2, h.3), λ w. (ok, w.0, w.1, w.2))

-- ---- both passes, as settling writes them

module _ {sheet : List ℕ} {N : Net} {A B q : ℕ} (s : Settles sheet N A B q) where
  known : Known N
  known = valid_known N (is_valid s)

  r : List ℕ
  r = (settled N A B q).r

  t : List ℕ
  t = (settled N A B q).t

  first_means : PassMeans N (passes.mix N.letter_count A B) (table (key_count N) (bit q)) r (settled N A B q).first_steps
  unfolding r passes.settled passes.iterate
  first_means = record {
    ends = first_ends _ _ (network N) A B q (premises s);
    size = first_vector_length N.letter_count (key_count N) (network N) A B q;
    signals = λ k h. second_signal _ _ (network N) A B q (premises s) 0 k h;
    unknown = λ k h. first_pass_unknown N known A B q (premises s) k h;
  }

  second_means : PassMeans N (table N.letter_count (bit B)) r t (settled N A B q).second_steps
  unfolding r t passes.settled
  second_means =
      let e = second-ends _ _ (network N) A B q (premises s) in
      record {
        ends = e;
        size = second_vector_length N.letter_count (key_count N) (network N) A B q;
        signals = λ k h. rw e.reached (second_signal _ _ (network N) A B q (premises s) (settled N A B q).second_steps k h);
        unknown = λ k h. second_pass_unknown N known A B q (premises s) k h;
      }

  holds_means : {first second : List ℕ} → Holds N A B q first second
      → PassesMean N A B q (settled N A B q).first_steps (settled N A B q).second_steps first second
  unfolding r t
  holds_means v = record { first = rw v.holds_r first_means; second = rw (v.holds_r, v.holds_t) second_means }

  -- DEMAND 2 of the passes, over the counts and the vectors that they give
  pub demand2_settled : SettledPasses N A B q
  demand2_settled = holds_means (vectors_hold N A B q)

  -- over the counts and the bytes that settling gives
  pub demand2_settle : (R T : List ℕ) → key_count N ≤ length R → key_count N ≤ length T → SettlePasses N A B q (settle_of N A B q R T)
  unfolding written
  demand2_settle R T hr ht = subst (SettlePasses N A B q) (sym (settle_accepts N A B q (startable s) R T (is_valid s) s.c1 hr ht))
      (holds_means (settle_holds N A B q R T))

  -- and over those of a job of a batch
  pub demand2_job : {n : ℕ} {S : Batch} → JobPromise N A B q n S → JobPasses N A B q n S
  demand2_job p = rw (p.answers, p.results) (holds_means (job_holds N A B q))
