-- The jobs of a piece: room for them, and their text by the batch's answer.
use Prim.Native.Nat.{ℕ, ◌-◌, ◌*◌, ◌≤◌}
use native.Mathlib.Omega.{arith}
use native.Mathlib.Nat.{mul-le-mul}
use mathlib.Core.Path.{◌≡◌, sym, ap, ◌∙◌}
use mathlib.Core.List.{List, ◌++◌}
use mathlib.Core.Logic.{◌≢◌}
use lib.ListN.{length, take, drop, length-replicate}
use Rattle.ternary.proofs.Tests.{fails}
use Rattle.net.specs.declared.Net.{Net}
use Rattle.net.specs.Limits.{most_key_nodes}
use Rattle.net.proofs.Filling.{zeros, zeros_part}
use Rattle.sheet.specs.declared.Answer.{Answer}
use Rattle.troubles.proofs.FitLaws.{valid_fit}
use Rattle.soundness.specs.Verdict.{verdict_of}
use Rattle.settlements.specs.Batch.{answer_width, Batch, batched, batch_of}
use Rattle.output.specs.declared.Written.TheVariants.{Bytes}
use Rattle.output.specs.Limits.{piece_jobs, job_bytes, piece_bytes}
use Rattle.output.specs.Text.{job_texts}
use Rattle.output.specs.Output.{goes_on, batch_for, net_text}
use Rattle.output.specs.Calls.{report, put}
use Rattle.output.proofs.Lengths.{length-jobs}
use Rattle.output.proofs.GoesOn.{runs_iff, batch_iff}
use Rattle.output.proofs.Placed.{put_whole, put_none}
use Rattle.report_pieces.specs.Pieces.{Ready}

-- ---- room

pub piece_room : {count width : ℕ} (most : ℕ) → count ≤ piece_jobs → width ≤ most → count * width ≤ piece_jobs * most
piece_room most few narrow = mul-le-mul few narrow

-- a part of zeros, lent from byte 0 on, with as many bytes as its ends give
pub zeros-lent : {k n : ℕ} {l : List ℕ} → k ≤ n → l ≡ zeros n → take (k - 0) l ≡ zeros k
zeros-lent {k = k} {n = n} h e =
    let size : k - 0 ≡ k = omega arith in
    rw (size, e) (zeros_part k n h)

module _ {N : Net} {h count first : ℕ} {lines results answers out : List ℕ} (ready : Ready N h count first lines results answers out) where
  pub keys_few : h ≤ most_key_nodes
  keys_few = omega (arith, ready.keys, (valid_fit N ready.fit).keys)

  pub text_few : count * job_bytes h ≤ piece_bytes
  text_few = piece_room (job_bytes most_key_nodes) ready.few (omega (arith, keys_few))

  pub result_size : length results ≡ count * (2 * h)
  result_size = ap length ready.result_room ∙ length-replicate (count * (2 * h)) 0

  pub answer_size : length answers ≡ count * answer_width
  answer_size = ap length ready.answer_room ∙ length-replicate (count * answer_width) 0

  -- ---- the batch has been run

  module _ (a : Answer) (r s : List ℕ) (ran : batched a r s ≡ batch_of N lines results answers) where
    whole : batched a r s ≡ batch_for N lines
    unfolding batch_for
    whole = ran ∙ rw (ready.result_room, ready.answer_room, ready.keys, ready.counted)

    number : a.number ≡ (batch_for N lines).answer.number
    number = ap (λ (b : Batch). b.answer.number) whole

    pub jobs-refused : a.number ≢ 0 → report (Bytes 0) out ≡ put Bytes piece_bytes (net_text N first lines) out
    unfolding net_text
    jobs-refused ne =
        put_none piece_bytes (net_text N first lines) out ready.text_room
        (rw (fails (goes_on (verdict_of N).number) (λ e. ne (number ∙ (batch_iff N lines).1 ((runs_iff N).0 e)))))

    module _ (e : a.number ≡ 0) where
      jobs_text_lem : net_text N first lines ≡ job_texts h count first r s
      unfolding net_text
      jobs_text_lem = rw ((runs_iff N).1 ((batch_iff N lines).0 (sym number ∙ e)), ← whole, ready.keys, ready.counted)

      pub jobs-written : length r ≡ length results
          → report (Bytes (count * job_bytes h)) (job_texts h count first r s ++ drop (count * job_bytes h) out) ≡ put Bytes piece_bytes (net_text N first lines) out
      jobs-written kept =
          rw jobs_text_lem
          (put_whole Bytes piece_bytes (job_texts h count first r s) out ready.text_room (length-jobs h count first r s (omega (arith, kept, result_size))))
