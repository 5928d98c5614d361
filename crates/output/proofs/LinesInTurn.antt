-- The lines of the jobs, one after the other.
use Prim.Native.Nat.{ℕ, suc, ◌+◌, ◌-◌, ◌*◌, ◌≤◌, ◌<◌}
use native.Mathlib.Nat.{zero-add, add-zero, sub-zero, zero-mul}
use native.Mathlib.Omega.{arith}
use mathlib.Core.Path.{◌≡◌, refl, sym, ap, ◌∙◌}
use mathlib.Core.List.{List, ◌++◌, append_assoc, append-nil}
use lib.ListN.{length, take, drop, length-drop, take-append-drop}
use lib.Seq.{length-take-le, drop-drop}
use borrow.Rule.Slice.PartMut.{put_mid}
use Rattle.settlements.specs.Batch.{answer_width}
use Rattle.sheet.proofs.Parts.{part_width, parts_left, room_now, room_then, part_taken, part_dropped, part_length}
use Rattle.output.specs.Limits.{job_bytes}
use Rattle.output.specs.Text.{job_text, job_texts}
use Rattle.output.proofs.Lengths.{length_job}

-- the lines of the first i jobs stand before `at`, those of the others are to follow, and from `at` on the buffer is as it was
pub record Progress (h count first : ℕ) (results answers out₀ : List ℕ) (i at from place : ℕ) (out : List ℕ) : Type 0 where
  pub within : i ≤ count
  pub kept : length out ≡ length out₀
  pub room : at + (count - i) * job_bytes h ≡ count * job_bytes h
  pub results_room : from + (count - i) * (2 * h) ≤ length results
  pub answers_room : place + (count - i) * answer_width ≤ length answers
  pub same : take at out ++ job_texts h (count - i) (first + i) (drop from results) (drop place answers) ≡ job_texts h count first results answers
  pub rest : drop at out ≡ drop at out₀

pub start : (h count first : ℕ) (results answers out : List ℕ) → count * (2 * h) ≤ length results → count * answer_width ≤ length answers
    → Progress h count first results answers out 0 0 0 0 out
start h count first results answers out hr ha = record {
  within = omega arith;
  kept = refl;
  room = simp (zero-add, sub-zero);
  results_room = simp (zero-add, sub-zero) hr;
  answers_room = simp (zero-add, sub-zero) ha;
  same = simp (add-zero, sub-zero);
  rest = refl;
}

-- one job: of the counts left, one less
module _ {h count first i at from place : ℕ} {results answers out₀ out : List ℕ} (v : Progress h count first results answers out₀ i at from place out) (l : i < count) where
  left : count - i ≡ suc (count - (i + 1))
  left = omega arith

  pub results_now : from + 2 * h ≤ length results
  results_now = room_now (2 * h) from left v.results_room

  pub answers_now : place + answer_width ≤ length answers
  answers_now = room_now answer_width place left v.answers_room

  pub own-length : length (take (from + 2 * h - from) (drop from results)) ≡ 2 * h
  own-length = rw (part_width from (2 * h)) (length-take-le (2 * h) (drop from results) (simp length-drop (omega (arith, results_now))))

  pub three-length : length (take (place + answer_width - place) (drop place answers)) ≡ answer_width
  three-length = rw (part_width place answer_width) (length-take-le answer_width (drop place answers) (simp length-drop (omega (arith, answers_now))))

  module _ (enough : count * job_bytes h ≤ length out₀) where
    fits : at + job_bytes h ≤ length out
    fits = room_now (job_bytes h) at left (omega (arith, v.room, v.kept, enough))

    -- the line of the job at hand
    abbrev line : List ℕ
    line = job_text h (first + i) (take (place + answer_width - place) (drop place answers)) (take (from + 2 * h - from) (drop from results))

    next : {part : List ℕ} → part ≡ line
        → job_texts h (count - i) (first + i) (drop from results) (drop place answers)
        ≡ part ++ job_texts h (count - (i + 1)) (first + (i + 1)) (drop (from + 2 * h) results) (drop (place + answer_width) answers)
    unfolding job_texts
    next e =
        let one : first + (i + 1) ≡ suc (first + i) = omega arith in
        rw (left, e, part_width place answer_width, part_width from (2 * h), one, drop-drop (2 * h) from results, drop-drop answer_width place answers)

    done : {part : List ℕ} → part ≡ line
        → Progress h count first results answers out₀ (i + 1) (at + job_bytes h) (from + 2 * h) (place + answer_width) (put_mid at (job_bytes h) out part)
    done {part} e =
        let size : length part ≡ job_bytes h = ap length e ∙ length_job h _ _ _ own-length in
        record {
          within = omega arith;
          kept = part_length out part at (job_bytes h) fits size ∙ v.kept;
          room = parts_left (job_bytes h) at left ∙ v.room;
          results_room = room_then (2 * h) from left v.results_room;
          answers_room = room_then answer_width place left v.answers_room;
          same = rw (part_taken out part at (job_bytes h) fits size, append_assoc (take at out) part) (rw (next e) at v.same);
          rest = part_dropped out part at (job_bytes h) fits size ∙ ap (drop (job_bytes h)) v.rest ∙ drop-drop (job_bytes h) at out₀;
        }

    -- the same with the width w that the code has
    module _ {w : ℕ} (sized : w ≡ job_bytes h) where
      pub line_now : at + w ≤ length out
      line_now = rw sized fits

      pub line-length : length (take (at + w - at) (drop at out)) ≡ job_bytes h
      line-length = rw (part_width at w, sized) (length-take-le (job_bytes h) (drop at out) (simp length-drop (omega (arith, fits))))

      pub step : {part : List ℕ} → part ≡ line
          → Progress h count first results answers out₀ (i + 1) (at + w) (from + 2 * h) (place + answer_width) (put_mid at (at + w - at) out part)
      step e = rw (part_width at w, sized) (done e)

pub finish : {h count first i at from place : ℕ} {results answers out₀ out : List ℕ} → Progress h count first results answers out₀ i at from place out → count ≤ i
    → out ≡ job_texts h count first results answers ++ drop (count * job_bytes h) out₀
unfolding job_texts
finish {h} {count} {first} {i} {at} {results = results} {answers = answers} {out = out} v l =
    let none : count - i ≡ 0 = omega arith in
    let end : at ≡ count * job_bytes h = simp (none, zero-mul, add-zero) at v.room in
    let texts : take at out ≡ job_texts h count first results answers = simp (none, append-nil) at v.same in
    rw (← texts, ← end, ← v.rest) (sym (take-append-drop at out))
