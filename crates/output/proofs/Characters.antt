-- A job's line shows its own bytes: each 0 and each 1 of r and t is printed as that digit, and no other byte is.
use Prim.Native.Nat.{ℕ, zero, suc, ◌+◌, ◌*◌, ◌≤◌, ◌<◌}
use native.Mathlib.Omega.{arith}
use mathlib.Core.Path.{◌≡◌, refl, sym, ap, ◌∙◌}
use mathlib.Core.Bool.{cond}
use mathlib.Core.Logic.{inl, inr, ⊎_elim, ◌↔◌, ◌≢◌}
use mathlib.Core.List.{List, [], ◌∷◌, ◌++◌, map, append_assoc}
use lib.Dec.{eqb}
use lib.ListN.{length, take, drop, replicate, length-drop, get_or-replicate}
use lib.Seq.{take_at, drop_at, take_all, drop-drop, get_or-take, length-take-le}
use borrow.Author.Tests.{ne_eqb}
use Rattle.ternary.specs.Signal.{Against, at}
use Rattle.ternary.proofs.ListLaws.{get_or-map_lt}
use Rattle.ternary.proofs.Tests.{by_test}
use Rattle.sheet.specs.Limits.{field_width, blank, digit_zero, line_end}
use Rattle.sheet.specs.Line.{write_number}
use Rattle.output.specs.Limits.{four_fields, letter_x, hyphen}
use Rattle.output.specs.Text.{character, vector_text, job_text}
use Rattle.output.specs.Printed.{printed_numbers, printed_answer, printed_r, printed_t, AgainstPrinted}
use Rattle.output.proofs.Lengths.{length-number, length-four, length_vector}

-- ---- one character

pub character_zero : (s : ℕ) → (character s ≡ digit_zero) ↔ (s ≡ 0)
character_zero zero = (λ _. refl, λ _. refl)
character_zero (suc zero) = (λ e. absurd (omega arith), λ e. absurd (omega arith))
character_zero (suc (suc s)) = (λ e. absurd (omega arith), λ e. absurd (omega arith))

pub character_one : (s : ℕ) → (character s ≡ suc digit_zero) ↔ (s ≡ 1)
character_one zero = (λ e. absurd (omega arith), λ e. absurd (omega arith))
character_one (suc zero) = (λ _. refl, λ _. refl)
character_one (suc (suc s)) = (λ e. absurd (omega arith), λ e. absurd (omega arith))

-- as the code chooses it
pub digit-character : (s : ℕ) → s ≤ 1 → digit_zero + s ≡ character s
digit-character zero h = refl
digit-character (suc zero) h = refl
digit-character (suc (suc s)) h = absurd (omega arith)

pub other-character : (s : ℕ) → 1 < s → letter_x ≡ character s
other-character zero h = absurd (omega arith)
other-character (suc zero) h = absurd (omega arith)
other-character (suc (suc s)) h = refl

-- a value is against a printed 0 or 1 exactly if it is against the signal
pub character_against : (s v : ℕ) → AgainstPrinted (character s) v ↔ Against s v
character_against s v = (
  ⊎_elim (λ h. inl ((character_zero s).0 h.0, h.1)) (λ h. inr ((character_one s).0 h.0, h.1)),
  ⊎_elim (λ h. inl ((character_zero s).1 h.0, h.1)) (λ h. inr ((character_one s).1 h.0, h.1)),
)

-- ---- h characters

pub vector_taken : (h : ℕ) (vector : List ℕ) → vector_text h 0 vector ≡ map character (take h vector)
unfolding vector_text
vector_taken h vector = refl

pub vector_settled : (h : ℕ) (vector : List ℕ) → length vector ≡ h → vector_text h 0 vector ≡ map character vector
vector_settled h vector size = vector_taken h vector ∙ ap (map character) (take_all h vector (omega arith))

pub vector_refused : (h number : ℕ) (vector : List ℕ) → number ≢ 0 → vector_text h number vector ≡ replicate h hyphen
unfolding vector_text
vector_refused h number vector refused = rw (ne_eqb number 0 refused)

-- character k, under any answer and under answer 0
pub vector_entry : (h number : ℕ) (vector : List ℕ) → h ≤ length vector → (k : ℕ) → k < h
    → at (vector_text h number vector) k ≡ cond (eqb number 0) (character (at vector k)) hyphen
unfolding vector_text
vector_entry h number vector fits k inside =
    by_test (eqb number 0)
    (λ e. rw (e, get_or-map_lt character (take h vector) k 0 0 (rw (length-take-le h vector fits) inside), get_or-take h vector k 0 inside))
    (λ e. rw e (get_or-replicate h k hyphen 0 inside))

pub vector_at : (h : ℕ) (vector : List ℕ) (k : ℕ) → k < h → h ≤ length vector → at (vector_text h 0 vector) k ≡ character (at vector k)
vector_at h vector k inside fits = vector_entry h 0 vector fits k inside

-- ---- the parts of a job's line

-- the second field is the job's answer
pub answer-printed : (h n : ℕ) (three own : List ℕ) → printed_answer (job_text h n three own) ≡ write_number (at three 0)
unfolding job_text
answer-printed h n three own = simp append_assoc (second (write_number n) (write_number (at three 0)) _ (length-number n) (length-number (at three 0)))
  where
    second : (a b rest : List ℕ) → length a ≡ field_width → length b ≡ field_width → printed_answer (a ++ (b ++ rest)) ≡ b
    second a b rest ea eb = ap (take field_width) (drop_at a (b ++ rest) field_width ea) ∙ take_at b rest field_width eb

module _ (h n : ℕ) (three own : List ℕ) (size : length own ≡ 2 * h) where
  abbrev numbers : List ℕ
  numbers = write_number n ++ write_number (at three 0) ++ write_number (at three 1) ++ write_number (at three 2)

  abbrev r : List ℕ
  r = vector_text h (at three 0) own

  abbrev t : List ℕ
  t = vector_text h (at three 0) (drop h own)

  parts : job_text h n three own ≡ numbers ++ blank ∷ (r ++ blank ∷ (t ++ line_end ∷ []))
  unfolding job_text
  parts = simp append_assoc

  numbers-length : length numbers ≡ four_fields
  numbers-length = length-four n (at three 0) (at three 1) (at three 2)

  r-length : length r ≡ h
  r-length = length_vector h (at three 0) own (omega arith)

  t-length : length t ≡ h
  t-length = length_vector h (at three 0) (drop h own) (rw length-drop (omega arith))

  -- what follows the numbers and the first blank
  after-numbers : drop (four_fields + 1) (job_text h n three own) ≡ r ++ blank ∷ (t ++ line_end ∷ [])
  after-numbers =
      ap (drop (four_fields + 1)) parts ∙ sym (drop-drop 1 four_fields (numbers ++ blank ∷ (r ++ blank ∷ (t ++ line_end ∷ []))))
      ∙ ap (drop 1) (drop_at numbers (blank ∷ (r ++ blank ∷ (t ++ line_end ∷ []))) four_fields numbers-length)

  pub numbers-printed : printed_numbers (job_text h n three own) ≡ numbers
  numbers-printed = ap (take four_fields) parts ∙ take_at numbers _ four_fields numbers-length

  pub r-printed : printed_r h (job_text h n three own) ≡ r
  r-printed = ap (take h) after-numbers ∙ take_at r _ h r-length

  pub t-printed : printed_t h (job_text h n three own) ≡ t
  t-printed = ap (take h) behind ∙ take_at t _ h t-length
    where
      behind : drop (four_fields + 1 + h + 1) (job_text h n three own) ≡ t ++ line_end ∷ []
      behind =
          sym (drop-drop 1 (four_fields + 1 + h) (job_text h n three own))
          ∙ ap (drop 1) (sym (drop-drop h (four_fields + 1) (job_text h n three own)) ∙ ap (drop h) after-numbers ∙ drop_at r (blank ∷ (t ++ line_end ∷ [])) h r-length)
