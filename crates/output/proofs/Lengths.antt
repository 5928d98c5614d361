-- How long the texts are: every line's width is known before it is written.
use Prim.Native.Nat.{ℕ, zero, suc, ◌+◌, ◌*◌, ◌≤◌}
use native.Mathlib.Nat.{zero-mul, suc-mul}
use native.Mathlib.Omega.{arith}
use mathlib.Core.Path.{◌≡◌, sym, ◌∙◌}
use mathlib.Core.List.{List, [], ◌∷◌, ◌++◌}
use lib.Dec.{eqb}
use lib.ListN.{length, take, drop, length-append, length-drop, length-map, length-replicate}
use lib.Seq.{length-take-le}
use Rattle.ternary.specs.Signal.{at}
use Rattle.ternary.proofs.Tests.{cond_by}
use Rattle.sheet.specs.Limits.{field_width, blank, line_end}
use Rattle.sheet.specs.Line.{write_number}
use Rattle.sheet.specs.declared.Answer.{Answer}
use Rattle.sheet.proofs.FieldLaws.{length-field}
use Rattle.settlements.specs.Batch.{answer_width}
use Rattle.output.specs.Limits.{four_fields, opening_bytes, job_bytes, hyphen}
use Rattle.output.specs.Text.{vector_text, job_text, job_texts}
use Rattle.output.specs.Output.{first_line, opening_text}

pub length-number : (n : ℕ) → length (write_number n) ≡ field_width
length-number n = length-field field_width n

pub length-four : (a b c d : ℕ) → length (write_number a ++ write_number b ++ write_number c ++ write_number d) ≡ four_fields
length-four a b c d = simp (length-append, length-field)

-- ---- the first line

pub length-first : (a : Answer) (h : ℕ) → length (first_line a h) ≡ opening_bytes
unfolding first_line
length-first a h = simp (length-append, length-field)

pub length_opening : (sheet : List ℕ) → length (opening_text sheet) ≡ opening_bytes
unfolding opening_text
length_opening sheet = length-first _ _

-- ---- the line of a job

pub length_vector : (h number : ℕ) (vector : List ℕ) → h ≤ length vector → length (vector_text h number vector) ≡ h
unfolding vector_text
length_vector h number vector fits =
    cond_by (λ (l : List ℕ). length l ≡ h) (eqb number 0) (λ _. rw length-map (length-take-le h vector fits)) (λ _. length-replicate h hyphen)

-- r and t, each after a blank, and the end of the line
pub length_both : (h number : ℕ) (own : List ℕ) → length own ≡ 2 * h
    → length (blank ∷ (vector_text h number own ++ blank ∷ (vector_text h number (drop h own) ++ line_end ∷ []))) ≡ 2 * h + 3
length_both h number own e =
    let second : h ≤ length (drop h own) = simp length-drop (omega arith) in
    simp (length-append, length_vector h number own (omega arith), length_vector h number (drop h own) second) (omega arith)

pub length_job : (h n : ℕ) (three own : List ℕ) → length own ≡ 2 * h → length (job_text h n three own) ≡ job_bytes h
unfolding job_text
length_job h n three own size =
    let r = length_vector h (at three 0) own (omega arith) in
    let t = length_vector h (at three 0) (drop h own) (rw length-drop (omega arith)) in
    simp (length-append, length-field) (omega (arith, r, t))

pub length-jobs : (h count n : ℕ) (results answers : List ℕ) → count * (2 * h) ≤ length results → length (job_texts h count n results answers) ≡ count * job_bytes h
unfolding job_texts
length-jobs h zero n results answers fits = sym (zero-mul (job_bytes h))
length-jobs h (suc count) n results answers fits =
    let bytes-more : suc count * job_bytes h ≡ count * job_bytes h + job_bytes h = suc-mul count (job_bytes h) in
    let own-more : suc count * (2 * h) ≡ count * (2 * h) + 2 * h = suc-mul count (2 * h) in
    let own = length_job h n (take answer_width answers) (take (2 * h) results) (length-take-le (2 * h) results (omega arith)) in
    let ih = length-jobs h count (suc n) (drop (2 * h) results) (drop answer_width answers) (rw length-drop (omega arith)) in
    length-append (job_text h n (take answer_width answers) (take (2 * h) results)) _ ∙ omega (arith, own, ih)
