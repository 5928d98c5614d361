-- A line of a job that shows an answer is there: the sheet is accepted, its net meets C1, and so many jobs are read. And which lines there are.
use Prim.Native.Nat.{ℕ, ◌+◌, ◌*◌, ◌<◌}
use native.Mathlib.Nat.{mul-le-mul_right}
use native.Mathlib.Omega.{arith}
use mathlib.Core.Path.{◌≡◌, refl, ap, ◌∙◌}
use mathlib.Core.Bool.{true, false, true≢false}
use mathlib.Core.List.{List, append-nil}
use lib.Dec.{eqb, ltb}
use lib.ListN.{length, take, drop, length-append, length-take, length-drop}
use lib.Seq.{take_at}
use borrow.Author.Tests.{ltb-true, ltb-false, eqb-true}
use Rattle.ternary.proofs.Tests.{by_test, cond_by, not_both}
use Rattle.net.specs.Graph.{key_count}
use Rattle.net.specs.WellFormed.{C1}
use Rattle.net.proofs.WellFormed.{place_c1_none}
use Rattle.sheet.specs.Limits.{field_width}
use Rattle.sheet.specs.Line.{write_number}
use Rattle.sheet.specs.Record.{accepted}
use Rattle.sheet.specs.declared.Reading.{Reading}
use Rattle.sheet.specs.Reading.{read_sheet}
use Rattle.sheet.specs.Outcome.{Listed, Outcome}
use Rattle.sheet.specs.Outcome.Listed.{size, fields, at_header_line, lines, at_vertex_line, at_edge_line, partner, key_nodes, signals}
use Rattle.sheet.specs.Outcome.Outcome.{accept, refuse}
use Rattle.sheet.proofs.Outcome.{outcome, accepted-at_zero}
use Rattle.settlements.specs.Batch.{job_count}
use Rattle.output.specs.Limits.{opening_bytes, job_bytes}
use Rattle.output.specs.declared.Judged.{Judged}
use Rattle.output.specs.Output.{goes_on, judged_of, opening_text, jobs_text, output_of}
use Rattle.output.specs.Printed.{printed_line, printed_answer}
use Rattle.output.proofs.Lengths.{length-number, length_opening}
use Rattle.output.proofs.GoesOn.{runs_iff}
use Rattle.output.proofs.JobsText.{Prints, by_prints, length-printed}
use Rattle.output.proofs.FirstLine.{no_jobs}
use Rattle.output.proofs.OutputLines.{lines_read}

-- what it tells of a sheet and its jobs that the output has a line of job n, from 0
pub record LineThere (sheet jobs : List ℕ) (n : ℕ) : Type 0 where
  pub reads : read_sheet sheet ≡ accepted (read_sheet sheet).net
  pub c1 : C1 (read_sheet sheet).net
  pub read : n < job_count (lines_read jobs)

-- a line of w bytes that has its second field begins before the output ends
reaches : (w n : ℕ) (output : List ℕ) → length (take field_width (drop field_width (take w (drop (opening_bytes + n * w) output)))) ≡ field_width
    → opening_bytes + n * w < length output
reaches w n output e = omega (arith, simp (length-take, length-drop) at e)

-- fewer bytes are fewer lines
fewer : (w n count : ℕ) → n * w < count * w → n < count
fewer w n count h =
    by_test (ltb n count) (ltb-true n count) (λ f. absurd (omega (arith, mul-le-mul_right w (ltb-false n count f))))

module _ (sheet jobs : List ℕ) where
  abbrev texts : List ℕ
  texts = jobs_text sheet 1 (lines_read jobs)

  output-length : length (output_of sheet jobs) ≡ opening_bytes + length texts
  unfolding output_of
  output-length = length-append (opening_text sheet) texts ∙ ap (λ (k : ℕ). k + length texts) (length_opening sheet)

module _ (sheet jobs : List ℕ) (n : ℕ) where
  abbrev h : ℕ
  h = key_count (read_sheet sheet).net

  pub line_there : (m : ℕ) → printed_answer (printed_line h n (output_of sheet jobs)) ≡ write_number m → LineThere sheet jobs n
  line_there m e = by_prints sheet
      (λ p. record {
        reads = accepted-at_zero field_width sheet p.0;
        c1 = (place_c1_none (read_sheet sheet).net).0 p.1.1;
        read = fewer (job_bytes h) n (job_count (lines_read jobs)) (omega (arith, begins, length-printed sheet p 1 (lines_read jobs)));
      })
      (λ none. absurd (omega (arith, begins, ap length (none 1 (lines_read jobs)))))
    where
      begins : n * job_bytes h < length (texts sheet jobs)
      begins = omega (arith, reaches (job_bytes h) n (output_of sheet jobs) (ap length e ∙ length-number m), output-length sheet jobs)

-- ---- the whole text

-- after each number of the reader the program ends
listed_ends : {number place : ℕ} → Listed number place → goes_on number ≡ false
listed_ends size = refl
listed_ends (fields _ _ _) = refl
listed_ends at_header_line = refl
listed_ends lines = refl
listed_ends (at_vertex_line _ _ _) = refl
listed_ends (at_edge_line _ _ _) = refl
listed_ends (partner _ _ _) = refl
listed_ends (key_nodes _ _ _) = refl
listed_ends (signals _ _ _) = refl

reader_ends : {r : Reading} → Outcome r → eqb r.answer.number 0 ≡ false → goes_on r.answer.number ≡ false
reader_ends (accept N) e = absurd (true≢false e)
reader_ends (refuse l) e = listed_ends l

-- the program goes on only where the jobs are run, and the first line then shows the net's h
pub goes_prints : (sheet : List ℕ) → goes_on (judged_of sheet).answer.number ≡ true → Prints sheet × ((judged_of sheet).keys ≡ key_count (read_sheet sheet).net)
unfolding judged_of
goes_prints sheet =
    cond_by (λ (j : Judged). goes_on j.answer.number ≡ true → Prints sheet × (j.keys ≡ key_count (read_sheet sheet).net)) (eqb (read_sheet sheet).answer.number 0)
    (λ e g. ((eqb-true (read_sheet sheet).answer.number 0 e, (runs_iff (read_sheet sheet).net).0 g), refl))
    (λ e g. absurd (not_both _ g (reader_ends (outcome field_width sheet) e)))

module _ (sheet jobs : List ℕ) where
  pub output-first : take opening_bytes (output_of sheet jobs) ≡ opening_text sheet
  unfolding output_of
  output-first = take_at (opening_text sheet) _ opening_bytes (length_opening sheet)

  pub output-ends : goes_on (judged_of sheet).answer.number ≡ false → output_of sheet jobs ≡ opening_text sheet
  unfolding output_of
  output-ends e = rw (no_jobs sheet e 1 (lines_read jobs)) (append-nil (opening_text sheet))

  pub output_size : goes_on (judged_of sheet).answer.number ≡ true → length (output_of sheet jobs) ≡ opening_bytes + job_count (lines_read jobs) * job_bytes (judged_of sheet).keys
  output_size e =
      let g = goes_prints sheet e in
      output-length sheet jobs ∙ rw (length-printed sheet g.0 1 (lines_read jobs), g.1)
