-- One job of a batch by its rows: 46 for a line that is no job line, then the rows of settling that are left.
use Prim.Native.Nat.{ℕ, ◌-◌, ◌^◌, ◌≤◌, ◌<◌}
use native.Mathlib.Omega.{arith}
use mathlib.Core.Path.{◌≡◌, refl, ap}
use mathlib.Core.Bool.{not, ◌&&◌, true≢false}
use mathlib.Core.List.{List, ◌∷◌}
use mathlib.Core.Option.{Option, none}
use lib.Dec.{lit<, lit≤}
use lib.ListN.{take, drop}
use Rattle.net.specs.declared.Net.{Net}
use Rattle.net.specs.Graph.{key_count}
use Rattle.net.specs.Network.{is_input_state, is_key_state, stable}
use Rattle.sheet.specs.declared.Answer.{Answer}
use Rattle.std.specs.Prelude.{Some, None}
use Rattle.std.specs.Prelude.{Option as Answered}
use Rattle.sheet.specs.declared.Job.{Job}
use Rattle.sheet.specs.Rows.{answer, Row, row, first_row, First, NoRow}
use Rattle.sheet.specs.Rows.First.{here, later}
use Rattle.sheet.specs.Rows.NoRow.{next}
use Rattle.sheet.specs.Limits.{field_width}
use Rattle.sheet.specs.Job.{job_number}
use Rattle.sheet.proofs.RowLaws.{positive, first_some, RowsAnswer, nothing, found, rows-answer, answered_zero, answered_some}
use Rattle.settlements.specs.Settle.{unsettled}
use Rattle.settlements.specs.Batch.{job_rows, job_settlement}
use Rattle.settlements.proofs.SettleLaws.{settle_some}
use Rattle.settlements.proofs.BatchLaws.{job_zero, job_number_lem}
use Rattle.demands.specs.Demand1.{Answers, job_line_rows}
use Rattle.demands.proofs.Unplaced.{Unplaced, no_row, a_row, by_number}

-- a row whose condition does not hold, before the others
one_before : {rows : List Row} {given : Answer} (n : ℕ) → Answers rows given → Answers (row n none ∷ rows) given
one_before {rows} {given} n a = record {
  fit = (λ e. next refl (a.fit.0 e), λ f. a.fit.1 (rest f));
  wrong = λ m p h. (λ e. later refl ((a.wrong m p h).0 e), λ f. (a.wrong m p h).1 (tail f));
}
  where
    rest : NoRow (row n none ∷ rows) → NoRow rows
    rest (next _ f) = f

    tail : {m p : ℕ} → First (row n none ∷ rows) m p → First rows m p
    tail (here e) = absurd (true≢false (cc))
    tail (later _ f) = f

module _ (N : Net) where
  unplaced : (A B q : ℕ) → Unplaced (job_rows N A B q)
  unfolding job_rows
  unplaced A B q = a_row (not (is_input_state N A && is_input_state N B)) (a_row (not (is_key_state N q)) (a_row (not (stable N A q)) no_row))

  pub job_answers : (j : Answered Job) (own : List ℕ) → Answers (job_line_rows N j) (answer (job_settlement N j own).answer.number 0)
  unfolding job_settlement positive first_row
  job_answers (Some line) own = one_before _ (by_number _ (unplaced line.old line.new line.start) (job_zero N line.old line.new line.start own) (λ n h. (
    λ e. (_, (job_number_lem N line.old line.new line.start own n _ h).0 (ap (λ (m : ℕ). answer m (job_settlement N (Some line) own).answer.place) e)),
    λ f. ap (λ (a : Answer). a.number) ((job_number_lem N line.old line.new line.start own n f.0 h).1 f.1),
  )))
  job_answers None own = record { fit = answered_zero (job_line_rows N None) refl; wrong = answered_some (job_line_rows N None) }

  pub job_untouched : (j : Answered Job) (own : List ℕ) (n p : ℕ) → First (job_line_rows N j) n p
      → job_settlement N j own ≡ unsettled (answer n p) (take (key_count N) own) (drop (key_count N) own)
  unfolding job_settlement first_row
  job_untouched (Some line) own n p (later _ f) = settle_some N line.old line.new line.start (job_rows N line.old line.new line.start) _ _ (answer n p) ((first_some (job_rows N line.old line.new line.start) n p).1 f)
  job_untouched (Some line) own n p (here e) = absurd (true≢false (cc))
  job_untouched None own n p f =
      let e = (first_some (job_line_rows N None) n p).1 f in
      let is : answer (job_number None) 0 ≡ answer n p = cc in
      ap (λ (a : Answer). unsettled a (take (key_count N) own) (drop (key_count N) own)) is

  -- the numbers of a job
  pub job_numbers : (j : Answered Job) {m p : ℕ} → First (job_line_rows N j) m p → (1 ≤ m) × (m < 10 ^ (field_width - 1))
  unfolding job_rows
  job_numbers (Some line) (here e) = absurd (true≢false (cc))
  job_numbers (Some line) (later _ (here _)) = (lit≤ tt, lit< tt)
  job_numbers (Some line) (later _ (later _ (here _))) = (lit≤ tt, lit< tt)
  job_numbers (Some line) (later _ (later _ (later _ (here _)))) = (lit≤ tt, lit< tt)
  job_numbers (Some line) (later _ (later _ (later _ (later _ beyond)))) = elim beyond [ ]
  job_numbers None (here _) = (lit≤ tt, lit< tt)
  job_numbers None (later _ beyond) = elim beyond [ ]

  -- what a job is answered has fewer digits than a field has columns
  pub job_answer_small : (j : Answered Job) {x : ℕ} → Answers (job_line_rows N j) (answer x 0) → x < 10 ^ (field_width - 1)
  job_answer_small j {x} a = go (rows-answer (job_line_rows N j))
    where
      go : {o : Option Answer} → RowsAnswer (job_line_rows N j) o → x < 10 ^ (field_width - 1)
      go (nothing f) = omega (arith, a.fit.1 f)
      go (found {n = m} {p = p} f) =
          let l = job_numbers j f in
          omega (arith, l.1, ap (λ (b : Answer). b.number) ((a.wrong m p l.0).1 f))
