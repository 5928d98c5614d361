-- A job line asks exactly for the numbers that it is written with, and any other line is refused.
use Prim.Native.Nat.{ℕ, ◌^◌, ◌≤◌, ◌<◌}
use native.Mathlib.Omega.{arith}
use mathlib.Core.Path.{◌≡◌, refl, sym, ap, ◌∙◌}
use mathlib.Core.Logic.{◌↔◌}
use mathlib.Core.Bool.{cond, true≢false, ◌&&◌}
use mathlib.Core.List.{List}
use mathlib.Core.Option.{Option, none, some}
use lib.Dec.{eqb}
use borrow.Author.Tests.{eq-eqb, ne_eqb, eqb-true}
use Rattle.ternary.proofs.Tests.{ands, cond_by}
use Rattle.std.specs.Prelude.{Some, None}
use Rattle.std.specs.Prelude.{Option as Answered}
use Rattle.sheet.specs.declared.Job.{Job}
use Rattle.sheet.specs.declared.Line.{Line}
use Rattle.sheet.specs.Line.{line, write_line, read_line, line_answer}
use Rattle.sheet.specs.Job.{JobBytesIn, asks, job_in, job_number}
use Rattle.sheet.proofs.WholeLines.{holds_ten}
use Rattle.sheet.proofs.LineLaws.{SmallLine, read_write_line, write_read_line}
use Rattle.sheet.proofs.LineSteps.{five_of, unread_of}

-- without a column the 4 that opens the line would not be written
pub job_written : (w : ℕ) → 1 ≤ w → (A B q : ℕ) → A < 10 ^ w → B < 10 ^ w → q < 10 ^ w → job_in w (write_line w (line 4 A B q 0)) ≡ asks A B q
unfolding job_in
job_written w some_column A B q a b c =
    let ten = holds_ten w some_column in
    let small : SmallLine w (line 4 A B q 0) = omega arith in
    rw (read_write_line w (line 4 A B q 0) small, job_in)

-- `job_in`, once its line is read
abbrev job_from : Option Line → Answered Job
job_from none = None
job_from (some v) = cond (eqb v.kind 4 && eqb v.fifth 0) (asks v.second v.third v.fourth) None

module _ (w : ℕ) (some_column : 1 ≤ w) (b : List ℕ) where
  pub job_asked : (A B q : ℕ) → (job_in w b ≡ asks A B q) ↔ JobBytesIn w b A B q
  unfolding job_in
  job_asked A B q = (there (read_line w b) refl, λ j. rw (← j.written) (job_written w some_column A B q j.old j.new j.start))
    where
      there : (o : Option Line) → read_line w b ≡ o → job_from o ≡ asks A B q → JobBytesIn w b A B q
      there none h = λ e. absurd (true≢false (cc))
      there (some v) h =
          cond_by (λ r. r ≡ asks A B q → JobBytesIn w b A B q) (eqb v.kind 4 && eqb v.fifth 0)
          (λ t e.
          let l = write_read_line w b v h in
          let k = eqb-true v.kind 4 (search ands) in
          let z = eqb-true v.fifth 0 (search ands) in
          let jobs : record { old = v.second; new = v.third; start = v.fourth } ≡ record { old = A; new = B; start = q } = cc in
          let x : v.second ≡ A = ap (λ (j : Job). j.old) jobs in
          let y : v.third ≡ B = ap (λ (j : Job). j.new) jobs in
          let s : v.fourth ≡ q = ap (λ (j : Job). j.start) jobs in
          let same : line 4 A B q 0 ≡ v = λ i. record { kind = sym k i; second = sym x i; third = sym y i; fourth = sym s i; fifth = sym z i } in
          record {
            written = ap (write_line w) same ∙ l.written;
            old = rw (← x) l.small.second;
            new = rw (← y) l.small.third;
            start = rw (← s) l.small.fourth;
          })
          (λ _ e. absurd (true≢false (cc)))

  pub job_refused : (job_in w b ≡ None) ↔ ((A B q : ℕ) → ¬ JobBytesIn w b A B q)
  job_refused = (λ e A B q j. let a = (job_asked A B q).1 j in true≢false (cc), back (job_in w b) refl)
    where
      back : (r : Answered Job) → job_in w b ≡ r → ((A B q : ℕ) → ¬ JobBytesIn w b A B q) → r ≡ None
      back (Some j) h f = absurd (f j.old j.new j.start ((job_asked j.old j.new j.start).0 h))
      back None h f = refl

  pub job_number_lem : (job_number (job_in w b) ≡ 46) ↔ ((A B q : ℕ) → ¬ JobBytesIn w b A B q)
  job_number_lem = (λ e. job_refused.0 (there (job_in w b) e), λ f. rw (job_refused.1 f))
    where
      there : (r : Answered Job) → job_number r ≡ 46 → r ≡ None
      there (Some j) e = absurd (omega arith)
      there None e = refl

-- ---- the tests of a job line in their order

module _ (w : ℕ) (b : List ℕ) where
  pub job_unread : line_answer (read_line w b) ≡ None → None ≡ job_in w b
  unfolding job_in
  job_unread e = rw (unread_of (read_line w b) e, job_in)

  module _ (v : Line) (five : line_answer (read_line w b) ≡ Some v) where
    pub not_job : (v.kind ≡ 4 → ⊥) → None ≡ job_in w b
    unfolding job_in
    not_job f = rw (five_of (read_line w b) v five, job_in, ne_eqb v.kind 4 f)

    pub wrong_fifth : (v.fifth ≡ 0 → ⊥) → v.kind ≡ 4 → None ≡ job_in w b
    unfolding job_in
    wrong_fifth f k = rw (five_of (read_line w b) v five, job_in, eq-eqb v.kind 4 k, ne_eqb v.fifth 0 f)

    pub is_job : v.kind ≡ 4 → v.fifth ≡ 0 → asks v.second v.third v.fourth ≡ job_in w b
    unfolding job_in
    is_job k z = rw (five_of (read_line w b) v five, job_in, eq-eqb v.kind 4 k, eq-eqb v.fifth 0 z)
