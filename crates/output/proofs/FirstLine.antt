-- Where the call for the first line says that nothing follows it, it is the whole output, whatever the jobs are: they need not be read.
use Prim.Native.Nat.{ℕ}
use native.Mathlib.Omega.{arith}
use mathlib.Core.Path.{◌≡◌, refl}
use mathlib.Core.Bool.{Bool, true, false, cond}
use mathlib.Core.List.{List, [], append-nil}
use lib.Dec.{eqb, ltb}
use lib.ListN.{length}
use Rattle.sheet.specs.declared.Answer.{Answer}
use Rattle.sheet.specs.Reading.{read_sheet}
use Rattle.output.specs.declared.Written.TheVariants.{Short, Bytes, Last}
use Rattle.output.specs.Limits.{opening_bytes}
use Rattle.output.specs.Output.{goes_on, judged, judged_of, opening_text, net_text, jobs_text, output_of}
use Rattle.output.specs.Calls.{report, put, opening_of}

-- no job is run after such a number, be it the reader's or the verdict's
run_none : (verdict read : Answer) (h : ℕ) (text : List ℕ) (b : Bool) → goes_on (cond b (judged verdict h) (judged read 0)).answer.number ≡ false
    → cond b (cond (goes_on verdict.number) text []) [] ≡ []
run_none verdict read h text true e = rw e
run_none verdict read h text false e = refl

pub no_jobs : (sheet : List ℕ) → goes_on (judged_of sheet).answer.number ≡ false → (n : ℕ) (lines : List ℕ) → jobs_text sheet n lines ≡ []
unfolding judged_of jobs_text net_text
no_jobs sheet e n lines = run_none _ _ _ _ (eqb (read_sheet sheet).answer.number 0) e

apart : ◌≡◌ {A = ℕ} 0 1 → ⊥
apart e = omega arith

said_last : (m : ℕ) (text out : List ℕ) (short goes : Bool) {n : ℕ} → (cond short (report Short out) (report (cond goes (Bytes m) (Last m)) text)).written ≡ Last n → goes ≡ false
said_last m text out true goes e = absurd (apart (cc))
said_last m text out false true e = absurd (apart (cc))
said_last m text out false false e = refl

pub first_line-alone : (sheet out jobs : List ℕ) {n : ℕ} → (opening_of sheet out).written ≡ Last n → output_of sheet jobs ≡ opening_text sheet
unfolding opening_of put output_of
first_line-alone sheet out jobs e =
    let ends = said_last _ _ out (ltb (length out) opening_bytes) (goes_on (judged_of sheet).answer.number) e in
    rw (no_jobs sheet ends 1 _) (append-nil (opening_text sheet))
