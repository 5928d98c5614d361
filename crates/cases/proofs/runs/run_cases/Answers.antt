-- Each case that is answered is a call; less is left after each case.
use Rattle.std.proofs.Common.{ℕ}
use Rattle.cases.proofs.InputLaws.{next_less}
use Rattle.cases.proofs.TurnLaws.{turns_all, all_end, all_note, all_answer}
use Rattle.cases.proofs.runs.run_cases.Goals.{then-cases-at-eq-NOTE, else-cases-at-eq-NOTE}
use Rattle.cases.proofs.runs.run_cases.Goals as goal

pub loop-at-init : goal.loop-at-init
loop-at-init g c rest = rw (← turns_all c.args.cases.now c.args.brings) rest

pub loop-at-smaller : goal.loop-at-smaller
loop-at-smaller g c = rw c.next_case-at.ensures (next_less _ _ c.loop-at-test.true)

pub loop-at-preserved : goal.loop-at-preserved
loop-at-preserved g c rest =
    let P : ℕ × ℕ → Type 0 = λ x. goal.F-post g c.args.answer x.0 x.1 tt in
    c.loop-at.invariant
    (elim c.if-cases-at-eq-NOTE.branch [
      | then-cases-at-eq-NOTE w ↦ all_note _ _ P _ _ _ _ c.loop-at-test.true c.next_case-at.ensures c.brought-from.ensures rest w.if-cases-at-eq-NOTE.true
      | else-cases-at-eq-NOTE w ↦ all_answer _ _ P _ _ _ _ c.loop-at-test.true c.next_case-at.ensures c.brought-from.ensures rest w.if-cases-at-eq-NOTE.false w.answer.ensures
    ])

pub returns : goal.returns
returns g c = c.loop-at.invariant (all_end _ _ (λ x. goal.F-post g c.args.answer x.0 x.1 tt) _ _ _ c.loop-at-test.false)
