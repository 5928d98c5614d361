-- `sound_settling::batch` meets its contract: room for all jobs, then the jobs. Of the places, s is the start, k the one after the key nodes are counted,
-- x and y after the tests of the results and of the answers, a after the tables, r after the jobs. Assumes nothing.
use native.Mathlib.Omega.{arith}
use mathlib.Core.Path.{◌≡◌, sym, ◌∙◌}
use Prim.Native.Nat.{◌*◌}
use lib.Dec.{ltb}
use lib.ListN.{length}
use borrow.Author.Tests.{ltb-false}
use Rattle.net.proofs.WellFormed.{place_c1_none}
use Rattle.excitations.specs.Fit.{Fit}
use Rattle.troubles.proofs.FitLaws.{valid_fit}
use Rattle.settlements.specs.Batch.{job_count, job_width, answer_width}
use Rattle.settlements.specs.Ready.{Ready}
use Rattle.settlements.proofs.PassedLaws.{few_keys, indexed}
use Rattle.settlements.proofs.BatchSteps.{short_results, short_answers, all_run}
use Rattle.sound_settling.proofs.batch.Goals as goal
use Rattle.sound_settling.proofs.batch.Goals.{After-additions-additions, After-is_short, After-is_short-2, Start}

fit : (c : Start) → Fit c.args.sound.now.net.now
fit c = valid_fit _ c.args.sound.now.accepted

-- what the two tests of room tell
results-told : (c : After-is_short) →
    c.is_short.result ≡ ltb (length c.args.results.now) (job_count c.args.lines.now * job_width c.args.sound.now.net.now)
results-told c = rw (← c.key_count-h.ensures, ← c.job_count-count.ensures) c.is_short.ensures

answers-told : (c : After-is_short-2) →
    c.is_short-2.result ≡ ltb (length c.args.answers.now) (job_count c.args.lines.now * answer_width)
answers-told c = rw (← c.job_count-count.ensures) c.is_short-2.ensures

pub key_count-h-requires : goal.key_count-h-requires
key_count-h-requires c = (fit (goal.at.key_count-h-requires c).Start).readable

pub overflow_mul-h : goal.overflow_mul-h
overflow_mul-h c = omega (arith, c.key_count-h.ensures, (fit (goal.at.overflow_mul-h c).Start).keys)

pub returns-then-is_short : goal.returns-then-is_short
returns-then-is_short c =
    short_results _ _ _ _ c.args.sound.now.accepted c.args.sound.now.sound (sym (results-told (goal.at.returns-then-is_short c).After-is_short) ∙ c.if-is_short.true)

pub returns-then-is_short-2 : goal.returns-then-is_short-2
returns-then-is_short-2 c =
    short_answers _ _ _ _ c.args.sound.now.accepted c.args.sound.now.sound (sym (results-told (goal.at.returns-then-is_short-2 c).After-is_short) ∙ c.if-is_short.false) (sym (answers-told (goal.at.returns-then-is_short-2 c).After-is_short-2) ∙ c.if-is_short-2.true)

pub ternary_tables-tables-requires : goal.ternary_tables-tables-requires
ternary_tables-tables-requires c = (fit (goal.at.ternary_tables-tables-requires c).Start, c.args.sound.now.excited)

pub additions-additions-requires : goal.additions-additions-requires
additions-additions-requires c = fit (goal.at.additions-additions-requires c).Start

-- what is prepared
ready : (c : After-additions-additions) → Ready c.args.sound.now.net.now c.key_count-h.result c.ternary_tables-tables.result c.additions-additions.result
ready c =
    record {
      fit = fit (goal.at.After-additions-additions c).Start;
      c1 = (place_c1_none _).0 c.args.sound.now.sound;
      keys = c.key_count-h.ensures;
      tabled = c.ternary_tables-tables.ensures;
      added = c.additions-additions.ensures;
    }

pub invariant_of-look_ups : goal.invariant_of-look_ups
invariant_of-look_ups c = let p = ready (goal.at.invariant_of-look_ups c).After-additions-additions in record { few = few_keys p; indexed = indexed p }

pub run-requires : goal.run-requires
run-requires c = (
  ready (goal.at.run-requires c).After-additions-additions,
  ltb-false _ _ (sym (results-told (goal.at.run-requires c).After-is_short) ∙ c.if-is_short.false),
  ltb-false _ _ (sym (answers-told (goal.at.run-requires c).After-is_short-2) ∙ c.if-is_short-2.false),
)

pub returns : goal.returns
returns c =
    all_run _ _ _ _ c.args.sound.now.accepted c.args.sound.now.sound (sym (results-told (goal.at.returns c).After-is_short) ∙ c.if-is_short.false) (sym (answers-told (goal.at.returns c).After-is_short-2) ∙ c.if-is_short-2.false) c.run.ensures
