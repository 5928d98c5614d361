-- `sound_settling::settle` meets its contract: the tests in the order of the rows, then both vectors. Assumes nothing.
use Prim.Native.Nat.{◌≤◌}
use native.Mathlib.Omega.{arith}
use mathlib.Core.Path.{◌≡◌, sym, ◌∙◌}
use lib.ListN.{length}
use Rattle.std.specs.Prelude.{None}
use Rattle.net.specs.Graph.{key_count}
use Rattle.net.proofs.WellFormed.{place_c1_none}
use Rattle.excitations.specs.Fit.{Fit}
use Rattle.troubles.proofs.FitLaws.{valid_fit}
use Rattle.settlements.specs.Passed.{settled_by}
use Rattle.settlements.specs.Ready.{Ready}
use Rattle.settlements.specs.Settle.{settle_of}
use Rattle.settlements.proofs.NumberLaws.{number_of}
use Rattle.settlements.proofs.PassedLaws.{few_keys, indexed, passed}
use Rattle.settlements.proofs.SettleSteps.{bad_state, short_r, short_t, not_stable, at_rest}
use Rattle.sound_settling.proofs.settle.Goals as goal
use Rattle.sound_settling.proofs.settle.Goals.{After-additions-additions, After-passes-passed, In_default, Else-r-h, Else-t-h, Start}

fit : (c : Start) → Fit c.args.sound.now.net.now
fit c = valid_fit _ c.args.sound.now.accepted

-- what has passed so far
states : (c : In_default) → number_of c.args.sound.now.net.now c.args.job.old c.args.job.new c.args.job.start ≡ None
states c = rw c.key_count-h.ensures at (sym c.state_number.ensures ∙ c.in_default.is)

room-r : (c : Else-r-h) → key_count c.args.sound.now.net.now ≤ length c.args.r.now
room-r c = rw c.key_count-h.ensures at c.if-r-h.false

room-t : (c : Else-t-h) → key_count c.args.sound.now.net.now ≤ length c.args.t.now
room-t c = rw c.key_count-h.ensures at c.if-t-h.false

-- what is prepared
ready : (c : After-additions-additions) → Ready c.args.sound.now.net.now c.key_count-h.result c.ternary_tables-tables.result c.additions-additions.result
ready c =
    record {
      fit = fit (goal.at.After-additions-additions c).Start;
      c1 = (place_c1_none _).0 c.args.sound.now.sound;
      keys = c.key_count-h.ensures;
      tabled = c.ternary_tables-tables.ensures;
      added = c.additions-additions.ensures;
    }

pub key_count-h-requires : goal.key_count-h-requires
key_count-h-requires c = (fit (goal.at.key_count-h-requires c).Start).readable

pub state_number-requires : goal.state_number-requires
state_number-requires c =
    let f = fit (goal.at.state_number-requires c).Start in
    (omega (arith, f.letters), rw c.key_count-h.ensures f.keys)

pub returns-in-Some : goal.returns-in-Some
returns-in-Some c =
    rw c.refused.ensures
    (bad_state _ _ _ _ _ _ c.args.sound.now.accepted c.args.sound.now.sound (rw c.key_count-h.ensures at (sym c.state_number.ensures ∙ c.in-Some.is)))

pub returns-then-r-h : goal.returns-then-r-h
returns-then-r-h c =
    rw c.refused-then-r-h.ensures
    (short_r _ _ _ _ _ _ c.args.sound.now.accepted c.args.sound.now.sound (states (goal.at.returns-then-r-h c).In_default) (rw c.key_count-h.ensures at c.if-r-h.true))

pub returns-then-t-h : goal.returns-then-t-h
returns-then-t-h c =
    rw c.refused-then-t-h.ensures
    (short_t _ _ _ _ _ _ c.args.sound.now.accepted c.args.sound.now.sound (states (goal.at.returns-then-t-h c).In_default) (room-r (goal.at.returns-then-t-h c).Else-r-h) (rw c.key_count-h.ensures at c.if-t-h.true))

pub ternary_tables-tables-requires : goal.ternary_tables-tables-requires
ternary_tables-tables-requires c = (fit (goal.at.ternary_tables-tables-requires c).Start, c.args.sound.now.excited)

pub additions-additions-requires : goal.additions-additions-requires
additions-additions-requires c = fit (goal.at.additions-additions-requires c).Start

pub invariant_of-look_ups : goal.invariant_of-look_ups
invariant_of-look_ups c = let p = ready (goal.at.invariant_of-look_ups c).After-additions-additions in record { few = few_keys p; indexed = indexed p }

-- what the passes answer is what settling answers
by_passes : (c : After-passes-passed) →
    settled_by c.key_count-h.result c.passes-passed.result c.args.r.now c.args.t.now
    ≡ settle_of c.args.sound.now.net.now c.args.job.old c.args.job.new c.args.job.start c.args.r.now c.args.t.now
by_passes c =
    let s = states (goal.at.After-passes-passed c).In_default in
    let v = room-r (goal.at.After-passes-passed c).Else-r-h in
    let w = room-t (goal.at.After-passes-passed c).Else-t-h in
    rw c.passes-passed.ensures
    (passed (ready (goal.at.After-passes-passed c).After-additions-additions) _ _ _ s _ _
    (at_rest _ _ _ _ _ _ c.args.sound.now.accepted c.args.sound.now.sound s v w)
    (not_stable _ _ _ _ _ _ c.args.sound.now.accepted c.args.sound.now.sound s v w))

pub returns-in_default-passed : goal.returns-in_default-passed
unfolding settled_by
returns-in_default-passed c =
    rw c.refused-in_default-passed.ensures
    (rw c.in_default-passed.is at (by_passes (goal.at.returns-in_default-passed c).After-passes-passed))

pub returns : goal.returns
unfolding settled_by
returns c =
    rw (c.write.ensures, c.write-2.ensures)
    (rw c.in-Some-passed.is at (by_passes (goal.at.returns c).After-passes-passed))
