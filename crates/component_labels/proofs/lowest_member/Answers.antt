-- `component_labels::lowest_member` meets its contract: no storage vertex before x has the label of y. Assumes nothing.
use native.Mathlib.Omega.{arith}
use borrow.Author.Rules.{rules}
use borrow.Author.Tests.{eq-eqb, ne_eqb}
use mathlib.Core.Path.{◌≡◌, refl, sym, ◌∙◌}
use lib.Dec.{eqb}
use Rattle.ternary.specs.Lists.{least_below}
use Rattle.ternary.proofs.BitLaws.{eqb_digit}
use Rattle.ternary.proofs.ListLaws.{least_more}
use Rattle.net.specs.Classes.{same_label}
use Rattle.net.specs.Tables.{is_member}
use Rattle.net.proofs.Members.{member-found, member_none}
use Rattle.component_labels.proofs.lowest_member.Goals as goal
use Rattle.component_labels.proofs.lowest_member.Goals.{After-both}

-- the flag tells whether x is one
told : (c : After-both) → (let a = c.args in
    eqb c.both.result 1 ≡ is_member a.storage.now a.labels.now a.y c.loop-x.x)
unfolding same_label
told c = rw (c.both.ensures, eqb_digit, c.equal.ensures, eqb_digit)

pub loop-x-init : goal.loop-x-init
unfolding least_below
loop-x-init c = (search rules, refl)

pub returns-then-both-eq1 : goal.returns-then-both-eq1
returns-then-both-eq1 c =
    let l = c.loop-x in
    member-found _ _ _ l.x l.invariant.1 c.loop-x-test.true (sym (told (goal.at.returns-then-both-eq1 c).After-both) ∙ eq-eqb _ _ c.if-both-eq1.true)

pub loop-x-preserved : goal.loop-x-preserved
loop-x-preserved c =
    let l = c.loop-x in
    (search rules, least_more _ l.x l.invariant.1 (sym (told (goal.at.loop-x-preserved c).After-both) ∙ ne_eqb _ _ c.if-both-eq1.false))

pub returns : goal.returns
returns c =
    let all : c.loop-x.x ≡ c.args.y = omega arith in
    member_none _ _ _ (rw all at c.loop-x.invariant.1)
