-- `state_number` meets its contract: the tests in the order of the rows. Assumes nothing.
use Prim.Native.Nat.{◌^◌}
use mathlib.Core.Path.{◌≡◌, sym, ◌∙◌}
use mathlib.Core.Bool.{true}
use lib.Dec.{ltb}
use Rattle.settlements.proofs.NumberLaws.{old_refused, new_refused, start-refused, none_refused}
use Rattle.job_tests.proofs.state_number.Goals as goal
use Rattle.job_tests.proofs.state_number.Goals.{Else-not-is_below, Else-not-is_below-2}

-- what has passed so far
old-state : (c : Else-not-is_below) → ltb c.args.job.old (2 ^ c.args.letters) ≡ true
old-state c = sym c.is_below.ensures ∙ c.if-not-is_below.false

new-state : (c : Else-not-is_below-2) → ltb c.args.job.new (2 ^ c.args.letters) ≡ true
new-state c = sym c.is_below-2.ensures ∙ c.if-not-is_below-2.false

pub returns-then-not-is_below : goal.returns-then-not-is_below
returns-then-not-is_below c = old_refused _ _ _ _ _ (sym c.is_below.ensures ∙ c.if-not-is_below.true)

pub returns-then-not-is_below-2 : goal.returns-then-not-is_below-2
returns-then-not-is_below-2 c = new_refused _ _ _ _ _ (old-state (goal.at.returns-then-not-is_below-2 c).Else-not-is_below) (sym c.is_below-2.ensures ∙ c.if-not-is_below-2.true)

pub returns-then-not-is_below-3 : goal.returns-then-not-is_below-3
returns-then-not-is_below-3 c =
    start-refused _ _ _ _ _ (old-state (goal.at.returns-then-not-is_below-3 c).Else-not-is_below) (new-state (goal.at.returns-then-not-is_below-3 c).Else-not-is_below-2)
    (sym c.is_below-3.ensures ∙ c.if-not-is_below-3.true)

pub returns : goal.returns
returns c =
    none_refused _ _ _ _ _ (old-state (goal.at.returns c).Else-not-is_below) (new-state (goal.at.returns c).Else-not-is_below-2)
    (sym c.is_below-3.ensures ∙ c.if-not-is_below-3.false)
