-- The next case stands after the data, unless the input ends there.
use mathlib.Core.Path.{◌∙◌}
use Rattle.cases.specs.Input.{next_of}
use Rattle.cases.proofs.InputLaws.{min_test, next_beyond}
use Rattle.cases.proofs.next_case.Goals as goal

pub returns-then-end-at : goal.returns-then-end-at
returns-then-end-at c = next_beyond _ _ c.if-end-at.true

pub returns : goal.returns
unfolding next_of
returns c = rw (← c.number_at-size.ensures) (c.min.ensures ∙ min_test _ _)
