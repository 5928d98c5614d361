-- `symbols::condition_of` meets its contract: one law for each form and outcome.
use native.Mathlib.Omega.{arith}
use Rattle.net.proofs.Cases.{n_closed_0, p_closed_1, n_closed_2, p_closed_3, open_0, open_1, open_2, open_3, open_more}
use Rattle.symbols.proofs.condition_of.Goals as goal

pub returns-then-value-eq1 : goal.returns-then-value-eq1
returns-then-value-eq1 c = n_closed_0 _ _ (omega arith) (omega arith)

pub returns-else-value-eq1 : goal.returns-else-value-eq1
returns-else-value-eq1 c = open_0 _ _ (omega arith) (omega arith)

pub returns-then-value-eq0 : goal.returns-then-value-eq0
returns-then-value-eq0 c = p_closed_1 _ _ (omega arith) (omega arith)

pub returns-else-value-eq0 : goal.returns-else-value-eq0
returns-else-value-eq0 c = open_1 _ _ (omega arith) (omega arith)

pub returns-then-value-eq0-2 : goal.returns-then-value-eq0-2
returns-then-value-eq0-2 c = n_closed_2 _ _ (omega arith) (omega arith)

pub returns-else-value-eq0-2 : goal.returns-else-value-eq0-2
returns-else-value-eq0-2 c = open_2 _ _ (omega arith) (omega arith)

pub returns-then-value-eq1-2 : goal.returns-then-value-eq1-2
returns-then-value-eq1-2 c = p_closed_3 _ _ (omega arith) (omega arith)

pub returns-else-value-eq1-2 : goal.returns-else-value-eq1-2
returns-else-value-eq1-2 c = open_3 _ _ (omega arith) (omega arith)

pub returns-in_default : goal.returns-in_default
returns-in_default c = open_more _ _ (omega arith)
