-- `component_labels::classes::relabelled` meets its contract. Assumes nothing.
use native.Mathlib.Omega.{arith}
use mathlib.Core.Path.{sym}
use Rattle.net.proofs.Classes.{relabel-hit, relabel-other}
use Rattle.component_labels.proofs.classes.relabelled.Goals as goal

pub returns-then-label-old : goal.returns-then-label-old
returns-then-label-old c = sym (relabel-hit _ _ _ (omega arith))

pub returns-else-label-old : goal.returns-else-label-old
returns-else-label-old c = sym (relabel-other _ _ _ (omega arith))
