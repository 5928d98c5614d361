use Rattle.net.specs.Limits.{most_vertices}
use Prim.Native.Nat.{suc, ◌≤◌, ◌-◌}
use lib.ListN.{get_or}
use Rattle.net.specs.Classes.{relabel}
use Rattle.net.proofs.Filling.{Filled}
use Rattle.component_labels.proofs.classes.merge_classes.Given as goal

abbrev pub invariant-loop-label : goal.invariant-loop-label
invariant-loop-label l = (l.label-index ≤ suc most_vertices) × Filled (suc most_vertices) (λ j. relabel l.new l.old (get_or l.initial.labels j 0)) (λ j. get_or l.initial.labels j 0) l.labels l.label-index

abbrev pub decreases-loop-label : goal.decreases-loop-label
decreases-loop-label l = suc most_vertices - l.label-index
