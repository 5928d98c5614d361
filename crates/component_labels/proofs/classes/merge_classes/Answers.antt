-- `component_labels::classes::merge_classes` meets its contract: the labels before i are relabelled, the others as they were. Assumes nothing.
use native.Mathlib.Omega.{arith}
use lib.ListN.{get_or}
use Rattle.net.specs.Classes.{relabel, merge}
use Rattle.net.proofs.Filling.{fill_map}
use Rattle.component_labels.proofs.classes.merge_classes.Goals as goal

pub returns : goal.returns
unfolding merge
returns c =
    let t = c.args.labels.now in
    fill_map (relabel (get_or t c.args.u 0) (get_or t c.args.v 0)) t c.loop-label.invariant.1 (omega arith) c.requires.0
