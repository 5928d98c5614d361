-- `component_labels::graph` meets its contract. Assumes nothing.
use Rattle.net.proofs.TableLaws.{prepared}
use Rattle.component_labels.proofs.graph.Goals as goal

pub invariant_of-result : goal.invariant_of-result
invariant_of-result c =
    record { prepared = prepared _ c.requires c.storage_flags-storage.ensures c.component_labels-labels.ensures }
