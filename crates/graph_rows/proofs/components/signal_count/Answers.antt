-- As many signals as flags are set.
use mathlib.Core.Path.{◌∙◌}
use Rattle.net.proofs.SignalFlags.{signal_count_lem}
use Rattle.graph_rows.proofs.components.signal_count.Goals as goal

pub returns : goal.returns
returns c =
    c.count_flags.ensures ∙ signal_count_lem c.args.graph.now.net c.args.y c.signal_flags-flags.result c.signal_flags-flags.ensures
