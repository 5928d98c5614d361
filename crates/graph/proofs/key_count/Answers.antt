-- `graph::key_count` meets its contract. Assumes nothing.
use mathlib.Core.Path.{◌∙◌}
use Rattle.net.proofs.KeyFlags.{key_count_lem}
use Rattle.graph.proofs.key_count.Goals as goal

pub returns : goal.returns
returns c =
    c.count_flags.ensures ∙ key_count_lem c.args.net c.key_flags-keys.result c.requires.vertices c.key_flags-keys.ensures
