-- `signals::input_labels` meets its contract. Assumes nothing.
use borrow.Author.Rules.{rules}
use mathlib.Core.Path.{◌∙◌}
use mathlib.Core.Bool.{cond}
use Rattle.net.specs.Tables.{input_labels}
use Rattle.net.specs.Graph.{vertex_at, is_input}
use Rattle.net.proofs.SignalFlags.{no_input_0, no_input_above, input_at}
use Rattle.net.proofs.VertexTables.{by_vertex_table}
use Rattle.signals.proofs.input_labels.Goals as goal

pub returns : goal.returns
unfolding input_labels
returns c =
    by_vertex_table c.args.net _ (λ v. cond (is_input c.args.net v) (vertex_at c.args.net v).label 0) c.by_vertex.ensures
    (no_input_0 _) (λ i x h p. search rules ∙ input_at _ i h) (λ v h. no_input_above _ v h)
