-- `graph::output_flags` meets its contract. Assumes nothing.
use borrow.Author.Rules.{rules}
use mathlib.Core.Path.{sym, ap, ◌∙◌}
use Rattle.ternary.specs.Bits.{digit}
use Rattle.net.specs.Tables.{output_flags}
use Rattle.net.specs.Graph.{is_output}
use Rattle.net.proofs.TableLaws.{no_vertex_0, no_vertex_above, role_at}
use Rattle.net.proofs.VertexTables.{by_vertex_table}
use Rattle.graph.proofs.output_flags.Goals as goal

pub returns : goal.returns
unfolding output_flags
returns c =
    by_vertex_table c.args.net _ (λ v. digit (is_output c.args.net v)) c.by_vertex.ensures
    (sym (ap digit (no_vertex_0 _ 2))) (λ i x h p. search rules ∙ ap digit (sym (role_at _ i 2 h))) (λ v h. sym (ap digit (no_vertex_above _ v 2 h)))
