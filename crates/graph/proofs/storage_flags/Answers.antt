-- `graph::storage_flags` meets its contract. Assumes nothing.
use borrow.Author.Rules.{rules}
use mathlib.Core.Path.{sym, ap, ◌∙◌}
use Rattle.ternary.specs.Bits.{digit}
use Rattle.net.specs.Tables.{storage_flags}
use Rattle.net.specs.Graph.{is_storage}
use Rattle.net.proofs.TableLaws.{no_storage_0, no_storage_above, storage_at}
use Rattle.net.proofs.VertexTables.{by_vertex_table}
use Rattle.graph.proofs.storage_flags.Goals as goal

pub returns : goal.returns
unfolding storage_flags
returns c =
    by_vertex_table c.args.net _ (λ v. digit (is_storage c.args.net v)) c.by_vertex.ensures
    (sym (no_storage_0 _)) (λ i x h p. search rules ∙ ap digit (sym (storage_at _ i h))) (λ v h. sym (ap digit (no_storage_above _ v h)))
