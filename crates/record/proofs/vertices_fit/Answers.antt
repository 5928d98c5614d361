-- All places are tested.
use mathlib.Core.Path.{refl, ◌∙◌}
use borrow.Author.Rules.{rules}
use Rattle.std.proofs.Common.{tests}
use Rattle.std.proofs.lemmas.Iterator.{YieldsList-from_range}
use Rattle.std.proofs.lemmas.Iterator.Search.{all_from_yields_List}
use Rattle.net.specs.Limits.{most_vertices}
use Rattle.sheet.specs.Fitting.{vertex_fits}
use Rattle.record.proofs.RangeLaws.{all_of_range}
use Rattle.record.proofs.vertices_fit.Goals as goal

pub returns : goal.returns
returns c =
    all_from_yields_List (vertex_fits c.args.net) _ _ _ c.all.ensures.ran (YieldsList-from_range 0 most_vertices most_vertices refl refl) (λ x b q k. search (rules, tests))
    ∙ all_of_range (vertex_fits c.args.net) most_vertices
