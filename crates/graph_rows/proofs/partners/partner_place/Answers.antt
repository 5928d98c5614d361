-- No edge passed so far exceeds its partners; the first that does gives its line.
use Prim.Native.Nat.{◌≤◌}
use native.Mathlib.Omega.{arith}
use mathlib.Core.Path.{◌≡◌, sym, ◌∙◌}
use mathlib.Core.Option.{none}
use borrow.Author.Rules.{rules}
use Rattle.ternary.specs.Lists.{least_below}
use Rattle.ternary.proofs.ListLaws.{least_more, least_hit}
use Rattle.net.specs.Limits.{most_edges}
use Rattle.sheet.specs.EdgeNumbers.{lacks_by}
use Rattle.sheet.specs.Pairs.{lacks_partner}
use Rattle.sheet.proofs.CheckedLaws.{checked_counts, checked_range}
use Rattle.sheet.proofs.EdgeNumberLaws.{first_by}
use Rattle.sheet.proofs.GraphLaws.{partner_found, partner_missing}
use Rattle.graph_rows.proofs.partners.partner_place.Goals as goal
use Rattle.graph_rows.proofs.partners.partner_place.Goals.{At-loop-i}

few : (c : At-loop-i) → c.args.net.edge_count ≤ most_edges
few c = (checked_counts _ c.requires).edges

first : (c : At-loop-i)
    → let N = c.args.net in least_below N.edge_count (lacks_by c.edge_numbers-numbers.result N.edge_count) ≡ least_below N.edge_count (lacks_partner N)
first c = first_by _ (few c) (checked_range _ c.requires) _ c.edge_numbers-numbers.ensures

pub loop-i-init : goal.loop-i-init
unfolding least_below
loop-i-init c = (search rules, λ _. none)

pub lacks_partner-requires : goal.lacks_partner-requires
lacks_partner-requires c = (search rules, few (goal.at.lacks_partner-requires c).At-loop-i)

pub overflow_add-result : goal.overflow_add-result
overflow_add-result c = omega (arith, few (goal.at.overflow_add-result c).At-loop-i)

pub returns-then-lacks_partner : goal.returns-then-lacks_partner
returns-then-lacks_partner c =
    partner_found _ c.loop-i.i
    (sym (first (goal.at.returns-then-lacks_partner c).At-loop-i) ∙ least_hit (lacks_by _ _) _ c.loop-i.i c.loop-i.invariant.1 c.loop-i-test.true (sym c.lacks_partner.ensures ∙ c.if-lacks_partner.true))

pub loop-i-preserved : goal.loop-i-preserved
loop-i-preserved c =
    (search rules, least_more (lacks_by _ _) c.loop-i.i c.loop-i.invariant.1 (sym c.lacks_partner.ensures ∙ c.if-lacks_partner.false))

pub returns : goal.returns
returns c =
    let all : c.loop-i.i ≡ c.args.net.edge_count = omega arith in
    partner_missing _ (sym (first (goal.at.returns c).At-loop-i) ∙ rw all at c.loop-i.invariant.1)
