-- The numbers of the edges before j are stored.
use Prim.Native.Nat.{◌≤◌}
use native.Mathlib.Omega.{arith}
use mathlib.Core.Path.{sym, ◌∙◌}
use borrow.Author.Rules.{rules}
use borrow.Author.Tests.{lt-ltb, le-ltb}
use Rattle.net.specs.Limits.{most_edges}
use Rattle.net.specs.Graph.{edge_at}
use Rattle.net.proofs.Filling.{fill_zeros, fill_step, fill_end}
use Rattle.sheet.specs.EdgeNumbers.{edge_numbers}
use Rattle.sheet.proofs.CheckedLaws.{checked_counts, checked_range}
use Rattle.graph_rows.proofs.edge_numbers.edge_numbers.Goals as goal
use Rattle.graph_rows.proofs.edge_numbers.edge_numbers.Goals.{In-loop-j}

-- the record has places for its edges
few : (c : In-loop-j) → c.args.net.edge_count ≤ most_edges
few c = (checked_counts _ c.requires).edges

pub loop-j-init : goal.loop-j-init
loop-j-init c = (search rules, fill_zeros most_edges)

pub bounds-net-j : goal.bounds-net-j
bounds-net-j c = omega (arith, few (goal.at.bounds-net-j c).In-loop-j)

pub edge_number-requires : goal.edge_number-requires
unfolding edge_at
edge_number-requires c = checked_range _ c.requires c.loop-j.j c.loop-j-test.true

pub bounds-numbers-j : goal.bounds-numbers-j
bounds-numbers-j c = omega (arith, few (goal.at.bounds-numbers-j c).In-loop-j)

pub loop-j-preserved : goal.loop-j-preserved
unfolding edge_at
loop-j-preserved c =
    let below = c.loop-j-test.true in
    (search rules, fill_step c.loop-j.invariant.1 (omega (arith, few (goal.at.loop-j-preserved c).In-loop-j)) (c.edge_number.ensures ∙ sym (rw (lt-ltb _ _ below))))

pub returns : goal.returns
unfolding edge_numbers
returns c =
    let l = c.loop-j in
    let net = c.args.net in
    fill_end l.invariant.1 (λ k a b. rw (le-ltb k net.edge_count (omega arith)))
