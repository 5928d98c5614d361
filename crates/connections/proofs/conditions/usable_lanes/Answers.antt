-- `conditions::usable_lanes` meets its contract: the rows of the first i edges are stored. Assumes nothing.
use native.Mathlib.Omega.{arith}
use borrow.Author.Rules.{rules}
use mathlib.Core.Path.{◌≡◌, sym, ap, ◌∙◌}
use mathlib.Core.Bool.{true}
use mathlib.Core.List.{List}
use Prim.Native.Nat.{ℕ, ◌+◌, ◌*◌, ◌≤◌, ◌<◌}
use lib.Dec.{eqb}
use lib.ListN.{length, get_or}
use borrow.Author.Tests.{eq-eqb, ne_eqb}
use Rattle.net.specs.Limits.{most_vertices, most_edges, most_signals}
use Rattle.net.specs.Symbols.{symbol_bound}
use Rattle.net.specs.Graph.{no_edge, edge_at, is_storage}
use Rattle.net.specs.SignalTable.{signal_index}
use Rattle.net.proofs.TableLaws.{storage_test}
use Rattle.lanes.specs.Lanes.{assignments}
use Rattle.excitations.specs.Conditions.{owner}
use Rattle.excitations.proofs.OwnerLaws.{owner-chosen, owner_range}
use Rattle.excitations.proofs.PlaceLaws.{place_read, place_small}
use Rattle.excitations.proofs.StateValues.{symbol_bound_lem}
use Rattle.excitations.proofs.UsableLaws.{length-usable, usable_none, usable-step, usable_skip, usable_all}
use Rattle.connections.proofs.conditions.usable_lanes.Goals as goal
use Rattle.connections.proofs.conditions.usable_lanes.Goals.{After-chosen-y, In-loop-i, Then-wiring-y-eq1, then-wiring-y-eq1, else-wiring-y-eq1}

-- the first end of edge i, and its symbol
edge-known : (c : In-loop-i) → (let e = get_or c.args.wiring.now.net.now.edges c.loop-i.i no_edge in (e.end1 ≤ most_vertices) × (e.symbol < symbol_bound))
unfolding edge_at
edge-known c = let fit = c.args.wiring.now.fit in (fit.readable.first_end c.loop-i.i c.loop-i-test.true, symbol_bound_lem _ fit.known c.loop-i.i c.loop-i-test.true)

-- the end that is chosen
owned : (c : After-chosen-y) → (let N = c.args.wiring.now.net.now in c.chosen-y.result ≡ owner N (edge_at N c.loop-i.i))
unfolding edge_at
owned c =
    c.chosen-y.ensures ∙ owner-chosen c.args.wiring.now.net.now c.args.wiring.now.storage.now c.args.wiring.now.flags _ (edge-known (goal.at.After-chosen-y c).In-loop-i).0

in_table : (c : After-chosen-y) → c.chosen-y.result ≤ most_vertices
in_table c =
    rw (owned c) (owner_range _ c.args.wiring.now.fit.readable c.loop-i.i c.loop-i-test.true)

-- the flag that the loop tests
storage : (c : After-chosen-y) → (let N = c.args.wiring.now.net.now in
    is_storage N (owner N (edge_at N c.loop-i.i)) ≡ eqb (get_or c.args.wiring.now.storage.now c.chosen-y.result 0) 1)
storage c = rw (← owned c) (sym (storage_test _ _ c.args.wiring.now.flags c.chosen-y.result (in_table c)))

-- the place of the symbol's signal
place : (c : After-chosen-y) → (let N = c.args.wiring.now.net.now in let e = get_or N.edges c.loop-i.i no_edge in
    is_storage N (owner N e) ≡ true → get_or c.args.wiring.now.places.now (c.chosen-y.result * symbol_bound + e.symbol) 0 ≡ signal_index N (owner N e) e.symbol)
unfolding edge_at
place c sy =
    ap (λ (places : List ℕ). get_or places (c.chosen-y.result * symbol_bound + (edge_at c.args.wiring.now.net.now c.loop-i.i).symbol) 0) c.args.wiring.now.placed
    ∙ rw (owned c) (place_read _ _ _ sy (owner_range _ c.args.wiring.now.fit.readable c.loop-i.i c.loop-i-test.true) (edge-known (goal.at.After-chosen-y c).In-loop-i).1)

-- it is a row of the columns
place-few : (c : Then-wiring-y-eq1) → (let e = get_or c.args.wiring.now.net.now.edges c.loop-i.i no_edge in
    get_or c.args.wiring.now.places.now (c.chosen-y.result * symbol_bound + e.symbol) 0 ≤ most_signals)
unfolding edge_at
place-few c =
    let sy = storage (goal.at.Then-wiring-y-eq1 c).After-chosen-y ∙ eq-eqb _ _ c.if-wiring-y-eq1.true in
    rw (place (goal.at.Then-wiring-y-eq1 c).After-chosen-y sy) (place_small _ _ _ c.args.wiring.now.fit sy (omega (arith, edge-known (goal.at.Then-wiring-y-eq1 c).In-loop-i)))

-- the table's length
size : (c : In-loop-i) → length c.loop-i.on ≡ most_edges * assignments
size c = ap length c.loop-i.invariant.1 ∙ length-usable _ _ _

pub loop-i-init : goal.loop-i-init
loop-i-init c = (search rules, c.requires ∙ usable_none _ _)

pub bounds-wiring-edge : goal.bounds-wiring-edge
bounds-wiring-edge c = omega (arith, edge-known (goal.at.bounds-wiring-edge c).In-loop-i)

pub bounds-wiring-y : goal.bounds-wiring-y
bounds-wiring-y c = omega (arith, in_table (goal.at.bounds-wiring-y c).After-chosen-y)

pub bounds-wiring-y-then-wiring-y-eq1 : goal.bounds-wiring-y-then-wiring-y-eq1
bounds-wiring-y-then-wiring-y-eq1 c = omega (arith, in_table (goal.at.bounds-wiring-y-then-wiring-y-eq1 c).After-chosen-y, edge-known (goal.at.bounds-wiring-y-then-wiring-y-eq1 c).In-loop-i)

pub choose_row-requires : goal.choose_row-requires
choose_row-requires c =
    (omega (arith, size (goal.at.choose_row-requires c).In-loop-i, c.args.wiring.now.fit.readable.edges), place-few (goal.at.choose_row-requires c).Then-wiring-y-eq1, c.args.wiring.now.listed)

pub loop-i-preserved : goal.loop-i-preserved
unfolding edge_at
loop-i-preserved c =
    let i = c.loop-i.i in
    let e = c.loop-i.invariant.1 in (
      search rules,
      elim c.if-wiring-y-eq1.branch [
        | then-wiring-y-eq1 w ↦
            let sy = storage (goal.at.loop-i-preserved c).After-chosen-y ∙ eq-eqb _ _ w.if-wiring-y-eq1.true in
            w.on-is ∙ usable-step c.args.wiring.now.net.now c.args.kind c.args.wiring.now.fit i c.loop-i-test.true sy (place (goal.at.loop-i-preserved c).After-chosen-y sy) w.usable_at-low.ensures w.usable_at-high.ensures e w.choose_row.ensures
        | else-wiring-y-eq1 w ↦ w.on-is ∙ usable_skip c.args.wiring.now.net.now c.args.kind i (storage (goal.at.loop-i-preserved c).After-chosen-y ∙ ne_eqb _ _ w.if-wiring-y-eq1.false) e
      ],
    )

pub returns : goal.returns
returns c =
    let q : c.loop-i.i ≡ c.args.wiring.now.net.now.edge_count = omega arith in
    rw q at c.loop-i.invariant.1 ∙ usable_all _ _
