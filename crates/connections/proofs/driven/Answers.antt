-- `connections::driven` meets its contract: the marks are those that the first i edges set. Assumes nothing.
use native.Mathlib.Omega.{arith}
use borrow.Author.Rules.{rules}
use mathlib.Core.Path.{◌≡◌, sym, ap, ◌∙◌}
use mathlib.Core.Bool.{true, false}
use mathlib.Core.List.{List}
use Prim.Native.Nat.{ℕ, suc, ◌+◌, ◌*◌, ◌≤◌, ◌<◌}
use lib.Dec.{eqb}
use lib.ListN.{length, get_or}
use borrow.Author.Tests.{eq-eqb, ne_eqb}
use Rattle.net.specs.Limits.{most_vertices, most_signals}
use Rattle.net.specs.Symbols.{symbol_bound}
use Rattle.net.specs.Graph.{no_edge, edge_at, is_storage}
use Rattle.net.specs.SignalTable.{signal_index}
use Rattle.net.proofs.TableLaws.{storage_test}
use Rattle.lanes.specs.Lanes.{assignments}
use Rattle.excitations.specs.Conditions.{owner, other}
use Rattle.excitations.proofs.OwnerLaws.{owner-chosen, other-chosen, owner_range, other_range, label_of, label_read}
use Rattle.excitations.proofs.PlaceLaws.{place_read}
use Rattle.excitations.proofs.DrivenLaws.{label_small, label-place, length_driven, driven_none, driven_step, driven_outer, driven_inner, driven_all}
use Rattle.connections.proofs.driven.Goals as goal
use Rattle.connections.proofs.driven.Goals.{After-chosen-x, After-chosen-y, In-loop-i, Then-wiring-x-ne1, then-wiring-y-eq1+then-wiring-x-ne1, else-wiring-y-eq1, else-wiring-y-eq1-via-then-wiring-y-eq1+else-wiring-x-ne1, else-wiring-y-eq1-via-else-wiring-y-eq1}

-- the first end of edge i
first-end : (c : In-loop-i) → (get_or c.args.wiring.now.net.now.edges c.loop-i.i no_edge).end1 ≤ most_vertices
unfolding edge_at
first-end c = c.args.wiring.now.fit.readable.first_end c.loop-i.i c.loop-i-test.true

-- the ends that are chosen
owned : (c : After-chosen-y) → (let N = c.args.wiring.now.net.now in c.chosen-y.result ≡ owner N (edge_at N c.loop-i.i))
unfolding edge_at
owned c =
    c.chosen-y.ensures ∙ owner-chosen c.args.wiring.now.net.now c.args.wiring.now.storage.now c.args.wiring.now.flags _ (first-end (goal.at.After-chosen-y c).In-loop-i)

opposite : (c : After-chosen-x) → (let N = c.args.wiring.now.net.now in c.chosen-x.result ≡ other N (edge_at N c.loop-i.i))
unfolding edge_at
opposite c =
    c.chosen-x.ensures ∙ other-chosen c.args.wiring.now.net.now c.args.wiring.now.storage.now c.args.wiring.now.flags _ (first-end (goal.at.After-chosen-x c).In-loop-i)

-- both stand in a table of vertices
y-range : (c : After-chosen-y) → c.chosen-y.result ≤ most_vertices
y-range c =
    rw (owned c) (owner_range _ c.args.wiring.now.fit.readable c.loop-i.i c.loop-i-test.true)

x-range : (c : After-chosen-x) → c.chosen-x.result ≤ most_vertices
x-range c =
    rw (opposite c) (other_range _ c.args.wiring.now.fit.readable c.loop-i.i c.loop-i-test.true)

-- the flags that the loop tests
y-storage : (c : After-chosen-x) → (let N = c.args.wiring.now.net.now in
    is_storage N (owner N (edge_at N c.loop-i.i)) ≡ eqb (get_or c.args.wiring.now.storage.now c.chosen-y.result 0) 1)
y-storage c =
    rw (← owned (goal.at.After-chosen-x c).After-chosen-y) (sym (storage_test _ _ c.args.wiring.now.flags c.chosen-y.result (y-range (goal.at.After-chosen-x c).After-chosen-y)))

x-storage : (c : After-chosen-x) → (let N = c.args.wiring.now.net.now in
    is_storage N (other N (edge_at N c.loop-i.i)) ≡ eqb (get_or c.args.wiring.now.storage.now c.chosen-x.result 0) 1)
x-storage c = rw (← opposite c) (sym (storage_test _ _ c.args.wiring.now.flags c.chosen-x.result (x-range c)))

-- the label opposite, and the place of its signal
label : (c : After-chosen-x) → (let N = c.args.wiring.now.net.now in let i = c.loop-i.i in
    is_storage N (other N (edge_at N i)) ≡ false → get_or c.args.wiring.now.inputs.now c.chosen-x.result 0 ≡ label_of N i)
label c sx =
    label_read _ c.args.wiring.now.fit c.loop-i.i c.loop-i-test.true sx c.args.wiring.now.labelled (opposite c)

place : (c : After-chosen-x) → (let N = c.args.wiring.now.net.now in let i = c.loop-i.i in
    is_storage N (owner N (edge_at N i)) ≡ true → is_storage N (other N (edge_at N i)) ≡ false
    → get_or c.args.wiring.now.places.now (c.chosen-y.result * symbol_bound + get_or c.args.wiring.now.inputs.now c.chosen-x.result 0) 0 ≡ signal_index N (owner N (edge_at N i)) (label_of N i))
place c sy sx =
    let i = c.loop-i.i in
    ap (λ (places : List ℕ). get_or places (c.chosen-y.result * symbol_bound + get_or c.args.wiring.now.inputs.now c.chosen-x.result 0) 0) c.args.wiring.now.placed
    ∙ rw (owned (goal.at.After-chosen-x c).After-chosen-y, label c sx) (place_read _ _ _ sy (owner_range _ c.args.wiring.now.fit.readable i c.loop-i-test.true) (label_small _ c.args.wiring.now.fit i c.loop-i-test.true sx))

-- what both tests tell
tested : (c : Then-wiring-x-ne1) → (let N = c.args.wiring.now.net.now in let i = c.loop-i.i in
    (is_storage N (owner N (edge_at N i)) ≡ true) × (is_storage N (other N (edge_at N i)) ≡ false))
tested c =
    (y-storage (goal.at.Then-wiring-x-ne1 c).After-chosen-x ∙ eq-eqb _ _ c.if-wiring-y-eq1.true, x-storage (goal.at.Then-wiring-x-ne1 c).After-chosen-x ∙ ne_eqb _ _ c.if-wiring-x-ne1.true)

-- the label is a symbol's number
label-fits : (c : Then-wiring-x-ne1) → (get_or c.args.wiring.now.inputs.now c.chosen-x.result 0 < symbol_bound)
label-fits c =
    rw (label (goal.at.Then-wiring-x-ne1 c).After-chosen-x (tested c).1) (label_small _ c.args.wiring.now.fit c.loop-i.i c.loop-i-test.true (tested c).1)

-- it is a row of the columns
place-few : (c : Then-wiring-x-ne1) → (
    get_or c.args.wiring.now.places.now (c.chosen-y.result * symbol_bound + get_or c.args.wiring.now.inputs.now c.chosen-x.result 0) 0 ≤ most_signals)
place-few c =
    rw (place (goal.at.Then-wiring-x-ne1 c).After-chosen-x (tested c).0 (tested c).1) (label-place _ c.args.wiring.now.fit c.loop-i.i c.loop-i-test.true (tested c).1 (tested c).0)

-- the table's length
size : (c : In-loop-i) → length c.loop-i.marks ≡ suc most_vertices * assignments
size c = ap length c.loop-i.invariant.1 ∙ length_driven _ _ _ _

pub loop-i-init : goal.loop-i-init
loop-i-init c = (search rules, c.requires ∙ driven_none _ _ _)

pub bounds-wiring-edge : goal.bounds-wiring-edge
bounds-wiring-edge c = omega (arith, first-end (goal.at.bounds-wiring-edge c).In-loop-i)

pub bounds-wiring-y : goal.bounds-wiring-y
bounds-wiring-y c = omega (arith, y-range (goal.at.bounds-wiring-y c).After-chosen-y)

pub bounds-wiring-x : goal.bounds-wiring-x
bounds-wiring-x c = omega (arith, x-range (goal.at.bounds-wiring-x c).After-chosen-x)

pub bounds-wiring-x-then-wiring-x-ne1 : goal.bounds-wiring-x-then-wiring-x-ne1
bounds-wiring-x-then-wiring-x-ne1 c = omega (arith, x-range (goal.at.bounds-wiring-x-then-wiring-x-ne1 c).After-chosen-x)

pub bounds-wiring-y-then-wiring-x-ne1 : goal.bounds-wiring-y-then-wiring-x-ne1
bounds-wiring-y-then-wiring-x-ne1 c = omega (arith, y-range (goal.at.bounds-wiring-y-then-wiring-x-ne1 c).After-chosen-y, label-fits (goal.at.bounds-wiring-y-then-wiring-x-ne1 c).Then-wiring-x-ne1)

pub mark_row-requires : goal.mark_row-requires
mark_row-requires c = (
  omega (arith, size (goal.at.mark_row-requires c).In-loop-i, y-range (goal.at.mark_row-requires c).After-chosen-y),
  omega (arith, c.args.wiring.now.fit.readable.edges),
  place-few (goal.at.mark_row-requires c).Then-wiring-x-ne1,
  c.args.wiring.now.listed,
)

pub loop-i-preserved : goal.loop-i-preserved
loop-i-preserved c =
    let i = c.loop-i.i in
    let e = c.loop-i.invariant.1 in (
      search rules,
      elim c.if-wiring-y-eq1.branch [
        | then-wiring-y-eq1+then-wiring-x-ne1 w ↦
            let sy = y-storage (goal.at.loop-i-preserved c).After-chosen-x ∙ eq-eqb _ _ w.if-wiring-y-eq1.true in
            let sx = x-storage (goal.at.loop-i-preserved c).After-chosen-x ∙ ne_eqb _ _ w.if-wiring-x-ne1.true in
            w.marks-is ∙ driven_step c.args.wiring.now.net.now c.args.on.now c.args.value c.args.wiring.now.fit i c.loop-i-test.true sy sx (owned (goal.at.loop-i-preserved c).After-chosen-y) (label (goal.at.loop-i-preserved c).After-chosen-x sx) (place (goal.at.loop-i-preserved c).After-chosen-x sy sx) w.label_hits-low.ensures w.label_hits-high.ensures e w.mark_row.ensures
        | else-wiring-y-eq1 w ↦
            w.marks-is
            ∙ elim w.else-wiring-y-eq1.branch [
              | else-wiring-y-eq1-via-then-wiring-y-eq1+else-wiring-x-ne1 v ↦ driven_inner c.args.wiring.now.net.now c.args.on.now c.args.value i (x-storage (goal.at.loop-i-preserved c).After-chosen-x ∙ eq-eqb _ _ v.if-wiring-x-ne1.false) e
              | else-wiring-y-eq1-via-else-wiring-y-eq1 v ↦ driven_outer c.args.wiring.now.net.now c.args.on.now c.args.value i (y-storage (goal.at.loop-i-preserved c).After-chosen-x ∙ ne_eqb _ _ v.if-wiring-y-eq1.false) e
            ]
      ],
    )

pub returns : goal.returns
returns c =
    let q : c.loop-i.i ≡ c.args.wiring.now.net.now.edge_count = omega arith in
    rw q at c.loop-i.invariant.1 ∙ driven_all _ _ _
