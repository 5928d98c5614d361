-- `signal_places::signal_places` meets its contract: the rows of the numbers below y are stored. Assumes nothing.
use native.Mathlib.Omega.{arith}
use borrow.Author.Rules.{rules}
use mathlib.Core.Path.{◌≡◌, sym, ap, ◌∙◌}
use Prim.Native.Nat.{suc}
use lib.Dec.{eqb}
use lib.ListN.{length, get_or}
use borrow.Author.Tests.{eq-eqb, ne_eqb}
use Rattle.net.specs.Limits.{most_vertices}
use Rattle.net.specs.Graph.{is_storage}
use Rattle.net.proofs.TableLaws.{storage_test}
use Rattle.excitations.proofs.PlaceLaws.{length-first_places, places_none, places_stored, places_step, places_skip, places_all}
use Rattle.signal_places.proofs.signal_places.Goals as goal
use Rattle.signal_places.proofs.signal_places.Goals.{In-loop-y, else-graph-y-eq1, then-graph-y-eq1}

-- the flag that the loop tests
test : (c : In-loop-y) → is_storage c.args.graph.now.net c.loop-y.y ≡ eqb (get_or c.args.graph.now.storage c.loop-y.y 0) 1
test c = sym (storage_test _ _ c.args.graph.now.prepared.flags _ (omega arith))

pub loop-y-init : goal.loop-y-init
loop-y-init c = (search rules, places_none _)

pub store_row-requires : goal.store_row-requires
store_row-requires c =
    let e = c.loop-y.invariant.1 in (
      test (goal.at.store_row-requires c).In-loop-y ∙ eq-eqb _ _ c.if-graph-y-eq1.true,
      omega arith,
      ap length e ∙ length-first_places _ _,
      places_stored _ c.loop-y.y (omega arith) e,
    )

pub loop-y-preserved : goal.loop-y-preserved
loop-y-preserved c =
    let e = c.loop-y.invariant.1 in (
      search rules,
      elim c.if-graph-y-eq1.branch [
        | then-graph-y-eq1 w ↦ w.places-is ∙ places_step _ _ (test (goal.at.loop-y-preserved c).In-loop-y ∙ eq-eqb _ _ w.if-graph-y-eq1.true) (omega arith) e w.store_row.ensures
        | else-graph-y-eq1 w ↦ w.places-is ∙ places_skip _ _ (test (goal.at.loop-y-preserved c).In-loop-y ∙ ne_eqb _ _ w.if-graph-y-eq1.false) e
      ],
    )

pub returns : goal.returns
returns c =
    let q : c.loop-y.y ≡ suc most_vertices = omega arith in
    rw q at c.loop-y.invariant.1 ∙ places_all _
