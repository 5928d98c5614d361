-- `vertex_excitation::one::value` meets its contract: the entry of the state in the vertex's row. Assumes nothing.
use native.Mathlib.Omega.{arith}
use borrow.Author.Rules.{rules}
use mathlib.Core.Path.{◌≡◌}
use Prim.Native.Nat.{◌+◌, ◌<◌}
use Rattle.net.proofs.TableLaws.{storage_row}
use Rattle.lanes.specs.Lanes.{assignments}
use Rattle.states.specs.Weights.{Small}
use Rattle.states.specs.Weights as spec
use Rattle.states.proofs.WeightLaws.{weights_small}
use Rattle.soundness.proofs.OneLaws.{index_below, value_read}
use Rattle.vertex_excitation.proofs.one.value.Goals as goal
use Rattle.vertex_excitation.proofs.one.value.Goals.{After-key_part, After-weights-list}

-- the weights are those of the net
weights : (c : After-weights-list) → c.weights-list.result ≡ spec.weights c.args.net c.args.y
weights c = rw c.tables-tables.ensures at c.weights-list.ensures

-- they are small, wherever they are used
small : (c : After-weights-list) → Small c.weights-list.result
small c = rw (weights c) (weights_small _ _ c.requires.0 c.requires.1)

-- the index lies in the row
below : (c : After-key_part) → c.letter_part-letters.result + c.key_part.result < assignments
below c =
    index_below _ c.requires.0 _ c.requires.1 _ _ (weights (goal.at.After-key_part c).After-weights-list) c.letter_part-letters.ensures c.key_part.ensures

pub weights-list-requires : goal.weights-list-requires
weights-list-requires c = rw c.tables-tables.ensures c.requires.1

pub letter_part-letters-requires : goal.letter_part-letters-requires
letter_part-letters-requires c = small (goal.at.letter_part-letters-requires c).After-weights-list

pub key_part-requires : goal.key_part-requires
key_part-requires c = small (goal.at.key_part-requires c).After-weights-list

pub overflow_add-at : goal.overflow_add-at
overflow_add-at c = let h = below (goal.at.overflow_add-at c).After-key_part in search rules

pub overflow_add-result : goal.overflow_add-result
overflow_add-result c = let h = below (goal.at.overflow_add-result c).After-key_part in search rules

pub bounds-excitations-y : goal.bounds-excitations-y
bounds-excitations-y c =
    let h = below (goal.at.bounds-excitations-y c).After-key_part in omega (arith, h, storage_row _ c.requires.0.readable _ c.requires.1)

pub returns : goal.returns
returns c =
    value_read _ c.requires.0 _ c.requires.1 _ _ (weights (goal.at.returns c).After-weights-list) c.letter_part-letters.ensures c.key_part.ensures c.fill.ensures
