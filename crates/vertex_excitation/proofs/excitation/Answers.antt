-- `vertex_excitation::excitation` meets its contract: the tests in the order of the rows. Assumes nothing.
use Prim.Native.Nat.{◌≤◌}
use native.Mathlib.Omega.{arith}
use mathlib.Core.Path.{◌≡◌, sym, ◌∙◌}
use mathlib.Core.Bool.{true}
use borrow.Author.Rules.{rules}
use Rattle.net.specs.Limits.{most_vertices}
use Rattle.net.specs.Graph.{is_storage}
use Rattle.net.specs.Network.{is_input_state, is_key_state}
use Rattle.net.proofs.TableLaws.{storage_row}
use Rattle.excitations.specs.Fit.{Fit}
use Rattle.sheet.specs.Valid.{valid}
use Rattle.troubles.proofs.FitLaws.{valid_fit}
use Rattle.soundness.proofs.ExcitedSteps.{bad_record, bad_input, bad_key_state, no_storage, all_fit}
use Rattle.vertex_excitation.proofs.excitation.Goals as goal
use Rattle.vertex_excitation.proofs.excitation.Goals.{Else-not-is_below, Else-not-is_below-2, Else-not-is_record, Else-not-is_storage}

-- what has passed so far
valid-record : (c : Else-not-is_record) → valid c.args.net ≡ true
valid-record c = sym c.is_record.ensures ∙ c.if-not-is_record.false

input-state : (c : Else-not-is_below) → is_input_state c.args.net c.args.input ≡ true
input-state c = sym c.is_below.ensures ∙ c.if-not-is_below.false

key-state : (c : Else-not-is_below-2) → is_key_state c.args.net c.args.key ≡ true
key-state c = rw c.key_count.ensures at (sym c.is_below-2.ensures ∙ c.if-not-is_below-2.false)

storage-vertex : (c : Else-not-is_storage) → is_storage c.args.net c.args.vertex ≡ true
storage-vertex c = sym c.is_storage.ensures ∙ c.if-not-is_storage.false

fit : (c : Else-not-is_record) → Fit c.args.net
fit c = valid_fit _ (valid-record c)

vertex-low : (c : Else-not-is_storage) → c.args.vertex ≤ most_vertices
vertex-low c = storage_row _ (fit (goal.at.Else-not-is_storage c).Else-not-is_record).readable _ (storage-vertex c)

pub returns-then-not-is_record : goal.returns-then-not-is_record
returns-then-not-is_record c = bad_record _ _ _ _ (sym c.is_record.ensures ∙ c.if-not-is_record.true)

pub is_below-requires : goal.is_below-requires
is_below-requires c = omega (arith, (fit (goal.at.is_below-requires c).Else-not-is_record).letters)

pub returns-then-not-is_below : goal.returns-then-not-is_below
returns-then-not-is_below c = bad_input _ _ _ _ (valid-record (goal.at.returns-then-not-is_below c).Else-not-is_record) (sym c.is_below.ensures ∙ c.if-not-is_below.true)

pub key_count-requires : goal.key_count-requires
key_count-requires c = (fit (goal.at.key_count-requires c).Else-not-is_record).readable

pub is_below-requires-2 : goal.is_below-requires-2
is_below-requires-2 c = rw c.key_count.ensures (fit (goal.at.is_below-requires-2 c).Else-not-is_record).keys

pub returns-then-not-is_below-2 : goal.returns-then-not-is_below-2
returns-then-not-is_below-2 c =
    bad_key_state _ _ _ _ (valid-record (goal.at.returns-then-not-is_below-2 c).Else-not-is_record) (input-state (goal.at.returns-then-not-is_below-2 c).Else-not-is_below)
    (rw c.key_count.ensures at (sym c.is_below-2.ensures ∙ c.if-not-is_below-2.true))

pub is_storage-requires : goal.is_storage-requires
is_storage-requires c = (fit (goal.at.is_storage-requires c).Else-not-is_record).readable.vertices

pub returns-then-not-is_storage : goal.returns-then-not-is_storage
returns-then-not-is_storage c =
    no_storage _ _ _ _ (valid-record (goal.at.returns-then-not-is_storage c).Else-not-is_record) (input-state (goal.at.returns-then-not-is_storage c).Else-not-is_below) (key-state (goal.at.returns-then-not-is_storage c).Else-not-is_below-2) (sym c.is_storage.ensures ∙ c.if-not-is_storage.true)

pub overflow_cast-vertex : goal.overflow_cast-vertex
overflow_cast-vertex c = let h = vertex-low (goal.at.overflow_cast-vertex c).Else-not-is_storage in search rules

pub value-requires : goal.value-requires
value-requires c = (fit (goal.at.value-requires c).Else-not-is_record, storage-vertex (goal.at.value-requires c).Else-not-is_storage)

pub returns : goal.returns
returns c =
    all_fit _ _ _ _ (valid-record (goal.at.returns c).Else-not-is_record) (input-state (goal.at.returns c).Else-not-is_below) (key-state (goal.at.returns c).Else-not-is_below-2) (storage-vertex (goal.at.returns c).Else-not-is_storage) c.value.ensures
