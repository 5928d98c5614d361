-- `is_storage` meets its contract. Beyond the places of the record the definition reads a vertex of role 0.
use native.Mathlib.Omega.{arith}
use mathlib.Core.Path.{sym, ◌∙◌, refl}
use Rattle.sheet.proofs.RuleSteps.{storage_outside, storage_beyond, storage_role, other_role}
use Rattle.rules.proofs.is_storage.Goals as goal

pub returns-then-not-is_vertex : goal.returns-then-not-is_vertex
returns-then-not-is_vertex c = storage_outside _ _ (sym c.is_vertex.ensures ∙ c.if-not-is_vertex.true)

pub returns-then-i-ge-MOST_VERTICES : goal.returns-then-i-ge-MOST_VERTICES
returns-then-i-ge-MOST_VERTICES c = storage_beyond _ _ (c.well_formed.0.1.1.0.1.0.1) c.if-i-ge-MOST_VERTICES.true

pub returns-in-1-to-2 : goal.returns-in-1-to-2
returns-in-1-to-2 c =
    storage_role _ _ (sym c.is_vertex.ensures ∙ c.if-not-is_vertex.false) _ refl c.in-1-to-2.if-role-lt1-own.false c.in-1-to-2.if-role-lt3-own.true

pub returns-in_default : goal.returns-in_default
returns-in_default c =
    other_role _ _ (sym c.is_vertex.ensures ∙ c.if-not-is_vertex.false) _ refl (λ e. omega arith) (λ e. omega arith)

pub returns-in_default-2 : goal.returns-in_default-2
returns-in_default-2 c =
    other_role _ _ (sym c.is_vertex.ensures ∙ c.if-not-is_vertex.false) _ refl (λ e. omega arith) (λ e. omega arith)
