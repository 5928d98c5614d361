-- The end of an edge that a component owns and the end opposite: as the code chooses them, and where they stand.
use Prim.Native.Nat.{ℕ, suc, ◌<◌, ◌≤◌}
use mathlib.Core.Path.{◌≡◌, ap, ◌∙◌}
use mathlib.Core.Bool.{Bool, true, false, cond}
use mathlib.Core.List.{List}
use mathlib.Core.Logic.{⊎_elim}
use native.Mathlib.Omega.{arith}
use lib.ListN.{get_or}
use borrow.Author.Tests.{eqb-true}
use Rattle.ternary.proofs.ListLaws.{get_or-table}
use Rattle.ternary.proofs.Tests.{ands, or_true, cond_by, fails}
use Rattle.net.specs.declared.Edge.{Edge}
use Rattle.net.specs.declared.Net.{Net}
use Rattle.net.specs.Limits.{most_vertices}
use Rattle.net.specs.Graph.{vertex_at, edge_at, has_role, is_input, is_storage}
use Rattle.net.specs.Tables.{Readable, storage_flags, input_labels}
use Rattle.net.proofs.TableLaws.{storage_test}
use Rattle.lanes.specs.Lanes.{chosen}
use Rattle.excitations.specs.Fit.{Fit}
use Rattle.excitations.specs.Conditions.{owner, other}

module _ (N : Net) where
  -- ---- as the code chooses them, by the flag of the first end
  module _ (s : List ℕ) (flags : s ≡ storage_flags N) (e : Edge) (h : e.end1 ≤ most_vertices) where
    pub owner-chosen : chosen e.end2 e.end1 (get_or s e.end1 0) ≡ owner N e
    unfolding chosen owner
    owner-chosen = ap (λ (b : Bool). cond b e.end1 e.end2) (storage_test N s flags e.end1 h)

    pub other-chosen : chosen e.end1 e.end2 (get_or s e.end1 0) ≡ other N e
    unfolding chosen other
    other-chosen = ap (λ (b : Bool). cond b e.end2 e.end1) (storage_test N s flags e.end1 h)

  -- ---- both are vertex numbers
  module _ (readable : Readable N) (i : ℕ) (h : i < N.edge_count) where
    pub owner_range : owner N (edge_at N i) ≤ most_vertices
    unfolding owner
    owner_range = cond_by (λ (v : ℕ). v ≤ most_vertices) (is_storage N (edge_at N i).end1) (λ _. readable.first_end i h) (λ _. readable.second_end i h)

    pub other_range : other N (edge_at N i) ≤ most_vertices
    unfolding other
    other_range = cond_by (λ (v : ℕ). v ≤ most_vertices) (is_storage N (edge_at N i).end1) (λ _. readable.second_end i h) (λ _. readable.first_end i h)

  -- ---- the end opposite is a storage vertex or an input vertex
  pub other_input : Fit N → (i : ℕ) → i < N.edge_count → is_storage N (other N (edge_at N i)) ≡ false → is_input N (other N (edge_at N i)) ≡ true
  unfolding other
  other_input fit i h =
      cond_by (λ (x : ℕ). is_storage N x ≡ false → is_input N x ≡ true) (is_storage N (edge_at N i).end1) (λ _. fit.second_input i h) (λ _. fit.first_input i h)

  -- ---- the label of the input vertex opposite

  abbrev pub label_of : ℕ → ℕ
  label_of i = (vertex_at N (other N (edge_at N i))).label

  pub label_read : (fit : Fit N) (i : ℕ) {x : ℕ} {inputs : List ℕ} → i < N.edge_count → is_storage N (other N (edge_at N i)) ≡ false
      → inputs ≡ input_labels N → x ≡ other N (edge_at N i) → get_or inputs x 0 ≡ label_of i
  unfolding input_labels
  label_read fit i h e q p =
      rw (q, p)
      (get_or-table (suc most_vertices) (λ v. cond (is_input N v) (vertex_at N v).label 0) _ 0 (omega (arith, other_range fit.readable i h))
      ∙ ap (λ (b : Bool). cond b (label_of i) 0) (other_input fit i h e))

  -- ---- no vertex is both

  role_is : (v r : ℕ) → has_role N v r ≡ true → (vertex_at N v).role ≡ r
  unfolding has_role
  role_is v r e = eqb-true (vertex_at N v).role r (search ands)

  pub storage_no_input : (v : ℕ) → is_storage N v ≡ true → is_input N v ≡ false
  unfolding is_storage
  storage_no_input v e =
      fails (is_input N v)
      (λ i. ⊎_elim
      (λ t. omega (arith, role_is v 0 i, role_is v 1 t))
      (λ t. omega (arith, role_is v 0 i, role_is v 2 t))
      (or_true (has_role N v 1) (has_role N v 2) e))
