-- The code's tables entry by entry.
use mathlib.Core.Path.{◌≡◌, refl, sym, ap, ◌∙◌}
use mathlib.Core.Bool.{Bool, true, false, ◌&&◌, ◌||◌}
use mathlib.Core.List.{List}
use mathlib.Core.Logic.{◌≢◌}
use Prim.Native.Nat.{ℕ, suc, ◌+◌, ◌-◌, ◌<◌, ◌≤◌}
use native.Mathlib.Omega.{arith}
use lib.Dec.{eqb, leb}
use lib.ListN.{get_or, take, get_or-eq_default}
use borrow.Author.Tests.{lt-ltb, le-leb, leb-true, leb-false, eq-eqb, ne_eqb, eqb-false}
use Rattle.ternary.specs.Bits.{digit}
use Rattle.ternary.specs.Lists.{table}
use Rattle.ternary.proofs.BitLaws.{eqb_digit}
use Rattle.ternary.proofs.ListLaws.{get_or-table, length-table}
use Rattle.ternary.proofs.Tests.{fails, by_test}
use Rattle.net.specs.declared.Net.{Net}
use Rattle.net.specs.Limits.{most_vertices}
use Rattle.net.specs.Classes.{classes, inner, labels}
use Rattle.net.specs.Component.{every_edge, components}
use Rattle.net.specs.Tables.{Readable, Prepared, storage_flags, component_labels}
use Rattle.net.specs.Graph.{no_vertex, vertex_at, edge_at, has_role, is_storage}
use Rattle.net.proofs.Classes.{role_range, storage_range, inner_end1, inner_end2}
use Rattle.net.proofs.ClassTables.{take-classes}

module _ (N : Net) where
  -- number 0 and the numbers above the count are no vertices
  pub no_vertex_0 : (r : ℕ) → has_role N 0 r ≡ false
  unfolding has_role
  no_vertex_0 r = refl

  pub no_vertex_above : (v r : ℕ) → N.vertex_count < v → has_role N v r ≡ false
  no_vertex_above v r h = fails (has_role N v r) (λ e. omega (arith, role_range N v r e))

  pub no_storage_0 : digit (is_storage N 0) ≡ 0
  unfolding is_storage has_role
  no_storage_0 = refl

  pub no_storage_above : (v : ℕ) → N.vertex_count < v → is_storage N v ≡ false
  no_storage_above v h = fails (is_storage N v) (λ e. omega (arith, storage_range N v e))

  -- a storage vertex has a row in a table of vertices
  pub storage_row : Readable N → (y : ℕ) → is_storage N y ≡ true → y ≤ most_vertices
  storage_row readable y s = omega (arith, storage_range N y s, readable.vertices)

  -- the vertex at index i, which is vertex i + 1
  pub role_at : (i r : ℕ) → i < N.vertex_count → has_role N (i + 1) r ≡ eqb (get_or N.vertices i no_vertex).role r
  unfolding has_role vertex_at
  role_at i r h =
      let q : i + 1 - 1 ≡ i = omega arith in
      rw (lt-ltb 0 (i + 1) (omega arith), le-leb (i + 1) N.vertex_count (omega arith), q)

  pub storage_at : (i : ℕ) → i < N.vertex_count → is_storage N (i + 1) ≡ (eqb (get_or N.vertices i no_vertex).role 1 || eqb (get_or N.vertices i no_vertex).role 2)
  unfolding is_storage
  storage_at i h = rw (role_at i 1 h, role_at i 2 h)

-- the flag of a role
pub flag_storage : (r : ℕ) → 1 ≤ r → r ≤ 2 → 1 ≡ digit (eqb r 1 || eqb r 2)
flag_storage r l h = by_test (eqb r 1) (λ e. rw e) (λ e. rw (e, eq-eqb r 2 (omega (arith, eqb-false r 1 e))))

pub flag_other : (r : ℕ) → r ≢ 1 → r ≢ 2 → 0 ≡ digit (eqb r 1 || eqb r 2)
flag_other r a b = rw (ne_eqb r 1 a, ne_eqb r 2 b)

-- an entry of a table of flags tells the test that made the table; no vertex passes it beyond the table
pub flag_test : (p : ℕ → Bool) → ((v : ℕ) → p v ≡ true → v ≤ most_vertices) → (v : ℕ) → eqb (get_or (table (suc most_vertices) (λ u. digit (p u))) v 0) 1 ≡ p v
flag_test p inside v = by_test (leb v most_vertices)
    (λ h. ap (λ (x : ℕ). eqb x 1) (get_or-table (suc most_vertices) (λ u. digit (p u)) v 0 (omega (arith, leb-true v most_vertices h))) ∙ eqb_digit (p v))
    (λ h.
    let above = leb-false v most_vertices h in
    ap (λ (x : ℕ). eqb x 1) (get_or-eq_default (table (suc most_vertices) (λ u. digit (p u))) 0 {n = v} (omega (arith, above, length-table (suc most_vertices) (λ u. digit (p u)))))
    ∙ sym (fails (p v) (λ t. omega (arith, above, inside v t))))

module _ (N : Net) (s : List ℕ) (flags : s ≡ storage_flags N) where
  pub storage_read : (v : ℕ) → v ≤ most_vertices → get_or s v 0 ≡ digit (is_storage N v)
  unfolding storage_flags
  storage_read v h = rw flags (get_or-table (suc most_vertices) (λ u. digit (is_storage N u)) v 0 (omega arith))

  pub storage_test : (v : ℕ) → v ≤ most_vertices → eqb (get_or s v 0) 1 ≡ is_storage N v
  storage_test v h = rw (storage_read v h) (eqb_digit (is_storage N v))

  -- edge i joins storage vertices, told by their flags
  pub inner_read : (i : ℕ) → (edge_at N i).end1 ≤ most_vertices → (edge_at N i).end2 ≤ most_vertices
      → (r : ℕ) → r ≡ digit (eqb (get_or s (edge_at N i).end1 0) 1 && eqb (get_or s (edge_at N i).end2 0) 1) → eqb r 1 ≡ inner N (edge_at N i)
  unfolding inner
  inner_read i a b r e = rw (e, storage_test _ a, storage_test _ b) (eqb_digit _)

module _ (N : Net) where
  -- the walk over the edges that pass a test labels the vertices in use as `labels` says
  pub labels_in_use : (on : ℕ → Bool) (n : ℕ) → N.vertex_count ≤ most_vertices
      → take (suc N.vertex_count) (classes (suc most_vertices) (λ i. (edge_at N i).end1) (λ i. (edge_at N i).end2) (λ i. on i && inner N (edge_at N i)) n) ≡ labels N on n
  unfolding labels
  labels_in_use on n h =
      take-classes (suc N.vertex_count) (suc most_vertices) _ _ _ (omega arith) n
      (λ i _ e. storage_range N _ (inner_end1 N on i e))
      (λ i _ e. storage_range N _ (inner_end2 N on i e))

  pub component_labels_in_use : N.vertex_count ≤ most_vertices → take (suc N.vertex_count) (component_labels N) ≡ components N
  unfolding component_labels
  component_labels_in_use = labels_in_use every_edge N.edge_count

  -- the tables that the code makes of a net
  pub prepared : {storage labels : List ℕ} → Readable N → storage ≡ storage_flags N → labels ≡ component_labels N → Prepared N storage labels
  prepared r s l = record { readable = r; flags = s; labelled = rw l (component_labels_in_use r.vertices) }
