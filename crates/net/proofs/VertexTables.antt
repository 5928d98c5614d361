-- A table with an entry for each vertex number, stored vertex by vertex. Assumes nothing.
use mathlib.Core.Path.{◌≡◌, subst, sym, ◌∙◌}
use mathlib.Core.Logic.{◌⊎◌, inl, inr}
use mathlib.Core.List.{List}
use Prim.Native.Nat.{ℕ, zero, suc, ◌+◌, ◌<◌}
use native.Mathlib.Omega.{arith}
use lib.Dec.{ltb}
use lib.ListN.{length, get_or, take, set, length-set, replicate, length-replicate, get_or-replicate, get_or-eq_default}
use lib.Seq.{get_or-set_same, get_or-set_other, get_or-take, ext_get_or}
use borrow.Author.Tests.{ltb-true, ltb-false}
use Rattle.ternary.specs.Lists.{table}
use Rattle.ternary.proofs.ListLaws.{below_cases, length-table, get_or-table}
use Rattle.ternary.proofs.Tests.{by_test}
use Rattle.net.specs.declared.Net.{Net}
use Rattle.net.specs.declared.Vertex.{Vertex}
use Rattle.net.specs.Limits.{most_vertices}
use Rattle.net.specs.Graph.{no_vertex}
use Rattle.net.specs.VertexTables.{OfVertices}
use Rattle.net.proofs.InUse.{in_use}

module _ {X : Type 0} (P : ℕ → X → Type 0) (z : X) where
  -- r has the entries of the first n vertices
  pub record Entered (r : List X) (n : ℕ) : Type 0 where
    pub size : length r ≡ suc most_vertices
    pub first : get_or r 0 z ≡ z
    pub stored : (i : ℕ) → i < n → P i (get_or r (i + 1) z)
    pub above : (v : ℕ) → n < v → get_or r v z ≡ z

  same_read : (n j : ℕ) → get_or (replicate n z) j z ≡ z
  same_read n j = by_test (ltb j n)
      (λ h. get_or-replicate n j z z (ltb-true j n h))
      (λ h. get_or-eq_default (replicate n z) z (omega (arith, ltb-false j n h, length-replicate n z)))

  -- before the first turn
  pub enter_none : Entered (replicate (suc most_vertices) z) 0
  enter_none = record { size = length-replicate (suc most_vertices) z; first = same_read (suc most_vertices) 0; stored = λ i h. absurd (omega arith); above = λ v h. same_read (suc most_vertices) v }

  -- a turn
  pub enter_next : {r : List X} {n : ℕ} {x : X} → Entered r n → n < most_vertices → P n x → Entered (set r (n + 1) x) (n + 1)
  enter_next {r} {n} {x} m h p =
      record {
        size = length-set r (n + 1) x ∙ m.size;
        first = get_or-set_other r (n + 1) 0 x z (omega arith) ∙ m.first;
        stored = λ i l. go i (below_cases {i = i} {n = n} (omega arith));
        above = λ v l. get_or-set_other r (n + 1) v x z (omega arith) ∙ m.above v (omega arith);
      }
    where
      go : (i : ℕ) → (i < n) ⊎ (i ≡ n) → P i (get_or (set r (n + 1) x) (i + 1) z)
      go i (inl k) = rw (get_or-set_other r (n + 1) (i + 1) x z (omega arith)) (m.stored i k)
      go i (inr k) = subst (λ (j : ℕ). P j (get_or (set r (n + 1) x) (j + 1) z)) (sym k) (rw (get_or-set_same r (n + 1) x z (omega (arith, m.size))) p)

-- the vertex of a turn
pub vertex_read : (N : Net) {i : ℕ} → i < length (take N.vertex_count N.vertices) → get_or (take N.vertex_count N.vertices) i no_vertex ≡ get_or N.vertices i no_vertex
vertex_read N {i} h = get_or-take N.vertex_count N.vertices i no_vertex (in_use N.vertex_count N.vertices h)

-- after the last
pub entered_all : (N : Net) {X : Type 0} (R : Vertex → X → Type 0) {z : X} {r : List X} → Entered (λ i x. R (get_or N.vertices i no_vertex) x) z r N.vertex_count → OfVertices N R z r
entered_all N R m = record { size = m.size; first = m.first; stored = m.stored; above = m.above }

-- a table of numbers by the numbers of the vertices
pub by_vertex_table : (N : Net) (R : Vertex → ℕ → Type 0) (f : ℕ → ℕ) {r : List ℕ} → OfVertices N R 0 r
    → 0 ≡ f 0 → ((i x : ℕ) → i < N.vertex_count → R (get_or N.vertices i no_vertex) x → x ≡ f (i + 1)) → ((v : ℕ) → N.vertex_count < v → 0 ≡ f v)
    → r ≡ table (suc most_vertices) f
by_vertex_table N R f {r} m first turn above =
    ext_get_or 0 r (table (suc most_vertices) f) (m.size ∙ sym (length-table (suc most_vertices) f))
    (λ j l. entry j ∙ sym (get_or-table (suc most_vertices) f j 0 (omega (arith, m.size))))
  where
    of_vertex : (i : ℕ) → get_or r (i + 1) 0 ≡ f (i + 1)
    of_vertex i = by_test (ltb i N.vertex_count)
        (λ h. turn i _ (ltb-true i _ h) (m.stored i (ltb-true i _ h)))
        (λ h. m.above (i + 1) (omega (arith, ltb-false i _ h)) ∙ above (i + 1) (omega (arith, ltb-false i _ h)))

    entry : (j : ℕ) → get_or r j 0 ≡ f j
    entry zero = m.first ∙ first
    entry (suc i) =
        let q : i + 1 ≡ suc i = omega arith in
        subst (λ (j : ℕ). get_or r j 0 ≡ f j) q (of_vertex i)
