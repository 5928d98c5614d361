-- While lines are added, the record so far holds only allowed values; when all are added it is checked.
use Prim.Native.Nat.{ℕ, ◌+◌, ◌-◌, ◌≤◌, ◌<◌}
use native.Mathlib.Numerals.{add-one}
use native.Mathlib.Omega.{arith}
use mathlib.Core.Path.{◌≡◌, refl, sym, ap, subst, ◌∙◌}
use mathlib.Core.Bool.{Bool, true, false, cond, true≢false}
use mathlib.Core.List.{List}
use mathlib.Core.Logic.{◌⊎◌, inl, inr}
use lib.Dec.{ltb}
use lib.ListN.{length, get_or, set, length-set, length-replicate}
use lib.Seq.{get_or-set_same, get_or-set_other}
use borrow.Author.Tests.{ltb-true, ltb-false}
use Rattle.net.specs.declared.Vertex.{Vertex}
use Rattle.net.specs.declared.Edge.{Edge}
use Rattle.net.specs.declared.Net.{Net}
use Rattle.net.specs.Limits.{most_vertices, most_edges}
use Rattle.net.specs.Graph.{no_vertex, no_edge, vertex_at, edge_at, has_role, is_storage}
use Rattle.ternary.proofs.Tests.{ands, by_test}
use Rattle.ternary.proofs.ListLaws.{below_cases}
use Rattle.sheet.specs.declared.Line.{Line}
use Rattle.sheet.specs.Record.{start_net}
use Rattle.sheet.specs.Rules.{counts_ok, vertex_ok, symbol_ok, edge_ok}
use Rattle.sheet.specs.Checked.{Checked, SoFar}
use Rattle.sheet.specs.Reading.{vertex_of, edge_of, with_vertices, with_edges, vertex_line_ok, edge_line_ok, add_line}
use Rattle.sheet.specs.Reading.Step.{next, stop}
use Rattle.sheet.proofs.RuleLaws.{counts_facts}

pub none_yet : (v e l : ℕ) → counts_ok v e l ≡ true → SoFar (start_net v e l) 0
unfolding start_net
none_yet v e l ok = record {
  counts = ok;
  vertex_places = length-replicate most_vertices no_vertex;
  edge_places = length-replicate most_edges no_edge;
  vertices = λ i h _. absurd (omega arith);
  edges = λ k h. absurd (omega arith);
}

-- one element more is stored: it passes, and those before it pass as they did
stored : {A : Type 0} (p : A → Bool) (l : List A) (j : ℕ) (x d : A) → j < length l → p x ≡ true
    → (i : ℕ) → (i < j → p (get_or l i d) ≡ true) → i < j + 1 → p (get_or (set l j x) i d) ≡ true
stored p l j x d h ok i before last = go (below_cases (rw add-one at last))
  where
    go : (i < j) ⊎ (i ≡ j) → p (get_or (set l j x) i d) ≡ true
    go (inl b) = rw (get_or-set_other l j i x d (λ e. omega arith)) (before b)
    go (inr e) = rw (e, get_or-set_same l j x d h) ok

module _ (N : Net) (j : ℕ) (s : SoFar N j) where
  vertex-added : (x : Vertex) → j < N.vertex_count → vertex_ok N x ≡ true → SoFar (with_vertices N (set N.vertices j x)) (j + 1)
  unfolding vertex_ok
  vertex-added x h ok =
      let c = counts_facts _ _ _ s.counts in
      record {
        counts = s.counts;
        vertex_places = length-set N.vertices j x ∙ s.vertex_places;
        edge_places = s.edge_places;
        vertices = λ i l v. stored (vertex_ok N) N.vertices j x no_vertex (omega (arith, s.vertex_places)) ok i (λ b. s.vertices i b v) l;
        edges = λ k l. absurd (omega arith);
      }

  edge-added : (e : Edge) → N.vertex_count ≤ j → j < N.vertex_count + N.edge_count → edge_ok N e ≡ true
      → SoFar (with_edges N (set N.edges (j - N.vertex_count) e)) (j + 1)
  unfolding vertex_ok edge_ok symbol_ok is_storage has_role vertex_at
  edge-added e low high ok =
      let c = counts_facts _ _ _ s.counts in
      record {
        counts = s.counts;
        vertex_places = s.vertex_places;
        edge_places = length-set N.edges (j - N.vertex_count) e ∙ s.edge_places;
        vertices = λ i l v. s.vertices i (omega arith) v;
        edges = λ k l. stored (edge_ok N) N.edges (j - N.vertex_count) e no_edge (omega (arith, s.edge_places)) ok k (λ b. s.edges k (omega arith)) (omega arith);
      }

  -- a line that is added keeps the record so
  pub line-added : (v : Line) (N' : Net) → j < N.vertex_count + N.edge_count → add_line N j v ≡ next N' → SoFar N' (j + 1)
  unfolding add_line vertex_line_ok edge_line_ok
  line-added v N' h = by_test (ltb j N.vertex_count)
      (λ t. rw t (vertex_case (ltb-true j _ t) (vertex_line_ok N j v) refl))
      (λ t. rw t (edge_case (ltb-false j _ t) (edge_line_ok N v) refl))
    where
      vertex_case : j < N.vertex_count → (b : Bool) → vertex_line_ok N j v ≡ b
          → cond b (next (with_vertices N (set N.vertices j (vertex_of v)))) (stop 15) ≡ next N' → SoFar N' (j + 1)
      vertex_case l true ok e = subst (λ (M : Net). SoFar M (j + 1)) (cc) (vertex-added (vertex_of v) l (search ands))
      vertex_case l false ok e = absurd (true≢false (cc))

      edge_case : N.vertex_count ≤ j → (b : Bool) → edge_line_ok N v ≡ b
          → cond b (next (with_edges N (set N.edges (j - N.vertex_count) (edge_of v)))) (stop 16) ≡ next N' → SoFar N' (j + 1)
      edge_case l true ok e = subst (λ (M : Net). SoFar M (j + 1)) (cc) (edge-added (edge_of v) l h (search ands))
      edge_case l false ok e = absurd (true≢false (cc))

  -- and its counts
  pub counts_kept : (v : Line) (N' : Net) → add_line N j v ≡ next N' → N'.vertex_count + N'.edge_count ≡ N.vertex_count + N.edge_count
  unfolding add_line
  counts_kept v N' = go (ltb j N.vertex_count) (vertex_line_ok N j v) (edge_line_ok N v)
    where
      size : Net → ℕ
      size M = M.vertex_count + M.edge_count

      go : (b c d : Bool)
          → cond b (cond c (next (with_vertices N (set N.vertices j (vertex_of v)))) (stop 15))
          (cond d (next (with_edges N (set N.edges (j - N.vertex_count) (edge_of v)))) (stop 16)) ≡ next N'
          → size N' ≡ size N
      go true true d e = let same : with_vertices N (set N.vertices j (vertex_of v)) ≡ N' = cc in ap size (sym same)
      go true false d e = absurd (true≢false (cc))
      go false c true e = let same : with_edges N (set N.edges (j - N.vertex_count) (edge_of v)) ≡ N' = cc in ap size (sym same)
      go false c false e = absurd (true≢false (cc))

  -- a record with all its lines is checked
  pub all_added : j ≡ N.vertex_count + N.edge_count → Checked N
  unfolding vertex_at edge_at
  all_added e = record {
    counts = s.counts;
    vertices = λ v low high. s.vertices (v - 1) (omega arith) (omega arith);
    edges = λ i h. s.edges i (omega arith);
  }
