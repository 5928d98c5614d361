-- A line below the header, as code tests it, decodes it and adds it to the record.
use Prim.Native.Nat.{ℕ, suc, ◌+◌, ◌≤◌, ◌<◌}
use native.Mathlib.Omega.{arith}
use mathlib.Core.Path.{◌≡◌, refl, sym, subst}
use mathlib.Core.Bool.{Bool, true, false, cond, true≢false}
use lib.Dec.{ltb}
use borrow.Author.Tests.{eq-eqb, ne_eqb, eqb-true, lt-ltb, le-ltb, ltb-true, ltb-false}
use Rattle.net.specs.declared.Net.{Net}
use Rattle.net.specs.Limits.{most_vertices, most_edges}
use Rattle.net.specs.Symbols.{symbol_bound}
use Rattle.ternary.proofs.Tests.{ands, fails, cond_by}
use Rattle.sheet.specs.declared.Line.{Line}
use Rattle.sheet.specs.declared.Entry.{Entry}
use Rattle.sheet.specs.declared.Entry.TheVariants.{Vertex, Edge}
use Rattle.std.specs.Prelude.{Option, Some, None}
use Rattle.sheet.specs.Rules.{vertex_ok, edge_ok}
use Rattle.sheet.specs.Reading.{vertex_of, edge_of, vertex_line_ok, edge_line_ok, add_line}
use Rattle.sheet.specs.Reading.Step.{next, stop}
use Rattle.sheet.specs.Entries.{decode_line, with_entry, step_of, HasPlace}
use Rattle.sheet.proofs.RuleLaws.{VertexRange, vertex_range, EdgeRange, edge_range}

-- ---- a vertex line

module _ (N : Net) (j : ℕ) (v : Line) where
  pub vertex_line_range : vertex_line_ok N j v ≡ true → VertexRange (vertex_of v)
  unfolding vertex_line_ok
  vertex_line_range t = vertex_range N (vertex_of v) (search ands)

  pub no_role : 2 < v.third → false ≡ vertex_line_ok N j v
  no_role h = sym (fails (vertex_line_ok N j v) (λ t. let r = vertex_line_range t in omega arith))

  pub no_label : symbol_bound ≤ v.fourth → false ≡ vertex_line_ok N j v
  no_label h = sym (fails (vertex_line_ok N j v) (λ t. let r = vertex_line_range t in omega arith))

  pub no_vertex-line : (v.kind ≡ 2 → ⊥) → false ≡ vertex_line_ok N j v
  unfolding vertex_line_ok
  no_vertex-line f = rw (ne_eqb v.kind 2 f)

  pub other-number : (v.second ≡ suc j → ⊥) → false ≡ vertex_line_ok N j v
  unfolding vertex_line_ok
  other-number f = sym (fails (vertex_line_ok N j v) (λ t. f (eqb-true v.second (suc j) (search ands))))

  pub other_fifth : (v.fifth ≡ 0 → ⊥) → false ≡ vertex_line_ok N j v
  unfolding vertex_line_ok
  other_fifth f = sym (fails (vertex_line_ok N j v) (λ t. f (eqb-true v.fifth 0 (search ands))))

  pub vertex_line_lem : v.kind ≡ 2 → v.second ≡ suc j → v.fifth ≡ 0 → vertex_ok N (vertex_of v) ≡ vertex_line_ok N j v
  unfolding vertex_line_ok
  vertex_line_lem kind number z = rw (eq-eqb v.kind 2 kind, eq-eqb v.second (suc j) number, eq-eqb v.fifth 0 z)

-- ---- an edge line

module _ (N : Net) (v : Line) where
  pub edge_line_range : edge_line_ok N v ≡ true → EdgeRange N (edge_of v)
  unfolding edge_line_ok
  edge_line_range t = edge_range N (edge_of v) (search ands)

  -- a number out of its range
  pub no_edge_lem : (EdgeRange N (edge_of v) → ⊥) → false ≡ edge_line_ok N v
  no_edge_lem f = sym (fails (edge_line_ok N v) (λ t. f (edge_line_range t)))

  pub no_edge-line : (v.kind ≡ 3 → ⊥) → false ≡ edge_line_ok N v
  unfolding edge_line_ok
  no_edge-line f = rw (ne_eqb v.kind 3 f)

  pub edge_line_lem : v.kind ≡ 3 → edge_ok N (edge_of v) ≡ edge_line_ok N v
  unfolding edge_line_ok
  edge_line_lem kind = rw (eq-eqb v.kind 3 kind)

-- ---- a line, decoded

module _ (N : Net) (j : ℕ) (v : Line) where
  module _ (below : j < N.vertex_count) where
    pub vertex-refused : vertex_line_ok N j v ≡ false → None ≡ decode_line N j v
    unfolding decode_line
    vertex-refused t = rw (lt-ltb j N.vertex_count below, t)

    pub vertex_allowed : vertex_line_ok N j v ≡ true → Some (Vertex (vertex_of v)) ≡ decode_line N j v
    unfolding decode_line
    vertex_allowed t = rw (lt-ltb j N.vertex_count below, t)

  module _ (after : N.vertex_count ≤ j) where
    pub edge-refused : edge_line_ok N v ≡ false → None ≡ decode_line N j v
    unfolding decode_line
    edge-refused t = rw (le-ltb j N.vertex_count after, t)

    pub edge_allowed : edge_line_ok N v ≡ true → Some (Edge (edge_of v)) ≡ decode_line N j v
    unfolding decode_line
    edge_allowed t = rw (le-ltb j N.vertex_count after, t)

  -- what reading does with the line is what it does with what the line is decoded to
  pub decoded_step : step_of N j (decode_line N j v) ≡ add_line N j v
  unfolding decode_line add_line
  decoded_step = go (ltb j N.vertex_count) (vertex_line_ok N j v) (edge_line_ok N v)
    where
      go : (b c d : Bool)
          → elim (cond b (cond c (Some (Vertex (vertex_of v))) None) (cond d (Some (Edge (edge_of v))) None)) [ Some x ↦ next (with_entry N j x) | None ↦ stop (cond b 15 16) ]
          ≡ cond b (cond c (next (with_entry N j (Vertex (vertex_of v)))) (stop 15)) (cond d (next (with_entry N j (Edge (edge_of v)))) (stop 16))
      go true true d = refl
      go true false d = refl
      go false c true = refl
      go false c false = refl

  -- within the limits there is a place for what it adds
  module _ (below : j < N.vertex_count + N.edge_count) (few : N.vertex_count ≤ most_vertices) (few_edges : N.edge_count ≤ most_edges) where
    pub entry_place : (x : Entry) → decode_line N j v ≡ Some x → HasPlace N j x
    unfolding decode_line
    entry_place x =
        cond_by Placed (ltb j N.vertex_count)
        (λ t. let low = ltb-true j _ t in cond_by Placed (vertex_line_ok N j v) (λ _. placed (Vertex (vertex_of v)) (omega arith)) (λ _. never))
        (λ t. let high = ltb-false j _ t in cond_by Placed (edge_line_ok N v) (λ _. placed (Edge (edge_of v)) (high, omega arith)) (λ _. never))
      where
        Placed : Option Entry → Type 0
        Placed d = d ≡ Some x → HasPlace N j x

        placed : (y : Entry) → HasPlace N j y → Placed (Some y)
        placed y h e = let same : y ≡ x = cc in subst (HasPlace N j) same h

        never : Placed None
        never e = absurd (true≢false (cc))
