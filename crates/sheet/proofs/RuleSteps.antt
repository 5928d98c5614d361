-- The rules as code tests them, one test after the other.
use Prim.Native.Nat.{ℕ, zero, suc, ◌-◌, ◌≤◌, ◌<◌}
use native.Mathlib.Omega.{arith}
use mathlib.Core.Path.{◌≡◌, refl, sym}
use mathlib.Core.Bool.{Bool, true, false, not, ◌&&◌, ◌||◌, and-true, and-false}
use lib.Dec.{leb, eqb}
use lib.ListN.{length, get_or, get_or-eq_default}
use borrow.Author.Tests.{eq-eqb, ne_eqb, le-leb, lt-leb}
use Rattle.net.specs.declared.Vertex.{Vertex}
use Rattle.net.specs.declared.Edge.{Edge}
use Rattle.net.specs.declared.Net.{Net}
use Rattle.net.specs.declared.Symbol.{Symbol}
use Rattle.net.specs.Limits.{most_vertices}
use Rattle.net.specs.Symbols.{within, decode, is_variable}
use Rattle.net.specs.Graph.{no_vertex, vertex_at, has_role, is_storage}
use Rattle.net.specs.Known.{known_symbol, known_label}
use Rattle.sheet.specs.declared.Form.{Form}
use Rattle.sheet.specs.declared.Form.TheVariants.{Plain, Primed, Unknown}
use Rattle.sheet.specs.Rules.{vertex_ok, primed, symbol_ok, edge_ok, form_of}

-- ---- forms

pub form_plain : (f : ℕ) → f < 2 → Plain ≡ form_of f
unfolding form_of
form_plain zero h = refl
form_plain (suc zero) h = refl
form_plain (suc (suc f)) h = absurd (omega arith)

pub form_primed : (f : ℕ) → 1 < f → f ≤ 3 → Primed ≡ form_of f
unfolding form_of
form_primed zero h l = absurd (omega arith)
form_primed (suc zero) h l = absurd (omega arith)
form_primed (suc (suc zero)) h l = refl
form_primed (suc (suc (suc zero))) h l = refl
form_primed (suc (suc (suc (suc f)))) h l = absurd (omega arith)

pub form_unknown : (f : ℕ) → 3 < f → Unknown ≡ form_of f
unfolding form_of
form_unknown zero h = absurd (omega arith)
form_unknown (suc zero) h = absurd (omega arith)
form_unknown (suc (suc zero)) h = absurd (omega arith)
form_unknown (suc (suc (suc zero))) h = absurd (omega arith)
form_unknown (suc (suc (suc (suc f)))) h = refl

-- ---- storage vertices, in any record with all its places

module _ (N : Net) (v : ℕ) where
  pub storage_outside : within 1 N.vertex_count v ≡ false → false ≡ is_storage N v
  unfolding is_storage has_role
  storage_outside h = rw h

  pub storage_beyond : length N.vertices ≡ most_vertices → most_vertices ≤ v - 1 → false ≡ is_storage N v
  unfolding is_storage has_role vertex_at
  storage_beyond size h =
      rw (get_or-eq_default N.vertices no_vertex {n = v - 1} (omega arith), and-false)

  module _ (here : within 1 N.vertex_count v ≡ true) (r : ℕ) (is : r ≡ (get_or N.vertices (v - 1) no_vertex).role) where
    pub storage_role : 1 ≤ r → r < 3 → true ≡ is_storage N v
    unfolding is_storage has_role vertex_at
    storage_role h k = rw (here, ← is) (go r h k)
      where
        go : (r : ℕ) → 1 ≤ r → r < 3 → true ≡ (eqb r 1 || eqb r 2)
        go zero h k = absurd (omega arith)
        go (suc zero) h k = refl
        go (suc (suc zero)) h k = refl
        go (suc (suc (suc r))) h k = absurd (omega arith)

    pub other_role : (r ≡ 1 → ⊥) → (r ≡ 2 → ⊥) → false ≡ is_storage N v
    unfolding is_storage has_role vertex_at
    other_role f g = rw (here, ← is, ne_eqb r 1 f, ne_eqb r 2 g)

-- ---- the symbol of an edge, by its form

symbol_by : Form → Bool → Bool → Bool
symbol_by Plain known variable = known
symbol_by Primed known variable = known && variable
symbol_by Unknown known variable = false

symbol_by_lem : (f : ℕ) (known variable : Bool) → (leb f 3 && (known && (not (primed f) || variable))) ≡ symbol_by (form_of f) known variable
unfolding form_of symbol_by
symbol_by_lem zero k v = and-true k
symbol_by_lem (suc zero) k v = and-true k
symbol_by_lem (suc (suc zero)) k v = refl
symbol_by_lem (suc (suc (suc zero))) k v = refl
symbol_by_lem (suc (suc (suc (suc f)))) k v = rw (lt-leb (suc (suc (suc (suc f)))) 3 (omega arith))

module _ (N : Net) (e : Edge) (s : Symbol) (is : s ≡ decode e.symbol) where
  tests : (leb e.form 3 && symbol_ok N e) ≡ symbol_by (form_of e.form) (known_symbol N s) (is_variable s)
  unfolding symbol_ok
  tests = rw is (symbol_by_lem e.form (known_symbol N (decode e.symbol)) (is_variable (decode e.symbol)))

  pub plain_symbol : Plain ≡ form_of e.form → known_symbol N s ≡ (leb e.form 3 && symbol_ok N e)
  unfolding symbol_by
  plain_symbol h = rw (tests, ← h)

  pub primed-symbol : Primed ≡ form_of e.form → is_variable s ≡ true → known_symbol N s ≡ (leb e.form 3 && symbol_ok N e)
  unfolding symbol_by
  primed-symbol h v = rw (tests, ← h, v) (sym (and-true (known_symbol N s)))

  pub primed_constant : Primed ≡ form_of e.form → is_variable s ≡ false → false ≡ (leb e.form 3 && symbol_ok N e)
  unfolding symbol_by
  primed_constant h v = rw (tests, ← h, v) (sym (and-false (known_symbol N s)))

  pub unknown_form : Unknown ≡ form_of e.form → false ≡ (leb e.form 3 && symbol_ok N e)
  unfolding symbol_by
  unknown_form h = rw (tests, ← h)

-- ---- vertices and edges

module _ (N : Net) (x : Vertex) where
  pub input_vertex : (s : Symbol) → s ≡ decode x.label → x.role ≡ 0 → known_label N s ≡ vertex_ok N x
  unfolding vertex_ok
  input_vertex s is r = rw (is, r)

  pub storage_vertex : (x.role ≡ 0 → ⊥) → x.role ≤ 2 → eqb x.label 0 ≡ vertex_ok N x
  unfolding vertex_ok
  storage_vertex f h = rw (ne_eqb x.role 0 f, le-leb x.role 2 h)

  pub unknown_role : 2 < x.role → false ≡ vertex_ok N x
  unfolding vertex_ok
  unknown_role h = rw (ne_eqb x.role 0 (λ e. omega arith), lt-leb x.role 2 h)

module _ (N : Net) (e : Edge) where
  pub no_end1 : within 1 N.vertex_count e.end1 ≡ false → false ≡ edge_ok N e
  unfolding edge_ok
  no_end1 h = rw h

  module _ (one : within 1 N.vertex_count e.end1 ≡ true) where
    pub no_end2 : within 1 N.vertex_count e.end2 ≡ false → false ≡ edge_ok N e
    unfolding edge_ok
    no_end2 h = rw (one, h)

    module _ (two : within 1 N.vertex_count e.end2 ≡ true) where
      pub same_ends : e.end1 ≡ e.end2 → false ≡ edge_ok N e
      unfolding edge_ok
      same_ends h = rw (one, two, eq-eqb e.end1 e.end2 h)

      pub two_ends : (e.end1 ≡ e.end2 → ⊥) → (leb e.form 3 && symbol_ok N e) ≡ edge_ok N e
      unfolding edge_ok
      two_ends f = rw (one, two, ne_eqb e.end1 e.end2 f)
