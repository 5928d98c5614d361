-- The key nodes that the first n edges show.
use mathlib.Core.Path.{◌≡◌, sym, ap, ◌∙◌}
use mathlib.Core.Bool.{Bool, true, false, ◌&&◌}
use mathlib.Core.Logic.{◌≢◌}
use mathlib.Core.List.{List}
use Prim.Native.Nat.{ℕ, zero, suc, ◌+◌, ◌-◌, ◌<◌, ◌≤◌}
use native.Mathlib.Numerals.{add-one}
use native.Mathlib.Omega.{arith}
use lib.Dec.{eqb}
use lib.ListN.{length, get_or, set}
use borrow.Author.Tests.{eq-eqb, ne_eqb}
use Rattle.ternary.specs.Bits.{digit}
use Rattle.ternary.specs.Lists.{any_below, count_below}
use Rattle.ternary.proofs.Tests.{by_test, not_both, fails}
use Rattle.ternary.proofs.ListLaws.{length_list}
use Rattle.net.specs.declared.Net.{Net}
use Rattle.net.specs.Limits.{most_vertices, vertex_base}
use Rattle.net.specs.Symbols.{decode}
use Rattle.net.specs.Graph.{edge_at, is_storage, is_key, keys, key_count}
use Rattle.net.specs.Tables.{vertex_of, key_flags}
use Rattle.net.proofs.Cases.{decode-vertex}
use Rattle.net.proofs.Values.{decode_by}
use Rattle.net.proofs.Classes.{storage_range}
use Rattle.net.proofs.Keys.{key_storage}
use Rattle.net.proofs.Counting.{count-table, count_above}
use Rattle.net.proofs.TableLaws.{no_vertex_0}
use Rattle.net.proofs.Filling.{zeros}
use Rattle.net.proofs.Flags.{or_true_right, or_false_right, Flagged, flags_none, flags_store, flags_table}

pub vertex_of_range : (s : ℕ) → vertex_of (decode s) ≤ most_vertices
vertex_of_range s = decode_by (λ x. vertex_of x ≤ most_vertices) s (λ _. omega arith) (λ _ _. omega arith) (λ l h. omega arith) (omega arith)

-- a vertex is the vertex of its symbol
vertex_of-symbol : (v : ℕ) → 0 < v → v ≤ most_vertices → vertex_of (decode (vertex_base + v)) ≡ v
vertex_of-symbol v l h =
    let q : vertex_base + v - vertex_base ≡ v = omega arith in
    ap vertex_of (sym (decode-vertex (vertex_base + v) (omega arith) (omega arith))) ∙ q

module _ (N : Net) where
  pub no_storage : is_storage N 0 ≡ false
  unfolding is_storage
  no_storage = rw (no_vertex_0 N 1, no_vertex_0 N 2)

  pub storage_positive : (v : ℕ) → is_storage N v ≡ true → 0 < v
  storage_positive zero e = absurd (not_both (is_storage N 0) e no_storage)
  storage_positive (suc v) e = omega arith

  -- a symbol whose vertex is a storage vertex is that vertex's symbol
  symbol_of_storage : (s : ℕ) → is_storage N (vertex_of (decode s)) ≡ true → s ≡ vertex_base + vertex_of (decode s)
  symbol_of_storage s =
      decode_by (λ x. is_storage N (vertex_of x) ≡ true → s ≡ vertex_base + vertex_of x) s
      (λ _ e. absurd (not_both (is_storage N 0) e no_storage))
      (λ _ _ e. absurd (not_both (is_storage N 0) e no_storage))
      (λ l h _. omega arith)
      (λ e. absurd (not_both (is_storage N 0) e no_storage))

  -- v is a storage vertex and the symbol of one of the first n edges
  abbrev pub key_among : ℕ → ℕ → Bool
  key_among n v = is_storage N v && any_below n (λ k. eqb (edge_at N k).symbol (vertex_base + v))

  pub keys_none : Flagged (suc most_vertices) (key_among 0) (zeros (suc most_vertices))
  unfolding any_below
  keys_none = flags_none (suc most_vertices) (λ v. by_test (is_storage N v) (λ e. rw e) (λ e. rw e))

  module _ (few : N.vertex_count ≤ most_vertices) (n : ℕ) where
    abbrev symbol : ℕ
    symbol = (edge_at N n).symbol

    -- the vertex of edge n's symbol is now a key node, if it is a storage vertex
    key_here : is_storage N (vertex_of (decode symbol)) ≡ key_among (suc n) (vertex_of (decode symbol))
    unfolding any_below
    key_here = by_test (is_storage N (vertex_of (decode symbol)))
        (λ e. rw (e, eq-eqb symbol _ (symbol_of_storage symbol e), or_true_right))
        (λ e. rw e)

    -- and no other vertex changes
    key_other : (v : ℕ) → v ≢ vertex_of (decode symbol) → key_among n v ≡ key_among (suc n) v
    unfolding any_below
    key_other v h = by_test (is_storage N v)
        (λ e. rw (e, ne_eqb symbol (vertex_base + v) (λ q. h (sym (ap (λ (s : ℕ). vertex_of (decode s)) q ∙ vertex_of-symbol v (storage_positive v e) (omega (arith, storage_range N v e)))))) (sym (or_false_right _)))
        (λ e. rw e)

    pub key_step : {r : List ℕ} (y : ℕ) → Flagged (suc most_vertices) (key_among n) r → y ≡ digit (is_storage N (vertex_of (decode symbol)))
        → Flagged (suc most_vertices) (key_among (n + 1)) (set r (vertex_of (decode symbol)) y)
    key_step y m e =
        rw add-one (flags_store m (vertex_of (decode symbol)) y (omega (arith, vertex_of_range symbol)) (e ∙ ap digit key_here) (λ j _. key_other j))

  pub keys_all : {r : List ℕ} → Flagged (suc most_vertices) (key_among N.edge_count) r → r ≡ key_flags N
  unfolding key_flags is_key
  keys_all m = flags_table m

-- the number of flags is h
pub key_count_lem : (N : Net) (r : List ℕ) → N.vertex_count ≤ most_vertices → r ≡ key_flags N → count_below (length r) (λ i. eqb (get_or r i 0) 1) ≡ key_count N
unfolding key_flags key_count keys
key_count_lem N r few e =
    count-table (suc most_vertices) (is_key N) r e
    ∙ count_above (is_key N) (suc N.vertex_count) (suc most_vertices) (omega arith)
    (λ v h. fails (is_key N v) (λ k. omega (arith, storage_range N v (key_storage N v k))))
    ∙ sym (length_list (is_key N) (suc N.vertex_count))
