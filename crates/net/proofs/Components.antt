-- `same_component`, `is_signal` and `signals` compute the components and their signals.
use mathlib.Core.Path.{◌≡◌, refl, subst}
use mathlib.Core.Bool.{Bool, true, ◌&&◌}
use mathlib.Core.Logic.{⊎_elim, ◌↔◌}
use mathlib.Core.List.{Memᴰ}
use Prim.Native.Nat.{ℕ, ◌<◌}
use lib.Dec.{eqb}
use borrow.Author.Tests.{eqb-true, eq-eqb}
use Rattle.net.specs.declared.Edge.{Edge}
use Rattle.net.specs.declared.Net.{Net}
use Rattle.net.specs.Symbols.{decode, is_variable, symbol_bound}
use Rattle.net.specs.Graph.{vertex_at, edge_at, is_input, is_storage}
use Rattle.net.specs.Walks.{Joins, Link}
use Rattle.net.specs.Classes.{leads}
use Rattle.net.specs.Component.{every_edge, SameComponent, Signal, on_edge, on_input, components, same_component, carries, gives, is_signal, signals}
use Rattle.ternary.proofs.Tests.{ands, and_left, and_right, both, or_true, or_left, or_right}
use Rattle.ternary.proofs.ListLaws.{any_found, any_of, listed, list_of}
use Rattle.net.proofs.Values.{variable_range}
use Rattle.net.proofs.Reach.{same_walk, walk_same, Leading, leads_leading, leading_leads}

module _ (N : Net) where
  pub same_component_iff : (y z : ℕ) → (same_component N y z ≡ true) ↔ SameComponent N y z
  unfolding same_component
  same_component_iff y z = (there, back)
    where
      there : same_component N y z ≡ true → SameComponent N y z
      there e =
          let sy : is_storage N y ≡ true = search ands in
          let sz : is_storage N z ≡ true = search ands in
          record { from = sy; to = sz; joined = same_walk N every_edge y z sy sz (search ands) }

      back : SameComponent N y z → same_component N y z ≡ true
      back c = both (both c.from c.to) (walk_same N every_edge y z c.from c.to c.joined)

  module _ (y : ℕ) where
    leading_component : (stop : ℕ → Bool) (e : Edge) → is_storage N y ≡ true → (r : Leading N every_edge stop y e) → SameComponent N y r.from
    leading_component stop e sy r = record { from = sy; to = r.storage; joined = same_walk N every_edge y r.from sy r.storage r.same }

    component_leads : (stop : ℕ → Bool) {z w : ℕ} → SameComponent N y z → (l : Link N every_edge z w) → stop w ≡ true → leads N (components N) stop y (edge_at N l.index) ≡ true
    component_leads stop {z} {w} c l s =
        leading_leads N every_edge stop y _ (record { from = z; to = w; storage = c.to; same = walk_same N every_edge y z c.from c.to c.joined; stops = s; joins = l.joins })

    -- the first disjunct of `gives`
    abbrev by_symbol : ℕ → Edge → Bool
    by_symbol s e = eqb e.symbol s && leads N (components N) (λ x. true) y e

    gives_signal : (s i : ℕ) → is_storage N y ≡ true → is_variable (decode s) ≡ true → i < N.edge_count
        → gives N (components N) y s (edge_at N i) ≡ true → Signal N y s
    unfolding gives carries
    gives_signal s i sy v h g = ⊎_elim by_edge by_input (or_true (by_symbol s e) _ g)
      where
        e : Edge
        e = edge_at N i

        to-link : {z w : ℕ} → Joins e z w → Link N every_edge z w
        to-link j = record { index = i; below = h; passes = refl; joins = j }

        by_edge : by_symbol s e ≡ true → Signal N y s
        by_edge k =
            let r : Leading N every_edge (λ x. true) y e = leads_leading N every_edge (λ x. true) y e (search ands) in
            let q : e.symbol ≡ s = eqb-true e.symbol s (search ands) in
            subst (Signal N y) q (on_edge (leading_component (λ x. true) e sy r) (to-link r.joins) (rw q v))

        by_input : leads N (components N) (carries N s) y e ≡ true → Signal N y s
        by_input k =
            let r : Leading N every_edge (carries N s) y e = leads_leading N every_edge (carries N s) y e k in
            let c : (is_input N r.to && eqb (vertex_at N r.to).label s) ≡ true = r.stops in
            let q : (vertex_at N r.to).label ≡ s = eqb-true (vertex_at N r.to).label s (search ands) in
            subst (Signal N y) q (on_input (leading_component (carries N s) e sy r) (to-link r.joins) (search ands) (rw q v))

    gives_test : (s i : ℕ) → is_storage N y ≡ true → is_variable (decode s) ≡ true → i < N.edge_count
        → gives N (components N) y s (edge_at N i) ≡ true → is_signal N (components N) y s ≡ true
    unfolding is_signal
    gives_test s i sy v h g = both (both sy v) (any_of _ N.edge_count i h g)

    signal_test : {s : ℕ} → Signal N y s → is_signal N (components N) y s ≡ true
    unfolding gives carries
    signal_test (on_edge c l v) =
        let e = edge_at N l.index in
        gives_test e.symbol l.index c.from v l.below
        (or_left (by_symbol e.symbol e) _ (both (eq-eqb e.symbol _ refl) (component_leads (λ x. true) c l refl)))
    signal_test (on_input {x = x} c l i v) =
        let e = edge_at N l.index in
        let s = (vertex_at N x).label in
        gives_test s l.index c.from v l.below
        (or_right (by_symbol s e) _ (component_leads (carries N s) c l (both i (eq-eqb s _ refl))))

    pub is_signal_iff : (s : ℕ) → (is_signal N (components N) y s ≡ true) ↔ Signal N y s
    unfolding is_signal
    is_signal_iff s = (there, signal_test)
      where
        found : Bool
        found = is_storage N y && is_variable (decode s)

        there : is_signal N (components N) y s ≡ true → Signal N y s
        there e =
            let r = any_found _ N.edge_count (and_right found _ e) in
            let t = and_left found _ e in
            gives_signal s r.0 (and_left (is_storage N y) _ t) (and_right (is_storage N y) _ t) r.1 r.2

    pub signal_range : {s : ℕ} → Signal N y s → s < symbol_bound
    signal_range (on_edge c l v) = variable_range _ v
    signal_range (on_input c l i v) = variable_range _ v

    -- every signal is in the list, which holds nothing else; `list_below` lists them rising
    pub signals_iff : (s : ℕ) → Memᴰ s (signals N y) ↔ Signal N y s
    unfolding signals
    signals_iff s = (λ m. (is_signal_iff s).0 (listed (is_signal N (components N) y) symbol_bound s m).1, λ g. list_of (is_signal N (components N) y) symbol_bound s (signal_range g) ((is_signal_iff s).1 g))
