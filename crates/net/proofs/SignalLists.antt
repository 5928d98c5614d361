-- The vertices of one component have one list of signals, and the list rises: letters in order, then key nodes in order.
use Prim.Native.Nat.{ℕ, ◌+◌, ◌<◌, ◌≤◌}
use mathlib.Core.Path.{◌≡◌, sym, ◌∙◌}
use native.Mathlib.Omega.{arith}
use lib.ListN.{get_or}
use borrow.Author.Tests.{eqb-true, eq-eqb}
use Rattle.net.specs.declared.Net.{Net}
use Rattle.net.specs.declared.Symbol.TheVariants.{Letter, Vertex}
use Rattle.net.specs.Limits.{letter_base, vertex_base, most_letters}
use Rattle.net.specs.Symbols.{decode, symbol_bound}
use Rattle.net.specs.Classes.{same_label}
use Rattle.net.specs.Component.{SameComponent, Signal, on_edge, on_input, components, same_component, is_signal, signals}
use Rattle.net.specs.SignalTable.{signal_count}
use Rattle.ternary.proofs.Tests.{ands, both, same_test}
use Rattle.ternary.proofs.ListLaws.{list_rising, list_ext}
use Rattle.net.proofs.Values.{decode_by}
use Rattle.net.proofs.Components.{same_component_iff, is_signal_iff}

module _ (N : Net) where
  -- belonging to one component is an equality of labels
  component_label : {y z : ℕ} → SameComponent N y z → get_or (components N) y 0 ≡ get_or (components N) z 0
  unfolding same_component same_label
  component_label {y} {z} c = let e = (same_component_iff N y z).1 c in eqb-true _ _ (search ands)

  pub component_trans : {y z x : ℕ} → SameComponent N y z → SameComponent N z x → SameComponent N y x
  unfolding same_component same_label
  component_trans {y} {z} {x} c d =
      (same_component_iff N y x).0 (both (both c.from d.to) (eq-eqb _ _ (component_label c ∙ component_label d)))

  pub component_sym : {y z : ℕ} → SameComponent N y z → SameComponent N z y
  unfolding same_component same_label
  component_sym {y} {z} c = (same_component_iff N z y).0 (both (both c.to c.from) (eq-eqb _ _ (sym (component_label c))))

  signal_moves : {y z s : ℕ} → SameComponent N z y → Signal N y s → Signal N z s
  signal_moves c (on_edge d l v) = on_edge (component_trans c d) l v
  signal_moves c (on_input d l i v) = on_input (component_trans c d) l i v

  -- the same signals for a whole component
  pub is_signal_component : {y z : ℕ} → SameComponent N y z → (s : ℕ) → is_signal N (components N) y s ≡ is_signal N (components N) z s
  is_signal_component {y} {z} c s =
      same_test _ _
      (λ e. (is_signal_iff N z s).1 (signal_moves (component_sym c) ((is_signal_iff N y s).0 e)))
      (λ e. (is_signal_iff N y s).1 (signal_moves c ((is_signal_iff N z s).0 e)))

  -- and one list of them
  pub signals_component : {y z : ℕ} → SameComponent N y z → signals N y ≡ signals N z
  unfolding signals
  signals_component {y} {z} c = list_ext symbol_bound (is_signal N (components N) y) (is_signal N (components N) z) (is_signal_component c)

  -- the list rises
  pub signals_rising : (y i j : ℕ) → i < j → j < signal_count N y → get_or (signals N y) i 0 < get_or (signals N y) j 0
  unfolding signals signal_count
  signals_rising y i j h l = list_rising (is_signal N (components N) y) symbol_bound i j h l

-- and a letter's symbol is lower than any vertex's, so letters come first
letter_low : (s j : ℕ) → decode s ≡ Letter j → s ≤ letter_base + most_letters
letter_low s j = decode_by (λ x. x ≡ Letter j → s ≤ letter_base + most_letters) s (λ h _. omega arith) (λ _ h _. h) (λ _ _ e. absurd (apart (cc))) (λ e. absurd (apart (cc)))
  where
    apart : ◌≡◌ {A = ℕ} 0 1 → ⊥
    apart e = omega arith

vertex-high : (s v : ℕ) → decode s ≡ Vertex v → vertex_base < s
vertex-high s v = decode_by (λ x. x ≡ Vertex v → vertex_base < s) s (λ _ e. absurd (apart (cc))) (λ _ _ e. absurd (apart (cc))) (λ h _ _. h) (λ e. absurd (apart (cc)))
  where
    apart : ◌≡◌ {A = ℕ} 0 1 → ⊥
    apart e = omega arith

pub letters_first : (s t j v : ℕ) → decode s ≡ Letter j → decode t ≡ Vertex v → s < t
letters_first s t j v e f = omega (arith, letter_low s j e, vertex-high t v f)
