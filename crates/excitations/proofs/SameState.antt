-- The vertices of one component have one state at each assignment of its signals.
use Prim.Native.Nat.{ℕ, suc, ◌+◌}
use mathlib.Core.Path.{◌≡◌, ap}
use mathlib.Core.Bool.{Bool, cond}
use Rattle.ternary.specs.Bits.{bit, number}
use Rattle.ternary.specs.Lists.{count_below}
use Rattle.net.specs.declared.Net.{Net}
use Rattle.net.specs.Limits.{letter_base, vertex_base}
use Rattle.net.specs.Graph.{key_count, key_vertex}
use Rattle.net.specs.Component.{SameComponent, components, is_signal}
use Rattle.net.specs.SignalTable.{signal_index, setting, spread_input, spread_keys}
use Rattle.net.proofs.SignalLists.{is_signal_component}

module _ {N : Net} {y z : ℕ} (c : SameComponent N y z) where
  -- the two tests of signals are one function
  one_test : is_signal N (components N) y ≡ is_signal N (components N) z
  one_test = λ i s. is_signal_component N c s i

  setting_same : (w : ℕ) → setting N y w ≡ setting N z w
  unfolding setting signal_index
  setting_same w = ap {B = ℕ → ℕ} (λ (p : ℕ → Bool) (s : ℕ). cond (p s) (bit w (count_below s p)) 0) one_test

  pub input_same : (w : ℕ) → spread_input N y w ≡ spread_input N z w
  unfolding spread_input
  input_same w = ap (λ (f : ℕ → ℕ). number N.letter_count (λ j. f (letter_base + suc j))) (setting_same w)

  pub keys-same : (w : ℕ) → spread_keys N y w ≡ spread_keys N z w
  unfolding spread_keys
  keys-same w = ap (λ (f : ℕ → ℕ). number (key_count N) (λ k. f (vertex_base + key_vertex N k))) (setting_same w)
