-- States by signals: the values of a component's signals as one number, signal i of its list (from 0) weighing 2 ^ i, and the truth table over them.
use Rattle.std.specs.Prelude.{ℕ, suc, ◌+◌, ◌^◌, cond, List, length, get_or}
use Rattle.ternary.specs.Lists.{table, count_below}
use Rattle.ternary.specs.Bits.{bit, number}
use Rattle.net.specs.declared.Net.{Net}
use Rattle.net.specs.Limits.{letter_base, vertex_base}
use Rattle.net.specs.Graph.{key_count, key_vertex}
use Rattle.net.specs.State.{value}
use Rattle.net.specs.Excitation.{excitation}
use Rattle.net.specs.Component.{components, is_signal, signals}

unfoldable pub signal_count : Net → ℕ → ℕ
signal_count N y = length (signals N y)

-- the values of y's signals under a state
unfoldable pub gather : Net → ℕ → ℕ → ℕ → ℕ
gather N y a q = number (signal_count N y) (λ i. value N a q (get_or (signals N y) i 0))

-- the place of s among y's signals
unfoldable pub signal_index : Net → ℕ → ℕ → ℕ
signal_index N y s = count_below s (is_signal N (components N) y)

-- the value of symbol s where y's signals have the values w: 0 if s is none of them
unfoldable pub setting : Net → ℕ → ℕ → ℕ → ℕ
setting N y w s = cond (is_signal N (components N) y s) (bit w (signal_index N y s)) 0

-- a state under which y's signals have the values w, all else 0
unfoldable pub spread_input : Net → ℕ → ℕ → ℕ
spread_input N y w = number N.letter_count (λ j. setting N y w (letter_base + suc j))

unfoldable pub spread_keys : Net → ℕ → ℕ → ℕ
spread_keys N y w = number (key_count N) (λ k. setting N y w (vertex_base + key_vertex N k))

-- y's excitation where the signals of its component have the values w
unfoldable pub excitation_at : Net → ℕ → ℕ → ℕ
excitation_at N y w = excitation N (spread_input N y w) (spread_keys N y w) y

-- y's truth table over all assignments of its component's signals
unfoldable pub truth_table : Net → ℕ → List ℕ
truth_table N y = table (2 ^ signal_count N y) (excitation_at N y)
