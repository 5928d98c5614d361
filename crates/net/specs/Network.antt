-- The net as a network of the ternary theory: its letters, its h key nodes, and the excitation of each key node.
use Rattle.std.specs.Prelude.{ℕ, ◌^◌, ◌<◌, Bool, ltb}
use Rattle.ternary.specs.Lists.{all_below}
use Rattle.ternary.specs.Run as run
use Rattle.net.specs.declared.Net.{Net}
use Rattle.net.specs.Graph.{key_count, key_vertex}
use Rattle.net.specs.Excitation.{excitation}

-- the excitation of the key node of index k under input state a and key state q
abbrev pub network : Net → ℕ → ℕ → ℕ → ℕ
network N a q k = excitation N a q (key_vertex N k)

-- a is an input state and q a key state of N
pub record Clean (N : Net) (a q : ℕ) : Type 0 where
  pub input : a < 2 ^ N.letter_count
  pub key : q < 2 ^ key_count N

-- the same as tests
abbrev pub is_input_state : Net → ℕ → Bool
is_input_state N a = ltb a (2 ^ N.letter_count)

abbrev pub is_key_state : Net → ℕ → Bool
is_key_state N q = ltb q (2 ^ key_count N)

-- a state is stable if every key node has the value of its excitation
abbrev pub Stable : Net → ℕ → ℕ → Type 0
Stable N a q = run.Stable (key_count N) (network N) a q

-- and as a test
unfoldable pub stable : Net → ℕ → ℕ → Bool
stable N a q = all_below (key_count N) (run.is_stable (network N) a q)
