-- Ternary excitation of a net, by the signals of one component, and the two passes of a net.
use Rattle.std.specs.Prelude.{ℕ, ◌-◌, List, get_or}
use Rattle.ternary.specs.Lists.{table}
use Rattle.ternary.specs.Signal.{at}
use Rattle.ternary.specs.Excitation.{DisagreeAt}
use Rattle.ternary.specs.Passes as passes
use Rattle.net.specs.declared.Net.{Net}
use Rattle.net.specs.declared.Symbol.{Symbol}
use Rattle.net.specs.declared.Symbol.TheVariants.{Constant, Letter, Vertex, Unknown}
use Rattle.net.specs.Symbols.{decode}
use Rattle.net.specs.Graph.{key_count, key_index}
use Rattle.net.specs.Component.{signals}
use Rattle.net.specs.SignalTable.{signal_count, excitation_at}
use Rattle.net.specs.Network.{network}

-- the signal that a symbol has where p holds the letters' signals and r the key nodes'
unfoldable pub symbol_signal : Net → List ℕ → List ℕ → Symbol → ℕ
symbol_signal N p r s = elim s [ Constant c ↦ c | Letter j ↦ at p (j - 1) | Vertex v ↦ at r (key_index N v) | Unknown ↦ 0 ]

-- the signals of y's component, in the order of their list
unfoldable pub signal_vector : Net → ℕ → List ℕ → List ℕ → List ℕ
signal_vector N y p r = table (signal_count N y) (λ i. symbol_signal N p r (decode (get_or (signals N y) i 0)))

-- two assignments of the signals of y's component, both covered by those signals, at which y's excitation differs
abbrev pub SignalsDisagree : Net → List ℕ → List ℕ → ℕ → Type 0
SignalsDisagree N p r y = DisagreeAt (excitation_at N y) (signal_vector N y p r)

-- both passes of a net from A to B and start q
abbrev pub settled : Net → ℕ → ℕ → ℕ → passes.Settled
settled N A B q = passes.settled N.letter_count (key_count N) (network N) A B q
