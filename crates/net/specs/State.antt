-- Values of symbols and conditions of edges under an input state a and a key state q. Both are numbers: letter j weighs 2 ^ (j - 1) in a,
-- and the key node of index k weighs 2 ^ k in q.
use Rattle.std.specs.Prelude.{Bool, true, false, cond, ◌&&◌, List, ℕ, zero, suc, ◌-◌, eqb}
use Rattle.net.specs.declared.Edge.{Edge}
use Rattle.net.specs.declared.Net.{Net}
use Rattle.net.specs.declared.Symbol.{Symbol}
use Rattle.net.specs.declared.Symbol.TheVariants.{Constant, Letter, Vertex, Unknown}
use Rattle.net.specs.declared.Condition.{Condition}
use Rattle.net.specs.declared.Condition.TheVariants.{Open, NClosed, PClosed}
use Rattle.net.specs.declared.Kind.{Kind}
use Rattle.net.specs.declared.Kind.TheVariants.{Any, NType, PType}
use Rattle.ternary.specs.Lists.{table}
use Rattle.ternary.specs.Bits.{bit}
use Rattle.net.specs.Symbols.{decode}
use Rattle.net.specs.Graph.{vertex_at, edge_at, is_input, key_index}

-- An unknown symbol, which no accepted net has, counts as 0.
unfoldable pub symbol_value : Net → ℕ → ℕ → Symbol → ℕ
symbol_value N a q (Constant c) = c
symbol_value N a q (Letter j) = bit a (j - 1)
symbol_value N a q (Vertex v) = bit q (key_index N v)
symbol_value N a q Unknown = 0

-- the value of symbol number s
unfoldable pub value : Net → ℕ → ℕ → ℕ → ℕ
value N a q s = symbol_value N a q (decode s)

-- form 0 is closed at 1 and of type n, form 1 at 0 and p, form 2 at 0 and n, form 3 at 1 and p
unfoldable pub condition_of : ℕ → ℕ → Condition
condition_of zero v = cond (eqb v 1) NClosed Open
condition_of (suc zero) v = cond (eqb v 0) PClosed Open
condition_of (suc (suc zero)) v = cond (eqb v 0) NClosed Open
condition_of (suc (suc (suc zero))) v = cond (eqb v 1) PClosed Open
condition_of (suc (suc (suc (suc f)))) v = Open

unfoldable pub condition : Net → ℕ → ℕ → Edge → Condition
condition N a q e = condition_of e.form (value N a q e.symbol)

-- the edges that a connection of each kind may use
abbrev pub admits : Kind → Condition → Bool
admits Any Open = false
admits Any NClosed = true
admits Any PClosed = true
admits NType Open = false
admits NType NClosed = true
admits NType PClosed = false
admits PType Open = false
admits PType NClosed = false
admits PType PClosed = true

-- edge i may be used by a connection of kind k
unfoldable pub usable : Net → ℕ → ℕ → Kind → ℕ → Bool
usable N a q k i = admits k (condition N a q (edge_at N i))

-- the conditions of all edges
unfoldable pub conditions : Net → ℕ → ℕ → List Condition
conditions N a q = table N.edge_count (λ i. condition N a q (edge_at N i))

-- vertex x is an input vertex of value b
unfoldable pub input_of : Net → ℕ → ℕ → ℕ → ℕ → Bool
input_of N a q b x = is_input N x && eqb (value N a q (vertex_at N x).label) b
