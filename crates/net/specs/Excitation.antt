-- Excitation and fights, computed.
use Rattle.std.specs.Prelude.{Bool, cond, not, ◌&&◌, ◌||◌, List, ℕ, suc, eqb, get_or}
use Rattle.net.specs.declared.Condition.{Condition}
use Rattle.net.specs.declared.Condition.TheVariants.{Open}
use Rattle.net.specs.declared.Net.{Net}
use Rattle.ternary.specs.Lists.{any_below}
use Rattle.net.specs.Graph.{edge_at, is_storage}
use Rattle.net.specs.declared.Kind.{Kind}
use Rattle.net.specs.declared.Kind.TheVariants.{Any, NType, PType}
use Rattle.net.specs.State.{admits, usable, conditions, input_of}
use Rattle.net.specs.Classes.{reaches}

-- `connected`, where cs lists the edges' conditions
unfoldable pub connected_under : Net → ℕ → ℕ → List Condition → Kind → ℕ → ℕ → Bool
connected_under N a q cs k y b = reaches N (λ i. admits k (get_or cs i Open)) (input_of N a q b) y

-- storage vertex y has a connection of kind k to an input vertex of value b
unfoldable pub connected : Net → ℕ → ℕ → Kind → ℕ → ℕ → Bool
connected N a q k y b = connected_under N a q (conditions N a q) k y b

-- n0, c0: an n-connection, a connection to 0. p1, c1: a p-connection, a connection to 1
unfoldable pub excitation_of : Bool → Bool → Bool → Bool → ℕ
excitation_of n0 c0 p1 c1 = cond (n0 && not c1) 0 (cond (p1 && not c0) 1 (cond (not c0 && not c1) 3 (cond (c0 && c1) 5 2)))

unfoldable pub excitation : Net → ℕ → ℕ → ℕ → ℕ
excitation N a q y =
    let cs = conditions N a q in
    excitation_of (connected_under N a q cs NType y 0) (connected_under N a q cs Any y 0) (connected_under N a q cs PType y 1) (connected_under N a q cs Any y 1)

-- 2, a weak drive, or 5, a fight: what C3 shuts out
unfoldable pub uncertain : ℕ → Bool
uncertain v = eqb v 2 || eqb v 5

-- a closed edge between opposite inputs
unfoldable pub edge_fights : Net → ℕ → ℕ → ℕ → Bool
edge_fights N a q i =
    let e = edge_at N i in
    usable N a q Any i
    && (input_of N a q 0 e.end1 && input_of N a q 1 e.end2 || input_of N a q 0 e.end2 && input_of N a q 1 e.end1)

-- a storage vertex connected to both values
unfoldable pub vertex_fights : Net → ℕ → ℕ → ℕ → Bool
vertex_fights N a q y = is_storage N y && eqb (excitation N a q y) 5

unfoldable pub fights : Net → ℕ → ℕ → Bool
fights N a q =
    any_below N.edge_count (edge_fights N a q)
    || any_below (suc N.vertex_count) (vertex_fights N a q)
