-- Which storage vertices are joined, computed: each vertex has a label, and each edge that counts gives both its ends' classes one label.
use Rattle.std.specs.Prelude.{Bool, cond, ◌&&◌, ◌||◌, List, map, ℕ, zero, suc, eqb, get_or}
use Rattle.net.specs.declared.Edge.{Edge}
use Rattle.net.specs.declared.Net.{Net}
use Rattle.ternary.specs.Lists.{any_below, table}
use Rattle.net.specs.Graph.{edge_at, is_storage}

unfoldable pub relabel : ℕ → ℕ → ℕ → ℕ
relabel new old l = cond (eqb l old) new l

-- the class of v takes the label of u
unfoldable pub merge : ℕ → ℕ → List ℕ → List ℕ
merge u v t = map (relabel (get_or t u 0) (get_or t v 0)) t

-- the class labels of the numbers below m after the first n edges: edge i joins u i and v i, if it counts
unfoldable pub classes : ℕ → (ℕ → ℕ) → (ℕ → ℕ) → (ℕ → Bool) → ℕ → List ℕ
classes m u v on zero = table m (λ x. x)
classes m u v on (suc n) =
    let t = classes m u v on n in
    cond (on n) (merge (u n) (v n) t) t

-- both ends of e are storage vertices
unfoldable pub inner : Net → Edge → Bool
inner N e = is_storage N e.end1 && is_storage N e.end2

-- the label of each vertex after the first n edges, vertex v at index v: an edge counts if it passes `on` and joins storage vertices
unfoldable pub labels : Net → (ℕ → Bool) → ℕ → List ℕ
labels N on n = classes (suc N.vertex_count) (λ i. (edge_at N i).end1) (λ i. (edge_at N i).end2) (λ i. on i && inner N (edge_at N i)) n

unfoldable pub same_label : List ℕ → ℕ → ℕ → Bool
same_label t u v = eqb (get_or t u 0) (get_or t v 0)

-- u is a storage vertex labelled as y, and v passes `stop`
unfoldable pub exits : Net → List ℕ → (ℕ → Bool) → ℕ → ℕ → ℕ → Bool
exits N t stop y u v = is_storage N u && same_label t y u && stop v

-- e leads from the class of y to a vertex that passes `stop`
unfoldable pub leads : Net → List ℕ → (ℕ → Bool) → ℕ → Edge → Bool
leads N t stop y e = exits N t stop y e.end1 e.end2 || exits N t stop y e.end2 e.end1

-- some walk leads from storage vertex y to a vertex that passes `stop`
unfoldable pub reaches : Net → (ℕ → Bool) → (ℕ → Bool) → ℕ → Bool
reaches N on stop y =
    let t = labels N on N.edge_count in
    any_below N.edge_count (λ i. on i && leads N t stop y (edge_at N i))
