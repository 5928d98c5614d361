-- How the code finds connections in lanes. Marks start at the vertices that an edge joins to an input vertex of the value, and sweeps over the edges carry
-- them on, now in the order of the edges and now against it, until nothing is left to carry.
use Rattle.std.specs.Prelude.{ℕ, zero, suc, ◌-◌, Bool, cond, not, ◌&&◌, ◌||◌, List, eqb}
use Rattle.ternary.specs.Bits.{digit}
use Rattle.ternary.specs.Lists.{any_below, all_below}
use Rattle.net.specs.declared.Net.{Net}
use Rattle.net.specs.Limits.{most_vertices}
use Rattle.net.specs.Graph.{edge_at, is_storage}
use Rattle.net.specs.State.{input_of}
use Rattle.net.specs.Classes.{inner}
use Rattle.net.specs.SignalTable.{spread_input, spread_keys}
use Rattle.lanes.specs.Lanes.{lanes, lane, raise_row, level}
use Rattle.excitations.specs.Conditions.{owner, other}

-- edge i joins y to an input vertex that has the value b at assignment w
unfoldable pub drives : Net → ℕ → ℕ → ℕ → ℕ → Bool
drives N b y w i = eqb (owner N (edge_at N i)) y && input_of N (spread_input N y w) (spread_keys N y w) b (other N (edge_at N i))

-- one of the first n edges that are on does so
unfoldable pub driven_at : Net → List ℕ → ℕ → ℕ → ℕ → ℕ → Bool
driven_at N on b n y w = is_storage N y && any_below n (λ i. eqb (lane on i w) 1 && drives N b y w i)

unfoldable pub driven_lanes : Net → List ℕ → ℕ → List ℕ
driven_lanes N on b = lanes (suc most_vertices) (λ y w. digit (driven_at N on b N.edge_count y w))

-- edge i between u and v, where it is on, carries the mark of either end to the other
abbrev pub carry : List ℕ → ℕ → ℕ → ℕ → List ℕ → List ℕ
carry on i u v r = raise_row on i v u (raise_row on i u v r)

-- the edge that comes as number n, from 0 on, where c edges are taken in their order or, if `back`, against it
unfoldable pub turned : Bool → ℕ → ℕ → ℕ
turned back c n = cond back (c - suc n) n

-- marks after the first n edges of a sweep, in which the edges between storage vertices carry one after the other
unfoldable pub sweep : Net → List ℕ → Bool → ℕ → List ℕ → List ℕ
sweep N on back zero r = r
sweep N on back (suc n) r =
    let s = sweep N on back n r in
    let i = turned back N.edge_count n in
    let e = edge_at N i in
    cond (inner N e) (carry on i e.end1 e.end2 s) s

-- no edge has a mark left to carry
unfoldable pub is_closed : Net → List ℕ → List ℕ → Bool
is_closed N on r = all_below N.edge_count (λ i. not (inner N (edge_at N i)) || level on i r (edge_at N i).end1 (edge_at N i).end2)
