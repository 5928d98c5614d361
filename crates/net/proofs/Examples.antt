-- Small nets, computed from the definitions: the report's NOR gate, NOR latch and transmission gates, and nets that break a condition.
-- They open the definitions and use no law.
use mathlib.Core.Path.{◌≡◌, refl}
use mathlib.Core.Bool.{true, false}
use mathlib.Core.List.{List, [], ◌∷◌, map}
use mathlib.Core.Option.{none, some}
use Prim.Native.Nat.{ℕ, ◌/◌, ◌%◌}
use Rattle.net.specs.declared.Net.{Net}
use Rattle.ternary.specs.Lists.{list_below}
use Rattle.net.specs.Excitation.{excitation, fights}
use Rattle.net.specs.Component.{signals}
use Rattle.net.specs.Network.{stable}
use Rattle.net.specs.WellFormed.{place_c1, test_c2, place_c3}
use Rattle.net.proofs.Concrete.{vertex, edge, net, model}

-- vertex 3 is the output z, 4 the inner vertex y; letters a = 11 and b = 12
gate : Net
unfolding net
gate =
    net (vertex 0 0 ∷ vertex 0 1 ∷ vertex 2 0 ∷ vertex 1 0 ∷ [])
    (edge 2 4 1 12 ∷ edge 4 3 1 11 ∷ edge 3 1 0 11 ∷ edge 3 1 0 12 ∷ [])
    2

-- inner vertex: 3 at a = b = 1, and 2 at a = 0, b = 1
gate_table : map (λ a. excitation gate a 0 4) (3 ∷ 2 ∷ []) ≡ 3 ∷ 2 ∷ []
unfolding model gate
gate_table = refl

-- z is the NOR of a and b at ab = 00, 10, 01, 11
gate_output : map (λ a. excitation gate a 0 3) (0 ∷ 1 ∷ 2 ∷ 3 ∷ []) ≡ 1 ∷ 0 ∷ 0 ∷ 0 ∷ []
unfolding model gate
gate_output = refl

-- vertices 3 Q bar, 4 Q, 5 y1, 6 y2; letters S = 11 and R = 12
latch : Net
unfolding net
latch =
    net (vertex 0 0 ∷ vertex 0 1 ∷ vertex 2 0 ∷ vertex 2 0 ∷ vertex 1 0 ∷ vertex 1 0 ∷ [])
    (edge 2 5 1 11 ∷ edge 5 3 1 104 ∷ edge 3 1 0 11 ∷ edge 3 1 0 104
    ∷ edge 2 6 1 12 ∷ edge 6 4 1 103 ∷ edge 4 1 0 12 ∷ edge 4 1 0 103 ∷ [])
    2

-- SR, then Q bar Q y1 y2, for a state numbered a + 4 q
abbrev row : ℕ → List ℕ
row s = map (λ y. excitation latch (s % 4) (s / 4) y) (3 ∷ 4 ∷ 5 ∷ 6 ∷ [])

-- the stable states, of all 16: SR 11, 00, 01, 00, 10
latch_stable : list_below 16 (λ s. stable latch (s % 4) (s / 4)) ≡ 3 ∷ 4 ∷ 6 ∷ 8 ∷ 9 ∷ []
unfolding model latch
latch_stable = refl

-- the report's table of Q bar, Q, y1, y2 in these states
latch_table : map row (8 ∷ 4 ∷ 6 ∷ 9 ∷ 3 ∷ []) ≡ (0 ∷ 1 ∷ 1 ∷ 1 ∷ []) ∷ (1 ∷ 0 ∷ 1 ∷ 1 ∷ []) ∷ (1 ∷ 0 ∷ 1 ∷ 3 ∷ []) ∷ (0 ∷ 1 ∷ 3 ∷ 1 ∷ []) ∷ (0 ∷ 0 ∷ 2 ∷ 2 ∷ []) ∷ []
unfolding model latch
latch_table = refl

-- no state of the latch has a fight
latch_fights : list_below 16 (λ s. fights latch (s % 4) (s / 4)) ≡ []
unfolding model latch
latch_fights = refl

-- the component of Q bar and y1: S, and the key node Q
latch_signals : signals latch 3 ≡ 11 ∷ 104 ∷ []
unfolding model latch
latch_signals = refl

latch_c1 : place_c1 latch ≡ none
unfolding model latch
latch_c1 = refl

-- a pair of transmission gates (the report's example 4.1), all four forms: y is b where a is 0, and c where a is 1; letters a, b, c
selector : Net
unfolding net
selector =
    net (vertex 0 12 ∷ vertex 0 13 ∷ vertex 2 0 ∷ [])
    (edge 1 3 2 11 ∷ edge 1 3 1 11 ∷ edge 2 3 0 11 ∷ edge 2 3 3 11 ∷ [])
    3

selector_table : map (λ a. excitation selector a 0 3) (0 ∷ 1 ∷ 2 ∷ 3 ∷ 4 ∷ 5 ∷ 6 ∷ 7 ∷ []) ≡ 0 ∷ 0 ∷ 1 ∷ 0 ∷ 0 ∷ 1 ∷ 1 ∷ 1 ∷ []
unfolding model selector
selector_table = refl

selector_signals : signals selector 3 ≡ 11 ∷ 12 ∷ 13 ∷ []
unfolding model selector
selector_signals = refl

-- ---- nets that break a condition

-- one edge between the 0- and the 1-vertex, closed by a letter, by key node 3, or never: a fight of one edge
bridge : ℕ → Net
unfolding net
bridge s =
    net (vertex 0 0 ∷ vertex 0 1 ∷ vertex 2 0 ∷ [])
    (edge 1 2 0 s ∷ edge 2 3 1 11 ∷ edge 3 1 0 11 ∷ [])
    1

bridge_table : map (λ s. test_c2 (bridge s)) (11 ∷ 103 ∷ 1 ∷ 0 ∷ []) ≡ false ∷ false ∷ false ∷ true ∷ []
unfolding model bridge
bridge_table = refl

-- vertex 3 follows a and is a key node; vertex 4 has a fight where a is 1 and vertex 3 is not: never in a stable state
passing : Net
unfolding net
passing =
    net (vertex 0 0 ∷ vertex 0 1 ∷ vertex 1 0 ∷ vertex 2 0 ∷ vertex 0 11 ∷ [])
    (edge 5 3 0 1 ∷ edge 5 3 1 0 ∷ edge 2 4 1 103 ∷ edge 4 1 0 11 ∷ [])
    1

passing_fights : map (λ q. fights passing 1 q) (0 ∷ 1 ∷ []) ≡ true ∷ false ∷ []
unfolding model passing
passing_fights = refl

passing_c2 : test_c2 passing ≡ true
unfolding model passing
passing_c2 = refl

-- an output that only an n edge joins to 1 is 2 where the edge is closed; one that nothing joins is 3, which C3 allows
weak : Net
unfolding net
weak =
    net (vertex 0 1 ∷ vertex 2 0 ∷ vertex 2 0 ∷ [])
    (edge 1 3 0 11 ∷ [])
    1

weak_table : map (λ a. map (excitation weak a 0) (2 ∷ 3 ∷ [])) (0 ∷ 1 ∷ []) ≡ (3 ∷ 3 ∷ []) ∷ (3 ∷ 2 ∷ []) ∷ []
unfolding model weak
weak_table = refl

weak_c3 : place_c3 weak ≡ some 3
unfolding model weak
weak_c3 = refl

-- fights: output 3 is joined firmly to both values, 4 weakly to both, and 5 to both through 4 alone; 6 is joined to 1 alone, weakly
fought : Net
unfolding net
fought =
    net (vertex 0 0 ∷ vertex 0 1 ∷ vertex 2 0 ∷ vertex 1 0 ∷ vertex 1 0 ∷ vertex 1 0 ∷ [])
    (edge 3 1 0 1 ∷ edge 3 2 1 0 ∷ edge 4 1 1 0 ∷ edge 4 2 0 1 ∷ edge 5 4 0 1 ∷ edge 6 2 0 1 ∷ [])
    0

fought_table : map (excitation fought 0 0) (3 ∷ 4 ∷ 5 ∷ 6 ∷ []) ≡ 5 ∷ 5 ∷ 5 ∷ 2 ∷ []
unfolding model fought
fought_table = refl

-- C2 is broken, and C3 as well, which shuts out 5 at an output
fought_c2 : test_c2 fought ≡ false
unfolding model fought
fought_c2 = refl

fought_c3 : place_c3 fought ≡ some 3
unfolding model fought
fought_c3 = refl

-- the counterexample to the report's Proposition 3.2: a p-path to 1 beside a weak connection to 0; key node 1 is 5 at key state 0
beside : Net
unfolding net
beside =
    net (vertex 1 0 ∷ vertex 0 0 ∷ vertex 0 1 ∷ [])
    (edge 1 3 1 0 ∷ edge 1 2 1 101 ∷ [])
    0

beside-table : map (λ q. excitation beside 0 q 1) (0 ∷ 1 ∷ []) ≡ 5 ∷ 1 ∷ []
unfolding model beside
beside-table = refl

beside_c1 : place_c1 beside ≡ some 1
unfolding model beside
beside_c1 = refl
