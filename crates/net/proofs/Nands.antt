-- The report's three NAND gates, y1 = (a y2)', y2 = (y1 y3)', y3 = (y2 b)', computed: 8 vertices, 12 edges, 32 states.
use mathlib.Core.Path.{◌≡◌, refl}
use mathlib.Core.Bool.{true}
use mathlib.Core.List.{[], ◌∷◌, map}
use mathlib.Core.Option.{none}
use Rattle.net.specs.declared.Net.{Net}
use Rattle.net.specs.Excitation.{excitation}
use Rattle.net.specs.Component.{signals}
use Rattle.net.specs.WellFormed.{place_c1, test_c2, place_c3}
use Rattle.net.proofs.Concrete.{vertex, edge, net, model}

-- vertices 3, 4, 5 are y1, y2, y3, and 6, 7, 8 stand between the n edges
nands : Net
unfolding net
nands =
    net (vertex 0 0 ∷ vertex 0 1 ∷ vertex 2 0 ∷ vertex 2 0 ∷ vertex 2 0 ∷ vertex 1 0 ∷ vertex 1 0 ∷ vertex 1 0 ∷ [])
    (edge 2 3 1 11 ∷ edge 2 3 1 104 ∷ edge 3 6 0 11 ∷ edge 6 1 0 104
    ∷ edge 2 4 1 103 ∷ edge 2 4 1 105 ∷ edge 4 7 0 103 ∷ edge 7 1 0 105
    ∷ edge 2 5 1 104 ∷ edge 2 5 1 12 ∷ edge 5 8 0 104 ∷ edge 8 1 0 12 ∷ [])
    2

nands-signals : map (signals nands) (3 ∷ 4 ∷ 5 ∷ []) ≡ (11 ∷ 104 ∷ []) ∷ (103 ∷ 105 ∷ []) ∷ (12 ∷ 104 ∷ []) ∷ []
unfolding model nands
nands-signals = refl

-- vertex 6 at a = 1, y2 = 0: an n edge to y1 and a p edge on to 1 make no firm 1; at a = 0, y2 = 0 it floats
nands-inner : map (λ a. excitation nands a 0 6) (1 ∷ 0 ∷ []) ≡ 2 ∷ 3 ∷ []
unfolding model nands
nands-inner = refl

nands_c1 : place_c1 nands ≡ none
unfolding model nands
nands_c1 = refl

nands_c2 : test_c2 nands ≡ true
unfolding model nands
nands_c2 = refl

nands_c3 : place_c3 nands ≡ none
unfolding model nands
nands_c3 = refl
