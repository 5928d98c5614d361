-- Computed examples: the numbers of both calls, in their order. They open the definitions and use no law.
use mathlib.Core.Path.{◌≡◌, refl}
use mathlib.Core.List.{[], ◌∷◌, map}
use Rattle.net.specs.declared.Net.{Net}
use Rattle.net.proofs.Concrete.{vertex, edge, net}
use Rattle.sheet.specs.Rows.{answer, by_rows}
use Rattle.sheet.specs.Record.{empty_net}
use Rattle.sheet.proofs.Sheets.{open_all, worked_net}
use Rattle.std.specs.Prelude.{Ok, Err}
use Rattle.soundness.specs.Excited.{excitation_rows, excited_of}
use Rattle.soundness.specs.Verdict.{verdict_rows, verdict_of}

opened : Unit {0}
unfolding open_all by_rows excitation_rows excited_of verdict_rows verdict_of worked_net
opened = tt

-- vertex 3 of the worked net is (a y)', y being itself: 1 at a = 0, and unstable at a = 1
worked-excitation : map (λ a. excited_of worked_net a 1 3) (0 ∷ 1 ∷ []) ≡ Ok 1 ∷ Ok 0 ∷ []
unfolding opened
worked-excitation = refl

-- 41; 42 before 43; 43 before 48; 48 for an input vertex, for vertex 0 and for one above V
refusals : excited_of empty_net 9 9 9 ∷ excited_of worked_net 2 2 1 ∷ excited_of worked_net 1 2 1 ∷ map (excited_of worked_net 1 1) (1 ∷ 0 ∷ 5 ∷ [])
    ≡ Err 41 ∷ Err 42 ∷ Err 43 ∷ Err 48 ∷ Err 48 ∷ Err 48 ∷ []
unfolding opened
refusals = refl

-- vertices 3 and 4 are key nodes that nothing excites, and output 5 is 2 wherever a is 1; an edge between the rails fights there too
broken : Net
unfolding open_all
broken =
    net (vertex 0 0 ∷ vertex 0 1 ∷ vertex 1 0 ∷ vertex 1 0 ∷ vertex 2 0 ∷ [])
    (edge 2 5 0 11 ∷ edge 1 2 0 11 ∷ edge 2 5 1 104 ∷ edge 2 5 1 103 ∷ [])
    1

-- the same without its key nodes, and then without the fight
fighting : Net
unfolding open_all
fighting = net (vertex 0 0 ∷ vertex 0 1 ∷ vertex 2 0 ∷ vertex 2 0 ∷ []) (edge 2 4 0 11 ∷ edge 2 3 0 11 ∷ edge 1 2 0 11 ∷ []) 1

unsound : Net
unfolding open_all
unsound = net (vertex 0 0 ∷ vertex 0 1 ∷ vertex 2 0 ∷ vertex 2 0 ∷ []) (edge 2 4 0 11 ∷ edge 2 3 0 11 ∷ []) 1

-- each the first condition broken, with the lowest offender
verdicts : map verdict_of (empty_net ∷ broken ∷ fighting ∷ unsound ∷ worked_net ∷ []) ≡ answer 41 0 ∷ answer 31 3 ∷ answer 32 0 ∷ answer 33 3 ∷ answer 0 0 ∷ []
unfolding opened broken fighting unsound
verdicts = refl
