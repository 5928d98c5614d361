-- Computed examples of passes, runs and grown tables, over networks given by formulas. They open the definitions and use no law.
use Prim.Native.Nat.{ℕ, zero, suc, ◌*◌, ◌-◌}
use mathlib.Core.Path.{◌≡◌, refl}
use mathlib.Core.Bool.{true, false}
use mathlib.Core.List.{[], ◌∷◌}
use lib.ListN.{get_or}
use Rattle.ternary.specs.Lists.{table, same, any_below, all_below}
use Rattle.ternary.specs.Bits.{bit, number, has, set_of}
use Rattle.ternary.specs.Signal.{X, every}
use Rattle.ternary.specs.Excitation.{common, H}
use Rattle.ternary.specs.TruthTable.{agreeing, grow, ternary_index}
use Rattle.ternary.specs.Passes.{settle_by, mix, first_pass, second_pass, settled}
use Rattle.ternary.specs.Run.{Step, start, is_stable, switch, stables, close, accepted, refused, step, run_all}

-- `unfolding opened` opens every definition of the theory
opened : Unit {0}
unfolding
    table same any_below all_below bit number has set_of every common H agreeing grow ternary_index settle_by mix first_pass second_pass settled
    start is_stable switch stables close accepted refused step run_all
opened = tt

-- ---- three NANDs, y1 = (a y2)', y2 = (y1 y3)', y3 = (y2 b)'; letter a weighs 1 and b 2

nand : ℕ → ℕ → ℕ
nand x y = 1 - x * y

nands : ℕ → ℕ → ℕ → ℕ
nands a q zero = nand (bit a 0) (bit q 1)
nands a q (suc zero) = nand (bit q 0) (bit q 2)
nands a q (suc (suc k)) = nand (bit q 1) (bit a 1)

-- 11 to 00 from 010
nands_settle : settled 2 3 nands 3 0 2 ≡ record { r = X ∷ X ∷ X ∷ []; t = 1 ∷ 0 ∷ 1 ∷ []; first_steps = 2; second_steps = 2 }
unfolding opened nand nands
nands_settle = refl

-- 10 to 01 from 011: a pass from the start itself would give 110
nands_race : settled 2 3 nands 1 2 6 ≡ record { r = X ∷ X ∷ X ∷ []; t = 1 ∷ X ∷ X ∷ []; first_steps = 2; second_steps = 1 }
unfolding opened nand nands
nands_race = refl

abbrev held : ℕ → ℕ → Step
held a nodes = record { input = a; nodes = nodes; hold = true }

abbrev free : ℕ → ℕ → Step
free a nodes = record { input = a; nodes = nodes; hold = false }

-- Hold 00 and switch y1 and y3; switch y2, which closes a round; switch nothing, which closes another. In between three steps are refused:
-- an input with a third letter, a fourth node, and the old input under hold.
nands_run : run_all 2 3 nands 3 0 (start 3 2) (free 4 0 ∷ held 0 5 ∷ free 0 8 ∷ free 0 2 ∷ free 3 0 ∷ free 0 0 ∷ [])
    ≡ record { input = 0; key = 5; hold = true; marks = 7; rounds = 2 }
unfolding opened nand nands
nands_run = refl

-- ---- NOR latch, key nodes (Q bar, Q), letters (S, R)

nor : ℕ → ℕ → ℕ
nor x y = (1 - x) * (1 - y)

latch : ℕ → ℕ → ℕ → ℕ
latch a q zero = nor (bit a 0) (bit q 1)
latch a q (suc k) = nor (bit a 1) (bit q 0)

-- 11 to 00 from 00 stays unknown
latch_race : settled 2 2 latch 3 0 0 ≡ record { r = X ∷ X ∷ []; t = X ∷ X ∷ []; first_steps = 1; second_steps = 0 }
unfolding opened nor latch
latch_race = refl

-- 10 to 00 from 01
latch_holds : settled 2 2 latch 1 0 2 ≡ record { r = 0 ∷ 1 ∷ []; t = 0 ∷ 1 ∷ []; first_steps = 0; second_steps = 0 }
unfolding opened nor latch
latch_holds = refl

-- both nodes switch at once and are unstable again: one round closes, no mark stays, and a step that switches nothing closes no other
latch_oscillates : run_all 2 2 latch 3 0 (start 3 0) (held 0 0 ∷ free 0 3 ∷ free 0 0 ∷ [])
    ≡ record { input = 0; key = 3; hold = true; marks = 0; rounds = 1 }
unfolding opened nor latch
latch_oscillates = refl

-- from 10 to 00 the letter R is 0 throughout: an input with R = 1 is refused; and hold cannot be set at the old input
latch_refuses : run_all 2 2 latch 1 0 (start 1 2) (free 2 0 ∷ held 1 0 ∷ []) ≡ start 1 2
unfolding opened nor latch
latch_refuses = refl

-- ---- (ab + a'b)', which is b': worked gate by gate it would be unknown at a = X, b = 1

abbrev twice : ℕ → ℕ → ℕ → ℕ
twice a q k = nor (bit a 0 * bit a 1) ((1 - bit a 0) * bit a 1)

every_completion : common twice (X ∷ 1 ∷ []) [] 0 ≡ 0
unfolding opened nor
every_completion = refl

-- its truth table, grown to all nine ternary assignments
grown : grow 2 (1 ∷ 1 ∷ 0 ∷ 0 ∷ []) ≡ 1 ∷ 1 ∷ 1 ∷ 0 ∷ 0 ∷ 0 ∷ X ∷ X ∷ X ∷ []
unfolding opened
grown = refl

grown-at : get_or (grow 2 (1 ∷ 1 ∷ 0 ∷ 0 ∷ [])) (ternary_index (X ∷ 1 ∷ [])) X ≡ 0
unfolding opened
grown-at = refl
