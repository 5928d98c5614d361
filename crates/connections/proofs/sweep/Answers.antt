-- `connections::sweep` meets its contract: the marks are those after the first n edges in the order of the sweep, and it is known whether those edges were level. Assumes nothing.
use native.Mathlib.Omega.{arith}
use borrow.Author.Rules.{rules}
use mathlib.Core.Path.{◌≡◌, refl, sym, ap, ◌∙◌}
use mathlib.Core.List.{List}
use Prim.Native.Nat.{ℕ, ◌+◌, ◌≤◌, ◌<◌}
use lib.ListN.{get_or}
use Rattle.ternary.specs.Lists.{all_below}
use Rattle.net.specs.Limits.{most_vertices}
use Rattle.net.specs.Graph.{no_edge, edge_at}
use Rattle.lanes.specs.Lanes.{level}
use Rattle.excitations.specs.Sweeps.{sweep}
use Rattle.excitations.proofs.Sweeps.{turned_below, carry_at}
use Rattle.excitations.proofs.Levels.{level_first, level_all}
use Rattle.excitations.proofs.Turns.{inner_by_flags, outer_first, outer_second, sweep-on, sweep_off, level-on, level_off}
use Rattle.net.specs.Classes.{inner}
use mathlib.Core.Bool.{Bool, false, ◌&&◌}
use Rattle.connections.proofs.sweep.Goals as goal
use Rattle.connections.proofs.sweep.Goals.{After-turned-i, Joined-wiring-u-eq1, else-wiring-u-eq1, then-wiring-u-eq1+then-wiring-v-eq1, else-wiring-u-eq1-via-then-wiring-u-eq1+else-wiring-v-eq1, else-wiring-u-eq1-via-else-wiring-u-eq1}

-- the edge whose turn it is
in-net : (c : After-turned-i) → c.turned-i.result < c.args.wiring.now.net.now.edge_count
in-net c = rw c.turned-i.ensures (turned_below c.args.back _ _ c.loop-n-test.true)

-- its ends
ends : (c : After-turned-i) → (let e = get_or c.args.wiring.now.net.now.edges c.turned-i.result no_edge in (e.end1 ≤ most_vertices) × (e.end2 ≤ most_vertices))
unfolding edge_at
ends c = let r = c.args.wiring.now.fit.readable in (r.first_end c.turned-i.result (in-net c), r.second_end c.turned-i.result (in-net c))

-- what a turn makes of the marks, and whether the edges so far were level
turn : (c : Joined-wiring-u-eq1) → (let n = c.loop-n.n in
    (c.if-wiring-u-eq1.marks ≡ sweep c.args.wiring.now.net.now c.args.on.now c.args.back (n + 1) c.args.marks.now)
    × (c.if-wiring-u-eq1.closed ≡ level_first c.args.wiring.now.net.now c.args.on.now c.args.back c.args.marks.now (n + 1)))
unfolding edge_at
turn c =
    let l = c.loop-n in
    let N = c.args.wiring.now.net.now in
    let i = c.turned-i.result in
    let e = c.turned-i.ensures in
    let n = l.n in
    let swept = l.invariant.1 in
    let seen = ap (λ (r : List ℕ). level c.args.on.now i r (edge_at N i).end1 (edge_at N i).end2) (sym swept) in
    elim c.if-wiring-u-eq1.branch [
      | then-wiring-u-eq1+then-wiring-v-eq1 w ↦
          let inside = inner_by_flags N i c.args.wiring.now.flags (ends (goal.at.Joined-wiring-u-eq1 c).After-turned-i).0 (ends (goal.at.Joined-wiring-u-eq1 c).After-turned-i).1 w.if-wiring-u-eq1.true w.if-wiring-v-eq1.true in (
            w.marks-is ∙ w.carry-closed.ensures.0 ∙ ap (carry_at N c.args.on.now i) swept ∙ sweep-on N i c.args.on.now c.args.marks.now c.args.back n e inside,
            w.closed-is ∙ ap (λ (b : Bool). l.closed && b) (w.carry-closed.ensures.1 ∙ sym seen) ∙ level-on N i c.args.on.now c.args.marks.now c.args.back n e l.invariant.2 inside,
          )
      | else-wiring-u-eq1 w ↦
          let outside : inner N (edge_at N i) ≡ false =
          elim w.else-wiring-u-eq1.branch [
            | else-wiring-u-eq1-via-then-wiring-u-eq1+else-wiring-v-eq1 v ↦ outer_second N i c.args.wiring.now.flags (ends (goal.at.Joined-wiring-u-eq1 c).After-turned-i).1 v.if-wiring-v-eq1.false
            | else-wiring-u-eq1-via-else-wiring-u-eq1 v ↦ outer_first N i c.args.wiring.now.flags (ends (goal.at.Joined-wiring-u-eq1 c).After-turned-i).0 v.if-wiring-u-eq1.false
          ] in (
            w.marks-is ∙ swept ∙ sweep_off N i c.args.on.now c.args.marks.now c.args.back n e outside,
            w.closed-is ∙ level_off N i c.args.on.now c.args.marks.now c.args.back n e l.invariant.2 outside,
          )
    ]

pub loop-n-init : goal.loop-n-init
unfolding sweep all_below
loop-n-init c = (search rules, refl, refl)

pub offset_bounds-wiring-i : goal.offset_bounds-wiring-i
offset_bounds-wiring-i c = omega (arith, in-net (goal.at.offset_bounds-wiring-i c).After-turned-i, c.args.wiring.now.fit.readable.edges)

pub bounds-wiring-i : goal.bounds-wiring-i
bounds-wiring-i c = omega (arith, in-net (goal.at.bounds-wiring-i c).After-turned-i, c.args.wiring.now.fit.readable.edges)

pub overflow_cast-u : goal.overflow_cast-u
overflow_cast-u c = omega (arith, ends (goal.at.overflow_cast-u c).After-turned-i)

pub bounds-wiring-u : goal.bounds-wiring-u
bounds-wiring-u c = omega (arith, ends (goal.at.bounds-wiring-u c).After-turned-i)

pub overflow_cast-v : goal.overflow_cast-v
overflow_cast-v c = omega (arith, ends (goal.at.overflow_cast-v c).After-turned-i)

pub bounds-wiring-v : goal.bounds-wiring-v
bounds-wiring-v c = omega (arith, ends (goal.at.bounds-wiring-v c).After-turned-i)

pub carry-closed-requires : goal.carry-closed-requires
carry-closed-requires c =
    ((ends (goal.at.carry-closed-requires c).After-turned-i).0, (ends (goal.at.carry-closed-requires c).After-turned-i).1, omega (arith, in-net (goal.at.carry-closed-requires c).After-turned-i, c.args.wiring.now.fit.readable.edges))

pub loop-n-preserved : goal.loop-n-preserved
loop-n-preserved c = (search rules, (turn (goal.at.loop-n-preserved c).Joined-wiring-u-eq1).0, (turn (goal.at.loop-n-preserved c).Joined-wiring-u-eq1).1)

pub returns : goal.returns
returns c =
    let q : c.loop-n.n ≡ c.args.wiring.now.net.now.edge_count = omega arith in (
      rw q at c.loop-n.invariant.1,
      rw q at c.loop-n.invariant.2 ∙ level_all _ _ _ _,
    )
