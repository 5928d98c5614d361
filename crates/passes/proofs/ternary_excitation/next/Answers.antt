-- `next` meets its contract: the first k key nodes are looked up. Assumes nothing.
use native.Mathlib.Omega.{arith}
use borrow.Author.Rules.{rules}
use Prim.Native.Nat.{◌+◌, ◌<◌}
use Rattle.ternary.specs.Signal.{at}
use Rattle.net.proofs.Filling.{fill_step, fill_end}
use Rattle.lookups.specs.TernaryTables.{ternary_assignments}
use Rattle.lookups.specs.LookUps.{next_by}
use Rattle.lookups.proofs.SumLaws.{next_small, next-found, next_beyond}
use Rattle.passes.proofs.ternary_excitation.next.Goals as goal
use Rattle.passes.proofs.ternary_excitation.next.Goals.{After-next-1}

-- the index of key node k
in_row : (c : After-next-1) → (at c.args.base.now c.loop-k.k + at c.sums-key_sums.result c.loop-k.k) < ternary_assignments
in_row c =
    let l = c.args.look_ups.now in
    next_small l.additions.now l.tables.now l.count c.args.base.now _ c.told-vector c.sums-key_sums.ensures c.loop-k.k c.requires (omega (arith, l.few))

pub overflow_add-next : goal.overflow_add-next
overflow_add-next c = omega (arith, in_row (goal.at.overflow_add-next c).After-next-1)

pub bounds-look_ups-k : goal.bounds-look_ups-k
bounds-look_ups-k c = omega (arith, in_row (goal.at.bounds-look_ups-k c).After-next-1)

pub loop-k-preserved : goal.loop-k-preserved
loop-k-preserved c =
    let l = c.args.look_ups.now in (
      search rules,
      fill_step c.loop-k.invariant.1 (omega (arith, l.few))
          (next-found _ l.tables.now _ c.args.base.now _ c.told-vector c.sums-key_sums.ensures c.loop-k.k l.few (omega arith)),
    )

pub returns : goal.returns
unfolding next_by
returns c =
    let l = c.args.look_ups.now in
    fill_end c.loop-k.invariant.1 (λ j m b. next_beyond l.additions.now l.tables.now l.count c.args.base.now c.args.vector.now j (omega arith))
