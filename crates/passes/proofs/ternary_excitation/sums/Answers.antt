-- `sums` meets its contract: the first i signals are summed up. Assumes nothing.
use native.Mathlib.Omega.{arith}
use borrow.Author.Rules.{rules}
use mathlib.Core.Path.{◌≡◌}
use lib.ListN.{length}
use Rattle.lookups.specs.LookUps.{sums}
use Rattle.lookups.proofs.SumLaws.{sums-start, sums_addable, sums_turn}
use Rattle.passes.proofs.ternary_excitation.sums.Goals as goal

pub loop-i-init : goal.loop-i-init
loop-i-init c = (search rules, sums-start _ _ _)

pub add_row-requires : goal.add_row-requires
add_row-requires c = (
  omega arith,
  sums_addable _ _ _ c.loop-i.i c.loop-i.invariant.1 c.digit.ensures.0 (omega arith) c.requires.1,
)

pub loop-i-preserved : goal.loop-i-preserved
loop-i-preserved c =
    (search rules, sums_turn _ _ _ c.loop-i.i c.loop-i.invariant.1 c.digit.ensures.0 c.add_row.ensures)

pub returns : goal.returns
unfolding sums
returns c =
    let q : c.loop-i.i ≡ length c.args.signals.now = omega arith in
    rw q at c.loop-i.invariant.1
