-- No vertex passed so far has too many signals.
use Prim.Native.Nat.{suc}
use native.Mathlib.Omega.{arith}
use mathlib.Core.Path.{◌≡◌, sym, ◌∙◌}
use mathlib.Core.Option.{none}
use borrow.Author.Rules.{rules}
use Rattle.ternary.specs.Lists.{least_below}
use Rattle.ternary.proofs.ListLaws.{least_more, least_hit}
use Rattle.sheet.specs.Graph.{over_signals}
use Rattle.sheet.proofs.OverSignalLaws.{signal_found, signal_missing}
use Rattle.graph_rows.proofs.components.signal_place.Goals as goal

pub loop-y-init : goal.loop-y-init
unfolding least_below
loop-y-init c = (search rules, λ _. none)

pub returns-then-over_signals : goal.returns-then-over_signals
returns-then-over_signals c =
    signal_found _ c.loop-y.y
    (least_hit (over_signals _) _ c.loop-y.y c.loop-y.invariant.1 (omega (arith, c.loop-y-test.true)) (sym c.over_signals.ensures ∙ c.if-over_signals.true))

pub loop-y-preserved : goal.loop-y-preserved
loop-y-preserved c =
    (search rules, least_more (over_signals _) c.loop-y.y c.loop-y.invariant.1 (sym c.over_signals.ensures ∙ c.if-over_signals.false))

pub returns : goal.returns
returns c =
    let all : c.loop-y.y ≡ suc c.args.graph.now.net.vertex_count = omega arith in
    signal_missing _ (rw all at c.loop-y.invariant.1)
