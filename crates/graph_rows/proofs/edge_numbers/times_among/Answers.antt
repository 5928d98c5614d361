-- The number is counted among those passed.
use Prim.Native.Nat.{ℕ, ◌≤◌, ◌<◌, ◌+◌}
use native.Mathlib.Omega.{arith}
use mathlib.Core.Path.{◌≡◌, refl, sym, ap, ap₂, ◌∙◌}
use mathlib.Core.Bool.{Bool, true, false}
use lib.Dec.{eqb}
use lib.ListN.{get_or, length-take}
use mir.Val.{bool_byte}
use borrow.Author.Rules.{rules}
use Rattle.std.proofs.lemmas.List.{get_or-take}
use Rattle.ternary.specs.Bits.{digit}
use Rattle.ternary.specs.Lists.{count_below}
use Rattle.ternary.proofs.ListLaws.{count_more}
use Rattle.sheet.specs.EdgeNumbers.{times_among}
use Rattle.graph_rows.proofs.edge_numbers.times_among.Goals as goal
use Rattle.graph_rows.proofs.edge_numbers.times_among.Goals.{After-from-times}

byte_digit : (b : Bool) → bool_byte b ≡ digit b
byte_digit true = refl
byte_digit false = refl

byte_small : (b : Bool) → bool_byte b ≤ 1
byte_small true = omega arith
byte_small false = omega arith

small : (c : After-from-times) → c.from-times.result ≤ 1
small c = rw c.from-times.ensures (byte_small _)

-- the number at hand stands among the first n
here : (c : After-from-times) → c.loop-other.other-index < c.args.n
here c = omega (arith, c.loop-other-test.true, length-take c.args.n c.args.numbers.now)

pub overflow_add-times : goal.overflow_add-times
overflow_add-times c =
    let a = (goal.at.overflow_add-times c).After-from-times in
    omega (arith, c.loop-other.invariant.0, small a, here a, c.requires)

pub loop-other-init : goal.loop-other-init
unfolding times_among count_below
loop-other-init c = (search rules, refl)

pub loop-other-preserved : goal.loop-other-preserved
unfolding times_among
loop-other-preserved c =
    let l = c.loop-other in
    let a = (goal.at.loop-other-preserved c).After-from-times in
    let same : c.from-times.result ≡ digit (eqb (get_or c.args.numbers.now l.other-index 0) c.args.number) =
    c.from-times.ensures ∙ byte_digit _ ∙ ap (λ (x : ℕ). digit (eqb x c.args.number)) (get_or-take c.args.n c.args.numbers.now l.other-index 0 (here a)) in
    (omega (arith, l.invariant.0, small a), ap₂ ◌+◌ l.invariant.1 same ∙ sym (count_more _ l.other-index))

pub returns : goal.returns
returns c =
    let l = c.loop-other in
    let all : l.other-index ≡ c.args.n =
    omega (arith, l.auto.other-index-end, c.loop-other-test.false, length-take c.args.n c.args.numbers.now, c.told-numbers, c.requires) in
    rw all at l.invariant.1
