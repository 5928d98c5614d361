-- `growth::grow` meets its contract, by its own contract at n - 1: the first two thirds are grown from the halves of the table, the last one is joined from them.
use Rattle.std.proofs.Common.{arith}
use Rattle.growth.proofs.GrowLaws.{Sized, First, Second, grown_none, third-positive, low_size, high_size, first_size, second_size, twice_size, grown_of}
use Rattle.growth.proofs.+grow.Goals as goal
use Rattle.growth.proofs.+grow.Goals.{Else-n-eq0, After-grow, After-grow-2}

pub returns-then-n-eq0 : goal.returns-then-n-eq0
returns-then-n-eq0 t c = grown_none _ c.args.table.now c.args.out.now c.if-n-eq0.true c.requires.0 c.requires.1

sized : (t : _) → (c : Else-n-eq0 t) → Sized c.args.n c.args.table.now c.args.out.now
sized t c = record { positive = c.if-n-eq0.false; table = c.requires.0; slice = c.requires.1 }

pub grow-requires : goal.grow-requires
grow-requires t c = let s = sized t (goal.at.grow-requires t c).Else-n-eq0 in (omega (arith, s.positive, c.decreases), (low_size s, first_size s))

first : (t : _) → (c : After-grow t) → First c.args.n c.args.table.now c.args.out.now c.grow.new.out
first t c = record { sized = sized t (goal.at.After-grow t c).Else-n-eq0; kept = c.grow.auto.out }

pub grow-requires-2 : goal.grow-requires-2
grow-requires-2 t c =
    let f = first t (goal.at.grow-requires-2 t c).After-grow in
    (omega (arith, f.sized.positive, c.decreases), (high_size f.sized, second_size f))

both : (t : _) → (c : After-grow-2 t) → Second c.args.n c.args.table.now c.args.out.now c.grow.new.out c.grow-2.new.out
both t c = record { first = first t (goal.at.After-grow-2 t c).After-grow; kept = c.grow-2.auto.out }

pub join-requires : goal.join-requires
join-requires t c = let f = both t (goal.at.join-requires t c).After-grow-2 in (third-positive f.first.sized, twice_size f)

pub returns : goal.returns
returns t c = grown_of (both t (goal.at.returns t c).After-grow-2) c.grow.ensures c.grow-2.ensures c.join.ensures
