-- The three tests of a length, in turn.
use native.Mathlib.Omega.{arith}
use mathlib.Core.Path.{sym}
use borrow.Author.Tests.{le-leb, eq-eqb, ne_eqb}
use Rattle.sheet.specs.Reading.{whole_lines}
use Rattle.sheet_readings.proofs.whole_lines.Goals as goal

pub returns-then-size-eq0 : goal.returns-then-size-eq0
unfolding whole_lines
returns-then-size-eq0 c = rw c.if-size-eq0.true

pub returns-then-size-width-ne0 : goal.returns-then-size-width-ne0
unfolding whole_lines
returns-then-size-width-ne0 c =
    sym (rw (← c.line_bytes-width.ensures, le-leb 1 c.args.size (omega arith), ne_eqb _ 0 c.if-size-width-ne0.true))

pub returns : goal.returns
unfolding whole_lines
returns c =
    sym (rw (← c.line_bytes-width.ensures, le-leb 1 c.args.size (omega arith), eq-eqb _ 0 c.if-size-width-ne0.false))
