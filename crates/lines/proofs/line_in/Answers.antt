-- `line_in` meets its contract. Where the sheet has the line, its part lies within the sheet.
use native.Mathlib.Omega.{arith}
use mathlib.Core.Path.{sym, ◌∙◌}
use Rattle.sheet.specs.Line.{FullLineIn, line_in}
use Rattle.sheet.proofs.LineLaws.{has_line_iff}
use Rattle.sheet.proofs.LineSteps.{part_room, line_part}
use Rattle.lines.proofs.line_in.Goals as goal
use Rattle.lines.proofs.line_in.Goals.{Else-not-has_line}

-- the sheet has the line
full : (c : Else-not-has_line) → let s = c.args in FullLineIn s.columns s.sheet.now s.n
full c = (has_line_iff _ _ _).0 (sym c.has_line.ensures ∙ c.if-not-has_line.false)

pub returns-then-not-has_line : goal.returns-then-not-has_line
unfolding line_in
returns-then-not-has_line c = rw (sym c.has_line.ensures ∙ c.if-not-has_line.true)

pub overflow_sub-a : goal.overflow_sub-a
overflow_sub-a c = let there = full (goal.at.overflow_sub-a c).Else-not-has_line in omega (arith, there.first)

pub overflow_mul-a : goal.overflow_mul-a
overflow_mul-a c = omega (arith, part_room _ _ _ _ c.line_bytes-width.ensures (full (goal.at.overflow_mul-a c).Else-not-has_line))

pub overflow_add-e : goal.overflow_add-e
overflow_add-e c = omega (arith, part_room _ _ _ _ c.line_bytes-width.ensures (full (goal.at.overflow_add-e c).Else-not-has_line))

pub slice_bounds-result-end-2 : goal.slice_bounds-result-end-2
slice_bounds-result-end-2 c = part_room _ _ _ _ c.line_bytes-width.ensures (full (goal.at.slice_bounds-result-end-2 c).Else-not-has_line)

pub returns : goal.returns
returns c = line_part _ _ _ _ c.line_bytes-width.ensures (full (goal.at.returns c).Else-not-has_line)
