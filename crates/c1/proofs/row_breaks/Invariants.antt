-- found tells whether an entry looked at is 2, 3 or 5. Assumes nothing.
use Rattle.std.proofs.Common.{◌≡◌, leb, take}
use Rattle.std.specs.List.{list_any}
use Rattle.c1.proofs.row_breaks.Given as goal

abbrev pub invariant-loop-excitation : goal.invariant-loop-excitation
invariant-loop-excitation l = l.found ≡ list_any (leb 2) (take l.excitation-index l.row)
