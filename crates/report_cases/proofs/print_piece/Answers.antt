-- The piece that comes next begins later.
use Rattle.std.proofs.Common.{sym, subst}
use Rattle.output.specs.Program.{Onward}
use Rattle.output.proofs.ProgramLaws.{onward}
use Rattle.report_cases.proofs.print_piece.Goals as goal

pub returns : goal.returns
returns g c = subst (Onward _) (sym c.after_piece.ensures) (onward _ _ _)
