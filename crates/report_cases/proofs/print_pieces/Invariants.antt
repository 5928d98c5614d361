-- Each piece begins later than the one before it, and none past the last job. Nothing has to hold from turn to turn.
use Rattle.output.proofs.ProgramLaws.{jobs_left}
use Rattle.report_cases.proofs.print_pieces.Given as goal

abbrev pub decreases-loop-next : goal.decreases-loop-next
decreases-loop-next g l = jobs_left l.next
