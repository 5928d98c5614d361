-- `after_opening` meets its contract: nothing follows what could not be written; else the cases are those of `following`.
use borrow.Author.Tests.{not-true, not-false}
use Rattle.output.specs.Program.{after_opening}
use Rattle.report_turns.proofs.after_opening.Goals as goal

pub returns-then-not-is_written : goal.returns-then-not-is_written
unfolding after_opening
returns-then-not-is_written c = rw (not-true c.args.is_written c.if-not-is_written.true-raw)

pub returns-in-Short : goal.returns-in-Short
unfolding after_opening
returns-in-Short c =
    rw (not-false c.args.is_written c.if-not-is_written.false-raw, c.in-Short.is)

pub returns-in-Bytes : goal.returns-in-Bytes
unfolding after_opening
returns-in-Bytes c =
    rw (not-false c.args.is_written c.if-not-is_written.false-raw, c.in-Bytes.is)

pub returns-in-Last : goal.returns-in-Last
unfolding after_opening
returns-in-Last c =
    rw (not-false c.args.is_written c.if-not-is_written.false-raw, c.in-Last.is)
