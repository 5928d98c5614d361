-- `after_piece` meets its contract, by its tests in turn.
use native.Mathlib.Omega.{arith}
use mathlib.Core.Path.{sym}
use borrow.Author.Tests.{not-true, not-false}
use Rattle.output.specs.Program.{after_piece}
use Rattle.output.proofs.ProgramLaws.{ends_short, ends_last, goes_on-next}
use Rattle.report_turns.proofs.after_piece.Goals as goal

pub returns-then-not-is_written : goal.returns-then-not-is_written
unfolding after_piece
returns-then-not-is_written c = rw (not-true c.args.is_written c.if-not-is_written.true-raw)

pub returns-then-size-lt-PIECE_LINES : goal.returns-then-size-lt-PIECE_LINES
returns-then-size-lt-PIECE_LINES c =
    rw (not-false c.args.is_written c.if-not-is_written.false-raw) (sym (ends_short _ _ c.if-size-lt-PIECE_LINES.true))

pub returns-then-first-gt-LAST_PIECE : goal.returns-then-first-gt-LAST_PIECE
returns-then-first-gt-LAST_PIECE c =
    rw (not-false c.args.is_written c.if-not-is_written.false-raw) (sym (ends_last _ _ c.if-size-lt-PIECE_LINES.false (omega arith)))

pub returns : goal.returns
returns c =
    rw (not-false c.args.is_written c.if-not-is_written.false-raw) (sym (goes_on-next _ _ c.if-size-lt-PIECE_LINES.false (omega arith)))
