-- `put_front` meets its contract: without room nothing is written, else the sheet stands at the front.
use native.Mathlib.Omega.{arith}
use mathlib.Core.Path.{◌≡◌, sym, ◌∙◌}
use lib.ListN.{length}
use Rattle.sheet.specs.Writing.{write_in}
use Rattle.writer.proofs.WriteLaws.{sheet_length, front_short, front_fits}
use Rattle.writer_sheet.proofs.put_front.Goals as goal
use Rattle.writer_sheet.proofs.put_front.Goals.{After-sheet_bytes-length}

sheet-size : (c : After-sheet_bytes-length) → length (write_in c.args.columns c.args.net) ≡ c.sheet_bytes-length.result
sheet-size c = sheet_length _ c.args.net c.requires.0 ∙ sym c.sheet_bytes-length.ensures

pub returns-then-buffer-length : goal.returns-then-buffer-length
returns-then-buffer-length c = front_short _ c.args.buffer.now (sheet-size (goal.at.returns-then-buffer-length c).After-sheet_bytes-length) c.if-buffer-length.true

pub returns : goal.returns
returns c =
    front_fits _ c.args.buffer.now (sheet-size (goal.at.returns c).After-sheet_bytes-length) (omega arith) c.write_sheet.ensures
