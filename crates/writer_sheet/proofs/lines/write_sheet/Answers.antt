-- `write_sheet` meets its contract: the header's line, then the others.
use Prim.Native.Nat.{ℕ, ◌+◌, ◌*◌, ◌≤◌}
use native.Mathlib.Omega.{arith}
use mathlib.Core.Path.{◌≡◌, refl, sym, ap, ◌∙◌}
use mathlib.Core.List.{◌++◌}
use lib.ListN.{length, drop}
use Rattle.sheet.specs.Line.{write_line}
use Rattle.sheet.specs.Writing.{header_line, write_in}
use Rattle.sheet.proofs.LineLaws.{length-line}
use Rattle.sheet.proofs.FrontLaws.{Front, first_part, last_part, all_written}
use Rattle.writer.proofs.LineSteps.{lines_below}
use Rattle.writer.proofs.WriteLaws.{body-length}
use Rattle.writer_sheet.proofs.lines.write_sheet.Goals as goal
use Rattle.writer_sheet.proofs.lines.write_sheet.Goals.{After-line_bytes-first, After-write_line}

-- the bytes of all lines
size_is : (c : After-line_bytes-first) → (let width = c.line_bytes-first.result in
    length c.args.out.now ≡ width + width * (c.args.net.vertex_count + c.args.net.edge_count))
size_is c =
    let below = c.args.net.vertex_count + c.args.net.edge_count in
    c.requires.2 ∙ ap (λ (n : ℕ). n * (1 + below)) (sym c.line_bytes-first.ensures) ∙ lines_below c.line_bytes-first.result below

-- what the lent part holds once the header is written
header-front : (c : After-write_line) → (let width = c.line_bytes-first.result in
    Front (length c.args.out.now) width (write_line c.args.columns (header_line c.args.net)) (c.write_line.new.out ++ drop width c.args.out.now))
header-front c =
    let fits : c.line_bytes-first.result ≤ length c.args.out.now = omega (arith, size_is (goal.at.After-write_line c).After-line_bytes-first) in
    first_part c.args.out.now (c.write_line.ensures ∙ ap (write_line c.args.columns) c.header_line-header.ensures) refl fits
    (length-line _ (header_line c.args.net) ∙ sym c.line_bytes-first.ensures)

pub returns : goal.returns
unfolding write_in
returns c =
    let size_of = size_is (goal.at.returns c).After-line_bytes-first in
    let below = c.args.net.vertex_count + c.args.net.edge_count in
    let size = body-length _ c.args.net c.requires.0 ∙ ap (λ (n : ℕ). n * below) (sym c.line_bytes-first.ensures) in
    all_written (last_part (header-front (goal.at.returns c).After-write_line) c.write_body.ensures (omega (arith, size_of)) (size ∙ omega (arith, size_of))) refl
