-- `write_body` meets its contract: the lines before this one stand at the front of the part.
use Prim.Native.Nat.{ℕ, ◌+◌, ◌*◌, ◌≤◌}
use native.Mathlib.Nat.{mul-suc, mul-zero}
use native.Mathlib.Numerals.{add-one}
use native.Mathlib.Omega.{arith}
use mathlib.Core.Path.{◌≡◌, refl, ap, ◌∙◌}
use lib.ListN.{length}
use Rattle.sheet.specs.Limits.{line_bytes}
use Rattle.sheet.specs.Line.{write_line}
use Rattle.writer.proofs.LineSteps.{lines_start, lines_room, lines_step, lines_end, body-text}
use Rattle.writer_sheet.proofs.lines.write_body.Goals as goal
use Rattle.writer_sheet.proofs.lines.write_body.Goals.{In-loop-j}

-- the bytes of a line, and that there is room for the line at hand
width_is : (c : In-loop-j) → (c.line_bytes-width.result ≡ line_bytes c.args.columns)
width_is c = c.line_bytes-width.ensures

within : (c : In-loop-j) → line_bytes c.args.columns * c.loop-j.j + line_bytes c.args.columns ≤ length c.loop-j.out
within c =
    let inv = c.loop-j.invariant in
    omega (arith, lines_room inv c.loop-j-test.true, inv.front.kept)

pub loop-j-init : goal.loop-j-init
loop-j-init c = rw mul-zero (lines_start c.args.out.now c.requires.2)

pub loop-j-preserved : goal.loop-j-preserved
loop-j-preserved c =
    let loop = c.loop-j in
    let columns = c.args.columns in
    let width = line_bytes columns in
    let after : width * (loop.j + 1) ≡ width * loop.j + width = ap (λ (n : ℕ). width * n) (add-one loop.j) ∙ mul-suc width loop.j in
    rw (c.line_bytes-width.ensures, after)
    (lines_step loop.invariant c.loop-j-test.true _ refl (c.write_line.ensures ∙ ap (write_line columns) c.body_line.ensures))

pub returns : goal.returns
returns c =
    let loop = c.loop-j in
    lines_end loop.invariant (omega (arith, loop.invariant.some_left, c.loop-j-test.false)) ∙ body-text _ c.args.net c.requires.0
