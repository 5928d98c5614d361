-- The tests of a length and of a header, in turn; then the lines below.
use native.Mathlib.Omega.{arith}
use mathlib.Core.Path.{◌≡◌, refl, sym, ◌∙◌}
use mathlib.Core.Bool.{true}
use lib.ListN.{length, take}
use Rattle.std.specs.Prelude.{Some}
use Rattle.sheet.specs.Limits.{line_bytes, most_lines}
use Rattle.sheet.specs.Line.{read_line, line_answer}
use Rattle.sheet.specs.Record.{start_net}
use Rattle.sheet.specs.Rules.{header_ok}
use Rattle.sheet.specs.Reading.{size_ok}
use Rattle.sheet.proofs.RuleLaws.{Counts}
use Rattle.sheet.proofs.HeaderSteps.{first-lent, bad_length, first_line_lem, bad_first_line, bad_header, header_counts, bad_line-count, start_so_far, body_room, body_read}
use Rattle.reader.proofs.read_in.Goals as goal
use Rattle.reader.proofs.read_in.Goals.{Else-not-header_ok, Else-not-whole_lines, In-Some}

-- the bytes of a line
width_is : (c : Else-not-whole_lines) → c.line_bytes-width.result ≡ line_bytes c.args.columns
width_is c = c.line_bytes-width.ensures

-- the length is allowed
size-at : (c : Else-not-whole_lines) → size_ok c.args.columns (length c.args.sheet.now) ≡ true
size-at c = sym c.whole_lines.ensures ∙ c.if-not-whole_lines.false

-- the first line is five fields
five-at : (c : In-Some) → let a = c.args in
    line_answer (read_line a.columns (take (line_bytes a.columns) a.sheet.now)) ≡ Some c.in-Some.header
five-at c = first-lent _ _ _ (width_is (goal.at.In-Some c).Else-not-whole_lines) ∙ sym c.read_line.ensures ∙ c.in-Some.is

-- the header's values are allowed
ok_at : (c : Else-not-header_ok) → header_ok c.in-Some.header ≡ true
ok_at c = sym c.header_ok.ensures ∙ c.if-not-header_ok.false

counts-at : (c : Else-not-header_ok) → let h = c.in-Some.header in Counts h.second h.third h.fourth
counts-at c =
    header_counts c.args.columns c.args.sheet.now (size-at (goal.at.Else-not-header_ok c).Else-not-whole_lines) _ (five-at (goal.at.Else-not-header_ok c).In-Some) (ok_at c)

pub returns-then-not-whole_lines : goal.returns-then-not-whole_lines
returns-then-not-whole_lines c = c.refusal.ensures ∙ bad_length _ _ (sym c.whole_lines.ensures ∙ c.if-not-whole_lines.true)

pub slice_bounds-read_line-end : goal.slice_bounds-read_line-end
slice_bounds-read_line-end c = first_line_lem c.args.columns c.args.sheet.now most_lines (size-at (goal.at.slice_bounds-read_line-end c).Else-not-whole_lines) _ (width_is (goal.at.slice_bounds-read_line-end c).Else-not-whole_lines)

pub returns-in_default : goal.returns-in_default
returns-in_default c =
    c.refusal-in_default.ensures ∙ bad_first_line _ _ (size-at (goal.at.returns-in_default c).Else-not-whole_lines) (first-lent _ _ _ (width_is (goal.at.returns-in_default c).Else-not-whole_lines) ∙ sym c.read_line.ensures ∙ c.in_default.is)

pub returns-then-not-header_ok : goal.returns-then-not-header_ok
returns-then-not-header_ok c =
    c.refusal-then-not-header_ok.ensures ∙ bad_header _ _ (size-at (goal.at.returns-then-not-header_ok c).Else-not-whole_lines) _ (five-at (goal.at.returns-then-not-header_ok c).In-Some) (sym c.header_ok.ensures ∙ c.if-not-header_ok.true)

pub returns-then-size-width : goal.returns-then-size-width
returns-then-size-width c =
    c.refusal-then-size-width.ensures ∙ bad_line-count _ _ (size-at (goal.at.returns-then-size-width c).Else-not-whole_lines) _ (five-at (goal.at.returns-then-size-width c).In-Some) (ok_at (goal.at.returns-then-size-width c).Else-not-header_ok) _ (width_is (goal.at.returns-then-size-width c).Else-not-whole_lines) c.if-size-width.true

pub overflow_cast-header : goal.overflow_cast-header
overflow_cast-header c = let n = counts-at (goal.at.overflow_cast-header c).Else-not-header_ok in omega arith

pub overflow_cast-header-2 : goal.overflow_cast-header-2
overflow_cast-header-2 c = let n = counts-at (goal.at.overflow_cast-header-2 c).Else-not-header_ok in omega arith

pub overflow_cast-header-3 : goal.overflow_cast-header-3
overflow_cast-header-3 c = let n = counts-at (goal.at.overflow_cast-header-3 c).Else-not-header_ok in omega arith

pub read_lines-requires : goal.read_lines-requires
unfolding start_net
read_lines-requires c =
    let w = c.args.columns in
    let b = c.args.sheet.now in
    let five = five-at (goal.at.read_lines-requires c).In-Some in
    rw c.start_net-start.ensures (
      start_so_far w b (size-at (goal.at.read_lines-requires c).Else-not-whole_lines) _ five (ok_at (goal.at.read_lines-requires c).Else-not-header_ok),
      refl,
      body_room w b (size-at (goal.at.read_lines-requires c).Else-not-whole_lines) _ five (ok_at (goal.at.read_lines-requires c).Else-not-header_ok) _ (width_is (goal.at.read_lines-requires c).Else-not-whole_lines) c.if-size-width.false,
      c.requires,
    )

pub returns : goal.returns
returns c =
    c.read_lines.ensures
    ∙ rw c.start_net-start.ensures (body_read _ _ (size-at (goal.at.returns c).Else-not-whole_lines) _ (five-at (goal.at.returns c).In-Some) (ok_at (goal.at.returns c).Else-not-header_ok) _ (width_is (goal.at.returns c).Else-not-whole_lines) c.if-size-width.false)
