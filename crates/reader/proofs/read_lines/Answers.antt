-- To read what is left, with the record so far, gives the whole answer; and the record so far holds only allowed values.
use Prim.Native.Nat.{ℕ, ◌+◌, ◌-◌, ◌*◌, ◌≤◌}
use native.Mathlib.Omega.{arith}
use mathlib.Core.Path.{◌≡◌, sym, ap, ◌∙◌}
use lib.ListN.{drop}
use Rattle.sheet.specs.Limits.{line_bytes}
use Rattle.std.specs.Prelude.{Some}
use Rattle.sheet.specs.Line.{read_line, line_answer}
use Rattle.sheet.specs.Reading.{read_lines}
use Rattle.sheet.specs.Entries.{decode_line}
use Rattle.net.specs.Limits.{most_vertices, most_edges}
use Rattle.sheet.proofs.RuleLaws.{counts_facts}
use Rattle.sheet.proofs.Progress.{line-added, counts_kept, all_added}
use Rattle.sheet.proofs.WholeLines.{line_after}
use Rattle.sheet.proofs.LoopLaws.{loop_next, loop_stop, loop_end}
use Rattle.sheet.proofs.BodySteps.{entry_place}
use Rattle.sheet.proofs.ReaderSteps.{lent, not_fields, line_stops, line-goes_on, line_steps}
use Rattle.reader.proofs.read_lines.Goals as goal
use Rattle.reader.proofs.read_lines.Goals.{After-decode_line, In-Some-decode_line, In-loop-j}

-- a sheet has few lines
few : (c : In-loop-j) → c.args.count ≤ most_vertices + most_edges
few c =
    let n = counts_facts _ _ _ c.loop-j.invariant.1.counts in
    omega (arith, c.loop-j.invariant.0)

-- the bytes of a line, the place of the line at hand, and what is left from there
width_is : (c : In-loop-j) → c.line_bytes-width.result ≡ line_bytes c.args.columns
width_is c = c.line_bytes-width.ensures

abbrev place : In-loop-j → ℕ
place c = c.line_bytes-width.result * (1 + c.loop-j.j)

left : (c : In-loop-j) → read_lines c.args.columns (c.args.count - c.loop-j.j) (drop (place c) c.args.sheet.now) c.loop-j.j c.loop-j.net
    ≡ read_lines c.args.columns c.args.count (drop (line_bytes c.args.columns) c.args.sheet.now) 0 c.args.start
left c = rw (width_is c) c.loop-j.invariant.2

-- the line's five numbers, and what it is decoded to where it is allowed
five : (c : After-decode_line) →
    line_answer (read_line c.args.columns (lent c.line_bytes-width.result c.args.sheet.now (place (goal.at.After-decode_line c).In-loop-j)))
    ≡ Some c.in-Some.line
five c = sym c.read_line.ensures ∙ c.in-Some.is

entry : (c : In-Some-decode_line) → decode_line c.loop-j.net c.loop-j.j c.in-Some.line ≡ Some c.in-Some-decode_line.entry
entry c = sym c.decode_line.ensures ∙ c.in-Some-decode_line.is

pub overflow_cast-j : goal.overflow_cast-j
overflow_cast-j c = omega (arith, few (goal.at.overflow_cast-j c).In-loop-j, c.loop-j-test.true)

pub returns-in_default : goal.returns-in_default
returns-in_default c =
    let a = (goal.at.returns-in_default c).In-loop-j in
    c.refusal.ensures
    ∙ loop_stop _ _ (place a) c.args.count c.loop-j.j c.loop-j.net _ (left a) c.loop-j-test.true 12
    (not_fields _ _ (place a) c.loop-j.j c.loop-j.net _ (width_is a) (sym c.read_line.ensures ∙ c.in_default.is))

pub overflow_cast-j-in_default-decode_line : goal.overflow_cast-j-in_default-decode_line
overflow_cast-j-in_default-decode_line c = omega (arith, few (goal.at.overflow_cast-j-in_default-decode_line c).In-loop-j, c.loop-j-test.true)

pub returns-in_default-decode_line : goal.returns-in_default-decode_line
returns-in_default-decode_line c =
    let a = (goal.at.returns-in_default-decode_line c).In-loop-j in
    rw c.refusal_of.ensures at c.refusal-in_default-decode_line.ensures
    ∙ loop_stop _ _ (place a) c.args.count c.loop-j.j c.loop-j.net _ (left a) c.loop-j-test.true _
    (line_stops _ _ (place a) c.loop-j.j c.loop-j.net _ (width_is a) _ (five (goal.at.returns-in_default-decode_line c).After-decode_line) (sym c.decode_line.ensures ∙ c.in_default-decode_line.is))

pub with_entry-net-requires : goal.with_entry-net-requires
with_entry-net-requires c =
    let n = counts_facts _ _ _ c.loop-j.invariant.1.counts in
    entry_place c.loop-j.net c.loop-j.j _ (omega (arith, c.loop-j.invariant.0, c.loop-j-test.true)) n.vertices n.edges _ (entry (goal.at.with_entry-net-requires c).In-Some-decode_line)

pub loop-j-preserved : goal.loop-j-preserved
loop-j-preserved c =
    let a = (goal.at.loop-j-preserved c).In-loop-j in
    let read = five (goal.at.loop-j-preserved c).After-decode_line in
    let added = entry (goal.at.loop-j-preserved c).In-Some-decode_line in
    let on = line-goes_on _ _ (place a) c.loop-j.j c.loop-j.net _ (width_is a) _ read _ added in
    let next-line = sym (line_after (line_bytes c.args.columns) c.loop-j.j) ∙ ap (λ (width : ℕ). width * (1 + c.loop-j.j) + line_bytes c.args.columns) (sym (width_is a)) in
    rw c.with_entry-net.ensures (
      c.loop-j.invariant.0 ∙ sym (counts_kept c.loop-j.net c.loop-j.j c.loop-j.invariant.1 _ _ on),
      line-added c.loop-j.net c.loop-j.j c.loop-j.invariant.1 _ _ (omega (arith, c.loop-j.invariant.0, c.loop-j-test.true)) on,
      loop_next _ _ (place a) c.args.count c.loop-j.j c.loop-j.net _ (left a) c.loop-j-test.true _
          (line_steps _ _ (place a) c.loop-j.j c.loop-j.net _ (width_is a) _ read _ added) _ next-line,
    )

pub concluded-requires : goal.concluded-requires
concluded-requires c = all_added c.loop-j.net c.loop-j.j c.loop-j.invariant.1 (omega (arith, c.loop-j.invariant.0, c.loop-j-test.false))

pub returns : goal.returns
returns c =
    c.concluded.ensures ∙ loop_end _ c.args.sheet.now (line_bytes c.args.columns * (1 + c.loop-j.j)) c.args.count c.loop-j.j c.loop-j.net _ c.loop-j.invariant.2 c.loop-j-test.false
