-- `write_in_own_order` meets its contract: the record is tested and atFront.
use native.Mathlib.Omega.{arith}
use mathlib.Core.Path.{◌≡◌, sym, ◌∙◌}
use mathlib.Core.Bool.{true}
use Rattle.sheet.specs.Valid.{valid}
use Rattle.writer.proofs.WriteLaws.{valid_sized, refused_record, front_record}
use Rattle.writer_sheet.proofs.write_in_own_order.Goals as goal
use Rattle.writer_sheet.proofs.write_in_own_order.Goals.{Else-not-is_record}

-- what was tested is a record
is-valid : (c : Else-not-is_record) → valid c.args.net ≡ true
is-valid c = sym c.is_record.ensures ∙ c.if-not-is_record.false

pub returns-then-not-is_record : goal.returns-then-not-is_record
returns-then-not-is_record c =
    rw (c.bad_record.ensures.0, c.bad_record.ensures.1)
    (refused_record c.args.net _ c.args.buffer.now (sym c.is_record.ensures ∙ c.if-not-is_record.true))

pub put_front-requires : goal.put_front-requires
put_front-requires c = (valid_sized _ (is-valid (goal.at.put_front-requires c).Else-not-is_record), omega arith)

pub returns : goal.returns
returns c =
    c.put_front.ensures ∙ front_record c.args.net _ c.args.buffer.now (is-valid (goal.at.returns c).Else-not-is_record)
