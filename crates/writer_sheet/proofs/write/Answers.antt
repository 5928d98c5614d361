-- `write` meets its contract: the record is tested, ordered and atFront.
use native.Mathlib.Omega.{arith}
use mathlib.Core.Path.{◌≡◌, sym, ap, subst, ◌∙◌}
use mathlib.Core.Bool.{true}
use Rattle.net.specs.declared.Net.{Net}
use Rattle.sheet.specs.Limits.{field_width}
use Rattle.sheet.specs.Writing.{write_in}
use Rattle.sheet.specs.Valid.{valid}
use Rattle.writer.specs.Agreed.{canonical_in}
use Rattle.writer.specs.Fronts.{Sized, at_front}
use Rattle.writer.proofs.AgreedLaws.{canonical-valid}
use Rattle.writer.proofs.WriteLaws.{valid_sized, refused_record, front_record}
use Rattle.writer_sheet.proofs.write.Goals as goal
use Rattle.writer_sheet.proofs.write.Goals.{Else-not-is_record}

-- what was tested is a record
is-valid : (c : Else-not-is_record) → valid c.args.net ≡ true
is-valid c = sym c.is_record.ensures ∙ c.if-not-is_record.false

pub returns-then-not-is_record : goal.returns-then-not-is_record
returns-then-not-is_record c =
    rw (c.bad_record.ensures.0, c.bad_record.ensures.1)
    (refused_record c.args.net _ c.args.buffer.now (sym c.is_record.ensures ∙ c.if-not-is_record.true))

pub ordered-ordered-requires : goal.ordered-ordered-requires
ordered-ordered-requires c = let z = valid_sized _ (is-valid (goal.at.ordered-ordered-requires c).Else-not-is_record) in (z.edges, z.edge_places)

pub put_front-requires : goal.put_front-requires
put_front-requires c =
    (subst Sized (sym c.ordered-ordered.ensures) (valid_sized _ (canonical-valid _ (is-valid (goal.at.put_front-requires c).Else-not-is_record))), omega arith)

pub returns : goal.returns
unfolding canonical_in
returns c =
    c.put_front.ensures
    ∙ ap (λ (N : Net). at_front (write_in field_width N) c.args.buffer.now) c.ordered-ordered.ensures
    ∙ front_record c.args.net _ c.args.buffer.now (is-valid (goal.at.returns c).Else-not-is_record)
