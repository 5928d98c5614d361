-- `header_ok_lem` meets its contract.
use borrow.Author.Tests.{eq-eqb, ne_eqb}
use Rattle.sheet.specs.Rules.{header_ok}
use Rattle.reader.proofs.header_ok.Goals as goal

pub returns-then-h-ne-HEADER : goal.returns-then-h-ne-HEADER
unfolding header_ok
returns-then-h-ne-HEADER c = rw (ne_eqb _ _ c.if-h-ne-HEADER.true)

pub returns-then-h-ne-EDITION : goal.returns-then-h-ne-EDITION
unfolding header_ok
returns-then-h-ne-EDITION c = rw (eq-eqb _ _ c.if-h-ne-HEADER.false, ne_eqb _ _ c.if-h-ne-EDITION.true)

pub returns : goal.returns
unfolding header_ok
returns c =
    rw (eq-eqb _ _ c.if-h-ne-HEADER.false, eq-eqb _ _ c.if-h-ne-EDITION.false) c.counts_ok.ensures
