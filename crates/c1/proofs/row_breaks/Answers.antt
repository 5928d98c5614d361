-- `c1::row_breaks` meets its contract: all entries are looked at in the end. Assumes nothing.
use Rattle.std.proofs.Common.{sym, ap, ◌∙◌, leb, refl, take_all}
use Rattle.std.specs.List.{list_any}
use Rattle.std.proofs.lemmas.List.Folds.{list_any_more}
use Rattle.c1.proofs.row_breaks.Goals as goal

pub loop-excitation-init : goal.loop-excitation-init
loop-excitation-init c = refl

pub loop-excitation-preserved : goal.loop-excitation-preserved
loop-excitation-preserved c =
    let l = c.loop-excitation in
    rw l.invariant (sym (list_any_more (leb 2) c.args.row.now l.excitation-index 0 c.loop-excitation-test.true))

pub returns : goal.returns
returns c =
    let l = c.loop-excitation in
    l.invariant ∙ ap (list_any (leb 2)) (take_all _ _ c.loop-excitation-test.false)
