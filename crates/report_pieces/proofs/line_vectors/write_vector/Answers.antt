-- `write_vector` meets its contract: the first i characters are stored.
use Prim.Native.Nat.{ℕ}
use native.Mathlib.Omega.{arith}
use native.Mathlib.Numerals.{add-one}
use mathlib.Core.Path.{◌≡◌, refl, ◌∙◌}
use mathlib.Core.List.{List}
use lib.ListN.{length}
use borrow.Author.Rules.{rules}
use Rattle.settlements.proofs.WritingLaws.{byte_stored}
use Rattle.output.specs.Text.{vector_text}
use Rattle.output.proofs.Lengths.{length_vector}
use Rattle.output.proofs.Characters.{vector_entry}
use Rattle.output.proofs.Stored.{vector_stored}
use Rattle.report_pieces.proofs.line_vectors.write_vector.Goals as goal
use Rattle.report_pieces.proofs.line_vectors.write_vector.Goals.{At-loop-i}

-- the text to be written
abbrev text : At-loop-i → List ℕ
text c =
    let a = c.args in
    vector_text (length a.out.now) a.number a.vector.now

text-length : (c : At-loop-i) → length (text c) ≡ length c.args.out.now
text-length c = length_vector _ c.args.number _ c.requires

pub loop-i-preserved : goal.loop-i-preserved
loop-i-preserved c =
    let i = c.loop-i.i in
    let stored = byte_stored (text (goal.at.loop-i-preserved c).At-loop-i) c.args.out.now i (omega (arith, text-length (goal.at.loop-i-preserved c).At-loop-i)) (omega arith) in
    (search rules, rw (c.loop-i.invariant.1, add-one, c.shown.ensures, ← vector_entry _ c.args.number _ c.requires i (omega arith)) stored)

pub returns : goal.returns
returns c =
    let all : c.loop-i.i ≡ length c.args.out.now = omega arith in
    rw all at c.loop-i.invariant.1 ∙ vector_stored _ c.args.number _ c.requires c.args.out.now refl
