-- `write_four` meets its contract: the fields stand one after the other.
use Prim.Native.Nat.{◌+◌}
use native.Mathlib.Omega.{arith}
use mathlib.Core.Path.{refl, ◌∙◌}
use mathlib.Core.List.{append_assoc}
use Rattle.sheet.proofs.FrontLaws.{first_field, next_field, last_field, all_written}
use Rattle.fields.proofs.write_four.Goals as goal

pub returns : goal.returns
returns c =
    let w = c.args.columns in
    let f₁ = first_field w _ c.args.out.now c.write_field.ensures c.requires.1 (omega arith) in
    let f₂ = next_field f₁ w _ (w + w) c.write_field-2.ensures (omega arith) (omega arith) in
    let f₃ = next_field f₂ w _ (w + w + w) c.write_field-3.ensures (omega arith) (omega arith) in
    let f₄ = last_field f₃ w _ c.write_field-4.ensures (omega arith) in
    all_written f₄ refl ∙ simp append_assoc
