-- `vertex_rows::columns` meets its contract: place i holds what the closure gives at i. Assumes nothing.
use native.Mathlib.Omega.{arith}
use borrow.Author.Rules.{rules}
use mathlib.Core.Path.{◌≡◌, sym, ◌∙◌}
use Prim.Native.Nat.{ℕ, suc, ◌*◌, ◌/◌, ◌%◌, ◌^◌, ◌<◌}
use lib.ListN.{get_or}
use lib.Seq.{ext_get_or}
use Rattle.ternary.specs.Bits.{bit}
use Rattle.ternary.proofs.BitLaws.{bit_shift}
use Rattle.ternary.proofs.ListLaws.{get_or-table, length-table}
use Rattle.net.specs.Limits.{most_signals}
use Rattle.lanes.specs.Grid.{grid}
use Rattle.lanes.specs.Lanes.{assignments, columns}
use Rattle.vertex_rows.proofs.columns.Goals as goal

abbrev size : ℕ
size = suc most_signals * assignments

pub returns : goal.returns
unfolding columns grid
returns c =
    let bits : ℕ → ℕ = λ i. bit (i % assignments) (i / assignments) in
    ext_get_or 0 c.from_fn.result _ (c.from_fn.ensures.items.long ∙ sym (length-table size bits))
    (λ i l.
    let h : i < size = omega (arith, c.from_fn.ensures.items.long) in
    let given = (c.from_fn.ensures.items.at i 0 h).2 in
    let value : get_or c.from_fn.result i 0 ≡ i % assignments / 2 ^ (i / assignments) % 2 = search rules in
    value ∙ sym (bit_shift _ _) ∙ sym (get_or-table size bits i 0 h))
