-- `component_labels::classes::own_labels` meets its contract. Assumes nothing.
use native.Mathlib.Omega.{arith}
use borrow.Author.Rules.{rules}
use mathlib.Core.Path.{◌≡◌, sym, ◌∙◌}
use lib.Seq.{ext_get_or}
use Prim.Native.Nat.{ℕ, suc, ◌<◌}
use lib.ListN.{get_or}
use Rattle.net.specs.Limits.{most_vertices}
use Rattle.ternary.specs.Lists.{table}
use Rattle.ternary.proofs.ListLaws.{length-table, get_or-table}
use Rattle.component_labels.proofs.classes.own_labels.Goals as goal

pub returns : goal.returns
returns c =
    let made = c.from_fn.ensures.items in
    let each : (v : ℕ) → v < suc most_vertices → get_or c.from_fn.result v 0 ≡ v = λ v h. let (p, q, called) = made.at v 0 h in search rules in
    ext_get_or 0 c.from_fn.result (table (suc most_vertices) (λ v. v)) (made.long ∙ sym (length-table (suc most_vertices) (λ v. v)))
    (λ v h. each v (omega (arith, made.long)) ∙ sym (get_or-table (suc most_vertices) (λ v. v) v 0 (omega (arith, made.long))))
