-- The tests that settling, a batch and a job share, and how a batch is measured, as the code tests them.
use Rattle.std.specs.Prelude.{ℕ, ◌^◌, cond, ◌&&◌, ltb, Option, Some, None}
use Rattle.std.proofs.Math.Option.{none, some}
use Rattle.net.specs.declared.Net.{Net}
use Rattle.net.specs.WellFormed.{place_c1}
use Rattle.sheet.specs.declared.Answer.{Answer}
use Rattle.sheet.specs.Rows.{answer}
use Rattle.sheet.specs.Valid.{valid}

-- with L letters and h key nodes: 42 where A or B is no input state, 43 where q is no key state, else no number
unfoldable pub state_number : ℕ → ℕ → ℕ → ℕ → ℕ → Option ℕ
state_number L h A B q = cond (ltb A (2 ^ L) && ltb B (2 ^ L)) (cond (ltb q (2 ^ h)) None (Some 43)) (Some 42)

-- 41 for a record that no accepted sheet gives, 31 with its place for one that breaks C1
unfoldable pub net_refusal : Net → Option Answer
net_refusal N = cond (valid N) (elim (place_c1 N) [ none ↦ None | some p ↦ Some (answer 31 p) ]) (Some (answer 41 0))
