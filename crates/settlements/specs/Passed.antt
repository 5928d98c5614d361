-- What settling answers by the passes at hand.
use Rattle.std.specs.Prelude.{ℕ, List, ◌++◌, Option, Some, None, take, drop}
use Rattle.lookups.specs.declared.Passes.{Passes}
use Rattle.sheet.specs.Rows.{answer}
use Rattle.settlements.specs.Settle.{Settlement, settling, settlement, unsettled}

-- h bytes of each buffer are written; where there are no passes, the start is not stable
unfoldable pub settled_by : ℕ → Option Passes → List ℕ → List ℕ → Settlement
settled_by h None R T = unsettled (answer 44 0) R T
settled_by h (Some p) R T = settlement (settling 0 0 p.first_steps p.second_steps) (take h p.first ++ drop h R) (take h p.second ++ drop h T)
