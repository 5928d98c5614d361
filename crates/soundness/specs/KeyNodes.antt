-- The call for h, the number of key nodes, of any record.
use Rattle.std.specs.Prelude.{ℕ, not, List, [], ◌∷◌}
use Rattle.net.specs.declared.Net.{Net}
use Rattle.net.specs.Graph.{key_count}
use Rattle.sheet.specs.declared.Answer.{Answer}
use Rattle.sheet.specs.Rows.{answer, Row, row, when, by_rows}
use Rattle.sheet.specs.Valid.{valid}
use Rattle.soundness.specs.declared.KeyNodes.{KeyNodes}

abbrev pub key_nodes : Answer → ℕ → KeyNodes
key_nodes a count = record { answer = a; count = count }

-- the record is one that no accepted sheet gives
unfoldable pub key_nodes_rows : Net → List Row
key_nodes_rows N = row 41 (when (not (valid N))) ∷ []

unfoldable pub key_nodes_of : Net → KeyNodes
key_nodes_of N = by_rows (key_nodes_rows N) (key_nodes (answer 0 0) (key_count N)) (λ a. key_nodes a 0)
