-- The call for the excitation of one vertex.
use Rattle.std.specs.Prelude.{ℕ, not, List, [], ◌∷◌, Result, Ok, Err}
use Rattle.net.specs.declared.Net.{Net}
use Rattle.net.specs.Graph.{is_storage}
use Rattle.net.specs.Excitation.{excitation}
use Rattle.net.specs.Network.{is_input_state, is_key_state}
use Rattle.sheet.specs.Rows.{Row, row, when, by_rows}
use Rattle.sheet.specs.Valid.{valid}

-- record; input state not below 2 ^ L; key state not below 2 ^ h; vertex not storage
unfoldable pub excitation_rows : Net → ℕ → ℕ → ℕ → List Row
excitation_rows N a q y =
    row 41 (when (not (valid N)))
    ∷ row 42 (when (not (is_input_state N a)))
    ∷ row 43 (when (not (is_key_state N q)))
    ∷ row 48 (when (not (is_storage N y)))
    ∷ []

-- the value, or the number of a refusal
unfoldable pub excited_of : Net → ℕ → ℕ → ℕ → Result ℕ ℕ
excited_of N a q y = by_rows (excitation_rows N a q y) (Ok (excitation N a q y)) (λ r. Err r.number)

-- the number, the place and the value of an answer; under a number the value is 0
abbrev pub excited_number : Result ℕ ℕ → ℕ
excited_number (Ok v) = 0
excited_number (Err n) = n

abbrev pub excited_place : Result ℕ ℕ → ℕ
excited_place (Ok v) = 0
excited_place (Err n) = 0

abbrev pub excited_value : Result ℕ ℕ → ℕ
excited_value (Ok v) = v
excited_value (Err n) = 0
