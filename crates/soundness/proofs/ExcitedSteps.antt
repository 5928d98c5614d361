-- The call for one vertex, test by test.
use Prim.Native.Nat.{ℕ}
use mathlib.Core.Path.{◌≡◌}
use mathlib.Core.Bool.{true, false}
use Rattle.net.specs.declared.Net.{Net}
use Rattle.net.specs.Graph.{is_storage}
use Rattle.net.specs.Excitation.{excitation}
use Rattle.net.specs.Network.{is_input_state, is_key_state}
use Rattle.sheet.specs.Rows.{first_row, by_rows}
use Rattle.sheet.specs.Valid.{valid}
use Rattle.std.specs.Prelude.{Ok, Err}
use Rattle.soundness.specs.Excited.{excitation_rows, excited_of}

module _ (N : Net) (a q y : ℕ) where
  pub bad_record : valid N ≡ false → Err 41 ≡ excited_of N a q y
  unfolding excited_of excitation_rows by_rows first_row
  bad_record e = rw e

  pub bad_input : valid N ≡ true → is_input_state N a ≡ false → Err 42 ≡ excited_of N a q y
  unfolding excited_of excitation_rows by_rows first_row
  bad_input e f = rw (e, f)

  pub bad_key_state : valid N ≡ true → is_input_state N a ≡ true → is_key_state N q ≡ false → Err 43 ≡ excited_of N a q y
  unfolding excited_of excitation_rows by_rows first_row
  bad_key_state e f g = rw (e, f, g)

  pub no_storage : valid N ≡ true → is_input_state N a ≡ true → is_key_state N q ≡ true → is_storage N y ≡ false → Err 48 ≡ excited_of N a q y
  unfolding excited_of excitation_rows by_rows first_row
  no_storage e f g h = rw (e, f, g, h)

  pub all_fit : {v : ℕ} → valid N ≡ true → is_input_state N a ≡ true → is_key_state N q ≡ true → is_storage N y ≡ true
      → v ≡ excitation N a q y → Ok v ≡ excited_of N a q y
  unfolding excited_of excitation_rows by_rows first_row
  all_fit e f g h v = rw (e, f, g, h, v)
