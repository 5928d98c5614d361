-- What the code may count on in a net that an accepted sheet gives (`valid_fit`).
use Rattle.std.specs.Prelude.{ℕ, ◌≤◌, ◌<◌, true, false, ◌≡◌}
use Rattle.net.specs.declared.Net.{Net}
use Rattle.net.specs.Limits.{most_letters, most_key_nodes, most_signals}
use Rattle.net.specs.Graph.{edge_at, is_input, is_storage, key_count}
use Rattle.net.specs.SignalTable.{signal_count}
use Rattle.net.specs.Known.{Known}
use Rattle.net.specs.Tables.{Readable}

pub record Fit (N : Net) : Type 0 where
  pub readable : Readable N
  pub known : Known N
  pub letters : N.letter_count ≤ most_letters
  pub keys : key_count N ≤ most_key_nodes
  pub signals : (y : ℕ) → is_storage N y ≡ true → signal_count N y ≤ most_signals
  -- an end that is no storage vertex is an input vertex
  pub first_input : (i : ℕ) → i < N.edge_count → is_storage N (edge_at N i).end1 ≡ false → is_input N (edge_at N i).end1 ≡ true
  pub second_input : (i : ℕ) → i < N.edge_count → is_storage N (edge_at N i).end2 ≡ false → is_input N (edge_at N i).end2 ≡ true
