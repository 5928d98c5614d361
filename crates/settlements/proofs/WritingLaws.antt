-- What is stored, byte by byte: a vector's bytes before those of a buffer.
use Prim.Native.Nat.{ℕ, suc, ◌<◌}
use native.Mathlib.Nat.{zero-add}
use mathlib.Core.Path.{◌≡◌}
use mathlib.Core.List.{List, ◌++◌}
use lib.ListN.{length, take, drop, get_or, set}
use lib.Seq.{paste-suc}

module _ (vector buffer : List ℕ) (i : ℕ) where
  pub byte_stored : i < length vector → i < length buffer
      → set (take i vector ++ drop i buffer) i (get_or vector i 0) ≡ take (suc i) vector ++ drop (suc i) buffer
  byte_stored hv hb = simp zero-add at (paste-suc buffer 0 vector i 0 (simp zero-add hb) hv)
