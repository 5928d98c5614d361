-- A text at the front of a lent buffer, where the buffer has the room that the call asks for and where it has not.
use Prim.Native.Nat.{ℕ, ◌≤◌, ◌<◌}
use mathlib.Core.Path.{◌≡◌, refl}
use mathlib.Core.List.{List, [], ◌++◌}
use lib.ListN.{length, drop}
use borrow.Author.Tests.{lt-ltb, le-ltb}
use Rattle.output.specs.declared.Written.{Written}
use Rattle.output.specs.declared.Written.TheVariants.{Short, Bytes}
use Rattle.output.specs.Calls.{report, put}

module _ (says : ℕ → Written) (room : ℕ) (text out : List ℕ) where
  pub put_short : length out < room → report Short out ≡ put says room text out
  unfolding put
  put_short h = rw (lt-ltb (length out) room h)

  pub put_whole : room ≤ length out → {n : ℕ} → length text ≡ n → report (says n) (text ++ drop n out) ≡ put says room text out
  unfolding put
  put_whole h e = rw (le-ltb (length out) room h, e)

-- nothing is written
pub put_none : (room : ℕ) (text out : List ℕ) → room ≤ length out → text ≡ [] → report (Bytes 0) out ≡ put Bytes room text out
put_none room text out h e = rw e (put_whole Bytes room [] out h refl)
