-- A place that was found, and one that was not. Assumes nothing.
use Prim.Native.Nat.{ℕ}
use mathlib.Core.Path.{◌≡◌, refl}
use mathlib.Core.Bool.{true≢false}
use mathlib.Core.Option.{Option, none, some}
use Rattle.std.specs.Prelude.{Some, None}
use Rattle.sheet.specs.Search.{found_of}

pub found_some : (o : Option ℕ) {p : ℕ} → found_of o ≡ Some p → o ≡ some p
found_some none e = absurd (true≢false (cc))
found_some (some q) e = cc

pub found_none : (o : Option ℕ) → found_of o ≡ None → o ≡ none
found_none none e = refl
found_none (some q) e = absurd (true≢false (cc))
