-- How the code tells the place of a row; the rows themselves stand in Graph.
use Rattle.std.specs.Prelude.{ℕ}
use Rattle.std.proofs.Math.Option.{Option, none, some}
use Rattle.std.specs.Prelude.{Some, None}
use Rattle.std.specs.Prelude.{Option as Answered}

-- a place that may be missing
abbrev pub found_of : Option ℕ → Answered ℕ
found_of none = None
found_of (some p) = Some p
