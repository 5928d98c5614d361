-- The verdict on a net: its record, then conditions C1 to C3 over all clean states.
use Rattle.std.specs.Prelude.{not, List, [], ◌∷◌}
use Rattle.net.specs.declared.Net.{Net}
use Rattle.net.specs.WellFormed.{place_c1, test_c2, place_c3}
use Rattle.sheet.specs.declared.Answer.{Answer}
use Rattle.sheet.specs.Rows.{Row, row, when, first_row, answered}
use Rattle.sheet.specs.Valid.{valid}

-- record; C1 broken, at the lowest offending key vertex; C2 broken; C3 broken, at the lowest offending output
unfoldable pub verdict_rows : Net → List Row
verdict_rows N =
    row 41 (when (not (valid N)))
    ∷ row 31 (place_c1 N)
    ∷ row 32 (when (not (test_c2 N)))
    ∷ row 33 (place_c3 N)
    ∷ []

unfoldable pub verdict_of : Net → Answer
verdict_of N = answered (first_row (verdict_rows N))
