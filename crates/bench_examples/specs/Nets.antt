-- The sheets of document 01's proved examples. The drawings of the report's figures are lost; these nets are read off its words.
use Rattle.std.specs.Prelude.{ℕ, List, [], ◌∷◌}
use Rattle.sheet.specs.Text.{text}

-- document 01's worked example
abbrev pub worked : List ℕ
worked =
    text (
    "   1   4   4   1   1\n"
    ∷ "   2   1   0   0   0\n"
    ∷ "   2   2   0   1   0\n"
    ∷ "   2   3   2   0   0\n"
    ∷ "   2   4   1   0   0\n"
    ∷ "   3   2   3   1  11\n"
    ∷ "   3   2   3   1 103\n"
    ∷ "   3   3   4   0  11\n"
    ∷ "   3   4   1   0 103\n"
    ∷ [])

-- the report's NOR gate, the upper p edge under b: vertex 3 is the output, 4 the inner vertex; letters a, b
abbrev pub nor_gate : List ℕ
nor_gate =
    text (
    "   1   4   4   2   1\n"
    ∷ "   2   1   0   0   0\n"
    ∷ "   2   2   0   1   0\n"
    ∷ "   2   3   2   0   0\n"
    ∷ "   2   4   1   0   0\n"
    ∷ "   3   2   4   1  12\n"
    ∷ "   3   4   3   1  11\n"
    ∷ "   3   3   1   0  11\n"
    ∷ "   3   3   1   0  12\n"
    ∷ [])

-- the report's three NANDs, y1 = (a y2)', y2 = (y1 y3)', y3 = (y2 b)': vertices 3, 4, 5 are y1, y2, y3; letters a, b
abbrev pub three_nands : List ℕ
three_nands =
    text (
    "   1   8  12   2   1\n"
    ∷ "   2   1   0   0   0\n"
    ∷ "   2   2   0   1   0\n"
    ∷ "   2   3   2   0   0\n"
    ∷ "   2   4   2   0   0\n"
    ∷ "   2   5   2   0   0\n"
    ∷ "   2   6   1   0   0\n"
    ∷ "   2   7   1   0   0\n"
    ∷ "   2   8   1   0   0\n"
    ∷ "   3   2   3   1  11\n"
    ∷ "   3   2   3   1 104\n"
    ∷ "   3   3   6   0  11\n"
    ∷ "   3   6   1   0 104\n"
    ∷ "   3   2   4   1 103\n"
    ∷ "   3   2   4   1 105\n"
    ∷ "   3   4   7   0 103\n"
    ∷ "   3   7   1   0 105\n"
    ∷ "   3   2   5   1 104\n"
    ∷ "   3   2   5   1  12\n"
    ∷ "   3   5   8   0 104\n"
    ∷ "   3   8   1   0  12\n"
    ∷ [])

-- the report's NOR latch: vertices 3 and 4 are Q bar and Q, the key nodes in this order; letters S, R
abbrev pub nor_latch : List ℕ
nor_latch =
    text (
    "   1   6   8   2   1\n"
    ∷ "   2   1   0   0   0\n"
    ∷ "   2   2   0   1   0\n"
    ∷ "   2   3   2   0   0\n"
    ∷ "   2   4   2   0   0\n"
    ∷ "   2   5   1   0   0\n"
    ∷ "   2   6   1   0   0\n"
    ∷ "   3   2   5   1  11\n"
    ∷ "   3   5   3   1 104\n"
    ∷ "   3   3   1   0  11\n"
    ∷ "   3   3   1   0 104\n"
    ∷ "   3   2   6   1  12\n"
    ∷ "   3   6   4   1 103\n"
    ∷ "   3   4   1   0  12\n"
    ∷ "   3   4   1   0 103\n"
    ∷ [])
