-- The nets, the jobs, the buffers and the text of the instances.
use Rattle.std.specs.Prelude.{ℕ, List, [], ◌∷◌, ◌++◌, replicate}
use Rattle.ternary.specs.Signal.{X}
use Rattle.net.specs.declared.Net.{Net}
use Rattle.sheet.specs.Rows.{answer}
use Rattle.sheet.specs.Reading.{read_sheet}
use Rattle.sheet.specs.Text.{bytes, text}
use Rattle.settlements.specs.Batch.{Batch}
use Rattle.bench_examples.specs.Nets.{worked, three_nands}

-- what a buffer holds before the call: n bytes that no pass writes
abbrev pub lent : ℕ → List ℕ
lent n = replicate n 9

-- the report's three NANDs, and document 01's worked net
unfoldable pub nands : Net
nands = (read_sheet three_nands).net

-- the same NANDs as gates
unfoldable pub nand_gates : List ℕ
nand_gates = text ("   6   3   2   0   1\n" ∷ "   7   2 103  11 104\n" ∷ "   7   2 104 103 105\n" ∷ "   7   2 105 104  12\n" ∷ [])

unfoldable pub worked_net : Net
worked_net = (read_sheet worked).net

-- the worked net's four jobs
unfoldable pub jobs : List ℕ
jobs = bytes "   4   0   1   1   0\n" ++ bytes "   4   0   0   1   0\n" ++ bytes "   4   1   0   1   0\n" ++ bytes "   4   2   0   1   0\n"

-- what a batch of them leaves in buffers of 8 and 15 lent bytes
abbrev pub batch : Batch
batch = record {
  answer = answer 0 0;
  buffers = record {
    results = X ∷ X ∷ 1 ∷ 1 ∷ 9 ∷ 9 ∷ 9 ∷ 9 ∷ [];
    answers = 0 ∷ 1 ∷ 0 ∷ 0 ∷ 0 ∷ 0 ∷ 44 ∷ 0 ∷ 0 ∷ 42 ∷ 0 ∷ 0 ∷ 9 ∷ 9 ∷ 9 ∷ [];
  };
}

-- what the program prints for them
abbrev pub printed : List ℕ
printed =
    text (
    "   0   0   0   1\n"
    ∷ "   1   0   1   0 X X\n"
    ∷ "   2   0   0   0 1 1\n"
    ∷ "   3  44   0   0 - -\n"
    ∷ "   4  42   0   0 - -\n"
    ∷ [])
