-- Gate sheets, computed: the report's three NANDs, a latch with an inverter in it, and sheets that are refused.
use Prim.Native.Nat.{ℕ, zero, suc, ◌+◌}
use mathlib.Core.Path.{◌≡◌, refl}
use mathlib.Core.List.{[], ◌∷◌, ◌++◌}
use Rattle.ternary.specs.Lists.{Bytes}
use Rattle.net.specs.declared.Net.{Net}
use Rattle.net.proofs.Concrete.{vertex, edge, net}
use Rattle.sheet.specs.Line.{line, write_line}
use Rattle.sheet.specs.Record.{refused, accepted}
use Rattle.sheet.specs.Rows.{answer, by_rows}
use Rattle.sheet.specs.SheetRows.{placed, in_turn, line_at}
use Rattle.sheet.specs.Text.{text}
use Rattle.sheet.proofs.Sheets.{open_all}
use Rattle.gates.specs.Limits.{gate_columns, most_gate_bytes}
use Rattle.gates.specs.Gates.{gate_edges, inners_before, edges_before, net_of_first}
use Rattle.gates.specs.GateRows.{gate_header_ok, gate_of, gate_line_ok, net_of_gates, first_line_ok, gate_line_rows, gate_rows, read_gates}

-- opens the definitions of gate sheets, and those of sheets
unfoldable pub open_gates : Unit {0}
unfolding
    open_all read_gates by_rows gate_rows first_line_ok gate_header_ok gate_line_rows gate_line_ok line_at in_turn net_of_gates net_of_first placed edges_before gate_edges
    inners_before gate_of
open_gates = tt

-- y1 = (a y2)', y2 = (y1 y3)', y3 = (y2 b)'
nands : Net
unfolding net
nands =
    net (vertex 0 0 ∷ vertex 0 1 ∷ vertex 2 0 ∷ vertex 2 0 ∷ vertex 2 0 ∷ vertex 1 0 ∷ vertex 1 0 ∷ vertex 1 0 ∷ [])
    (edge 2 3 1 11 ∷ edge 2 3 1 104 ∷ edge 3 6 0 11 ∷ edge 6 1 0 104
    ∷ edge 2 4 1 103 ∷ edge 2 4 1 105 ∷ edge 4 7 0 103 ∷ edge 7 1 0 105
    ∷ edge 2 5 1 104 ∷ edge 2 5 1 12 ∷ edge 5 8 0 104 ∷ edge 8 1 0 12 ∷ [])
    2

nands_read :
    read_gates (text ("   6   3   2   0   1\n" ∷ "   7   2 103  11 104\n" ∷ "   7   2 104 103 105\n" ∷ "   7   2 105 104  12\n" ∷ [])) ≡ accepted nands
unfolding open_gates nands
nands_read = refl

-- y1 = (S + y2)', y2 = y1', y3 = (R + y1)': the inverter has no inner vertex and two edges, so what follows moves up
latch : Net
unfolding net
latch =
    net (vertex 0 0 ∷ vertex 0 1 ∷ vertex 2 0 ∷ vertex 2 0 ∷ vertex 2 0 ∷ vertex 1 0 ∷ vertex 1 0 ∷ [])
    (edge 2 6 1 11 ∷ edge 6 3 1 104 ∷ edge 3 1 0 11 ∷ edge 3 1 0 104
    ∷ edge 2 4 1 103 ∷ edge 4 1 0 103
    ∷ edge 2 7 1 12 ∷ edge 7 5 1 103 ∷ edge 5 1 0 12 ∷ edge 5 1 0 103 ∷ [])
    2

latch_read :
    read_gates (text ("   6   3   2   0   1\n" ∷ "   7   3 103  11 104\n" ∷ "   7   1 104 103   0\n" ∷ "   7   3 105  12 103\n" ∷ [])) ≡ accepted latch
unfolding open_gates latch
latch_read = refl

-- ---- refused

-- the most bytes that C-14 names
most_bytes_lem : most_gate_bytes ≡ 525
most_bytes_lem = refl

no_bytes : read_gates [] ≡ refused (answer 11 0)
unfolding open_gates
no_bytes = refl

one_gate_short : read_gates (text ("   6   2   0   0   1\n" ∷ "   7   1 103   0   0\n" ∷ [])) ≡ refused (answer 52 1)
unfolding open_gates
one_gate_short = refl

unknown_letter : read_gates (text ("   6   1   0   0   1\n" ∷ "   7   1 103  11   0\n" ∷ [])) ≡ refused (answer 52 2)
unfolding open_gates
unknown_letter = refl

second_of_inverter : read_gates (text ("   6   1   1   0   1\n" ∷ "   7   1 103  11  11\n" ∷ [])) ≡ refused (answer 52 2)
unfolding open_gates
second_of_inverter = refl

rail-symbol : read_gates (text ("   6   1   1   0   1\n" ∷ "   7   2 103  11 102\n" ∷ [])) ≡ refused (answer 52 2)
unfolding open_gates
rail-symbol = refl

-- the inner vertex of a gate is no symbol
inner_symbol : read_gates (text ("   6   1   1   0   1\n" ∷ "   7   2 103  11 104\n" ∷ [])) ≡ refused (answer 52 2)
unfolding open_gates
inner_symbol = refl

-- a bad value on line 2 comes before a line 3 that is not five fields
first_fault : read_gates (text ("   6   2   0   0   1\n" ∷ "   7   4 103   0   0\n" ∷ "                    \n" ∷ [])) ≡ refused (answer 52 2)
unfolding open_gates
first_fault = refl

-- so many inverters from gate g on, each with the next one's output for its symbol
ring : ℕ → ℕ → Bytes
unfolding open_gates
ring zero g = []
ring (suc m) g = write_line gate_columns (line 7 1 (102 + g) (102 + suc g) 0) ++ ring m (suc g)

-- thirteen of them in a ring: the thirteenth key node is vertex 15
many_keys : read_gates (write_line gate_columns (line 6 13 0 0 1) ++ (ring 12 1 ++ write_line gate_columns (line 7 1 115 103 0))) ≡ refused (answer 22 15)
unfolding open_gates ring
many_keys = refl
