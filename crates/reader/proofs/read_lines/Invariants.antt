use Prim.Native.Nat.{◌+◌, ◌-◌, ◌*◌}
use mathlib.Core.Path.{◌≡◌}
use lib.ListN.{drop}
use Rattle.sheet.specs.Limits.{line_bytes}
use Rattle.sheet.specs.Checked.{SoFar}
use Rattle.sheet.specs.Reading.{read_lines}
use Rattle.reader.proofs.read_lines.Given as goal

abbrev pub invariant-loop-j : goal.invariant-loop-j
invariant-loop-j l = (l.count ≡ l.net.vertex_count + l.net.edge_count) × SoFar l.net l.j
    × (read_lines l.columns (l.count - l.j) (drop (line_bytes l.columns * (1 + l.j)) l.sheet) l.j l.net ≡ read_lines l.columns l.count (drop (line_bytes l.columns) l.sheet) 0 l.initial.net)
