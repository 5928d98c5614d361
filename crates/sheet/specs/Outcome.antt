-- Every outcome of reading a sheet: accepted, or refused with the empty record, a number of document 01's table for sheets, and a place that this number
-- can have.
use Rattle.std.specs.Prelude.{ℕ, ◌≤◌}
use Rattle.net.specs.declared.Net.{Net}
use Rattle.net.specs.Limits.{most_vertices}
use Rattle.sheet.specs.declared.Reading.{Reading}
use Rattle.sheet.specs.Limits.{most_lines}
use Rattle.sheet.specs.Rows.{answer}
use Rattle.sheet.specs.Record.{refused, accepted}

-- the numbers that a sheet can be refused with, each with its places: a line from 1, or a vertex
pub data Listed : ℕ → ℕ → Type 0 where
  size : Listed 11 0
  fields : (line : ℕ) → 1 ≤ line → line ≤ most_lines → Listed 12 line
  at_header_line : Listed 13 1
  lines : Listed 14 0
  at_vertex_line : (line : ℕ) → 2 ≤ line → line ≤ most_lines → Listed 15 line
  at_edge_line : (line : ℕ) → 2 ≤ line → line ≤ most_lines → Listed 16 line
  partner : (line : ℕ) → 2 ≤ line → line ≤ most_lines → Listed 21 line
  key_nodes : (y : ℕ) → 1 ≤ y → y ≤ most_vertices → Listed 22 y
  signals : (y : ℕ) → 1 ≤ y → y ≤ most_vertices → Listed 23 y

pub data Outcome : Reading → Type 0 where
  accept : (N : Net) → Outcome (accepted N)
  refuse : {number place : ℕ} → Listed number place → Outcome (refused (answer number place))
