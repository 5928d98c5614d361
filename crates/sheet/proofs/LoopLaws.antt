-- The steps of a loop over the lines of a sheet. Its invariant says that reading what is left into the record so far gives the whole answer:
--     readLines w (count - j) (drop at b) j N ≡ whole
use Prim.Native.Nat.{ℕ, suc, ◌+◌, ◌-◌, ◌≤◌, ◌<◌}
use native.Mathlib.Numerals.{add-one}
use native.Mathlib.Omega.{arith}
use mathlib.Core.Path.{◌≡◌, sym, ap, ◌∙◌}
use mathlib.Core.List.{List}
use lib.ListN.{take, drop}
use lib.Seq.{drop-drop}
use Rattle.net.specs.declared.Net.{Net}
use Rattle.sheet.specs.declared.Reading.{Reading}
use Rattle.sheet.specs.Limits.{line_bytes}
use Rattle.sheet.specs.Line.{read_line}
use Rattle.sheet.specs.Rows.{answer, first_row}
use Rattle.sheet.specs.Record.{refused}
use Rattle.sheet.specs.Graph.{graph_rows}
use Rattle.sheet.specs.Reading.{Step, step_line, conclude, read_lines}
use Rattle.sheet.specs.Reading.Step.{next, stop}

-- the rest of `read_lines` after a step; an `elim` as there, since clauses would not be equal to it by computation
abbrev pub after_step : ℕ → ℕ → List ℕ → ℕ → Step → Reading
after_step w left rest j s = elim s [ next N ↦ read_lines w left rest (suc j) N | stop n ↦ refused (answer n (j + 2)) ]

-- the line at byte `at` is taken off the front
pub read_step : (w : ℕ) (b : List ℕ) (at left j : ℕ) (N : Net)
    → read_lines w (suc left) (drop at b) j N ≡ after_step w left (drop (at + line_bytes w) b) j (step_line (read_line w (take (line_bytes w) (drop at b))) j N)
unfolding read_lines
read_step w b at left j N =
    ap (λ (rest : List ℕ). after_step w left rest j (step_line (read_line w (take (line_bytes w) (drop at b))) j N)) (drop-drop (line_bytes w) at b)

module _ (w : ℕ) (b : List ℕ) (at count j : ℕ) (N : Net) (whole : Reading) (inv : read_lines w (count - j) (drop at b) j N ≡ whole) where
  -- the line at byte `at` is added
  pub loop_next : j < count → (N' : Net) → step_line (read_line w (take (line_bytes w) (drop at b))) j N ≡ next N'
      → (end : ℕ) → end ≡ at + line_bytes w → read_lines w (count - (j + 1)) (drop end b) (j + 1) N' ≡ whole
  loop_next h N' e end is =
      let left : count - j ≡ suc (count - suc j) = omega arith in
      rw (add-one j, is) (sym (read_step w b at (count - suc j) j N ∙ ap (after_step w (count - suc j) _ j) e) ∙ (rw left at inv))

  -- it is refused
  pub loop_stop : j < count → (n : ℕ) → step_line (read_line w (take (line_bytes w) (drop at b))) j N ≡ stop n → refused (answer n (j + 2)) ≡ whole
  loop_stop h n e =
      let left : count - j ≡ suc (count - suc j) = omega arith in
      sym (read_step w b at (count - suc j) j N ∙ ap (after_step w (count - suc j) _ j) e) ∙ (rw left at inv)

  -- no line is left
  pub loop_end : count ≤ j → conclude N (first_row (graph_rows N)) ≡ whole
  unfolding read_lines
  loop_end h = let left : count - j ≡ 0 = omega arith in rw left at inv
