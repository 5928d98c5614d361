-- What the reader's loop knows of a line from the answers of the functions that it calls.
use Prim.Native.Nat.{ℕ, ◌+◌, ◌-◌}
use mathlib.Core.Path.{◌≡◌, refl, sym, ap, ◌∙◌}
use mathlib.Core.List.{List}
use mathlib.Core.Logic.{◌≢◌}
use mathlib.Core.Option.{Option, none, some}
use lib.ListN.{take, drop}
use Rattle.net.specs.declared.Net.{Net}
use Rattle.sheet.specs.declared.Answer.{Answer}
use Rattle.sheet.specs.declared.Line.{Line}
use Rattle.sheet.specs.declared.Entry.{Entry}
use Rattle.std.specs.Prelude.{Some, None}
use Rattle.sheet.specs.Limits.{line_bytes}
use Rattle.sheet.specs.Line.{read_line, line_answer}
use Rattle.sheet.specs.Rows.{first_row, answered}
use Rattle.sheet.specs.Record.{refused}
use Rattle.sheet.specs.Graph.{graph_rows}
use Rattle.sheet.specs.Reading.{add_line, step_line, conclude}
use Rattle.sheet.specs.Reading.Step.{next, stop}
use Rattle.sheet.specs.Entries.{decode_line, refusal_of, with_entry, step_of}
use Rattle.sheet.proofs.LineSteps.{five_of, unread_of, part}
use Rattle.sheet.proofs.BodySteps.{decoded_step}
use Rattle.sheet.proofs.RowLaws.{positive, answered_zero, first_none}

-- the part of the sheet that is lent, `width` bytes long, which the code works out
abbrev pub lent : ℕ → List ℕ → ℕ → List ℕ
lent width b at = take (at + width - at) (drop at b)

module _ (w : ℕ) (b : List ℕ) (at j : ℕ) (N : Net) (width : ℕ) (is : width ≡ line_bytes w) where
  whole-line : lent width b at ≡ take (line_bytes w) (drop at b)
  whole-line = part b at width ∙ rw is

  -- it is not five fields
  pub not_fields : line_answer (read_line w (lent width b at)) ≡ None → step_line (read_line w (take (line_bytes w) (drop at b))) j N ≡ stop 12
  unfolding step_line
  not_fields e = rw (unread_of (read_line w (take (line_bytes w) (drop at b))) (rw whole-line at e))

  module _ (v : Line) (five : line_answer (read_line w (lent width b at)) ≡ Some v) where
    step_is : step_line (read_line w (take (line_bytes w) (drop at b))) j N ≡ add_line N j v
    unfolding step_line
    step_is = rw (five_of (read_line w (take (line_bytes w) (drop at b))) v (rw whole-line at five))

    -- its values are refused
    pub line_stops : decode_line N j v ≡ None → step_line (read_line w (take (line_bytes w) (drop at b))) j N ≡ stop (refusal_of N j)
    line_stops e = step_is ∙ sym (decoded_step N j v) ∙ ap (step_of N j) e

    -- what it adds is added
    pub line-goes_on : (x : Entry) → decode_line N j v ≡ Some x → add_line N j v ≡ next (with_entry N j x)
    line-goes_on x e = sym (decoded_step N j v) ∙ ap (step_of N j) e

    pub line_steps : (x : Entry) → decode_line N j v ≡ Some x → step_line (read_line w (take (line_bytes w) (drop at b))) j N ≡ next (with_entry N j x)
    line_steps x e = step_is ∙ line-goes_on x e

-- ---- the end of the sheet, by the answer of the rows over the graph

module _ (N : Net) (a : Answer) (e : a ≡ answered (first_row (graph_rows N))) where
  pub ends-refused : a.number ≢ 0 → refused a ≡ conclude N (first_row (graph_rows N))
  unfolding conclude
  ends-refused ne = go (first_row (graph_rows N)) e
    where
      go : (o : Option Answer) → a ≡ answered o → refused a ≡ conclude N o
      go none f = absurd (ne (ap (λ (x : Answer). x.number) f))
      go (some x) f = ap refused f

  pub ends-accepted : a.number ≡ 0 → (a ≡ answered none) × (first_row (graph_rows N) ≡ none)
  unfolding graph_rows positive
  ends-accepted zero =
      let none_holds = (first_none (graph_rows N)).1 ((answered_zero (graph_rows N) refl).0 (ap (λ (x : Answer). x.number) (sym e) ∙ zero)) in
      (e ∙ ap answered none_holds, none_holds)
