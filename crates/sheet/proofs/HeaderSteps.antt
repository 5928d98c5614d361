-- What the reader knows of a sheet from its length and its header.
use Prim.Native.Nat.{ℕ, ◌+◌, ◌-◌, ◌*◌, ◌/◌, ◌%◌, ◌≤◌}
use native.Mathlib.Nat.{sub-zero}
use native.Mathlib.Omega.{arith}
use mathlib.Core.Path.{◌≡◌, sym, ◌∙◌}
use mathlib.Core.Bool.{true, false}
use mathlib.Core.List.{List}
use mathlib.Core.Logic.{◌≢◌}
use lib.ListN.{length, take, drop}
use borrow.Author.Tests.{leb-true, eqb-true, eq-eqb, ne_eqb}
use Rattle.ternary.proofs.Tests.{ands}
use Rattle.sheet.specs.declared.Line.{Line}
use Rattle.std.specs.Prelude.{Some, None}
use Rattle.sheet.specs.Limits.{line_bytes}
use Rattle.sheet.specs.Line.{read_line, line_answer}
use Rattle.sheet.specs.Rows.{answer}
use Rattle.sheet.specs.Record.{start_net, refused}
use Rattle.sheet.specs.Rules.{header_ok}
use Rattle.sheet.specs.Checked.{SoFar}
use Rattle.sheet.specs.Reading.{read_lines, whole_lines, size_ok, read_header, read_in}
use Rattle.sheet.proofs.WholeLines.{whole-first, lines_room}
use Rattle.sheet.proofs.RuleLaws.{Counts, counts_facts}
use Rattle.sheet.proofs.Progress.{none_yet}
use Rattle.sheet.proofs.LineSteps.{five_of, unread_of}

module _ (w : ℕ) (b : List ℕ) where
  -- the first line as it is lent, by the width that the code works out
  pub first-lent : (width : ℕ) → width ≡ line_bytes w → line_answer (read_line w (take (line_bytes w) b)) ≡ line_answer (read_line w (take (width - 0) b))
  first-lent width is = rw (is, sub-zero (line_bytes w))

  pub bad_length : size_ok w (length b) ≡ false → refused (answer 11 0) ≡ read_in w b
  unfolding read_in
  bad_length e = rw e

  -- bytes that are whole lines have a first one
  pub first_line_lem : (most : ℕ) → whole_lines w most (length b) ≡ true → (width : ℕ) → width ≡ line_bytes w → width ≤ length b
  unfolding whole_lines
  first_line_lem most size width is =
      let some_byte = leb-true 1 (length b) (search ands) in
      let whole = eqb-true (length b % line_bytes w) 0 (search ands) in
      rw is (whole-first (line_bytes w) (length b) some_byte whole)

  module _ (size : size_ok w (length b) ≡ true) where
    pub bad_first_line : line_answer (read_line w (take (line_bytes w) b)) ≡ None → refused (answer 12 1) ≡ read_in w b
    unfolding read_in read_header
    bad_first_line e = rw (size, unread_of (read_line w (take (line_bytes w) b)) e)

    module _ (h : Line) (five : line_answer (read_line w (take (line_bytes w) b)) ≡ Some h) where
      pub bad_header : header_ok h ≡ false → refused (answer 13 1) ≡ read_in w b
      unfolding read_in read_header
      bad_header e = rw (size, five_of (read_line w (take (line_bytes w) b)) h five, e)

      module _ (ok : header_ok h ≡ true) where
        pub header_counts : Counts h.second h.third h.fourth
        unfolding header_ok
        header_counts = counts_facts _ _ _ (search ands)

        -- the lines below the header are all there, and none is added yet
        pub start_so_far : SoFar (start_net h.second h.third h.fourth) 0
        unfolding header_ok
        start_so_far = none_yet _ _ _ (search ands)

        module _ (width : ℕ) (is : width ≡ line_bytes w) where
          lines_alike : length b / width ≡ length b / line_bytes w
          lines_alike = rw is

          pub bad_line-count : length b / width ≢ 1 + (h.second + h.third) → refused (answer 14 0) ≡ read_in w b
          unfolding read_in read_header
          bad_line-count ne =
              rw (
                size,
                five_of (read_line w (take (line_bytes w) b)) h five,
                ok,
                ne_eqb (length b / line_bytes w) (1 + h.second + h.third) (λ e. ne (omega (arith, lines_alike, e))),
              )

          module _ (lines : length b / width ≡ 1 + (h.second + h.third)) where
            pub body_room : line_bytes w * (1 + (h.second + h.third)) ≤ length b
            body_room = lines_room (line_bytes w) (length b) _ (sym lines_alike ∙ lines)

            pub body_read : read_lines w (h.second + h.third) (drop (line_bytes w) b) 0 (start_net h.second h.third h.fourth) ≡ read_in w b
            unfolding read_in read_header
            body_read =
                rw (
                  size,
                  five_of (read_line w (take (line_bytes w) b)) h five,
                  ok,
                  eq-eqb (length b / line_bytes w) (1 + h.second + h.third) (omega (arith, lines_alike, lines)),
                )
