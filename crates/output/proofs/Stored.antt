-- What is stored, store by store: a vector's characters, and a job's two vectors, each after a blank, with the end of its line.
use Prim.Native.Nat.{ℕ, ◌+◌, ◌-◌, ◌*◌, ◌≤◌}
use native.Mathlib.Omega.{arith}
use mathlib.Core.Path.{◌≡◌, ap, ◌∙◌}
use mathlib.Core.List.{List, [], ◌∷◌, ◌++◌, append_assoc, append-nil}
use lib.ListN.{length, take, drop, set, length-drop, drop_of_length-le}
use lib.Seq.{take_all}
use borrow.Rule.Slice.PartMut.{put_mid}
use Rattle.sheet.specs.Limits.{blank, line_end}
use Rattle.sheet.proofs.FrontLaws.{Front, nothing, next_byte, next_part, lent_length, all_written}
use Rattle.output.specs.Text.{vector_text}
use Rattle.output.proofs.Lengths.{length_vector}

-- all characters of a vector
pub vector_stored : (h number : ℕ) (vector : List ℕ) → h ≤ length vector → (out : List ℕ) → length out ≡ h
    → take h (vector_text h number vector) ++ drop h out ≡ vector_text h number vector
vector_stored h number vector room out e =
    rw (take_all h (vector_text h number vector) (omega (arith, length_vector h number vector room)), drop_of_length-le out {i = h} (omega arith), append-nil)

-- ---- both vectors

-- the buffer has room for the vectors of a job of this number, which are its own bytes
pub record Lent (h number : ℕ) (own out : List ℕ) : Type 0 where
  pub size : length out ≡ 2 * h + 3
  pub owned : length own ≡ 2 * h

module _ {h number : ℕ} {own out : List ℕ} (l : Lent h number own out) where
  abbrev first : List ℕ
  first = vector_text h number own

  abbrev second : List ℕ
  second = vector_text h number (drop h own)

  pub with_blank : Front (2 * h + 3) 1 (blank ∷ []) (set out 0 blank)
  with_blank = next_byte (nothing out l.size) blank (omega arith)

  module _ {r : List ℕ} (e : r ≡ vector_text (length (take (1 + h - 1) (drop 1 (set out 0 blank)))) number own) where
    pub with_first : Front (2 * h + 3) (1 + h) (blank ∷ first) (put_mid 1 (1 + h - 1) (set out 0 blank) r)
    with_first =
        let lent = lent_length 1 (1 + h) (set out 0 blank) (omega arith) (omega (arith, with_blank.kept)) in
        let width : 1 + h - 1 ≡ h = omega arith in
        next_part with_blank (1 + h) (e ∙ ap (λ (n : ℕ). vector_text n number own) (lent ∙ width)) (omega arith) (omega arith)
        (length_vector h number own (omega (arith, l.owned)) ∙ omega arith)

    -- what the second vector is written to
    abbrev half : List ℕ
    half = set (put_mid 1 (1 + h - 1) (set out 0 blank) r) (1 + h) blank

    pub with_both_blanks : Front (2 * h + 3) (1 + h + 1) (blank ∷ (first ++ blank ∷ [])) half
    with_both_blanks = next_byte with_first blank (omega arith)

    module _ {t : List ℕ} (g : t ≡ vector_text (length (take (1 + h + 1 + h - (1 + h + 1)) (drop (1 + h + 1) half))) number (take (length own - h) (drop h own))) where
      pub with_second : Front (2 * h + 3) (1 + h + 1 + h) (blank ∷ ((first ++ blank ∷ []) ++ second)) (put_mid (1 + h + 1) (1 + h + 1 + h - (1 + h + 1)) half t)
      with_second =
          let lent = lent_length (1 + h + 1) (1 + h + 1 + h) half (omega arith) (omega (arith, with_both_blanks.kept)) in
          let width : 1 + h + 1 + h - (1 + h + 1) ≡ h = omega arith in
          let left : length (drop h own) ≡ length own - h = length-drop h own in
          let all : take (length own - h) (drop h own) ≡ drop h own = take_all (length own - h) (drop h own) (omega arith) in
          let told : t ≡ second = rw (lent, width, all) at g in
          next_part with_both_blanks (1 + h + 1 + h) told (omega arith) (omega arith) (length_vector h number (drop h own) (omega arith) ∙ omega arith)

      pub both_written : set (put_mid (1 + h + 1) (1 + h + 1 + h - (1 + h + 1)) half t) (1 + h + 1 + h) line_end ≡ blank ∷ (first ++ blank ∷ (second ++ line_end ∷ []))
      both_written = all_written (next_byte with_second line_end (omega arith)) (omega arith) ∙ simp append_assoc
