-- A buffer that is filled from its front, part by part and byte by byte.
use Prim.Native.Nat.{ℕ, ◌+◌, ◌-◌, ◌≤◌, ◌<◌}
use native.Mathlib.Numerals.{add-one}
use native.Mathlib.Omega.{arith}
use mathlib.Core.Path.{◌≡◌, refl, sym, ap, ◌∙◌}
use mathlib.Core.List.{List, [], ◌∷◌, ◌++◌}
use lib.ListN.{length, take, drop, set, length-append, length-drop, length-set}
use lib.Seq.{length-take-le, take_all, take_at, take-suc-set}
use borrow.Rule.Slice.PartMut.{put_mid}
use Rattle.sheet.specs.Field.{write_field}
use Rattle.sheet.proofs.FieldLaws.{length-field}
use Rattle.sheet.proofs.Parts.{part_taken, part_length}

-- the first `at` of so many bytes are a text
pub record Front (size at : ℕ) (text out : List ℕ) : Type 0 where
  pub kept : length out ≡ size
  pub sized : length text ≡ at
  pub written : take at out ≡ text

pub nothing : {size : ℕ} (out : List ℕ) → length out ≡ size → Front size 0 [] out
nothing out e = record { kept = e; sized = refl; written = refl }

-- a part at the very front, which a call filled with a text
pub first_part : {size at : ℕ} (out : List ℕ) {part more : List ℕ} → part ≡ more → length out ≡ size → at ≤ size → length more ≡ at → Front size at more (part ++ drop at out)
first_part {size} {at} out {part} {more} q e h p = rw q (record {
  kept = simp (length-append, length-drop) (omega arith);
  sized = p;
  written = take_at more (drop at out) at p;
})

-- the bytes of a part that is lent
pub lent_length : (at end : ℕ) (out : List ℕ) → at ≤ end → end ≤ length out → length (take (end - at) (drop at out)) ≡ end - at
lent_length at end out after within = length-take-le (end - at) (drop at out) (simp length-drop (omega arith))

module _ {size at : ℕ} {text out : List ℕ} (f : Front size at text out) where
  -- a part after it, which a call filled with more text
  pub next_part : (end : ℕ) {part more : List ℕ} → part ≡ more → at ≤ end → end ≤ size → length more ≡ end - at → Front size end (text ++ more) (put_mid at (end - at) out part)
  next_part end {part} {more} q after within p =
      let there : at + (end - at) ≡ end = omega arith in
      let fits : at + (end - at) ≤ length out = omega (arith, f.kept) in
      rw q (record {
        kept = part_length out more at (end - at) fits p ∙ f.kept;
        sized = simp length-append (omega (arith, f.sized));
        written = ap (λ (n : ℕ). take n (put_mid at (end - at) out more)) (sym there) ∙ part_taken out more at (end - at) fits p ∙ ap (λ (l : List ℕ). l ++ more) f.written;
      })

  -- the part up to the buffer's end
  pub last_part : {part more : List ℕ} → part ≡ more → at ≤ size → length more ≡ size - at → Front size size (text ++ more) (put_mid at (length out - at) out part)
  last_part q after p = rw f.kept (next_part size q after (omega arith) p)

  pub next_byte : (b : ℕ) → at < size → Front size (at + 1) (text ++ b ∷ []) (set out at b)
  next_byte b h = record {
    kept = length-set out at b ∙ f.kept;
    sized = simp length-append (omega (arith, f.sized));
    written = rw add-one (take-suc-set out at b (omega (arith, f.kept)) ∙ ap (λ (l : List ℕ). l ++ b ∷ []) f.written);
  }

  pub all_written : at ≡ size → out ≡ text
  all_written e = sym (take_all at out (omega (arith, f.kept))) ∙ f.written

-- ---- fields: a part that a call filled with a number, in as many columns as the part has bytes

pub first_field : {size : ℕ} (w n : ℕ) (out : List ℕ) {part : List ℕ} → part ≡ write_field (length (take w out)) n → length out ≡ size → w ≤ size
    → Front size w (write_field w n) (part ++ drop w out)
first_field w n out q e room =
    first_part out (q ∙ ap (λ (k : ℕ). write_field k n) (length-take-le w out (omega arith))) e room (length-field w n)

module _ {size at : ℕ} {text out : List ℕ} (f : Front size at text out) (w n : ℕ) where
  pub next_field : (end : ℕ) {part : List ℕ} → part ≡ write_field (length (take (end - at) (drop at out))) n → end ≡ at + w → end ≤ size
      → Front size end (text ++ write_field w n) (put_mid at (end - at) out part)
  next_field end q e room =
      let columns : length (take (end - at) (drop at out)) ≡ w = lent_length at end out (omega arith) (omega (arith, f.kept)) ∙ omega arith in
      next_part f end (q ∙ ap (λ (k : ℕ). write_field k n) columns) (omega arith) room (length-field w n ∙ omega arith)

  -- the field up to the buffer's end
  pub last_field : {part : List ℕ} → part ≡ write_field (length (take (length out - at) (drop at out))) n → size ≡ at + w
      → Front size size (text ++ write_field w n) (put_mid at (length out - at) out part)
  last_field q e = rw f.kept (next_field size (rw f.kept at q) e (omega arith))
