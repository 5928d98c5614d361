-- Parts of lists: their widths and the room for them, what follows a part that is all of its list, and a list with a part in its middle replaced.
use Prim.Native.Nat.{ℕ, zero, suc, ◌+◌, ◌-◌, ◌*◌, ◌≤◌}
use native.Mathlib.Nat.{sub-zero, zero-sub, suc-sub-suc, suc-mul}
use native.Mathlib.Omega.{arith}
use mathlib.Core.Path.{◌≡◌, sym, ap, ◌∙◌}
use mathlib.Core.List.{List, [], ◌∷◌, ◌++◌, append_assoc, append-nil}
use lib.ListN.{length, take, drop, length-append, length-drop, drop_of_length-le}
use lib.Seq.{take-nil, take_at, drop_at, length-take-le}
use borrow.Rule.Slice.PartMut.{put_mid}

-- the width of a part, as a part's ends give it
pub part_width : (at w : ℕ) → at + w - at ≡ w
part_width at w = omega arith

-- n parts of one width, of which m follow the part at hand
module _ {n m : ℕ} (w at : ℕ) (e : n ≡ suc m) where
  pub parts_left : (at + w) + m * w ≡ at + n * w
  parts_left =
      let more : n * w ≡ m * w + w = ap (λ (k : ℕ). k * w) e ∙ suc-mul m w in
      omega arith

  -- room for the part at hand, and for those that follow
  module _ {size : ℕ} (room : at + n * w ≤ size) where
    pub room_now : at + w ≤ size
    room_now = omega (arith, parts_left)

    pub room_then : (at + w) + m * w ≤ size
    room_then = omega (arith, parts_left)

pub nothing_after : (x l : List ℕ) (n : ℕ) → length l ≤ n → x ≡ x ++ drop n l
nothing_after x l n h = rw (drop_of_length-le l {i = n} h, append-nil)

-- a part of a part from the front
pub drop-take : (a b : ℕ) (l : List ℕ) → drop a (take b l) ≡ take (b - a) (drop a l)
drop-take zero b l = rw sub-zero
drop-take (suc a) zero l = rw zero-sub
drop-take (suc a) (suc b) [] = sym (take-nil (suc b - suc a))
drop-take (suc a) (suc b) (x ∷ l) = rw suc-sub-suc (drop-take a b l)

-- what stands up to the end of the new part, what stands after it, and the length
module _ (l p : List ℕ) (at w : ℕ) (fits : at + w ≤ length l) (size : length p ≡ w) where
  front : length (take at l ++ p) ≡ at + w
  front = simp (length-append, size, length-take-le at l (omega arith))

  regroup : put_mid at w l p ≡ (take at l ++ p) ++ drop w (drop at l)
  regroup = sym (append_assoc (take at l) p (drop w (drop at l)))

  pub part_taken : take (at + w) (put_mid at w l p) ≡ take at l ++ p
  part_taken = ap (take (at + w)) regroup ∙ take_at (take at l ++ p) (drop w (drop at l)) (at + w) front

  pub part_dropped : drop (at + w) (put_mid at w l p) ≡ drop w (drop at l)
  part_dropped = ap (drop (at + w)) regroup ∙ drop_at (take at l ++ p) (drop w (drop at l)) (at + w) front

  pub part_length : length (put_mid at w l p) ≡ length l
  part_length = ap length regroup ∙ simp (length-append (take at l ++ p), front, length-drop) (omega arith)
