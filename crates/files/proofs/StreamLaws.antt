-- What is read or written turn by turn: a read that failed took nothing, and each part stands behind those before.
use Rattle.std.proofs.Common.{◌≡◌, ℕ, ◌+◌, ◌-◌, ◌≤◌, List, [], ◌++◌, Result, Ok, Err, Some, None, Bool, true, false, sym, ap, ◌∙◌, subst, arith, length, take, slice_range, le_refl, drop_at, length-take-le, length-drop, drop, take_all, take-append-drop}
use Rattle.std.proofs.lemmas.Slice.{take-put_mid_below}
use Rattle.std.specs.Prelude.{OnOk, Option}
use Rattle.std.specs.Io.KnownBytes.{Keeps, Appends, Consumes, ReadConsumes}
use Rattle.std.proofs.KnownBytes.{Keeps-trans, Appends-trans, Consumes-trans}
use mathlib.Core.Bool.{false≢true}
use borrow.Rule.Slice.PartMut.{put_mid, post_of}
use lib.Seq.{take-add, take-append-le}

pub kept-consumes : (a b : Option (List ℕ)) → Keeps a b → Consumes a b []
kept-consumes None b k = tt
kept-consumes (Some x) None k = absurd k
kept-consumes (Some x) (Some y) k = sym k

-- the read before was interrupted, and so no `Ok`
pub again : {E : Type 0} → (a b c : Option (List ℕ)) (was r : Result ℕ E) (before after : List ℕ) (interrupted : Bool) → OnOk was (interrupted ≡ false) → interrupted ≡ true
    → ReadConsumes a b was before → ReadConsumes b c r after → ReadConsumes a c r after
again a b c (Ok m) r before after interrupted isnt is p q = absurd (false≢true (sym isnt ∙ is))
again a b c (Err e) (Ok n) before after interrupted isnt is p q = (Consumes-trans a b c [] (take n after) (kept-consumes a b p) q.0, q.1)
again a b c (Err e) (Err f) before after interrupted isnt is p q = Keeps-trans a b c p q

-- ---- what was read so far, in the buffer

take_split : (a b : ℕ) (old new : List ℕ) → a ≤ b → take a new ≡ take a old → take a old ++ slice_range new a b ≡ take b new
take_split a b old new h front =
    let same : a + (b - a) ≡ b = omega arith in
    ap (λ l. l ++ slice_range new a b) (sym front) ∙ sym (take-add a (b - a) new) ∙ ap (λ n. take n new) same

part_read : (a k n : ℕ) (xs ys : List ℕ) → a ≤ length xs → n ≤ length ys → slice_range (put_mid a k xs ys) a (a + n) ≡ take n ys
part_read a k n xs ys within fits =
    let same : (a + n) - a ≡ n = omega arith in
    let after = post_of a k xs in
    ap (take ((a + n) - a)) (drop_at (take a xs) (ys ++ after) a (length-take-le a xs within)) ∙ ap (λ m. take m (ys ++ after)) same ∙ take-append-le n ys after fits

-- one read more: its bytes stand behind those before
pub read_on : (a b c : Option (List ℕ)) (done more : ℕ) (xs ys : List ℕ) → done ≤ length xs → more ≤ length ys
    → Consumes a b (take done xs) → Consumes b c (take more ys)
    → Consumes a c (take (done + more) (put_mid done (length xs - done) xs ys))
read_on a b c done more xs ys within fits p q =
    let new = put_mid done (length xs - done) xs ys in
    let part = part_read done (length xs - done) more xs ys within fits in
    let joined = take_split done (done + more) xs new (omega arith) (take-put_mid_below _ _ _ _ _ (le_refl _) within) in
    subst (Consumes a c) (ap (λ l. take done xs ++ l) (sym part) ∙ joined) (Consumes-trans a b c _ _ p q)

-- ---- what is written

-- one write more took the front of what was left: with the rest that is all
pub write_on : (a b c : Option (List ℕ)) (n : ℕ) (xs : List ℕ) → Appends a b (take n xs) → Appends b c (take (length xs - n) (drop n xs)) → Appends a c xs
write_on a b c n xs p q =
    let rest : take (length xs - n) (drop n xs) ≡ drop n xs =
    take_all (length xs - n) (drop n xs) (omega (arith, length-drop n xs)) in
    subst (Appends a c) (ap (λ l. take n xs ++ l) rest ∙ take-append-drop n xs) (Appends-trans a b c _ _ p q)
