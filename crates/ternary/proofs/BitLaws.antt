-- Laws of digits, of bits and of the numbers made of bits. Assumes nothing.
use Prim.Native.Nat.{ℕ, zero, suc, ◌+◌, ◌*◌, ◌/◌, ◌%◌, ◌^◌, ◌≤◌, ◌<◌}
use mathlib.Core.Path.{◌≡◌, refl, sym, ap, ◌∙◌}
use mathlib.Core.Bool.{Bool, true, false, false≢true, ◌||◌}
use mathlib.Core.Logic.{◌↔◌, ◌⊎◌, inl, inr, ⊎_elim}
use native.Mathlib.Omega.{arith}
use native.Mathlib.Nat.{div-div-eq-div-mul, div-eq_of_lt, mod-eq_of_lt, mul-add-div_right, mul-add-mod_self_right, pow-succ', pow-zero, pow-le-pow_right, div-one}
use native.Mathlib.Numerals.{add-one}
use lib.Bits.{bit_or}
use lib.Dec.{eqb}
use Rattle.ternary.specs.Bits.{bit, number, has, digit, set_of}
use Rattle.ternary.specs.Lists.{any_below}

-- a number whose last digit is a, and v before it, tells both: so does the place of entry a in row v of rows of width w
pub quotient_rest : (w v a : ℕ) → a < w → ((v * w + a) / w ≡ v) × ((v * w + a) % w ≡ a)
quotient_rest w v a h =
    let q : a / w ≡ 0 = div-eq_of_lt h in (
      mul-add-div_right (omega arith) v a ∙ omega (arith, q),
      mul-add-mod_self_right v w a ∙ mod-eq_of_lt h,
    )

-- ---- bits

-- a number below 2 is 0 or 1
pub binary_iff : (v : ℕ) → (v < 2) ↔ ((v ≡ 0) ⊎ (v ≡ 1))
binary_iff v = (there v, λ s. ⊎_elim (λ e. omega arith) (λ e. omega arith) s)
  where
    there : (v : ℕ) → v < 2 → (v ≡ 0) ⊎ (v ≡ 1)
    there zero h = inl refl
    there (suc zero) h = inr refl
    there (suc (suc v)) h = absurd (omega arith)

pub bit_lt : (n k : ℕ) → bit n k < 2
unfolding bit
bit_lt n zero = omega arith
bit_lt n (suc k) = bit_lt (n / 2) k

-- bit k is what a shift and a remainder give
pub bit_shift : (n k : ℕ) → bit n k ≡ n / 2 ^ k % 2
unfolding bit
bit_shift n zero = rw (pow-zero, div-one) refl
bit_shift n (suc k) = bit_shift (n / 2) k ∙ ap (λ x. x % 2) (div-div-eq-div-mul n 2 (2 ^ k) ∙ ap (λ x. n / x) (sym (pow-succ' 2 k)))

-- a number below 2 ^ h has no bit from place h on
pub bit_beyond : (h n k : ℕ) → n < 2 ^ h → h ≤ k → bit n k ≡ 0
bit_beyond h n k l b = bit_shift n k ∙ ap (λ x. x % 2) (div-eq_of_lt (omega (arith, pow-le-pow_right {n = 2} (omega arith) b)))

-- a number below 2 ^ h is determined by its bits
pub bit_ext : (h m n : ℕ) → m < 2 ^ h → n < 2 ^ h → ((k : ℕ) → k < h → bit m k ≡ bit n k) → m ≡ n
unfolding bit
bit_ext zero m n hm hn e = omega (arith, pow-zero 2)
bit_ext (suc h) m n hm hn e =
    let low : m % 2 ≡ n % 2 = e 0 (omega arith) in
    let high : m / 2 ≡ n / 2 = bit_ext h (m / 2) (n / 2) (omega arith) (omega arith) (λ k l. e (suc k) (omega arith)) in
    omega arith

-- ---- numbers made of bits

pub number_lt : (h : ℕ) (f : ℕ → ℕ) → ((k : ℕ) → k < h → f k < 2) → number h f < 2 ^ h
unfolding number
number_lt zero f b = omega (arith, pow-zero 2)
number_lt (suc h) f b =
    let low : f 0 < 2 = b 0 (omega arith) in
    let high : number h (λ k. f (suc k)) < 2 ^ h = number_lt h (λ k. f (suc k)) (λ k l. b (suc k) (omega arith)) in
    omega arith

pub bit-number : (h : ℕ) (f : ℕ → ℕ) → ((k : ℕ) → k < h → f k < 2) → (k : ℕ) → k < h → bit (number h f) k ≡ f k
unfolding bit number
bit-number zero f b k l = absurd (omega arith)
bit-number (suc h) f b zero l =
    let low : f 0 < 2 = b 0 (omega arith) in
    omega arith
bit-number (suc h) f b (suc k) l =
    let low : f 0 < 2 = b 0 (omega arith) in
    let half : (f 0 + 2 * number h (λ k. f (suc k))) / 2 ≡ number h (λ k. f (suc k)) = omega arith in
    rw half (bit-number h (λ k. f (suc k)) (λ k l. b (suc k) (omega arith)) k (omega arith))

-- ---- sets

pub digit_lt : (b : Bool) → digit b < 2
digit_lt true = omega arith
digit_lt false = omega arith

-- a digit is 1 exactly if its test passes
pub eqb_digit : (b : Bool) → eqb (digit b) 1 ≡ b
eqb_digit true = refl
eqb_digit false = refl

pub digit_iff : (b : Bool) → (digit b ≡ 1) ↔ (b ≡ true)
digit_iff true = (λ e. refl, λ e. refl)
digit_iff false = (λ e. absurd (omega arith), λ e. absurd (false≢true e))

pub has-set_of : (h : ℕ) (P : ℕ → Bool) (k : ℕ) → k < h → has (set_of h P) k ≡ P k
unfolding has set_of
has-set_of h P k l = rw (bit-number h (λ k. digit (P k)) (λ k l. digit_lt (P k)) k l) (eqb_digit (P k))

-- two flags by `|`
or_digits : (a b : Bool) → bit_or (digit a) (digit b) ≡ digit (a || b)
or_digits true true = refl
or_digits true false = refl
or_digits false true = refl
or_digits false false = refl

-- a loop that notes in a flag whether some number has passed the test: one number more, and what the flag tells
pub any_noted : {found hit : ℕ} (p : ℕ → Bool) (n : ℕ) → found ≡ digit (any_below n p) → hit ≡ digit (p n) → bit_or found hit ≡ digit (any_below (n + 1) p)
unfolding any_below
any_noted p n e f = rw (e, f, add-one) (or_digits (any_below n p) (p n))

pub any_told : {found : ℕ} (p : ℕ → Bool) (n : ℕ) → found ≡ digit (any_below n p) → eqb found 1 ≡ any_below n p
any_told p n e = rw (e, eqb_digit) refl
