-- Binary numbers: bit k weighs 2 ^ k. Input states, key states and sets of key nodes are such numbers. Assumes nothing.
use Rattle.std.specs.Prelude.{ℕ, zero, suc, ◌+◌, ◌*◌, ◌/◌, ◌%◌, Bool, true, false, eqb}

-- the values of a net's letters as one number, letter j with weight 2 ^ (j - 1); and those of its key nodes, in vertex order
abbrev pub InputState : Type 0
InputState = ℕ

abbrev pub KeyState : Type 0
KeyState = ℕ

-- bit k of n: 0 or 1
unfoldable pub bit : ℕ → ℕ → ℕ
bit n zero = n % 2
bit n (suc k) = bit (n / 2) k

-- the number below 2 ^ h whose bit k is f k, where f gives 0 or 1 below h
unfoldable pub number : ℕ → (ℕ → ℕ) → ℕ
number zero f = 0
number (suc h) f = f 0 + 2 * number h (λ k. f (suc k))

-- ---- sets of numbers below h, as numbers: element k weighs 2 ^ k

-- is k in the set n?
unfoldable pub has : ℕ → ℕ → Bool
has n k = eqb (bit n k) 1

abbrev pub digit : Bool → ℕ
digit true = 1
digit false = 0

-- the set of the k below h that pass the test
unfoldable pub set_of : ℕ → (ℕ → Bool) → ℕ
set_of h p = number h (λ k. digit (p k))
