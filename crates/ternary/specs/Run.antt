-- A run (document 01, "The run"): key nodes switch in any order while the input goes from A to B. Assumes nothing.
use Rattle.std.specs.Prelude.{ℕ, suc, ◌^◌, ◌<◌, ◌≡◌, Bool, true, false, not, ◌&&◌, ◌||◌, cond, List, [], ◌∷◌, eqb, leb}
use Rattle.ternary.specs.Lists.{any_below, all_below}
use Rattle.ternary.specs.Bits.{bit, number, has, set_of}

-- The present input, the key state, whether the input is held, the marked key nodes, the rounds closed.
-- A set of key nodes is a number, key node i weighing 2 ^ (i - 1).
pub record Run : Type 0 where
  pub input : ℕ
  pub key : ℕ
  pub hold : Bool
  pub marks : ℕ
  pub rounds : ℕ

-- an input, the nodes to switch, and whether the input is held from now on
pub record Step : Type 0 where
  pub input : ℕ
  pub nodes : ℕ
  pub hold : Bool

unfoldable pub start : ℕ → ℕ → Run
start A q = record { input = A; key = q; hold = false; marks = 0; rounds = 0 }

-- does key node k have the value that F excites it to?
unfoldable pub is_stable : (ℕ → ℕ → ℕ → ℕ) → ℕ → ℕ → ℕ → Bool
is_stable F a q k = eqb (F a q k) (bit q k)

module _ (h : ℕ) (F : ℕ → ℕ → ℕ → ℕ) where
  -- a state is stable if every key node is
  abbrev pub Stable : ℕ → ℕ → Type 0
  Stable a q = (k : ℕ) → k < h → F a q k ≡ bit q k

  -- the key state after the nodes of the set have switched at once
  unfoldable pub switch : ℕ → ℕ → ℕ → ℕ
  switch a nodes q = number h (λ k. cond (has nodes k) (F a q k) (bit q k))

  -- the set of the nodes that are stable
  unfoldable pub stables : ℕ → ℕ → ℕ
  stables a q = set_of h (is_stable F a q)

  -- where every key node is marked one round is counted, and only the nodes then stable keep a mark
  unfoldable pub close : Run → Run
  close s = elim (all_below h (has s.marks)) [
    | true ↦ record { input = s.input; key = s.key; hold = s.hold; marks = stables s.input s.key; rounds = suc s.rounds }
    | false ↦ s
  ]

  -- an accepted step. Without hold nothing is marked; the step that sets hold marks the nodes then stable;
  -- each later one adds those that switched or are then stable, and may close a round.
  unfoldable pub accepted : Run → Step → Run
  accepted s e =
      let a = e.input in
      let q = switch a e.nodes s.key in
      elim s.hold [
        | true ↦ close (record {
          input = a;
          key = q;
          hold = true;
          rounds = s.rounds;
          marks = set_of h (λ k. has s.marks k || has e.nodes k || is_stable F a q k);
        })
        | false ↦ elim e.hold [
          | true ↦ record { input = a; key = q; hold = true; marks = stables a q; rounds = s.rounds }
          | false ↦ record { input = a; key = q; hold = false; marks = s.marks; rounds = s.rounds }
        ]
      ]

module _ (L h : ℕ) (F : ℕ → ℕ → ℕ → ℕ) (A B : ℕ) where
  -- The input is no input state; it has at some letter neither A's nor B's value; it is not B under hold or when setting it;
  -- a named node is no key node; a named node is stable.
  unfoldable pub refused : Run → Step → Bool
  refused s e =
      leb (2 ^ L) e.input
      || any_below L (λ j. not (eqb (bit e.input j) (bit A j)) && not (eqb (bit e.input j) (bit B j)))
      || ((s.hold || e.hold) && not (eqb e.input B))
      || leb (2 ^ h) e.nodes
      || any_below h (λ k. has e.nodes k && is_stable F e.input s.key k)

  -- a refused step alters nothing
  unfoldable pub step : Run → Step → Run
  step s e = elim (refused s e) [ true ↦ s | false ↦ accepted h F s e ]

  -- each step gets the run that the one before left
  unfoldable pub run_all : Run → List Step → Run
  run_all s [] = s
  run_all s (e ∷ es) = run_all (step s e) es
