-- The invariant of a run: the key state completes the second pass's vector after as many applications as rounds have closed,
-- and under hold each marked node is covered by the next one. Assumes nothing.
use Prim.Native.Nat.{ℕ, suc, ◌^◌, ◌<◌}
use mathlib.Core.Path.{◌≡◌, refl, sym, ◌∙◌}
use mathlib.Core.Logic.{⊎_elim}
use mathlib.Core.Bool.{true, false, cond, ◌||◌, true≢false, false≢true}
use mathlib.Core.List.{List, [], ◌∷◌}
use native.Mathlib.Omega.{arith}
use lib.ListN.{length}
use borrow.Author.Tests.{eqb-true}
use Rattle.ternary.specs.Lists.{table, all_below}
use Rattle.ternary.specs.Bits.{bit, has, set_of}
use Rattle.ternary.specs.Signal.{Covers, at, Completes}
use Rattle.ternary.specs.Passes.{mix, iterate}
use Rattle.ternary.specs.Run.{Run, Step, start, is_stable, switch, stables, close, accepted, refused, step, run_all}
use Rattle.ternary.specs.Demand.{Premises}
use Rattle.ternary.proofs.Tests.{by_test, or_true}
use Rattle.ternary.proofs.ListLaws.{all_at}
use Rattle.ternary.proofs.BitLaws.{has-set_of}
use Rattle.ternary.proofs.SignalLaws.{covers_trans}
use Rattle.ternary.proofs.ExcitationLaws.{H_covers}
use Rattle.ternary.proofs.Passes.{r₁, t, first_ends, start_completes, b_completes, second_descends, second-length}
use Rattle.ternary.proofs.RunLaws.{Allowed, allowed, switch_lt, switch-bit}

module _ (L h : ℕ) (F : ℕ → ℕ → ℕ → ℕ) (A B q : ℕ) where
  -- the second pass's vector after n applications
  abbrev T : ℕ → List ℕ
  T = t L h F A B q

  pub record Inv (s : Run) : Type 0 where
    pub covered : Completes (T s.rounds) s.key
    pub free : s.hold ≡ false → s.rounds ≡ 0
    pub marked : s.hold ≡ true → (k : ℕ) → k < h → has s.marks k ≡ true → Covers (at (T (suc s.rounds)) k) (bit s.key k)

  module _ (g : Premises L h F A B q) where
    size : (n : ℕ) → length (T n) ≡ h
    size n = second-length L h F A B q g n

    key_lt : (n x : ℕ) → Completes (T n) x → x < 2 ^ h
    key_lt n x c = rw (size n) at c.below

    -- with the input between A and B, the excitation stays within the first pass's vector
    free_covers : (a x k : ℕ) → k < h → Completes (mix L A B) a → Completes (T 0) x → Covers (at (T 0) k) (F a x k)
    unfolding iterate
    free_covers a x k l ca cx =
        let e = (first_ends L h F A B q g).is_fixed in
        rw e at (H_covers F h (mix L A B) (r₁ L h F A B q) k a x l ca cx)

    -- under B it comes to lie within the next vector of the second pass, and so stays within this one
    next_covers : (n x k : ℕ) → k < h → Completes (T n) x → Covers (at (T (suc n)) k) (F B x k)
    unfolding iterate
    next_covers n x k l cx = H_covers F h (table L (bit B)) (T n) k B x l (b_completes L h F A B q g) cx

    stay : (n k v : ℕ) → k < h → Covers (at (T (suc n)) k) v → Covers (at (T n) k) v
    stay n k v l c = covers_trans (at (T n) k) (at (T (suc n)) k) v ((second_descends L h F A B q g n).places k (omega (arith, size n))) c

    -- a node that is stable under B is covered by the next vector
    stable_covers : (n x k : ℕ) → k < h → Completes (T n) x → is_stable F B x k ≡ true → Covers (at (T (suc n)) k) (bit x k)
    unfolding is_stable
    stable_covers n x k l cx e = rw (eqb-true (F B x k) (bit x k) e) at (next_covers n x k l cx)

    -- switching keeps the key state within a vector that covers the excitation
    switch_completes : (n a x nodes : ℕ) → a < 2 ^ L → Completes (T n) x → ((k : ℕ) → k < h → Covers (at (T n) k) (F a x k))
        → Completes (T n) (switch h F a nodes x)
    switch_completes n a x nodes a< cx f = record {
      below = rw (size n) (switch_lt L h F g.c1 a x nodes a< (key_lt n x cx));
      covered = λ k l. let i : k < h = omega (arith, size n) in rw (switch-bit L h F g.c1 a x nodes a< (key_lt n x cx) k i) (place k i);
    }
      where
        place : (k : ℕ) → k < h → Covers (at (T n) k) (cond (has nodes k) (F a x k) (bit x k))
        place k l = by_test (has nodes k) (λ e. rw e (f k l)) (λ e. rw e (cx.covered k (omega (arith, size n))))

    -- the nodes that `stables` marks are covered by the next vector
    stables_covered : (n x : ℕ) → Completes (T n) x → (k : ℕ) → k < h → has (stables h F B x) k ≡ true → Covers (at (T (suc n)) k) (bit x k)
    unfolding stables
    stables_covered n x cx k l e = stable_covers n x k l cx (sym (has-set_of h (is_stable F B x) k l) ∙ e)

    -- ---- a step under hold

    module _ (n x m nodes : ℕ) (cx : Completes (T n) x)
        (old : (k : ℕ) → k < h → has m k ≡ true → Covers (at (T (suc n)) k) (bit x k)) where
      x' : ℕ
      x' = switch h F B nodes x

      m' : ℕ
      m' = set_of h (λ k. has m k || has nodes k || is_stable F B x' k)

      cx' : Completes (T n) x'
      unfolding x'
      cx' = switch_completes n B x nodes g.new cx (λ k l. stay n k (F B x k) l (next_covers n x k l cx))

      bit_x' : (k : ℕ) → k < h → bit x' k ≡ cond (has nodes k) (F B x k) (bit x k)
      unfolding x'
      bit_x' = switch-bit L h F g.c1 B x nodes g.new (key_lt n x cx)

      switched : (k : ℕ) → k < h → has nodes k ≡ true → Covers (at (T (suc n)) k) (bit x' k)
      switched k l e = rw (bit_x' k l, e) (next_covers n x k l cx)

      kept : (k : ℕ) → k < h → has m k ≡ true → Covers (at (T (suc n)) k) (bit x' k)
      kept k l e = by_test (has nodes k) (switched k l) (λ i. rw (bit_x' k l, i) (old k l e))

      marks_covered : (k : ℕ) → k < h → has m' k ≡ true → Covers (at (T (suc n)) k) (bit x' k)
      unfolding m'
      marks_covered k l e =
          let i : (has m k || has nodes k || is_stable F B x' k) ≡ true = sym (has-set_of h (λ k. has m k || has nodes k || is_stable F B x' k) k l) ∙ e in
          ⊎_elim
          (λ j. ⊎_elim (kept k l) (switched k l) (or_true (has m k) (has nodes k) j))
          (stable_covers n x' k l cx')
          (or_true (has m k || has nodes k) (is_stable F B x' k) i)

      all_covered : all_below h (has m') ≡ true → Completes (T (suc n)) x'
      all_covered e = record {
        below = rw (size (suc n)) (key_lt n x' cx');
        covered = λ k l. let i : k < h = omega (arith, size (suc n)) in marks_covered k i (all_at (has m') h e k i);
      }

      held_inv : Inv (close h F (record { input = B; key = x'; hold = true; marks = m'; rounds = n }))
      unfolding close
      held_inv = by_test (all_below h (has m'))
          (λ e. rw (e, close) record {
            covered = all_covered e;
            free = λ i. absurd (true≢false i);
            marked = λ _. stables_covered (suc n) x' (all_covered e);
          })
          (λ e. rw (e, close) record {
            covered = cx';
            free = λ i. absurd (true≢false i);
            marked = λ _. marks_covered;
          })

    -- ---- every step

    accepted_inv : (s : Run) (e : Step) → Allowed L A B s e → Inv s → Inv (accepted h F s e)
    unfolding accepted x' m'
    accepted_inv s e ok v = by_test s.hold
        (λ i.
        let b : e.input ≡ B = ok.held (rw i) in
        rw (i, accepted, b) (held_inv s.rounds s.key s.marks e.nodes v.covered (v.marked i)))
        (λ i. by_test e.hold
        (λ j.
        let b : e.input ≡ B = ok.held (rw i j) in
        let c = switch_completes s.rounds B s.key e.nodes g.new v.covered
        (λ k l. stay s.rounds k (F B s.key k) l (next_covers s.rounds s.key k l v.covered)) in
        rw (i, accepted, j, b) record {
          covered = c;
          free = λ z. absurd (true≢false z);
          marked = λ _. stables_covered s.rounds (switch h F B e.nodes s.key) c;
        })
        (λ j.
        let none : s.rounds ≡ 0 = v.free i in
        let c : Completes (T 0) s.key = rw none at v.covered in
        rw (i, accepted, j) record {
          covered = rw none (switch_completes 0 e.input s.key e.nodes ok.input< c
              (λ k l. free_covers e.input s.key k l ok.between c));
          free = λ _. none;
          marked = λ z. absurd (false≢true z);
        }))

    step_inv : (s : Run) (e : Step) → Inv s → Inv (step L h F A B s e)
    unfolding step
    step_inv s e v = by_test (refused L h F A B s e)
        (λ i. rw (i, step) v)
        (λ i. rw (i, step) (accepted_inv s e (allowed L h F A B s e i) v))

    start_inv : Inv (start A q)
    unfolding start iterate
    start_inv = record { covered = start_completes L h F A B q g; free = λ _. refl; marked = λ z. absurd (false≢true z) }

    run_all_inv : (s : Run) (es : List Step) → Inv s → Inv (run_all L h F A B s es)
    unfolding run_all
    run_all_inv s [] v = v
    run_all_inv s (e ∷ es) v = run_all_inv (step L h F A B s e) es (step_inv s e v)

    -- after any list of steps from the start
    pub run_inv : (es : List Step) → Inv (run_all L h F A B (start A q) es)
    run_inv es = run_all_inv (start A q) es start_inv
