-- Laws of the ternary excitation H: it covers every completion, it is monotone, and X means that two completions disagree.
-- Assumes nothing.
use Prim.Native.Nat.{ℕ, ◌^◌, ◌<◌}
use mathlib.Core.Path.{◌≡◌, refl, sym, ap, ap₂, ◌∙◌, subst}
use mathlib.Core.Logic.Iff
use mathlib.Core.Logic.{◌≢◌, ◌⊎◌, inl, inr, ◌↔◌}
use mathlib.Core.Bool.{Bool, true, false}
use mathlib.Core.List.{List, []}
use native.Mathlib.Omega.{arith}
use lib.Dec.{eqb}
use lib.ListN.{length}
use borrow.Author.Tests.{eqb-true, eqb-false}
use Rattle.ternary.specs.Bits.{bit}
use Rattle.ternary.specs.Lists.{table, same, all_below}
use Rattle.ternary.specs.Run.{is_stable}
use Rattle.ternary.specs.Signal.{X, Signal, Covers, at, Completes, every}
use Rattle.ternary.specs.Excitation.{agreed, AllGive, common_of, common, H, C1, Disagree, DisagreeAt}
use Rattle.ternary.proofs.BitLaws.{binary_iff}
use Rattle.ternary.proofs.ListLaws.{length-table, all_ext}
use Rattle.ternary.proofs.SameLaws.{same_all}
use Rattle.ternary.proofs.SignalLaws.{covers_antisym, nil, every_true, every_false, completion, Above, above_completes, at_table, only_bits}

module _ (F : ℕ → ℕ → ℕ → ℕ) (p r : List ℕ) (k : ℕ) where
  -- some completion excites k to something else
  abbrev pub NotAllGive : ℕ → Type 0
  NotAllGive v = (a : ℕ) × (q : ℕ) × Completes p a × Completes r q × (F a q k ≢ v)

  -- some completion excites k to v
  abbrev pub Gives : ℕ → Type 0
  Gives v = (a : ℕ) × (q : ℕ) × Completes p a × Completes r q × (F a q k ≡ v)

  -- what it means that the ternary excitation of k is s
  pub data Common : ℕ → Type 0 where
    zeros : AllGive F p r k 0 → Common 0
    ones : NotAllGive 0 → AllGive F p r k 1 → Common 1
    mixed : NotAllGive 0 → NotAllGive 1 → Common X

  test : ℕ → Bool
  test v = every p (λ a. every r (λ q. eqb (F a q k) v))

  passed : (v : ℕ) → test v ≡ true → AllGive F p r k v
  unfolding test
  passed v e a q ca cq = eqb-true (F a q k) v (every_true r (λ q. eqb (F a q k) v) (every_true p (λ a. every r (λ q. eqb (F a q k) v)) e a ca) q cq)

  failed : (v : ℕ) → test v ≡ false → NotAllGive v
  unfolding test
  failed v e =
      let wa = every_false p (λ a. every r (λ q. eqb (F a q k) v)) e in
      let wq = every_false r (λ q. eqb (F wa.0 q k) v) wa.2 in
      (wa.0, wq.0, wa.1, wq.1, eqb-false (F wa.0 wq.0 k) v wq.2)

module _ (F : ℕ → ℕ → ℕ → ℕ) where
  pub common_is : (p r : List ℕ) (k : ℕ) → Common F p r k (common F p r k)
  unfolding common test
  common_is p r k = go (test F p r k 0) (test F p r k 1) refl refl
    where
      go : (b c : Bool) → test F p r k 0 ≡ b → test F p r k 1 ≡ c → Common F p r k (agreed (test F p r k 0) (test F p r k 1))
      go true c e i = rw e (zeros (passed F p r k 0 e))
      go false true e i = rw (e, i) (ones (failed F p r k 0 e) (passed F p r k 1 i))
      go false false e i = rw (e, i) (mixed (failed F p r k 0 e) (failed F p r k 1 i))

  pub common_signal : (p r : List ℕ) (k : ℕ) → Signal (common F p r k)
  common_signal p r k = go (common_is p r k)
    where
      go : {s : ℕ} → Common F p r k s → Signal s
      go (zeros f) = inl refl
      go (ones w f) = inr (inl refl)
      go (mixed w v) = inr (inr refl)

  -- it is 0, or 1, exactly if every completion gives that
  pub common-gives : (p r : List ℕ) (k v : ℕ) → v < 2 → (common F p r k ≡ v) ↔ AllGive F p r k v
  common-gives p r k v l = (there (common_is p r k), back (common_is p r k))
    where
      there : {s : ℕ} → Common F p r k s → s ≡ v → AllGive F p r k v
      there (zeros f) e = rw e at f
      there (ones w f) e = rw e at f
      there (mixed w w') e = absurd (omega arith)

      some : AllGive F p r k v → (u : ℕ) → AllGive F p r k u → u ≡ v
      some g u f =
          let a = completion p in
          let q = completion r in
          sym (f a.0 q.0 a.1 q.1) ∙ g a.0 q.0 a.1 q.1

      never : AllGive F p r k v → NotAllGive F p r k 0 → NotAllGive F p r k 1 → (v ≡ 0) ⊎ (v ≡ 1) → ⊥
      never g w w' (inl e) = w.4 (g w.0 w.1 w.2 w.3 ∙ e)
      never g w w' (inr e) = w'.4 (g w'.0 w'.1 w'.2 w'.3 ∙ e)

      back : {s : ℕ} → Common F p r k s → AllGive F p r k v → s ≡ v
      back (zeros f) g = some g 0 f
      back (ones w f) g = some g 1 f
      back (mixed w w') g = absurd (never g w w' ((binary_iff v).0 l))

  -- it covers what any completion gives
  pub common_covers : (p r : List ℕ) (k a q : ℕ) → Completes p a → Completes r q → Covers (common F p r k) (F a q k)
  unfolding Covers
  common_covers p r k a q ca cq = go (common_is p r k)
    where
      go : {s : ℕ} → Common F p r k s → Covers s (F a q k)
      go (zeros f) = f a q ca cq
      go (ones w f) = f a q ca cq
      go (mixed w v) = tt

-- two networks F and G, each with its signals and one key node
module _ (F : ℕ → ℕ → ℕ → ℕ) (p r : List ℕ) (k : ℕ) (G : ℕ → ℕ → ℕ → ℕ) (p' r' : List ℕ) (k' : ℕ) where
  -- what F's completions give, G's give too: then G's excitation is no more certain
  pub common_above : ((a q : ℕ) → Completes p a → Completes r q → Gives G p' r' k' (F a q k)) → Covers (common G p' r' k') (common F p r k)
  unfolding Covers
  common_above given = go (common_is G p' r' k') (common_is F p r k)
    where
      give : {v : ℕ} → AllGive G p' r' k' v → AllGive F p r k v
      give f a q ca cq = let w = given a q ca cq in sym w.4 ∙ f w.0 w.1 w.2 w.3

      clash : {v : ℕ} → AllGive G p' r' k' v → NotAllGive F p r k v → ⊥
      clash f w = w.4 (give f w.0 w.1 w.2 w.3)

      go : {u l : ℕ} → Common G p' r' k' u → Common F p r k l → Covers u l
      go (zeros f) (zeros g) = refl
      go (zeros f) (ones w g) = absurd (clash f w)
      go (zeros f) (mixed w v) = absurd (clash f w)
      go (ones w' f) (zeros g) =
          let a = completion p in
          let q = completion r in
          absurd (omega (arith, give f a.0 q.0 a.1 q.1, g a.0 q.0 a.1 q.1))
      go (ones w' f) (ones w g) = refl
      go (ones w' f) (mixed w v) = absurd (clash f v)
      go (mixed w' v') c = tt

-- networks whose completions give the same values have the same ternary excitation
pub common-same : (F : ℕ → ℕ → ℕ → ℕ) (p r : List ℕ) (k : ℕ) (G : ℕ → ℕ → ℕ → ℕ) (p' r' : List ℕ) (k' : ℕ)
    → ((a q : ℕ) → Completes p a → Completes r q → Gives G p' r' k' (F a q k))
    → ((a q : ℕ) → Completes p' a → Completes r' q → Gives F p r k (G a q k'))
    → common F p r k ≡ common G p' r' k'
common-same F p r k G p' r' k' there back = covers_antisym (common F p r k) (common G p' r' k') (common_signal F p r k) (common_signal G p' r' k')
    (common_above G p' r' k' F p r k back) (common_above F p r k G p' r' k' there)

-- less certain signals give a less certain excitation
pub common_mono : (F : ℕ → ℕ → ℕ → ℕ) (p' r' p r : List ℕ) → Above p' p → Above r' r → (k : ℕ) → Covers (common F p' r' k) (common F p r k)
common_mono F p' r' p r up ur k = common_above F p r k F p' r' k (λ a q ca cq. (a, q, above_completes p' p a up ca, above_completes r' r q ur cq, refl))

module _ (F : ℕ → ℕ → ℕ → ℕ) (h : ℕ) where
  pub length-H : (p r : List ℕ) → length (H F h p r) ≡ h
  unfolding H
  length-H p r = length-table h (common F p r)

  pub at_H : (p r : List ℕ) (k : ℕ) → k < h → at (H F h p r) k ≡ common F p r k
  unfolding H
  at_H p r k l = at_table h (common F p r) k l

  pub H_signal : (p r : List ℕ) (k : ℕ) → k < length (H F h p r) → Signal (at (H F h p r) k)
  H_signal p r k l = rw (at_H p r k (omega (arith, length-H p r))) (common_signal F p r k)

  pub H_covers : (p r : List ℕ) (k a q : ℕ) → k < h → Completes p a → Completes r q → Covers (at (H F h p r) k) (F a q k)
  H_covers p r k a q l ca cq = rw (at_H p r k l) (common_covers F p r k a q ca cq)

  pub H_mono : (p' r' p r : List ℕ) → Above p' p → Above r' r → Above (H F h p' r') (H F h p r)
  H_mono p' r' p r up ur = record {
    lengths = length-H p r ∙ sym (length-H p' r');
    places = λ k l. let i : k < h = omega (arith, length-H p' r') in rw (at_H p' r' k i, at_H p r k i) (common_mono F p' r' p r up ur k);
  }

module _ (F : ℕ → ℕ → ℕ → ℕ) (p r : List ℕ) (k : ℕ) (binary : (a q : ℕ) → Completes p a → Completes r q → (F a q k ≡ 0) ⊎ (F a q k ≡ 1)) where
  -- where every completion gives 0 or 1, k is X exactly if two of them disagree on it
  pub binary_unknown : (common F p r k ≡ X) ↔ Disagree F p r k
  binary_unknown = (go (common_is F p r k), λ d. back d (common_is F p r k))
    where
      go : {s : ℕ} → Common F p r k s → s ≡ X → Disagree F p r k
      go (zeros f) e = absurd (omega arith)
      go (ones w f) e = absurd (omega arith)
      go (mixed w v) e = record {
        a₁ = w.0;
        q₁ = w.1;
        a₂ = v.0;
        q₂ = v.1;
        input₁ = w.2;
        key₁ = w.3;
        input₂ = v.2;
        key₂ = v.3;
        differ = unequal (binary w.0 w.1 w.2 w.3) (binary v.0 v.1 v.2 v.3);
      }
        where
          unequal : (F w.0 w.1 k ≡ 0) ⊎ (F w.0 w.1 k ≡ 1) → (F v.0 v.1 k ≡ 0) ⊎ (F v.0 v.1 k ≡ 1)
              → F w.0 w.1 k ≢ F v.0 v.1 k
          unequal (inl x) y = absurd (w.4 x)
          unequal (inr x) (inl y) = omega arith
          unequal (inr x) (inr y) = absurd (v.4 y)

      agree : {v : ℕ} → AllGive F p r k v → Disagree F p r k → ⊥
      agree f d = d.differ (f d.a₁ d.q₁ d.input₁ d.key₁ ∙ sym (f d.a₂ d.q₂ d.input₂ d.key₂))

      back : Disagree F p r k → {s : ℕ} → Common F p r k s → s ≡ X
      back d (zeros f) = absurd (agree f d)
      back d (ones w f) = absurd (agree f d)
      back d (mixed w v) = refl

module _ (L h : ℕ) (F : ℕ → ℕ → ℕ → ℕ) (c1 : C1 L h F) where
  pub common_unknown : (p r : List ℕ) → length p ≡ L → length r ≡ h → (k : ℕ) → k < h → (common F p r k ≡ X) ↔ Disagree F p r k
  common_unknown p r lp lr k l = binary_unknown F p r k (λ a q ca cq. c1 a q k (rw lp at ca.below) (rw lr at cq.below) l)

  -- so it is at a fixed point
  pub fixed_unknown : (p r : List ℕ) → length p ≡ L → H F h p r ≡ r → (k : ℕ) → k < h → (at r k ≡ X) ↔ Disagree F p r k
  fixed_unknown p r lp e k l =
      let i : common F p r k ≡ at r k = sym (at_H F h p r k l) ∙ ap (λ v. at v k) e in
      subst (λ s. (s ≡ X) ↔ Disagree F p r k) i (common_unknown p r lp (sym (ap length e) ∙ length-H F h p r) k l)

  -- where every signal is known there is one completion, and k has its excitation there
  pub common-bits : (A q : ℕ) → A < 2 ^ L → q < 2 ^ h → (k : ℕ) → k < h → common F (table L (bit A)) (table h (bit q)) k ≡ F A q k
  common-bits A q la lq k l = (common-gives F (table L (bit A)) (table h (bit q)) k (F A q k) ((binary_iff (F A q k)).1 (c1 A q k la lq l))).1
      (λ a r ca cr. ap₂ (λ x y. F x y k) (only_bits L A a la ca) (only_bits h q r lq cr))

  -- a state is stable exactly if H leaves it
  pub stable-same : (A q : ℕ) → A < 2 ^ L → q < 2 ^ h
      → same (H F h (table L (bit A)) (table h (bit q))) (table h (bit q)) ≡ all_below h (is_stable F A q)
  unfolding is_stable
  stable-same A q la lq = same_all h _ _ (length-H F h _ _) (length-table h (bit q))
      ∙ all_ext h _ _ (λ k l. ap₂ eqb (at_H F h _ _ k l ∙ common-bits A q la lq k l) (at_table h (bit q) k l))

-- ---- the common value of one function

-- f as a network: its key state is the number, and its one key node is 0
abbrev alone : (ℕ → ℕ) → ℕ → ℕ → ℕ → ℕ
alone f a w k = f w

common-alone : (f : ℕ → ℕ) (r : List ℕ) → common (alone f) [] r 0 ≡ common_of f r
unfolding common common_of every
common-alone f r = refl

-- only the values at completions matter
pub common_of_ext : (f g : ℕ → ℕ) (r : List ℕ) → ((w : ℕ) → Completes r w → f w ≡ g w) → common_of f r ≡ common_of g r
common_of_ext f g r e = sym (common-alone f r)
    ∙ common-same (alone f) [] r 0 (alone g) [] r 0 (λ a w ca cw. (a, w, ca, cw, sym (e w cw))) (λ a w ca cw. (a, w, ca, cw, e w cw))
    ∙ common-alone g r

-- where the completions of p and r give what f gives at the completions of s, F has f's common value
pub common_of-same : (F : ℕ → ℕ → ℕ → ℕ) (p r : List ℕ) (k : ℕ) (f : ℕ → ℕ) (s : List ℕ)
    → ((a q : ℕ) → Completes p a → Completes r q → (w : ℕ) × Completes s w × (f w ≡ F a q k))
    → ((w : ℕ) → Completes s w → Gives F p r k (f w))
    → common F p r k ≡ common_of f s
common_of-same F p r k f s there back = common-same F p r k (alone f) [] s 0
    (λ a q ca cq. let w = there a q ca cq in (0, w.0, nil, w.1, w.2)) (λ _ w _ cw. back w cw)
    ∙ common-alone f s

-- where f is 0 or 1, its common value is X exactly if it differs at two completions
pub common_of_unknown : (f : ℕ → ℕ) (r : List ℕ) → ((w : ℕ) → w < 2 ^ length r → (f w ≡ 0) ⊎ (f w ≡ 1)) → (common_of f r ≡ X) ↔ DisagreeAt f r
common_of_unknown f r binary =
    Iff.trans (subst (λ s. (s ≡ X) ↔ Disagree (alone f) [] r 0) (common-alone f r) (binary_unknown (alone f) [] r 0 (λ _ w _ c. binary w c.below))) (
      λ d. record { w₁ = d.q₁; w₂ = d.q₂; covered₁ = d.key₁; covered₂ = d.key₂; differ = d.differ },
      λ d. record { a₁ = 0; q₁ = d.w₁; a₂ = 0; q₂ = d.w₂; input₁ = nil; key₁ = d.covered₁; input₂ = nil; key₂ = d.covered₂; differ = d.differ },
    )
