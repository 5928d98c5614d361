-- The tests of stable states and of conditions C1 to C3 mean what the propositions say.
use Prim.Native.Nat.{ℕ, suc, ◌^◌, ◌<◌}
use mathlib.Core.Path.{◌≡◌}
use mathlib.Core.Bool.{Bool, true, false, not, ◌&&◌}
use mathlib.Core.Logic.Iff
use mathlib.Core.Logic.{◌⊎◌, inl, inr, ⊎_elim, ◌↔◌}
use mathlib.Core.Option.{none, some}
use lib.Dec.{eqb, ltb}
use borrow.Author.Tests.{eqb-true, eq-eqb, ltb-true, lt-ltb, not-true, not-false}
use Rattle.ternary.specs.Lists.{all_below}
use Rattle.ternary.specs.Bits.{bit}
use Rattle.ternary.specs.Run.{is_stable}
use Rattle.net.specs.declared.Net.{Net}
use Rattle.net.specs.Graph.{is_key, is_output, key_count, key_index, key_vertex}
use Rattle.net.specs.Excitation.{excitation, uncertain, fights}
use Rattle.net.specs.Network.{network, Clean, Stable, stable}
use Rattle.net.specs.WellFormed.{C1, C2, C3, BreaksC1, LowestC1, BreaksC3, LowestC3, every_state, breaks_c1, place_c1, test_c2, breaks_c3, place_c3}
use Rattle.ternary.proofs.Tests.{and_left, and_right, both, by_test, fails, not_and, not_both, or_left, or_right, or_true}
use Rattle.ternary.proofs.BitLaws.{binary_iff}
use Rattle.ternary.proofs.ListLaws.{all_at, all_of_lem, all_false, least_none_iff, least_some_iff}
use Rattle.net.proofs.Classes.{role_range, storage_range}
use Rattle.net.proofs.Fights.{fights_iff}
use Rattle.net.proofs.Keys.{key_at, index_at, key_storage}

uncertain_iff : (v : ℕ) → (uncertain v ≡ true) ↔ ((v ≡ 2) ⊎ (v ≡ 5))
unfolding uncertain
uncertain_iff v = (
  λ e. ⊎_elim (λ t. inl (eqb-true v 2 t)) (λ t. inr (eqb-true v 5 t)) (or_true (eqb v 2) (eqb v 5) e),
  λ h. ⊎_elim (λ t. or_left (eqb v 2) (eqb v 5) (eq-eqb v 2 t)) (λ t. or_right (eqb v 2) (eqb v 5) (eq-eqb v 5 t)) h,
)

module _ (N : Net) where
  pub stable_iff : (a q : ℕ) → (stable N a q ≡ true) ↔ Stable N a q
  unfolding stable is_stable
  stable_iff a q = (
    λ e k h. eqb-true (network N a q k) (bit q k) (all_at (is_stable (network N) a q) (key_count N) e k h),
    λ s. all_of_lem (is_stable (network N) a q) (key_count N) (λ k h. eq-eqb (network N a q k) (bit q k) (s k h)),
  )

  -- ---- every clean state, and some

  pub every_state_iff : (p : ℕ → ℕ → Bool) → (every_state N p ≡ true) ↔ ((a q : ℕ) → Clean N a q → p a q ≡ true)
  unfolding every_state
  every_state_iff p = (
    λ e a q c. all_at (p a) (2 ^ key_count N) (all_at (λ a. all_below (2 ^ key_count N) (p a)) (2 ^ N.letter_count) e a c.input) q c.key,
    λ f. all_of_lem (λ a. all_below (2 ^ key_count N) (p a)) (2 ^ N.letter_count) (λ a h. all_of_lem (p a) (2 ^ key_count N) (λ q k. f a q (record { input = h; key = k }))),
  )

  -- some clean state fails the test
  pub record FailsAt (p : ℕ → ℕ → Bool) : Type 0 where
    pub input : ℕ
    pub key : ℕ
    pub clean : Clean N input key
    pub fails : p input key ≡ false

  pub some_state_iff : (p : ℕ → ℕ → Bool) → (not (every_state N p) ≡ true) ↔ FailsAt p
  unfolding every_state
  some_state_iff p = (there, λ f. by_test (every_state N p) (λ e. absurd (not_both _ ((every_state_iff p).0 e f.input f.key f.clean) f.fails)) (λ e. rw e))
    where
      there : not (every_state N p) ≡ true → FailsAt p
      there e =
          let u = all_false (λ a. all_below (2 ^ key_count N) (p a)) (2 ^ N.letter_count) (not-true (every_state N p) e) in
          let v = all_false (p u.0) (2 ^ key_count N) u.2 in
          record { input = u.0; key = v.0; clean = record { input = u.1; key = v.1 }; fails = v.2 }

  -- ---- C1

  pub breaks_c1_iff : (v : ℕ) → (breaks_c1 N v ≡ true) ↔ BreaksC1 N v
  unfolding breaks_c1
  breaks_c1_iff v = (there, back)
    where
      there : (is_key N v && not (every_state N (λ a q. ltb (excitation N a q v) 2))) ≡ true → BreaksC1 N v
      there e =
          let f = (some_state_iff (λ a q. ltb (excitation N a q v) 2)).0 (and_right (is_key N v) _ e) in
          record { key = and_left (is_key N v) _ e; input = f.input; state = f.key; clean = f.clean; excited = λ h. not_both _ (lt-ltb (excitation N f.input f.key v) 2 h) f.fails }

      back : BreaksC1 N v → (is_key N v && not (every_state N (λ a q. ltb (excitation N a q v) 2))) ≡ true
      back b = both b.key ((some_state_iff (λ a q. ltb (excitation N a q v) 2)).1
          (record { input = b.input; key = b.state; clean = b.clean; fails = fails _ (λ t. b.excited (ltb-true (excitation N b.input b.state v) 2 t)) }))

  breaks_c1_range : (v : ℕ) → BreaksC1 N v → v < suc N.vertex_count
  breaks_c1_range v b = storage_range N v (key_storage N v b.key)

  -- v is the lowest vertex that breaks C1
  pub place_c1_some : (v : ℕ) → (place_c1 N ≡ some v) ↔ LowestC1 N v
  unfolding place_c1
  place_c1_some = least_some_iff (breaks_c1 N) (BreaksC1 N) breaks_c1_iff (suc N.vertex_count) breaks_c1_range

  pub place_c1_none : (place_c1 N ≡ none) ↔ C1 N
  unfolding place_c1
  place_c1_none = Iff.trans (least_none_iff (breaks_c1 N) (BreaksC1 N) breaks_c1_iff (suc N.vertex_count) breaks_c1_range) (there, back)
    where
      there : ((v : ℕ) → ¬ BreaksC1 N v) → C1 N
      there f a q k ha hq hk = (binary_iff (network N a q k)).0 (by_test (ltb (network N a q k) 2) (ltb-true (network N a q k) 2)
          (λ t. absurd (f (key_vertex N k)
          (record { key = (key_at N k hk).key; input = a; state = q; clean = record { input = ha; key = hq }; excited = λ h. not_both _ (lt-ltb (network N a q k) 2 h) t }))))

      back : C1 N → (v : ℕ) → ¬ BreaksC1 N v
      back c v b =
          let r = index_at N v b.key in
          let h : network N b.input b.state (key_index N v) < 2 = (binary_iff _).1 (c b.input b.state (key_index N v) b.clean.input b.clean.key r.below) in
          b.excited (rw r.vertex at h)

  -- ---- C2

  pub c2_iff : (test_c2 N ≡ true) ↔ C2 N
  unfolding test_c2
  c2_iff = Iff.trans (every_state_iff (λ a q. not (stable N a q && fights N a q))) (
    λ f a q c s g. (not_and (stable N a q) (fights N a q)).0 (f a q c) ((stable_iff a q).1 s) ((fights_iff N a q).1 g),
    λ f a q c. (not_and (stable N a q) (fights N a q)).1 (λ s g. f a q c ((stable_iff a q).0 s) ((fights_iff N a q).0 g)),
  )

  -- ---- C3

  pub breaks_c3_iff : (y : ℕ) → (breaks_c3 N y ≡ true) ↔ BreaksC3 N y
  unfolding breaks_c3
  breaks_c3_iff y = (there, back)
    where
      there : (is_output N y && not (every_state N (λ a q. not (stable N a q && uncertain (excitation N a q y))))) ≡ true → BreaksC3 N y
      there e =
          let f = (some_state_iff (λ a q. not (stable N a q && uncertain (excitation N a q y)))).0 (and_right (is_output N y) _ e) in
          let t : (stable N f.input f.key && uncertain (excitation N f.input f.key y)) ≡ true = not-false _ f.fails in
          record {
            output = and_left (is_output N y) _ e;
            input = f.input;
            state = f.key;
            clean = f.clean;
            stable = (stable_iff f.input f.key).0 (and_left (stable N f.input f.key) _ t);
            excited = (uncertain_iff (excitation N f.input f.key y)).0 (and_right (stable N f.input f.key) _ t);
          }

      back : BreaksC3 N y → (is_output N y && not (every_state N (λ a q. not (stable N a q && uncertain (excitation N a q y))))) ≡ true
      back b =
          let t = both ((stable_iff b.input b.state).1 b.stable) ((uncertain_iff (excitation N b.input b.state y)).1 b.excited) in
          both b.output ((some_state_iff (λ a q. not (stable N a q && uncertain (excitation N a q y)))).1
          (record { input = b.input; key = b.state; clean = b.clean; fails = rw t }))

  -- y is the lowest output that breaks C3
  pub place_c3_some : (y : ℕ) → (place_c3 N ≡ some y) ↔ LowestC3 N y
  unfolding place_c3
  place_c3_some = least_some_iff (breaks_c3 N) (BreaksC3 N) breaks_c3_iff (suc N.vertex_count) (λ y b. role_range N y 2 b.output)

  pub place_c3_none : (place_c3 N ≡ none) ↔ C3 N
  unfolding place_c3
  place_c3_none = Iff.trans (least_none_iff (breaks_c3 N) (BreaksC3 N) breaks_c3_iff (suc N.vertex_count) (λ y b. role_range N y 2 b.output)) (
    λ f a q c s y o. (λ e. breaks f a q c s y o (inl e), λ e. breaks f a q c s y o (inr e)),
    λ f y b. let n = f b.input b.state b.clean b.stable y b.output in ⊎_elim n.0 n.1 b.excited,
  )
    where
      breaks : ((y : ℕ) → ¬ BreaksC3 N y) → (a q : ℕ) → Clean N a q → Stable N a q → (y : ℕ) → is_output N y ≡ true → (excitation N a q y ≡ 2) ⊎ (excitation N a q y ≡ 5) → ⊥
      breaks f a q c s y o e = f y (record { output = o; input = a; state = q; clean = c; stable = s; excited = e })
