-- Records of the same net meet the same conditions, with the same offenders.
use Prim.Native.Nat.{ℕ, suc, ◌^◌, ◌<◌}
use mathlib.Core.Path.{◌≡◌, refl, ap, ap₂, ◌∙◌}
use mathlib.Core.Bool.{Bool, true, false, not, ◌&&◌}
use mathlib.Core.List.{List}
use lib.Dec.{eqb, ltb}
use Rattle.net.specs.declared.Net.{Net}
use Rattle.net.specs.Graph.{is_key, is_output, key_count, key_vertex}
use Rattle.net.specs.Excitation.{excitation, uncertain}
use Rattle.net.specs.Network.{network, stable}
use Rattle.net.specs.WellFormed.{every_state, breaks_c1, place_c1, test_c2, breaks_c3, place_c3}
use Rattle.net.proofs.Classes.{output_storage}
use Rattle.net.proofs.Keys.{key_at, key_storage}
use Rattle.ternary.specs.Bits.{bit}
use Rattle.ternary.specs.Lists.{table, all_below, least_below}
use Rattle.ternary.specs.Signal.{every}
use Rattle.ternary.specs.Excitation.{agreed, common, H}
use Rattle.ternary.specs.Passes as passes
use Rattle.net.specs.Ternary.{settled}
use Rattle.ternary.specs.Run.{is_stable}
use Rattle.ternary.proofs.ListLaws.{all_ext, table_ext}
use Rattle.writer.specs.SameNet.{SameNet}
use Rattle.writer.proofs.SameGraph.{same_among, same_role, same_key, same-key_count, same-key_vertex, same-excitation, same-fights}

-- a test that is made only where b holds
guarded : (b x y : Bool) → (b ≡ true → x ≡ y) → (b && x) ≡ (b && y)
guarded true x y f = f refl
guarded false x y f = refl

module _ {M N : Net} (s : SameNet M N) where
  pub same-network : (a q k : ℕ) → k < key_count M → network M a q k ≡ network N a q k
  same-network a q k h = same-excitation s a q (key_vertex M k) (key_storage M _ (key_at M k h).key) ∙ ap (excitation N a q) (same-key_vertex s k)

  pub same-stable : (a q : ℕ) → stable M a q ≡ stable N a q
  unfolding stable is_stable
  same-stable a q = all_ext (key_count M) _ _ (λ k h. ap (λ (v : ℕ). eqb v (bit q k)) (same-network a q k h)) ∙ ap (λ (n : ℕ). all_below n (is_stable (network N) a q)) (same-key_count s)

  same-states : (p p' : ℕ → ℕ → Bool) → ((a q : ℕ) → p a q ≡ p' a q) → every_state M p ≡ every_state N p'
  unfolding every_state
  same-states p p' e =
      ap₂ all_below (ap (λ (n : ℕ). 2 ^ n) s.letter_count) (λ i a. ap₂ all_below (ap (λ (n : ℕ). 2 ^ n) (same-key_count s)) (λ j q. e a q j) i)

  same-breaks_c1 : (v : ℕ) → breaks_c1 M v ≡ breaks_c1 N v
  unfolding breaks_c1
  same-breaks_c1 v =
      guarded (is_key M v) _ _ (λ k. ap not (same-states _ _ (λ a q. ap (λ (x : ℕ). ltb x 2) (same-excitation s a q v (key_storage M v k)))))
      ∙ ap (λ (b : Bool). b && not (every_state N (λ a q. ltb (excitation N a q v) 2))) (same_key s v)

  pub same-place_c1 : place_c1 M ≡ place_c1 N
  unfolding place_c1
  same-place_c1 = ap₂ least_below (ap suc s.vertex_count) (λ i v. same-breaks_c1 v i)

  pub same-test_c2 : test_c2 M ≡ test_c2 N
  unfolding test_c2
  same-test_c2 = same-states _ _ (λ a q. ap₂ (λ (b c : Bool). not (b && c)) (same-stable a q) (same-fights s a q))

  same-breaks_c3 : (y : ℕ) → breaks_c3 M y ≡ breaks_c3 N y
  unfolding breaks_c3
  same-breaks_c3 y =
      guarded (is_output M y) _ _
      (λ o. ap not (same-states _ _ (λ a q. ap₂ (λ (b : Bool) (x : ℕ). not (b && uncertain x)) (same-stable a q) (same-excitation s a q y (output_storage M y o)))))
      ∙ ap (λ (b : Bool). b && not (every_state N (λ a q. not (stable N a q && uncertain (excitation N a q y))))) (same_role (same_among s) y 2)

  pub same-place_c3 : place_c3 M ≡ place_c3 N
  unfolding place_c3
  same-place_c3 = ap₂ least_below (ap suc s.vertex_count) (λ i y. same-breaks_c3 y i)

  -- ---- settling

  same-common : (p r : List ℕ) (k : ℕ) → k < key_count M → common (network M) p r k ≡ common (network N) p r k
  unfolding common
  same-common p r k h =
      let all : (v : ℕ) → every p (λ a. every r (λ q. eqb (network M a q k) v)) ≡ every p (λ a. every r (λ q. eqb (network N a q k) v)) =
      λ v. ap (every p) (λ i a. every r (λ q. eqb (same-network a q k h i) v)) in
      ap₂ agreed (all 0) (all 1)

  same_next : (p r : List ℕ) → H (network M) (key_count M) p r ≡ H (network N) (key_count N) p r
  unfolding H
  same_next p r = table_ext (key_count M) _ _ (same-common p r) ∙ ap (λ (n : ℕ). table n (common (network N) p r)) (same-key_count s)

  -- both passes give the same vectors in the same steps
  pub same-settled : (A B q : ℕ) → settled M A B q ≡ settled N A B q
  unfolding passes.settled passes.first_pass passes.second_pass
  same-settled A B q =
      let by : ℕ → ℕ → (List ℕ → List ℕ → List ℕ) → passes.Settled =
      λ L h next.
      let one = passes.settle_by (next (passes.mix L A B)) h (table h (bit q)) in
      let two = passes.settle_by (next (table L (bit B))) h one.vector in
      record { r = one.vector; t = two.vector; first_steps = one.steps; second_steps = two.steps } in
      λ i. by (s.letter_count i) (same-key_count s i) (λ p r. same_next p r i)
