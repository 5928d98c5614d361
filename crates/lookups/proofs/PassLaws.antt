-- The passes by look-ups are the passes of a net, in vectors with room for the most letters and key nodes.
use Prim.Native.Nat.{ℕ}
use mathlib.Core.Path.{◌≡◌, ap, ap₂, ◌∙◌}
use mathlib.Core.List.{List}
use lib.ListN.{length}
use Rattle.ternary.specs.Bits.{bit}
use Rattle.ternary.specs.Lists.{table, same}
use Rattle.ternary.specs.Excitation.{H}
use Rattle.ternary.specs.Passes as passes
use Rattle.ternary.proofs.ListLaws.{length-table}
use Rattle.ternary.proofs.ExcitationLaws.{length-H, stable-same}
use Rattle.ternary.proofs.PassSteps.{settle_by-image}
use Rattle.ternary.proofs.Passes.{length-mix, first_vector_length}
use Rattle.net.specs.declared.Net.{Net}
use Rattle.net.specs.Limits.{most_letters, most_key_nodes}
use Rattle.net.specs.Graph.{key_count}
use Rattle.net.specs.Network.{network, Clean, stable}
use Rattle.net.specs.WellFormed.{C1}
use Rattle.net.specs.Ternary.{settled}
use Rattle.excitations.specs.Fit.{Fit}
use Rattle.lookups.specs.TernaryTables.{ternary_tables}
use Rattle.lookups.specs.Additions.{additions}
use Rattle.lookups.specs.LookUps.{looked_up}
use Rattle.lookups.specs.Passing.{padded, bits, pass_by, passes_by, passes_of}
use Rattle.lookups.proofs.Padding.{bits-padded, mix-padded, padded-same}
use Rattle.lookups.proofs.LookUpLaws.{look_up}

module _ (N : Net) (fit : Fit N) (c1 : C1 N) where
  abbrev L : ℕ
  L = N.letter_count

  abbrev h : ℕ
  h = key_count N

  abbrev next : List ℕ → List ℕ → List ℕ
  next p v = looked_up (ternary_tables N) (additions N) h p v

  -- a pass from a vector under signals of the letters
  pub pass_net : (p v : List ℕ) → length p ≡ L → length v ≡ h → (let s = passes.settle_by (H (network N) h p) h v in
      pass_by (ternary_tables N) (additions N) h (padded most_letters p) (padded most_key_nodes v) ≡ record { vector = padded most_key_nodes s.vector; steps = s.steps })
  unfolding pass_by
  pass_net p v lp lv = settle_by-image (H (network N) h p) (next (padded most_letters p)) (padded most_key_nodes) h (length-H (network N) h p)
      (λ r l. look_up N fit c1 p r lp l) (padded-same most_key_nodes h fit.keys) h v lv

  -- the test of the start
  pub stable-net : (A q : ℕ) → Clean N A q → same (next (bits most_letters A) (bits most_key_nodes q)) (bits most_key_nodes q) ≡ stable N A q
  unfolding stable
  stable-net A q clean =
      let p = table L (bit A) in
      let v = table h (bit q) in
      ap₂ (λ (x y : List ℕ). same (next x y) y) (bits-padded most_letters L A clean.input) (bits-padded most_key_nodes h q clean.key)
      ∙ ap (λ (x : List ℕ). same x (padded most_key_nodes v)) (look_up N fit c1 p v (length-table L (bit A)) (length-table h (bit q)))
      ∙ padded-same most_key_nodes h fit.keys (H (network N) h p v) v (length-H (network N) h p v) (length-table h (bit q))
      ∙ stable-same L h (network N) c1 A q clean.input clean.key

  module _ (A B q : ℕ) (old : Clean N A q) (new : Clean N B q) where
    first-net : pass_by (ternary_tables N) (additions N) h (passes.mix most_letters A B) (bits most_key_nodes q)
        ≡ record { vector = padded most_key_nodes (settled N A B q).r; steps = (settled N A B q).first_steps }
    unfolding passes.settled passes.first_pass
    first-net =
        ap₂ (pass_by (ternary_tables N) (additions N) h) (mix-padded most_letters L A B old.input new.input) (bits-padded most_key_nodes h q old.key)
        ∙ pass_net (passes.mix L A B) (table h (bit q)) (length-mix L A B) (length-table h (bit q))

    second-net : pass_by (ternary_tables N) (additions N) h (bits most_letters B) (padded most_key_nodes (settled N A B q).r)
        ≡ record { vector = padded most_key_nodes (settled N A B q).t; steps = (settled N A B q).second_steps }
    unfolding passes.settled passes.second_pass
    second-net =
        ap (λ (p : List ℕ). pass_by (ternary_tables N) (additions N) h p (padded most_key_nodes (settled N A B q).r)) (bits-padded most_letters L B new.input)
        ∙ pass_net (table L (bit B)) (settled N A B q).r (length-table L (bit B)) (first_vector_length L h (network N) A B q)

    pub passes-net : passes_by (ternary_tables N) (additions N) h A B q ≡ passes_of N A B q
    unfolding passes_by passes_of
    passes-net = rw (stable-net A q old, first-net, second-net)
