-- The lowest key vertex that breaks C1, as the code searches for it in its tables.
use Prim.Native.Nat.{ℕ, suc}
use mathlib.Core.Path.{◌≡◌, sym, ◌∙◌}
use mathlib.Core.Bool.{Bool, ◌&&◌}
use mathlib.Core.List.{List}
use lib.Dec.{eqb, leb}
use lib.ListN.{get_or}
use Rattle.ternary.specs.Lists.{any_below, least_below}
use Rattle.ternary.proofs.ListLaws.{least_ext}
use Rattle.net.specs.declared.Net.{Net}
use Rattle.net.specs.Graph.{is_key}
use Rattle.net.specs.Tables.{key_flags}
use Rattle.net.specs.WellFormed.{place_c1}
use Rattle.net.proofs.Keys.{key_storage}
use Rattle.net.proofs.TableLaws.{storage_row, flag_test}
use Rattle.lanes.specs.Lanes.{assignments, lane}
use Rattle.excitations.specs.Fit.{Fit}
use Rattle.excitations.specs.Excitations.{excitation_lanes}
use Rattle.troubles.proofs.FirstLaws.{place_c1_lem}

-- by a table of flags and one of excitations: v is a key node that is somewhere excited to 2, 3 or 5
abbrev pub breaking : List ℕ → List ℕ → ℕ → Bool
breaking keys ex v = eqb (get_or keys v 0) 1 && any_below assignments (λ w. leb 2 (lane ex v w))

module _ (N : Net) (fit : Fit N) where
  key_test : (v : ℕ) → eqb (get_or (key_flags N) v 0) 1 ≡ is_key N v
  unfolding key_flags
  key_test = flag_test (is_key N) (λ v k. storage_row N fit.readable v (key_storage N v k))

  module _ {keys ex : List ℕ} (ek : keys ≡ key_flags N) (ee : ex ≡ excitation_lanes N) where
    pub breaking_place : least_below (suc N.vertex_count) (breaking keys ex) ≡ place_c1 N
    breaking_place = least_ext _ _ _ (λ v _. rw (ek, ee, key_test v)) ∙ sym (place_c1_lem N fit)
