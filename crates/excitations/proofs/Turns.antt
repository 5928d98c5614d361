-- What a turn of a sweep finds, and what it adds to the marks and to the test of level edges.
use Prim.Native.Nat.{ℕ, ◌+◌, ◌≤◌}
use mathlib.Core.Path.{◌≡◌, sym, ◌∙◌}
use mathlib.Core.Bool.{Bool, true, false, ◌&&◌}
use mathlib.Core.Logic.{◌≢◌}
use mathlib.Core.List.{List}
use native.Mathlib.Numerals.{add-one}
use lib.ListN.{get_or}
use borrow.Author.Tests.{eq-eqb, ne_eqb}
use Rattle.ternary.specs.Lists.{all_below}
use Rattle.ternary.proofs.Tests.{both, by_test}
use Rattle.net.specs.declared.Net.{Net}
use Rattle.net.specs.Limits.{most_vertices}
use Rattle.net.specs.Graph.{edge_at, is_storage}
use Rattle.net.specs.Classes.{inner}
use Rattle.net.specs.Tables.{storage_flags}
use Rattle.net.proofs.TableLaws.{storage_test}
use Rattle.net.proofs.Flags.{and_false_right}
use Rattle.lanes.specs.Lanes.{level}
use Rattle.excitations.specs.Sweeps.{turned, sweep}
use Rattle.excitations.proofs.Sweeps.{carry_at, edge_level}
use Rattle.excitations.proofs.Levels.{level_first, sweep_still}

module _ (N : Net) (i : ℕ) where
  -- ---- the flags of the ends

  module _ {s : List ℕ} (flags : s ≡ storage_flags N) where
    pub inner_by_flags : (edge_at N i).end1 ≤ most_vertices → (edge_at N i).end2 ≤ most_vertices → get_or s (edge_at N i).end1 0 ≡ 1 → get_or s (edge_at N i).end2 0 ≡ 1 → inner N (edge_at N i) ≡ true
    unfolding inner
    inner_by_flags a b e f = both (sym (storage_test N s flags _ a) ∙ eq-eqb _ 1 e) (sym (storage_test N s flags _ b) ∙ eq-eqb _ 1 f)

    pub outer_first : (edge_at N i).end1 ≤ most_vertices → get_or s (edge_at N i).end1 0 ≢ 1 → inner N (edge_at N i) ≡ false
    unfolding inner
    outer_first a n = let e : is_storage N (edge_at N i).end1 ≡ false = sym (storage_test N s flags _ a) ∙ ne_eqb _ 1 n in rw e

    pub outer_second : (edge_at N i).end2 ≤ most_vertices → get_or s (edge_at N i).end2 0 ≢ 1 → inner N (edge_at N i) ≡ false
    unfolding inner
    outer_second b n = let e : is_storage N (edge_at N i).end2 ≡ false = sym (storage_test N s flags _ b) ∙ ne_eqb _ 1 n in rw e (and_false_right (is_storage N (edge_at N i).end1))

  -- ---- a sweep over the marks r

  module _ (on r : List ℕ) (back : Bool) (n : ℕ) (turn : i ≡ turned back N.edge_count n) where
    pub sweep-on : inner N (edge_at N i) ≡ true → carry_at N on i (sweep N on back n r) ≡ sweep N on back (n + 1) r
    unfolding sweep
    sweep-on e = rw (add-one, sweep, ← turn, e)

    pub sweep_off : inner N (edge_at N i) ≡ false → sweep N on back n r ≡ sweep N on back (n + 1) r
    unfolding sweep
    sweep_off e = rw (add-one, sweep, ← turn, e)

    -- ---- level edges: as long as all were level, the marks are still r

    turned-level : level_first N on back r n ≡ true → edge_level N on r (turned back N.edge_count n) ≡ edge_level N on (sweep N on back n r) i
    turned-level t = rw (sweep_still N on back r n t, ← turn)

    still_level : {c : Bool} → c ≡ level_first N on back r n → edge_level N on (sweep N on back n r) i ≡ true → c ≡ level_first N on back r (n + 1)
    unfolding all_below
    still_level q e = by_test (level_first N on back r n)
        (λ t. q ∙ t ∙ sym (rw add-one (both t (turned-level t ∙ e))))
        (λ f. q ∙ f ∙ sym (rw (add-one, all_below, f)))

    pub level_off : {c : Bool} → c ≡ level_first N on back r n → inner N (edge_at N i) ≡ false → c ≡ level_first N on back r (n + 1)
    level_off q e = still_level q (rw e)

    -- an edge between storage vertices
    pub level-on : {c : Bool} → c ≡ level_first N on back r n → inner N (edge_at N i) ≡ true
        → (c && level on i (sweep N on back n r) (edge_at N i).end1 (edge_at N i).end2) ≡ level_first N on back r (n + 1)
    unfolding all_below
    level-on q e =
        rw (q, add-one, all_below)
        (by_test (level_first N on back r n)
        (λ t. let u : edge_level N on r (turned back N.edge_count n) ≡ level on i (sweep N on back n r) (edge_at N i).end1 (edge_at N i).end2 = turned-level t ∙ rw e in rw (t, u))
        (λ f. rw f))
