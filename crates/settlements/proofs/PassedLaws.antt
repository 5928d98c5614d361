-- What the passes by look-ups tell of a net that is ready: is the start stable, and what is then written.
use Prim.Native.Nat.{ℕ, ◌≤◌}
use mathlib.Core.Path.{◌≡◌, sym, subst, ◌∙◌}
use mathlib.Core.Bool.{true, false}
use mathlib.Core.List.{List}
use Rattle.std.specs.Prelude.{None}
use lib.ListN.{length, take}
use lib.Seq.{ext_get_or}
use Rattle.ternary.specs.Lists.{table}
use Rattle.ternary.specs.Signal.{at}
use Rattle.ternary.proofs.ListLaws.{length-table, get_or-table}
use Rattle.ternary.proofs.Tests.{by_test}
use Rattle.ternary.proofs.Passes.{first_vector_length, second_vector_length}
use Rattle.net.specs.declared.Net.{Net}
use Rattle.net.specs.Limits.{most_key_nodes}
use Rattle.net.specs.Graph.{key_count}
use Rattle.net.specs.Network.{network, stable}
use Rattle.net.specs.Ternary.{settled}
use Rattle.net.proofs.ClassTables.{take-table}
use Rattle.lookups.specs.LookUps.{Indexed}
use Rattle.lookups.specs.Passing.{padded, passes_by, passes_of}
use Rattle.lookups.proofs.IndexLaws.{additions_indexed}
use Rattle.lookups.proofs.PassLaws.{passes-net}
use Rattle.sheet.specs.Rows.{answer}
use Rattle.settlements.specs.Settle.{Settlement, unsettled, written}
use Rattle.settlements.specs.Passed.{settled_by}
use Rattle.settlements.specs.Ready.{Ready}
use Rattle.settlements.proofs.NumberLaws.{number_of, old_clean, new_clean}

-- the front of a vector in more places is the vector
padded_front : (n : ℕ) (v : List ℕ) {h : ℕ} → length v ≡ h → h ≤ n → take h (padded n v) ≡ v
padded_front n v {h} e few =
    take-table h n (at v) few
    ∙ ext_get_or 0 (table h (at v)) v (length-table h (at v) ∙ sym e) (λ i below. get_or-table h (at v) i 0 (rw (length-table h (at v)) at below))

module _ {N : Net} {h : ℕ} {tables additions : List ℕ} (ready : Ready N h tables additions) where
  pub few_keys : h ≤ most_key_nodes
  few_keys = rw ready.keys ready.fit.keys

  pub indexed : Indexed additions
  indexed = subst Indexed (sym ready.added) (additions_indexed N ready.fit)

  module _ (A B q : ℕ) (states : number_of N A B q ≡ None) where
    by_net : passes_by tables additions h A B q ≡ passes_of N A B q
    by_net =
        rw (ready.tabled, ready.added, ready.keys)
        (passes-net N ready.fit ready.c1 A B q (old_clean N A B q states) (new_clean N A B q states))

    pub passed_none : stable N A q ≡ false → (R T : List ℕ) → settled_by h (passes_by tables additions h A B q) R T ≡ unsettled (answer 44 0) R T
    unfolding passes_of settled_by
    passed_none e R T = rw (by_net, e)

    pub passed_some : stable N A q ≡ true → (R T : List ℕ) → settled_by h (passes_by tables additions h A B q) R T ≡ written N A B q R T
    unfolding passes_of settled_by written
    passed_some e R T =
        rw (by_net, e, ready.keys)
        (rw (
          padded_front most_key_nodes (settled N A B q).r (first_vector_length N.letter_count (key_count N) (network N) A B q) ready.fit.keys,
          padded_front most_key_nodes (settled N A B q).t (second_vector_length N.letter_count (key_count N) (network N) A B q) ready.fit.keys,
        ))

    -- by whether the start is stable
    pub passed : (R T : List ℕ) {s : Settlement} → (stable N A q ≡ true → written N A B q R T ≡ s) → (stable N A q ≡ false → unsettled (answer 44 0) R T ≡ s)
        → settled_by h (passes_by tables additions h A B q) R T ≡ s
    passed R T rest none = by_test (stable N A q) (λ e. passed_some e R T ∙ rest e) (λ e. passed_none e R T ∙ none e)
