-- A loop over the vertices for row 23: the test of one vertex by its flag and its count, and what the loop answers.
use Prim.Native.Nat.{ℕ, suc, ◌≤◌}
use mathlib.Core.Path.{◌≡◌, sym, ◌∙◌}
use mathlib.Core.Bool.{true, false}
use mathlib.Core.List.{List}
use mathlib.Core.Logic.{◌≢◌, ⊎_elim}
use mathlib.Core.Option.{none, some}
use lib.Dec.{ltb}
use lib.ListN.{get_or}
use borrow.Author.Tests.{eq-eqb, ne_eqb}
use Rattle.ternary.specs.Lists.{least_below}
use Rattle.net.specs.declared.Net.{Net}
use Rattle.net.specs.Limits.{most_vertices, most_signals}
use Rattle.net.specs.Graph.{is_storage}
use Rattle.net.specs.Component.{SameComponent}
use Rattle.net.specs.SignalTable.{signal_count}
use Rattle.net.specs.Tables.{Prepared, lowest_member}
use Rattle.ternary.proofs.ListLaws.{least_none}
use Rattle.net.proofs.TableLaws.{storage_test}
use Rattle.net.proofs.SignalLists.{signals_component}
use Rattle.net.proofs.Members.{lowest_member_lem}
use Rattle.std.specs.Prelude.{Some, None}
use Rattle.sheet.specs.Graph.{over_signals, signal_place}
use Rattle.sheet.specs.Search.{found_of}

module _ (N : Net) {storage labels : List ℕ} (p : Prepared N storage labels) (y : ℕ) (low : y ≤ most_vertices) where
  pub flag_set : get_or storage y 0 ≡ 1 → is_storage N y ≡ true
  flag_set e = sym (storage_test N storage p.flags y low) ∙ eq-eqb (get_or storage y 0) 1 e

  pub not_over : get_or storage y 0 ≢ 1 → false ≡ over_signals N y
  unfolding over_signals
  not_over ne = rw (sym (storage_test N storage p.flags y low) ∙ ne_eqb (get_or storage y 0) 1 ne)

  pub over_count : get_or storage y 0 ≡ 1 → ltb most_signals (signal_count N y) ≡ over_signals N y
  unfolding over_signals
  over_count e = rw (flag_set e)

  same_over : (x : ℕ) → SameComponent N y x → over_signals N y ≡ over_signals N x
  unfolding over_signals signal_count
  same_over x c = rw (c.from, c.to, signals_component N c)

  -- what a lower vertex of the component answered, y answers too
  pub joined_not_over : least_below y (over_signals N) ≡ none → get_or storage y 0 ≡ 1 → lowest_member storage labels y ≢ y → false ≡ over_signals N y
  joined_not_over e f n =
      ⊎_elim (λ q. absurd (n q)) (λ m. sym (same_over _ m.1 ∙ (least_none (over_signals N) y).0 e _ m.0))
      (lowest_member_lem N p y low (flag_set f))

pub signal_found : (N : Net) (y : ℕ) → least_below (suc N.vertex_count) (over_signals N) ≡ some y → Some y ≡ found_of (signal_place N)
unfolding signal_place
signal_found N y e = rw e

pub signal_missing : (N : Net) → least_below (suc N.vertex_count) (over_signals N) ≡ none → None ≡ found_of (signal_place N)
unfolding signal_place
signal_missing N e = rw e
