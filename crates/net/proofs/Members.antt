-- The lowest vertex of a component by its tables: how a loop finds it, and that it is of the component.
use Prim.Native.Nat.{ℕ, ◌<◌, ◌≤◌}
use native.Mathlib.Omega.{arith}
use mathlib.Core.Path.{◌≡◌, refl, sym, ◌∙◌}
use mathlib.Core.Bool.{true}
use mathlib.Core.List.{List}
use mathlib.Core.Logic.{◌⊎◌, inl, inr}
use mathlib.Core.Option.{Option, none, some}
use Rattle.ternary.specs.Lists.{least_below}
use Rattle.ternary.proofs.Tests.{ands, both}
use Rattle.ternary.proofs.ListLaws.{least_some, least_hit}
use Rattle.net.specs.declared.Net.{Net}
use Rattle.net.specs.Limits.{most_vertices}
use Rattle.net.specs.Graph.{is_storage}
use Rattle.net.specs.Classes.{same_label}
use Rattle.net.specs.Component.{SameComponent, same_component}
use Rattle.net.specs.Tables.{Prepared, is_member, lowest_member}
use Rattle.net.proofs.Components.{same_component_iff}
use Rattle.net.proofs.SignalFlags.{member_test}

module _ (storage labels : List ℕ) (y : ℕ) where
  -- none so far, and x is one
  pub member-found : (x : ℕ) → least_below x (is_member storage labels y) ≡ none → x < y → is_member storage labels y x ≡ true → x ≡ lowest_member storage labels y
  unfolding lowest_member
  member-found x e h t = rw (lowest_member, least_hit (is_member storage labels y) y x e h t)

  -- none at all
  pub member_none : least_below y (is_member storage labels y) ≡ none → y ≡ lowest_member storage labels y
  unfolding lowest_member
  member_none e = rw (lowest_member, e)

module _ (N : Net) {storage labels : List ℕ} (p : Prepared N storage labels) (y : ℕ) (low : y ≤ most_vertices) (s : is_storage N y ≡ true) where
  component : (x : ℕ) → x ≤ most_vertices → is_member storage labels y x ≡ true → SameComponent N y x
  unfolding same_component same_label
  component x h t =
      let m = sym (member_test N y storage labels p s x h) ∙ t in
      (same_component_iff N y x).0 (both (both s (search ands)) (search ands))

  -- it is y, or a lower vertex of y's component
  pub lowest_member_lem : (lowest_member storage labels y ≡ y) ⊎ ((lowest_member storage labels y < y) × SameComponent N y (lowest_member storage labels y))
  unfolding lowest_member
  lowest_member_lem = from (least_below y (is_member storage labels y)) refl
    where
      from : (o : Option ℕ) → least_below y (is_member storage labels y) ≡ o
          → (lowest_member storage labels y ≡ y) ⊎ ((lowest_member storage labels y < y) × SameComponent N y (lowest_member storage labels y))
      from none e = inl (rw (lowest_member, e))
      from (some x) e =
          let l = (least_some (is_member storage labels y) y x).0 e in
          let q : lowest_member storage labels y ≡ x = rw (lowest_member, e) in
          inr (rw q (l.below, component x (omega (arith, l.below, low)) l.passes))
