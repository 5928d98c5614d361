-- `reaches` finds exactly the walks from a storage vertex.
use mathlib.Core.Path.{◌≡◌, refl, ap, subst, ◌∙◌}
use mathlib.Core.Bool.{Bool, true, ◌&&◌}
use mathlib.Core.Logic.{◌⊎◌, inl, inr}
use Prim.Native.Nat.{ℕ, ◌<◌}
use borrow.Author.Tests.{eqb-true, eq-eqb}
use Rattle.net.specs.declared.Edge.{Edge}
use Rattle.net.specs.declared.Net.{Net}
use Rattle.net.specs.Graph.{edge_at, is_storage}
use Rattle.net.specs.Walks.{Joins, Link, Walk, edge, via}
use Rattle.net.specs.Classes.{inner, labels, same_label, exits, leads, reaches}
use Rattle.ternary.proofs.Tests.{ands, and_left, and_right, both, or_true, or_left, or_right}
use Rattle.ternary.proofs.ListLaws.{any_found, any_of}
use Rattle.net.proofs.Classes.{label, Inner, Joined, stay, step, inner-passes, inner_end1, inner_end2, storage_range, linked, sound}

-- a link read from the other end
pub flip : {N : Net} {on : ℕ → Bool} {u v : ℕ} → Link N on u v → Link N on v u
flip {N} {on} {u} {v} l = record { index = l.index; below = l.below; passes = l.passes; joins = swap l.joins }
  where
    swap : Joins (edge_at N l.index) u v → Joins (edge_at N l.index) v u
    swap (inl h) = inr h
    swap (inr h) = inl h

module _ (N : Net) (on : ℕ → Bool) where
  abbrev pub class_label : ℕ → ℕ
  class_label v = label N on N.edge_count v

  abbrev pub Same : ℕ → ℕ → Type 0
  Same u v = class_label u ≡ class_label v

  -- a link between storage vertices joins their classes
  link-same : {u v : ℕ} → Link N on u v → is_storage N u ≡ true → is_storage N v ≡ true → Same u v
  unfolding inner
  link-same {u} {v} l su sv = go l.joins
    where
      ends : inner N (edge_at N l.index) ≡ true → class_label (edge_at N l.index).end1 ≡ class_label (edge_at N l.index).end2
      ends s = linked N on N.edge_count l.index l.below (both l.passes s)

      go : Joins (edge_at N l.index) u v → Same u v
      go (inl h) = cc (ends (rw (h.0, h.1) (both su sv)))
      go (inr h) = cc (ends (rw (h.0, h.1) (both sv su)))

  -- the last edge of a walk leaves a storage vertex of the first one's class
  last : {y x : ℕ} → Walk N on y x → is_storage N y ≡ true → (z : ℕ) × (is_storage N z ≡ true) × Same y z × Link N on z x
  last {y} (edge l) s = (y, s, refl, l)
  last (via l sw p) s = let r = last p sw in (r.0, r.1, link-same l s sw ∙ r.2, r.3)

  -- where an inner edge leads is a storage vertex
  far_end : {u w : ℕ} (i : ℕ) → Inner N on i → Joins (edge_at N i) u w → is_storage N w ≡ true
  far_end i k (inl h) = rw h.1 at (inner_end2 N on i k)
  far_end i k (inr h) = rw h.0 at (inner_end1 N on i k)

  to-link : {u w : ℕ} (i : ℕ) → i < N.edge_count → Inner N on i → Joins (edge_at N i) u w → Link N on u w
  to-link i h k j = record { index = i; below = h; passes = inner-passes N on i k; joins = j }

  walk_of : {u z x : ℕ} → Joined N on N.edge_count u z → Link N on z x → Walk N on u x
  walk_of stay l = edge l
  walk_of (step i h k j p) l = via (to-link i h k j) (far_end i k j) (walk_of p l)

  joined_walk : {y z : ℕ} → Joined N on N.edge_count y z → (y ≡ z) ⊎ Walk N on y z
  joined_walk stay = inl refl
  joined_walk (step {u = u} {w = w} {v = v} i h k j p) = inr (go (joined_walk p))
    where
      go : (w ≡ v) ⊎ Walk N on w v → Walk N on u v
      go (inl e) = edge (subst (Link N on u) e (to-link i h k j))
      go (inr q) = via (to-link i h k j) (far_end i k j) q

  -- storage vertices have one label exactly if they are equal or a walk leads from one to the other
  pub same_walk : (y z : ℕ) → is_storage N y ≡ true → is_storage N z ≡ true → same_label (labels N on N.edge_count) y z ≡ true → (y ≡ z) ⊎ Walk N on y z
  unfolding same_label
  same_walk y z sy sz e = joined_walk (sound N on N.edge_count y z (storage_range N y sy) (storage_range N z sz) (eqb-true (class_label y) (class_label z) e))

  pub walk_same : (y z : ℕ) → is_storage N y ≡ true → is_storage N z ≡ true → (y ≡ z) ⊎ Walk N on y z → same_label (labels N on N.edge_count) y z ≡ true
  unfolding same_label
  walk_same y z sy sz (inl e) = eq-eqb (class_label y) (class_label z) (ap class_label e)
  walk_same y z sy sz (inr p) = let r = last p sy in eq-eqb (class_label y) (class_label z) (r.2 ∙ link-same r.3 r.1 sz)

  -- an edge that leads to `stop` is a link from a storage vertex of the class
  pub record Leading (stop : ℕ → Bool) (y : ℕ) (e : Edge) : Type 0 where
    pub from : ℕ
    pub to : ℕ
    pub storage : is_storage N from ≡ true
    pub same : same_label (labels N on N.edge_count) y from ≡ true
    pub stops : stop to ≡ true
    pub joins : Joins e from to

  exits_leading : (stop : ℕ → Bool) (y : ℕ) (e : Edge) (u v : ℕ) → exits N (labels N on N.edge_count) stop y u v ≡ true → Joins e u v → Leading stop y e
  unfolding exits
  exits_leading stop y e u v h j = record { from = u; to = v; storage = search ands; same = search ands; stops = search ands; joins = j }

  pub leads_leading : (stop : ℕ → Bool) (y : ℕ) (e : Edge) → leads N (labels N on N.edge_count) stop y e ≡ true → Leading stop y e
  unfolding leads
  leads_leading stop y e h = go (or_true (exits N (labels N on N.edge_count) stop y e.end1 e.end2) _ h)
    where
      go : (exits N (labels N on N.edge_count) stop y e.end1 e.end2 ≡ true) ⊎ (exits N (labels N on N.edge_count) stop y e.end2 e.end1 ≡ true) → Leading stop y e
      go (inl k) = exits_leading stop y e _ _ k (inl (refl, refl))
      go (inr k) = exits_leading stop y e _ _ k (inr (refl, refl))

  pub leading_leads : (stop : ℕ → Bool) (y : ℕ) (e : Edge) → Leading stop y e → leads N (labels N on N.edge_count) stop y e ≡ true
  unfolding leads exits
  leading_leads stop y e r = go r.joins (both (both r.storage r.same) r.stops)
    where
      go : Joins e r.from r.to → exits N (labels N on N.edge_count) stop y r.from r.to ≡ true → leads N (labels N on N.edge_count) stop y e ≡ true
      go (inl h) k = rw (h.0, h.1) (or_left (exits N (labels N on N.edge_count) stop y r.from r.to) _ k)
      go (inr h) k = rw (h.0, h.1) (or_right (exits N (labels N on N.edge_count) stop y r.to r.from) _ k)

  module _ (stop : ℕ → Bool) (y : ℕ) (sy : is_storage N y ≡ true) where
    -- some edge passes and leads to `stop`
    abbrev found : ℕ → Bool
    found i = on i && leads N (labels N on N.edge_count) stop y (edge_at N i)

    pub reaches_walk : reaches N on stop y ≡ true → (x : ℕ) × (stop x ≡ true) × Walk N on y x
    unfolding reaches same_label
    reaches_walk e = go (any_found found N.edge_count e)
      where
        go : (i : ℕ) × (i < N.edge_count) × (found i ≡ true) → (x : ℕ) × (stop x ≡ true) × Walk N on y x
        go (i, h, f) =
            let r : Leading stop y (edge_at N i) = leads_leading stop y (edge_at N i) (and_right (on i) _ f) in
            let l : Link N on r.from r.to = record { index = i; below = h; passes = and_left (on i) _ f; joins = r.joins } in
            (r.to, r.stops, walk_of (sound N on N.edge_count y r.from (storage_range N y sy) (storage_range N _ r.storage) (eqb-true (class_label y) (class_label r.from) r.same)) l)

    pub walk_reaches : (x : ℕ) → stop x ≡ true → Walk N on y x → reaches N on stop y ≡ true
    unfolding reaches same_label
    walk_reaches x s p =
        let r = last p sy in
        let l : Link N on r.0 x = r.3 in
        any_of found N.edge_count l.index l.below
        (both l.passes (leading_leads stop y _ (record { from = r.0; to = x; storage = r.1; same = eq-eqb (class_label y) (class_label r.0) r.2; stops = s; joins = l.joins })))
