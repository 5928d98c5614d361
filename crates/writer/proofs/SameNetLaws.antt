-- Being the same net is an equivalence, and edges are redrawn exactly if, each with its lower end first, they are rearranged.
use Prim.Native.Nat.{ℕ, zero, suc, ◌<◌}
use native.Mathlib.Nat.{not-suc-le-zero, le_of_suc-le-suc}
use native.Mathlib.Omega.{arith}
use mathlib.Core.Path.{◌≡◌, refl, sym, ap, ◌∙◌}
use mathlib.Core.Logic.{◌⊎◌, inl, inr, ◌↔◌}
use mathlib.Core.Bool.{Bool, true, false}
use mathlib.Core.List.{List, [], ◌∷◌, map, Permᴰ}
use lib.Dec.{leb}
use lib.ListN.{length, get_or}
use borrow.Author.Tests.{leb-true, leb-false}
use Rattle.net.specs.declared.Edge.{Edge}
use Rattle.net.specs.declared.Net.{Net}
use Rattle.net.proofs.Counting.{count_of}
use Rattle.ternary.proofs.Tests.{cond_by, test}
use Rattle.writer.specs.SameNet.{turned, SameEdge, Redrawn, SameNet}
use Rattle.writer.specs.SameNet.Redrawn.{nothing, also, exchanged, onward}
use Rattle.writer.specs.Agreed.{low_first}

-- ---- an edge

pub edge-back : {e f : Edge} → SameEdge e f → SameEdge f e
edge-back (inl q) = inl (sym q)
edge-back (inr q) = inr (ap turned (sym q))

pub edge_onward : {e f g : Edge} → SameEdge e f → SameEdge f g → SameEdge e g
edge_onward (inl p) (inl q) = inl (p ∙ q)
edge_onward (inl p) (inr q) = inr (p ∙ q)
edge_onward (inr p) (inl q) = inr (p ∙ ap turned q)
edge_onward (inr p) (inr q) = inl (p ∙ ap turned q)

pub low_same : (e : Edge) → SameEdge e (low_first e)
unfolding low_first
low_same e = cond_by (SameEdge e) (leb e.end1 e.end2) (λ _. inl refl) (λ _. inr refl)

turned_same : (e : Edge) → e.end1 ≡ e.end2 → e ≡ turned e
turned_same e q = λ i. record { end1 = q i; end2 = sym q i; form = e.form; symbol = e.symbol }

-- an edge and the same edge turned are one with the lower end first
low-turned : (e : Edge) → low_first (turned e) ≡ low_first e
unfolding low_first
low-turned e = go (test (leb e.end1 e.end2)) (test (leb e.end2 e.end1))
  where
    go : (leb e.end1 e.end2 ≡ true) ⊎ (leb e.end1 e.end2 ≡ false) → (leb e.end2 e.end1 ≡ true) ⊎ (leb e.end2 e.end1 ≡ false)
        → low_first (turned e) ≡ low_first e
    go (inl a) (inl b) = rw (a, b) (sym (turned_same e (omega (arith, leb-true e.end1 e.end2 a, leb-true e.end2 e.end1 b))))
    go (inl a) (inr b) = rw (a, b)
    go (inr a) (inl b) = rw (a, b)
    go (inr a) (inr b) = absurd (omega (arith, leb-false e.end1 e.end2 a, leb-false e.end2 e.end1 b))

pub low_one : {e f : Edge} → SameEdge e f → low_first e ≡ low_first f
low_one (inl q) = ap low_first q
low_one {e} {f} (inr q) = ap low_first q ∙ low-turned f

-- ---- lists of edges

pub redrawn_refl : (l : List Edge) → Redrawn l l
redrawn_refl [] = nothing
redrawn_refl (e ∷ l) = also (inl refl) (redrawn_refl l)

pub redrawn_back : {l m : List Edge} → Redrawn l m → Redrawn m l
redrawn_back nothing = nothing
redrawn_back (also s r) = also (edge-back s) (redrawn_back r)
redrawn_back exchanged = exchanged
redrawn_back (onward r s) = onward (redrawn_back s) (redrawn_back r)

pub each_low : (l : List Edge) → Redrawn l (map low_first l)
each_low [] = nothing
each_low (e ∷ l) = also (low_same e) (each_low l)

pub permuted_redrawn : {l m : List Edge} → Permᴰ l m → Redrawn l m
permuted_redrawn Permᴰ.nil = nothing
permuted_redrawn (Permᴰ.cons e p) = also (inl e) (permuted_redrawn p)
permuted_redrawn (Permᴰ.swap {l = l} e d) = onward exchanged (also (inl d) (also (inl e) (redrawn_refl l)))
permuted_redrawn (Permᴰ.trans p q) = onward (permuted_redrawn p) (permuted_redrawn q)

pub redrawn_permuted : {l m : List Edge} → Redrawn l m → Permᴰ (map low_first l) (map low_first m)
redrawn_permuted nothing = Permᴰ.nil
redrawn_permuted (also s r) = Permᴰ.cons (low_one s) (redrawn_permuted r)
redrawn_permuted exchanged = Permᴰ.swap refl refl
redrawn_permuted (onward r s) = Permᴰ.trans (redrawn_permuted r) (redrawn_permuted s)

pub redrawn_iff : (l m : List Edge) → Redrawn l m ↔ Permᴰ (map low_first l) (map low_first m)
redrawn_iff l m = (redrawn_permuted, λ p. onward (each_low l) (onward (permuted_redrawn p) (redrawn_back (each_low m))))

-- each edge of l stands somewhere in m
pub redrawn_at : (z : Edge) {l m : List Edge} → Redrawn l m → (i : ℕ) → i < length l → (j : ℕ) × (j < length m) × SameEdge (get_or l i z) (get_or m j z)
redrawn_at z nothing i h = absurd (not-suc-le-zero h)
redrawn_at z (also s r) zero h = (0, omega arith, s)
redrawn_at z (also s r) (suc i) h = let t = redrawn_at z r i (le_of_suc-le-suc h) in (suc t.0, omega (arith, t.1), t.2)
redrawn_at z exchanged zero h = (1, omega arith, inl refl)
redrawn_at z exchanged (suc zero) h = (0, omega arith, inl refl)
redrawn_at z exchanged (suc (suc i)) h = (suc (suc i), h, inl refl)
redrawn_at z (onward r s) i h =
    let t = redrawn_at z r i h in
    let u = redrawn_at z s t.0 t.1 in
    (u.0, u.1, edge_onward t.2 u.2)

-- a test that does not ask for the order of ends counts the same edges in both
pub redrawn_count : (p : Edge → Bool) → ((e f : Edge) → SameEdge e f → p e ≡ p f) → {l m : List Edge} → Redrawn l m → count_of p l ≡ count_of p m
unfolding count_of
redrawn_count p k nothing = refl
redrawn_count p k (also {e = e} {f = f} s r) = rw (k e f s, redrawn_count p k r)
redrawn_count p k exchanged = omega arith
redrawn_count p k (onward r s) = redrawn_count p k r ∙ redrawn_count p k s

-- ---- nets

pub net-back : {M N : Net} → SameNet M N → SameNet N M
net-back s =
    record {
      vertices = sym s.vertices;
      vertex_count = sym s.vertex_count;
      edge_count = sym s.edge_count;
      letter_count = sym s.letter_count;
      edges = redrawn_back s.edges;
    }

pub net_onward : {L M N : Net} → SameNet L M → SameNet M N → SameNet L N
net_onward r s =
    record {
      vertices = r.vertices ∙ s.vertices;
      vertex_count = r.vertex_count ∙ s.vertex_count;
      edge_count = r.edge_count ∙ s.edge_count;
      letter_count = r.letter_count ∙ s.letter_count;
      edges = onward r.edges s.edges;
    }
