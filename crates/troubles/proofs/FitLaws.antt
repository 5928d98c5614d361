-- A record that an accepted sheet gives is fit for the code.
use Prim.Native.Nat.{ℕ, ◌≤◌}
use native.Mathlib.Omega.{arith}
use mathlib.Core.Path.{◌≡◌}
use mathlib.Core.Bool.{true, false}
use lib.Dec.{eqb}
use borrow.Author.Tests.{lt-ltb, le-leb, eq-eqb, eqb-true, eqb-false}
use Rattle.ternary.proofs.Tests.{by_test, or_left, or_right, not_both}
use Rattle.net.specs.declared.Net.{Net}
use Rattle.net.specs.Graph.{vertex_at, has_role, is_input, is_storage}
use Rattle.net.specs.Tables.{Readable}
use Rattle.excitations.specs.Fit.{Fit}
use Rattle.sheet.specs.Valid.{valid}
use Rattle.sheet.proofs.Known.{valid_counts, valid-vertex, valid-edge, valid_known, valid-keys, valid-signals}

module _ (N : Net) (ok : valid N ≡ true) where
  -- the role of a vertex in use
  has_role_lem : (v r : ℕ) → 1 ≤ v → v ≤ N.vertex_count → (vertex_at N v).role ≡ r → has_role N v r ≡ true
  unfolding has_role
  has_role_lem v r low high e = rw (lt-ltb 0 v low, le-leb v N.vertex_count high) (eq-eqb (vertex_at N v).role r e)

  -- a vertex in use that is no storage vertex is an input vertex: there are three roles
  other_role : (v : ℕ) → 1 ≤ v → v ≤ N.vertex_count → is_storage N v ≡ false → is_input N v ≡ true
  unfolding is_storage
  other_role v low high s =
      by_test (eqb r 1)
      (λ e. absurd (not_both (is_storage N v) (or_left (has_role N v 1) (has_role N v 2) (has_role_lem v 1 low high (eqb-true r 1 e))) s))
      (λ e. by_test (eqb r 2)
      (λ f. absurd (not_both (is_storage N v) (or_right (has_role N v 1) (has_role N v 2) (has_role_lem v 2 low high (eqb-true r 2 f))) s))
      (λ f. has_role_lem v 0 low high (omega (arith, eqb-false r 1 e, eqb-false r 2 f, (valid-vertex N ok v low high).role))))
    where
      r : ℕ
      r = (vertex_at N v).role

  valid_readable : Readable N
  valid_readable =
      let c = valid_counts N ok in
      record {
        vertices = c.vertices;
        edges = c.edges;
        first_end = λ i h. omega (arith, (valid-edge N ok i h).end1, c.vertices);
        second_end = λ i h. omega (arith, (valid-edge N ok i h).end2, c.vertices);
      }

  pub valid_fit : Fit N
  valid_fit =
      record {
        readable = valid_readable;
        known = valid_known N ok;
        letters = (valid_counts N ok).letters;
        keys = valid-keys N ok;
        signals = valid-signals N ok;
        first_input = λ i h. other_role _ (valid-edge N ok i h).end1_low (valid-edge N ok i h).end1;
        second_input = λ i h. other_role _ (valid-edge N ok i h).end2_low (valid-edge N ok i h).end2;
      }
