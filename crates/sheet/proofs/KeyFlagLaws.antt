-- A loop over the flags of the key nodes: what it counts, and what it answers for row 22.
use Prim.Native.Nat.{ℕ, suc, ◌+◌, ◌≤◌, ◌<◌}
use native.Mathlib.Omega.{arith}
use mathlib.Core.Path.{◌≡◌, refl, sym, ap, ◌∙◌}
use mathlib.Core.Bool.{Bool, true, false}
use mathlib.Core.List.{List}
use lib.Dec.{eqb}
use lib.ListN.{get_or}
use Rattle.ternary.specs.Lists.{count_below}
use Rattle.ternary.specs.Bits.{digit}
use Rattle.ternary.proofs.BitLaws.{eqb_digit}
use Rattle.ternary.proofs.ListLaws.{get_or-table, count_more, count_ext, length_list, at_place}
use Rattle.net.specs.declared.Net.{Net}
use Rattle.net.specs.Limits.{most_vertices, most_key_nodes}
use Rattle.net.specs.Graph.{is_key, keys, key_count, key_vertex}
use Rattle.net.specs.Tables.{key_flags}
use Rattle.std.specs.Prelude.{Some, None}
use Rattle.sheet.specs.Graph.{key_place}
use Rattle.sheet.specs.Search.{found_of}
use Rattle.sheet.proofs.GraphLaws.{key_none, key_some}

-- the flag at v is set
abbrev pub flagged : List ℕ → ℕ → Bool
flagged flags v = eqb (get_or flags v 0) 1

module _ (N : Net) (flags : List ℕ) (e : flags ≡ key_flags N) where
  flag_at : (v : ℕ) → v < suc most_vertices → get_or flags v 0 ≡ digit (is_key N v)
  unfolding key_flags
  flag_at v h = rw e (get_or-table (suc most_vertices) _ v 0 h)

  -- adding a flag counts it
  pub flag_counted : (v : ℕ) → v < suc most_vertices → count_below v (flagged flags) + get_or flags v 0 ≡ count_below (v + 1) (flagged flags)
  flag_counted v h = sym (count_more (flagged flags) v ∙ ap (λ (x : ℕ). count_below v (flagged flags) + x) (rw (flag_at v h, eqb_digit)))

  keys-counted : (v : ℕ) → v ≤ suc most_vertices → count_below v (flagged flags) ≡ count_below v (is_key N)
  keys-counted v h = count_ext v (flagged flags) (is_key N) (λ k l. rw (flag_at k (omega arith)) (eqb_digit (is_key N k)))

  -- the count passes the limit at v
  pub key_found : (v : ℕ) → v ≤ N.vertex_count → N.vertex_count ≤ most_vertices → count_below v (flagged flags) ≤ most_key_nodes
      → most_key_nodes < count_below (v + 1) (flagged flags) → Some v ≡ found_of (key_place N)
  unfolding key_count key_vertex keys
  key_found v low few before after = rw ((key_some N v).1 (go (is_key N v) refl))
    where
      count : (b : Bool) → is_key N v ≡ b → count_below v (is_key N) + digit b ≡ count_below (v + 1) (flagged flags)
      count b t = rw (← t) (sym (count_more (is_key N) v) ∙ sym (keys-counted (v + 1) (omega arith)))

      go : (b : Bool) → is_key N v ≡ b → (most_key_nodes < key_count N) × (key_vertex N most_key_nodes ≡ v)
      go true t =
          let r = at_place (is_key N) (suc N.vertex_count) v (omega arith) t in
          let n : count_below v (is_key N) ≡ most_key_nodes = omega (arith, count true t, keys-counted v (omega arith)) in
          (rw n at r.inside, rw n at r.reads)
      go false t = absurd (omega (arith, count false t, keys-counted v (omega arith)))

  -- it never does
  pub key_missing : (v : ℕ) → v ≡ suc N.vertex_count → N.vertex_count ≤ most_vertices → count_below v (flagged flags) ≤ most_key_nodes
      → None ≡ found_of (key_place N)
  unfolding key_count keys
  key_missing v end few most =
      let all : key_count N ≤ most_key_nodes = rw length_list (rw (end, keys-counted (suc N.vertex_count) (omega arith)) at most) in
      rw ((key_none N).1 all)
