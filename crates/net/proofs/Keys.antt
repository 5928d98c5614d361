-- Key indices and key vertices are inverse to one another.
use mathlib.Core.Path.{◌≡◌}
use mathlib.Core.Bool.{true}
use Prim.Native.Nat.{ℕ, suc, ◌<◌}
use Rattle.net.specs.declared.Net.{Net}
use Rattle.net.specs.Graph.{is_storage, is_key, key_index, keys, key_count, key_vertex}
use Rattle.ternary.proofs.Tests.{ands}
use Rattle.ternary.proofs.ListLaws.{At, place_at_lem, at_place, length_list}
use Rattle.net.proofs.Classes.{storage_range}

module _ (N : Net) where
  pub key_storage : (v : ℕ) → is_key N v ≡ true → is_storage N v ≡ true
  unfolding is_key
  key_storage v e = search ands

  -- the key node of index k, for k below h
  pub record KeyAt (k v : ℕ) : Type 0 where
    pub below : k < key_count N
    pub key : is_key N v ≡ true
    pub index : key_index N v ≡ k
    pub vertex : key_vertex N k ≡ v

  from_at : (k v : ℕ) → At (is_key N) (suc N.vertex_count) k v → KeyAt k v
  unfolding key_count key_index key_vertex keys
  from_at k v r = record { below = r.inside; key = r.passes; index = r.place; vertex = r.reads }

  pub key_at : (k : ℕ) → k < key_count N → KeyAt k (key_vertex N k)
  unfolding key_count key_vertex keys
  key_at k h =
      let r = place_at_lem (is_key N) (suc N.vertex_count) k (rw length_list at h) in
      rw r.1.reads (from_at k r.0 r.1)

  pub index_at : (v : ℕ) → is_key N v ≡ true → KeyAt (key_index N v) v
  unfolding key_index
  index_at v e = from_at _ v (at_place (is_key N) (suc N.vertex_count) v (storage_range N v (key_storage v e)) e)
