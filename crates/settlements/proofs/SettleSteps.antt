-- The settling call, test by test.
use Prim.Native.Nat.{ℕ, ◌≤◌, ◌<◌}
use mathlib.Core.Path.{◌≡◌, sym}
use mathlib.Core.Bool.{true, false, not, ◌||◌}
use mathlib.Core.List.{List, [], ◌∷◌}
use mathlib.Core.Option.{none}
use lib.Dec.{ltb}
use lib.ListN.{length}
use borrow.Author.Tests.{lt-ltb, le-ltb}
use Rattle.net.specs.declared.Net.{Net}
use Rattle.net.specs.Graph.{key_count}
use Rattle.net.specs.Network.{stable}
use Rattle.net.specs.WellFormed.{place_c1}
use Rattle.std.specs.Prelude.{Some, None}
use Rattle.sheet.specs.Rows.{answer, row, when, first_row, by_rows}
use Rattle.sheet.specs.Search.{found_of}
use Rattle.sheet.specs.Valid.{valid}
use Rattle.sheet.proofs.SearchLaws.{found_some}
use Rattle.settlements.specs.Settle.{settling, settlement, written, settle_under, settle_rows, settle_of}
use Rattle.settlements.proofs.NumberLaws.{number_of, state_refused, inputs_told, key_told}
use Rattle.settlements.proofs.SettleLaws.{settle_some}

module _ (N : Net) (A B q : ℕ) (R T : List ℕ) where
  pub bad_record : valid N ≡ false → settlement (settling 41 0 0 0) R T ≡ settle_of N A B q R T
  unfolding settle_of settle_under settle_rows by_rows first_row
  bad_record e = rw e

  module _ (ok : valid N ≡ true) where
    pub breaks_c1 : {p : ℕ} → found_of (place_c1 N) ≡ Some p → settlement (settling 31 p 0 0) R T ≡ settle_of N A B q R T
    unfolding settle_of settle_under settle_rows by_rows first_row
    breaks_c1 e = rw (ok, found_some (place_c1 N) e)

    module _ (c1 : place_c1 N ≡ none) where
      pub bad_state : {n : ℕ} → number_of N A B q ≡ Some n → settlement (settling n 0 0 0) R T ≡ settle_of N A B q R T
      unfolding settle_of settle_rows first_row
      bad_state {n} e = sym (settle_some N A B q (settle_rows N A B q R T) R T (answer n 0) (rw (ok, c1) (state_refused N A B q (row 45 (when (ltb (length R) (key_count N) || ltb (length T) (key_count N))) ∷ row 44 (when (not (stable N A q))) ∷ []) e)))

      module _ (states : number_of N A B q ≡ None) where
        pub short_r : length R < key_count N → settlement (settling 45 0 0 0) R T ≡ settle_of N A B q R T
        unfolding settle_of settle_under settle_rows by_rows first_row
        short_r h = rw (ok, c1, inputs_told N A B q states, key_told N A B q states, lt-ltb (length R) (key_count N) h)

        module _ (room : key_count N ≤ length R) where
          pub short_t : length T < key_count N → settlement (settling 45 0 0 0) R T ≡ settle_of N A B q R T
          unfolding settle_of settle_under settle_rows by_rows first_row
          short_t h =
              rw (
                ok,
                c1,
                inputs_told N A B q states,
                key_told N A B q states,
                le-ltb (length R) (key_count N) room,
                lt-ltb (length T) (key_count N) h,
              )

          module _ (rest : key_count N ≤ length T) where
            pub not_stable : stable N A q ≡ false → settlement (settling 44 0 0 0) R T ≡ settle_of N A B q R T
            unfolding settle_of settle_under settle_rows by_rows first_row
            not_stable e =
                rw (
                  ok,
                  c1,
                  inputs_told N A B q states,
                  key_told N A B q states,
                  le-ltb (length R) (key_count N) room,
                  le-ltb (length T) (key_count N) rest,
                  e,
                )

            pub at_rest : stable N A q ≡ true → written N A B q R T ≡ settle_of N A B q R T
            unfolding settle_of settle_under settle_rows by_rows first_row
            at_rest e =
                rw (
                  ok,
                  c1,
                  inputs_told N A B q states,
                  key_told N A B q states,
                  le-ltb (length R) (key_count N) room,
                  le-ltb (length T) (key_count N) rest,
                  e,
                )
