-- `c1::lowest_in_rows` meets its contract: the first number found is the least. Assumes nothing.
use Prim.Native.Nat.{ℕ, zero, suc, ◌+◌}
use native.Mathlib.Numerals.{add-one}
use native.Mathlib.Omega.{arith}
use borrow.Author.Rules.{rules}
use borrow.Author.Tests.{tests}
use mathlib.Core.Path.{◌≡◌, refl, sym, ap, ◌∙◌}
use mathlib.Core.Bool.{Bool, true, false, cond}
use mathlib.Core.Option.{Option, none, some}
use mathlib.Core.List.{List, [], ◌∷◌, ◌++◌, map-id}
use Rattle.std.specs.Prelude.{Option as Answered, Some, None}
use Rattle.std.specs.Option.{MatchOption, IsSomeAnd, option_or, option_map}
use Rattle.std.specs.List.{find, range_with_len}
use Rattle.std.proofs.lemmas.Iterator.{YieldsList-from_range}
use Rattle.std.proofs.lemmas.Iterator.Search.{find_from_yields_List}
use Rattle.std.proofs.lemmas.List.Folds.{find-append}
use Rattle.std.proofs.lemmas.List.FromFn.{map-range_with_len_more}
use Rattle.ternary.specs.Lists.{least_below}
use Rattle.sheet.specs.Search.{found_of}
use Rattle.troubles.proofs.BreakLaws.{breaking, breaking_place}
use Rattle.c1.proofs.lowest_in_rows.Goals as goal

range_more : (n : ℕ) → range_with_len 0 (suc n) ≡ range_with_len 0 n ++ n ∷ []
range_more n =
    ap (range_with_len 0) (sym (add-one n)) ∙ sym (map-id _)
    ∙ map-range_with_len_more (λ (x : ℕ). x) 0 n n (omega arith)
    ∙ ap (λ (l : List ℕ). l ++ n ∷ []) (map-id _)

-- the first of the numbers below n that passes is the least
find_least : (p : ℕ → Bool) (n : ℕ) → find p (range_with_len 0 n) ≡ found_of (least_below n p)
unfolding least_below
find_least p zero = refl
find_least p (suc n) =
    ap (find p) (range_more n) ∙ find-append p (range_with_len 0 n) (n ∷ [])
    ∙ ap (λ o. option_or o (find p (n ∷ []))) (find_least p n)
    ∙ go (least_below n p) (p n)
  where
    go : (m : Option ℕ) (b : Bool) → option_or (found_of m) (cond b (Some n) None) ≡ found_of (elim m [ none ↦ cond b (some n) none | some k ↦ some k ])
    go none true = refl
    go none false = refl
    go (some k) b = refl

-- a vertex's number as a place is the same number
as_place : (Q : ℕ → ℕ → Type 0) → ((x y : ℕ) → Q x y → y ≡ x) → (o r : Answered ℕ) → MatchOption o (r ≡ None) (λ x. IsSomeAnd r (Q x)) → r ≡ option_map (λ (x : ℕ). x) o
as_place Q q None r h = h
as_place Q q (Some x) (Some y) h = ap Some (q x y h)
as_place Q q (Some x) None h = elim h [ ]

pub returns : goal.returns
returns c =
    let p : ℕ → Bool = breaking c.args.keys.now c.args.excitations.now in
    let end : ℕ = c.args.net.vertex_count + 1 in
    as_place _ (λ x y h. search rules) _ _ c.map.ensures.cases
    ∙ find_from_yields_List p _ _ c.find.result c.find.ensures.ran (YieldsList-from_range 0 end end refl (omega arith)) (λ x b q k. search (rules, tests))
    ∙ find_least p end
    ∙ ap (λ (n : ℕ). found_of (least_below n p)) (add-one c.args.net.vertex_count)
    ∙ ap found_of (breaking_place _ c.requires.0 c.requires.1 c.requires.2)
