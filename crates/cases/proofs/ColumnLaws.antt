-- Columns that were written, one number after the other.
use Rattle.std.proofs.Common.{◌≡◌, ℕ, ◌+◌, ◌<◌, List, [], ◌∷◌, ◌++◌, refl, length, drop, get_or, add-one, drop-cons}
use Rattle.std.specs.Prelude.{Option, Result, Ok, Err, OnOk}
use Rattle.std.specs.Result.{result_and}
use Rattle.std.specs.Io.KnownBytes.{Appends}
use Rattle.std.proofs.KnownBytes.{Appends-nil, Appends-trans}
use Rattle.sheet.specs.Line.{write_number}
use Rattle.cases.specs.Columns.{columns}

columns-cons : (n : ℕ) (rest : List ℕ) → columns (n ∷ rest) ≡ write_number n ++ columns rest
unfolding columns
columns-cons n rest = refl

pub columns_end : (numbers : List ℕ) → numbers ≡ [] → columns numbers ≡ []
unfolding columns
columns_end numbers e = rw e

-- the number at a place, and then those behind it
pub column_more : (a b c : Option (List ℕ)) (numbers text : List ℕ) (i d : ℕ) → i < length numbers → text ≡ write_number (get_or numbers i d)
    → Appends a b text → Appends b c (columns (drop (i + 1) numbers)) → Appends a c (columns (drop i numbers))
column_more a b c numbers text i d h e p q =
    let same : columns (drop i numbers) ≡ write_number (get_or numbers i d) ++ columns (drop (i + 1) numbers) =
    rw (add-one, drop-cons numbers i d h) (columns-cons _ _) in
    rw (same, ← e) (Appends-trans a b c text _ p q)

-- what was written are the numbers but for the rest
abbrev pub Written : (a b : Option (List ℕ)) (rest numbers : List ℕ) → Type 0
Written a b rest numbers = (end : Option (List ℕ)) → Appends b end (columns rest) → Appends a end (columns numbers)

-- a number more, where all went well before and now
pub more_written : {T U E : Type 0} (r : Result T E) (now : Result U E) (a b c : Option (List ℕ)) (numbers text : List ℕ) (i d : ℕ)
    → i < length numbers → text ≡ write_number (get_or numbers i d)
    → OnOk r (Written a b (drop i numbers) numbers) → OnOk now (Appends b c text) → OnOk (result_and r now) (Written a c (drop (i + 1) numbers) numbers)
more_written (Ok x) (Ok y) a b c numbers text i d h e w p = λ end rest. w end (column_more b c end numbers text i d h e p rest)
more_written (Ok x) (Err f) a b c numbers text i d h e w p = tt
more_written (Err f) now a b c numbers text i d h e w p = tt

-- all of them, where all went well
pub all_written : {T E : Type 0} (r : Result T E) (a b : Option (List ℕ)) (rest numbers : List ℕ) → rest ≡ [] → OnOk r (Written a b rest numbers)
    → OnOk r (Appends a b (columns numbers))
all_written (Ok x) a b rest numbers e w = w b (rw (columns_end rest e) (Appends-nil b))
all_written (Err f) a b rest numbers e w = tt
