-- For the code alone: what opening a file and one read may answer.
use Rattle.std.specs.Prelude.{ℕ, List, [], ◌≤◌, ◌≡◌, ℤ, pos, negsuc, Option, None, Some, Result, Ok, Err}
use Rattle.std.specs.Fd.{file_raw_fd}
use Rattle.std.specs.declared.fs.File.{File}

-- the descriptor of a file, -1 where there is none
abbrev pub descriptor : Option File → ℤ
descriptor (Some file) = file_raw_fd file
descriptor None = negsuc 0

-- a descriptor, or -1
abbrev pub Opened : ℤ → Type 0
Opened (pos n) = Unit {0}
Opened (negsuc n) = n ≡ 0

-- no more bytes than there is room for
abbrev pub Within : {E : Type 0} → ℕ → Result ℕ E → Type 0
Within room (Ok n) = n ≤ room
Within room (Err error) = Unit {0}

-- the bytes that a file has left, where they are known; a file that could not be opened has none
abbrev pub left_of : {F : Type 0} → (F → Option (List ℕ)) → Option F → Option (List ℕ)
left_of remaining (Some file) = remaining file
left_of remaining None = Some []
