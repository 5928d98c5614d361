-- Texts as bytes, for the examples: every character of theirs is one byte.
use Prim.Native.Char.{code}
use Prim.Native.String.{String, [] as end, ◌∷◌ as ◌then◌}
use Rattle.std.specs.Prelude.{List, [], ◌∷◌, ◌++◌}
use Rattle.ternary.specs.Lists.{Bytes}

abbrev pub bytes : String → Bytes
bytes end = []
bytes (c then s) = code c ∷ bytes s

-- lines one after the other
abbrev pub text : List String → Bytes
text [] = []
text (s ∷ ss) = bytes s ++ text ss
