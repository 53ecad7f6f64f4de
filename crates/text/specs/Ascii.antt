-- Texts as bytes. Assumes nothing.
use Rattle.std.specs.Prelude.{ℕ, List, [], ◌∷◌}
use Prim.Native.Char.{code}
use Prim.Native.String.{String, [] as empty, ◌∷◌ as ◌then◌}

-- the bytes of an ASCII text; `code` gives a character's byte
abbrev pub ascii : String → List ℕ
ascii empty = []
ascii (c then rest) = code c ∷ ascii rest
