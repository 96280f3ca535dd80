-- Numbers and texts as data sets hold them: big-endian, each text behind its length.
use Rattle.std.specs.Prelude.{ℕ, List, ◌∷◌, ◌++◌, length}
use Rattle.std.specs.Int.{w16, w32, w64, to_be_bytes}

-- A number in 2, 4 or 8 bytes. These don't unfold by themselves, so that a text stays a join of parts.
unfoldable pub be16 : ℕ → List ℕ
be16 n = to_be_bytes w16 n

unfoldable pub be32 : ℕ → List ℕ
be32 n = to_be_bytes w32 n

unfoldable pub be64 : ℕ → List ℕ
be64 n = to_be_bytes w64 n

-- a byte of length, and so many bytes
abbrev pub short_text : List ℕ → List ℕ
short_text bytes = length bytes ∷ bytes

-- two bytes of length, and so many bytes
abbrev pub long_text : List ℕ → List ℕ
long_text bytes = be16 (length bytes) ++ bytes

-- four bytes of length, and so many bytes
abbrev pub part_text : List ℕ → List ℕ
part_text bytes = be32 (length bytes) ++ bytes
