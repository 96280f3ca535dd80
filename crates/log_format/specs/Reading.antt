-- Reading bytes from left to right: numbers, texts behind their length, lists behind their count.
use Rattle.std.specs.Prelude.{ℕ, zero, suc, List, [], ◌∷◌, length, take, drop, Option, Some, None, Result, nat_lt, if◌then◌else◌}
use Rattle.std.specs.Int.{Width, w16, w32, byte_len, from_be_bytes}
use Rattle.log_format.specs.declared.fault.ReadError.{ReadError}
use Rattle.log_format.specs.declared.fault.ReadError.TheVariants.{Memory}
use Rattle.fp_model.specs.Values.{◌>>=◌}
use Rattle.fp_model.specs.Readings.{FindsBut}

-- What a function returned, seen by a view, is what reading gives, unless memory ran out.
abbrev pub Gives : {X Y : Type 0} → (X → Y) → Result X ReadError → Option Y → Type 0
Gives view result read = FindsBut Memory view result read

-- a byte, and the bytes behind it
abbrev pub byte_at : List ℕ → Option (ℕ × List ℕ)
byte_at [] = None
byte_at (b ∷ bytes) = Some (b, bytes)

-- a number of this width, the highest byte first
unfoldable pub number_at : Width → List ℕ → Option (ℕ × List ℕ)
number_at w bytes =
    if nat_lt (length bytes) (byte_len w)
    then None
    else Some (from_be_bytes w (take (byte_len w) bytes), drop (byte_len w) bytes)

-- so many bytes
abbrev pub part_at : ℕ → List ℕ → Option (List ℕ × List ℕ)
part_at n bytes = if nat_lt (length bytes) n then None else Some (take n bytes, drop n bytes)

-- a text behind its length in a byte
unfoldable pub short_at : List ℕ → Option (List ℕ × List ℕ)
short_at bytes = do
  n ← byte_at bytes
  part_at n.0 n.1

-- a text behind its length in two bytes
unfoldable pub long_at : List ℕ → Option (List ℕ × List ℕ)
long_at bytes = do
  n ← number_at w16 bytes
  part_at n.0 n.1

-- a text behind its length in four bytes
unfoldable pub part_text_at : List ℕ → Option (List ℕ × List ℕ)
part_text_at bytes = do
  n ← number_at w32 bytes
  part_at n.0 n.1

-- so many elements, one after another
unfoldable pub many_at : {X : Type 0} → (List ℕ → Option (X × List ℕ)) → ℕ → List ℕ → Option (List X × List ℕ)
many_at at zero bytes = Some ([], bytes)
many_at at (suc n) bytes = do
  first ← at bytes
  others ← many_at at n first.1
  Some (first.0 ∷ others.0, others.1)

-- elements behind their count in four bytes
unfoldable pub counted_at : {X : Type 0} → (List ℕ → Option (X × List ℕ)) → List ℕ → Option (List X × List ℕ)
counted_at at bytes = do
  n ← number_at w32 bytes
  many_at at n.0 n.1
