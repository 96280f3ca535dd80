-- The lines of a text, one after another.
use Rattle.std.proofs.Common.{◌≡◌, ℕ, List, [], ◌∷◌, Bool, true, false, cond, refl}
use Rattle.std.specs.Prelude.{◌==◌}
use Rattle.std.specs.List.{slice_split, onto_first}
use Rattle.std.specs.Str.Lines.{lines_of_parts, strip_carriage_return}

-- the byte that ends a line
abbrev pub is_newline : ℕ → Bool
is_newline b = b == 10

-- there is a first part
abbrev pub IsCons : List (List ℕ) → Type 0
IsCons parts = (x : List ℕ) × (more : List (List ℕ)) × (parts ≡ x ∷ more)

-- so there is with one byte more
cons_by : (b : ℕ) (newline : Bool) (parts : List (List ℕ)) → IsCons parts
    → IsCons (cond newline ([] ∷ parts) (onto_first b parts))
cons_by b true parts is = ([], parts, refl)
cons_by b false [] is = (b ∷ [], [], refl)
cons_by b false (x ∷ more) is = (b ∷ x, more, refl)

-- a text has a first part
pub split_is_cons : (bytes : List ℕ) → IsCons (slice_split is_newline bytes)
split_is_cons [] = ([], [], refl)
split_is_cons (b ∷ bytes) = cons_by b (is_newline b) (slice_split is_newline bytes) (split_is_cons bytes)

-- the first line, where others stand behind it
pub lines_at : (x : List ℕ) (parts : List (List ℕ)) → IsCons parts
    → lines_of_parts (x ∷ parts) ≡ strip_carriage_return x ∷ lines_of_parts parts
lines_at x parts is = rw is.2 refl
