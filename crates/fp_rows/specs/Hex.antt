-- How the rows write bytes, lines and names.
use Rattle.std.specs.Prelude.{ℕ, ◌+◌, ◌*◌, ◌-◌, List, [], ◌∷◌, ◌++◌, ◌==◌, nat_le, not, if◌then◌else◌, filter}
use Rattle.fp_model.specs.Texts.{padded}
use Rattle.fp_model.specs.declared.name.Name.{Name}

-- the number that a hexadecimal digit is, 0 to 9 or a to f
abbrev pub digit : ℕ → ℕ
digit c = if nat_le 97 c then c - 87 else c - 48

-- two digits a byte
abbrev pub joined : List ℕ → List ℕ
joined (high ∷ low ∷ more) = (digit high * 16 + digit low) ∷ joined more
joined _ = []

-- the bytes that hexadecimal digits are; blanks mean nothing
abbrev pub hex : List ℕ → List ℕ
hex text = joined (filter (λ c. not (c == 32)) text)

-- a line: a text and a newline
abbrev pub with_newline : List ℕ → List ℕ
with_newline text = text ++ 10 ∷ []

-- the name with these letters
abbrev pub named : List ℕ → Name
named letters = record { 0 = padded 8 letters }
