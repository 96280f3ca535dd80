-- The tokens of a line.
use Rattle.std.specs.Prelude.{ℕ, List, [], ◌∷◌, length, drop, Bool, true, false, not, ◌&&◌, ◌==◌, nat_le, nat_lt, ◌-◌, if◌then◌else◌, codes, ok_or, Ok, Err, ℤ, pos, neg_ℤ}
use Rattle.std.specs.List.{list_all, list_any, before_first, after_first}
use Rattle.std.specs.Char.{is_ascii_digit}
use Rattle.fp_model.specs.Texts.{same_text, is_printable, digits_number}
use Rattle.fp_model.specs.Names.{is_letter, is_letter_or_digit, name_in}
use Rattle.fp_model.specs.Messages.{is_separator}
use Rattle.txn_tokens.specs.declared.fault.LineFault.TheVariants.{Syntax}
use Rattle.txn_tokens.specs.declared.token.Token.{Token}
use Rattle.txn_tokens.specs.declared.token.Token.TheVariants.{Word, Number, Text, Hash, Field, Sign}
use Rattle.txn_tokens.specs.Readings.{Reading, all_by}
use Rattle.fp_model.specs.Readings.{◌>>=◌}

-- the longest front whose elements pass a test, and what stands behind it
abbrev pub run : {X : Type 0} → (X → Bool) → List X → List X
run test xs = before_first (λ x. not (test x)) xs

abbrev pub behind : {X : Type 0} → (X → Bool) → List X → List X
behind test xs = drop (length (run test xs)) xs

-- without the blanks in front; a blank is a space or a tab
abbrev pub unblanked : List ℕ → List ℕ
unblanked bytes = behind is_separator bytes

-- whether a text begins with a byte that passes a test
abbrev pub begins : (ℕ → Bool) → List ℕ → Bool
begins test [] = false
begins test (b ∷ bs) = test b

abbrev pub begins_with : ℕ → List ℕ → Bool
begins_with byte bytes = begins (λ b. b == byte) bytes

-- ---- one token, and what stands behind it

-- a word: letters and digits, a letter first, 1 to 8 of them; it notes whether a `=` stands directly behind
abbrev pub word_token : List ℕ → List ℕ → Reading (Token × List ℕ)
word_token letters rest = do
  name ← ok_or (name_in letters) Syntax
  Ok (Word name (begins_with 61 rest), rest)

-- `IO.`, here without it, and a word directly behind
abbrev pub field_token : List ℕ → Reading (Token × List ℕ)
field_token bytes = do
  name ← ok_or (name_in (run is_letter_or_digit bytes)) Syntax
  Ok (Field name, behind is_letter_or_digit bytes)

-- what begins with a letter
unfoldable pub letter_token : List ℕ → Reading (Token × List ℕ)
letter_token bytes =
    let letters = run is_letter_or_digit bytes in
    let rest = behind is_letter_or_digit bytes in
    if same_text letters (codes "IO") && begins_with 46 rest then field_token (drop 1 rest) else word_token letters rest

-- a number with its sign
abbrev pub signed : Bool → ℕ → ℤ
signed true n = neg_ℤ (pos n)
signed false n = pos n

-- 1 to 31 digits, and whether a `-` stands before them
unfoldable pub number_token : Bool → List ℕ → Reading (Token × List ℕ)
number_token negative bytes = do
  n ← ok_or (digits_number (run is_ascii_digit bytes)) Syntax
  Ok (Number (signed negative n), behind is_ascii_digit bytes)

-- a text, here without its first quote: at most 1,000 printable bytes up to the next quote, which there must be
unfoldable pub text_token : List ℕ → Reading (Token × List ℕ)
text_token bytes =
    let text = before_first (λ b. b == 39) bytes in
    if nat_lt (length text) (length bytes) && nat_le (length text) 1000 && list_all is_printable text
    then Ok (Text text, after_first (λ b. b == 39) bytes)
    else Err Syntax

-- `#`, here without it, and one digit
unfoldable pub hash_token : List ℕ → Reading (Token × List ℕ)
hash_token [] = Err Syntax
hash_token (b ∷ bs) = if is_ascii_digit b then Ok (Hash (b - 48), bs) else Err Syntax

-- one of `( ) = + - * &`
abbrev pub is_sign : ℕ → Bool
is_sign b = list_any (λ sign. b == sign) (codes "()=+-*&")

-- the token that a text begins with
unfoldable pub token_at : List ℕ → Reading (Token × List ℕ)
token_at [] = Err Syntax
token_at (b ∷ bs) =
    if is_letter b then letter_token (b ∷ bs)
    else if is_ascii_digit b then number_token false (b ∷ bs)
    else if b == 45 && begins is_ascii_digit bs then number_token true bs
    else if b == 39 then text_token bs
    else if b == 35 then hash_token bs
    else if is_sign b then Ok (Sign b, bs)
    else Err Syntax

-- ---- all tokens of a line

-- the token that a text begins with, and what stands behind the blanks behind it
unfoldable pub spaced_token_at : List ℕ → Reading (Token × List ℕ)
spaced_token_at bytes = token_at bytes >>= λ token. Ok (token.0, unblanked token.1)

-- the tokens of a line, each as long as it can be
unfoldable pub tokens_of : List ℕ → Reading (List Token)
tokens_of line = all_by spaced_token_at (unblanked line)
