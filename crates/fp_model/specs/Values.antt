-- Values of scripts: words, numbers, operations, and texts as fields and keys of segments.
use Rattle.std.specs.Prelude.{ℕ, zero, suc, ◌-◌, ◌^◌, List, [], ◌∷◌, ◌++◌, length, Bool, true, false, not, nat_lt, nat_le, if◌then◌else◌, Option, Some, None, option_map, unwrap_or, slice_get, ℤ, pos, ◌+ℤ◌, ◌-ℤ◌, ◌*ℤ◌, unsigned_abs}
use Rattle.std.specs.declared.cmp.Ordering.{Ordering}
use Rattle.std.specs.Ordering.{int_cmp, is_lt, is_le, is_gt, is_ge}
use Rattle.fp_model.specs.declared.definitions.FieldDef.{FieldDef}
use Rattle.fp_model.specs.declared.definitions.Defs.{Defs}
use Rattle.fp_model.specs.declared.scripts.Operation.{Operation}
use Rattle.fp_model.specs.declared.scripts.Operation.TheVariants.{Add, Subtract, Multiply, Join}
use Rattle.fp_model.specs.declared.scripts.Comparison.{Comparison}
use Rattle.fp_model.specs.declared.scripts.Comparison.TheVariants.{Equal, NotEqual, Less, LessOrEqual, Greater, GreaterOrEqual}
use Rattle.fp_model.specs.Texts.{same_text, trimmed, padded, number_in, decimal_text}
use Rattle.fp_model.specs.Messages.{is_separator}
use Rattle.fp_model.specs.Numbers.{number, bytes_of}
use Rattle.fp_model.specs.State.{key_length}
use Rattle.fp_model.specs.Fsas.{is_text}

-- a value that there may be, and what is made of it
infixl 10 ◌>>=◌
abbrev pub ◌>>=◌ : {A B : Type 0} → Option A → (A → Option B) → Option B
None >>= f = None
(Some x) >>= f = f x

-- ---- values

-- whether a text begins with a byte of a word
abbrev pub begins_word : List ℕ → Bool
begins_word [] = false
begins_word (b ∷ bs) = not (is_separator b)

-- a byte at the front of the first word, or a word of its own
abbrev pub at_front : Bool → ℕ → List (List ℕ) → List (List ℕ)
at_front true b (w ∷ ws) = (b ∷ w) ∷ ws
at_front true b [] = (b ∷ []) ∷ []
at_front false b ws = (b ∷ []) ∷ ws

-- the words of a text
abbrev pub words : List ℕ → List (List ℕ)
words [] = []
words (b ∷ bs) = if is_separator b then words bs else at_front (begins_word bs) b (words bs)

-- `#0` is the whole text, and `#1` and on its words; a missing one is empty
abbrev pub word_of : List ℕ → ℕ → List ℕ
word_of text zero = text
word_of text (suc n) = unwrap_or (slice_get (words text) n) []

-- a number as a text; None outside 31 digits
abbrev pub number_text : ℤ → Option (List ℕ)
number_text n = if nat_lt (unsigned_abs n) (10 ^ 31) then Some (decimal_text n) else None

-- two texts as numbers, and what is made of them
abbrev pub of_numbers : {A : Type 0} → (ℤ → ℤ → Option A) → List ℕ → List ℕ → Option A
of_numbers f a b = do
  m ← number_in a
  n ← number_in b
  f m n

-- a text that may be a value; None past 1,024 bytes
abbrev pub short_enough : List ℕ → Option (List ℕ)
short_enough text = if nat_le (length text) 1024 then Some text else None

-- two values under an operation
abbrev pub operated : Operation → List ℕ → List ℕ → Option (List ℕ)
operated Add a b = of_numbers (λ m n. number_text (m +ℤ n)) a b
operated Subtract a b = of_numbers (λ m n. number_text (m -ℤ n)) a b
operated Multiply a b = of_numbers (λ m n. number_text (m *ℤ n)) a b
operated Join a b = short_enough (a ++ b)

-- whether a comparison holds of two texts as numbers
abbrev pub ranked : (Ordering → Bool) → List ℕ → List ℕ → Option Bool
ranked holds a b = of_numbers (λ m n. Some (holds (int_cmp m n))) a b

-- whether a comparison holds: as texts without trailing blanks, or as numbers
abbrev pub compares : Comparison → List ℕ → List ℕ → Option Bool
compares Equal a b = Some (same_text (trimmed a) (trimmed b))
compares NotEqual a b = Some (not (same_text (trimmed a) (trimmed b)))
compares Less a b = ranked is_lt a b
compares LessOrEqual a b = ranked is_le a b
compares Greater a b = ranked is_gt a b
compares GreaterOrEqual a b = ranked is_ge a b

-- ---- segments and fields

-- a segment type: its fields, and whether the first of them is a key
pub record Layout : Type 0 where
  pub fields : List FieldDef
  pub has_key : Bool

-- the segment type of a number in a database; a main storage database has one, which is number 0
abbrev pub layout_of : Defs → ℕ → ℕ → Option Layout
layout_of defs db type_number = elim (slice_get defs.msdbs db) [
  | Some def ↦ Some (record { fields = def.fields; has_key = true })
  | None ↦ do
    def ← slice_get defs.dedbs (db - length defs.msdbs)
    segment ← slice_get def.segments type_number
    Some (record { fields = segment.fields; has_key = not segment.sequential })
]

-- a text padded to a length; None where it is longer
abbrev pub fitted : ℕ → List ℕ → Option (List ℕ)
fitted n text = if nat_le (length text) n then Some (padded n text) else None

-- a text as a key of a type; one without keys takes it as it is
abbrev pub fitted_key : Layout → List ℕ → Option (List ℕ)
fitted_key layout text = if layout.has_key then fitted (key_length layout.fields) text else Some text

-- a text as the bytes of a field; None where it doesn't fit
abbrev pub value_bytes : FieldDef → List ℕ → Option (List ℕ)
value_bytes field text =
    if is_text field.kind then fitted field.length text else number_in text >>= bytes_of field.kind field.length

-- the bytes of a field as a text; None where they are no number
abbrev pub value_text : FieldDef → List ℕ → Option (List ℕ)
value_text field bytes =
    if is_text field.kind then Some (trimmed bytes) else option_map decimal_text (number field.kind bytes)

-- a field before a value is put there: blanks, or zero
abbrev pub empty_field : FieldDef → Option (List ℕ)
empty_field field =
    if is_text field.kind then Some (padded field.length []) else bytes_of field.kind field.length (pos 0)

-- a segment before values are put there
abbrev pub empty_segment : List FieldDef → Option (List ℕ)
empty_segment [] = Some []
empty_segment (f ∷ fs) = do
  bytes ← empty_field f
  others ← empty_segment fs
  Some (bytes ++ others)
