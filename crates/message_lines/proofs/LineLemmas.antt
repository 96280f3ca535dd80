-- The first of the lines that are ahead.
use Rattle.std.proofs.Common.{ℕ, ◌≡◌, ◌+◌, ◌<◌, ◌≤◌, ◌⊎◌, Bool, true, false, List, [], ◌∷◌, ◌++◌, length, refl, sym, ◌∙◌, ap, inl, inr, ⊎_elim, arith, append_assoc, length-append, Some, None}
use Rattle.std.specs.Prelude.{◌==◌, if◌then◌else◌}
use Rattle.std.specs.List.{slice_split, onto_first}
use Rattle.std.specs.Str.Lines.{lines_of_parts, strip_carriage_return}
use Rattle.std.proofs.lemmas.List.Splits.{slice_split_none, slice_split_at, slice_split-cons_yes, slice_split-cons_no}
use Rattle.std.proofs.lemmas.List.Elements.{All-nil, All-cons}
use Rattle.std.proofs.lemmas.Bool.{cases_eq}
use Rattle.std.proofs.lemmas.Bool.Decides.{nat_tests}
use Rattle.fp_model.specs.Messages.{LineFault, LineTooLong, TooManyLines, lines_of, raw_lines, but_empty_last, fault_of_line}
use Rattle.message_lines.specs.inside.Newlines.{HasNoNewline, HasLongLine}
use Rattle.message_lines.specs.Lines.{fault_from}
use Rattle.message_lines.proofs.Pieces.{plain_append}
use Rattle.model_laws.proofs.Lines.{is_newline, IsCons, split_is_cons, lines_at}

newline : (b : ℕ) → b ≡ 10 → (b == 10) ≡ true
newline b is = grind (arith, nat_tests)

no_newline : (b : ℕ) → (b ≡ 10 → ⊥) → (b == 10) ≡ false
no_newline b not = grind (arith, nat_tests)

raw_at : (x : List ℕ) (parts : List (List ℕ)) → IsCons parts → but_empty_last (x ∷ parts) ≡ x ∷ but_empty_last parts
raw_at x parts is = rw is.2 refl

-- a line that ends at a newline, as it stands and as it is given
pub raw_first : (line rest : List ℕ) → HasNoNewline line → raw_lines (line ++ 10 ∷ rest) ≡ line ∷ raw_lines rest
raw_first line rest plain =
    rw (slice_split_at is_newline line 10 rest plain refl)
    (raw_at line (slice_split is_newline rest) (split_is_cons rest))

pub line_first : (line rest : List ℕ) → HasNoNewline line
    → lines_of (line ++ 10 ∷ rest) ≡ strip_carriage_return line ∷ lines_of rest
line_first line rest plain =
    rw (slice_split_at is_newline line 10 rest plain refl)
    (lines_at line (slice_split is_newline rest) (split_is_cons rest))

-- a last line without newline
pub raw_last : (line : List ℕ) → HasNoNewline line → 0 < length line → raw_lines line ≡ line ∷ []
raw_last line plain some =
    let no : (length line == 0) ≡ false = grind (arith, nat_tests) in
    rw (slice_split_none is_newline line plain, no) refl

pub line_last : (line : List ℕ) → HasNoNewline line → 0 < length line → lines_of line ≡ line ∷ []
line_last line plain some =
    let no : (length line == 0) ≡ false = grind (arith, nat_tests) in
    rw (slice_split_none is_newline line plain, no) refl

-- the bytes are a line and more behind its newline, or have no newline
abbrev Splits : List ℕ → Type 0
Splits bytes = ((line : List ℕ) × (rest : List ℕ) × HasNoNewline line × (bytes ≡ line ++ 10 ∷ rest))
    ⊎ HasNoNewline bytes

plain_nil : HasNoNewline []
plain_nil = All-nil (λ b. (b == 10) ≡ false)

plain_cons : (b : ℕ) (bytes : List ℕ) → (b ≡ 10 → ⊥) → HasNoNewline bytes → HasNoNewline (b ∷ bytes)
plain_cons b bytes not plain = All-cons (λ x. (x == 10) ≡ false) b bytes (no_newline b not) plain

splits : (bytes : List ℕ) → Splits bytes
splits [] = inr plain_nil
splits (b ∷ bytes) = ⊎_elim
    (λ is. inl ([], bytes, plain_nil, ap (λ x. x ∷ bytes) is))
    (λ not. ⊎_elim
    (λ s. inl (b ∷ s.0, s.1, plain_cons b s.0 not s.2, ap (λ xs. b ∷ xs) s.3))
    (λ plain. inr (plain_cons b bytes not plain))
    (splits bytes))
    (cases_eq b 10)

-- where there are bytes there is a line
pub some_line : (bytes : List ℕ) → 0 < length bytes → (line : List ℕ) × (more : List (List ℕ))
    × (raw_lines bytes ≡ line ∷ more)
some_line bytes some = ⊎_elim
    (λ s. let e = s.3 in rw e (s.0, raw_lines s.1, raw_first s.0 s.1 s.2))
    (λ plain. (bytes, [], raw_last bytes plain some))
    (splits bytes)

-- and where more than 2,100 bytes stand before the first newline, it is long
pub long_line : (bytes : List ℕ) → HasLongLine bytes → (line : List ℕ) × (more : List (List ℕ)) × (2100 < length line)
    × (raw_lines bytes ≡ line ∷ more)
long_line bytes it =
    let joined = it.splits in
    let long = it.long in
    ⊎_elim
    (λ s.
    let e = s.3 in
    let whole : bytes ≡ (it.front ++ s.0) ++ 10 ∷ s.1 = joined ∙ rw e (sym (append_assoc it.front s.0 (10 ∷ s.1))) in
    rw whole (
      it.front ++ s.0,
      raw_lines s.1,
      omega (arith, length-append it.front s.0),
      raw_first (it.front ++ s.0) s.1 (plain_append it.front s.0 it.plain s.2),
    ))
    (λ plain.
    let l : 2100 < length (it.front ++ it.rest) = omega (arith, length-append it.front it.rest) in
    let some : 0 < length (it.front ++ it.rest) = omega arith in
    rw joined (
      it.front ++ it.rest,
      [],
      l,
      raw_last (it.front ++ it.rest) (plain_append it.front it.rest it.plain plain)
          some,
    ))
    (splits it.rest)

-- the fault of a first line that isn't taken,
pub fault_first : (number : ℕ) (line : List ℕ) (more : List (List ℕ)) (fault : LineFault)
    → fault_of_line number line ≡ Some fault → fault_from number (line ∷ more) ≡ Some fault
fault_first number line more fault e = rw e refl

-- and one that is taken has none
pub fault_later : (number : ℕ) (line : List ℕ) (more : List (List ℕ)) → fault_of_line number line ≡ None
    → fault_from number (line ∷ more) ≡ fault_from (number + 1) more
fault_later number line more e = rw e refl

-- why a line is taken or not
pub taken : (number : ℕ) (line : List ℕ) → number ≤ 1000000 → length line ≤ 2100 → fault_of_line number line ≡ None
taken number line few short = grind (arith, nat_tests)

pub too_long : (number : ℕ) (line : List ℕ) → number ≤ 1000000 → 2100 < length line
    → fault_of_line number line ≡ Some (LineTooLong number)
too_long number line few long = grind (arith, nat_tests)

pub too_many : (line : List ℕ) → fault_of_line 1000001 line ≡ Some (TooManyLines 1000001)
too_many line = refl

-- The bytes ahead are a line, and then more if a newline ended it.
pub record Begins (bytes line rest : List ℕ) (by_newline : Bool) : Type 0 where
  pub some : 0 < length bytes
  pub plain : HasNoNewline line
  pub up_to : by_newline ≡ true → bytes ≡ line ++ 10 ∷ rest
  pub all : by_newline ≡ false → bytes ≡ line
  pub nothing : by_newline ≡ false → rest ≡ []

-- the line is given as the first of those ahead,
pub line_given : (bytes line rest : List ℕ) (by_newline : Bool) → Begins bytes line rest by_newline
    → lines_of bytes ≡ (if by_newline then strip_carriage_return line else line) ∷ lines_of rest
line_given bytes line rest true it = rw (it.up_to refl) (line_first line rest it.plain)
line_given bytes line rest false it =
    let some : 0 < length line = rw (it.all refl) at it.some in
    rw (it.all refl, it.nothing refl) (line_last line it.plain some)

-- and as it stands too
raw_given : (bytes line rest : List ℕ) (by_newline : Bool) → Begins bytes line rest by_newline
    → raw_lines bytes ≡ line ∷ raw_lines rest
raw_given bytes line rest true it = rw (it.up_to refl) (raw_first line rest it.plain)
raw_given bytes line rest false it =
    let some : 0 < length line = rw (it.all refl) at it.some in
    rw (it.all refl, it.nothing refl) (raw_last line it.plain some)

-- so the fault ahead stays, where the line is taken
pub fault_stays : (given : ℕ) (bytes line rest : List ℕ) (by_newline : Bool) → Begins bytes line rest by_newline
    → given < 1000000 → length line ≤ 2100
    → fault_from (given + 1) (raw_lines bytes) ≡ fault_from (given + 1 + 1) (raw_lines rest)
fault_stays given bytes line rest by_newline it few short =
    ap (fault_from (given + 1)) (raw_given bytes line rest by_newline it)
    ∙ fault_later (given + 1) line (raw_lines rest) (taken (given + 1) line (omega arith) short)

-- a line more than there may be
pub many_ahead : (given : ℕ) (bytes : List ℕ) → given ≡ 1000000 → 0 < length bytes
    → fault_from (given + 1) (raw_lines bytes) ≡ Some (TooManyLines 1000001)
many_ahead given bytes e some =
    let line = some_line bytes some in
    let first : raw_lines bytes ≡ line.0 ∷ line.1 = line.2 in
    ap (fault_from (given + 1)) first ∙ rw e (fault_first 1000001 line.0 line.1 (TooManyLines 1000001)
    (too_many line.0))

-- a line that is too long
pub long_ahead : (given : ℕ) (bytes : List ℕ) → given < 1000000 → HasLongLine bytes
    → fault_from (given + 1) (raw_lines bytes) ≡ Some (LineTooLong (given + 1))
long_ahead given bytes few it =
    let line = long_line bytes it in
    let first : raw_lines bytes ≡ line.0 ∷ line.1 = line.3 in
    ap (fault_from (given + 1)) first ∙ fault_first (given + 1) line.0 line.1 (LineTooLong (given + 1))
    (too_long (given + 1) line.0 (omega arith) line.2)
