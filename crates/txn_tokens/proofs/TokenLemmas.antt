-- Texts in quotes, and digits read from the front.
use Rattle.std.proofs.Common.{◌≡◌, ℕ, zero, suc, ◌+◌, ◌*◌, ◌^◌, ◌-◌, ◌≤◌, ◌<◌, List, [], ◌∷◌, ◌++◌, length, get_or, take, drop, map, Bool, true, false, Ok, Err, refl, ap, ◌∙◌, arith, rules, nat_lt, length-append}
use Rattle.std.specs.Prelude.{◌==◌, ◌&&◌, nat_le, if◌then◌else◌}
use Rattle.std.specs.List.{position_or_len, list_all}
use Rattle.std.proofs.lemmas.List.{length-take, length-map, map_push, take_more}
use Rattle.std.proofs.lemmas.Bool.{le-ltb, lt-ltb, le-leb, lt-leb, and_parts}
use Rattle.std.proofs.Math.Nat.{pow-le-pow_right, pow-suc, pow-zero, mul-le-mul_left}
use Rattle.std.proofs.Math.Bool.{and-false}
use Rattle.std.specs.Str.{all_ascii_digits}
use Rattle.std.specs.Char.{is_ascii_digit}
use Rattle.fp_model.specs.Texts.{value, is_printable}
use Rattle.txn_tokens.specs.declared.fault.LineFault.TheVariants.{Syntax}
use Rattle.txn_tokens.specs.declared.token.Token.TheVariants.{Text}
use Rattle.txn_tokens.specs.Tokens.{text_token}
use Rattle.model_laws.proofs.Texts.{value_snoc}

abbrev is_quote : ℕ → Bool
is_quote b = b == 39

-- without a second quote there is no text
pub text_open : (bytes : List ℕ) → length bytes ≤ position_or_len is_quote bytes → text_token bytes ≡ Err Syntax
unfolding text_token
text_open bytes le =
    let no : nat_lt (length (take (position_or_len is_quote bytes) bytes)) (length bytes) ≡ false =
    le-ltb _ _ (omega (arith, length-take (position_or_len is_quote bytes) bytes)) in
    rw no refl

-- with one at a place, it decides
pub text_closed : (bytes : List ℕ) (i : ℕ) → i < length bytes → position_or_len is_quote bytes ≡ i
    → text_token bytes ≡ (if nat_le i 1000 && list_all is_printable (take i bytes) then Ok
    (Text (take i bytes), drop (i + 1) bytes) else Err Syntax)
unfolding text_token
text_closed bytes i lt at =
    let len : length (take i bytes) ≡ i = omega (arith, length-take i bytes) in
    let yes : nat_lt i (length bytes) ≡ true = lt-ltb _ _ lt in
    rw (at, len, yes) refl

pub text_long : (bytes : List ℕ) (i : ℕ) → i < length bytes → position_or_len is_quote bytes ≡ i → 1000 < i
    → text_token bytes ≡ Err Syntax
text_long bytes i lt at long =
    let no : nat_le i 1000 ≡ false = lt-leb _ _ long in
    text_closed bytes i lt at ∙ rw no refl

pub text_unprintable : (bytes : List ℕ) (i : ℕ) → i < length bytes → position_or_len is_quote bytes ≡ i
    → list_all is_printable (take i bytes) ≡ false
    → text_token bytes ≡ Err Syntax
text_unprintable bytes i lt at bad = text_closed bytes i lt at ∙ rw (bad, and-false (nat_le i 1000)) refl

pub text_good : (bytes : List ℕ) (i : ℕ) → i < length bytes → position_or_len is_quote bytes ≡ i → i ≤ 1000
    → list_all is_printable (take i bytes) ≡ true
    → text_token bytes ≡ Ok (Text (take i bytes), drop (i + 1) bytes)
text_good bytes i lt at short all =
    let few : nat_le i 1000 ≡ true = le-leb _ _ short in
    text_closed bytes i lt at ∙ rw (few, all) refl

-- ---- digits

pub length_snoc : (xs : List ℕ) (d : ℕ) → length (xs ++ d ∷ []) ≡ suc (length xs)
length_snoc xs d = omega (arith, length-append xs (d ∷ []))
