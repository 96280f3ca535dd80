-- Each token takes something of the text.
use Rattle.std.proofs.Common.{◌≡◌, ℕ, suc, ◌+◌, ◌≤◌, ◌<◌, Bool, true, false, List, [], ◌∷◌, length, drop, Ok, Err, arith}
use Rattle.std.specs.Prelude.{◌&&◌, ◌==◌, nat_le, nat_lt, slice_index, codes}
use Rattle.std.specs.List.{list_all, position_or_len, before_first}
use Rattle.std.specs.Char.{is_ascii_digit}
use Rattle.std.specs.Str.{all_ascii_digits}
use Rattle.std.proofs.lemmas.Bool.{and_parts, leb-true}
use Rattle.std.proofs.lemmas.List.{length-drop}
use Rattle.fp_model.specs.Texts.{is_printable, same_text}
use Rattle.fp_model.specs.Names.{is_letter, is_letter_or_digit, is_name}
use Rattle.fp_model.specs.Messages.{is_separator}
use Rattle.txn_tokens.specs.declared.token.Token.{Token}
use Rattle.txn_tokens.specs.Readings.{Reading}
use Rattle.fp_model.specs.Readings.{◌>>=◌}
use Rattle.txn_tokens.specs.Tokens.{run, behind, unblanked, is_sign, begins, begins_with, field_token, letter_token, number_token, text_token, hash_token, token_at, spaced_token_at}
use Rattle.txn_tokens.proofs.ReadingLemmas.{IsShorter, Shrinks, shorter_if, shorter_option}

pub behind_le : (test : ℕ → Bool) (bytes : List ℕ) → length (behind test bytes) ≤ length bytes
behind_le test bytes = omega (arith, length-drop (length (run test bytes)) bytes)

behind_lt : (test : ℕ → Bool) (bytes : List ℕ) → 0 < length bytes → 1 ≤ length (run test bytes)
    → length (behind test bytes) < length bytes
behind_lt test bytes some one = omega (arith, length-drop (length (run test bytes)) bytes)

-- a name has a letter
some_letters : (text : List ℕ) → is_name text ≡ true → 1 ≤ length text
some_letters text is =
    let a = and_parts (nat_le 1 (length text) && nat_le (length text) 8 && is_letter (slice_index text 0))
    (list_all is_letter_or_digit text) is in
    let b = and_parts (nat_le 1 (length text) && nat_le (length text) 8) (is_letter (slice_index text 0)) a.0 in
    leb-true 1 (length text) (and_parts (nat_le 1 (length text)) (nat_le (length text) 8) b.0).0

field_shrinks : (n : ℕ) (bytes : List ℕ) → length bytes < n → IsShorter n (field_token bytes)
field_shrinks n bytes lt = shorter_option n (is_name (run is_letter_or_digit bytes)) _ _
    (λ is. omega (arith, behind_le is_letter_or_digit bytes))

-- a `.` is passed
dotted : (bytes : List ℕ) (n : ℕ) → begins_with 46 bytes ≡ true → length bytes ≤ n → length (drop 1 bytes) < n
dotted [] n is le = absurd cc
dotted (b ∷ bs) n is le = omega arith

letter_shrinks : (bytes : List ℕ) → 0 < length bytes → IsShorter (length bytes) (letter_token bytes)
unfolding letter_token
letter_shrinks bytes some =
    shorter_if (length bytes) (same_text (run is_letter_or_digit bytes) (codes "IO") && begins_with 46
    (behind is_letter_or_digit bytes)) _ _
    (λ is. field_shrinks (length bytes) (drop 1 (behind is_letter_or_digit bytes))
    (dotted (behind is_letter_or_digit bytes) (length bytes)
    (and_parts (same_text (run is_letter_or_digit bytes) (codes "IO"))
    (begins_with 46 (behind is_letter_or_digit bytes)) is).1 (behind_le is_letter_or_digit bytes)))
    (λ is. shorter_option (length bytes) (is_name (run is_letter_or_digit bytes)) _ _
    (λ is. behind_lt is_letter_or_digit bytes some (some_letters _ is)))

some_digits : (text : List ℕ) → (nat_le 1 (length text) && nat_le (length text) 31 && all_ascii_digits text) ≡ true
    → 1 ≤ length text
some_digits text is =
    let a = and_parts (nat_le 1 (length text) && nat_le (length text) 31) (all_ascii_digits text) is in
    leb-true 1 (length text) (and_parts (nat_le 1 (length text)) (nat_le (length text) 31) a.0).0

number_shrinks : (negative : Bool) (bytes : List ℕ) → 0 < length bytes
    → IsShorter (length bytes) (number_token negative bytes)
unfolding number_token
number_shrinks negative bytes some =
    shorter_option (length bytes) (nat_le 1 (length (run is_ascii_digit bytes))
    && nat_le (length (run is_ascii_digit bytes)) 31 &&
    all_ascii_digits (run is_ascii_digit bytes)) _ _
    (λ is. behind_lt is_ascii_digit bytes some (some_digits (run is_ascii_digit bytes) is))

negative_shrinks : (bytes : List ℕ) → IsShorter (suc (length bytes)) (number_token true bytes)
unfolding number_token
negative_shrinks bytes =
    shorter_option (suc (length bytes)) (nat_le 1 (length (run is_ascii_digit bytes))
    && nat_le (length (run is_ascii_digit bytes)) 31 && all_ascii_digits (run is_ascii_digit bytes)) _ _
    (λ is. omega (arith, behind_le is_ascii_digit bytes))

text_shrinks : (bytes : List ℕ) → IsShorter (suc (length bytes)) (text_token bytes)
unfolding text_token
text_shrinks bytes =
    shorter_if (suc (length bytes)) (nat_lt (length (before_first (λ b. b == 39) bytes)) (length bytes) && nat_le
    (length (before_first (λ b. b == 39) bytes)) 1000 && list_all is_printable (before_first (λ b. b == 39) bytes))
    _ _
    (λ is. omega (arith, length-drop (position_or_len (λ b. b == 39) bytes + 1) bytes))
    (λ is. tt)

hash_shrinks : (bytes : List ℕ) → IsShorter (suc (length bytes)) (hash_token bytes)
unfolding hash_token
hash_shrinks [] = tt
hash_shrinks (b ∷ bs) = shorter_if (suc (suc (length bs))) (is_ascii_digit b) _ _ (λ is. omega arith) (λ is. tt)

pub token_shrinks : (bytes : List ℕ) → IsShorter (length bytes) (token_at bytes)
unfolding token_at
token_shrinks [] = tt
token_shrinks (b ∷ bs) =
    let n : ℕ = suc (length bs) in
    shorter_if n (is_letter b) _ _ (λ is. letter_shrinks (b ∷ bs) (omega arith)) (λ not.
    shorter_if n (is_ascii_digit b) _ _ (λ is. number_shrinks false (b ∷ bs) (omega arith)) (λ not.
    shorter_if n (b == 45 && begins is_ascii_digit bs) _ _ (λ is. negative_shrinks bs) (λ not.
    shorter_if n (b == 39) _ _ (λ is. text_shrinks bs) (λ not.
    shorter_if n (b == 35) _ _ (λ is. hash_shrinks bs) (λ not.
    shorter_if n (is_sign b) _ _ (λ is. omega arith) (λ not. tt))))))

unblanked_shrinks : (n : ℕ) (r : Reading (Token × List ℕ)) → IsShorter n r
    → IsShorter n (r >>= λ token. Ok (token.0, unblanked token.1))
unblanked_shrinks n (Ok token) lt = omega (arith, behind_le is_separator token.1)
unblanked_shrinks n (Err e) lt = tt

pub spaced_shrinks : Shrinks spaced_token_at
unfolding spaced_token_at
spaced_shrinks bytes = unblanked_shrinks (length bytes) (token_at bytes) (token_shrinks bytes)
