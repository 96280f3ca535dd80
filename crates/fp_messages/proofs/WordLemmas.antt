-- Where a line's first word ends, and what is left of a name that is padded and then trimmed.
use Rattle.std.proofs.Common.{◌≡◌, ℕ, suc, zero, ◌-◌, ◌≤◌, List, [], ◌∷◌, ◌++◌, length, replicate, Bool, true, false, cond, ◌&&◌, if◌then◌else◌, Some, None, refl, ap, sym, ◌∙◌, arith, rules, nat_lt}
use Rattle.std.specs.List.{position_or_len, list_all}
use Rattle.fp_model.specs.Texts.{trimmed, padded, in_front}
use Rattle.fp_model.specs.Names.{is_letter_or_digit, is_name}
use Rattle.fp_model.specs.Messages.{first_word, terminal_of}
use Rattle.fp_model.specs.ReplyLine.{addressee}
use Rattle.fp_model.specs.declared.name.Name.{Name}
use Rattle.plain_laws.proofs.Truths.{first_of_both, second_of_both}

-- blanks alone leave nothing
trimmed-blanks : (n : ℕ) → trimmed (replicate n 32) ≡ []
trimmed-blanks zero = refl
trimmed-blanks (suc n) = ap (in_front 32) (trimmed-blanks n)

-- a letter or a digit stays in front of a text
in_front-fair : (b : ℕ) (text : List ℕ) → is_letter_or_digit b ≡ true → in_front b text ≡ b ∷ text
in_front-fair b [] e = search rules
in_front-fair b (c ∷ cs) e = refl

-- a text of letters and digits loses only the blanks behind it
trimmed-fair : (text : List ℕ) (n : ℕ) → list_all is_letter_or_digit text ≡ true
    → trimmed (text ++ replicate n 32) ≡ text
trimmed-fair [] n e = trimmed-blanks n
trimmed-fair (b ∷ bs) n e =
    ap (in_front b) (trimmed-fair bs n (second_of_both (is_letter_or_digit b) (list_all is_letter_or_digit bs) e))
    ∙ in_front-fair b bs (first_of_both (is_letter_or_digit b) (list_all is_letter_or_digit bs) e)

told_by : (test : Bool) (word : List ℕ) (name : Name) → test ≡ true → trimmed name.0 ≡ word
    → word ≡ addressee (if test then Some name else None)
told_by true word name e is = sym is
told_by false word name e is = search rules

-- where the first word is a name, that word is the addressee
pub told_is : (line : List ℕ) → is_name (first_word line) ≡ true → first_word line ≡ addressee (terminal_of line)
told_is line e =
    told_by (is_name (first_word line)) (first_word line) (record { 0 = padded 8 (first_word line) }) e
    (trimmed-fair (first_word line) (8 - length (first_word line)) (second_of_both _ _ e))
