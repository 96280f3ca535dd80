-- The words of a text, from its first word on.
use Rattle.std.proofs.Common.{◌≡◌, refl, sym, ap, ◌∙◌, arith, ℕ, suc, ◌+◌, ◌-◌, ◌≤◌, ◌<◌, List, [], ◌∷◌, length, take, drop, Bool, true, false, not, cond, if◌then◌else◌, Some, None, nat_lt, rules}
use Rattle.std.specs.List.{position_or_len}
use Rattle.std.proofs.lemmas.List.{drop_all, take_all, length-drop}
use Rattle.std.proofs.lemmas.Bool.Decides.{nat_tests}
use Rattle.std.proofs.Math.Bool.{false≢true}
use Rattle.fp_model.specs.Messages.{is_separator}
use Rattle.fp_model.specs.Values.{words, at_front, begins_word}
use Rattle.plain_laws.proofs.Options.{none_is_past}

abbrev pub is_other : ℕ → Bool
is_other b = not (is_separator b)

-- where the first of more elements passes, or else one place later than in the others
pub position_here : (p : ℕ → Bool) (b : ℕ) (bs : List ℕ) → p b ≡ true → position_or_len p (b ∷ bs) ≡ 0
position_here p b bs e = rw e refl

pub position_later : (p : ℕ → Bool) (b : ℕ) (bs : List ℕ) → p b ≡ false
    → position_or_len p (b ∷ bs) ≡ suc (position_or_len p bs)
position_later p b bs e = rw e (let s : 1 + position_or_len p bs ≡ suc (position_or_len p bs) = omega arith in s)

-- separators in front are no words
skip_step : (b : ℕ) (bs : List ℕ) (v : Bool) → is_separator b ≡ v
    → words (drop (position_or_len is_other bs) bs) ≡ words bs
    → words (drop (position_or_len is_other (b ∷ bs)) (b ∷ bs)) ≡ words (b ∷ bs)
skip_step b bs true e ih =
    ap (λ n. words (drop n (b ∷ bs))) (position_later is_other b bs (ap not e)) ∙ ih
    ∙ sym (ap (λ v. if v then words bs else at_front (begins_word bs) b (words bs)) e)
skip_step b bs false e ih = ap (λ n. words (drop n (b ∷ bs))) (position_here is_other b bs (ap not e))

pub words_skip : (xs : List ℕ) → words (drop (position_or_len is_other xs) xs) ≡ words xs
words_skip [] = refl
words_skip (b ∷ bs) = skip_step b bs (is_separator b) refl (words_skip bs)

-- behind them a word begins, if anything stands there
begins_step : (b : ℕ) (bs : List ℕ) (v : Bool) → is_separator b ≡ v
    → (position_or_len is_other bs < length bs → begins_word (drop (position_or_len is_other bs) bs) ≡ true)
    → position_or_len is_other (b ∷ bs) < length (b ∷ bs)
    → begins_word (drop (position_or_len is_other (b ∷ bs)) (b ∷ bs)) ≡ true
begins_step b bs true e ih lt =
    let later = position_later is_other b bs (ap not e) in
    ap (λ n. begins_word (drop n (b ∷ bs))) later ∙ ih (omega (arith, later))
begins_step b bs false e ih lt = ap (λ n. begins_word (drop n (b ∷ bs))) (position_here is_other b bs (ap not e)) ∙ ap
    not e

pub begins_behind : (xs : List ℕ) → position_or_len is_other xs < length xs
    → begins_word (drop (position_or_len is_other xs) xs) ≡ true
begins_behind [] lt = absurd (omega arith)
begins_behind (b ∷ bs) lt = begins_step b bs (is_separator b) refl (begins_behind bs) lt

-- separators alone have no words
pub no_words : (xs : List ℕ) → length xs ≤ position_or_len is_other xs → words xs ≡ []
no_words xs le = sym (words_skip xs) ∙ ap words (drop_all (position_or_len is_other xs) xs le)

-- where a word begins, it is the first of the words
abbrev IsFirst : List ℕ → Type 0
IsFirst xs = words xs ≡ take (position_or_len is_separator xs) xs ∷ words (drop (position_or_len is_separator xs) xs)

words_of_word : (b : ℕ) (bs : List ℕ) → is_separator b ≡ false → words (b ∷ bs) ≡ at_front (begins_word bs) b (words bs)
words_of_word b bs e = ap (λ v. if v then words bs else at_front (begins_word bs) b (words bs)) e

not_is : (b : ℕ) → not (is_separator b) ≡ true → is_separator b ≡ false
not_is b e = by (is_separator b) e
  where
    by : (v : Bool) → not v ≡ true → v ≡ false
    by true e = sym e
    by false e = refl

first_step : (b c : ℕ) (cs : List ℕ) (v : Bool) → is_separator b ≡ false → is_separator c ≡ v
    → (begins_word (c ∷ cs) ≡ true → IsFirst (c ∷ cs)) → IsFirst (b ∷ c ∷ cs)
first_step b c cs true eb ec ih =
    let one : position_or_len is_separator (b ∷ c ∷ cs) ≡ 1 =
    position_later is_separator b (c ∷ cs) eb ∙ ap suc (position_here is_separator c cs ec) in
    words_of_word b (c ∷ cs) eb ∙ ap (λ v. at_front (not v) b (words (c ∷ cs))) ec
    ∙ ap (λ n. take n (b ∷ c ∷ cs) ∷ words (drop n (b ∷ c ∷ cs))) (sym one)
first_step b c cs false eb ec ih =
    words_of_word b (c ∷ cs) eb ∙ ap (λ v. at_front (not v) b (words (c ∷ cs))) ec
    ∙ ap (at_front true b) (ih (ap not ec))
    ∙ ap (λ n. take n (b ∷ c ∷ cs) ∷ words (drop n (b ∷ c ∷ cs))) (sym (position_later is_separator b (c ∷ cs) eb))

pub words_first : (xs : List ℕ) → begins_word xs ≡ true → IsFirst xs
words_first [] begins = absurd (false≢true begins)
words_first (b ∷ []) begins =
    let e = not_is b begins in
    words_of_word b [] e ∙ ap (λ n. take n (b ∷ []) ∷ words (drop n (b ∷ [])))
    (sym (position_later is_separator b [] e))
words_first (b ∷ c ∷ cs) begins = first_step b c cs (is_separator c) (not_is b begins) refl (words_first (c ∷ cs))

-- the place that was found
found_is : (test : Bool) (n i : ℕ) → cond test (Some n) None ≡ Some i → (n ≡ i) × (test ≡ true)
found_is true n i e = (cc, refl)
found_is false n i e = absurd cc

pub place_is : (p : ℕ → Bool) (xs : List ℕ) (i : ℕ)
    → cond (nat_lt (position_or_len p xs) (length xs)) (Some (position_or_len p xs)) None ≡ Some i
    → position_or_len p xs ≡ i
place_is p xs i e = (found_is _ _ _ e).0

pub place_within : (p : ℕ → Bool) (xs : List ℕ) (i : ℕ)
    → cond (nat_lt (position_or_len p xs) (length xs)) (Some (position_or_len p xs)) None ≡ Some i → i < length xs
place_within p xs i e = let f = found_is _ _ _ e in let lt = f.1 in grind (arith, nat_tests, f.0, lt)

-- what is left of a list when all of it is taken
pub take_rest : (xs : List ℕ) (n : ℕ) → take (length xs - n) (drop n xs) ≡ drop n xs
take_rest xs n = take_all _ _ (omega (arith, length-drop n xs))

-- none was found
pub whole_is : (p : ℕ → Bool) (xs : List ℕ) → cond (nat_lt (position_or_len p xs) (length xs))
    (Some (position_or_len p xs)) None ≡ None → length xs ≤ position_or_len p xs
whole_is p xs e = none_is_past _ _ e

-- the words of a text whose first word begins at one place and ends at another
pub words_at : (xs rest : List ℕ) (start end : ℕ) → position_or_len is_other xs ≡ start → start < length xs
    → rest ≡ drop start xs
    → position_or_len is_separator rest ≡ end → words xs ≡ take end rest ∷ words (drop end rest)
words_at xs rest start end first lt is second =
    let begins : begins_word rest ≡ true = ap begins_word is ∙ ap (λ n. begins_word (drop n xs)) (sym first) ∙
    begins_behind xs (omega (arith, first)) in
    sym (words_skip xs) ∙ ap (λ n. words (drop n xs)) first ∙ sym (ap words is)
    ∙ words_first rest begins ∙ ap (λ n. take n rest ∷ words (drop n rest)) second

-- and of one whose first word is its last
pub words_alone : (xs rest : List ℕ) (start : ℕ) → position_or_len is_other xs ≡ start → start < length xs
    → rest ≡ drop start xs
    → length rest ≤ position_or_len is_separator rest → words xs ≡ rest ∷ []
words_alone xs rest start first lt is all =
    words_at xs rest start (position_or_len is_separator rest) first lt is refl
    ∙ ap (λ (x : List ℕ). x ∷ words (drop (position_or_len is_separator rest) rest))
    (take_all (position_or_len is_separator rest) rest all)
    ∙ ap (λ (x : List ℕ). rest ∷ words x) (drop_all (position_or_len is_separator rest) rest all)
