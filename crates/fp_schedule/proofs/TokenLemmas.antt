-- The tokens of a text, one after another.
use Rattle.std.proofs.Common.{◌≡◌, ℕ, suc, ◌+◌, ◌≤◌, ◌<◌, List, [], ◌∷◌, length, get_or, take, drop, drop-cons, Bool, true, false, cond, not, refl, ap, sym, ◌∙◌, arith, nat_lt}
use Rattle.std.specs.Prelude.{filter, IfSome, slice_get}
use Rattle.std.specs.List.{after_first, before_first, onto_first, position_or_len, slice_split}
use Rattle.std.proofs.lemmas.Bool.{lt-ltb}
use Rattle.std.proofs.lemmas.List.{length-take}
use Rattle.std.proofs.lemmas.List.Splits.{slice_split-cons_no, slice_split-cons_yes, slice_split_first}
use Rattle.std.proofs.lemmas.List.Sums.{passes_at_first}
use Rattle.fp_schedule.specs.Schedule.{separates, tokens_of}

abbrev pub keeps : ℕ → Bool
keeps b = not (separates b)

abbrev has_bytes : List ℕ → Bool
has_bytes part = nat_lt 0 (length part)

-- a separator in front makes no token
pub separator_first : (b : ℕ) (bs : List ℕ) → separates b ≡ true → tokens_of (b ∷ bs) ≡ tokens_of bs
separator_first b bs is = ap (filter has_bytes) (slice_split-cons_yes separates b bs is)

skip_by : (b : ℕ) (bs : List ℕ) (test : Bool) → separates b ≡ test
    → tokens_of (drop (position_or_len keeps bs) bs) ≡ tokens_of bs
    → tokens_of (drop (cond (not (not test)) (1 + position_or_len keeps bs) 0) (b ∷ bs)) ≡ tokens_of (b ∷ bs)
skip_by b bs true is rest =
    let more : 1 + position_or_len keeps bs ≡ suc (position_or_len keeps bs) = omega arith in
    rw more (rest ∙ sym (separator_first b bs is))
skip_by b bs false is rest = refl

-- without the separators in front
pub unseparated_tokens : (bs : List ℕ) → tokens_of (drop (position_or_len keeps bs) bs) ≡ tokens_of bs
unseparated_tokens [] = refl
unseparated_tokens (b ∷ bs) = skip_by b bs (separates b) refl (unseparated_tokens bs)

-- ---- the first token of a text that begins with none of the separators

abbrev pub end_of : List ℕ → ℕ
end_of bs = position_or_len separates bs

cut_front : (part : List ℕ) (parts : List (List ℕ)) → 0 < length part
    → filter has_bytes (part ∷ parts) ≡ part ∷ filter has_bytes parts
cut_front part parts some = let yes : nat_lt 0 (length part) ≡ true = lt-ltb _ _ some in rw yes refl

-- where a separator follows, the token ends before it
pub token_before_more : (bs : List ℕ) → 0 < end_of bs → end_of bs < length bs
    → tokens_of bs ≡ take (end_of bs) bs ∷ tokens_of (drop (end_of bs) bs)
token_before_more bs some lt =
    let long : 0 < length (take (end_of bs) bs) = omega (arith, length-take (end_of bs) bs) in
    let next : suc (end_of bs) ≡ end_of bs + 1 = omega arith in
    let here : drop (end_of bs) bs ≡ get_or bs (end_of bs) 0 ∷ after_first separates bs =
    drop-cons bs (end_of bs) 0 lt ∙ ap (λ (n : ℕ). get_or bs (end_of bs) 0 ∷ drop n bs) next in
    ap (filter has_bytes) (slice_split_first separates bs 0 lt)
    ∙ cut_front (before_first separates bs) (slice_split separates (after_first separates bs)) long
    ∙ ap (λ (rest : List (List ℕ)). take (end_of bs) bs ∷ rest)
    (sym (ap tokens_of here ∙ separator_first (get_or bs (end_of bs) 0) (after_first separates bs)
    (passes_at_first separates bs 0 lt)))

unsplit_by : (b : ℕ) (bs : List ℕ) (test : Bool) → separates b ≡ test
    → length (b ∷ bs) ≤ cond (not test) (1 + end_of bs) 0
    → (length bs ≤ end_of bs → slice_split separates bs ≡ bs ∷ []) → slice_split separates (b ∷ bs) ≡ (b ∷ bs) ∷ []
unsplit_by b bs true is le rest = absurd (omega arith)
unsplit_by b bs false is le rest =
    slice_split-cons_no separates b bs is ∙ ap (onto_first b) (rest (omega arith))

unsplit : (bs : List ℕ) → length bs ≤ end_of bs → slice_split separates bs ≡ bs ∷ []
unsplit [] le = refl
unsplit (b ∷ bs) le = unsplit_by b bs (separates b) refl le (unsplit bs)

-- where none follows, it is the whole text
pub token_alone : (bs : List ℕ) → length bs ≤ end_of bs → 0 < length bs → tokens_of bs ≡ bs ∷ []
token_alone bs le some = ap (filter has_bytes) (unsplit bs le) ∙ cut_front bs [] some

-- a text that begins with no separator begins with a token
starts_by : (test : Bool) (n : ℕ) → test ≡ false → 0 < cond (not test) (1 + n) 0
starts_by true n is = absurd cc
starts_by false n is = omega arith

pub starts_within : (bs : List ℕ) → 0 < length bs → IfSome (slice_get bs 0) (λ b. separates b ≡ false) → 0 < end_of bs
starts_within [] some is = absurd (omega arith)
starts_within (b ∷ bs) some is = starts_by (separates b) (end_of bs) is
