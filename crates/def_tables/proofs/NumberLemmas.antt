-- Numbers as texts: digits from left to right, and numbers that no field holds.
use Rattle.std.proofs.Common.{◌≡◌, ◌≢◌, ℕ, zero, suc, ◌+◌, ◌-◌, ◌*◌, ◌^◌, ◌<◌, ◌≤◌, List, [], ◌∷◌, length, map, take, get_or, min, Bool, true, false, cond, ◌&&◌, nat_le, nat_lt, Option, Some, None, option_map, ℤ, pos, neg_ℤ, inl, inr, refl, sym, ap, ◌∙◌, arith, ◌==◌}
use Rattle.std.proofs.Math.Nat.{pow-le-pow_right}
use Rattle.std.proofs.lemmas.List.{take_more, map-append}
use Rattle.std.proofs.lemmas.Bool.Decides.{nat_tests}
use Rattle.std.proofs.lemmas.Bool.{cases_lt}
use Rattle.packed_dec.proofs.Digits.{value_snoc}
use Rattle.fp_model.specs.declared.definitions.FieldKind.{FieldKind}
use Rattle.fp_model.specs.declared.definitions.FieldKind.TheVariants.{C, X, H, F, P}
use Rattle.fp_model.specs.Numbers.{bytes_of}
use Rattle.fp_model.specs.Texts.{value}
use Rattle.def_tables.specs.Values.{bytes_if, digits_of, number_of_text, number_loaded}

-- ---- digits from left to right

-- one digit more
pub value_more : (text : List ℕ) (i : ℕ) → i < length text
    → value 10 (map (λ c. c - 48) (take (i + 1) text)) ≡ value 10 (map (λ c. c - 48) (take i text)) * 10 +
    (get_or text i 0 - 48)
value_more text i within =
    ap (λ t. value 10 (map (λ c. c - 48) t)) (take_more text i 0 within)
    ∙ ap (value 10) (map-append (λ c. c - 48) (take i text) (get_or text i 0 ∷ []))
    ∙ value_snoc 10 (map (λ c. c - 48) (take i text)) (get_or text i 0 - 48)

-- cut at a limit before each digit or after all
pub cut_more : (most v d : ℕ) → min (min v most * 10 + d) most ≡ min (v * 10 + d) most
cut_more most v d = grind arith

-- ---- numbers that no field holds

-- a number past all fields
abbrev IsPast : ℕ → Type 0
IsPast n = 10 ^ 31 ≤ n

test_false : {A : Type 0} (b : Bool) (x y : A) → b ≡ false → cond b x y ≡ y
test_false b x y e = rw e

none_either : {A : Type 0} (b : Bool) (x : Option A) → x ≡ None → cond b x None ≡ None
none_either true x e = e
none_either false x e = refl

past_x : (n size : ℕ) → IsPast n → (nat_le 1 size && nat_le size 8) ≡ true → nat_lt n (256 ^ size) ≡ false
past_x n size past fits =
    let few : size ≤ 8 = grind (arith, nat_tests) in
    let small : 256 ^ size ≤ 256 ^ 8 = pow-le-pow_right (omega arith) few in
    grind (arith, nat_tests)

past_p : (n size : ℕ) → IsPast n → (nat_le 1 size && nat_le size 16) ≡ true → nat_lt n (10 ^ (2 * size - 1)) ≡ false
past_p n size past fits =
    let few : 2 * size - 1 ≤ 31 = grind (arith, nat_tests) in
    let small : 10 ^ (2 * size - 1) ≤ 10 ^ 31 = pow-le-pow_right (omega arith) few in
    grind (arith, nat_tests)

where_true : {A : Type 0} (b : Bool) (x : Option A) → (b ≡ true → x ≡ None) → cond b x None ≡ None
where_true true x h = h refl
where_true false x h = refl

past_pos : (kind : FieldKind) (size n : ℕ) → IsPast n → bytes_of kind size (pos n) ≡ None
past_pos C size n past = refl
past_pos X size n past = where_true (nat_le 1 size && nat_le size 8) _ (λ e. test_false _ _ _ (past_x n size past e))
past_pos H size n past = where_true (size == 2) _ (λ e. test_false (nat_lt n (2 ^ 15)) _ _ (grind (arith, nat_tests)))
past_pos F size n past = where_true (size == 4) _ (λ e. test_false (nat_lt n (2 ^ 31)) _ _ (grind (arith, nat_tests)))
past_pos P size n past = where_true (nat_le 1 size && nat_le size 16) _ (λ e. test_false _ _ _ (past_p n size past e))

past_neg : (kind : FieldKind) (size n : ℕ) → IsPast n → bytes_of kind size (neg_ℤ (pos n)) ≡ None
past_neg kind size zero past = absurd (omega arith)
past_neg C size (suc n) past = refl
past_neg X size (suc n) past = none_either (nat_le 1 size && nat_le size 8) _ refl
past_neg H size (suc n) past = where_true (size == 2) _
    (λ e. test_false (nat_lt n (2 ^ 15)) _ _ (grind (arith, nat_tests)))
past_neg F size (suc n) past = where_true (size == 4) _
    (λ e. test_false (nat_lt n (2 ^ 31)) _ _ (grind (arith, nat_tests)))
past_neg P size (suc n) past = where_true (nat_le 1 size && nat_le size 16) _
    (λ e. test_false _ _ _ (past_p (suc n) size past e))

-- a number and the number cut at 10^31 have the same bytes
cut_alike : (give : ℕ → Option (List ℕ)) → ((n : ℕ) → IsPast n → give n ≡ None) → (n : ℕ)
    → give (min n (10 ^ 31)) ≡ give n
cut_alike give past n =
    elim (cases_lt n (10 ^ 31)) [
      | inl h ↦ ap give (grind arith)
      | inr h ↦
          (ap give (grind arith) ∙ past (10 ^ 31) (omega arith)) ∙ sym (past n (omega arith))
    ]

alike_pos : (kind : FieldKind) (size : ℕ) (digits : Option ℕ)
    → bytes_if kind size (option_map pos (option_map (λ n. min n (10 ^ 31)) digits)) ≡ bytes_if kind size
    (option_map pos digits)
alike_pos kind size None = refl
alike_pos kind size (Some n) = cut_alike (λ m. bytes_of kind size (pos m)) (past_pos kind size) n

alike_neg : (kind : FieldKind) (size : ℕ) (digits : Option ℕ)
    → bytes_if kind size (option_map (λ n. neg_ℤ (pos n)) (option_map (λ n. min n (10 ^ 31)) digits)) ≡ bytes_if kind
    size (option_map (λ n. neg_ℤ (pos n)) digits)
alike_neg kind size None = refl
alike_neg kind size (Some n) = cut_alike (λ m. bytes_of kind size (neg_ℤ (pos m))) (past_neg kind size) n

-- ---- a text

minus_is : (text cs : List ℕ) (c : ℕ) → text ≡ c ∷ cs → c ≡ 45
    → number_of_text text ≡ option_map (λ n. neg_ℤ (pos n)) (digits_of cs)
unfolding number_of_text
minus_is text cs c is sign = rw (is, sign) refl

plus_by : (test : Bool) (c : ℕ) (cs : List ℕ) (a b : Option ℤ) → test ≡ false → cond test a b ≡ b
plus_by test c cs a b e = rw e

plus_is : (text cs : List ℕ) (c : ℕ) → text ≡ c ∷ cs → c ≢ 45 → number_of_text text ≡ option_map pos (digits_of text)
unfolding number_of_text
plus_is text cs c is apart = rw is (plus_by (c == 45) c cs _ _ (grind (arith, nat_tests)))

pub read_minus : (text cs : List ℕ) (c : ℕ) (read : Option ℕ) → text ≡ c ∷ cs → c ≡ 45
    → read ≡ option_map (λ n. min n (10 ^ 31)) (digits_of cs)
    → (kind : FieldKind) (size : ℕ) → bytes_if kind size (option_map (λ n. neg_ℤ (pos n)) read) ≡ number_loaded kind
    size text
read_minus text cs c read is sign e kind size =
    ap (λ r. bytes_if kind size (option_map (λ n. neg_ℤ (pos n)) r)) e
    ∙ alike_neg kind size (digits_of cs)
    ∙ ap (bytes_if kind size) (sym (minus_is text cs c is sign))

pub read_plus : (text cs : List ℕ) (c : ℕ) (read : Option ℕ) → text ≡ c ∷ cs → c ≢ 45
    → read ≡ option_map (λ n. min n (10 ^ 31)) (digits_of text)
    → (kind : FieldKind) (size : ℕ) → bytes_if kind size (option_map pos read) ≡ number_loaded kind size text
read_plus text cs c read is apart e kind size =
    ap (λ r. bytes_if kind size (option_map pos r)) e
    ∙ alike_pos kind size (digits_of text)
    ∙ ap (bytes_if kind size) (sym (plus_is text cs c is apart))

pub read_nothing : (text : List ℕ) (read : Option ℤ) → length text ≡ 0 → read ≡ None → (kind : FieldKind) (size : ℕ)
    → bytes_if kind size read ≡ number_loaded kind size text
unfolding number_of_text
read_nothing [] read none e kind size = ap (bytes_if kind size) e
read_nothing (c ∷ cs) read none e kind size = absurd (omega arith)
