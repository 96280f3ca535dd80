-- Reply lines that are sent, and terminals that wait no more.
use Rattle.std.proofs.Common.{◌≡◌, refl, sym, ◌∙◌, ap, arith, ℕ, zero, suc, ◌+◌, ◌<◌, List, [], ◌∷◌, ◌++◌, take, drop, filter, Bool, true, false, not, ◌&&◌, ◌||◌}
use Rattle.std.specs.List.{flat_map}
use Rattle.std.proofs.lemmas.List.{append-nil}
use Rattle.std.proofs.lemmas.List.Concat.{flat_map-append, flat_map-cons}
use Rattle.std.proofs.lemmas.List.Folds.{list_any-append}
use Rattle.std.proofs.lemmas.Map.Views.{any-filter_same}
use Rattle.balancing.specs.Backlog.{AreSame, without}
use Rattle.balancing.proofs.NameLemmas.{flipped}
use Rattle.fp_model.specs.Machine.{is_among, same_name}
use Rattle.fp_model.specs.declared.name.Name.{Name}
use Rattle.fp_core.specs.inside.Sealing.{AreFreed}
use Rattle.model_laws.proofs.Texts.{same_names}

-- ---- terminals

-- without names that are told
among_without : (told busy : List Name) (name : Name)
    → is_among (filter (λ other. not (is_among told other)) busy) name ≡
    (not (is_among told name) && is_among busy name)
among_without told busy name =
    any-filter_same (same_name name) (λ other. not (is_among told other)) (not (is_among told name))
    (λ other same. ap (λ n. not (is_among told n)) (sym (same_names name other same))) busy

-- none is answered
pub freed_none : (names : List Name) → AreFreed names names []
freed_none names name = refl

-- one is answered
pub freed_one : (old new : List Name) (name : Name) → AreSame new (without name old) → AreFreed old new (name ∷ [])
freed_one old new name same other =
    same other
    ∙ any-filter_same (same_name other) (λ q. not (same_name name q)) (not (same_name name other))
    (λ q is. ap (λ n. not (same_name name n)) (sym (same_names other q is))) old
    ∙ ap (λ b. not b && is_among old other) (flipped name other ∙ by (same_name other name))
  where
    by : (b : Bool) → b ≡ (b || false)
    by true = refl
    by false = refl

-- these, and then those
pub freed_both : (a b c s t : List Name) → AreFreed a b s → AreFreed b c t → AreFreed a c (s ++ t)
freed_both a b c s t first then_more name =
    then_more name
    ∙ ap (λ x. not (is_among t name) && x) (first name)
    ∙ by (is_among s name) (is_among t name) (is_among a name)
    ∙ ap (λ x. not x && is_among a name) (sym (list_any-append (same_name name) s t))
  where
    by : (p q r : Bool) → (not q && (not p && r)) ≡ (not (p || q) && r)
    by true true r = refl
    by true false r = refl
    by false true r = refl
    by false false r = refl

-- what is the same as the machine's stays so
pub freed_same : (old new names told : List Name) → AreFreed old new told → AreSame old names
    → AreSame new (filter (λ other. not (is_among told other)) names)
freed_same old new names told freed same name =
    freed name ∙ ap (λ x. not (is_among told name) && x) (same name) ∙ sym (among_without told names name)

-- ---- the next of a list

pub drop_next : {A : Type 0} (k : ℕ) (xs : List A) (x : A) (ys : List A) → drop k xs ≡ x ∷ ys → drop (suc k) xs ≡ ys
drop_next zero [] x ys e = absurd cc
drop_next zero (y ∷ xs) x ys e = cc
drop_next (suc k) [] x ys e = absurd cc
drop_next (suc k) (y ∷ xs) x ys e = drop_next k xs x ys e

pub take_next : {A : Type 0} (k : ℕ) (xs : List A) (x : A) (ys : List A) → drop k xs ≡ x ∷ ys
    → take (suc k) xs ≡ take k xs ++ x ∷ []
take_next zero [] x ys e = absurd cc
take_next zero (y ∷ xs) x ys e = let same : y ≡ x = cc in ap (λ z. z ∷ []) same
take_next (suc k) [] x ys e = absurd cc
take_next (suc k) (y ∷ xs) x ys e = ap (λ zs. y ∷ zs) (take_next k xs x ys e)

-- more of a list begins with less of it
pub take_goes_on : {A : Type 0} (k n : ℕ) (xs : List A) → k < n → (zs : List A) × (take n xs ≡ take (suc k) xs ++ zs)
take_goes_on k zero xs less = absurd (omega (arith, less))
take_goes_on k (suc n) [] less = ([], refl)
take_goes_on zero (suc n) (x ∷ xs) less = (take n xs, refl)
take_goes_on (suc k) (suc n) (x ∷ xs) less =
    let more = take_goes_on k n xs (omega (arith, less)) in (more.0, ap (λ ys. x ∷ ys) more.1)

-- so for what each of them gives
pub flat_next : {A B : Type 0} (f : A → List B) (k : ℕ) (xs : List A) (x : A) (ys : List A) → drop k xs ≡ x ∷ ys
    → flat_map f (take (k + 1) xs) ≡ flat_map f (take k xs) ++ f x
flat_next f k xs x ys e =
    let one : k + 1 ≡ suc k = omega arith in
    ap (λ (j : ℕ). flat_map f (take j xs)) one
    ∙ ap (flat_map f) (take_next k xs x ys e)
    ∙ flat_map-append f (take k xs) (x ∷ [])
    ∙ ap (λ bs. flat_map f (take k xs) ++ bs) (flat_map-cons f x [] ∙ append-nil (f x))

pub flat_goes_on : {A B : Type 0} (f : A → List B) (k n : ℕ) (xs : List A) (x : A) (ys : List A) → k < n
    → drop k xs ≡ x ∷ ys → (zs : List B) × (flat_map f (take n xs) ≡ (flat_map f (take k xs) ++ f x) ++ zs)
flat_goes_on f k n xs x ys less e =
    let more = take_goes_on k n xs less in
    let one : k + 1 ≡ suc k = omega arith in
    let next = ap (λ (j : ℕ). flat_map f (take j xs)) (sym one) ∙ flat_next f k xs x ys e in (
      flat_map f more.0,
      ap (flat_map f) more.1 ∙ flat_map-append f (take (suc k) xs) more.0 ∙ ap (λ bs. bs ++ flat_map f more.0) next,
    )
