-- Texts that each were looked for among those before them are distinct.
use Rattle.std.proofs.Common.{◌≡◌, ℕ, List, [], ◌∷◌, ◌++◌, map, Bool, true, false, cond, Option, Some, None, Ok, Err, refl, sym, ap, subst, ◌∙◌, append_assoc}
use Rattle.std.specs.Prelude.{⊤}
use Rattle.std.specs.List.{IsDistinct}
use Rattle.std.specs.Option.{option_map_or}
use Rattle.std.proofs.lemmas.Cmp.{nat_list_eq_equiv}
use Rattle.std.proofs.lemmas.List.{map-append}
use Rattle.std.proofs.lemmas.Map.Keys.{IsDistinct-push}
use Rattle.fp_model.specs.Texts.{same_text, trimmed}
use Rattle.fp_model.specs.declared.name.Name.{Name}
use Rattle.def_tables.specs.Keys.{occurs, repeated, once, all_once}
use Rattle.def_tables.specs.declared.fault.DefsFault.{DefsFault}
use Rattle.def_tables.specs.declared.fault.DefsFault.TheVariants.{Twice}
use Rattle.fp_defs.proofs.Beside.{Beside}

pub nothing_more : {A : Type 0} (xs : List A) → xs ++ [] ≡ xs
nothing_more [] = refl
nothing_more (x ∷ xs) = ap (λ ys. x ∷ ys) (nothing_more xs)

none_of : (b : Bool) (t : List ℕ) (rest : Option (List ℕ)) → cond b (Some t) rest ≡ None → (b ≡ false) × (rest ≡ None)
none_of true t rest e = absurd (cc)
none_of false t rest e = (refl, e)

-- one more text that doesn't occur
pub one_more : (before : List (List ℕ)) (t : List ℕ) → IsDistinct same_text before → occurs before t ≡ false
    → IsDistinct same_text (before ++ t ∷ [])
one_more before t distinct new = IsDistinct-push nat_list_eq_equiv before t distinct new

-- texts of which none occurred before
pub none_repeated : (before texts : List (List ℕ)) → IsDistinct same_text before → repeated before texts ≡ None
    → IsDistinct same_text (before ++ texts)
none_repeated before [] distinct e = subst (IsDistinct same_text) (sym (nothing_more before)) distinct
none_repeated before (t ∷ ts) distinct e =
    let h = none_of (occurs before t) t (repeated (before ++ t ∷ []) ts) e in
    subst (IsDistinct same_text) (append_assoc before (t ∷ []) ts)
    (none_repeated (before ++ t ∷ []) ts (one_more before t distinct h.0) h.1)

pub no_texts : IsDistinct same_text []
unfolding IsDistinct
no_texts = tt

none_if_ok : (o : Option (List ℕ)) (done : ⊤) → option_map_or (λ text. Err (Twice (trimmed text))) o (Ok tt) ≡ Ok done
    → o ≡ None
none_if_ok None done e = refl
none_if_ok (Some text) done e = absurd (cc)

pub all_once-distinct : (texts : List (List ℕ)) (done : ⊤) → all_once texts ≡ Ok done → IsDistinct same_text texts
unfolding all_once
all_once-distinct texts done e = none_repeated [] texts no_texts (none_if_ok (repeated [] texts) done e)

new_by : (b : Bool) (fault : DefsFault) (name is : Name) → cond b (Err fault) (Ok name) ≡ Ok is → (b ≡ false)
    × (name ≡ is)
new_by true fault name is e = absurd (cc)
new_by false fault name is e = (refl, cc)

-- a name that was looked for is new
pub once-new : (before : List (List ℕ)) (name is : Name) → once before name ≡ Ok is → (occurs before is.0 ≡ false)
    × (name ≡ is)
unfolding once
once-new before name is e =
    let h = new_by (occurs before name.0) (Twice (trimmed name.0)) name is e in
    (subst (λ (n : Name). occurs before n.0 ≡ false) h.1 h.0, h.1)

-- names that each were looked for among others and those before
pub distinct_beside : {A : Type 0} (text : A → List ℕ) (others : List (List ℕ)) (before ys : List A)
    → IsDistinct same_text (others ++ map text before)
    → Beside (λ earlier y. occurs (others ++ map text earlier) (text y) ≡ false) before ys
    → IsDistinct same_text (others ++ map text (before ++ ys))
distinct_beside {A} text others before [] distinct all =
    subst (λ (zs : List A). IsDistinct same_text (others ++ map text zs)) (sym (nothing_more before)) distinct
distinct_beside {A} text others before (y ∷ ys) distinct all =
    let more : IsDistinct same_text (others ++ map text (before ++ y ∷ [])) =
    subst (IsDistinct same_text) (append_assoc others (map text before) (text y ∷ []) ∙ ap
    (λ (ts : List (List ℕ)). others ++ ts) (sym (map-append text before (y ∷ []))))
    (one_more (others ++ map text before) (text y) distinct all.0)
    in
    subst (λ (zs : List A). IsDistinct same_text (others ++ map text zs)) (append_assoc before (y ∷ []) ys)
    (distinct_beside text others (before ++ y ∷ []) ys more all.1)
