-- The paths of inserts: they begin at a root, go down by direct steps, and end at the bytes that are put.
use Rattle.std.proofs.Common.{◌≡◌, ℕ, zero, suc, ◌+◌, ◌<◌, ◌≤◌, List, [], ◌∷◌, ◌++◌, map, length, get_or, Option, Some, None, refl, sym, ◌∙◌, ap, subst, Bool, true, false, not, nat_lt, slice_get, arith}
use Rattle.std.specs.Prelude.{IfSome, cond, is_some, unwrap_or}
use Rattle.std.specs.List.{AllByRecursion, position_or_len}
use Rattle.std.specs.Option.{option_map_or}
use Rattle.std.proofs.lemmas.List.Sums.{position_or_len_is}
use Rattle.std.proofs.lemmas.Option.{get_or_from_slice_get, none-some, same_Some, slice_get_within}
use Rattle.fp_model.specs.declared.calls.Ssa.{Ssa}
use Rattle.fp_model.specs.declared.definitions.DedbDef.{DedbDef}
use Rattle.fp_model.specs.declared.definitions.SegDef.{SegDef}
use Rattle.fp_model.specs.DedbCalls.{are_insert_arguments, insert_path, is_qualified, only_last_unqualified, type_of_last}
use Rattle.fp_model.specs.FitCalls.{AreFitSsas}
use Rattle.fp_model.specs.Order.{Step, direct, is_sequential, key_in, last_type, line_to, line_within, parent_of, sequential_type}
use Rattle.fp_model.specs.Shape.{has_length}
use Rattle.fp_model.specs.Texts.{same_text}
use Rattle.fp_model.specs.WellFormed.{HasPlace, HavePlaces}
use Rattle.state_laws.specs.Edits.{AreDirect, FitsEnd}
use Rattle.state_laws.proofs.Lists.{true_is_not_false}
use Rattle.plain_laws.proofs.Truths.{first_of_both, second_of_both}
use Rattle.plain_laws.proofs.Places.{get_there}
use Rattle.plain_laws.proofs.Numbers.{lt_true}
use Rattle.model_laws.proofs.Texts.{same_text_is}

-- ---- segment types

pub place_at : (at n : ℕ) (types : List SegDef) (def : SegDef) → HavePlaces at types → slice_get types n ≡ Some def
    → HasPlace (at + n) def
place_at at n [] def places e = absurd (none-some def e)
place_at at zero (d ∷ ds) def places e =
    let here : HasPlace at def = subst (HasPlace at) (same_Some d def e) places.0 in
    let same : at ≡ at + 0 = omega arith in
    subst (λ (k : ℕ). HasPlace k def) same here
place_at at (suc n) (d ∷ ds) def places e =
    let same : at + 1 + n ≡ at + suc n = omega arith in
    subst (λ (k : ℕ). HasPlace k def) same (place_at (at + 1) n ds def places.1 e)

-- where a type stands
pub its_place : (types : List SegDef) (type : ℕ) (def : SegDef) → HavePlaces 0 types → slice_get types type ≡ Some def
    → HasPlace type def
its_place types type def places e =
    let same : 0 + type ≡ type = omega arith in
    subst (λ (k : ℕ). HasPlace k def) same (place_at 0 type types def places e)

-- the sequential type is the second
module _ (types : List SegDef) (places : HavePlaces 0 types) (type : ℕ) (def : SegDef)
    (at : slice_get types type ≡ Some def) (sequential : def.sequential ≡ true) where
  second_type : type ≡ 1
  second_type = ((its_place types type def places at).3 sequential).0

  none_before : (k : ℕ) → k < 1 → (get_or types k def).sequential ≡ false
  none_before k low =
      let below : k < length types = omega (arith, low, second_type, slice_get_within types type def at) in
      let first = get_there types k below in
      let zero_place : k ≡ 0 = omega (arith, low) in
      by first.0 first.1 (get_or_from_slice_get types k first.0 def first.1) first.0.sequential refl zero_place
    where
      by : (d : SegDef) → slice_get types k ≡ Some d → get_or types k def ≡ d → (b : Bool) → d.sequential ≡ b → k ≡ 0
          → (get_or types k def).sequential ≡ false
      by d there is true e low =
          let second = ((its_place types k d places there).3 e).0 in
          absurd (omega (arith, second, low))
      by d there is false e low = ap (λ (x : SegDef). x.sequential) is ∙ e

  found_at : position_or_len (λ (d : SegDef). d.sequential) types ≡ type
  found_at = position_or_len_is (λ (d : SegDef). d.sequential) types type def
      (let low = slice_get_within types type def at in omega (arith, low))
      (λ k low. none_before k (omega (arith, low, second_type)))
      (λ low. ap (λ (x : SegDef). x.sequential) (get_or_from_slice_get types type def def at) ∙ sequential)

  pub found_sequential : sequential_type types ≡ Some type
  found_sequential =
      ap (λ (n : ℕ). cond (nat_lt n (length types)) (Some n) None) found_at
      ∙ ap (λ b. cond b (Some type) None) (lt_true type (length types) (slice_get_within types type def at))

pub sequential_found : (types : List SegDef) (type : ℕ) → HavePlaces 0 types → is_sequential types type ≡ true
    → sequential_type types ≡ Some type
sequential_found types type places e = by (slice_get types type) refl e
  where
    by : (o : Option SegDef) → slice_get types type ≡ o → option_map_or (λ (d : SegDef). d.sequential) o false ≡ true
        → sequential_type types ≡ Some type
    by None at e = absurd (true_is_not_false (sym e))
    by (Some d) at e = found_sequential types places type d at e

-- ---- the line from the root to a type

head_append : (xs ys : List ℕ) (x : ℕ) → slice_get xs 0 ≡ Some x → slice_get (xs ++ ys) 0 ≡ Some x
head_append [] ys x e = absurd (none-some x e)
head_append (z ∷ zs) ys x e = e

line_begins : (n type : ℕ) (types : List SegDef) → HavePlaces 0 types → type ≤ n → type < length types
    → slice_get (line_within n types type) 0 ≡ Some 0
line_begins zero type types places low within =
    let none : type ≡ 0 = omega (arith, low) in ap (λ (k : ℕ). Some k) none
line_begins (suc n) type types places low within =
    let its = get_there types type within in
    by its.0 its.1 (its_place types type its.0 places its.1) its.0.parent refl (line_begins n)
  where
    by : (def : SegDef) → slice_get types type ≡ Some def → HasPlace type def → (o : Option ℕ) → def.parent ≡ o
        → ((p : ℕ) (types : List SegDef) → HavePlaces 0 types → p ≤ n → p < length types
        → slice_get (line_within n types p) 0 ≡ Some 0)
        → slice_get (option_map_or (λ p. line_within n types p ++ type ∷ []) (parent_of types type) (type ∷ [])) 0
        ≡ Some 0
    by def at place None is later =
        let parent : parent_of types type ≡ None = rw at is in
        let none : type ≡ 0 = place.1 is in
        ap (λ (o : Option ℕ). slice_get (option_map_or (λ p. line_within n types p ++ type ∷ []) o (type ∷ [])) 0)
        parent
        ∙ ap (λ (k : ℕ). Some k) none
    by def at place (Some p) is later =
        let parent : parent_of types type ≡ Some p = rw at is in
        let less : p < type = subst (λ (o : Option ℕ). IfSome o (λ q. q < type)) is place.0 in
        ap (λ (o : Option ℕ). slice_get (option_map_or (λ p. line_within n types p ++ type ∷ []) o (type ∷ [])) 0)
        parent
        ∙ head_append (line_within n types p) (type ∷ []) 0
        (later p types places (omega (arith, less, low)) (omega (arith, less, within)))

-- ---- the paths of inserts

module _ (def : DedbDef) (dedb : ℕ) (bytes : List ℕ) where
  step_of : Ssa → Step
  step_of a = direct a.segment (unwrap_or a.key (key_in def.segments a.segment bytes))

  all_direct : (ssas : List Ssa) → AllByRecursion (λ s. s.serial ≡ 0) (insert_path def dedb ssas bytes)
  all_direct [] = tt
  all_direct (a ∷ ssas) = (refl, all_direct ssas)

  pub last_is : (ssas : List Ssa) → type_of_last def dedb ssas ≡ last_type 0 ssas
  last_is [] = refl
  last_is (a ∷ []) = refl
  last_is (a ∷ b ∷ rest) = last_is (b ∷ rest)

  last_within : (ssas : List Ssa) → only_last_unqualified def dedb ssas ≡ true → AreFitSsas def.segments ssas
      → type_of_last def dedb ssas < length def.segments
  last_within [] e fit = absurd (true_is_not_false (sym e))
  last_within (a ∷ []) e fit = slice_get_within def.segments a.segment fit.0.def fit.0.named
  last_within (a ∷ b ∷ rest) e fit =
      last_within (b ∷ rest) (second_of_both (is_qualified a) (only_last_unqualified def dedb (b ∷ rest)) e) fit.1

  pub ends_fit : (ssas : List Ssa) → only_last_unqualified def dedb ssas ≡ true
      → has_length def.segments (last_type 0 ssas) bytes ≡ true
      → FitsEnd def.segments (insert_path def dedb ssas bytes) bytes
  ends_fit [] e long = tt
  ends_fit (a ∷ []) e long = (long, by a.key refl e)
    where
      by : (o : Option (List ℕ)) → a.key ≡ o → not (is_some a.key) ≡ true
          → key_in def.segments a.segment bytes ≡ unwrap_or a.key (key_in def.segments a.segment bytes)
      by None is e = sym (ap (λ (o : Option (List ℕ)). unwrap_or o (key_in def.segments a.segment bytes)) is)
      by (Some key) is e =
          absurd (true_is_not_false (sym e ∙ ap (λ (o : Option (List ℕ)). not (is_some o)) is))
  ends_fit (a ∷ b ∷ rest) e long =
      ends_fit (b ∷ rest) (second_of_both (is_qualified a) (only_last_unqualified def dedb (b ∷ rest)) e) long

  pub insert_direct : (ssas : List Ssa) → HavePlaces 0 def.segments → AreFitSsas def.segments ssas
      → are_insert_arguments def dedb ssas ≡ true → AreDirect (insert_path def dedb ssas bytes)
  insert_direct ssas places fit e =
      let type : ℕ = type_of_last def dedb ssas in
      let some = first_of_both (only_last_unqualified def dedb ssas)
      (same_text (map (λ a. a.segment) ssas) (line_to def.segments type)) e in
      let line = same_text_is (map (λ a. a.segment) ssas) (line_to def.segments type)
      (second_of_both (only_last_unqualified def dedb ssas)
      (same_text (map (λ a. a.segment) ssas) (line_to def.segments type)) e) in
      let within = last_within ssas some fit in
      let head : slice_get (map (λ (a : Ssa). a.segment) ssas) 0 ≡ Some 0 =
      ap (λ (l : List ℕ). slice_get l 0) line
      ∙ line_begins (length def.segments) type def.segments places (omega (arith, within)) within in
      (begins ssas head, all_direct ssas)
    where
      begins : (ssas : List Ssa) → slice_get (map (λ (a : Ssa). a.segment) ssas) 0 ≡ Some 0
          → IfSome (slice_get (insert_path def dedb ssas bytes) 0) (λ s. s.segment ≡ 0)
      begins [] e = tt
      begins (a ∷ rest) e = same_Some a.segment 0 e
