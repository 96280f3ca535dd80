-- Arguments that name the types on the line down to one: from the last upwards.
use Rattle.std.proofs.Common.{◌≡◌, ℕ, zero, suc, ◌-◌, ◌≤◌, ◌<◌, List, [], ◌∷◌, ◌++◌, map, length, take, drop, Some, None, refl, sym, ◌∙◌, ap, Bool, true, false, ◌&&◌, ◌==◌, Option, slice_get, slice_index_or, unwrap_or, arith}
use Rattle.std.proofs.lemmas.Bool.Decides.{nat_tests}
use Rattle.std.specs.Option.{option_map_or}
use Rattle.fp_model.specs.declared.calls.Ssa.{Ssa}
use Rattle.fp_model.specs.declared.definitions.SegDef.{SegDef}
use Rattle.fp_model.specs.declared.definitions.DedbDef.{DedbDef}
use Rattle.fp_model.specs.DedbCalls.{key_of_path, type_of_path}
use Rattle.dli_tree.specs.Paths.{step_of, steps_of}
use Rattle.dli_tree.specs.declared.path.Step.{Step as StepOf}
use Rattle.fp_model.specs.Order.{line_within, parent_of}
use Rattle.fp_model.specs.Texts.{same_text}
use Rattle.plain_laws.proofs.Truths.{and_assoc, and_false, and_true}
use Rattle.plain_laws.proofs.Numbers.{other_number, same_number}

-- without its last, and the last
pub split : {X : Type 0} (xs : List X) (x : X) → 1 ≤ length xs → x ≡ slice_index_or xs (length xs - 1) x
    → xs ≡ take (length xs - 1) xs ++ x ∷ []
split [] x some is = absurd (omega (arith, some))
split (y ∷ []) x some is = ap (λ z. z ∷ []) (sym is)
split (y ∷ z ∷ zs) x some is =
    ap (λ rest. y ∷ rest) (split (z ∷ zs) x (omega arith) (is ∙ ap (λ n. slice_index_or (y ∷ z ∷ zs) n x) less))
    ∙ sym (ap (λ n. take n (y ∷ z ∷ zs) ++ x ∷ []) less)
  where
    less : length (y ∷ z ∷ zs) - 1 ≡ suc (length (z ∷ zs) - 1)
    less = omega arith

take_all : {X : Type 0} (xs : List X) → take (length xs) xs ≡ xs
take_all [] = refl
take_all (x ∷ xs) = ap (λ rest. x ∷ rest) (take_all xs)

-- the first, and the others
pub front_of : {X : Type 0} (xs : List X) (x : X) → 1 ≤ length xs → x ≡ slice_index_or xs 0 x
    → x ∷ take (length xs - 1) (drop 1 xs) ≡ xs
front_of [] x some is = absurd (omega (arith, some))
front_of (y ∷ ys) x some is =
    let less : length (y ∷ ys) - 1 ≡ length ys = omega arith in
    ap (λ n. x ∷ take n ys) less ∙ ap (λ rest. x ∷ rest) (take_all ys) ∙ ap (λ z. z ∷ ys) is

map_last : (ssas : List Ssa) (a : Ssa)
    → map (λ (b : Ssa). b.segment) (ssas ++ a ∷ []) ≡ map (λ (b : Ssa). b.segment) ssas ++ a.segment ∷ []
map_last [] a = refl
map_last (b ∷ bs) a = ap (λ rest. b.segment ∷ rest) (map_last bs a)

same_last : (xs ys : List ℕ) (x y : ℕ) → same_text (xs ++ x ∷ []) (ys ++ y ∷ []) ≡ (same_text xs ys && x == y)
same_last [] [] x y = and_true (x == y)
same_last [] (b ∷ []) x y = and_false (x == b)
same_last [] (b ∷ c ∷ cs) x y = and_false (x == b)
same_last (a ∷ []) [] x y = and_false (a == y)
same_last (a ∷ b ∷ bs) [] x y = and_false (a == y)
same_last (a ∷ as2) (b ∷ bs) x y =
    ap (λ rest. a == b && rest) (same_last as2 bs x y) ∙ and_assoc (a == b) (same_text as2 bs) (x == y)

-- none is as short as the empty list but itself
empty_is : (xs : List ℕ) → same_text xs [] ≡ (length xs == 0)
empty_is [] = refl
empty_is (x ∷ xs) = not_zero (length xs)
  where
    not_zero : (n : ℕ) → false ≡ (suc n == 0)
    not_zero n = grind (arith, nat_tests)

length_map : (ssas : List Ssa) → length (map (λ (b : Ssa). b.segment) ssas) ≡ length ssas
length_map [] = refl
length_map (a ∷ rest) = let later = length_map rest in omega (arith, later)

-- a line ends in its type
line_ends : (levels : ℕ) (types : List SegDef) (type : ℕ)
    → (front : List ℕ) × (line_within levels types type ≡ front ++ type ∷ [])
line_ends zero types type = ([], refl)
line_ends (suc n) types type = by (parent_of types type)
  where
    by : (o : Option ℕ) → (front : List ℕ)
        × (option_map_or (λ p. line_within n types p ++ type ∷ []) o (type ∷ []) ≡ front ++ type ∷ [])
    by None = ([], refl)
    by (Some p) = (line_within n types p, refl)

module _ (types : List SegDef) (type levels : ℕ) (ssas : List Ssa) (last : Ssa) (some : 1 ≤ length ssas)
    (is : last ≡ slice_index_or ssas (length ssas - 1) last) where
  abbrev front : List Ssa
  front = take (length ssas - 1) ssas

  abbrev named : List Ssa → List ℕ
  named list = map (λ (b : Ssa). b.segment) list

  parts : named ssas ≡ named front ++ last.segment ∷ []
  parts = ap named (split ssas last some is) ∙ map_last front last

  with_line : (line : List ℕ) → same_text (named ssas) (line ++ type ∷ [])
      ≡ (same_text (named front) line && last.segment == type)
  with_line line = ap (λ list. same_text list (line ++ type ∷ [])) parts ∙ same_last (named front) line last.segment
      type

  pub line_lacks : (last.segment ≡ type → ⊥) → false ≡ same_text (named ssas) (line_within levels types type)
  line_lacks other =
      let line = line_ends levels types type in
      sym (ap (same_text (named ssas)) line.1 ∙ with_line line.0
      ∙ ap (λ b. same_text (named front) line.0 && b) (other_number last.segment type other)
      ∙ and_false (same_text (named front) line.0))

  pub line_starts : last.segment ≡ type → (levels ≡ 0 → ⊥) → None ≡ parent_of types type
      → (length front == 0) ≡ same_text (named ssas) (line_within levels types type)
  line_starts same more none = sym (ap (same_text (named ssas)) (line levels more) ∙ with_line []
      ∙ ap (λ b. same_text (named front) [] && b) (same_number last.segment type same)
      ∙ and_true (same_text (named front) []) ∙ empty_is (named front) ∙ ap (λ n. n == 0) (length_map front))
    where
      line : (n : ℕ) → (n ≡ 0 → ⊥) → line_within n types type ≡ [] ++ type ∷ []
      line zero more = absurd (more refl)
      line (suc n) more =
          ap (λ o. option_map_or (λ p. line_within n types p ++ type ∷ []) o (type ∷ [])) (sym none)

  pub line_above : (parent : ℕ) → last.segment ≡ type → (levels ≡ 0 → ⊥) → Some parent ≡ parent_of types type
      → same_text (named front) (line_within (levels - 1) types parent)
      ≡ same_text (named ssas) (line_within levels types type)
  line_above parent same more up = sym (ap (same_text (named ssas)) (line levels more)
      ∙ with_line (line_within (levels - 1) types parent)
      ∙ ap (λ b. same_text (named front) (line_within (levels - 1) types parent) && b)
      (same_number last.segment type same)
      ∙ and_true (same_text (named front) (line_within (levels - 1) types parent)))
    where
      line : (n : ℕ) → (n ≡ 0 → ⊥) → line_within n types type ≡ line_within (n - 1) types parent ++ type ∷ []
      line zero more = absurd (more refl)
      line (suc n) more =
          ap (λ o. option_map_or (λ p. line_within n types p ++ type ∷ []) o (type ∷ [])) (sym up)
          ∙ ap (λ m. line_within m types parent ++ type ∷ []) (omega arith)

-- ---- the end of a path

pub ends_with : (def : DedbDef) (dedb : ℕ) (steps : List StepOf) (last : StepOf)
    → type_of_path def dedb (steps_of (steps ++ last ∷ [])) ≡ last.segment
ends_with def dedb [] last = refl
ends_with def dedb (s ∷ []) last = refl
ends_with def dedb (s ∷ t ∷ ts) last = ends_with def dedb (t ∷ ts) last

pub ends_with_key : (def : DedbDef) (dedb : ℕ) (steps : List StepOf) (last : StepOf)
    → key_of_path def dedb (steps_of (steps ++ last ∷ [])) ≡ last.key
ends_with_key def dedb [] last = refl
ends_with_key def dedb (s ∷ []) last = refl
ends_with_key def dedb (s ∷ t ∷ ts) last = ends_with_key def dedb (t ∷ ts) last

-- ---- the beginning of a path

pub first_there : {X : Type 0} (xs : List X) (x : X) → 1 ≤ length xs → x ≡ slice_index_or xs 0 x
    → slice_get xs 0 ≡ Some x
first_there [] x some is = absurd (omega (arith, some))
first_there (y ∷ ys) x some is = ap (λ z. Some z) (sym is)

pub first_step : (xs : List StepOf) (x : StepOf) → slice_get xs 0 ≡ Some x → slice_get (steps_of xs) 0 ≡ Some (step_of
    x)
first_step [] x e = absurd (cc)
first_step (y ∷ ys) x e = let same : y ≡ x = cc in ap (λ z. Some (step_of z)) same

-- ---- elements by their index

there : {X : Type 0} (xs : List X) (n : ℕ) (x : X) → n < length xs → x ≡ slice_index_or xs n x → slice_get xs n ≡ Some x
there [] n x less is = absurd (omega (arith, less))
there (y ∷ ys) zero x less is = ap (λ z. Some z) (sym is)
there (y ∷ ys) (suc n) x less is = there ys n x (omega (arith, less)) is

pub indexed : {X : Type 0} (xs ys : List X) (x : X) (n m : ℕ) → ys ≡ xs → m ≡ n → x ≡ slice_index_or ys m x
    → n < length xs → slice_get xs n ≡ Some x
indexed xs ys x n m same number is less =
    there xs n x less (is ∙ ap (λ zs. slice_index_or zs m x) same ∙ ap (λ k. slice_index_or xs k x) number)

pub steps_long : (xs : List StepOf) → length (steps_of xs) ≡ length xs
steps_long [] = refl
steps_long (x ∷ xs) = let later = steps_long xs in omega (arith, later)

pub or_else : {X : Type 0} (xs : List X) (n : ℕ) (x d : X) → n < length xs → x ≡ slice_index_or xs n x
    → x ≡ unwrap_or (slice_get xs n) d
or_else xs n x d less is = sym (ap (λ o. unwrap_or o d) (there xs n x less is))
