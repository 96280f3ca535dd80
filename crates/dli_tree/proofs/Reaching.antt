-- What is left out of a search: steps that it doesn't enter.
use Rattle.std.proofs.Common.{◌≡◌, ℕ, zero, suc, ◌+◌, ◌<◌, ◌≤◌, List, [], ◌∷◌, ◌++◌, map, drop, length, Option, Some, None, Bool, true, false, ◌&&◌, ◌==◌, refl, sym, ap, ◌∙◌, subst, slice_index_or, get_or, arith}
use Rattle.std.specs.Prelude.{find, flat_map, option_and_then, option_map, if◌then◌else◌, nat_lt}
use Rattle.std.specs.List.{AllWithin, list_all}
use Rattle.std.specs.Option.{option_map_or}
use Rattle.fp_model.specs.declared.calls.Ssa.{Ssa}
use Rattle.fp_model.specs.Order.{Occurrence, Step, direct, same_step, step_precedes}
use Rattle.fp_model.specs.State.{ascend, is_below}
use Rattle.fp_model.specs.Texts.{same_text}
use Rattle.dli_tree.specs.inside.Aims.{Search, agrees, entered, fits, inside_step, past_step}
use Rattle.dli_tree.specs.Paths.{step_of, steps_of}
use Rattle.dli_tree.specs.declared.path.Step.{Step as StepOf}
use Rattle.key_order.specs.Places.{IsPlace}
use Rattle.dli_tree.specs.inside.Reaches.{IsLeft}
use Rattle.key_order.proofs.Ascending.{IsAscending, all_above, all_at, below_differs, below_trans, differs_back, not_above, not_below_itself, not_both, tail_ascends}
use Rattle.plain_laws.proofs.Truths.{and_false}
use Rattle.plain_laws.proofs.Numbers.{lt_false as not_less}
use Rattle.model_laws.proofs.Texts.{same_text_is}

-- ---- steps that aren't entered

no_more : (o : Option (Option (List Step))) → option_and_then {T = Option (List Step)} {U = Search} (λ b. None) o ≡ None
no_more None = refl
no_more (Some b) = refl

either_none : (b : Bool) → (if b then None else (let none : Option Search = None in none)) ≡ None
either_none true = refl
either_none false = refl

pub left_within : (aim : Search) (d : Step) → inside_step aim.within d ≡ None → entered aim d ≡ None
left_within aim d e = rw e (rw (no_more (past_step aim.behind d)) (either_none (agrees aim.ssas d)))

pub left_behind : (aim : Search) (d : Step) → past_step aim.behind d ≡ None → entered aim d ≡ None
left_behind aim d e = rw e (either_none (agrees aim.ssas d))

pub left_ssas : (aim : Search) (d : Step) → agrees aim.ssas d ≡ false → entered aim d ≡ None
left_ssas aim d e = rw e refl

-- ---- a parent

module _ (aim : Search) (s : Step) (ss : List Step) (type : ℕ) where
  within_other : aim.within ≡ Some (s ∷ ss) → (key : List ℕ) → same_step s (direct type key) ≡ false
      → IsLeft aim type key
  within_other w key e = left_within aim (direct type key) (rw w (rw e refl))

  pub within_type : aim.within ≡ Some (s ∷ ss) → (s.segment == type) ≡ false → (key : List ℕ) → IsLeft aim type key
  within_type w e key = within_other w key (rw e refl)

  pub within_key : aim.within ≡ Some (s ∷ ss) → (key : List ℕ) → same_text key s.key ≡ false → IsLeft aim type key
  within_key w key e = within_other w key (rw (differs_back key s.key e)
      (ap (λ (b : Bool). b && s.serial == 0) (and_false (s.segment == type))))

  -- ---- a position

  behind_other : aim.behind ≡ Some (s ∷ ss) → (key : List ℕ) → same_step s (direct type key) ≡ false
      → step_precedes s (direct type key) ≡ false → IsLeft aim type key
  behind_other w key e f = left_behind aim (direct type key) (rw w (rw (e, f) refl))

  pub behind_type : aim.behind ≡ Some (s ∷ ss) → (s.segment == type) ≡ false → nat_lt s.segment type ≡ false
      → (key : List ℕ) → IsLeft aim type key
  behind_type w e f key = behind_other w key (rw e refl) (rw (e, f) refl)

  pub behind_key : aim.behind ≡ Some (s ∷ ss) → (s.segment == type) ≡ true → (key : List ℕ) → is_below key s.key ≡ true
      → IsLeft aim type key
  behind_key w e key less =
      let other : same_text s.key key ≡ false = differs_back key s.key (below_differs key s.key less) in
      behind_other w key (rw other (ap (λ (b : Bool). b && s.serial == 0) (and_false (s.segment == type))))
      (rw (e, other) (not_above key s.key less))

-- ---- arguments

-- an argument that no step agrees with
pub ssas_key : (aim : Search) (type : ℕ) (k : List ℕ)
    → ((key : List ℕ) → same_text key k ≡ false → agrees aim.ssas (direct type key) ≡ false) → (key : List ℕ)
    → same_text key k ≡ false → IsLeft aim type key
ssas_key aim type k h key e = left_ssas aim (direct type key) (h key e)

-- ---- places

ascends_at : {X : Type 0} (key : X → List ℕ) (xs : List X) (i j : ℕ) (d : X) → IsAscending key xs → i < j
    → j < length xs → is_below (key (slice_index_or xs i d)) (key (slice_index_or xs j d)) ≡ true
ascends_at key [] i j d up lt within = absurd (omega (arith, within))
ascends_at key (x ∷ xs) zero zero d up lt within = absurd (omega (arith, lt))
ascends_at key (x ∷ xs) zero (suc j) d up lt within =
    all_at (λ y. is_below (key x) (key y) ≡ true) xs j d (all_above key x xs up) (omega (arith, within))
ascends_at key (x ∷ xs) (suc i) zero d up lt within = absurd (omega (arith, lt))
ascends_at key (x ∷ xs) (suc i) (suc j) d up lt within =
    ascends_at key xs i j d (tail_ascends key x xs up) (omega (arith, lt)) (omega (arith, within))

module _ {X : Type 0} (aim : Search) (type : ℕ) (key : X → List ℕ) (xs : List X) (k : List ℕ) (n : ℕ) where
  pub before_below : IsPlace key k xs n → ((j : List ℕ) → is_below j k ≡ true → IsLeft aim type j)
      → AllWithin (λ x. IsLeft aim type (key x)) xs 0 n
  before_below p h i d low high = h (key (slice_index_or xs i d)) (p.0 i d low high)

  pub before_one : IsPlace key k xs n → ((j : List ℕ) → same_text j k ≡ false → IsLeft aim type j)
      → AllWithin (λ x. IsLeft aim type (key x)) xs 0 n
  before_one p h i d low high = h (key (slice_index_or xs i d))
      (below_differs (key (slice_index_or xs i d)) k (p.0 i d low high))

  -- behind an element that isn't below the key all are above it
  pub behind_one : IsAscending key xs → IsPlace key k xs n → ((j : List ℕ) → same_text j k ≡ false → IsLeft aim type j)
      → AllWithin (λ x. IsLeft aim type (key x)) xs (n + 1) (length xs)
  behind_one up p h i d low high =
      let here = key (slice_index_or xs n d) in
      let there = key (slice_index_or xs i d) in
      let less : is_below here there ≡ true = ascends_at key xs n i d up (omega (arith, low)) high in
      let not_less : is_below here k ≡ false = p.1 n d (omega arith) (omega (arith, low, high)) in
      h there (by there less not_less (same_text there k) refl)
    where
      by : (there : List ℕ) → is_below (key (slice_index_or xs n d)) there ≡ true
          → is_below (key (slice_index_or xs n d)) k ≡ false → (b : Bool) → same_text there k ≡ b → b ≡ false
      by there less not_less true e = absurd (not_both
          (sym less ∙ ap (is_below (key (slice_index_or xs n d))) (same_text_is there k e) ∙ not_less))
      by there less not_less false e = refl

pub none_after : {X : Type 0} (P : X → Type 0) (xs : List X) (n : ℕ) → length xs ≤ n → AllWithin P xs n (length xs)
none_after P xs n past i d low high = absurd (omega (arith, past, low, high))

pub none_before : {X : Type 0} (P : X → Type 0) (xs : List X) → AllWithin P xs 0 0
none_before P xs i d low high = absurd (omega (arith, high))

-- ---- steps of the code

-- what is left, where it has a first step
pub opened : (o : Option (List Step)) (xs : List StepOf) (first : StepOf) → o ≡ Some (steps_of xs) → 0 < length xs
    → first ≡ get_or xs 0 first → o ≡ Some (step_of first ∷ steps_of (drop 1 xs))
opened o [] first e lt is = absurd (omega (arith, lt))
opened o (x ∷ xs) first e lt is = e ∙ ap (λ (s : StepOf). Some (step_of s ∷ steps_of xs)) (sym is)
