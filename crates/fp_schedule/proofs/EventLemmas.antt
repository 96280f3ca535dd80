-- The events of a schedule over definitions without data entry databases.
use Rattle.std.proofs.Common.{◌≡◌, refl, sym, ◌∙◌, ap, subst, arith, ℕ, zero, suc, ◌+◌, ◌-◌, ◌*◌, ◌≤◌, List, [], ◌∷◌, length, take, drop, Bool, true, false, Option, Some, None}
use Rattle.std.specs.Prelude.{◌^◌, ◌&&◌, ◌==◌, codes, filter_map, if◌then◌else◌, map, nat_le, position, slice_index}
use Rattle.std.specs.List.{AllByRecursion, after_first, before_first, cons_option}
use Rattle.std.specs.Option.{option_and_then, option_map}
use Rattle.std.proofs.Math.Nat.{one-le-pow}
use Rattle.std.proofs.lemmas.Bool.Decides.{nat_tests}
use Rattle.std.proofs.lemmas.Grind.{common_steps}
use Rattle.fp_model.specs.Events.{IsEventOf}
use Rattle.fp_model.specs.declared.definitions.DedbDef.{DedbDef}
use Rattle.fp_model.specs.declared.definitions.Defs.{Defs}
use Rattle.fp_model.specs.declared.events.Event.{Event}
use Rattle.fp_model.specs.declared.events.Event.TheVariants as event
use Rattle.fp_model.specs.declared.name.Name.{Name}
use Rattle.fp_model.specs.Names.{name_in}
use Rattle.fp_model.specs.State.{Area, areas_of, areas_of_all, first_area_set}
use Rattle.fp_model.specs.Texts.{digits_number, same_text, value}
use Rattle.std.specs.Str.{all_ascii_digits}
use Rattle.fp_schedule.specs.Schedule.{can_be_purged, event_of, is_slash, number_up_to, numbered_event, purge_event, purged_set, region_event}

-- ---- numbers

-- digits of which the first isn't 0 are a number from 1 on
value_some : (digits : List ℕ) → 1 ≤ length digits → all_ascii_digits digits ≡ true
    → (slice_index digits 0 == 48) ≡ false
    → 1 ≤ value 10 (map (λ c. c - 48) digits)
value_some [] some all first = absurd (omega (arith, some))
value_some (c ∷ cs) some all first =
    let digit : 49 ≤ c = grind (arith, nat_tests, common_steps) in
    let power = one-le-pow (length (map (λ (x : ℕ). x - 48) cs)) 10 (omega arith) in
    big (c - 48) (10 ^ length (map (λ (x : ℕ). x - 48) cs)) _ (omega (arith, digit)) power
  where
    big : (d p rest : ℕ) → 1 ≤ d → 1 ≤ p → 1 ≤ d * p + rest
    big zero p rest d1 p1 = absurd (omega (arith, d1))
    big (suc d) zero rest d1 p1 = absurd (omega (arith, p1))
    big (suc d) (suc p) rest d1 p1 = omega arith

-- a number that stands up to the greatest
number_within : (greatest : ℕ) (digits : List ℕ) (n : ℕ) → number_up_to greatest digits ≡ Some n
    → (1 ≤ n) × (n ≤ greatest)
number_within greatest digits n e = by (slice_index digits 0 == 48) refl e
  where
    behind : (v : ℕ) → 1 ≤ v → (b : Bool) → nat_le v greatest ≡ b → (if b then Some v else None) ≡ Some n
        → (1 ≤ n) × (n ≤ greatest)
    behind v some true is all = let same : v ≡ n = cc in
        (omega (arith, some, same), grind (arith, nat_tests, common_steps, is, same))
    behind v some false is all = absurd cc

    digit_by : (slice_index digits 0 == 48) ≡ false → (b : Bool)
        → (nat_le 1 (length digits) && nat_le (length digits) 31 && all_ascii_digits digits) ≡ b
        → option_and_then (λ v. if nat_le v greatest then Some v else None)
        (if b then Some (value 10 (map (λ c. c - 48) digits)) else None) ≡ Some n
        → (1 ≤ n) × (n ≤ greatest)
    digit_by first true is all =
        let long : 1 ≤ length digits = grind (arith, nat_tests, common_steps, is) in
        let digits_are : all_ascii_digits digits ≡ true = grind (arith, nat_tests, common_steps, is) in
        let v = value 10 (map (λ c. c - 48) digits) in
        behind v (value_some digits long digits_are first) (nat_le v greatest) refl all
    digit_by first false is all = absurd cc

    by : (b : Bool) → (slice_index digits 0 == 48) ≡ b
        → (if b then None else option_and_then (λ v. if nat_le v greatest then Some v else None) (digits_number digits))
        ≡ Some n
        → (1 ≤ n) × (n ≤ greatest)
    by true is all = absurd cc
    by false is all = digit_by is _ refl all

-- ---- tokens

module _ (defs : Defs) (none : defs.dedbs ≡ []) where
  region_fits : (digits : List ℕ) (e : Event) → region_event defs digits ≡ Some e → IsEventOf defs e
  region_fits digits e is = by (number_up_to (length defs.regions) digits) refl is
    where
      by : (o : Option ℕ) → number_up_to (length defs.regions) digits ≡ o → option_map event.Region o ≡ Some e
          → IsEventOf defs e
      by None none2 all = absurd cc
      by (Some n) some all =
          let same : event.Region n ≡ e = cc in
          subst (IsEventOf defs) same (number_within (length defs.regions) digits n some)

  no_areas : areas_of defs ≡ []
  no_areas = ap (λ (ds : List DedbDef). areas_of_all 0 ds) none

  no_set : (name : Name) → purged_set defs name ≡ None
  no_set name = ap (λ (areas : List Area). option_map (λ place. first_area_set + place)
      (position (λ area. can_be_purged name area.def) areas)) no_areas

  no_purge : (area digits : List ℕ) → purge_event defs area digits ≡ None
  no_purge area digits = by (name_in area)
    where
      by : (o : Option Name) → option_and_then (λ set. option_map (event.Purge set) (number_up_to 1000000000 digits))
          (option_and_then (purged_set defs) o) ≡ None
      by None = refl
      by (Some name) = ap (option_and_then (λ set. option_map (event.Purge set) (number_up_to 1000000000 digits)))
          (no_set name)

  some_is : {X : Type 0} {x y : X} → Some x ≡ Some y → x ≡ y
  some_is e = cc

  token_fits : (token : List ℕ) (e : Event) → event_of defs token ≡ Some e → IsEventOf defs e
  token_fits token e is =
      by (same_text token (codes "IN")) (same_text token (codes "LOG")) (same_text token (codes "OUT"))
      (same_text token (codes "CKPT")) is
    where
      numbered : (a b : Bool) → (if a then region_event defs (drop 1 token)
          else (if b then purge_event defs (before_first is_slash (drop 6 token)) (after_first is_slash (drop 6 token))
          else None)) ≡ Some e → IsEventOf defs e
      numbered true b is = region_fits (drop 1 token) e is
      numbered false true is =
          let nothing = no_purge (before_first is_slash (drop 6 token)) (after_first is_slash (drop 6 token)) in
          absurd (none_some (sym nothing ∙ is))
        where
          none_some : {X : Type 0} {x : X} → None ≡ Some x → ⊥
          none_some e = cc
      numbered false false is = absurd cc

      by : (a b c d : Bool) → (if a then Some event.In else
          (if b then Some event.Log else (if c then Some event.Out else
          (if d then Some event.Ckpt else numbered_event defs token)))) ≡ Some e → IsEventOf defs e
      by true b c d is = subst (IsEventOf defs) (some_is is) tt
      by false true c d is = subst (IsEventOf defs) (some_is is) tt
      by false false true d is = subst (IsEventOf defs) (some_is is) tt
      by false false false true is = subst (IsEventOf defs) (some_is is) tt
      by false false false false is =
          numbered (same_text (take 1 token) (codes "R")) (same_text (take 6 token) (codes "PURGE/")) is

  -- ---- all events

  pub all_fit : (tokens : List (List ℕ)) → AllByRecursion (IsEventOf defs) (filter_map (event_of defs) tokens)
  all_fit [] = tt
  all_fit (token ∷ tokens) = by (event_of defs token) refl (all_fit tokens)
    where
      by : (o : Option Event) → event_of defs token ≡ o
          → AllByRecursion (IsEventOf defs) (filter_map (event_of defs) tokens)
          → AllByRecursion (IsEventOf defs) (cons_option o (filter_map (event_of defs) tokens))
      by None is rest = rest
      by (Some e) is rest = (token_fits token e is, rest)
