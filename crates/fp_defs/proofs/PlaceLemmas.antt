-- An element at a place, and the lines of types from the root down.
use Rattle.std.proofs.Common.{◌≡◌, ℕ, zero, suc, ◌+◌, ◌-◌, ◌<◌, List, [], ◌∷◌, length, drop, get_or, max, Bool, true, false, cond, not, find, ◌==◌, Some, Ok, Err, pos, codes, sym, ap, ◌∙◌, arith}
use Rattle.std.specs.Prelude.{slice_get}
use Rattle.std.specs.List.{list_any}
use Rattle.std.proofs.lemmas.List.{drop_more, length_push}
use Rattle.std.proofs.lemmas.Option.{slice_get-get_or}
use Rattle.fp_model.specs.declared.definitions.SegDef.{SegDef}
use Rattle.fp_model.specs.State.{numbers_up}
use Rattle.fp_model.specs.Order.{parent_of, line_within, line_to}
use Rattle.fp_model.specs.WellFormed.{stored_length}
use Rattle.fp_model.specs.Readings.{◌>>=◌}
use Rattle.def_tables.specs.Keys.{within}
use Rattle.fp_defs.specs.Segments.{all_fit}
use Rattle.fp_defs.specs.Dedbs.{depth_from}
use Rattle.def_tables.specs.declared.fault.DefsFault.{DefsFault}

-- what stands at a place, with what is behind it
pub at_place : {X : Type 0} (xs : List X) (i : ℕ) → i < length xs → (x : X) × (slice_get xs i ≡ Some x)
    × (drop i xs ≡ x ∷ drop (i + 1) xs)
at_place [] i within = absurd (omega arith)
at_place (x ∷ xs) i within = (get_or (x ∷ xs) i x, slice_get-get_or (x ∷ xs) i x within, drop_more (x ∷ xs) i x within)

pub max_three : (a b c : ℕ) → max (max a b) c ≡ max a (max b c)
max_three a b c = grind arith

-- a line is one longer than that to the parent
pub line_longer : (n : ℕ) (types : List SegDef) (at parent : ℕ) → 0 < n → parent_of types at ≡ Some parent
    → length (line_within n types at) ≡ length (line_within (n - 1) types parent) + 1
line_longer zero types at parent some is = absurd (omega arith)
line_longer (suc n) types at parent some is = let e : suc n - 1 ≡ n = omega arith in
    rw (is, e) (length_push (line_within n types parent) at)

-- numbers from one on
pub numbers_up_more : (n from : ℕ) → 0 < n → numbers_up n from ≡ from ∷ numbers_up (n - 1) (from + 1)
numbers_up_more zero from some = absurd (omega arith)
numbers_up_more (suc n) from some = let e : suc n - 1 ≡ n = omega arith in rw e

-- the least group without a region, from one on
abbrev lacks : List ℕ → ℕ → Bool
lacks groups g = not (list_any (λ h. h == g) groups)

find_first : (test : ℕ → Bool) (x : ℕ) (xs : List ℕ) (b : Bool) → test x ≡ b
    → find test (x ∷ xs) ≡ cond b (Some x) (find test xs)
find_first test x xs b e = ap (λ c. cond c (Some x) (find test xs)) e

pub gap_here : (groups : List ℕ) (most i : ℕ) → i < most → list_any (λ h. h == i + 1) groups ≡ false
    → find (lacks groups) (numbers_up (most - i) (i + 1)) ≡ Some (i + 1)
gap_here groups most i below e = ap (find (lacks groups)) (numbers_up_more (most - i) (i + 1) (omega arith)) ∙
    find_first (lacks groups) (i + 1) _ true (ap not e)

pub gap_later : (groups : List ℕ) (most i : ℕ) → i < most → list_any (λ h. h == i + 1) groups ≡ true
    → find (lacks groups) (numbers_up (most - i) (i + 1)) ≡ find (lacks groups)
    (numbers_up (most - (i + 1)) (i + 1 + 1))
gap_later groups most i below e =
    let same : most - i - 1 ≡ most - (i + 1) = omega arith in
    ap (find (lacks groups)) (numbers_up_more (most - i) (i + 1) (omega arith))
    ∙ find_first (lacks groups) (i + 1) _ false (ap not e)
    ∙ ap (λ (n : ℕ). find (lacks groups) (numbers_up n (i + 1 + 1))) same

-- the greatest number on a line, with one type more
pub depth_more : (types : List SegDef) (place : ℕ) → place < length types
    → depth_from types place (drop place types) ≡ max (length (line_to types place))
    (depth_from types (place + 1) (drop (place + 1) types))
depth_more types place within = ap (depth_from types place) (at_place types place within).2

-- ---- the room that segments need

module _ (room : ℕ) (types : List SegDef) (place n : ℕ) (within_types : place < length types)
    (is : (def : SegDef) → slice_get types place ≡ Some def → n ≡ stored_length types place def) where
  fit_here : all_fit room types place (drop place types) ≡
      (within (codes "fields") 0 room (pos n) >>= (λ _. all_fit room types (place + 1) (drop (place + 1) types)))
  fit_here =
      let here = at_place types place within_types in
      ap (all_fit room types place) here.2
      ∙ ap (λ (m : ℕ). within (codes "fields") 0 room (pos m) >>=
      (λ _. all_fit room types (place + 1) (drop (place + 1) types))) (sym (is here.0 here.1))

  pub fit_goes_on : (m : ℕ) → within (codes "fields") 0 room (pos n) ≡ Ok m
      → all_fit room types place (drop place types) ≡ all_fit room types (place + 1) (drop (place + 1) types)
  fit_goes_on m e = fit_here ∙ ap (λ r. r >>= (λ _. all_fit room types (place + 1) (drop (place + 1) types))) e

  pub fit_stops : (fault : DefsFault) → within (codes "fields") 0 room (pos n) ≡ Err fault
      → all_fit room types place (drop place types) ≡ Err fault
  fit_stops fault e = fit_here ∙ ap (λ r. r >>= (λ _. all_fit room types (place + 1) (drop (place + 1) types))) e
