-- The order of words, and the first way of all.
use Rattle.std.proofs.Common.{refl, arith, ◌≡◌, ℕ, zero, suc, ◌+◌, ◌<◌, ◌≤◌, List, [], ◌∷◌, ◌++◌, length, Bool, true, false, not, ◌&&◌, ◌||◌, ◌==◌, Option, Some, None, inl, inr, ◌⊎◌, ⊎_elim, ap, sym, subst, ◌∙◌}
use Rattle.std.specs.Prelude.{⊤, if◌then◌else◌, Contains, filter_map, map, filter, option_map, slice_get, unwrap_or}
use Rattle.std.specs.List.{AllByRecursion, IsDistinct, cons_option}
use Rattle.std.proofs.lemmas.Bool.{cases_eq, and_from, and_parts, or_from, or_parts}
use Rattle.fp_model.specs.State.{numbers_up}
use Rattle.fp_model.specs.Waiting.{Lock, IsCycle, WaitsAlong, conflicts, waits}
use Rattle.ci_locks.specs.Cycles.{IsFirstCycle, IsNoLater, first_cycle, first_way, is_pair, way_by}
use Rattle.ci_locks.specs.Graph.{is_in}
use Rattle.ci_locks.proofs.Answered.{in_flat, in_map, pair}
use Rattle.ci_locks.proofs.Shown.{In, to_in, from_in, any_in, in_any, in_filter}
use Rattle.plain_laws.proofs.Numbers.{is_number, not_flipped, number_is}
use Rattle.std.proofs.lemmas.Option.{none-some}

-- ---- the order of words

-- a beginning comes no later
pub no_later_front : (xs more ys : List ℕ) → IsNoLater (xs ++ more) ys → IsNoLater xs ys
no_later_front [] more ys h = tt
no_later_front (x ∷ xs) more [] h = absurd h
no_later_front (x ∷ xs) more (y ∷ ys) (inl less) = inl less
no_later_front (x ∷ xs) more (y ∷ ys) (inr (same, h)) = inr (same, no_later_front xs more ys h)

-- what comes no later is a beginning, or comes before it with anything behind
abbrev pub GoesOn : List ℕ → List ℕ → Type 0
GoesOn xs ys = ((rest : List ℕ) × (ys ≡ xs ++ rest)) ⊎ ((more : List ℕ) → IsNoLater (xs ++ more) ys)

pub goes_on : (xs ys : List ℕ) → IsNoLater xs ys → GoesOn xs ys
goes_on [] ys h = inl (ys, refl)
goes_on (x ∷ xs) [] h = absurd h
goes_on (x ∷ xs) (y ∷ ys) (inl less) = inr (λ more. inl less)
goes_on (x ∷ xs) (y ∷ ys) (inr (same, h)) = by (goes_on xs ys h)
  where
    by : GoesOn xs ys → GoesOn (x ∷ xs) (y ∷ ys)
    by (inl (rest, e)) = inl (rest, ap (λ n. n ∷ ys) (sym same) ∙ ap (λ l. x ∷ l) e)
    by (inr further) = inr (λ more. inr (same, further more))

-- with the lesser number next
pub no_later_next : (path : List ℕ) (r x : ℕ) (xs : List ℕ) → r ≤ x → IsNoLater (path ++ r ∷ []) (path ++ x ∷ xs)
no_later_next [] r x xs le =
    ⊎_elim (λ (same : r ≡ x). inr (same, tt)) (λ (apart : r ≡ x → ⊥). inl (omega (arith, apart, le))) (cases_eq r x)
no_later_next (p ∷ path) r x xs le = inr (refl, no_later_next path r x xs le)

-- ---- numbers that differ

-- a number that is in both parts
all_has : (P : ℕ → Type 0) (xs : List ℕ) (y : ℕ) → AllByRecursion P xs → is_in xs y ≡ true → P y
all_has P [] y all e = absurd (cc)
all_has P (x ∷ xs) y all e = by (y == x) refl e (all_has P xs y all.1)
  where
    by : (b : Bool) → (y == x) ≡ b → (b || is_in xs y) ≡ true → (is_in xs y ≡ true → P y) → P y
    by true same e2 rest = subst P (sym (number_is y x same)) all.0
    by false other e2 rest = rest e2

in_behind : (xs ys : List ℕ) (y : ℕ) → is_in ys y ≡ true → is_in (xs ++ ys) y ≡ true
in_behind [] ys y e = e
in_behind (x ∷ xs) ys y e = by (y == x) (in_behind xs ys y e)
  where
    by : (b : Bool) → is_in (xs ++ ys) y ≡ true → (b || is_in (xs ++ ys) y) ≡ true
    by true h = refl
    by false h = h

-- of a list with no number twice no number of the end is in the beginning
pub apart_of : (path rest : List ℕ) → IsDistinct ◌==◌ (path ++ rest) → (y : ℕ) → is_in rest y ≡ true
    → is_in path y ≡ false
unfolding IsDistinct
apart_of [] rest apart y e = refl
apart_of (p ∷ path) rest apart y e =
    or_from (y == p) (is_in path y)
    (not_flipped p y (all_has (λ z. (p == z) ≡ false) (path ++ rest) y apart.0 (in_behind path rest y e)))
    (apart_of path rest apart.1 y e)

-- ---- ways through regions not passed

module _ (leads : ℕ → ℕ → Bool) where
  abbrev pub Way : ℕ → List ℕ → ℕ → Type 0
  Way region [] goal = leads region goal ≡ true
  Way region (r ∷ rs) goal = (leads region r ≡ true) × Way r rs goal

abbrev pub IsFree : List ℕ → List ℕ → Type 0
IsFree passed [] = ⊤
IsFree passed (r ∷ rs) = (is_in passed r ≡ false) × IsFree (r ∷ passed) rs

in_first : (x : ℕ) (xs : List ℕ) → is_in (x ∷ xs) x ≡ true
in_first x xs = ap (λ b. b || is_in xs x) (is_number x)

in_later : (x : ℕ) (xs : List ℕ) (y : ℕ) → is_in xs y ≡ true → is_in (x ∷ xs) y ≡ true
in_later x xs y e = in_behind (x ∷ []) xs y e

-- each apart from those passed
free_of : (passed xs : List ℕ) → ((y : ℕ) → is_in xs y ≡ true → is_in passed y ≡ false) → IsDistinct ◌==◌ xs
    → IsFree passed xs
unfolding IsDistinct
free_of passed [] out apart = tt
free_of passed (x ∷ xs) out apart = (
  out x (in_first x xs),
  free_of (x ∷ passed) xs
      (λ y e. or_from (y == x) (is_in passed y) (not_flipped x y (all_has (λ z. (x == z) ≡ false) xs y apart.0 e))
      (out y (in_later x xs y e))) apart.1,
)

is_out : (passed xs : List ℕ) → IsFree passed xs → (y : ℕ) → is_in xs y ≡ true → is_in passed y ≡ false
is_out passed [] free y e = absurd (cc)
is_out passed (x ∷ xs) free y e = by (y == x) refl e (is_out (x ∷ passed) xs free.1 y)
  where
    by : (b : Bool) → (y == x) ≡ b → (b || is_in xs y) ≡ true → (is_in xs y ≡ true → is_in (x ∷ passed) y ≡ false)
        → is_in passed y ≡ false
    by true same e2 rest = ap (is_in passed) (number_is y x same) ∙ free.0
    by false other e2 rest = (or_parts (y == x) (is_in passed y) (rest e2)).1

all_of : (P : ℕ → Type 0) (xs : List ℕ) → ((y : ℕ) → is_in xs y ≡ true → P y) → AllByRecursion P xs
all_of P [] each = tt
all_of P (x ∷ xs) each = (each x (in_first x xs), all_of P xs (λ y e. each y (in_later x xs y e)))

is_apart : (passed xs : List ℕ) → IsFree passed xs → IsDistinct ◌==◌ xs
unfolding IsDistinct
is_apart passed [] free = tt
is_apart passed (x ∷ xs) free = (
  all_of (λ z. (x == z) ≡ false) xs
      (λ y e. not_flipped y x (or_parts (y == x) (is_in passed y) (is_out (x ∷ passed) xs free.1 y e)).0),
  is_apart (x ∷ passed) xs free.1,
)

-- behind one region alone
free_behind : (region : ℕ) (xs : List ℕ) → IsDistinct ◌==◌ (region ∷ xs) → IsFree (region ∷ []) xs
unfolding IsDistinct
free_behind region xs apart = free_of (region ∷ []) xs (apart_of (region ∷ []) xs apart) apart.1

apart_behind : (region : ℕ) (xs : List ℕ) → IsFree (region ∷ []) xs → IsDistinct ◌==◌ (region ∷ xs)
unfolding IsDistinct
apart_behind region xs free = (
  all_of (λ z. (region == z) ≡ false) xs
      (λ y e. not_flipped y region (or_parts (y == region) false (is_out (region ∷ []) xs free y e)).0),
  is_apart (region ∷ []) xs free,
)

-- ---- the first that is found

found_by : (f : ℕ → Option (List ℕ)) (xs : List ℕ) (way : List ℕ) → slice_get (filter_map f xs) 0 ≡ Some way
    → (x : ℕ) × (f x ≡ Some way)
found_by f [] way e = absurd (none-some way e)
found_by f (x ∷ xs) way e = by (f x) refl e (found_by f xs way)
  where
    by : (o : Option (List ℕ)) → f x ≡ o → slice_get (cons_option o (filter_map f xs)) 0 ≡ Some way
        → (slice_get (filter_map f xs) 0 ≡ Some way → (y : ℕ) × (f y ≡ Some way)) → (y : ℕ) × (f y ≡ Some way)
    by None is e2 rest = rest e2
    by (Some w) is e2 rest = (x, is ∙ e2)

first_found : (f : ℕ → Option (List ℕ)) (n from x : ℕ) (way : List ℕ) → from ≤ x → x < from + n → f x ≡ Some way
    → ((y : ℕ) → y < x → f y ≡ None) → slice_get (filter_map f (numbers_up n from)) 0 ≡ Some way
first_found f zero from x way le lt is none = absurd (omega (arith, le, lt))
first_found f (suc n) from x way le lt is none =
    ⊎_elim
    (λ (here : from ≡ x). ap (λ o. slice_get (cons_option o (filter_map f (numbers_up n (from + 1)))) 0)
    (ap f here ∙ is))
    (λ (apart : from ≡ x → ⊥). ap (λ o. slice_get (cons_option o (filter_map f (numbers_up n (from + 1)))) 0)
    (none from (omega (arith, apart, le)))
    ∙ first_found f n (from + 1) x way (omega (arith, apart, le)) (omega (arith, lt)) is none)
    (cases_eq from x)

-- ---- a way that is found

module _ (regions : ℕ) (leads : ℕ → ℕ → Bool) (goal : ℕ) where
  abbrev pub IsFound : List ℕ → ℕ → List ℕ → Type 0
  IsFound passed region way = Way leads region way goal × IsFree passed way

  -- one region on
  on : (region next : ℕ) (passed : List ℕ) (o : Option (List ℕ)) (way : List ℕ)
      → ((rest : List ℕ) → o ≡ Some rest → IsFound (next ∷ passed) next rest)
      → leads region next ≡ true → is_in passed next ≡ false
      → option_map (λ (rest : List ℕ). next ∷ rest) o ≡ Some way → IsFound passed region way
  on region next passed None way found leads_on out e = absurd (none-some way e)
  on region next passed (Some rest) way found leads_on out e =
      let same : next ∷ rest ≡ way = cc in
      let it = found rest refl in
      subst (λ (w : List ℕ). IsFound passed region w) same ((leads_on, it.0), (out, it.1))

  by_way : (from : List ℕ → ℕ → Option (List ℕ))
      → ((passed : List ℕ) (region : ℕ) (way : List ℕ) → from passed region ≡ Some way → IsFound passed region way)
      → (passed : List ℕ) (region next : ℕ) (way : List ℕ) → way_by leads from passed region next ≡ Some way
      → IsFound passed region way
  by_way from found passed region next way e = by (leads region next && not (is_in passed next)) refl e
    where
      out : (b : Bool) → not b ≡ true → b ≡ false
      out true is = absurd (cc)
      out false is = refl

      by : (b : Bool) → (leads region next && not (is_in passed next)) ≡ b
          → (if b then option_map (λ (rest : List ℕ). next ∷ rest) (from (next ∷ passed) next) else None) ≡ Some way
          → IsFound passed region way
      by true is e2 =
          let parts = and_parts (leads region next) (not (is_in passed next)) is in
          on region next passed (from (next ∷ passed) next) way (λ rest e3. found (next ∷ passed) next rest e3) parts.0
          (out (is_in passed next) parts.1) e2
      by false is e2 = absurd (none-some way e2)

  pub way_is : (steps : ℕ) (passed : List ℕ) (region : ℕ) (way : List ℕ)
      → first_way regions leads goal steps passed region ≡ Some way → IsFound passed region way
  way_is zero passed region way e = absurd (none-some way e)
  way_is (suc steps) passed region way e =
      by (leads region goal) refl e (λ p r w f. way_is steps p r w f)
    where
      by : (b : Bool) → leads region goal ≡ b
          → (if b then Some [] else slice_get (filter_map (way_by leads (first_way regions leads goal steps) passed
          region) (numbers_up regions 1)) 0) ≡ Some way
          → ((p : List ℕ) (r : ℕ) (w : List ℕ) → first_way regions leads goal steps p r ≡ Some w → IsFound p r w)
          → IsFound passed region way
      by true is e2 found =
          let same : [] ≡ way = cc in
          subst (λ (w : List ℕ). IsFound passed region w) same (is, tt)
      by false is e2 found =
          let some = found_by (way_by leads (first_way regions leads goal steps) passed region) (numbers_up regions 1)
          way e2 in
          by_way (first_way regions leads goal steps) found passed region some.0 way some.1

  -- ---- the first is found

  abbrev pub IsFirst : List ℕ → ℕ → List ℕ → Type 0
  IsFirst passed region way = (other : List ℕ) → Way leads region other goal → IsFree passed other
      → IsNoLater way other

  abbrev pub AreWithin : List ℕ → Type 0
  AreWithin way = (r : ℕ) → is_in way r ≡ true → (1 ≤ r) × (r ≤ regions)

  pub is_first_way : (steps : ℕ) (passed : List ℕ) (region : ℕ) (way : List ℕ) → Way leads region way goal
      → IsFree passed way → AreWithin way → length way < steps → IsFirst passed region way
      → first_way regions leads goal steps passed region ≡ Some way
  is_first_way zero passed region way leads_on free within short first = absurd (omega (arith, short))
  is_first_way (suc steps) passed region [] leads_on free within short first =
      ap (λ b. if b then Some [] else slice_get (filter_map (way_by leads (first_way regions leads goal steps) passed
      region) (numbers_up regions 1)) 0) leads_on
  is_first_way (suc steps) passed region (x ∷ xs) leads_on free within short first =
      ap (λ b. if b then Some [] else slice_get (filter_map (way_by leads (first_way regions leads goal steps) passed
      region) (numbers_up regions 1)) 0) (shut (leads region goal) refl)
      ∙ first_found (way_by leads (first_way regions leads goal steps) passed region) regions 1 x (x ∷ xs)
      (within x (in_first x xs)).0
      (omega (arith, (within x (in_first x xs)).1))
      (here (is_first_way steps (x ∷ passed) x xs leads_on.1 free.1 (λ r e. within r (in_later x xs r e))
      (omega (arith, short)) rest_first))
      (λ y less. none y less (way_by leads (first_way regions leads goal steps) passed region y) refl)
    where
      -- the region doesn't lead to the goal: no way would be shorter
      shut : (b : Bool) → leads region goal ≡ b → b ≡ false
      shut true is = absurd (first [] is tt)
      shut false is = refl

      rest_first : IsFirst (x ∷ passed) x xs
      rest_first other way out = by (first (x ∷ other) (leads_on.0, way) (free.0, out))
        where
          by : (x < x) ⊎ ((x ≡ x) × IsNoLater xs other) → IsNoLater xs other
          by (inl less) = absurd (omega (arith, less))
          by (inr (same, later)) = later

      here : first_way regions leads goal steps (x ∷ passed) x ≡ Some xs
          → way_by leads (first_way regions leads goal steps) passed region x ≡ Some (x ∷ xs)
      here rest =
          ap (λ b. if b then option_map (λ (rest : List ℕ). x ∷ rest) (first_way regions leads goal steps (x ∷ passed)
          x) else None) (and_from (leads region x) (not (is_in passed x)) leads_on.0 (ap not free.0))
          ∙ ap (λ o. option_map (λ (rest : List ℕ). x ∷ rest) o) rest

      -- no lesser region begins one
      none : (y : ℕ) → y < x → (o : Option (List ℕ))
          → way_by leads (first_way regions leads goal steps) passed region y ≡ o
          → way_by leads (first_way regions leads goal steps) passed region y ≡ None
      none y less None is = is
      none y less (Some way) is =
          let it = by_way (first_way regions leads goal steps) (λ p r w e. way_is steps p r w e) passed region y way is
          in
          absurd (apart way is (first way it.0 it.1))
        where
          begins : (o : Option (List ℕ)) (b : Bool) (way : List ℕ)
              → (if b then option_map (λ (rest : List ℕ). y ∷ rest) o else None) ≡ Some way
              → (rest : List ℕ) × (way ≡ y ∷ rest)
          begins o false way e = absurd (none-some way e)
          begins None true way e = absurd (none-some way e)
          begins (Some rest) true way e = (rest, (let same : y ∷ rest ≡ way = cc in sym same))

          apart : (way : List ℕ) → way_by leads (first_way regions leads goal steps) passed region y ≡ Some way
              → IsNoLater (x ∷ xs) way → ⊥
          apart way e later =
              let b = begins (first_way regions leads goal steps (y ∷ passed) y)
              (leads region y && not (is_in passed y))
              way e in
              by b.0 (subst (λ (w : List ℕ). IsNoLater (x ∷ xs) w) b.1 later)
            where
              by : (rest : List ℕ) → (x < y) ⊎ ((x ≡ y) × IsNoLater xs rest) → ⊥
              by rest (inl more) = omega (arith, less, more)
              by rest (inr (same, l)) = omega (arith, less, same)

-- ---- by pairs

pair_in : (pairs : List (ℕ × ℕ)) (a b : ℕ) → Contains pairs (a, b) → is_pair pairs a b ≡ true
pair_in pairs a b c =
    any_in (λ (pair : ℕ × ℕ). pair.0 == a && pair.1 == b) pairs (a, b) (to_in pairs (a, b) c)
    (and_from (a == a) (b == b) (is_number a) (is_number b))

in_pair : (pairs : List (ℕ × ℕ)) (a b : ℕ) → is_pair pairs a b ≡ true → Contains pairs (a, b)
in_pair pairs a b e =
    let some = in_any (λ (pair : ℕ × ℕ). pair.0 == a && pair.1 == b) pairs e in
    let parts = and_parts (some.0.0 == a) (some.0.1 == b) some.2 in
    let P : ℕ × ℕ → Type 0 = λ p. In pairs p in
    from_in pairs (a, b)
    (subst P (ap (λ n. (n, some.0.1)) (number_is some.0.0 a parts.0) ∙ ap (λ n. (a, n)) (number_is some.0.1 b parts.1))
    some.1)

way_of : (pairs : List (ℕ × ℕ)) (a : ℕ) (rs : List ℕ) (goal : ℕ) → WaitsAlong pairs a rs goal
    → Way (is_pair pairs) a rs goal
way_of pairs a [] goal w = pair_in pairs a goal w
way_of pairs a (r ∷ rs) goal w = (pair_in pairs a r w.0, way_of pairs r rs goal w.1)

of_way : (pairs : List (ℕ × ℕ)) (a : ℕ) (rs : List ℕ) (goal : ℕ) → Way (is_pair pairs) a rs goal
    → WaitsAlong pairs a rs goal
of_way pairs a [] goal w = in_pair pairs a goal w
of_way pairs a (r ∷ rs) goal w = (in_pair pairs a r w.0, of_way pairs r rs goal w.1)

-- the second of each pair is the region of a lock
waits_within : (requests locks : List Lock) (regions a b : ℕ)
    → ((lock : Lock) → Contains locks lock → (1 ≤ lock.region) × (lock.region ≤ regions))
    → Contains (waits requests locks) (a, b) → (1 ≤ b) × (b ≤ regions)
waits_within requests locks regions a b within c =
    let q = in_flat (λ wanted. map (λ (lock : Lock). pair wanted.region lock.region) (filter (conflicts wanted) locks))
    requests (pair a b) (to_in (waits requests locks) (pair a b) c) in
    let l = in_map (λ (lock : Lock). pair q.0.region lock.region) (filter (conflicts q.0) locks) (pair a b) q.2 in
    let k = in_filter (conflicts q.0) locks l.0 l.1 in
    let P : ℕ → Type 0 = λ n. (1 ≤ n) × (n ≤ regions) in
    subst P (ap (λ (p : ℕ × ℕ). p.1) l.2) (within l.0 (from_in locks l.0 k.0))

-- ---- the first cycle

pub is_first_cycle : (regions : ℕ) (requests locks : List Lock) (region : ℕ) (cycle : List ℕ)
    → ((lock : Lock) → Contains locks lock → (1 ≤ lock.region) × (lock.region ≤ regions))
    → IsCycle (waits requests locks) (region ∷ cycle)
    → IsDistinct ◌==◌ (region ∷ cycle)
    → length (region ∷ cycle) ≤ regions
    → IsFirstCycle (waits requests locks) region (region ∷ cycle)
    → region ∷ cycle ≡ first_cycle regions requests locks region
is_first_cycle regions requests locks region cycle within closes apart short first =
    ap (λ (o : Option (List ℕ)). region ∷ unwrap_or o [])
    (sym (is_first_way regions (is_pair (waits requests locks)) region regions (region ∷ []) region cycle
    (way_of (waits requests locks) region cycle region closes) (free_behind region cycle apart)
    (range region cycle region closes) (omega (arith, short))
    (λ other way free. behind other (first other (of_way (waits requests locks) region other region way)
    (apart_behind region other free)))))
  where
    range : (a : ℕ) (rs : List ℕ) (goal : ℕ) → WaitsAlong (waits requests locks) a rs goal → (r : ℕ)
        → is_in rs r ≡ true → (1 ≤ r) × (r ≤ regions)
    range a [] goal w r e = absurd (cc)
    range a (x ∷ xs) goal w r e = by (r == x) refl e (range x xs goal w.1 r)
      where
        by : (b : Bool) → (r == x) ≡ b → (b || is_in xs r) ≡ true
            → (is_in xs r ≡ true → (1 ≤ r) × (r ≤ regions)) → (1 ≤ r) × (r ≤ regions)
        by true same e2 rest = let P : ℕ → Type 0 = λ n. (1 ≤ n) × (n ≤ regions) in
            subst P (sym (number_is r x same)) (waits_within requests locks regions a x within w.0)
        by false other e2 rest = rest e2

    behind : (other : List ℕ) → IsNoLater (region ∷ cycle) (region ∷ other) → IsNoLater cycle other
    behind other (inl less) = absurd (omega (arith, less))
    behind other (inr (same, later)) = later
