-- What an answer makes of the lists, and the cycles that they show.
use Rattle.std.proofs.Common.{refl, arith, ◌≡◌, ℕ, zero, suc, ◌+◌, ◌<◌, ◌≤◌, List, [], ◌∷◌, ◌++◌, map, filter, Bool, true, false, not, ◌&&◌, ◌==◌, Option, Some, None, inl, inr, ◌⊎◌, ⊎_elim, ap, sym, subst, ◌∙◌}
use Rattle.std.specs.Prelude.{if◌then◌else◌, Contains, flat_map}
use Rattle.std.specs.List.{IsDistinct}
use Rattle.std.proofs.lemmas.Bool.{cases_eq, and_from, and_parts, not_from_false}
use Rattle.std.proofs.lemmas.Bool.Decides.{nat_tests}
use Rattle.fp_model.specs.declared.calls.Mode.{Mode}
use Rattle.fp_model.specs.declared.calls.Mode.TheVariants.{Share, Exclusive}
use Rattle.fp_model.specs.declared.calls.Resource.{Resource}
use Rattle.fp_model.specs.State.{numbers_up}
use Rattle.fp_model.specs.Waiting.{Lock, held_as, conflicts, is_blocked, same_resource, waits, WaitsAlong, without_region, with_request}
use Rattle.ci_locks.specs.Graph.{is_in}
use Rattle.ci_locks.specs.inside.Graph.{Along, next, next_of}
use Rattle.ci_locks.specs.Standing.{Standing, Shows, IsGrant, gained, gained_over}
use Rattle.ci_locks.specs.inside.Standing.{Gains, asking, blocking, in_way, raised}
use Rattle.ci_locks.specs.declared.locks.Grant.TheVariants as grant
use Rattle.ci_locks.proofs.Shown.{In, to_in, from_in, any_in, in_any, in_filter, filter_in, lock_counts, way_counts, blockers_are}
use Rattle.plain_laws.proofs.Numbers.{is_number, number_is}
use Rattle.model_laws.proofs.Resources.{resource_is_same, same_resources}
use Rattle.plain_laws.proofs.Truths.{not_true}

-- ---- numbers in lists

is_in_to : (xs : List ℕ) (n : ℕ) → is_in xs n ≡ true → In xs n
is_in_to xs n e = let r = in_any (λ m. n == m) xs e in let P : ℕ → Type 0 = λ m. In xs m in
    subst P (sym (number_is n r.0 r.2)) r.1

to_is_in : (xs : List ℕ) (n : ℕ) → In xs n → is_in xs n ≡ true
to_is_in xs n i = any_in (λ m. n == m) xs n i (is_number n)

numbers_in : (n from b : ℕ) → from ≤ b → b < from + n → In (numbers_up n from) b
numbers_in zero from b le lt = absurd (omega (arith, le, lt))
numbers_in (suc n) from b le lt =
    ⊎_elim
    (λ (here : from ≡ b). inl here)
    (λ (ne : from ≡ b → ⊥). inr (numbers_in n (from + 1) b (omega (arith, ne, le)) (omega (arith, lt))))
    (cases_eq from b)

in_blocking : (s : Standing) (wanted : Lock) (b : ℕ) → 1 ≤ b → b ≤ s.regions → in_way s wanted b ≡ true
    → is_in (blocking s wanted) b ≡ true
in_blocking s wanted b one most e = to_is_in (blocking s wanted) b
    (filter_in (in_way s wanted) (numbers_up s.regions 1) b (numbers_in s.regions 1 b one (omega (arith, most))) e)

blocking_in : (s : Standing) (wanted : Lock) (b : ℕ) → is_in (blocking s wanted) b ≡ true → in_way s wanted b ≡ true
blocking_in s wanted b e = (in_filter (in_way s wanted) (numbers_up s.regions 1) b (is_in_to (blocking s wanted) b e)).1

-- ---- elements of lists that are made of others

in_left : {X : Type 0} (xs ys : List X) (x : X) → In xs x → In (xs ++ ys) x
in_left [] ys x i = absurd i
in_left (y ∷ xs) ys x (inl same) = inl same
in_left (y ∷ xs) ys x (inr i) = inr (in_left xs ys x i)

in_right : {X : Type 0} (xs ys : List X) (x : X) → In ys x → In (xs ++ ys) x
in_right [] ys x i = i
in_right (y ∷ xs) ys x i = inr (in_right xs ys x i)

in_either : {X : Type 0} (xs ys : List X) (x : X) → In (xs ++ ys) x → In xs x ⊎ In ys x
in_either [] ys x i = inr i
in_either (y ∷ xs) ys x (inl same) = inl (inl same)
in_either (y ∷ xs) ys x (inr i) = by (in_either xs ys x i)
  where
    by : In xs x ⊎ In ys x → ((y ≡ x) ⊎ In xs x) ⊎ In ys x
    by (inl j) = inl (inr j)
    by (inr j) = inr j

pub in_map : {X Y : Type 0} (f : X → Y) (xs : List X) (y : Y) → In (map f xs) y → (x : X) × In xs x × (f x ≡ y)
in_map f [] y i = absurd i
in_map f (x ∷ xs) y (inl same) = (x, inl refl, same)
in_map f (x ∷ xs) y (inr i) = let r = in_map f xs y i in (r.0, inr r.1, r.2)

map_in : {X Y : Type 0} (f : X → Y) (xs : List X) (x : X) → In xs x → In (map f xs) (f x)
map_in f [] x i = absurd i
map_in f (y ∷ xs) x (inl same) = inl (ap f same)
map_in f (y ∷ xs) x (inr i) = inr (map_in f xs x i)

pub in_flat : {X Y : Type 0} (f : X → List Y) (xs : List X) (y : Y) → In (flat_map f xs) y → (x : X) × In xs x
    × In (f x) y
in_flat f [] y i = absurd i
in_flat {X = X} f (x ∷ xs) y i = by (in_either (f x) (flat_map f xs) y i) (in_flat f xs y)
  where
    by : In (f x) y ⊎ In (flat_map f xs) y → (In (flat_map f xs) y → (z : X) × In xs z × In (f z) y) → (z : X)
        × ((x ≡ z) ⊎ In xs z) × In (f z) y
    by (inl j) rest = (x, inl refl, j)
    by (inr j) rest = let r = rest j in (r.0, inr r.1, r.2)

flat_in : {X Y : Type 0} (f : X → List Y) (xs : List X) (x : X) (y : Y) → In xs x → In (f x) y → In (flat_map f xs) y
flat_in f [] x y i j = absurd i
flat_in {Y = Y} f (z ∷ xs) x y (inl same) j = in_left (f z) (flat_map f xs) y
    (let P : List Y → Type 0 = λ ys. In ys y in subst P (ap f (sym same)) j)
flat_in f (z ∷ xs) x y (inr i) j = in_right (f z) (flat_map f xs) y (flat_in f xs x y i j)

-- ---- who stands in the way, and who waits

abbrev pub pair : ℕ → ℕ → ℕ × ℕ
pair a b = (a, b)

-- a request that stands is its region's
abbrev pub Owns : Standing → Type 0
Owns s = (a : ℕ) (q : Lock) → s.asks a ≡ Some q → q.region ≡ a

module _ (s : Standing) (locks requests : List Lock) (shows : Shows s locks requests) where
  -- a lock in the way is one of a region in the way
  counts : (wanted lock : Lock) → In locks lock → conflicts wanted lock ≡ true
      → is_in (blocking s wanted) lock.region ≡ true
  counts wanted lock i e = let w = shows.within lock (from_in locks lock i) in
      in_blocking s wanted lock.region w.0 w.1 (lock_counts s locks requests shows wanted lock i e)

  pub open_way : (wanted : Lock) → blocking s wanted ≡ [] → is_blocked locks wanted ≡ false
  open_way wanted none = by (is_blocked locks wanted) refl
    where
      by : (b : Bool) → is_blocked locks wanted ≡ b → b ≡ false
      by true e = absurd (let l = in_any (conflicts wanted) locks e in
          let no : false ≡ true = ap (λ list. is_in list l.0.region) (sym none) ∙ counts wanted l.0 l.1 l.2 in cc)
      by false e = refl

  pub shut_way : (wanted : Lock) → (blocking s wanted ≡ [] → ⊥) → is_blocked locks wanted ≡ true
  shut_way wanted some = by (blocking s wanted) refl
    where
      by : (list : List ℕ) → blocking s wanted ≡ list → is_blocked locks wanted ≡ true
      by [] e = absurd (some e)
      by (b ∷ bs) e =
          let way = way_counts s locks requests shows wanted b
          (blocking_in s wanted b (ap (λ list. is_in list b) e ∙ to_is_in (b ∷ bs) b (inl refl))) in
          any_in (conflicts wanted) locks way.0 way.1 way.3

  wait_edge : (a b : ℕ) → Contains (waits requests locks) (a, b) → is_in (next s a) b ≡ true
  wait_edge a b c =
      let q = in_flat (λ wanted. map (λ lock. pair wanted.region lock.region) (filter (conflicts wanted) locks))
      requests (pair a b) (to_in (waits requests locks) (pair a b) c) in
      let l = in_map (λ lock. pair q.0.region lock.region) (filter (conflicts q.0) locks) (pair a b) q.2 in
      let k = in_filter (conflicts q.0) locks l.0 l.1 in
      let from : q.0.region ≡ a = ap (λ (p : ℕ × ℕ). p.0) l.2 in
      let to : l.0.region ≡ b = ap (λ (p : ℕ × ℕ). p.1) l.2 in
      let asks : s.asks q.0.region ≡ Some q.0 = (shows.standing q.0).0 (from_in requests q.0 q.1) in
      ap (λ n. is_in (next s n) b) (sym from) ∙ ap (λ o. is_in (next_of s o) b) asks ∙ ap (is_in (blocking s q.0))
      (sym to) ∙ counts q.0 l.0 k.0 k.1

  edge_wait : Owns s → (a b : ℕ) → is_in (next s a) b ≡ true → Contains (waits requests locks) (a, b)
  edge_wait owns a b e = by (s.asks a) refl e
    where
      by : (o : Option Lock) → s.asks a ≡ o → is_in (next_of s o) b ≡ true → Contains (waits requests locks) (a, b)
      by None is e2 = absurd (cc)
      by (Some q) is e2 =
          let own : q.region ≡ a = owns a q is in
          let here : In requests q = to_in requests q ((shows.standing q).1 (ap s.asks own ∙ is)) in
          let way = way_counts s locks requests shows q b (blocking_in s q b e2) in
          let edge = map_in (λ lock. pair q.region lock.region) (filter (conflicts q) locks) way.0
          (filter_in (conflicts q) locks way.0 way.1 way.3) in
          let P : ℕ × ℕ → Type 0 = λ p. In (waits requests locks) p in
          from_in (waits requests locks) (pair a b)
          (subst P (ap (λ n. pair n way.0.region) own ∙ ap (pair a) way.2)
          (flat_in (λ wanted. map (λ lock. pair wanted.region lock.region) (filter (conflicts wanted) locks)) requests q
          (pair q.region way.0.region) here edge))

  pub along_of : (rs : List ℕ) (a goal : ℕ) → WaitsAlong (waits requests locks) a rs goal → Along (next s) a rs goal
  along_of [] a goal w = wait_edge a goal w
  along_of (r ∷ rs) a goal w = (wait_edge a r w.0, along_of rs r goal w.1)

  pub of_along : Owns s → (rs : List ℕ) (a goal : ℕ) → Along (next s) a rs goal
      → WaitsAlong (waits requests locks) a rs goal
  of_along owns [] a goal w = edge_wait owns a goal w
  of_along owns (r ∷ rs) a goal w = (edge_wait owns a r w.0, of_along owns rs r goal w.1)

-- ---- a request stands, or goes

module _ (s : Standing) (locks requests : List Lock) (wanted : Lock) (sh : Shows s locks requests) where
  pub asked : Shows (asking s wanted.region (Some wanted)) locks (with_request wanted requests)
  asked = record {
    held = sh.held;
    strongest = sh.strongest;
    within = sh.within;
    standing = λ request. (
      (λ c. there request (to_in (with_request wanted requests) request c)),
      (λ e. back request (request.region == wanted.region) refl e),
    );
  }
    where
      there : (request : Lock) → In (with_request wanted requests) request
          → (if request.region == wanted.region then Some wanted else s.asks request.region) ≡ Some request
      there request (inl same) =
          let P : Lock → Type 0 = λ q. (if q.region == wanted.region then Some wanted else s.asks q.region) ≡ Some q in
          subst P same (ap (λ b. if b then Some wanted else s.asks wanted.region) (is_number wanted.region))
      there request (inr i) =
          let k = in_filter (λ l. not (l.region == wanted.region)) requests request i in
          ap (λ b. if b then Some wanted else s.asks request.region) (not_true (request.region == wanted.region) k.1) ∙
          (sh.standing request).0 (from_in requests request k.0)

      back : (request : Lock) (b : Bool) → (request.region == wanted.region) ≡ b
          → (if b then Some wanted else s.asks request.region) ≡ Some request
          → Contains (with_request wanted requests) request
      back request true is e = from_in (with_request wanted requests) request
          (inl (let same : wanted ≡ request = cc in same))
      back request false is e = from_in (with_request wanted requests) request
          (inr (filter_in (λ l. not (l.region == wanted.region)) requests request
          (to_in requests request ((sh.standing request).1 e)) (not_from_false (request.region == wanted.region) is)))

-- what stands without a request of a region shows in the requests without it
gone : (s : Standing) (locks requests : List Lock) (region : ℕ) → Shows s locks requests → (request : Lock)
    → (Contains (without_region region requests) request
    → (if request.region == region then None else s.asks request.region) ≡ Some request)
    × ((if request.region == region then None else s.asks request.region) ≡ Some request
    → Contains (without_region region requests) request)
gone s locks requests region sh request = (
  (λ c. let k = in_filter (λ l. not (l.region == region)) requests request
      (to_in (without_region region requests) request c) in
      ap (λ b. if b then None else s.asks request.region) (not_true (request.region == region) k.1) ∙
      (sh.standing request).0 (from_in requests request k.0)),
  (λ e. back (request.region == region) refl e),
)
  where
    back : (b : Bool) → (request.region == region) ≡ b → (if b then None else s.asks request.region) ≡ Some request
        → Contains (without_region region requests) request
    back true is e = absurd (cc)
    back false is e = from_in (without_region region requests) request
        (filter_in (λ l. not (l.region == region)) requests request (to_in requests request ((sh.standing request).1 e))
        (not_from_false (request.region == region) is))

pub unasked : (s : Standing) (locks requests : List Lock) (region : ℕ) → Shows s locks requests
    → Shows (asking s region None) locks (without_region region requests)
unasked s locks requests region sh = record {
  held = sh.held;
  strongest = sh.strongest;
  within = sh.within;
  standing = λ request. gone s locks requests region sh request;
}

-- ---- a lock is gained

module _ (s : Standing) (locks requests : List Lock) (wanted : Lock) (sh : Shows s locks requests) where
  abbrev here : ℕ → Resource → Bool
  here region resource = region == wanted.region && same_resource wanted.resource resource

  flip : (a b : ℕ) → (a == b) ≡ (b == a)
  flip a b = grind (arith, nat_tests)

  newest : (region : ℕ) (resource : Resource) → held_as (wanted ∷ locks) region resource ≡
      (if here region resource then Some wanted.mode else s.holds region resource)
  newest region resource =
      ap (λ b. if b && same_resource wanted.resource resource then Some wanted.mode else held_as locks region resource)
      (flip wanted.region region)
      ∙ ap (λ v. if here region resource then Some wanted.mode else v) (sh.held region resource)

  same_holds : (region : ℕ) (resource : Resource) → here region resource ≡ true
      → s.holds wanted.region wanted.resource ≡ s.holds region resource
  same_holds region resource is =
      let p = and_parts (region == wanted.region) (same_resource wanted.resource resource) is in
      ap (λ n. s.holds n wanted.resource) (sym (number_is region wanted.region p.0)) ∙ ap (s.holds region)
      (same_resources wanted.resource resource p.1)

  held_gained : (region : ℕ) (resource : Resource) (o : Option Mode) → s.holds wanted.region wanted.resource ≡ o
      → held_as (gained_over o wanted locks) region resource ≡
      (if here region resource then Some (raised o wanted.mode) else s.holds region resource)
  held_gained region resource None is = newest region resource
  held_gained region resource (Some Share) is = newest region resource
  held_gained region resource (Some Exclusive) is = sh.held region resource ∙ by (here region resource) refl
    where
      by : (b : Bool) → here region resource ≡ b → s.holds region resource ≡
          (if b then Some Exclusive else s.holds region resource)
      by true e = sym (same_holds region resource e) ∙ is
      by false e = refl

  in_gained : (o : Option Mode) (lock : Lock) → In (gained_over o wanted locks) lock → (wanted ≡ lock) ⊎ In locks lock
  in_gained None lock i = i
  in_gained (Some Share) lock i = i
  in_gained (Some Exclusive) lock i = inr i

  raised_exclusive : (o : Option Mode) → raised o Exclusive ≡ Exclusive
  raised_exclusive None = refl
  raised_exclusive (Some Share) = refl
  raised_exclusive (Some Exclusive) = refl

  strong : (lock : Lock) → (wanted ≡ lock) ⊎ In locks lock → lock.mode ≡ Exclusive
      → (if here lock.region lock.resource then Some (raised (s.holds wanted.region wanted.resource) wanted.mode) else
      s.holds lock.region lock.resource) ≡ Some Exclusive
  strong lock (inl same) e =
      let P : Lock → Type 0 = λ l. (if here l.region l.resource then Some
      (raised (s.holds wanted.region wanted.resource) wanted.mode) else s.holds l.region l.resource) ≡ Some
      Exclusive in
      let mode : wanted.mode ≡ Exclusive = ap (λ (l : Lock). l.mode) same ∙ e in
      subst P same
      (ap (λ b. if b then Some (raised (s.holds wanted.region wanted.resource) wanted.mode) else s.holds wanted.region
      wanted.resource) (and_from (wanted.region == wanted.region) (same_resource wanted.resource wanted.resource)
      (is_number wanted.region) (resource_is_same wanted.resource))
      ∙ ap (λ m. Some (raised (s.holds wanted.region wanted.resource) m)) mode
      ∙ ap Some (raised_exclusive (s.holds wanted.region wanted.resource)))
  strong lock (inr i) e = by (here lock.region lock.resource) refl (sh.strongest lock (from_in locks lock i) e)
    where
      by : (b : Bool) → here lock.region lock.resource ≡ b → s.holds lock.region lock.resource ≡ Some Exclusive
          → (if b then Some (raised (s.holds wanted.region wanted.resource) wanted.mode) else s.holds lock.region
          lock.resource) ≡ Some Exclusive
      by true is held = ap (λ o. Some (raised o wanted.mode)) (same_holds lock.region lock.resource is ∙ held)
      by false is held = held

  within_gained : 1 ≤ wanted.region → wanted.region ≤ s.regions → (lock : Lock) → (wanted ≡ lock) ⊎ In locks lock
      → (1 ≤ lock.region) × (lock.region ≤ s.regions)
  within_gained one most lock (inl same) = let P : Lock → Type 0 = λ l. (1 ≤ l.region) × (l.region ≤ s.regions) in
      subst P same (one, most)
  within_gained one most lock (inr i) = sh.within lock (from_in locks lock i)

  pub gains : (t : Standing) → 1 ≤ wanted.region → wanted.region ≤ s.regions → Gains s t wanted
      → Shows t (gained wanted locks) (without_region wanted.region requests)
  gains t one most g = record {
    held = λ region resource.
        ap (λ o. held_as (gained_over o wanted locks) region resource) (sh.held wanted.region wanted.resource)
        ∙ held_gained region resource (s.holds wanted.region wanted.resource) refl ∙ sym (g.holds region resource);
    strongest = λ lock c e. g.holds lock.region lock.resource ∙ strong lock
        (in_gained (held_as locks wanted.region wanted.resource) lock (to_in (gained wanted locks) lock c)) e;
    within = λ lock c.
        let w = within_gained one most lock (in_gained (held_as locks wanted.region wanted.resource) lock
        (to_in (gained wanted locks) lock c)) in
        (w.0, let r : t.regions ≡ s.regions = g.regions in omega (arith, w.1, r));
    standing = λ request.
        let both_ways = gone s locks requests wanted.region sh request in
        ((λ c. g.asks request.region ∙ both_ways.0 c), (λ e. both_ways.1 (sym (g.asks request.region) ∙ e)));
  }

-- ---- the answers

owns_asking : (s : Standing) (wanted : Lock) → Owns s → Owns (asking s wanted.region (Some wanted))
owns_asking s wanted owns a q e = by (a == wanted.region) refl e
  where
    by : (b : Bool) → (a == wanted.region) ≡ b → (if b then Some wanted else s.asks a) ≡ Some q → q.region ≡ a
    by true is e2 = let same : wanted ≡ q = cc in ap (λ (l : Lock). l.region) (sym same) ∙ sym
        (number_is a wanted.region is)
    by false is e2 = owns a q e2

module _ (s : Standing) (locks requests : List Lock) (wanted : Lock) (sh : Shows s locks requests) where
  pub waits_for : (holders : List ℕ) → holders ≡ blocking s wanted → (holders ≡ [] → ⊥)
      → ((cycle : List ℕ) → Along (next (asking s wanted.region (Some wanted))) wanted.region cycle wanted.region → ⊥)
      → IsGrant s.regions locks requests wanted (grant.Wait holders)
  waits_for holders is some none = (
    shut_way s locks requests sh wanted (λ e. some (is ∙ e)),
    is ∙ sym (blockers_are s locks requests sh wanted),
    (λ cycle w. none cycle (along_of (asking s wanted.region (Some wanted)) locks (with_request wanted requests)
        (asked s locks requests wanted sh) cycle wanted.region wanted.region w)),
  )

  pub closes : Owns s → (list cycle : List ℕ) → list ≡ wanted.region ∷ cycle
      → Along (next (asking s wanted.region (Some wanted))) wanted.region cycle wanted.region → IsDistinct ◌==◌ list
      → IsGrant s.regions locks requests wanted (grant.Cycle list)
  closes owns list cycle is along apart = (
    cycle,
    is,
    of_along (asking s wanted.region (Some wanted)) locks (with_request wanted requests)
        (asked s locks requests wanted sh) (owns_asking s wanted owns) cycle wanted.region wanted.region along,
    (let P : List ℕ → Type 0 = λ l. IsDistinct ◌==◌ l in subst P is apart),
  )
