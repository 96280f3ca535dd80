-- Lists of locks and requests, and what stands.
use Rattle.std.proofs.Common.{refl, arith, ◌≡◌, ℕ, zero, suc, ◌<◌, List, [], ◌∷◌, length, filter, Bool, true, false, cond, not, ◌&&◌, ◌||◌, ◌==◌, Option, Some, None, inl, inr, ◌⊎◌, ap, sym, subst, ◌∙◌}
use Rattle.std.specs.Prelude.{if◌then◌else◌, Contains, slice_index_or}
use Rattle.std.specs.List.{list_any}
use Rattle.std.specs.Cmp.Lexicographic.{bytes_decides}
use Rattle.std.proofs.lemmas.Bool.Decides.{nat_tests}
use Rattle.std.proofs.lemmas.List.Elements.{filter_agree}
use Rattle.fp_model.specs.declared.calls.Mode.{Mode}
use Rattle.fp_model.specs.declared.calls.Mode.TheVariants.{Share, Exclusive}
use Rattle.fp_model.specs.declared.calls.Resource.{Resource}
use Rattle.fp_model.specs.declared.calls.Resource.TheVariants.{Segment, Anchor}
use Rattle.fp_model.specs.State.{numbers_up}
use Rattle.fp_model.specs.Texts.{same_text}
use Rattle.fp_model.specs.Waiting.{Lock, held_as, conflicts, is_exclusive, same_resource, blockers, without_region}
use Rattle.ci_locks.specs.Standing.{Standing, Shows, is_in_conflict}
use Rattle.ci_locks.specs.inside.Standing.{Frees, blocking, in_way}
use Rattle.std.proofs.lemmas.Bool.{and_from, and_parts, not_from_false}
use Rattle.plain_laws.proofs.Truths.{both_ways, not_true}
use Rattle.plain_laws.proofs.Numbers.{is_number, number_is}
use Rattle.model_laws.proofs.Resources.{resource_is_same, same_resources}

-- ---- elements

abbrev pub In : {X : Type 0} → List X → X → Type 0
In [] x = ⊥
In (y ∷ ys) x = (y ≡ x) ⊎ In ys x

pub to_in : {X : Type 0} (xs : List X) (x : X) → Contains xs x → In xs x
to_in xs x c = at xs x c.0 c.1 c.2
  where
    at : {X : Type 0} (xs : List X) (x : X) (k : ℕ) → k < length xs → slice_index_or xs k x ≡ x → In xs x
    at [] x k h e = absurd (omega (arith, h))
    at (y ∷ ys) x zero h e = inl e
    at (y ∷ ys) x (suc k) h e = inr (at ys x k (omega (arith, h)) e)

pub from_in : {X : Type 0} (xs : List X) (x : X) → In xs x → Contains xs x
from_in [] x i = absurd i
from_in (y ∷ ys) x (inl e) = (0, omega arith, e)
from_in (y ∷ ys) x (inr i) = let c = from_in ys x i in (suc c.0, omega (arith, c.1), c.2)

-- ---- resources

-- ---- how a lock is held

-- a lock in the list: its region holds its resource somehow
pub held_some : (locks : List Lock) (lock : Lock) → In locks lock → (mode : Mode)
    × (held_as locks lock.region lock.resource ≡ Some mode)
held_some [] lock i = absurd i
held_some (l ∷ ls) lock i = by (l.region == lock.region && same_resource l.resource lock.resource) refl i
    (held_some ls lock)
  where
    by : (b : Bool) → (l.region == lock.region && same_resource l.resource lock.resource) ≡ b → (l ≡ lock) ⊎ In ls lock
        → (In ls lock → (mode : Mode) × (held_as ls lock.region lock.resource ≡ Some mode))
        → (mode : Mode) × ((if b then Some l.mode else held_as ls lock.region lock.resource) ≡ Some mode)
    by true e i rest = (l.mode, refl)
    by false e (inl same) rest =
        absurd (let P : Lock → Type 0 = λ x. (l.region == x.region && same_resource l.resource x.resource) ≡ true in
        let yes = subst P same (and_from (l.region == l.region) (same_resource l.resource l.resource)
        (is_number l.region) (resource_is_same l.resource)) in cc)
    by false e (inr i2) rest = rest i2

-- a way that a resource is held is a lock in the list
pub held_in : (locks : List Lock) (region : ℕ) (resource : Resource) (mode : Mode)
    → held_as locks region resource ≡ Some mode
    → In locks (record { region = region; resource = resource; mode = mode })
held_in [] region resource mode e = absurd (cc)
held_in (l ∷ ls) region resource mode e = by (l.region == region && same_resource l.resource resource) refl e
    (held_in ls region resource mode)
  where
    by : (b : Bool) → (l.region == region && same_resource l.resource resource) ≡ b
        → (if b then Some l.mode else held_as ls region resource) ≡ Some mode
        → (held_as ls region resource ≡ Some mode → In ls
        (record { region = region; resource = resource; mode = mode }))
        → (l ≡ record { region = region; resource = resource; mode = mode })
        ⊎ In ls (record { region = region; resource = resource; mode = mode })
    by true is e2 rest =
        let p = and_parts (l.region == region) (same_resource l.resource resource) is in
        let m : l.mode ≡ mode = cc in
        inl (ap (λ r. record { region = r; resource = l.resource; mode = l.mode }) (number_is l.region region p.0)
        ∙ ap (λ r. record { region = region; resource = r; mode = l.mode }) (same_resources l.resource resource p.1)
        ∙ ap (λ r. record { region = region; resource = resource; mode = r }) m)
    by false is e2 rest = inr (rest e2)

pub any_in : {X : Type 0} (p : X → Bool) (locks : List X) (lock : X) → In locks lock → p lock ≡ true
    → list_any p locks ≡ true
any_in p [] lock i e = absurd i
any_in p (l ∷ ls) lock (inl same) e = or_left (p l) (list_any p ls) (ap p same ∙ e)
  where
    or_left : (a b : Bool) → a ≡ true → (a || b) ≡ true
    or_left true b e = refl
    or_left false b e = absurd (cc)
any_in p (l ∷ ls) lock (inr i) e = or_right (p l) (list_any p ls) (any_in p ls lock i e)
  where
    or_right : (a b : Bool) → b ≡ true → (a || b) ≡ true
    or_right true b e = refl
    or_right false b e = e

pub in_any : {X : Type 0} (p : X → Bool) (locks : List X) → list_any p locks ≡ true → (lock : X) × In locks lock
    × (p lock ≡ true)
in_any p [] e = absurd (cc)
in_any {X = X} p (l ∷ ls) e = by (p l) refl e (in_any p ls)
  where
    by : (b : Bool) → p l ≡ b → (b || list_any p ls) ≡ true
        → (list_any p ls ≡ true → (lock : X) × In ls lock × (p lock ≡ true)) → (lock : X) × ((l ≡ lock) ⊎ In ls lock)
        × (p lock ≡ true)
    by true is e2 rest = (l, inl refl, is)
    by false is e2 rest = let r = rest e2 in (r.0, inr r.1, r.2)

module _ (s : Standing) (locks requests : List Lock) (shows : Shows s locks requests) where
  -- a lock in the way shows in what its region holds
  pub lock_counts : (wanted lock : Lock) → In locks lock → conflicts wanted lock ≡ true
      → in_way s wanted lock.region ≡ true
  lock_counts wanted lock i e =
      let o = and_parts (not (lock.region == wanted.region) && same_resource lock.resource wanted.resource)
      (is_exclusive lock.mode || is_exclusive wanted.mode) e in
      let p = and_parts (not (lock.region == wanted.region)) (same_resource lock.resource wanted.resource) o.0 in
      let here = held_some locks lock i in
      let same : lock.resource ≡ wanted.resource = same_resources lock.resource wanted.resource p.1 in
      let held : s.holds lock.region wanted.resource ≡ Some here.0 =
      ap (s.holds lock.region) (sym same) ∙ sym (shows.held lock.region lock.resource) ∙ here.1 in
      and_from (not (lock.region == wanted.region)) (is_in_conflict (s.holds lock.region wanted.resource) wanted.mode)
      p.0
      (by lock.mode wanted.mode here.0 o.1 held (λ x. ap (s.holds lock.region) (sym same) ∙ shows.strongest lock
      (from_in locks lock i) x))
    where
      by : (mode asked found : Mode) → (is_exclusive mode || is_exclusive asked) ≡ true
          → s.holds lock.region wanted.resource ≡ Some found
          → (mode ≡ Exclusive → s.holds lock.region wanted.resource ≡ Some Exclusive)
          → is_in_conflict (s.holds lock.region wanted.resource) asked ≡ true
      by Exclusive asked found e2 held strong = ap (λ o. is_in_conflict o asked) (strong refl)
      by Share Exclusive Share e2 held strong = ap (λ o. is_in_conflict o Exclusive) held
      by Share Exclusive Exclusive e2 held strong = ap (λ o. is_in_conflict o Exclusive) held
      by Share Share found e2 held strong = absurd (cc)

  -- what a region holds in the way is a lock in the list
  pub way_counts : (wanted : Lock) (region : ℕ) → in_way s wanted region ≡ true → (lock : Lock) × In locks lock
      × (lock.region ≡ region) × (conflicts wanted lock ≡ true)
  way_counts wanted region e =
      let p = and_parts (not (region == wanted.region)) (is_in_conflict (s.holds region wanted.resource) wanted.mode) e in
      by (s.holds region wanted.resource) refl p.1 p.0
    where
      by : (o : Option Mode) → s.holds region wanted.resource ≡ o → is_in_conflict o wanted.mode ≡ true
          → not (region == wanted.region) ≡ true
          → (lock : Lock) × In locks lock × (lock.region ≡ region) × (conflicts wanted lock ≡ true)
      by None is e2 apart = absurd (cc)
      by (Some mode) is e2 apart =
          let lock : Lock = record { region = region; resource = wanted.resource; mode = mode } in (
            lock,
            held_in locks region wanted.resource mode (shows.held region wanted.resource ∙ is),
            refl,
            and_from (not (region == wanted.region) && same_resource wanted.resource wanted.resource)
                (is_exclusive mode || is_exclusive wanted.mode)
                (and_from (not (region == wanted.region)) (same_resource wanted.resource wanted.resource) apart
                (resource_is_same wanted.resource)) e2,
          )

  -- the regions in the way, by the lists and by what stands
  pub same_way : (wanted : Lock) (region : ℕ) → list_any (λ lock. lock.region == region && conflicts wanted lock) locks
      ≡ in_way s wanted region
  same_way wanted region = both_ways (list_any (λ lock. lock.region == region && conflicts wanted lock) locks)
      (in_way s wanted region)
      (λ e. let l = in_any (λ lock. lock.region == region && conflicts wanted lock) locks e in
      let p = and_parts (l.0.region == region) (conflicts wanted l.0) l.2 in
      ap (in_way s wanted) (sym (number_is l.0.region region p.0)) ∙ lock_counts wanted l.0 l.1 p.1)
      (λ e. let l = way_counts wanted region e in
      any_in (λ lock. lock.region == region && conflicts wanted lock) locks l.0 l.1
      (and_from (l.0.region == region) (conflicts wanted l.0) (ap (λ n. n == region) l.2 ∙ is_number region) l.3))

  pub blockers_are : (wanted : Lock) → blockers s.regions locks wanted ≡ blocking s wanted
  blockers_are wanted = filter_agree (λ region. list_any (λ lock. lock.region == region && conflicts wanted lock) locks)
      (in_way s wanted) (same_way wanted) (numbers_up s.regions 1)

  pub held_is : (region : ℕ) (resource : Resource) → s.holds region resource ≡ held_as locks region resource
  held_is region resource = sym (shows.held region resource)

-- ---- a region is freed

pub in_filter : {X : Type 0} (p : X → Bool) (xs : List X) (x : X) → In (filter p xs) x → In xs x × (p x ≡ true)
in_filter p [] x i = absurd i
in_filter p (y ∷ ys) x i = by (p y) refl i (in_filter p ys x)
  where
    by : (b : Bool) → p y ≡ b → In (cond b (y ∷ filter p ys) (filter p ys)) x
        → (In (filter p ys) x → In ys x × (p x ≡ true)) → ((y ≡ x) ⊎ In ys x) × (p x ≡ true)
    by true is (inl same) rest = (inl same, ap p (sym same) ∙ is)
    by true is (inr j) rest = let r = rest j in (inr r.0, r.1)
    by false is j rest = let r = rest j in (inr r.0, r.1)

pub filter_in : {X : Type 0} (p : X → Bool) (xs : List X) (x : X) → In xs x → p x ≡ true → In (filter p xs) x
filter_in p [] x i e = absurd i
filter_in p (y ∷ ys) x i e = by (p y) refl i (λ j. filter_in p ys x j e)
  where
    by : (b : Bool) → p y ≡ b → (y ≡ x) ⊎ In ys x → (In ys x → In (filter p ys) x)
        → In (cond b (y ∷ filter p ys) (filter p ys)) x
    by true is (inl same) rest = inl same
    by true is (inr j) rest = inr (rest j)
    by false is (inl same) rest = absurd (let t : p y ≡ true = ap p same ∙ e in cc)
    by false is (inr j) rest = rest j

-- For proofs above: without a region's locks, that region holds nothing, and each other what it held.
pub held_without : (region : ℕ) (locks : List Lock) (other : ℕ) (resource : Resource)
    → held_as (without_region region locks) other resource ≡
    (if other == region then None else held_as locks other resource)
held_without region [] other resource = by (other == region) None
  where
    by : (b : Bool) (o : Option Mode) → o ≡ (if b then o else o)
    by true o = refl
    by false o = refl
held_without region (l ∷ ls) other resource = by (l.region == region) (other == region) refl refl
    (held_without region ls other resource)
  where
    one : (b c : Bool) → b ≡ false → (x y : Option Mode) → (if b && c then x else y) ≡ y
    one true c e x y = absurd (cc)
    one false c e x y = refl

    by : (b c : Bool) → (l.region == region) ≡ b → (other == region) ≡ c
        → held_as (without_region region ls) other resource ≡ (if c then None else held_as ls other resource)
        → held_as (cond (not b) (l ∷ without_region region ls) (without_region region ls)) other resource ≡
        (if c then None else (if l.region == other && same_resource l.resource resource then Some l.mode else
        held_as ls other resource))
    by true true is here rest = rest
    by true false is apart rest =
        let h : l.region ≡ region = number_is l.region region is in
        let o : (l.region == other) ≡ false = grind (arith, nat_tests) in
        rest ∙ sym (one (l.region == other) (same_resource l.resource resource) o (Some l.mode)
        (held_as ls other resource))
    by false true is here rest =
        let h : other ≡ region = number_is other region here in
        let o : (l.region == other) ≡ false = grind (arith, nat_tests) in
        one (l.region == other) (same_resource l.resource resource) o (Some l.mode)
        (held_as (without_region region ls) other resource) ∙ rest
    by false false is apart rest = ap (λ v. if l.region == other && same_resource l.resource resource then Some l.mode
        else v) rest

pub freed : (s t : Standing) (region : ℕ) (locks requests : List Lock) → Frees s t region → Shows s locks requests
    → Shows t (without_region region locks) (without_region region requests)
freed s t region locks requests frees sh = record {
  held = λ other resource. held_without region locks other resource ∙ ap (λ v. if other == region then None else v)
      (sh.held other resource) ∙ sym (frees.holds other resource);
  strongest = λ lock c e. let i = in_filter (λ l. not (l.region == region)) locks lock (to_in _ lock c) in
      frees.holds lock.region lock.resource ∙ ap (λ b. if b then None else s.holds lock.region lock.resource)
      (not_true (lock.region == region) i.1) ∙ sh.strongest lock (from_in locks lock i.0) e;
  within = λ lock c. let i = in_filter (λ l. not (l.region == region)) locks lock (to_in _ lock c) in
      let w = sh.within lock (from_in locks lock i.0) in
      (w.0, let r : t.regions ≡ s.regions = frees.regions in omega (arith, w.1, r));
  standing = λ request. (
    (λ c. let i = in_filter (λ l. not (l.region == region)) requests request (to_in _ request c) in
        frees.asks request.region ∙ ap (λ b. if b then None else s.asks request.region)
        (not_true (request.region == region) i.1) ∙ (sh.standing request).0 (from_in requests request i.0)),
    (λ e. by request (request.region == region) refl (sym (frees.asks request.region) ∙ e)),
  );
}
  where
    by : (request : Lock) (b : Bool) → (request.region == region) ≡ b
        → (if b then None else s.asks request.region) ≡ Some request → Contains (without_region region requests) request
    by request true is e = absurd (cc)
    by request false is e = from_in (without_region region requests) request
        (filter_in (λ l. not (l.region == region)) requests request (to_in requests request ((sh.standing request).1 e))
        (not_from_false (request.region == region) is))

-- nothing is held, and nothing asked for
pub nothing : (s : Standing) → ((region : ℕ) (resource : Resource) → s.holds region resource ≡ None)
    → ((region : ℕ) → s.asks region ≡ None) → Shows s [] []
nothing s holds asks = record {
  held = λ region resource. sym (holds region resource);
  strongest = λ lock c e. absurd (to_in [] lock c);
  within = λ lock c. absurd (to_in [] lock c);
  standing = λ request. ((λ c. absurd (to_in [] request c)), (λ e. absurd (let n = asks request.region in cc)));
}
