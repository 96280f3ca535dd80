-- What the code keeps true, behind a request, a lock gained and locks dropped.
use Rattle.std.proofs.Common.{refl, arith, ◌≡◌, ℕ, zero, suc, ◌<◌, ◌≤◌, List, [], ◌∷◌, ◌++◌, length, Bool, true, false, not, ◌&&◌, ◌==◌, Option, Some, None, ◌⊎◌, inl, inr, ⊎_elim, ap, sym, subst, ◌∙◌}
use mathlib.Core.Path.{fun_ext}
use Rattle.std.specs.Prelude.{⊤, if◌then◌else◌, Contains, option_and_then, slice_set}
use Rattle.std.proofs.lemmas.Bool.{cases_eq}
use Rattle.fp_model.specs.declared.calls.Mode.{Mode}
use Rattle.fp_model.specs.declared.calls.Resource.{Resource}
use Rattle.fp_model.specs.Waiting.{Lock, same_resource}
use Rattle.ci_locks.specs.Holdings.{AreHeld, held_by, holders_in, mode_of}
use Rattle.ci_locks.specs.Regions.{IsRight, IsSound, is_ahead, region_at}
use Rattle.ci_locks.specs.inside.Regions.{AreTold, Hears, ahead_of, asked_mode, heard, region_request, standing_of}
use Rattle.ci_locks.specs.Sets.{has}
use Rattle.ci_locks.specs.Standing.{is_in_conflict}
use Rattle.ci_locks.specs.inside.Standing.{Asks, Frees, Gains, raised}
use Rattle.ci_locks.specs.Table.{lock_of}
use Rattle.ci_locks.specs.declared.holding.Holders.{Holders}
use Rattle.ci_locks.specs.declared.holding.Holdings.{Holdings}
use Rattle.ci_locks.specs.declared.state.News.{News}
use Rattle.ci_locks.specs.declared.state.Region.{Region}
use Rattle.ci_locks.specs.declared.state.Request.{Request}
use Rattle.ci_locks.specs.declared.state.State.{State}
use Rattle.ci_locks.proofs.Regions.{at_here, at_other, at_push, set_long}
use Rattle.ci_locks.proofs.Shown.{In, from_in, to_in}
use Rattle.plain_laws.proofs.Numbers.{is_number, other_number}
use Rattle.model_laws.proofs.Resources.{resource_is_same, same_resources}
use Rattle.plain_laws.proofs.Truths.{and_false}
use Rattle.std.proofs.lemmas.Option.{same_Some}

-- ---- one more in a list

in_more : (xs : List Resource) (y x : Resource) → In xs x → In (xs ++ y ∷ []) x
in_more [] y x i = absurd i
in_more (z ∷ xs) y x (inl same) = inl same
in_more (z ∷ xs) y x (inr i) = inr (in_more xs y x i)

in_end : (xs : List Resource) (y : Resource) → In (xs ++ y ∷ []) y
in_end [] y = inl refl
in_end (z ∷ xs) y = inr (in_end xs y)

pub contains_more : (xs : List Resource) (y x : Resource) → Contains xs x → Contains (xs ++ y ∷ []) x
contains_more xs y x c = from_in (xs ++ y ∷ []) x (in_more xs y x (to_in xs x c))

pub contains_end : (xs : List Resource) (y : Resource) → Contains (xs ++ y ∷ []) y
contains_end xs y = from_in (xs ++ y ∷ []) y (in_end xs y)

in_less : (xs : List Resource) (y x : Resource) → In (xs ++ y ∷ []) x → In xs x ⊎ (y ≡ x)
in_less [] y x (inl same) = inr same
in_less [] y x (inr i) = absurd i
in_less (z ∷ xs) y x (inl same) = inl (inl same)
in_less (z ∷ xs) y x (inr i) = by (in_less xs y x i)
  where
    by : In xs x ⊎ (y ≡ x) → ((z ≡ x) ⊎ In xs x) ⊎ (y ≡ x)
    by (inl j) = inl (inr j)
    by (inr same) = inr same

-- an element that isn't the last stands before it
pub contains_less : (xs : List Resource) (y x : Resource) → Contains (xs ++ y ∷ []) x → (same_resource y x ≡ true → ⊥)
    → Contains xs x
contains_less xs y x c apart = by (in_less xs y x (to_in (xs ++ y ∷ []) x c))
  where
    by : In xs x ⊎ (y ≡ x) → Contains xs x
    by (inl i) = from_in xs x i
    by (inr same) = absurd (apart (ap (same_resource y) (sym same) ∙ resource_is_same y))

-- ---- a request

module _ (s t : State) (place region : ℕ) (r next : Region) (holdings : t.holdings ≡ s.holdings)
    (regions : t.regions.items ≡ slice_set s.regions.items place next)
    (within : place < length s.regions.items) (number : region ≡ suc place)
    (there : region_at s.regions.items region ≡ Some r) where
  at_it : region_at t.regions.items region ≡ Some next
  at_it = ap (λ list. region_at list region) regions ∙ at_here s.regions.items place region next within number

  at_others : (other : ℕ) → (other ≡ region → ⊥) → region_at t.regions.items other ≡ region_at s.regions.items other
  at_others other ne = ap (λ list. region_at list other) regions ∙ at_other s.regions.items place region other next
      number ne

  long : length t.regions.items ≡ length s.regions.items
  long = ap length regions ∙ set_long s.regions.items place next

  pub asks_now : Asks (standing_of s) (standing_of t) region (lock_of region next.request)
  asks_now = record {
    regions = long;
    holds = λ other resource. ap (λ h. held_by h other resource) holdings;
    asks = λ other. ⊎_elim
        (λ (here : other ≡ region).
        ap (λ n. region_request n (region_at t.regions.items n)) here ∙ ap (region_request region) at_it
        ∙ sym (ap (λ b. if b then lock_of region next.request else region_request other
        (region_at s.regions.items other)) (ap (λ n. n == region) here ∙ is_number region)))
        (λ (ne : other ≡ region → ⊥).
        ap (region_request other) (at_others other ne)
        ∙ sym (ap (λ b. if b then lock_of region next.request else region_request other
        (region_at s.regions.items other)) (other_number other region ne)))
        (cases_eq other region);
  }

  pub asks_sound : IsSound s → next.held.items ≡ r.held.items → IsRight s.holdings region next → IsSound t
  asks_sound sound same right = record {
    few = let f = sound.few in omega (arith, long, f);
    right = λ n one is. let P : Holdings → Type 0 = λ h. IsRight h n one in subst P (sym holdings)
        (⊎_elim
        (λ (here : n ≡ region).
        let it : next ≡ one = same_Some next one (sym at_it ∙ ap (region_at t.regions.items) (sym here) ∙ is) in
        let Q : ℕ → Type 0 = λ k. IsRight s.holdings k one in
        let R : Region → Type 0 = IsRight s.holdings region in
        subst Q (sym here) (subst R it right))
        (λ (ne : n ≡ region → ⊥). sound.right n one (sym (at_others n ne) ∙ is))
        (cases_eq n region));
    listed = λ n one is resource mode held.
        let was : held_by s.holdings n resource ≡ Some mode = ap (λ h. held_by h n resource) (sym holdings) ∙ held in
        ⊎_elim
        (λ (here : n ≡ region).
        let it : next ≡ one = same_Some next one (sym at_it ∙ ap (region_at t.regions.items) (sym here) ∙ is) in
        let P : List Resource → Type 0 = λ list. Contains list resource in
        subst P (sym same ∙ ap (λ (x : Region). x.held.items) it)
        (sound.listed n r (ap (region_at s.regions.items) here ∙ there) resource mode was))
        (λ (ne : n ≡ region → ⊥). sound.listed n one (sym (at_others n ne) ∙ is) resource mode was)
        (cases_eq n region);
    within = λ n resource mode held.
        let w = sound.within n resource mode (ap (λ h. held_by h n resource) (sym holdings) ∙ held) in
        (w.0, omega (arith, w.1, long));
    held = let P : Holdings → Type 0 = AreHeld in subst P (sym holdings) sound.held;
  }

-- ---- a region's list has more

module _ (s t : State) (place region : ℕ) (r next : Region)
    (regions : t.regions.items ≡ slice_set s.regions.items place next)
    (within : place < length s.regions.items) (number : region ≡ suc place)
    (there : region_at s.regions.items region ≡ Some r)
    (request : next.request ≡ r.request) (modes : (other : ℕ) (one : Resource)
    → held_by t.holdings other one ≡ held_by s.holdings other one) where
  list_long : length t.regions.items ≡ length s.regions.items
  list_long = ap length regions ∙ set_long s.regions.items place next

  list_it : region_at t.regions.items region ≡ Some next
  list_it = ap (λ list. region_at list region) regions ∙ at_here s.regions.items place region next within number

  list_others : (other : ℕ) → (other ≡ region → ⊥) → region_at t.regions.items other ≡ region_at s.regions.items other
  list_others other ne = ap (λ list. region_at list other) regions ∙ at_other s.regions.items place region other next
      number ne

  pub lists_stand : standing_of t ≡ standing_of s
  lists_stand =
      ap (λ n. record {
        regions = n;
        holds = held_by t.holdings;
        asks =
            λ k. region_request k (region_at t.regions.items k);
      }) list_long
      ∙ ap (λ (h : ℕ → Resource → Option Mode). record
      { regions = length s.regions.items; holds = h; asks = λ k. region_request k (region_at t.regions.items k) })
      (fun_ext (λ other. fun_ext (λ one. modes other one)))
      ∙ ap (λ (q : ℕ → Option Lock). record { regions = length s.regions.items; holds = held_by s.holdings; asks = q })
      (fun_ext (λ k. asks k))
    where
      asks : (k : ℕ) → region_request k (region_at t.regions.items k) ≡ region_request k (region_at s.regions.items k)
      asks k =
          ⊎_elim
          (λ (here : k ≡ region).
          ap (λ j. region_request k (region_at t.regions.items j)) here ∙ ap (region_request k) list_it ∙ ap (lock_of k)
          request
          ∙ sym (ap (region_request k) there) ∙ sym (ap (λ j. region_request k (region_at s.regions.items j)) here))
          (λ (ne : k ≡ region → ⊥). ap (region_request k) (list_others k ne))
          (cases_eq k region)

  pub lists_sound : IsSound s → ((other : ℕ) → has next.ahead.0 other ≡ has r.ahead.0 other)
      → ((one : Resource) → Contains r.held.items one → Contains next.held.items one) → AreHeld t.holdings → IsSound t
  lists_sound sound ahead kept held = record {
    few = let f = sound.few in omega (arith, list_long, f);
    right = λ k one is. ⊎_elim
        (λ (here : k ≡ region).
        let it : next ≡ one = same_Some next one (sym list_it ∙ ap (region_at t.regions.items) (sym here) ∙ is) in
        let P : Region → Type 0 = IsRight t.holdings k in
        subst P it (λ other. ahead other ∙ sound.right k r (ap (region_at s.regions.items) here ∙ there) other ∙
        same_ahead k r.request other ∙ ap (λ q. is_ahead t.holdings k q other) (sym request)))
        (λ (ne : k ≡ region → ⊥) other. sound.right k one (sym (list_others k ne) ∙ is) other ∙ same_ahead k one.request
        other)
        (cases_eq k region);
    listed = λ k one is resource mode has_it.
        let was : held_by s.holdings k resource ≡ Some mode = sym (modes k resource) ∙ has_it in
        ⊎_elim
        (λ (here : k ≡ region).
        let it : next ≡ one = same_Some next one (sym list_it ∙ ap (region_at t.regions.items) (sym here) ∙ is) in
        let P : Region → Type 0 = λ x. Contains x.held.items resource in
        subst P it (kept resource (sound.listed k r (ap (region_at s.regions.items) here ∙ there) resource mode was)))
        (λ (ne : k ≡ region → ⊥). sound.listed k one (sym (list_others k ne) ∙ is) resource mode was)
        (cases_eq k region);
    within = λ k one m has_it. let w = sound.within k one m (sym (modes k one) ∙ has_it) in
        (w.0, omega (arith, w.1, list_long));
    held = held;
  }
    where
      same_ahead : (k : ℕ) (q : Option Request) (other : ℕ)
          → is_ahead s.holdings k q other ≡ is_ahead t.holdings k q other
      same_ahead k None other = refl
      same_ahead k (Some q) other = ap (λ m. not (other == k) && is_in_conflict m q.mode) (sym (modes other q.resource))

-- ---- regions that are told

long_told : (n : News) (number : ℕ) (old new : Option Region) → AreTold n number old new
    → region_request number new ≡ region_request number old
long_told n number None None told = refl
long_told n number (Some old) (Some new) told = ap (lock_of number) told.request
long_told n number None (Some new) told = absurd told
long_told n number (Some old) None told = absurd told

was_there : (n : News) (number : ℕ) (old : Option Region) (new : Region) → AreTold n number old (Some new)
    → (o : Region) × (old ≡ Some o) × Hears n number o new
was_there n number None new told = absurd told
was_there n number (Some o) new told = (o, refl, told)

-- from the regions behind a change of one of them to those that are told
module _ (s t : State) (n : News) (middle : List Region) (place region : ℕ) (next : Region)
    (changed : middle ≡ slice_set s.regions.items place next)
    (within : place < length s.regions.items) (number : region ≡ suc place) (idle : next.request ≡ None)
    (long : length t.regions.items ≡ length middle)
    (told : (k : ℕ) → AreTold n k (region_at middle k) (region_at t.regions.items k)) where
  middle_it : region_at middle region ≡ Some next
  middle_it = ap (λ list. region_at list region) changed ∙ at_here s.regions.items place region next within number

  middle_others : (other : ℕ) → (other ≡ region → ⊥) → region_at middle other ≡ region_at s.regions.items other
  middle_others other ne = ap (λ list. region_at list other) changed ∙ at_other s.regions.items place region other next
      number ne

  pub as_long : length t.regions.items ≡ length s.regions.items
  as_long = long ∙ ap length changed ∙ set_long s.regions.items place next

  pub asks_less : (other : ℕ) → (standing_of t).asks other ≡
      (if other == region then None else (standing_of s).asks other)
  asks_less other =
      long_told n other (region_at middle other) (region_at t.regions.items other) (told other)
      ∙ ⊎_elim
      (λ (here : other ≡ region).
      ap (λ k. region_request k (region_at middle k)) here ∙ ap (region_request region) middle_it ∙ ap (lock_of region)
      idle
      ∙ sym (ap (λ b. if b then None else region_request other (region_at s.regions.items other))
      (ap (λ k. k == region) here ∙ is_number region)))
      (λ (ne : other ≡ region → ⊥).
      ap (region_request other) (middle_others other ne)
      ∙ sym (ap (λ b. if b then None else region_request other (region_at s.regions.items other))
      (other_number other region ne)))
      (cases_eq other region)

  -- a region that is told is the one that changed, or one that stood
  pub told_by : {P : Type 0} (k : ℕ) (new : Region) → region_at t.regions.items k ≡ Some new
      → (k ≡ region → Hears n k next new → P) → ((k ≡ region → ⊥) → (old : Region)
      → region_at s.regions.items k ≡ Some old → Hears n k old new → P) → P
  told_by k new is here else_where =
      let Q : Option Region → Type 0 = AreTold n k (region_at middle k) in
      let f = was_there n k (region_at middle k) new (subst Q is (told k)) in
      ⊎_elim
      (λ (same : k ≡ region).
      let it : f.0 ≡ next = same_Some f.0 next (sym f.1 ∙ ap (region_at middle) same ∙ middle_it) in
      let R : Region → Type 0 = λ o. Hears n k o new in
      here same (subst R it f.2))
      (λ (ne : k ≡ region → ⊥). else_where ne f.0 (sym (middle_others k ne) ∙ f.1) f.2)
      (cases_eq k region)

-- ---- a lock is gained

module _ (s t : State) (middle : List Region) (place region : ℕ) (r next : Region) (resource : Resource) (mode : Mode)
    (n : News) (holders : Holders)
    (sound : IsSound s) (within : place < length s.regions.items) (number : region ≡ suc place)
    (there : region_at s.regions.items region ≡ Some r)
    (changed : middle ≡ slice_set s.regions.items place next) (idle : next.request ≡ None)
    (alone : (other : ℕ) → has next.ahead.0 other ≡ false)
    (long : length t.regions.items ≡ length middle)
    (told : (k : ℕ) → AreTold n k (region_at middle k) (region_at t.regions.items k))
    (kept : (one : Resource) → Contains r.held.items one → Contains next.held.items one)
    (added : Contains next.held.items resource)
    (modes : (other : ℕ) (one : Resource) → held_by t.holdings other one ≡
    (if other == region && same_resource resource one then Some (raised (held_by s.holdings region resource) mode)
    else held_by s.holdings other one))
    (hears : (k : ℕ) (request : Option Request) (old : ℕ → Bool) (other : ℕ)
    → heard n k request old other ≡ ahead_of holders k (asked_mode resource request) old other)
    (has_holders : holders_in t.holdings resource ≡ Some holders) (held : AreHeld t.holdings) where
  pub gains_now : Gains (standing_of s) (standing_of t) (record { region = region; resource = resource; mode = mode })
  gains_now = record {
    regions = as_long s t n middle place region next changed within number idle long told;
    holds = modes;
    asks = asks_less s t n middle place region next changed within number idle long told;
  }

  right_still : (k : ℕ) (old new : Region) → IsRight s.holdings k old → (k ≡ region → ⊥) → Hears n k old new
      → IsRight t.holdings k new
  right_still k old new right ne h other =
      h.ahead other ∙ hears k old.request (has old.ahead.0) other ∙ by old.request (right other)
      ∙ ap (λ q. is_ahead t.holdings k q other) (sym h.request)
    where
      asked : (q : Request) (b : Bool) → same_resource resource q.resource ≡ b
          → has old.ahead.0 other ≡ (not (other == k) && is_in_conflict (held_by s.holdings other q.resource) q.mode)
          → ahead_of holders k (if b then Some q.mode else None) (has old.ahead.0) other ≡
          (not (other == k) && is_in_conflict (held_by t.holdings other q.resource) q.mode)
      asked q true same was =
          ap (λ found. not (other == k) && is_in_conflict (option_and_then (λ h2. mode_of h2 other) found) q.mode)
          (sym has_holders ∙ ap (holders_in t.holdings) (same_resources resource q.resource same))
      asked q false apart was =
          was ∙ ap (λ m. not (other == k) && is_in_conflict m q.mode)
          (sym (modes other q.resource ∙ ap (λ b. if b then Some (raised (held_by s.holdings region resource) mode) else
          held_by s.holdings other q.resource) (ap (λ b. (other == region) && b) apart ∙ and_false (other == region))))

      by : (q : Option Request) → has old.ahead.0 other ≡ is_ahead s.holdings k q other
          → ahead_of holders k (asked_mode resource q) (has old.ahead.0) other ≡ is_ahead t.holdings k q other
      by None was = was
      by (Some q) was = asked q (same_resource resource q.resource) refl was

  right_here : (k : ℕ) (new : Region) → Hears n k next new → IsRight t.holdings k new
  right_here k new h other =
      h.ahead other ∙ hears k next.request (has next.ahead.0) other ∙ ap
      (λ q. ahead_of holders k (asked_mode resource q) (has next.ahead.0) other) idle ∙ alone other
      ∙ ap (λ q. is_ahead t.holdings k q other) (sym idle ∙ sym h.request)

  pub gains_sound : IsSound t
  gains_sound = record {
    few = let f = sound.few in let l = as_long s t n middle place region next changed within number idle long told in
        omega (arith, l, f);
    right = λ k new is. told_by s t n middle place region next changed within number idle long told k new is
        (λ same h. right_here k new h) (λ ne old was h. right_still k old new (sound.right k old was) ne h);
    listed = λ k new is one m has_it. told_by s t n middle place region next changed within number idle long told k new
        is
        (λ same h. let P : List Resource → Type 0 = λ list. Contains list one in
        subst P (sym h.held) (listed_here one m (ap (λ j. held_by t.holdings j one) (sym same) ∙ has_it)))
        (λ ne old was h. let P : List Resource → Type 0 = λ list. Contains list one in
        subst P (sym h.held) (sound.listed k old was one m (sym (apart_mode k one ne) ∙ has_it)));
    within = λ k one m has_it. let l = as_long s t n middle place region next changed within number idle long told in
        ⊎_elim
        (λ (same : k ≡ region). (omega (arith, same, number), omega (arith, same, number, within, l)))
        (λ (ne : k ≡ region → ⊥). let w = sound.within k one m (sym (apart_mode k one ne) ∙ has_it) in
        (w.0, omega (arith, w.1, l)))
        (cases_eq k region);
    held = held;
  }
    where
      apart_mode : (k : ℕ) (one : Resource) → (k ≡ region → ⊥) → held_by t.holdings k one ≡ held_by s.holdings k one
      apart_mode k one ne = modes k one ∙ ap (λ b. if b && same_resource resource one then Some
          (raised (held_by s.holdings region resource) mode) else held_by s.holdings k one) (other_number k region ne)

      listed_here : (one : Resource) (m : Mode) → held_by t.holdings region one ≡ Some m → Contains next.held.items one
      listed_here one m has_it = by (same_resource resource one) refl
        where
          by : (b : Bool) → same_resource resource one ≡ b → Contains next.held.items one
          by true same = let P : Resource → Type 0 = Contains next.held.items in
              subst P (same_resources resource one same) added
          by false apart = kept one (sound.listed region r there one m
              (sym (modes region one ∙ ap (λ b. if b then Some (raised (held_by s.holdings region resource) mode) else
              held_by s.holdings region one) (ap (λ b. (region == region) && b) apart ∙ and_false (region == region)))
              ∙ has_it))

-- ---- a region drops its locks

module _ (s t : State) (middle : List Region) (place region : ℕ) (next : Region) (n : News)
    (sound : IsSound s) (within : place < length s.regions.items) (number : region ≡ suc place)
    (changed : middle ≡ slice_set s.regions.items place next) (idle : next.request ≡ None)
    (alone : (other : ℕ) → has next.ahead.0 other ≡ false)
    (long : length t.regions.items ≡ length middle)
    (told : (k : ℕ) → AreTold n k (region_at middle k) (region_at t.regions.items k))
    (modes : (other : ℕ) (one : Resource) → held_by t.holdings other one ≡
    (if other == region then None else held_by s.holdings other one))
    (hears : (k : ℕ) (request : Option Request) (old : ℕ → Bool) (other : ℕ)
    → heard n k request old other ≡ (not (other == region) && old other)) (held : AreHeld t.holdings) where
  pub frees_now : Frees (standing_of s) (standing_of t) region
  frees_now = record {
    regions = as_long s t n middle place region next changed within number idle long told;
    holds = modes;
    asks = asks_less s t n middle place region next changed within number idle long told;
  }

  freed_right : (k : ℕ) (old new : Region) → IsRight s.holdings k old → Hears n k old new → IsRight t.holdings k new
  freed_right k old new right h other =
      h.ahead other ∙ hears k old.request (has old.ahead.0) other ∙ ap (λ b. not (other == region) && b) (right other)
      ∙ by old.request ∙ ap (λ q. is_ahead t.holdings k q other) (sym h.request)
    where
      gone : (b c : Bool) (o : Option Mode) (m : Mode)
          → (not b && (c && is_in_conflict o m)) ≡ (c && is_in_conflict (if b then None else o) m)
      gone true true o m = refl
      gone true false o m = refl
      gone false c o m = refl

      by : (q : Option Request) → (not (other == region) && is_ahead s.holdings k q other) ≡ is_ahead t.holdings k q
          other
      by None = and_false (not (other == region))
      by (Some q) = gone (other == region) (not (other == k)) (held_by s.holdings other q.resource) q.mode ∙ ap
          (λ m. not (other == k) && is_in_conflict m q.mode) (sym (modes other q.resource))

  freed_here : (k : ℕ) (new : Region) → Hears n k next new → IsRight t.holdings k new
  freed_here k new h other =
      h.ahead other ∙ hears k next.request (has next.ahead.0) other ∙ ap (λ b. not (other == region) && b) (alone other)
      ∙ and_false (not (other == region))
      ∙ ap (λ q. is_ahead t.holdings k q other) (sym idle ∙ sym h.request)

  not_held : (k : ℕ) (one : Resource) (m : Mode) → k ≡ region → held_by t.holdings k one ≡ Some m → ⊥
  not_held k one m same has_it =
      let none : held_by t.holdings k one ≡ None = modes k one ∙ ap (λ b. if b then None else held_by s.holdings k one)
      (ap (λ j. j == region) same ∙ is_number region) in
      absurd (let wrong : None ≡ Some m = sym none ∙ has_it in cc)

  held_still : (k : ℕ) (one : Resource) → (k ≡ region → ⊥) → held_by t.holdings k one ≡ held_by s.holdings k one
  held_still k one ne = modes k one ∙ ap (λ b. if b then None else held_by s.holdings k one) (other_number k region ne)

  pub frees_sound : IsSound t
  frees_sound = record {
    few = let f = sound.few in let l = as_long s t n middle place region next changed within number idle long told in
        omega (arith, l, f);
    right = λ k new is. told_by s t n middle place region next changed within number idle long told k new is
        (λ same h. freed_here k new h) (λ ne old was h. freed_right k old new (sound.right k old was) h);
    listed = λ k new is one m has_it. told_by s t n middle place region next changed within number idle long told k new
        is
        (λ same h. absurd (not_held k one m same has_it))
        (λ ne old was h. let P : List Resource → Type 0 = λ list. Contains list one in
        subst P (sym h.held) (sound.listed k old was one m (sym (held_still k one ne) ∙ has_it)));
    within = λ k one m has_it. let l = as_long s t n middle place region next changed within number idle long told in
        ⊎_elim
        (λ (same : k ≡ region). absurd (not_held k one m same has_it))
        (λ (ne : k ≡ region → ⊥). let w = sound.within k one m (sym (held_still k one ne) ∙ has_it) in
        (w.0, omega (arith, w.1, l)))
        (cases_eq k region);
    held = held;
  }

-- ---- as all begins

-- it asks for nothing, and waits for nobody
abbrev pub IsIdle : Option Region → Type 0
IsIdle None = ⊤
IsIdle (Some region) = (region.request ≡ None) × ((other : ℕ) → has region.ahead.0 other ≡ false)

pub idle_more : (regions : List Region) (r : Region) → ((k : ℕ) → IsIdle (region_at regions k)) → r.request ≡ None
    → ((other : ℕ) → has r.ahead.0 other ≡ false) → (k : ℕ) → IsIdle (region_at (regions ++ r ∷ []) k)
idle_more regions r idle none alone k = at_push IsIdle regions r k (idle k) (none, alone)

pub idle_none : (k : ℕ) → IsIdle (region_at [] k)
idle_none zero = tt
idle_none (suc k) = tt

pub idle_asks : (k : ℕ) (o : Option Region) → IsIdle o → region_request k o ≡ None
idle_asks k None idle = refl
idle_asks k (Some region) idle = ap (lock_of k) idle.0

nobody_holds : (m : Mode) → None ≡ Some m → ⊥
nobody_holds m e = absurd (cc)

pub idle_sound : (s : State) → length s.regions.items ≤ 64 → ((k : ℕ) → IsIdle (region_at s.regions.items k))
    → ((one : Resource) → holders_in s.holdings one ≡ None) → IsSound s
idle_sound s few idle none = record {
  few = few;
  right = λ k region is other. let P : Option Region → Type 0 = IsIdle in let it = subst P is (idle k) in
      it.1 other ∙ ap (λ q. is_ahead s.holdings k q other) (sym it.0);
  listed = λ k region is one m has_it. absurd (nobody_holds m (sym (no_mode k one) ∙ has_it));
  within = λ k one m has_it. absurd (nobody_holds m (sym (no_mode k one) ∙ has_it));
  held = λ one holders is. absurd (let wrong : None ≡ Some holders = sym (none one) ∙ is in
      cc);
}
  where
    no_mode : (k : ℕ) (one : Resource) → held_by s.holdings k one ≡ None
    no_mode k one = ap (λ found. option_and_then (λ holders. mode_of holders k) found) (none one)
