-- The sets of the code lead along those that regions wait for.
use Rattle.std.proofs.Common.{refl, arith, ◌≡◌, ℕ, zero, suc, ◌≤◌, List, [], ◌∷◌, length, Bool, true, false, not, ◌==◌, Option, Some, None, ap, sym, ◌∙◌}
use Rattle.std.specs.Prelude.{if◌then◌else◌}
use Rattle.std.proofs.lemmas.Nat.Bits.{bit_at-zero}
use Rattle.fp_model.specs.declared.calls.Mode.{Mode}
use Rattle.fp_model.specs.declared.calls.Resource.{Resource}
use Rattle.fp_model.specs.State.{numbers_up}
use Rattle.fp_model.specs.Waiting.{Lock}
use Rattle.ci_locks.specs.Graph.{is_in}
use Rattle.ci_locks.specs.inside.Graph.{Along, leads, next, next_of, set_at, set_of}
use Rattle.ci_locks.specs.Holdings.{held_by}
use Rattle.ci_locks.specs.Regions.{IsRight, IsSound, is_ahead, region_at}
use Rattle.ci_locks.specs.inside.Regions.{region_request, standing_of}
use Rattle.ci_locks.specs.Sets.{has}
use Rattle.ci_locks.specs.inside.Sets.{members}
use Rattle.ci_locks.specs.Standing.{Standing, is_in_conflict}
use Rattle.ci_locks.specs.inside.Standing.{asking, blocking, in_way}
use Rattle.ci_locks.specs.Table.{lock_of}
use Rattle.ci_locks.specs.declared.state.Region.{Region}
use Rattle.ci_locks.specs.declared.state.Request.{Request}
use Rattle.ci_locks.specs.declared.state.State.{State}
use Rattle.ci_locks.proofs.Answered.{Owns}
use Rattle.ci_locks.proofs.Members.{is_kept, is_member, kept_passes, member_is}
use Rattle.std.proofs.lemmas.Bool.{and_parts}

-- what leads one way leads another, where each step does
pub along_by : (f g : ℕ → List ℕ) → ((a b : ℕ) → is_in (f a) b ≡ true → is_in (g a) b ≡ true)
    → (rs : List ℕ) (a goal : ℕ) → Along f a rs goal → Along g a rs goal
along_by f g steps [] a goal way = steps a goal way
along_by f g steps (r ∷ rs) a goal way = (steps a r way.0, along_by f g steps rs r goal way.1)

-- each request that stands is its region's
pub owns_all : (s : State) → Owns (standing_of s)
owns_all s a q e = by (region_at s.regions.items a) e
  where
    of_request : (o : Option Request) → lock_of a o ≡ Some q → q.region ≡ a
    of_request None e2 = absurd (cc)
    of_request (Some request) e2 =
        let same : (record { region = a; resource = request.resource; mode = request.mode }) ≡ q = cc in
        ap (λ (l : Lock). l.region) (sym same)

    by : (o : Option Region) → region_request a o ≡ Some q → q.region ≡ a
    by None e2 = absurd (cc)
    by (Some region) e2 = of_request region.request e2

no_conflict : (m : Mode) → is_in_conflict None m ≡ true → ⊥
no_conflict m e = absurd (cc)

none_has : (b : ℕ) → has 0 b ≡ false
none_has zero = refl
none_has (suc place) = ap (λ bit. bit == 1) (bit_at-zero place)

module _ (s : State) (sound : IsSound s) where
  -- who holds a resource in conflict is a region
  conflict_within : (other : ℕ) (resource : Resource) (mode : Mode)
      → is_in_conflict (held_by s.holdings other resource) mode ≡ true → (1 ≤ other) × (other ≤ length s.regions.items)
  conflict_within other resource mode e = by (held_by s.holdings other resource) refl e
    where
      by : (o : Option Mode) → held_by s.holdings other resource ≡ o → is_in_conflict o mode ≡ true → (1 ≤ other)
          × (other ≤ length s.regions.items)
      by None is e2 = absurd (no_conflict mode e2)
      by (Some m) is e2 = sound.within other resource m is

  pub way_within : (wanted : Lock) (other : ℕ) → in_way (standing_of s) wanted other ≡ true → (1 ≤ other)
      × (other ≤ length s.regions.items)
  way_within wanted other e = conflict_within other wanted.resource wanted.mode
      (and_parts (not (other == wanted.region)) (is_in_conflict (held_by s.holdings other wanted.resource) wanted.mode) e).1

  -- a set that has those in the way of a request is the list of them
  in_list : (wanted : Lock) (word : ℕ) → ((other : ℕ) → has word other ≡ in_way (standing_of s) wanted other) → (b : ℕ)
      → is_in (members word) b ≡ true → is_in (blocking (standing_of s) wanted) b ≡ true
  in_list wanted word is b e =
      let way = sym (is b) ∙ member_is word b e in
      let range = way_within wanted b way in
      is_kept (in_way (standing_of s) wanted) (length s.regions.items) b range.0 range.1 way

  list_in : (wanted : Lock) (word : ℕ) → ((other : ℕ) → has word other ≡ in_way (standing_of s) wanted other) → (b : ℕ)
      → is_in (blocking (standing_of s) wanted) b ≡ true → is_in (members word) b ≡ true
  list_in wanted word is b e =
      let way = kept_passes (in_way (standing_of s) wanted) (numbers_up (length s.regions.items) 1) b e in
      let range = way_within wanted b way in
      let few = sound.few in
      is_member word b range.0 (omega (arith, range.1, few)) (is b ∙ way)

  -- of a region and its set
  set_leads : (a : ℕ) (o : Option Region) → region_at s.regions.items a ≡ o → (b : ℕ)
      → (is_in (members (set_of o)) b ≡ true → is_in (next_of (standing_of s) (region_request a o)) b ≡ true)
      × (is_in (next_of (standing_of s) (region_request a o)) b ≡ true → is_in (members (set_of o)) b ≡ true)
  set_leads a None is b = (
    (λ e. absurd (let wrong : false ≡ true = sym (none_has b) ∙ member_is 0 b e in cc)),
    (λ e. absurd (cc)),
  )
  set_leads a (Some region) is b = by region.request refl (sound.right a region is)
    where
      by : (q : Option Request) → region.request ≡ q → IsRight s.holdings a region
          → (is_in (members region.ahead.0) b ≡ true → is_in (next_of (standing_of s) (lock_of a q)) b ≡ true)
          × (is_in (next_of (standing_of s) (lock_of a q)) b ≡ true → is_in (members region.ahead.0) b ≡ true)
      by None e right = (
        (λ e2. absurd
            (let wrong : false ≡ true = sym (right b ∙ ap (λ q. is_ahead s.holdings a q b) e) ∙ member_is region.ahead.0
            b
            e2 in cc)),
        (λ e2. absurd (cc)),
      )
      by (Some request) e right =
          let wanted : Lock = record { region = a; resource = request.resource; mode = request.mode } in
          let word : (other : ℕ) → has region.ahead.0 other ≡ in_way (standing_of s) wanted other =
          λ other. right other ∙ ap (λ q. is_ahead s.holdings a q other) e in
          (in_list wanted region.ahead.0 word b, list_in wanted region.ahead.0 word b)

  module _ (wanted : Lock) (found : ℕ) (is : (other : ℕ) → has found other ≡ in_way (standing_of s) wanted other) where
    abbrev asks : Standing
    asks = asking (standing_of s) wanted.region (Some wanted)

    pub leads_next : (a b : ℕ) → is_in (leads s.regions.items wanted.region found a) b ≡ true
        → is_in (next asks a) b ≡ true
    leads_next a b = by (a == wanted.region)
      where
        by : (t : Bool) → is_in (members (if t then found else set_of (region_at s.regions.items a))) b ≡ true
            → is_in (next_of asks (if t then Some wanted else region_request a (region_at s.regions.items a))) b ≡ true
        by true e = in_list wanted found is b e
        by false e = (set_leads a (region_at s.regions.items a) refl b).0 e

    pub next_leads : (a b : ℕ) → is_in (next asks a) b ≡ true
        → is_in (leads s.regions.items wanted.region found a) b ≡ true
    next_leads a b = by (a == wanted.region)
      where
        by : (t : Bool) → is_in (next_of asks (if t then Some wanted else region_request a
            (region_at s.regions.items a))) b ≡ true
            → is_in (members (if t then found else set_of (region_at s.regions.items a))) b ≡ true
        by true e = list_in wanted found is b e
        by false e = (set_leads a (region_at s.regions.items a) refl b).1 e

    -- none leads out of the regions
    pub leads_within : (a b : ℕ) → has (set_at s.regions.items wanted.region found a) b ≡ true → (1 ≤ b)
        × (b ≤ length s.regions.items)
    leads_within a b = by (a == wanted.region)
      where
        of_region : (o : Option Region) → region_at s.regions.items a ≡ o → has (set_of o) b ≡ true → (1 ≤ b)
            × (b ≤ length s.regions.items)
        of_region None there e = absurd (let wrong : false ≡ true = sym (none_has b) ∙ e in cc)
        of_region (Some region) there e = of_request region.request (sym (sound.right a region there b) ∙ e)
          where
            of_request : (q : Option Request) → is_ahead s.holdings a q b ≡ true → (1 ≤ b)
                × (b ≤ length s.regions.items)
            of_request None e2 = absurd (cc)
            of_request (Some request) e2 = conflict_within b request.resource request.mode
                (and_parts (not (b == a)) (is_in_conflict (held_by s.holdings b request.resource) request.mode) e2).1

        by : (t : Bool) → has (if t then found else set_of (region_at s.regions.items a)) b ≡ true → (1 ≤ b)
            × (b ≤ length s.regions.items)
        by true e = way_within wanted b (sym (is b) ∙ e)
        by false e = of_region (region_at s.regions.items a) refl e
