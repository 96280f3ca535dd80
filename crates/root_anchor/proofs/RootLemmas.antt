-- The roots of an anchor, one by one.
use Rattle.std.proofs.Common.{◌≡◌, ◌≢◌, ◌⊎◌, inl, inr, ℕ, zero, suc, ◌+◌, ◌-◌, ◌≤◌, List, [], slice_get, Some, refl, sym, subst, ap, ◌∙◌, arith}
use Rattle.ci_space.specs.declared.intervals.Shape.{Shape}
use Rattle.ci_overflow.specs.Lists.{IsInPlace}
use Rattle.ci_overflow.specs.Places.{base_of}
use Rattle.fp_model.specs.declared.definitions.SegDef.{SegDef}
use Rattle.fp_model.specs.declared.database.Root.{Root}
use Rattle.anchor_elements.specs.Elements.{Pointer, nothing, Segment, HasSegment}
use Rattle.anchor_elements.specs.Wrong.{IsWrong}
use Rattle.root_anchor.specs.Chains.{AreRoots, no_root, root, newest, root_of, IsChain}
use Rattle.root_anchor.specs.Formed.{HasChain}
use Rattle.root_anchor.specs.Roots.{IsRootAt, this_root, later_root, AreSoMany, no_more, one_more, TwinsFail, fails_here, fails_later, HasRootAt, HasFewer, RootsAreBroken, base_is_none, twin_is_wrong}
use Rattle.root_anchor.specs.declared.places.RootPlace.{RootPlace}
use Rattle.anchor_elements.proofs.Pointers.{same_pointer}
use Rattle.root_anchor.proofs.OneChain.{one_segment, none_at_nothing}
use Rattle.root_anchor.proofs.Sound.{right}
use Rattle.plain_laws.proofs.Alls.{contains_nothing}

-- ---- where the chain stands, none of its pointers from root to root is wrong

record FailsLater (types : List SegDef) (area : List (List ℕ)) (at : Pointer) (ci : ℕ) : Type 0 where
  s : Segment
  has : HasSegment types area 0 at s
  fails : TwinsFail types area at.0 s.next ci

twins_fail_so : {types : List SegDef} {area : List (List ℕ)} {from : ℕ} {at : Pointer} {ci : ℕ}
    → TwinsFail types area from at ci → ((at ≢ nothing) × IsWrong types area [] from 0 at ci)
    ⊎ FailsLater types area at ci
twins_fail_so (fails_here there wrong) = inl (there, wrong)
twins_fail_so (fails_later s has fails) = inr (record { s = s; has = has; fails = fails })

twins_right : {types : List SegDef} {area : List (List ℕ)} {met : List Pointer} {at : Pointer} {roots : List Root}
    {after : List Pointer}
    → AreRoots types area met at roots after → (from ci : ℕ) → TwinsFail types area from at ci → ⊥
twins_right no_root from ci f = elim (twins_fail_so f) as (λ _. ⊥) [
  | inl w ↦ w.0 refl
  | inr t ↦ none_at_nothing t.has refl
]
twins_right {types} {area} (root {at = at} s has fresh lower next) from ci f =
    elim (twins_fail_so f) as (λ _. ⊥) [
      | inl w ↦ right s has (contains_nothing at) w.1
      | inr t ↦ twins_right next at.0 ci (subst (λ (x : Segment). TwinsFail types area at.0 x.next ci)
          (one_segment t.has has) t.fails)
    ]

broken_at : {shape : Shape} {types : List SegDef} {area : List (List ℕ)} {anchor : ℕ} {roots : List Root}
    {elements : List Pointer} {ci : ℕ}
    → IsChain shape types area anchor roots elements → RootsAreBroken shape types area anchor ci → ⊥
broken_at c (base_is_none none) = none c.base
broken_at c (twin_is_wrong base fails) = twins_right c.are_roots _ _ fails

pub unbroken : {shape : Shape} {types : List SegDef} {area : List (List ℕ)} {anchor : ℕ}
    → HasChain shape types area anchor → (ci : ℕ) → RootsAreBroken shape types area anchor ci → ⊥
unbroken h ci b = broken_at h.is_chain b

-- ---- the root of a number is that of the chain

pub record IsLater (types : List SegDef) (area : List (List ℕ)) (at : Pointer) (k : ℕ) (place : Pointer) (t : Segment) :
    Type
    0 where
  pub s : Segment
  pub has : HasSegment types area 0 at s
  pub is_root : IsRootAt types area s.next k place t

pub root_at_first : {types : List SegDef} {area : List (List ℕ)} {at place : Pointer} {t : Segment}
    → IsRootAt types area at 0 place t → HasSegment types area 0 at t
root_at_first (this_root has) = has

pub root_at_later : {types : List SegDef} {area : List (List ℕ)} {at place : Pointer} {t : Segment} (k : ℕ)
    → IsRootAt types area at (suc k) place t → IsLater types area at k place t
root_at_later k (later_root s has r) = record { s = s; has = has; is_root = r }

-- the root of a chain that says this
pub record IsNumbered (roots : List Root) (k : ℕ) (s : Segment) : Type 0 where
  pub root : Root
  pub there : slice_get roots k ≡ Some root
  pub bytes : root.bytes ≡ s.bytes
  pub seqs : root.seqs ≡ newest s.serial

pub numbered : {types : List SegDef} {area : List (List ℕ)} {met : List Pointer} {at : Pointer} {roots : List Root}
    {after : List Pointer} → AreRoots types area met at roots after → (k : ℕ) (place : Pointer) (t : Segment)
    → IsRootAt types area at k place t → IsNumbered roots k t
numbered no_root zero place t r = absurd (none_at_nothing (root_at_first r) refl)
numbered no_root (suc k) place t r = absurd (none_at_nothing (root_at_later k r).has refl)
numbered {types} {area} (root {at = at} s {below = below} {roots = roots} has fresh lower next) zero place t r =
    let e : s ≡ t = one_segment has (root_at_first r) in
    record {
      root = record { bytes = s.bytes; children = below; seqs = newest s.serial };
      there = refl;
      bytes = ap (λ (x : Segment). x.bytes) e;
      seqs = ap (λ (x : Segment). newest x.serial) e;
    }
numbered {types} {area} (root {at = at} s {roots = roots} has fresh lower next) (suc k) place t r =
    let l = root_at_later k r in
    let e : l.s ≡ s = one_segment l.has has in
    let n = numbered next k place t (subst (λ (x : Segment). IsRootAt types area x.next k place t) e l.is_root) in
    record { root = n.root; there = n.there; bytes = n.bytes; seqs = n.seqs }

-- ---- from what a walk from root to root has found

pub broken_here : (shape : Shape) (types : List SegDef) (area mid now : List (List ℕ)) (anchor base from ci : ℕ)
    (first at : Pointer) → mid ≡ area → now ≡ mid → base ≡ base_of shape anchor → first ≡ root_of shape area anchor
    → IsInPlace shape area (base_of shape anchor) → at ≢ nothing → IsWrong types now [] from 0 at ci
    → ((n : ℕ) → TwinsFail types mid from at n → TwinsFail types mid base first n)
    → RootsAreBroken shape types area anchor ci
broken_here shape types area mid now anchor base from ci first at e f b g place there wrong fails =
    let here : TwinsFail types mid from at ci =
    fails_here there (subst (λ a. IsWrong types a [] from 0 at ci) f wrong) in
    twin_is_wrong place
    (subst (λ a. TwinsFail types a (base_of shape anchor) (root_of shape area anchor) ci) e
    (subst (λ p. TwinsFail types mid (base_of shape anchor) p ci) g
    (subst (λ n. TwinsFail types mid n first ci) b (fails ci here))))

pub found_here : (shape : Shape) (types : List SegDef) (area mid now : List (List ℕ)) (anchor number left : ℕ)
    (first at : Pointer) (s : Segment) (place : RootPlace) → mid ≡ area → now ≡ mid
    → first ≡ root_of shape area anchor
    → left ≡ 0 → HasSegment types now 0 at s
    → ((p : Pointer) (t : Segment) → IsRootAt types mid at left p t → IsRootAt types mid first number p t)
    → place.ci ≡ at.0 → place.at ≡ at.1 → s.serial ≡ place.newest → HasRootAt shape types area anchor number place
found_here shape types area mid now anchor number left first at s place e f g z has reads x y n =
    let here : IsRootAt types mid at left at s = subst (λ k. IsRootAt types mid at k at s) (sym z)
    (this_root (subst (λ a. HasSegment types a 0 at s) f has)) in
    let there : at ≡ (let p : Pointer = (place.ci, place.at) in p) = same_pointer at (place.ci, place.at) (sym x) (sym
    y) in
    record {
      segment = s;
      is_root = subst (λ p. IsRootAt types area (root_of shape area anchor) number p s) there
          (subst (λ a. IsRootAt types a (root_of shape area anchor) number at s) e
          (subst (λ p. IsRootAt types mid p number at s) g (reads at s here)));
      newest = n;
    }

pub fewer_here : (shape : Shape) (types : List SegDef) (area mid : List (List ℕ)) (anchor number left : ℕ)
    (first at : Pointer) → mid ≡ area → first ≡ root_of shape area anchor → at ≡ nothing → left ≤ number
    → ((k : ℕ) → AreSoMany types mid at k → AreSoMany types mid first (number - left + k))
    → HasFewer shape types area anchor number
fewer_here shape types area mid anchor number left first at e g z w many =
    let here : AreSoMany types mid at 0 = subst (λ p. AreSoMany types mid p 0) (sym z) no_more in
    record {
      count = number - left + 0;
      are = subst (λ a. AreSoMany types a (root_of shape area anchor) (number - left + 0)) e
          (subst (λ p. AreSoMany types mid p (number - left + 0)) g (many 0 here));
      fewer = omega (arith, w);
    }

-- one root further
pub reads_on : (types : List SegDef) (mid now : List (List ℕ)) (first at : Pointer) (number left next_left : ℕ)
    (s : Segment) → now ≡ mid → HasSegment types now 0 at s → left ≡ suc next_left
    → ((p : Pointer) (t : Segment) → IsRootAt types mid at left p t → IsRootAt types mid first number p t)
    → (p : Pointer) (t : Segment) → IsRootAt types mid s.next next_left p t → IsRootAt types mid first number p t
reads_on types mid now first at number left next_left s f has l reads p t r =
    reads p t (subst (λ k. IsRootAt types mid at k p t) (sym l)
    (later_root s (subst (λ a. HasSegment types a 0 at s) f has) r))

pub many_on : (types : List SegDef) (mid now : List (List ℕ)) (first at : Pointer) (number left next_left : ℕ)
    (s : Segment) → now ≡ mid → HasSegment types now 0 at s → left ≡ suc next_left → left ≤ number
    → ((k : ℕ) → AreSoMany types mid at k → AreSoMany types mid first (number - left + k))
    → (k : ℕ) → AreSoMany types mid s.next k → AreSoMany types mid first (number - next_left + k)
many_on types mid now first at number left next_left s f has l w many k m =
    let e : number - left + suc k ≡ number - next_left + k = omega (arith, l, w) in
    subst (AreSoMany types mid first) e (many (suc k) (one_more s (subst (λ a. HasSegment types a 0 at s) f has) m))

pub fails_on : (types : List SegDef) (mid now : List (List ℕ)) (first at : Pointer) (base from : ℕ) (s : Segment)
    → now ≡ mid → HasSegment types now 0 at s
    → ((n : ℕ) → TwinsFail types mid from at n → TwinsFail types mid base first n)
    → (n : ℕ) → TwinsFail types mid at.0 s.next n → TwinsFail types mid base first n
fails_on types mid now first at base from s f has fails n r =
    fails n (fails_later s (subst (λ a. HasSegment types a 0 at s) f has) r)

pub numbered_root : (shape : Shape) (types : List SegDef) (area : List (List ℕ)) (anchor number : ℕ)
    (place : RootPlace) (roots : List Root) (elements : List Pointer) → IsChain shape types area anchor roots elements
    → HasRootAt shape types area anchor number place
    → (root : Root) × ((slice_get roots number ≡ Some root) × (root.seqs ≡ newest place.newest))
numbered_root shape types area anchor number place roots elements chain has =
    let n = numbered chain.are_roots number (place.ci, place.at) has.segment has.is_root in
    (n.root, (n.there, n.seqs ∙ ap newest has.newest))
