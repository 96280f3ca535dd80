-- Intervals at fault: what the calls see of them, and that an area in order has none.
use Rattle.std.proofs.Common.{◌≡◌, ◌≢◌, ℕ, ◌+◌, ◌-◌, ◌*◌, ◌%◌, ◌<◌, ◌≤◌, inl, inr, List, [], ◌∷◌, length, if◌then◌else◌, nat_lt, refl, sym, ap, ◌∙◌, subst, arith}
use Rattle.std.proofs.lemmas.Bool.{cases_lt}
use Rattle.std.proofs.lemmas.List.{get_or_past}
use Rattle.std.proofs.lemmas.Nat.{mul-le, mod-mul-add}
use Rattle.ci_space.specs.declared.intervals.Shape.{Shape}
use Rattle.ci_space.specs.Interval.{kind_of, IsInterval, IsEmpty, Keeps}
use Rattle.ci_space.proofs.Tilings.{size-bounds}
use Rattle.ci_overflow.specs.Places.{first_base, first_sequential, first_independent, kind_at}
use Rattle.ci_overflow.specs.Lists.{bytes_at, link_of, owner_of, first_free, IsChain, Holds, IsOwned, IsListOf, HasList, IsInPlace, IsInOrder}
use Rattle.ci_overflow.specs.Faults.{HasPlace, HoldsLink, in_base, in_control, in_list, IsShared, IsThere, IsNotThere, IsAtFault, misplaced, bad_link, circle, miscounted, in_use, no_unit, unlisted}
use Rattle.ci_overflow.specs.inside.Moves.{HasNoUnit}
use Rattle.ci_overflow.specs.declared.reading.Place.{Place}
use Rattle.ci_overflow.proofs.Joins.{kind-behind, link-zero, owner-zero}
use Rattle.ci_overflow.proofs.Tries.{keeps-owner}
use Rattle.ci_overflow.proofs.Circles.{no-circle, chain-leads}
use Rattle.plain_laws.proofs.Numbers.{same_or_other}

-- no interval is past the end
pub past-none : (area : List (List ℕ)) (ci : ℕ) → length area ≤ ci → IsInterval (bytes_at area ci) → ⊥
past-none area ci l i =
    let e : bytes_at area ci ≡ [] = get_or_past area ci [] l in
    let b : (512 ≤ length (bytes_at area ci)) × (length (bytes_at area ci) ≤ 4096) =
    size-bounds (length (bytes_at area ci)) i.tiles.size in
    let z : length (bytes_at area ci) ≡ 0 = ap length e in
    omega (arith, b.0, z)

-- an interval that isn't in its place
fixed_there : (shape : Shape) (area : List (List ℕ)) (place : Place) → kind_at shape place.ci ≡ place.kind
    → place.kind ≢ 5 → place.owner ≡ 0 → IsInPlace shape area place.ci → IsThere area place
fixed_there shape area place k n o p = record {
  below = elim (cases_lt place.ci (length area)) as (λ _. place.ci < length area)
      [ inl l ↦ l | inr l ↦ absurd (past-none area place.ci l p.is_interval) ];
  is_kind = p.is_kind ∙ k;
  is_owner = owner-zero (bytes_at area place.ci) p.is_interval.tiles.head (λ e. n (sym k ∙ sym p.is_kind ∙ e)) ∙ sym o;
}

pub fixed-fault : (shape : Shape) (area : List (List ℕ)) (place : Place) (n : ℕ) → HasPlace shape area place.ci
    → kind_at shape place.ci ≡ place.kind → place.kind ≢ 5 → place.owner ≡ 0 → place.from ≡ place.ci
    → IsNotThere area place n
    → IsAtFault shape area n
fixed-fault shape area place n h k m o f (inl x) = rw x.0 (misplaced h (λ p. x.2 p.is_interval))
fixed-fault shape area place n h k m o f (inr x) = rw (x.0, f)
    (misplaced h (λ p. x.1 (fixed_there shape area place k m o p)))

-- a link that leads to no interval of its list
pub shared-fault : (shape : Shape) (area : List (List ℕ)) (place : Place) (n : ℕ)
    → HoldsLink shape area place.owner place.from place.ci → place.ci ≢ 0 → place.kind ≡ 5 → IsNotThere area place n
    → IsAtFault shape area n
shared-fault shape area place n h z k (inl x) = rw x.0 (misplaced (inr x.1) (λ p. x.2 p.is_interval))
shared-fault shape area place n h z k (inr x) =
    rw x.0 (bad_link place.owner place.ci h z (λ s. x.1
    (record { below = s.owned.below; is_kind = s.is_kind ∙ sym k; is_owner = s.owned.owned })))

pub early-fault : (shape : Shape) (area : List (List ℕ)) (owner from ci : ℕ) → HoldsLink shape area owner from ci
    → ci ≢ 0 → ci < first_independent shape → IsAtFault shape area from
early-fault shape area owner from ci h z l = bad_link owner ci h z (λ s. omega (arith, s.owned.from, l))

pub late-fault : (shape : Shape) (area : List (List ℕ)) (owner from ci : ℕ) → HoldsLink shape area owner from ci
    → ci ≢ 0 → length area ≤ ci → IsAtFault shape area from
late-fault shape area owner from ci h z l = bad_link owner ci h z (λ s. omega (arith, s.owned.below, l))

-- a walk that looks for `ci` has come to `next`: a chain from there that doesn't hold it gives one from
-- the first
pub record IsBuilt (area : List (List ℕ)) (first ci next : ℕ) : Type 0 where
  pub build : (rest : List ℕ) → IsChain area next rest → ¬ Holds rest ci → (list : List ℕ) × IsChain area first list
      × ¬ Holds list ci

pub built-begins : (area : List (List ℕ)) (first ci next : ℕ) → next ≡ first → IsBuilt area first ci next
built-begins area first ci next e = record { build = λ rest c h. (rest, rw e at c, h) }

pub built-on : (area : List (List ℕ)) (first ci next following : ℕ) → next ≢ ci → next ≢ 0
    → following ≡ link_of (bytes_at area next) → IsBuilt area first ci next → IsBuilt area first ci following
built-on area first ci next following n z e b = record {
  build = λ rest c h. b.build (next ∷ rest) (refl, z, rw e at c)
      (λ x. elim x as (λ _. ⊥) [ inl y ↦ n y | inr y ↦ h y ]);
}

pub built-unlisted : (shape : Shape) (area : List (List ℕ)) (uow ci : ℕ)
    → IsBuilt area (link_of (bytes_at area (first_base shape uow))) ci 0 → uow < shape.uows
    → IsOwned shape area (uow + 1) ci → IsAtFault shape area ci
built-unlisted shape area uow ci b u o =
    let l : (list : List ℕ) × IsChain area (link_of (bytes_at area (first_base shape uow))) list × ¬ Holds list ci =
    b.build [] refl (λ h. h) in
    unlisted uow l.0 u o l.1 l.2

-- the kinds of the first places of a unit of work
pub unit-before : (shape : Shape) (uow j : ℕ) → uow < shape.uows → j < shape.base + shape.overflow
    → first_base shape uow + j < first_sequential shape
unit-before shape uow j u b =
    let m : (uow + 1) * (shape.base + shape.overflow) ≤ shape.uows * (shape.base + shape.overflow) =
    mul-le (uow + 1) (shape.base + shape.overflow) shape.uows (shape.base + shape.overflow) (omega arith)
    (omega arith) in
    let e : (uow + 1) * (shape.base + shape.overflow) ≡ uow * (shape.base + shape.overflow) +
    (shape.base + shape.overflow) = grind arith in
    omega (arith, m, e, b)

kind_in : (shape : Shape) (ci r : ℕ) → ci ≢ 0 → ci < first_sequential shape
    → (ci - 1) % (shape.base + shape.overflow) ≡ r → kind_at shape ci ≡ (if nat_lt r shape.base then 2 else 3)
kind_in shape ci r z l e = grind arith

pub kind-unit : (shape : Shape) (uow j : ℕ) → uow < shape.uows → j < shape.base + shape.overflow
    → kind_at shape (first_base shape uow + j) ≡ (if nat_lt j shape.base then 2 else 3)
kind-unit shape uow j u b =
    let e : first_base shape uow + j - 1 ≡ uow * (shape.base + shape.overflow) + j = omega arith in
    let m : (first_base shape uow + j - 1) % (shape.base + shape.overflow) ≡ j =
    rw e (mod-mul-add uow (shape.base + shape.overflow) j b) in
    kind_in shape (first_base shape uow + j) j (λ x. omega (arith, x)) (unit-before shape uow j u b) m

pub kind-base : (shape : Shape) (uow j : ℕ) → uow < shape.uows → j < shape.base
    → kind_at shape (first_base shape uow + j) ≡ 2
kind-base shape uow j u b = let k = kind-unit shape uow j u (omega arith) in grind (arith, k)

pub kind-dependent : (shape : Shape) (uow j : ℕ) → uow < shape.uows → shape.base ≤ j → j < shape.base + shape.overflow
    → kind_at shape (first_base shape uow + j) ≡ 3
kind-dependent shape uow j u l b = let k = kind-unit shape uow j u b in grind (arith, k)

pub kind-before : (shape : Shape) (ci : ℕ) → ci < first_independent shape → kind_at shape ci ≢ 5
kind-before shape ci l e = grind arith

-- the first places of a unit of work, and control
pub base-fault : (shape : Shape) (area : List (List ℕ)) (uow j ci n : ℕ) → ci ≡ first_base shape uow + j
    → uow < shape.uows → j < shape.base → IsNotThere area (record { ci = ci; kind = 2; owner = 0; from = ci }) n
    → IsAtFault shape area n
base-fault shape area uow j ci n e u b h =
    let p : first_base shape uow + j < first_sequential shape = unit-before shape uow j u (omega arith) in
    fixed-fault shape area (record { ci = ci; kind = 2; owner = 0; from = ci }) n (inl (omega (arith, e, p)))
    (ap (kind_at shape) e ∙ kind-base shape uow j u b) (λ x. omega (arith, x)) refl refl h

pub first-fault : (shape : Shape) (area : List (List ℕ)) (uow ci n : ℕ) → ci ≡ first_base shape uow → uow < shape.uows
    → 0 < shape.base → IsNotThere area (record { ci = ci; kind = 2; owner = 0; from = ci }) n → IsAtFault shape area n
first-fault shape area uow ci n e u b h = base-fault shape area uow 0 ci n (omega arith) u b h

pub dependent-fault : (shape : Shape) (area : List (List ℕ)) (uow j ci n : ℕ) → ci ≡ first_base shape uow + j
    → uow < shape.uows → shape.base ≤ j → j < shape.base + shape.overflow
    → IsNotThere area (record { ci = ci; kind = 3; owner = 0; from = ci }) n → IsAtFault shape area n
dependent-fault shape area uow j ci n e u l b h =
    let p : first_base shape uow + j < first_sequential shape = unit-before shape uow j u b in
    fixed-fault shape area (record { ci = ci; kind = 3; owner = 0; from = ci }) n (inl (omega (arith, e, p)))
    (ap (kind_at shape) e ∙ kind-dependent shape uow j u l b) (λ x. omega (arith, x)) refl refl h

pub control-fault : (shape : Shape) (area : List (List ℕ)) (n : ℕ)
    → IsNotThere area (record { ci = 0; kind = 1; owner = 0; from = 0 }) n → IsAtFault shape area n
control-fault shape area n h = fixed-fault shape area (record { ci = 0; kind = 1; owner = 0; from = 0 }) n
    (inl (omega arith)) refl (λ x. omega (arith, x)) refl refl h

-- an independent overflow interval that is in use and has no unit of work
pub keeps-kind : (old new : List ℕ) → Keeps old new 0 32 → kind_of old ≡ kind_of new
keeps-kind old new k = sym (k 0 (omega arith) (omega arith))

pub unit-fault : (shape : Shape) (area : List (List ℕ)) (ci : ℕ) (interval : List ℕ)
    → Keeps (bytes_at area ci) interval 0 32 → ci < length area → kind_of interval ≡ 5 → ¬ IsEmpty (bytes_at area ci)
    → HasNoUnit shape ci interval
    → IsAtFault shape area ci
unit-fault shape area ci interval k b five n h = elim (cases_lt ci (first_independent shape)) as
    (λ _. IsAtFault shape area ci) [
      | inl l ↦ misplaced (inl l) (λ p. kind-before shape ci l
          (sym p.is_kind ∙ keeps-kind (bytes_at area ci) interval k ∙ five))
      | inr f ↦
          (let owner : owner_of interval ≡ owner_of (bytes_at area ci) = keeps-owner (bytes_at area ci) interval k in
          elim (same_or_other (owner_of interval) 0) as (λ _. IsAtFault shape area ci) [
            | inl z ↦ in_use (record { from = f; below = b; owned = sym owner ∙ z }) n
            | inr z ↦
                (let w : IsOwned shape area (owner_of interval) ci = record {
                  from = f;
                  below = b;
                  owned =
                      sym owner;
                } in
                elim h as (λ _. IsAtFault shape area ci) [
                  | inl l ↦ absurd (omega (arith, f, l))
                  | inr (inl e) ↦ absurd (z e)
                  | inr (inr x) ↦ no_unit (owner_of interval) z w x
                ])
          ])
    ]

-- an area in order has no interval at fault
place_below : (shape : Shape) (area : List (List ℕ)) (ci : ℕ) → IsInOrder shape area → HasPlace shape area ci
    → ci < length area
place_below shape area ci o (inl l) = omega (arith, o.whole)
place_below shape area ci o (inr l) = l

list_of : (shape : Shape) (area : List (List ℕ)) (owner ci : ℕ) → IsInOrder shape area → IsOwned shape area owner ci
    → owner ≢ 0
    → HasList shape area owner (link_of (bytes_at area (first_base shape (owner - 1))))
list_of shape area owner ci o w z =
    let l : owner_of (bytes_at area ci) ≤ shape.uows = o.listed.owners ci w.from w.below in
    let e : owner - 1 + 1 ≡ owner = omega arith in
    let h : HasList shape area (owner - 1 + 1) (link_of (bytes_at area (first_base shape (owner - 1)))) =
    o.listed.of_uow (owner - 1) (omega (arith, l, w.owned)) in
    let P : ℕ → Type 0 = λ d. HasList shape area d (link_of (bytes_at area (first_base shape (owner - 1)))) in
    subst P e h

-- the next of a list is one of it
next_owned : (shape : Shape) (area : List (List ℕ)) (owner first : ℕ) (list : List ℕ)
    → IsListOf shape area owner first list → first ≢ 0 → IsOwned shape area owner first
next_owned shape area owner first [] l z = absurd (z l.chain)
next_owned shape area owner first (x ∷ rest) l z = let P : ℕ → Type 0 = λ d. IsOwned shape area owner d in
    subst P (sym l.chain.0) (l.owned x (inl refl))

pub next-held : (area : List (List ℕ)) (first ci : ℕ) (list : List ℕ) → IsChain area first list → Holds list ci
    → link_of (bytes_at area ci) ≢ 0 → Holds list (link_of (bytes_at area ci))
next-held area first ci [] c h z = absurd h
next-held area first ci (x ∷ []) c (inl e) z = absurd (z (ap (λ d. link_of (bytes_at area d)) (sym e) ∙ c.2))
next-held area first ci (x ∷ y ∷ rest) c (inl e) z = inr (inl (sym c.2.0 ∙ ap (λ d. link_of (bytes_at area d)) e))
next-held area first ci (x ∷ rest) c (inr h) z = inr (next-held area (link_of (bytes_at area x)) ci rest c.2 h z)

kept_shared : (shape : Shape) (area : List (List ℕ)) (owner ci : ℕ) → IsInOrder shape area → IsOwned shape area owner ci
    → IsShared shape area owner ci
kept_shared shape area owner ci o w = record {
  owned = w;
  is_kind =
      (o.in_place ci w.below).is_kind ∙ kind-behind shape ci w.from;
}

list_goes : (shape : Shape) (area : List (List ℕ)) (owner first ci : ℕ) → HasList shape area owner first
    → IsOwned shape area owner ci → link_of (bytes_at area ci) ≢ 0
    → IsOwned shape area owner (link_of (bytes_at area ci))
list_goes shape area owner first ci h w z = h.is_list.owned (link_of (bytes_at area ci))
    (next-held area first ci h.list h.is_list.chain (h.is_list.each ci w) z)

owned_goes : (shape : Shape) (area : List (List ℕ)) (owner ci : ℕ) → IsInOrder shape area → IsOwned shape area owner ci
    → link_of (bytes_at area ci) ≢ 0 → IsOwned shape area owner (link_of (bytes_at area ci))
owned_goes shape area owner ci o w z = elim (same_or_other owner 0) as
    (λ _. IsOwned shape area owner (link_of (bytes_at area ci))) [
      | inl e ↦ (let v : IsOwned shape area 0 ci = (let P : ℕ → Type 0 = λ d. IsOwned shape area d ci in subst P e w) in
          let P : ℕ → Type 0 = λ d. IsOwned shape area d (link_of (bytes_at area ci)) in
          subst P (sym e) (list_goes shape area 0 (first_free area) ci o.listed.of_free v z))
      | inr n ↦ list_goes shape area owner (link_of (bytes_at area (first_base shape (owner - 1)))) ci
          (list_of shape area owner ci o w n) w z
    ]

link_goes : (shape : Shape) (area : List (List ℕ)) (owner from link : ℕ) → IsInOrder shape area
    → HoldsLink shape area owner from link → link ≢ 0 → IsOwned shape area owner link
link_goes shape area owner from link o (in_base uow u e f l) z =
    let h : HasList shape area (uow + 1) (link_of (bytes_at area (first_base shape uow))) = o.listed.of_uow uow u in
    let k : link ≡ link_of (bytes_at area (first_base shape uow)) = l ∙ ap (λ d. link_of (bytes_at area d)) f in
    let w : IsOwned shape area (uow + 1) (link_of (bytes_at area (first_base shape uow))) =
    next_owned shape area (uow + 1) (link_of (bytes_at area (first_base shape uow))) h.list h.is_list (λ y. z (k ∙ y))
    in
    rw (e, k) w
link_goes shape area owner from link o (in_control e f l) z =
    let w : IsOwned shape area 0 (first_free area) =
    next_owned shape area 0 (first_free area) o.listed.of_free.list o.listed.of_free.is_list (λ y. z (l ∙ y)) in
    rw (e, l) w
link_goes shape area owner from link o (in_list w l) z = rw l (owned_goes shape area owner from o w (λ y. z (l ∙ y)))

-- there is one chain from an interval on
same_chain : (area : List (List ℕ)) (first ci : ℕ) (xs ys : List ℕ) → IsChain area first xs → IsChain area first ys
    → Holds xs ci → Holds ys ci
same_chain area first ci [] ys c d h = absurd h
same_chain area first ci (x ∷ xs) [] c d h = absurd (c.1 (sym c.0 ∙ d))
same_chain area first ci (x ∷ xs) (y ∷ ys) c d (inl e) = inl (sym d.0 ∙ c.0 ∙ e)
same_chain area first ci (x ∷ xs) (y ∷ ys) c d (inr h) =
    let e : y ≡ x = sym d.0 ∙ c.0 in
    let f : IsChain area (link_of (bytes_at area x)) ys = rw e at d.2 in
    inr (same_chain area (link_of (bytes_at area x)) ci xs ys c.2 f h)

-- a unit of work without base intervals owns nothing
chain_some : (area : List (List ℕ)) (first k : ℕ) (list : List ℕ) → IsChain area first list → Holds list k → first ≢ 0
chain_some area first k [] c h e = h
chain_some area first k (x ∷ rest) c h e = c.1 (sym c.0 ∙ e)

pub base_of_kind : (shape : Shape) (ci : ℕ) → kind_at shape ci ≡ 2 → 0 < shape.base
base_of_kind shape ci k = grind arith

first_low : (shape : Shape) (uow : ℕ) → uow < shape.uows → first_base shape uow ≤ first_independent shape
first_low shape uow u =
    let m : uow * (shape.base + shape.overflow) ≤ shape.uows * (shape.base + shape.overflow) =
    mul-le uow (shape.base + shape.overflow) shape.uows (shape.base + shape.overflow) (omega arith) (omega arith) in
    omega (arith, m)

none_owned : (shape : Shape) (area : List (List ℕ)) (owner ci : ℕ) → IsInOrder shape area → shape.base ≡ 0 → owner ≢ 0
    → IsOwned shape area owner ci → ⊥
none_owned shape area owner ci o z n w =
    let first : ℕ = first_base shape (owner - 1) in
    let h : HasList shape area owner (link_of (bytes_at area first)) = list_of shape area owner ci o w n in
    let some : link_of (bytes_at area first) ≢ 0 = chain_some area (link_of (bytes_at area first)) ci h.list
    h.is_list.chain (h.is_list.each ci w) in
    let u : owner - 1 < shape.uows = omega (arith, o.listed.owners ci w.from w.below, w.owned, n) in
    let low : first ≤ first_independent shape = first_low shape (owner - 1) u in
    let below : first < length area = omega (arith, low, w.from, w.below) in
    elim (cases_lt first (first_independent shape)) as (λ _. ⊥) [
      | inl l ↦ (let p : IsInPlace shape area first = o.in_place first below in
          some (link-zero (bytes_at area first) p.is_interval.tiles.head
          (λ e. omega (arith, base_of_kind shape first (sym p.is_kind ∙ e), z))
          (λ e. kind-before shape first l (sym p.is_kind ∙ e))))
      | inr l ↦
          (let mine : IsOwned shape area (owner_of (bytes_at area first)) first = record {
            from = l;
            below =
                below;
            owned = refl;
          } in
          let next : IsOwned shape area (owner_of (bytes_at area first)) (link_of (bytes_at area first)) =
          owned_goes shape area (owner_of (bytes_at area first)) first o mine some in
          let theirs : IsOwned shape area owner (link_of (bytes_at area first)) =
          next_owned shape area owner (link_of (bytes_at area first)) h.list h.is_list some in
          let it : IsOwned shape area owner first = record {
            from = l;
            below = below;
            owned =
                sym next.owned ∙ theirs.owned;
          } in
          let held : Holds h.list first = h.is_list.each first it in
          no-circle area (link_of (bytes_at area first)) first h.list h.is_list.chain h.is_list.once held
          (λ e. omega (arith, e, l))
          (chain-leads area (link_of (bytes_at area first)) first h.list h.is_list.chain held))
    ]

some_of : (shape : Shape) (area : List (List ℕ)) (owner ci : ℕ) → IsOwned shape area owner ci → ci ≢ 0
some_of shape area owner ci w e = omega (arith, w.from, e)

pub in-order-sound : (shape : Shape) (area : List (List ℕ)) (ci : ℕ) → IsInOrder shape area → IsAtFault shape area ci
    → ⊥
in-order-sound shape area ci o (misplaced h n) = n (o.in_place ci (place_below shape area ci o h))
in-order-sound shape area ci o (bad_link owner link h z n) =
    n (kept_shared shape area owner link o (link_goes shape area owner ci link o h z))
in-order-sound shape area ci o (circle owner w l) = elim (same_or_other owner 0) as (λ _. ⊥) [
  | inl e ↦ (let v : IsOwned shape area 0 ci = (let P : ℕ → Type 0 = λ d. IsOwned shape area d ci in subst P e w) in
      let h : HasList shape area 0 (first_free area) = o.listed.of_free in
      no-circle area (first_free area) ci h.list h.is_list.chain h.is_list.once (h.is_list.each ci v)
      (some_of shape area 0 ci v) l)
  | inr n ↦
      (let h : HasList shape area owner (link_of (bytes_at area (first_base shape (owner - 1)))) =
      list_of shape area owner ci o w n in
      no-circle area (link_of (bytes_at area (first_base shape (owner - 1)))) ci h.list h.is_list.chain h.is_list.once
      (h.is_list.each ci w) (some_of shape area owner ci w) l)
]
in-order-sound shape area ci o (miscounted e n) = n o.whole
in-order-sound shape area ci o (in_use w n) = n (o.listed.empty ci w)
in-order-sound shape area ci o (no_unit owner n w (inl l)) =
    omega (arith, o.listed.owners ci w.from w.below, w.owned, l)
in-order-sound shape area ci o (no_unit owner n w (inr z)) = none_owned shape area owner ci o z n w
in-order-sound shape area ci o (unlisted uow list u w c n) =
    let h : HasList shape area (uow + 1) (link_of (bytes_at area (first_base shape uow))) = o.listed.of_uow uow u in
    n (same_chain area (link_of (bytes_at area (first_base shape uow))) ci h.list list h.is_list.chain c
    (h.is_list.each ci w))
