-- Faults that are seen where an interval joins a list.
use Rattle.std.proofs.Common.{◌≡◌, ◌≢◌, ℕ, ◌-◌, ◌<◌, ◌≤◌, ◌⊎◌, inl, inr, List, [], ◌∷◌, length, slice_index, IsTrue, refl, sym, ap, ◌∙◌, arith}
use Rattle.std.specs.List.{All}
use Rattle.ci_space.specs.declared.intervals.Shape.{Shape}
use Rattle.ci_space.specs.Element.{Element, Free, free_size, size_for}
use Rattle.ci_space.specs.Interval.{kind_of, Tiles, IsInterval, IsEmpty, IsFull, is_size, empty_bytes}
use Rattle.ci_space.specs.Head.{ends_of}
use Rattle.ci_space.proofs.Standing.{Tiles-unique}
use Rattle.ci_space.proofs.Empties.{tiled-tiles, empty-interval, length-empty, kind-empty}
use Rattle.ci_overflow.specs.Places.{first_base, first_independent}
use Rattle.ci_overflow.specs.Lists.{bytes_at, owner_of, first_free}
use Rattle.ci_overflow.specs.Rooms.{PutsEnds, IsGrown}
use Rattle.ci_overflow.specs.Faults.{FitsEmpty, HoldsLink, in_control, IsNotThere, IsAtFault, miscounted, in_use}
use Rattle.ci_overflow.specs.declared.reading.Place.{Place}
use Rattle.ci_overflow.proofs.Joins.{base-before, counted_is, first_free_is}
use Rattle.ci_overflow.proofs.FaultLemmas.{first-fault}

-- what is full after the head changed was full before
pub full-behind : (old new : List ℕ) (n : ℕ) → IsInterval old → ((es : List Element) → Tiles old es → Tiles new es)
    → IsFull new n → IsFull old n
full-behind old new n i f u =
    let e : u.elements ≡ i.elements = Tiles-unique new u.elements i.elements u.tiles (f i.elements i.tiles) in
    record { elements = u.elements; tiles = rw e i.tiles; smaller = u.smaller }

-- an empty interval isn't full, where it has room
pub empty-fits : (bytes : List ℕ) (n : ℕ) → IsEmpty bytes → FitsEmpty (length bytes) n → IsFull bytes n → ⊥
empty-fits bytes n t f u =
    let e : u.elements ≡ Free (length bytes - 32) ∷ [] =
    Tiles-unique bytes u.elements (Free (length bytes - 32) ∷ []) u.tiles t in
    let s : All (λ x. free_size x < size_for n) (Free (length bytes - 32) ∷ []) = rw e at u.smaller in
    let l : length bytes - 32 < size_for n = s 0 (Free 0) (omega arith) in
    omega (arith, l, f)

-- what isn't there after other intervals changed wasn't there before
pub there-moved : (old new : List (List ℕ)) (place : Place) (n : ℕ) → length old ≤ length new
    → (place.ci < length new → place.ci < length old) → bytes_at new place.ci ≡ bytes_at old place.ci
    → IsNotThere new place n → IsNotThere old place n
there-moved old new place n l b e (inl x) = inl (x.0, b x.1, λ i. x.2 (rw e i))
there-moved old new place n l b e (inr x) = inr (
  x.0,
  λ t. x.1 (record {
    below = omega (arith, t.below, l);
    is_kind = ap kind_of e ∙ t.is_kind;
    is_owner =
        ap owner_of e ∙ t.is_owner;
  }),
)

-- the first base interval, after control was put
pub base-moved : (shape : Shape) (uow n : ℕ) (old new : List (List ℕ)) (control : List ℕ) (number first : ℕ)
    → uow < shape.uows → 0 < shape.base → PutsEnds control number first old new
    → IsNotThere new (record { ci = first_base shape uow; kind = 2; owner = 0; from = first_base shape uow }) n
    → IsAtFault shape old n
base-moved shape uow n old new control number first u b p h =
    first-fault shape old uow (first_base shape uow) n refl u b
    (there-moved old new (record { ci = first_base shape uow; kind = 2; owner = 0; from = first_base shape uow }) n
    (omega (arith, p.put.same_number)) (λ l. omega (arith, l, p.put.same_number))
    (p.put.others (first_base shape uow) (λ e. omega (arith, e))) h)

-- and after an interval was added before
pub base-grown : (shape : Shape) (uow n size : ℕ) (old middle new : List (List ℕ)) (control : List ℕ) (number first : ℕ)
    → uow < shape.uows → 0 < shape.base → first_independent shape ≤ length old → IsGrown size old middle
    → PutsEnds control number first middle new
    → IsNotThere new (record { ci = first_base shape uow; kind = 2; owner = 0; from = first_base shape uow }) n
    → IsAtFault shape old n
base-grown shape uow n size old middle new control number first u b f g p h =
    let front : first_base shape uow < first_independent shape = base-before shape uow u b in
    first-fault shape old uow (first_base shape uow) n refl u b
    (there-moved old new (record { ci = first_base shape uow; kind = 2; owner = 0; from = first_base shape uow }) n
    (omega (arith, p.put.same_number, g.one_more)) (λ l. omega (arith, front, f))
    (p.put.others (first_base shape uow) (λ e. omega (arith, e)) ∙ g.others (first_base shape uow)
    (λ e. omega (arith, e, front, f))) h)

-- the free chain's first
pub control-link : (shape : Shape) (area : List (List ℕ)) (control ends : List ℕ) → control ≡ bytes_at area 0
    → ends ≡ ends_of control → HoldsLink shape area 0 0 (slice_index ends 3)
control-link shape area control ends c e = in_control refl refl (first_free_is area control ends c e)

pub control-some : (area : List (List ℕ)) (control ends : List ℕ) → control ≡ bytes_at area 0 → ends ≡ ends_of control
    → first_free area ≢ 0 → slice_index ends 3 ≢ 0
control-some area control ends c e n z = n (sym (first_free_is area control ends c e) ∙ z)

-- an interval of the free chain that isn't empty
pub free-fault : (shape : Shape) (area : List (List ℕ)) (ci : ℕ) (interval : List ℕ) → first_independent shape ≤ ci
    → ci < length area → interval ≡ bytes_at area ci → owner_of interval ≡ 0 → ¬ IsEmpty interval
    → IsAtFault shape area ci
free-fault shape area ci interval f b e o n = in_use (record { from = f; below = b; owned = ap owner_of (sym e) ∙ o })
    (rw e at n)

-- control counts another number
pub count-fault : (shape : Shape) (area : List (List ℕ)) (control ends : List ℕ) (ci : ℕ) → control ≡ bytes_at area 0
    → ends ≡ ends_of control → ci ≡ length area → (ci < first_independent shape)
    ⊎ (slice_index ends 2 ≢ ci - first_independent shape) → IsAtFault shape area 0
count-fault shape area control ends ci c e l (inl b) = miscounted refl (λ w. omega (arith, w, b, l))
count-fault shape area control ends ci c e l (inr b) =
    miscounted refl (λ w. b (counted_is area control ends c e ∙ omega (arith, w, l)))

-- a new interval is there
empty_owner : (size : ℕ) → owner_of (empty_bytes size 5) ≡ 0
unfolding owner_of empty_bytes
empty_owner size = refl

pub new-there : (area : List (List ℕ)) (ci size n : ℕ) → bytes_at area ci ≡ empty_bytes size 5 → IsTrue (is_size size)
    → ci < length area → IsNotThere area (record { ci = ci; kind = 5; owner = 0; from = ci }) n → ⊥
new-there area ci size n e s b (inl x) = x.2 (rw e (empty-interval size 5 s refl))
new-there area ci size n e s b (inr x) = x.1 (record
    { below = b; is_kind = ap kind_of e ∙ kind-empty size 5; is_owner = ap owner_of e ∙ empty_owner size })

-- and empty
pub new-empty : (size : ℕ) → IsTrue (is_size size) → IsEmpty (empty_bytes size 5)
new-empty size s = let l : length (empty_bytes size 5) ≡ size = length-empty size 5 s in
    rw l (tiled-tiles size 5 s refl refl)
