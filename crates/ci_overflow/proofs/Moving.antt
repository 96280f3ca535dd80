-- An interval that becomes empty moves from its list to the free chain: what the calls on the way give.
use Rattle.std.proofs.Common.{◌≡◌, ◌≢◌, ℕ, ◌+◌, ◌-◌, ◌<◌, ◌≤◌, ◌⊎◌, inl, inr, List, [], ◌∷◌, length, drop, slice_index, refl, sym, ap, ◌∙◌, subst, arith}
use Rattle.ci_space.specs.declared.intervals.Shape.{Shape}
use Rattle.ci_space.specs.declared.head.Head.{Head}
use Rattle.ci_space.specs.Element.{Element, Free}
use Rattle.ci_space.specs.Interval.{IsInterval, IsEmpty, Tiles, SameSize}
use Rattle.ci_space.specs.Head.{head_of, ends_of}
use Rattle.ci_overflow.specs.Places.{first_base, first_independent}
use Rattle.ci_overflow.specs.Lists.{bytes_at, link_of, owner_of, counted, first_free, IsOwned}
use Rattle.ci_overflow.specs.Rooms.{IsPut, ChangesLink, ChangesEnds, PutsEnds}
use Rattle.ci_overflow.specs.Moves.{IsBefore}
use Rattle.ci_overflow.specs.inside.Moves.{PutsLink, PutsFree, Moves}
use Rattle.ci_overflow.specs.declared.before.Numbered.{Numbered}
use Rattle.ci_overflow.proofs.Joins.{tiles-used, changes-link, first_free_is, counted_is, link_is_number}

-- a link is put
pub link-put : (old new : List (List ℕ)) (numbered : Numbered) (link : ℕ) (bytes : List ℕ) (head : Head)
    → IsInterval numbered.interval → head ≡ head_of numbered.interval → head_of bytes ≡ (record head { link = link })
    → ((es : List Element) → Tiles numbered.interval es → Tiles bytes es) → drop 32 bytes ≡ drop 32 numbered.interval
    → IsPut old new numbered.ci bytes → PutsLink old new numbered link
link-put old new numbered link bytes head i e h f d p =
    record { bytes = bytes; changes = changes-link numbered.interval bytes link head i e h f d; put = p }

-- an empty interval is put to the front of the free chain
free_head : (a b : ℕ) → a ≡ b → (let g : Head = record { kind = 5; root = (0, 0); link = a; owner = 0 } in g) ≡
    (let h : Head = record { kind = 5; root = (0, 0); link = b; owner = 0 } in h)
free_head a b e = rw e refl

pub empty-tiles : (old new : List ℕ) → IsEmpty old → SameSize old new
    → ((es : List Element) → Tiles old es → Tiles new es) → IsEmpty new
empty-tiles old new e s f = rw s (f (Free (length old - 32) ∷ []) e)

pub free-put : (old middle new : List (List ℕ)) (ci : ℕ) (interval control bytes ends : List ℕ) → IsEmpty interval
    → SameSize interval bytes → ((es : List Element) → Tiles interval es → Tiles bytes es)
    → ends ≡ ends_of control → head_of bytes ≡ (record
    { kind = 5; root = (0, 0); link = slice_index ends 3; owner = 0 })
    → PutsEnds control (slice_index ends 2) ci old middle → IsPut middle new ci bytes
    → PutsFree old new ci interval control
free-put old middle new ci interval control bytes ends e s f n h p q =
    let c : PutsEnds control (slice_index (ends_of control) 2) ci old middle = (let P : List ℕ → Type 0 =
    λ xs. PutsEnds control (slice_index xs 2) ci old middle in subst P n p) in
    record {
      middle = middle;
      bytes = bytes;
      counts = c;
      head = h ∙ free_head (slice_index ends 3) (slice_index (ends_of control) 3)
          (ap (λ (xs : List ℕ). slice_index xs 3) n);
      used = tiles-used interval bytes (record { elements = _; tiles = e }) f;
      is_empty = empty-tiles interval bytes e s f;
      put = q;
    }

-- the whole move
pub before_some : (shape : Shape) (area : List (List ℕ)) (uow before : ℕ) → (before ≡ first_base shape uow)
    ⊎ IsOwned shape area (uow + 1) before → before ≢ 0
before_some shape area uow before (inl e) z = omega (arith, e, z)
before_some shape area uow before (inr o) z = omega (arith, o.from, z)

pub moves : (shape : Shape) (uow ci link : ℕ) (old m1 m2 m3 new : List (List ℕ)) (interval control : List ℕ)
    (before : Numbered)
    → uow < shape.uows → 0 < shape.base → first_independent shape ≤ ci → owner_of interval ≡ uow + 1
    → IsBefore shape old uow ci before → m1 ≡ old → control ≡ bytes_at m1 0 → m2 ≡ m1
    → link ≡ (head_of interval).link → PutsLink m2 m3 before link → PutsFree m3 new ci interval control
    → Moves shape old new ci interval
moves shape uow ci link old m1 m2 m3 new interval control before u h f o b e1 ce e2 le p q =
    let z : before.ci ≢ 0 = before_some shape old uow before.ci b.stands in
    let zc : ci ≢ 0 = λ x. omega (arith, x, f) in
    let same : (other : ℕ) → bytes_at m2 other ≡ bytes_at old other = λ other. ap (λ xs. bytes_at xs other) (e2 ∙ e1) in
    let con : control ≡ bytes_at old 0 = ce ∙ ap (λ xs. bytes_at xs 0) e1 in
    let cc0 : ChangesEnds control q.counts.bytes (slice_index (ends_of control) 2) ci = q.counts.ends in
    let num : slice_index (ends_of control) 2 ≡ counted old = counted_is old control (ends_of control) con refl in
    let fir : slice_index (ends_of control) 3 ≡ first_free old = first_free_is old control (ends_of control) con refl in
    let zero_is : bytes_at new 0 ≡ q.counts.bytes = q.put.others 0 (λ x. zc (sym x)) ∙ q.counts.put.here in
    let before_is : bytes_at new before.ci ≡ p.bytes =
    q.put.others before.ci b.apart ∙ q.counts.put.others before.ci z ∙ p.put.here in
    let lk : link ≡ link_of interval = link_is_number interval link le in
    let ch : ChangesLink (bytes_at old before.ci) (bytes_at new before.ci) (link_of interval) =
    rw (← b.is_bytes, before_is, ← lk) p.changes in
    let en : ChangesEnds (bytes_at old 0) (bytes_at new 0) (counted old) ci = rw (← con, zero_is, ← num) cc0 in
    record {
      uow = uow;
      before = before.ci;
      is_uow = u;
      has_base = h;
      from = f;
      owner = o;
      base_below = b.base_below;
      base_kind = b.base_kind;
      stands = b.stands;
      leads = b.leads;
      apart = b.apart;
      link = ch;
      ends = en;
      head = ap head_of q.put.here ∙ q.head ∙ free_head (slice_index (ends_of control) 3) (first_free old) fir;
      used = rw q.put.here q.used;
      is_empty = rw q.put.here q.is_empty;
      others = λ other x y w. q.put.others other w ∙ q.counts.put.others other x ∙ p.put.others other y ∙ same other;
      same_number = q.put.same_number ∙ q.counts.put.same_number ∙ p.put.same_number ∙ ap length (e2 ∙ e1);
    }
