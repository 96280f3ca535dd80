-- Intervals whose heads and ends change, and one that joins a list.
use Rattle.std.proofs.Common.{◌≡◌, ◌≢◌, ℕ, ◌+◌, ◌*◌, ◌<◌, ◌≤◌, List, [], ◌∷◌, length, drop, slice_index, IsTrue, refl, sym, ap, ◌∙◌, arith}
use Rattle.std.proofs.lemmas.Nat.{mul-le}
use Rattle.ci_space.specs.declared.intervals.Shape.{Shape}
use Rattle.ci_space.specs.declared.head.Head.{Head}
use Rattle.ci_space.specs.Element.{Element}
use Rattle.ci_space.specs.Interval.{kind_of, Tiles, HasRoom, IsUsed, IsInterval, IsHead, OthersStay, Keeps, Takes, IsEmpty, is_size, empty_bytes}
use Rattle.ci_space.specs.Head.{head_of, ends_of}
use Rattle.ci_space.proofs.Heads.{ends-tiles}
use Rattle.ci_space.proofs.Places.{big_from-keeps}
use Rattle.ci_space.proofs.Standing.{stands-used, used-stands}
use Rattle.ci_overflow.specs.Places.{first_base, first_independent, kind_at}
use Rattle.ci_overflow.specs.Lists.{bytes_at, link_of, owner_of, counted, first_free}
use Rattle.ci_overflow.specs.Rooms.{KeepsUsed, TakesIn, IsPut, ChangesLink, ChangesEnds, PutsEnds, Joins, IsGrown, JoinsFree, JoinsNew}
use Rattle.ci_overflow.specs.inside.Rooms.{JoinsNext}
use Rattle.ci_overflow.proofs.Tries.{takes-exact}
use Rattle.plain_laws.proofs.Lists.{keeps_dropped}

-- an interval whose elements stay
pub tiles-used : (old new : List ℕ) → IsInterval old → ((es : List Element) → Tiles old es → Tiles new es)
    → KeepsUsed old new
tiles-used old new i f = record {
  stay = λ place segment content u. record { before = u.before; after = u.after; tiles = f _ u.tiles; place = u.place };
  none_comes = λ place segment content u. stands-used old i.elements place segment content i.tiles
      (used-stands new i.elements place segment content (f i.elements i.tiles) u);
}

pub tiles-interval : (old new : List ℕ) → IsInterval old → ((es : List Element) → Tiles old es → Tiles new es)
    → IsInterval new
tiles-interval old new i f = record { elements = i.elements; tiles = f i.elements i.tiles }

-- an element is taken after the head changed
pub takes-behind : (old middle new : List ℕ) (n at : ℕ) → KeepsUsed old middle → Takes middle new n at
    → HasRoom new at n → ¬ IsUsed middle at → OthersStay middle new at → TakesIn old new n at
takes-behind old middle new n at k t r f o = record {
  room = r;
  exact = takes-exact middle new n at t;
  fresh = λ u. f (record { segment = u.segment; content = u.content; used = k.stay at u.segment u.content u.used });
  others = record {
    stay = λ place segment content h u. o.stay place segment content h (k.stay place segment content u);
    none_comes = λ place segment content h u. k.none_comes place segment content
        (o.none_comes place segment content h u);
  };
  is_interval = record { elements = _; tiles = t.now };
}

-- a head that stays
head_same : (k a b c d p q r s t : ℕ) → k ≡ p → a ≡ q → b ≡ r → c ≡ s → d ≡ t
    → (let g : Head = record { kind = k; root = (a, b); link = c; owner = d } in g) ≡
    (let h : Head = record { kind = p; root = (q, r); link = s; owner = t } in h)
head_same k a b c d p q r s t e f g h i = rw (e, f, g, h, i) refl

pub keeps-head : (old new : List ℕ) → Keeps old new 0 32 → head_of new ≡ head_of old
keeps-head old new k =
    head_same _ _ _ _ _ _ _ _ _ _ (k 0 (omega arith) (omega arith))
    (big_from-keeps 8 4 old new (λ i x y. k i (omega arith) (omega arith)))
    (big_from-keeps 2 12 old new (λ i x y. k i (omega arith) (omega arith)))
    (big_from-keeps 8 16 old new (λ i x y. k i (omega arith) (omega arith)))
    (big_from-keeps 8 24 old new (λ i x y. k i (omega arith) (omega arith)))

-- what an interval's kind has no use for is 0
root_pair : (a b : ℕ) → a ≡ 0 → b ≡ 0 → (let p : ℕ × ℕ = (a, b) in p) ≡ (0, 0)
root_pair a b e f = rw (e, f) refl

pub root-zero : (bytes : List ℕ) → IsHead bytes → kind_of bytes ≢ 2 → (head_of bytes).root ≡ (0, 0)
root-zero bytes h n =
    root_pair (head_of bytes).root.0 (head_of bytes).root.1
    (big_from-keeps 8 4 [] bytes (λ k x y. h.root n k x (omega arith)))
    (big_from-keeps 2 12 [] bytes (λ k x y. h.root n k (omega arith) y))

pub link-zero : (bytes : List ℕ) → IsHead bytes → kind_of bytes ≢ 2 → kind_of bytes ≢ 5 → link_of bytes ≡ 0
unfolding link_of
link-zero bytes h n m = big_from-keeps 8 16 [] bytes (h.link n m)

pub owner-zero : (bytes : List ℕ) → IsHead bytes → kind_of bytes ≢ 5 → owner_of bytes ≡ 0
unfolding owner_of
owner-zero bytes h n = big_from-keeps 8 24 [] bytes (h.owner n)

-- a link that changes
pub changes-link : (old new : List ℕ) (link : ℕ) (head : Head) → IsInterval old → head ≡ head_of old
    → head_of new ≡ (record head { link = link }) → ((es : List Element) → Tiles old es → Tiles new es)
    → drop 32 new ≡ drop 32 old
    → ChangesLink old new link
changes-link old new link head i e h f d = record {
  used = tiles-used old new i f;
  rest = d;
  head = h ∙ ap (λ (x : Head). (let y : Head = record x { link = link } in y)) e;
  is_interval = tiles-interval old new i f;
}

pub link_is : (bytes : List ℕ) (head : Head) → head ≡ head_of bytes → head.link ≡ link_of bytes
unfolding link_of
link_is bytes head e = ap (λ (x : Head). x.link) e

pub link_is_number : (bytes : List ℕ) (link : ℕ) → link ≡ (head_of bytes).link → link ≡ link_of bytes
unfolding link_of
link_is_number bytes link e = e

joined_head : (a b owner uow : ℕ) → a ≡ b → owner ≡ uow + 1
    → (let g : Head = record { kind = 5; root = (0, 0); link = a; owner = owner } in g) ≡
    (let h : Head = record { kind = 5; root = (0, 0); link = b; owner = uow + 1 } in h)
joined_head a b owner uow p q = rw (p, q) refl

pub joins : (shape : Shape) (uow ci n at owner first : ℕ) (old m0 m1 new : List (List ℕ))
    (base0 base1 bytes middle taken : List ℕ) (head : Head)
    → first ≡ first_base shape uow → first_base shape uow < ci → m0 ≡ old → base0 ≡ bytes_at old first
    → IsInterval base0 → IsInterval bytes → head ≡ head_of base0
    → head_of base1 ≡ (record head { link = ci }) → ((es : List Element) → Tiles base0 es → Tiles base1 es)
    → drop 32 base1 ≡ drop 32 base0
    → head_of middle ≡ (record { kind = 5; root = (0, 0); link = head.link; owner = owner }) → owner ≡ uow + 1
    → ((es : List Element) → Tiles bytes es → Tiles middle es)
    → Takes middle taken n at → HasRoom taken at n → ¬ IsUsed middle at → OthersStay middle taken at
    → Keeps middle taken 0 32
    → IsPut m0 m1 first base1 → IsPut m1 new ci taken → Joins shape uow old new ci bytes n at
joins shape uow ci n at owner first old m0 m1 new base0 base1 bytes middle taken head fe lt me be bi ii he h1 f1 d1 h2
    oe f2 t r f o k p1 p2 =
    let same : (other : ℕ) → bytes_at m0 other ≡ bytes_at old other = λ other. ap (λ xs. bytes_at xs other) me in
    let apart : first ≢ ci = λ e. omega (arith, fe, lt, e) in
    let base_old : base0 ≡ bytes_at old (first_base shape uow) = be ∙ ap (bytes_at old) fe in
    let base_new : bytes_at new (first_base shape uow) ≡ base1 =
    ap (bytes_at new) (sym fe) ∙ p2.others first apart ∙ p1.here in
    let c : ChangesLink base0 base1 ci = changes-link base0 base1 ci head bi he h1 f1 d1 in
    let c1 : ChangesLink (bytes_at old (first_base shape uow)) base1 ci = rw base_old at c in
    let c2 : ChangesLink (bytes_at old (first_base shape uow)) (bytes_at new (first_base shape uow)) ci =
    rw (← base_new) at c1 in
    let t1 : TakesIn bytes taken n at = takes-behind bytes middle taken n at (tiles-used bytes middle ii f2) t r f o in
    let l : head.link ≡ link_of (bytes_at old (first_base shape uow)) = link_is base0 head he ∙ ap link_of base_old in
    record {
      first = c2;
      takes = rw p2.here t1;
      head = ap head_of p2.here ∙ keeps-head middle taken k ∙ h2 ∙ joined_head head.link
          (link_of (bytes_at old (first_base shape uow))) owner uow l oe;
      others = λ other x y. p2.others other y ∙ p1.others other (λ e. x (e ∙ fe)) ∙ same other;
      same_number = p2.same_number ∙ p1.same_number ∙ ap length me;
    }

pub changes-ends : (old new : List ℕ) (number first : ℕ) (given : List ℕ) → IsInterval old
    → given ≡ slice_index (ends_of old) 0 ∷ slice_index (ends_of old) 1 ∷ number ∷ first ∷ [] → ends_of new ≡ given
    → Keeps old new 0 32 → ((es : List Element) → Tiles old es → Tiles new es) → ChangesEnds old new number first
changes-ends old new number first given i g e k f = record {
  ends = e ∙ g;
  head = k;
  used = tiles-used old new i f;
  is_interval = tiles-interval old new i f;
}

given_ends : (xs ys : List ℕ) (number first : ℕ) → xs ≡ ys
    → slice_index xs 0 ∷ slice_index xs 1 ∷ number ∷ first ∷ [] ≡ slice_index ys 0 ∷ slice_index ys 1 ∷ number ∷ first ∷
    []
given_ends xs ys number first e = ap (λ (zs : List ℕ). slice_index zs 0 ∷ slice_index zs 1 ∷ number ∷ first ∷ []) e

pub ends-put : (old new ends : List ℕ) (number first : ℕ) (a b : List (List ℕ)) → IsInterval old → kind_of old ≡ 1
    → ends ≡ ends_of old → ends_of new ≡ slice_index ends 0 ∷ slice_index ends 1 ∷ number ∷ first ∷ []
    → Keeps old new 0 32 → length new ≡ length old → drop 64 new ≡ drop 64 old → IsPut a b 0 new
    → PutsEnds old number first a b
ends-put old new ends number first a b i c e s k l d p =
    let x : ChangesEnds old new number first = changes-ends old new number first
    (slice_index ends 0 ∷ slice_index ends 1 ∷ number ∷ first ∷ []) i (given_ends ends (ends_of old) number first e)
    s k
    (ends-tiles old new l c k (λ j x y. keeps_dropped old new d j x)) in
    record { bytes = new; ends = x; put = p }

-- where the independent overflow intervals begin
pub base-before : (shape : Shape) (uow : ℕ) → uow < shape.uows → 0 < shape.base
    → first_base shape uow < first_independent shape
base-before shape uow u b =
    let m : (uow + 1) * (shape.base + shape.overflow) ≤ shape.uows * (shape.base + shape.overflow) =
    mul-le (uow + 1) (shape.base + shape.overflow) shape.uows (shape.base + shape.overflow) (omega arith)
    (omega arith) in
    let e : (uow + 1) * (shape.base + shape.overflow) ≡ uow * (shape.base + shape.overflow) +
    (shape.base + shape.overflow) = grind arith in
    omega (arith, m, e, b)

pub dependents-before : (shape : Shape) (uow : ℕ) → uow < shape.uows
    → first_base shape uow + shape.base + shape.overflow ≤ first_independent shape
dependents-before shape uow u =
    let m : (uow + 1) * (shape.base + shape.overflow) ≤ shape.uows * (shape.base + shape.overflow) =
    mul-le (uow + 1) (shape.base + shape.overflow) shape.uows (shape.base + shape.overflow) (omega arith)
    (omega arith) in
    let e : (uow + 1) * (shape.base + shape.overflow) ≡ uow * (shape.base + shape.overflow) +
    (shape.base + shape.overflow) = grind arith in
    omega (arith, m, e)

pub kind-behind : (shape : Shape) (ci : ℕ) → first_independent shape ≤ ci → kind_at shape ci ≡ 5
kind-behind shape ci l = grind arith

-- the first of the free chain
pub first_free_is : (area : List (List ℕ)) (control ends : List ℕ) → control ≡ bytes_at area 0 → ends ≡ ends_of control
    → slice_index ends 3 ≡ first_free area
unfolding first_free
first_free_is area control ends e f = ap (λ (xs : List ℕ). slice_index xs 3) f ∙ ap
    (λ (xs : List ℕ). slice_index (ends_of xs) 3) e

pub counted_is : (area : List (List ℕ)) (control ends : List ℕ) → control ≡ bytes_at area 0 → ends ≡ ends_of control
    → slice_index ends 2 ≡ counted area
unfolding counted
counted_is area control ends e f = ap (λ (xs : List ℕ). slice_index xs 2) f ∙ ap
    (λ (xs : List ℕ). slice_index (ends_of xs) 2) e

pub joins-free : (shape : Shape) (uow n ci at next : ℕ) (old m1 m2 new : List (List ℕ)) (control ends interval : List ℕ)
    → control ≡ bytes_at old 0 → ends ≡ ends_of control → ci ≡ slice_index ends 3 → first_independent shape ≤ ci
    → ci < length old → m1 ≡ old → interval ≡ bytes_at old ci → kind_of interval ≡ 5
    → owner_of interval ≡ 0 → IsEmpty interval
    → next ≡ (head_of interval).link → PutsEnds control (slice_index ends 2) next m1 m2
    → Joins shape uow m2 new ci interval n at → JoinsFree shape uow old new n (ci, at)
joins-free shape uow n ci at next old m1 m2 new control ends interval ce ee fe lf lb m ie ke oe em ne p j =
    let l : next ≡ link_of (bytes_at old ci) = link_is_number interval next ne ∙ ap link_of ie in
    let s : slice_index ends 2 ≡ counted old = counted_is old control ends ce ee in
    let c : ChangesEnds (bytes_at old 0) p.bytes (counted old) (link_of (bytes_at old ci)) =
    rw (← ce, ← s, ← l) p.ends in
    let q : IsPut old m2 0 p.bytes = rw m at p.put in
    let f : kind_of (bytes_at old ci) ≡ 5 = rw ie at ke in
    let e : IsEmpty (bytes_at old ci) = rw ie at em in
    let k : Joins shape uow m2 new ci (bytes_at old ci) n at = rw ie at j in
    record {
      middle = m2;
      control = p.bytes;
      from = lf;
      below = lb;
      is_first = fe ∙ first_free_is old control ends ce ee;
      is_kind = f;
      is_free = ap owner_of (sym ie) ∙ oe;
      is_empty = e;
      ends = c;
      put = q;
      joins = k;
    }

pub joins-new : (shape : Shape) (uow n ci at size : ℕ) (old g1 m1 m2 new : List (List ℕ))
    (control ends interval : List ℕ)
    → control ≡ bytes_at old 0 → ends ≡ ends_of control → first_independent shape ≤ ci → ci ≡ length old
    → IsGrown size old g1 → IsTrue (is_size size)
    → PutsEnds control (slice_index ends 2 + 1) (slice_index ends 3) g1 m1 → m2 ≡ m1 → interval ≡ bytes_at m1 ci
    → Joins shape uow m2 new ci interval n at
    → JoinsNew shape uow old new n (ci, at)
joins-new shape uow n ci at size old g1 m1 m2 new control ends interval ce ee lf le gr sz p m ie j =
    let s : slice_index ends 2 ≡ counted old = counted_is old control ends ce ee in
    let f : slice_index ends 3 ≡ first_free old = first_free_is old control ends ce ee in
    let c : ChangesEnds (bytes_at old 0) p.bytes (counted old + 1) (first_free old) = rw (← ce, ← s, ← f) p.ends in
    let z : ci ≢ 0 = λ e. omega (arith, lf, e) in
    let b : interval ≡ empty_bytes size 5 = ie ∙ p.put.others ci z ∙ ap (bytes_at g1) le ∙ gr.last in
    let k : Joins shape uow m1 new ci (empty_bytes size 5) n at = (let h = rw m at j in rw b at h) in
    record {
      size = size;
      grown = g1;
      middle = m1;
      control = p.bytes;
      from = lf;
      is_last = le;
      grows = gr;
      is_size = sz;
      ends = c;
      put = p.put;
      joins = k;
    }

-- what joins
pub next-free : (shape : Shape) (uow n : ℕ) (room : ℕ × ℕ) (old m new : List (List ℕ)) (control ends : List ℕ)
    → control ≡ bytes_at old 0 → ends ≡ ends_of control → slice_index ends 3 ≢ 0 → m ≡ old
    → (control ≡ bytes_at m 0 → JoinsFree shape uow m new n room) → JoinsNext shape uow old new n room
next-free shape uow n room old m new control ends ce ee z me j =
    let k : JoinsFree shape uow old new n room = (let h = j (ce ∙ ap (λ xs. bytes_at xs 0) (sym me)) in rw me at h) in
    record {
      from_free = λ _. k;
      from_end = λ e. absurd (z (first_free_is old control ends ce ee ∙ e));
    }

pub next-new : (shape : Shape) (uow n : ℕ) (room : ℕ × ℕ) (old m new : List (List ℕ)) (control ends : List ℕ)
    → control ≡ bytes_at old 0 → ends ≡ ends_of control → slice_index ends 3 ≡ 0 → m ≡ old
    → (control ≡ bytes_at m 0 → JoinsNew shape uow m new n room) → JoinsNext shape uow old new n room
next-new shape uow n room old m new control ends ce ee z me j =
    let k : JoinsNew shape uow old new n room = (let h = j (ce ∙ ap (λ xs. bytes_at xs 0) (sym me)) in rw me at h) in
    record {
      from_free = λ e. absurd (e (sym (first_free_is old control ends ce ee) ∙ z));
      from_end = λ _. k;
    }

-- what control counts once it is put, and the first of the free chain
pub counted-put : (new : List (List ℕ)) (control old : List ℕ) (number first : ℕ) → bytes_at new 0 ≡ control
    → ChangesEnds old control number first → counted new ≡ number
unfolding counted
counted-put new control old number first e c = ap (λ (xs : List ℕ). slice_index (ends_of xs) 2) e ∙ ap
    (λ (xs : List ℕ). slice_index xs 2) c.ends

pub first_free-put : (new : List (List ℕ)) (control old : List ℕ) (number first : ℕ) → bytes_at new 0 ≡ control
    → ChangesEnds old control number first → first_free new ≡ first
unfolding first_free
first_free-put new control old number first e c = ap (λ (xs : List ℕ). slice_index (ends_of xs) 3) e ∙ ap
    (λ (xs : List ℕ). slice_index xs 3) c.ends

-- a head that is known
pub link-known : (bytes : List ℕ) (head : Head) → head_of bytes ≡ head → link_of bytes ≡ head.link
unfolding link_of
link-known bytes head e = ap (λ (h : Head). h.link) e

pub owner-known : (bytes : List ℕ) (head : Head) → head_of bytes ≡ head → owner_of bytes ≡ head.owner
unfolding owner_of
owner-known bytes head e = ap (λ (h : Head). h.owner) e

pub kind-known : (bytes : List ℕ) (head : Head) → head_of bytes ≡ head → kind_of bytes ≡ head.kind
kind-known bytes head e = ap (λ (h : Head). h.kind) e
