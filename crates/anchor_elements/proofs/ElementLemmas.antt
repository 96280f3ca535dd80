-- An element of an interval that comes to say a segment.
use Rattle.std.proofs.Common.{◌≡◌, ◌≢◌, ℕ, zero, suc, ◌+◌, ◌-◌, ◌*◌, ◌/◌, ◌^◌, ◌<◌, ◌≤◌, ◌↔◌, List, [], ◌∷◌, ◌++◌, length, take, drop, slice_range, slice_get, nat_le, nat_eq, ◌&&◌, Bool, true, false, IsTrue, Option, IfSome, if◌then◌else◌, refl, sym, ap, ◌∙◌, arith}
use Rattle.std.specs.Option.{option_map_or}
use Rattle.std.proofs.lemmas.Bool.{leb-true, le-leb, eqb-true, and_parts}
use Rattle.std.proofs.lemmas.List.{get_or-take, drop_all, append-nil, drop-take, take-take, length-take-le}
use Rattle.byteorder.specs.Endian.{big_from}
use Rattle.ci_space.specs.Element.{Used}
use Rattle.ci_space.specs.Interval.{HasUsed, IsUsed, HasRoom, UsedBecomes, OthersStay, Keeps, is_size}
use Rattle.ci_space.proofs.Tilings.{size-bounds}
use Rattle.ci_space.proofs.Contents.{IsWithin, room-within, used-ends}
use Rattle.ci_space.proofs.Places.{big_from-keeps}
use Rattle.ci_overflow.specs.Lists.{bytes_at}
use Rattle.ci_overflow.specs.Rooms.{IsPut}
use Rattle.fp_model.specs.declared.definitions.SegDef.{SegDef}
use Rattle.fp_model.specs.Order.{child_types}
use Rattle.fp_model.specs.WellFormed.{EachFits, stored_length}
use Rattle.anchor_elements.specs.Elements.{Pointer, Segment, HasSegment, pointers_from, has_serial, serial_length, prefix_length, segment_length, content_length}
use Rattle.anchor_elements.specs.Elements.{AreTypes}
use Rattle.anchor_elements.specs.Puts.{PutsSegment}
use Rattle.anchor_elements.specs.Spelling.{Spells, Says, firsts_at, bytes_from, spelled_length}
use Rattle.anchor_elements.proofs.Pointers.{same_pointer}
use Rattle.anchor_elements.proofs.SpellingLemmas.{pointer_keeps, pointers_keep, firsts_bounds, firsts_behind}
use Rattle.plain_laws.proofs.Places.{get_there}

-- ---- the element

-- what a test of its room tells
pub room_is : (bytes : List ℕ) (at n : ℕ) (got : List ℕ) → IsUsed bytes at
    → ((type : ℕ) (content : List ℕ) → HasUsed bytes at type content → got ≡ content) → IsTrue (nat_le n (length got))
    ↔ HasRoom bytes at n
room_is bytes at n got u f = (
  (λ t. record {
    segment = u.segment;
    content = u.content;
    used = u.used;
    fits =
        omega (arith, leb-true n (length got) t, ap length (f u.segment u.content u.used));
  }),
  (λ r. le-leb n (length got) (omega (arith, r.fits, ap length (f r.segment r.content r.used)))),
)

-- its type is set
pub typed_used : (old new : List ℕ) (at type : ℕ) (u : IsUsed old at)
    → UsedBecomes old new at (λ _ content. Used type content) → HasUsed new at type u.content
typed_used old new at type u b = record {
  before = u.used.before;
  after = u.used.after;
  tiles =
      b u.used.before u.used.after u.segment u.content u.used.place u.used.tiles;
  place = u.used.place;
}

-- its whole content is written
pub written_used : (middle new : List ℕ) (at type : ℕ) (was from : List ℕ) → HasUsed middle at type was
    → length was ≡ length from → UsedBecomes middle new at (λ t content. Used t (from ++ drop (length from) content))
    → HasUsed new at type from
written_used middle new at type was from u l b =
    let none : drop (length from) was ≡ [] = drop_all (length from) was (omega (arith, l)) in
    let e : from ++ drop (length from) was ≡ from = ap (λ (xs : List ℕ). from ++ xs) none ∙ append-nil from in
    record {
      before = u.before;
      after = u.after;
      tiles = rw e at (b u.before u.after type was u.place u.tiles);
      place =
          u.place;
    }

pub others_joined : (old middle new : List ℕ) (at : ℕ) → OthersStay old middle at → OthersStay middle new at
    → OthersStay old new at
others_joined old middle new at a b = record {
  stay = λ place type content n u. b.stay place type content n (a.stay place type content n u);
  none_comes = λ place type content n u. a.none_comes place type content n (b.none_comes place type content n u);
}

-- its content is within the largest interval
pub got_length : (bytes : List ℕ) (at n : ℕ) (got : List ℕ) → HasRoom bytes at n
    → ((type : ℕ) (content : List ℕ) → HasUsed bytes at type content → got ≡ content) → length got ≤ 4096
got_length bytes at n got r f =
    let w : IsWithin bytes at n = room-within bytes at n r in
    omega (arith, used-ends bytes at r.segment r.content r.used, w.limit, ap length (f r.segment r.content r.used))

pub got_room : (bytes : List ℕ) (at n : ℕ) (got : List ℕ) → HasRoom bytes at n
    → ((type : ℕ) (content : List ℕ) → HasUsed bytes at type content → got ≡ content) → n ≤ length got
got_room bytes at n got r f = omega (arith, r.fits, ap length (f r.segment r.content r.used))

-- ---- what it says

-- the front of a longer content
take_keeps : (xs : List ℕ) (n : ℕ) → Keeps xs (take n xs) 0 n
take_keeps xs n k x y = get_or-take n xs k 0 y

take_range : (xs : List ℕ) (n from to : ℕ) → from ≤ to → to ≤ n → n ≤ length xs
    → slice_range (take n xs) from to ≡ slice_range xs from to
take_range xs n from to a b c =
    let e : n ≡ from + (n - from) = omega arith in
    let d : drop from (take n xs) ≡ take (n - from) (drop from xs) =
    ap (λ k. drop from (take k xs)) e ∙ drop-take from (n - from) xs in
    ap (take (to - from)) d ∙ take-take (to - from) (n - from) (drop from xs) (omega arith)

pub spells_front : (content : List ℕ) (h : Bool) (s : Segment) (n : ℕ) → spelled_length h s ≤ n → n ≤ length content
    → Spells content h s → Spells (take n content) h s
spells_front content h s n f l p =
    let b = firsts_bounds h in
    let k : Keeps content (take n content) 0 n = take_keeps content n in
    record {
      next = pointer_keeps content (take n content) 0 (λ i x y. k i x (omega arith)) ∙ p.next;
      serial = λ t. (let e : firsts_at h ≡ 18 = firsts_behind h t in
          big_from-keeps 8 10 content (take n content) (λ i x y. k i (omega arith) (omega arith)) ∙ p.serial t);
      firsts = pointers_keep (length s.firsts) content (take n content) (firsts_at h)
          (λ i x y. k i (omega arith) (omega arith)) ∙ p.firsts;
      bytes = take_range content n (bytes_from h s) (spelled_length h s) (omega arith) f l ∙ p.bytes;
      zeros = λ i x y. (let m : i < n = omega (arith, y, length-take-le n content l) in
          k i (omega arith) m ∙ p.zeros i x (omega arith));
    }

pub says_front : (interval content : List ℕ) (at type : ℕ) (h : Bool) (s : Segment) (n : ℕ) → spelled_length h s ≤ n
    → n ≤ length content → Spells content h s → HasUsed interval at type (take n content) → Says interval at type h s
says_front interval content at type h s n f l p u = record {
  content = take n content;
  used = u;
  fits = omega (arith, length-take-le n content l);
  spells = spells_front content h s n f l p;
}

-- the parts have the lengths that the type gives them
head_length : (h : Bool) → 10 + (if h then 8 else 0) ≡ firsts_at h
head_length true = refl
head_length false = refl

serial_is : (h : Bool) (content : List ℕ) (serial : ℕ) → (IsTrue h → big_from 10 8 content ≡ serial)
    → (h ≡ false → serial ≡ 0) → serial ≡ (if h then big_from 10 8 content else 0)
serial_is true content serial f g = sym (f refl)
serial_is false content serial f g = g refl

same_segment : (a b : Pointer) (c d : ℕ) (e f : List Pointer) (g h : List ℕ) → a ≡ b → c ≡ d → e ≡ f → g ≡ h
    → (let s : Segment = record { next = a; serial = c; firsts = e; bytes = g } in s) ≡
    (let t : Segment = record { next = b; serial = d; firsts = f; bytes = h } in t)
same_segment a b c d e f g h p q r s = rw (p, q, r, s) refl

pub type_prefix : (types : List SegDef) (type : ℕ) (h : Bool) (s : Segment) → h ≡ has_serial types type
    → length s.firsts ≡ length (child_types types type) → prefix_length types type ≡ bytes_from h s
type_prefix types type h s e f = omega (arith, head_length (has_serial types type), ap firsts_at e, f)

pub type_length : (types : List SegDef) (type : ℕ) (h : Bool) (s : Segment) → h ≡ has_serial types type
    → length s.firsts ≡ length (child_types types type) → length s.bytes ≡ segment_length types type
    → content_length types type ≡ spelled_length h s
type_length types type h s e f g = omega (arith, type_prefix types type h s e f, g)

pub says_segment : (types : List SegDef) (area : List (List ℕ)) (type : ℕ) (at : Pointer) (h : Bool) (s : Segment)
    → h ≡ has_serial types type
    → length s.firsts ≡ length (child_types types type) → length s.bytes ≡ segment_length types type
    → (has_serial types type ≡ false → s.serial ≡ 0)
    → Says (bytes_at area at.0) at.1 type h s → HasSegment types area type at s
says_segment types area type at h s e f g z a =
    let p : prefix_length types type ≡ bytes_from h s = type_prefix types type h s e f in
    let l : content_length types type ≡ spelled_length h s = type_length types type h s e f g in
    let k : 10 + serial_length types type ≡ firsts_at h =
    omega (arith, head_length (has_serial types type), ap firsts_at e) in
    record {
      content = a.content;
      used = a.used;
      fits = omega (arith, l, a.fits);
      zeros = λ i x y. a.spells.zeros i (omega (arith, l, x)) y;
      says = same_segment _ _ _ _ _ _ _ _ (sym a.spells.next)
          (serial_is (has_serial types type) a.content s.serial (λ t. a.spells.serial (e ∙ t)) z)
          (sym a.spells.firsts ∙ ap (λ i. pointers_from a.content i (length s.firsts)) (sym k) ∙ ap
          (pointers_from a.content (10 + serial_length types type)) f)
          (sym a.spells.bytes ∙ ap (λ i. slice_range a.content i (spelled_length h s)) (sym p) ∙ ap
          (slice_range a.content (prefix_length types type)) (sym l));
    }

-- ---- sizes

each_fits_at : (size : ℕ) (types rest : List SegDef) (place k : ℕ) → k < length rest → EachFits size types place rest
    → IfSome (slice_get rest k) (λ def. stored_length types (place + k) def ≤ size - 32)
each_fits_at size types [] place k l f = absurd (omega arith)
each_fits_at size types (def ∷ rest) place zero l f = let e : place + 0 ≡ place = omega arith in rw e f.0
each_fits_at size types (def ∷ rest) place (suc k) l f = let e : place + 1 + k ≡ place + suc k = omega arith in
    rw e at (each_fits_at size types rest (place + 1) k (omega arith) f.1)

direct_length : (types : List SegDef) (type : ℕ) (def : SegDef) → def.sequential ≡ false
    → stored_length types type def ≡ (14 + serial_length types type + 10 * length (child_types types type) + def.length
    + 3) / 4 * 4
direct_length types type def e = rw e refl

-- the content of a direct type fits into an empty interval
pub type_fits : (size : ℕ) (types : List SegDef) (type : ℕ) → AreTypes size types → type < length types
    → IfSome (slice_get types type) (λ def. def.sequential ≡ false) → content_length types type + 4 ≤ size - 32
type_fits size types type t l q =
    let d = get_there types type l in
    let z : 0 + type ≡ type = omega arith in
    let f : IfSome (slice_get types type) (λ def. stored_length types type def ≤ size - 32) =
    rw z at (each_fits_at size types types 0 type l t.fits) in
    let g : stored_length types type d.0 ≤ size - 32 = rw d.1 at f in
    let r : d.0.sequential ≡ false = rw d.1 at q in
    let n : segment_length types type ≡ d.0.length =
    ap (λ (o : Option SegDef). option_map_or (λ def. def.length) o 0) d.1 in
    omega (arith, direct_length types type d.0 r, g, n)

-- so its parts are few bytes
pub parts_bound : (size : ℕ) (types : List SegDef) (type firsts bytes : ℕ) → IsTrue (is_size size) → AreTypes size types
    → type < length types → IfSome (slice_get types type) (λ def. def.sequential ≡ false)
    → firsts ≡ length (child_types types type) → bytes ≡ segment_length types type → firsts + bytes < 2 ^ 32
parts_bound size types type firsts bytes z t l q f g =
    let b : content_length types type + 4 ≤ size - 32 = type_fits size types type t l q in
    let c : size ≤ 4096 = (size-bounds size z).1 in
    omega (arith, b, c, f, g)

-- ---- a segment that is put

pub puts_segment : (types : List SegDef) (old middle new : List (List ℕ)) (was now : List ℕ) (type : ℕ) (at : Pointer)
    (h : Bool) (s : Segment) → middle ≡ old → was ≡ bytes_at old at.0 → IsPut middle new at.0 now
    → h ≡ has_serial types type → length s.firsts ≡ length (child_types types type)
    → length s.bytes ≡ segment_length types type → (has_serial types type ≡ false → s.serial ≡ 0)
    → Says now at.1 type h s → OthersStay was now at.1 → Keeps was now 0 32 → PutsSegment types old new type at s
puts_segment types old middle new was now type at h s m w p e f g z a o k =
    let same : (ci : ℕ) → ci ≢ at.0 → bytes_at new ci ≡ bytes_at old ci =
    λ ci n. p.others ci n ∙ ap (λ (xs : List (List ℕ)). bytes_at xs ci) m in
    record {
      stands = says_segment types new type at h s e f g z (rw p.here a);
      others = record {
        here = rw (p.here, ← w) o;
        elsewhere = λ ci n. record {
          stay = λ place t content u. rw (same ci n) u;
          none_comes = λ place t content u. rw (same ci n) at u;
        };
      };
      head = rw (p.here, ← w) k;
      elsewhere = same;
      same_number = p.same_number ∙ ap length m;
    }

-- one that says it already
pub put_itself : (old middle : List (List ℕ)) (was now : List ℕ) (ci : ℕ) → middle ≡ old → was ≡ bytes_at old ci → now ≡ was
    → IsPut middle middle ci now
put_itself old middle was now ci m w n = record {
  here = ap (λ (xs : List (List ℕ)). bytes_at xs ci) m ∙ sym w ∙ sym n;
  others = λ other _. refl;
  same_number = refl;
}

pub stays_segment : (types : List SegDef) (old middle : List (List ℕ)) (was now : List ℕ) (type : ℕ) (at : Pointer)
    (h : Bool) (s : Segment) → middle ≡ old → was ≡ bytes_at old at.0 → now ≡ was
    → h ≡ has_serial types type → length s.firsts ≡ length (child_types types type)
    → length s.bytes ≡ segment_length types type → (has_serial types type ≡ false → s.serial ≡ 0)
    → Says now at.1 type h s → OthersStay was now at.1 → Keeps was now 0 32 → PutsSegment types old middle type at s
stays_segment types old middle was now type at h s m w n e f g z a o k =
    puts_segment types old middle middle was now type at h s m w (put_itself old middle was now at.0 m w n) e f g z a o
    k

pub pointer_is : (p q : Pointer) → (nat_eq p.0 q.0 && nat_eq p.1 q.1) ≡ true → p ≡ q
pointer_is p q e =
    let d = and_parts (nat_eq p.0 q.0) (nat_eq p.1 q.1) e in
    same_pointer p q (eqb-true p.0 q.0 d.0) (eqb-true p.1 q.1 d.1)
