-- What stays where a segment or a root anchor point is put.
use Rattle.std.proofs.Common.{◌≡◌, ◌≢◌, ℕ, ◌+◌, ◌-◌, ◌*◌, ◌%◌, ◌<◌, ◌≤◌, inl, inr, false, List, [], ◌∷◌, length, slice_index, refl, sym, ap, ◌∙◌, subst, arith}
use Rattle.std.proofs.lemmas.Nat.{mul-le, mod-mul-add, same_from_place, div_below}
use Rattle.std.proofs.lemmas.List.{get_or_past}
use Rattle.std.proofs.lemmas.Bool.{cases_lt}
use Rattle.ci_space.specs.declared.intervals.Shape.{Shape}
use Rattle.ci_space.specs.declared.head.Head.{Head}
use Rattle.ci_space.specs.Element.{Free}
use Rattle.ci_space.specs.Interval.{kind_of, has_elements, HasUsed, IsUsed, HasRoom, IsInterval, IsEmpty}
use Rattle.ci_space.specs.Head.{head_of, ends_of}
use Rattle.ci_space.proofs.Standing.{used-stands, untiled-none, interval-bounds}
use Rattle.ci_overflow.specs.Places.{first_base, first_sequential, first_independent, uow_of, base_of, kind_at}
use Rattle.ci_overflow.specs.Lists.{bytes_at, link_of, owner_of, counted, first_free, IsOwned, HasList, IsInPlace, IsInOrder}
use Rattle.ci_overflow.specs.Rooms.{KeepsUsed, KeepsEnds, KeepsKinds}
use Rattle.ci_overflow.proofs.Tries.{keeps-link, keeps-owner}
use Rattle.ci_overflow.proofs.Joins.{keeps-head}
use Rattle.ci_overflow.proofs.Finds.{control-first, base-some, ends-same}
use Rattle.ci_overflow.proofs.Orders.{list-stays, counted-same, first_free-same}
use Rattle.fp_model.specs.declared.definitions.SegDef.{SegDef}
use Rattle.anchor_elements.specs.Elements.{Pointer, Segment, HasSegment, content_length}
use Rattle.root_anchor.specs.Chains.{anchor_count, root_of}
use Rattle.root_anchor.specs.Stored.{KeepsSequential}
use Rattle.anchor_elements.specs.Puts.{PutsSegment}
use Rattle.anchor_elements.proofs.Pointers.{same_pointer}
use Rattle.root_anchor.specs.inside.Puts.{PutsRoot}
use Rattle.plain_laws.proofs.Numbers.{same_or_other}

-- ---- places

-- an interval of the area stands within it
pub within_area : (area : List (List ℕ)) (ci : ℕ) → IsInterval (bytes_at area ci) → ci < length area
within_area area ci i = elim (cases_lt ci (length area)) as (λ _. ci < length area) [
  | inl l ↦ l
  | inr l ↦
      (let e : bytes_at area ci ≡ [] = get_or_past area ci [] l in
      let b = interval-bounds (bytes_at area ci) i in
      absurd (omega (arith, b.0, ap length e)))
]

-- a used element stands in an interval, which is none without elements and no empty one
pub used_interval : (bytes : List ℕ) (at : ℕ) → IsUsed bytes at → IsInterval bytes
used_interval bytes at u = record { elements = _; tiles = u.used.tiles }

pub used_kind : (bytes : List ℕ) (at kind : ℕ) → has_elements kind ≡ false → IsUsed bytes at → kind_of bytes ≢ kind
used_kind bytes at kind h u e = untiled-none bytes at (ap has_elements e ∙ h) u

pub used_not_empty : (bytes : List ℕ) (at : ℕ) → IsUsed bytes at → ¬ IsEmpty bytes
used_not_empty bytes at u e =
    elim (used-stands bytes (Free (length bytes - 32) ∷ []) at u.segment u.content e u.used) as (λ _. ⊥) [
      | inl s ↦ (let h = s.1 in cc)
      | inr s ↦ s
    ]

-- an anchor's unit of work, and its place in it
pub uow_below : (shape : Shape) (anchor : ℕ) → anchor < anchor_count shape → uow_of shape anchor < shape.uows
uow_below shape anchor a = div_below anchor shape.base shape.uows (base-some anchor shape.uows shape.base a) a

pub anchor_below : (shape : Shape) (anchor : ℕ) → anchor < anchor_count shape → anchor % shape.base < shape.base
anchor_below shape anchor a = let b : 0 < shape.base = base-some anchor shape.uows shape.base a in omega arith

-- a base interval stands before the sequential ones
pub base_before : (shape : Shape) (anchor : ℕ) → anchor < anchor_count shape
    → base_of shape anchor < first_sequential shape
base_before shape anchor a =
    let u : uow_of shape anchor < shape.uows = uow_below shape anchor a in
    let r : anchor % shape.base < shape.base = anchor_below shape anchor a in
    let m : (uow_of shape anchor + 1) * (shape.base + shape.overflow) ≤ shape.uows * (shape.base + shape.overflow) =
    mul-le (uow_of shape anchor + 1) (shape.base + shape.overflow) shape.uows (shape.base + shape.overflow)
    (omega (arith, u)) (omega arith) in
    let e : (uow_of shape anchor + 1) * (shape.base + shape.overflow) ≡ uow_of shape anchor *
    (shape.base + shape.overflow) + (shape.base + shape.overflow) = grind arith in
    omega (arith, m, e, r)

-- two anchors have two base intervals
pub base_injective : (shape : Shape) (anchor other : ℕ) → anchor < anchor_count shape → other < anchor_count shape
    → base_of shape anchor ≡ base_of shape other → anchor ≡ other
base_injective shape anchor other a b e =
    let r : anchor % shape.base < shape.base = anchor_below shape anchor a in
    let s : other % shape.base < shape.base = anchor_below shape other b in
    let p : uow_of shape anchor * (shape.base + shape.overflow) + anchor % shape.base ≡ uow_of shape other *
    (shape.base + shape.overflow) + other % shape.base = omega (arith, e) in
    let q : (uow_of shape anchor ≡ uow_of shape other) × (anchor % shape.base ≡ other % shape.base) =
    same_from_place (uow_of shape anchor) (anchor % shape.base) (uow_of shape other) (other % shape.base)
    (shape.base + shape.overflow) (omega (arith, r)) (omega (arith, s)) p in
    let z : 0 < shape.base = base-some anchor shape.uows shape.base a in
    omega (arith, q.0, q.1, ap (λ k. shape.base * k) q.0)

kind_two : (shape : Shape) (ci : ℕ) → 0 < ci → ci < first_sequential shape
    → (ci - 1) % (shape.base + shape.overflow) < shape.base → kind_at shape ci ≡ 2
kind_two shape ci z l m = grind arith

-- a base interval has the kind 2
pub base_kind : (shape : Shape) (anchor : ℕ) → anchor < anchor_count shape → kind_at shape (base_of shape anchor) ≡ 2
base_kind shape anchor a =
    let l : base_of shape anchor < first_sequential shape = base_before shape anchor a in
    let r : anchor % shape.base < shape.base = anchor_below shape anchor a in
    let m : (uow_of shape anchor * (shape.base + shape.overflow) + anchor % shape.base) % (shape.base + shape.overflow)
    ≡ anchor % shape.base = mod-mul-add (uow_of shape anchor) (shape.base + shape.overflow) (anchor % shape.base)
    (omega (arith, r)) in
    let d : base_of shape anchor - 1 ≡ uow_of shape anchor * (shape.base + shape.overflow) + anchor % shape.base =
    omega arith in
    let n : (base_of shape anchor - 1) % (shape.base + shape.overflow) ≡ anchor % shape.base =
    ap (λ k. k % (shape.base + shape.overflow)) d ∙ m in
    kind_two shape (base_of shape anchor) (omega arith) l (omega (arith, n, r))

-- ---- an interval changes that is neither control nor in the free chain

pub record ChangesOne (shape : Shape) (old new : List (List ℕ)) (ci : ℕ) : Type 0 where
  pub no_control : ci ≢ 0
  pub not_free : ¬ IsOwned shape old 0 ci
  pub is_interval : IsInterval (bytes_at new ci)
  pub kind : kind_of (bytes_at new ci) ≡ kind_of (bytes_at old ci)
  pub link : link_of (bytes_at new ci) ≡ link_of (bytes_at old ci)
  pub owner : owner_of (bytes_at new ci) ≡ owner_of (bytes_at old ci)
  pub elsewhere : (other : ℕ) → other ≢ ci → bytes_at new other ≡ bytes_at old other
  pub same_number : length new ≡ length old

-- what holds of each interval that stays, and of this one, holds of all
each_or : (old new : List (List ℕ)) (ci : ℕ) (f : List ℕ → ℕ) → f (bytes_at new ci) ≡ f (bytes_at old ci)
    → ((other : ℕ) → other ≢ ci → bytes_at new other ≡ bytes_at old other)
    → (k : ℕ) → f (bytes_at new k) ≡ f (bytes_at old k)
each_or old new ci f e g k = elim (same_or_other k ci) as (λ _. f (bytes_at new k) ≡ f (bytes_at old k)) [
  | inl h ↦ ap (λ i. f (bytes_at new i)) h ∙ e ∙ ap (λ i. f (bytes_at old i)) (sym h)
  | inr h ↦ ap f (g k h)
]

pub one_keeps_order : (shape : Shape) (old new : List (List ℕ)) (ci : ℕ) → IsInOrder shape old
    → ChangesOne shape old new ci → IsInOrder shape new
one_keeps_order shape old new ci o c =
    let ez : bytes_at new 0 ≡ bytes_at old 0 = c.elsewhere 0 (λ e. c.no_control (sym e)) in
    let kind = each_or old new ci kind_of c.kind c.elsewhere in
    let link = each_or old new ci link_of c.link c.elsewhere in
    let owner = each_or old new ci owner_of c.owner c.elsewhere in
    let f : (w k : ℕ) → IsOwned shape old w k → IsOwned shape new w k = λ w k x. record {
      from = x.from;
      below =
          omega (arith, x.below, c.same_number);
      owned = owner k ∙ x.owned;
    } in
    let g : (w k : ℕ) → IsOwned shape new w k → IsOwned shape old w k = λ w k x. record {
      from = x.from;
      below =
          omega (arith, x.below, c.same_number);
      owned = sym (owner k) ∙ x.owned;
    } in
    let moved : (w first now : ℕ) → now ≡ first → HasList shape old w first → HasList shape new w now =
    λ w first now e h.
    record {
      list = h.list;
      is_list = rw (← e) at (list-stays shape old new w first h.list (f w) (g w) (λ k _. link k)
          h.is_list);
    } in
    record {
      whole = c.same_number ∙ o.whole ∙ ap (λ x. first_independent shape + x) (sym (counted-same old new ez));
      in_place = λ k l.
          let p : IsInPlace shape old k = o.in_place k (omega (arith, l, c.same_number)) in
          record {
            is_interval = elim (same_or_other k ci) as (λ _. IsInterval (bytes_at new k)) [
              | inl e ↦ (let P : ℕ → Type 0 = λ d. IsInterval (bytes_at new d) in subst P (sym e) c.is_interval)
              | inr e ↦ rw (← c.elsewhere k e) at p.is_interval
            ];
            is_kind = kind k ∙ p.is_kind;
          };
      listed = record {
        of_uow = λ u l. moved (u + 1) (link_of (bytes_at old (first_base shape u)))
            (link_of (bytes_at new (first_base shape u))) (link (first_base shape u)) (o.listed.of_uow u l);
        of_free = moved 0 (first_free old) (first_free new) (first_free-same old new ez) o.listed.of_free;
        owners = λ k l m.
            (let x : owner_of (bytes_at old k) ≤ shape.uows = o.listed.owners k l (omega (arith, m, c.same_number)) in
            rw (← owner k) at x);
        empty = λ k w.
            let x : IsOwned shape old 0 k = g 0 k w in
            let e : IsEmpty (bytes_at old k) = o.listed.empty k x in
            let a : k ≢ ci = λ y. c.not_free (let P : ℕ → Type 0 = λ d. IsOwned shape old 0 d in subst P y x) in
            rw (← c.elsewhere k a) at e;
      };
    }

-- ---- a segment is put

-- what a put segment changes is in an interval with elements that isn't in the free chain
put_changes : (shape : Shape) (types : List SegDef) (old new : List (List ℕ)) (type : ℕ) (at : Pointer) (s : Segment)
    → IsInOrder shape old → IsUsed (bytes_at old at.0) at.1 → PutsSegment types old new type at s
    → ChangesOne shape old new at.0
put_changes shape types old new type at s o u p = record {
  no_control = λ e. used_kind (bytes_at old at.0) at.1 1 refl u
      (ap (λ k. kind_of (bytes_at old k)) e ∙ control-first shape old o);
  not_free = λ w. used_not_empty (bytes_at old at.0) at.1 u (o.listed.empty at.0 w);
  is_interval = record { elements = _; tiles = p.stands.used.tiles };
  kind = p.head 0 (omega arith) (omega arith);
  link = keeps-link (bytes_at old at.0) (bytes_at new at.0) p.head;
  owner = keeps-owner (bytes_at old at.0) (bytes_at new at.0) p.head;
  elsewhere = p.elsewhere;
  same_number = p.same_number;
}

pub put_keeps_order : (shape : Shape) (types : List SegDef) (old new : List (List ℕ)) (type : ℕ) (at : Pointer)
    (s : Segment) → IsInOrder shape old → IsUsed (bytes_at old at.0) at.1 → PutsSegment types old new type at s
    → IsInOrder shape new
put_keeps_order shape types old new type at s o u p =
    one_keeps_order shape old new at.0 o (put_changes shape types old new type at s o u p)

-- every other used element stays
pub put_keeps_used : (types : List SegDef) (old new : List (List ℕ)) (type : ℕ) (at : Pointer) (s : Segment)
    → PutsSegment types old new type at s
    → (p : Pointer) (t : ℕ) (content : List ℕ) → p ≢ at → HasUsed (bytes_at old p.0) p.1 t content
    → HasUsed (bytes_at new p.0) p.1 t content
put_keeps_used types old new type at s g p t content n h =
    elim (same_or_other p.0 at.0) as (λ _. HasUsed (bytes_at new p.0) p.1 t content) [
      | inl e ↦
          (let a : p.1 ≢ at.1 = λ f. n (same_pointer p at e f) in
          let P : ℕ → Type 0 = λ k. HasUsed (bytes_at old k) p.1 t content in
          let Q : ℕ → Type 0 = λ k. HasUsed (bytes_at new k) p.1 t content in
          subst Q (sym e) (g.others.here.stay p.1 t content a (subst P e h)))
      | inr e ↦ (g.others.elsewhere p.0 e).stay p.1 t content h
    ]

-- and none comes
pub put_adds_no_used : (types : List SegDef) (old new : List (List ℕ)) (type : ℕ) (at : Pointer) (s : Segment)
    → PutsSegment types old new type at s
    → (p : Pointer) (t : ℕ) (content : List ℕ) → p ≢ at → HasUsed (bytes_at new p.0) p.1 t content
    → HasUsed (bytes_at old p.0) p.1 t content
put_adds_no_used types old new type at s g p t content n h =
    elim (same_or_other p.0 at.0) as (λ _. HasUsed (bytes_at old p.0) p.1 t content) [
      | inl e ↦
          (let a : p.1 ≢ at.1 = λ f. n (same_pointer p at e f) in
          let P : ℕ → Type 0 = λ k. HasUsed (bytes_at old k) p.1 t content in
          let Q : ℕ → Type 0 = λ k. HasUsed (bytes_at new k) p.1 t content in
          subst P (sym e) (g.others.here.none_comes p.1 t content a (subst Q e h)))
      | inr e ↦ (g.others.elsewhere p.0 e).none_comes p.1 t content h
    ]

-- so do its room and that of the element that is put
pub put_keeps_room : (types : List SegDef) (old new : List (List ℕ)) (type : ℕ) (at : Pointer) (s : Segment)
    → PutsSegment types old new type at s
    → (p : Pointer) (n : ℕ) → p ≢ at → HasRoom (bytes_at old p.0) p.1 n → HasRoom (bytes_at new p.0) p.1 n
put_keeps_room types old new type at s g p n a r = record {
  segment = r.segment;
  content = r.content;
  used =
      put_keeps_used types old new type at s g p r.segment r.content a r.used;
  fits = r.fits;
}

pub put_has_room : (types : List SegDef) (old new : List (List ℕ)) (type : ℕ) (at : Pointer) (s : Segment)
    → PutsSegment types old new type at s → HasRoom (bytes_at new at.0) at.1 (content_length types type)
put_has_room types old new type at s g = record {
  segment = type;
  content = g.stands.content;
  used =
      g.stands.used;
  fits = g.stands.fits;
}

-- a segment stays where its element does
pub segment_stays : (types : List SegDef) (old new : List (List ℕ)) (type : ℕ) (p : Pointer) (q : Segment)
    → ((content : List ℕ) → HasUsed (bytes_at old p.0) p.1 type content → HasUsed (bytes_at new p.0) p.1 type content)
    → HasSegment types old type p q → HasSegment types new type p q
segment_stays types old new type p q f h = record {
  content = h.content;
  used = f h.content h.used;
  fits =
      h.fits;
  zeros = h.zeros;
  says = h.says;
}

-- every other segment stays, and none comes
pub put_keeps_segment : (types : List SegDef) (old new : List (List ℕ)) (type : ℕ) (at : Pointer) (s : Segment)
    → PutsSegment types old new type at s
    → (t : ℕ) (p : Pointer) (q : Segment) → p ≢ at → HasSegment types old t p q → HasSegment types new t p q
put_keeps_segment types old new type at s g t p q n h =
    segment_stays types old new t p q (λ content. put_keeps_used types old new type at s g p t content n) h

pub put_adds_no_segment : (types : List SegDef) (old new : List (List ℕ)) (type : ℕ) (at : Pointer) (s : Segment)
    → PutsSegment types old new type at s
    → (t : ℕ) (p : Pointer) (q : Segment) → p ≢ at → HasSegment types new t p q → HasSegment types old t p q
put_adds_no_segment types old new type at s g t p q n h =
    segment_stays types new old t p q (λ content. put_adds_no_used types old new type at s g p t content n) h

-- the heads stay, and with them the root anchor points
pub put_keeps_head : (types : List SegDef) (old new : List (List ℕ)) (type : ℕ) (at : Pointer) (s : Segment)
    → PutsSegment types old new type at s → (ci : ℕ) → head_of (bytes_at new ci) ≡ head_of (bytes_at old ci)
put_keeps_head types old new type at s g ci = elim (same_or_other ci at.0) as
    (λ _. head_of (bytes_at new ci) ≡ head_of (bytes_at old ci)) [
      | inl e ↦ ap (λ k. head_of (bytes_at new k)) e ∙ keeps-head (bytes_at old at.0) (bytes_at new at.0) g.head ∙ ap
          (λ k. head_of (bytes_at old k)) (sym e)
      | inr e ↦ ap head_of (g.elsewhere ci e)
    ]

pub put_keeps_roots : (shape : Shape) (types : List SegDef) (old new : List (List ℕ)) (type : ℕ) (at : Pointer)
    (s : Segment) → PutsSegment types old new type at s → (anchor : ℕ)
    → root_of shape new anchor ≡ root_of shape old anchor
put_keeps_roots shape types old new type at s g anchor =
    ap (λ (h : Head). h.root) (put_keeps_head types old new type at s g (base_of shape anchor))

-- each interval stays one, of its kind, and keeps its place
pub put_keeps_kinds : (types : List SegDef) (old new : List (List ℕ)) (type : ℕ) (at : Pointer) (s : Segment)
    → PutsSegment types old new type at s → KeepsKinds old new
put_keeps_kinds types old new type at s g ci i = (
  elim (same_or_other ci at.0) as (λ _. IsInterval (bytes_at new ci)) [
    | inl e ↦ (let P : ℕ → Type 0 = λ k. IsInterval (bytes_at new k) in
        subst P (sym e) (record { elements = _; tiles = g.stands.used.tiles }))
    | inr e ↦ rw (← g.elsewhere ci e) at i
  ],
  ap (λ (h : Head). h.kind) (put_keeps_head types old new type at s g ci),
)

pub put_keeps_place : (shape : Shape) (types : List SegDef) (old new : List (List ℕ)) (type : ℕ) (at : Pointer)
    (s : Segment) → PutsSegment types old new type at s → (ci : ℕ) → IsInPlace shape old ci → IsInPlace shape new ci
put_keeps_place shape types old new type at s g ci p =
    let k = put_keeps_kinds types old new type at s g ci p.is_interval in
    record { is_interval = k.0; is_kind = k.1 ∙ p.is_kind }

pub put_keeps_sequential : (shape : Shape) (types : List SegDef) (old new : List (List ℕ)) (type : ℕ) (at : Pointer)
    (s : Segment) → IsInOrder shape old → IsUsed (bytes_at old at.0) at.1 → PutsSegment types old new type at s
    → KeepsSequential shape old new
put_keeps_sequential shape types old new type at s o u g =
    let below : at.0 < length old = within_area old at.0 (used_interval (bytes_at old at.0) at.1 u) in
    record {
      ends = ends-same (bytes_at old 0) (bytes_at new 0)
          (g.elsewhere 0 (λ e. (put_changes shape types old new type at s o u g).no_control (sym e)));
      intervals = λ ci k. g.elsewhere ci (λ e. used_kind (bytes_at old at.0) at.1 4 refl u
          ((o.in_place at.0 below).is_kind ∙ ap (kind_at shape) (sym e) ∙ k));
    }

-- ---- a root anchor point is put

root_changes : (shape : Shape) (old new : List (List ℕ)) (anchor : ℕ) (at : Pointer) → anchor < anchor_count shape
    → PutsRoot shape old new anchor at → ChangesOne shape old new (base_of shape anchor)
unfolding link_of owner_of
root_changes shape old new anchor at a p = record {
  no_control = λ e. omega (arith, e);
  not_free = λ w. omega (arith, base_before shape anchor a, w.from);
  is_interval = p.is_interval;
  kind = ap (λ (h : Head). h.kind) p.head;
  link = ap (λ (h : Head). h.link) p.head;
  owner = ap (λ (h : Head). h.owner) p.head;
  elsewhere = p.elsewhere;
  same_number = p.same_number;
}

pub root_keeps_order : (shape : Shape) (old new : List (List ℕ)) (anchor : ℕ) (at : Pointer) → IsInOrder shape old
    → PutsRoot shape old new anchor at → anchor < anchor_count shape → IsInOrder shape new
root_keeps_order shape old new anchor at o p a = one_keeps_order shape old new (base_of shape anchor) o
    (root_changes shape old new anchor at a p)

-- every used element stays, and none comes
pub root_keeps_used : (shape : Shape) (old new : List (List ℕ)) (anchor : ℕ) (at : Pointer)
    → PutsRoot shape old new anchor at → (ci : ℕ) → KeepsUsed (bytes_at old ci) (bytes_at new ci)
root_keeps_used shape old new anchor at p ci = elim (same_or_other ci (base_of shape anchor)) as
    (λ _. KeepsUsed (bytes_at old ci) (bytes_at new ci)) [
      | inl e ↦ (let P : ℕ → Type 0 = λ k. KeepsUsed (bytes_at old k) (bytes_at new k) in subst P (sym e) p.used)
      | inr e ↦ record {
        stay = λ place segment content u. rw (← p.elsewhere ci e) at u;
        none_comes = λ place segment content u. rw (p.elsewhere ci e) at u;
      }
    ]

pub root_keeps_room : (shape : Shape) (old new : List (List ℕ)) (anchor : ℕ) (at : Pointer)
    → PutsRoot shape old new anchor at
    → (p : Pointer) (n : ℕ) → HasRoom (bytes_at old p.0) p.1 n → HasRoom (bytes_at new p.0) p.1 n
root_keeps_room shape old new anchor at g p n r = record {
  segment = r.segment;
  content = r.content;
  used =
      (root_keeps_used shape old new anchor at g p.0).stay p.1 r.segment r.content r.used;
  fits = r.fits;
}

pub root_keeps_segment : (shape : Shape) (types : List SegDef) (old new : List (List ℕ)) (anchor : ℕ) (at : Pointer)
    → PutsRoot shape old new anchor at
    → (t : ℕ) (p : Pointer) (q : Segment) → HasSegment types old t p q → HasSegment types new t p q
root_keeps_segment shape types old new anchor at g t p q h =
    segment_stays types old new t p q (λ content. (root_keeps_used shape old new anchor at g p.0).stay p.1 t content) h

pub root_adds_no_segment : (shape : Shape) (types : List SegDef) (old new : List (List ℕ)) (anchor : ℕ) (at : Pointer)
    → PutsRoot shape old new anchor at
    → (t : ℕ) (p : Pointer) (q : Segment) → HasSegment types new t p q → HasSegment types old t p q
root_adds_no_segment shape types old new anchor at g t p q h =
    segment_stays types new old t p q (λ content. (root_keeps_used shape old new anchor at g p.0).none_comes p.1 t
    content) h

-- the root anchor point of this anchor is the new one, those of all others stay
pub root_is_put : (shape : Shape) (old new : List (List ℕ)) (anchor : ℕ) (at : Pointer)
    → PutsRoot shape old new anchor at → root_of shape new anchor ≡ at
root_is_put shape old new anchor at p = ap (λ (h : Head). h.root) p.head

pub root_keeps_roots : (shape : Shape) (old new : List (List ℕ)) (anchor : ℕ) (at : Pointer)
    → PutsRoot shape old new anchor at → anchor < anchor_count shape
    → (other : ℕ) → other < anchor_count shape → other ≢ anchor → root_of shape new other ≡ root_of shape old other
root_keeps_roots shape old new anchor at p a other b n =
    ap (λ (xs : List ℕ). (head_of xs).root) (p.elsewhere (base_of shape other)
    (λ e. n (base_injective shape other anchor b a e)))

-- each interval keeps its place
pub root_keeps_place : (shape : Shape) (old new : List (List ℕ)) (anchor : ℕ) (at : Pointer)
    → PutsRoot shape old new anchor at → (ci : ℕ) → IsInPlace shape old ci → IsInPlace shape new ci
root_keeps_place shape old new anchor at g ci p = elim (same_or_other ci (base_of shape anchor)) as
    (λ _. IsInPlace shape new ci) [
      | inl e ↦
          (let P : ℕ → Type 0 = λ k. IsInPlace shape new k in
          let k : kind_of (bytes_at old (base_of shape anchor)) ≡ kind_at shape (base_of shape anchor) =
          ap (λ i. kind_of (bytes_at old i)) (sym e) ∙ p.is_kind ∙ ap (kind_at shape) e in
          subst P (sym e) (record { is_interval = g.is_interval; is_kind = ap (λ (h : Head). h.kind) g.head ∙ k }))
      | inr e ↦ record {
        is_interval = rw (← g.elsewhere ci e) at p.is_interval;
        is_kind =
            ap kind_of (g.elsewhere ci e) ∙ p.is_kind;
      }
    ]

pub root_keeps_sequential : (shape : Shape) (old new : List (List ℕ)) (anchor : ℕ) (at : Pointer)
    → PutsRoot shape old new anchor at → anchor < anchor_count shape → KeepsSequential shape old new
root_keeps_sequential shape old new anchor at p a = record {
  ends = ends-same (bytes_at old 0) (bytes_at new 0) (p.elsewhere 0 (λ e. omega (arith, e)));
  intervals = λ ci k. p.elsewhere ci (λ e. omega (arith, base_kind shape anchor a, ap (kind_at shape) (sym e), k));
}
