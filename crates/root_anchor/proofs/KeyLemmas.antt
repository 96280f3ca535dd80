-- The types and keys of an anchor's segments are those of the elements in which they stand, in hierarchical order.
use Rattle.std.proofs.Common.{◌≡◌, ℕ, List, [], ◌∷◌, ◌++◌, reverse, Contains, Result, Ok, Err, OnOk, refl, sym, ap, ◌∙◌, subst, append_assoc}
use Rattle.std.specs.List.{AllByRecursion}
use Rattle.std.proofs.lemmas.List.{append-nil, map-append, reverse-append, reverse-reverse}
use Rattle.ci_space.specs.declared.intervals.Shape.{Shape}
use Rattle.ci_space.proofs.Contents.{used-type}
use Rattle.ci_overflow.specs.Lists.{bytes_at}
use Rattle.fp_model.specs.declared.definitions.SegDef.{SegDef}
use Rattle.fp_model.specs.declared.database.Node.{Node, roll-Node}
use Rattle.fp_model.specs.declared.database.Node.TheFolds.{fold-roll-Node}
use Rattle.fp_model.specs.declared.database.Node.TheOpen.{Node-F}
use Rattle.fp_model.specs.declared.database.Root.{Root}
use Rattle.fp_model.specs.Order.{child_types, key_in}
use Rattle.anchor_elements.specs.Elements.{Pointer, Segment, HasSegment}
use Rattle.root_anchor.specs.Chains.{AreRows, no_row, row_end, segment, AreRoots, no_root, root, IsChain}
use Rattle.root_anchor.specs.Keeping.{KeepsElements, keys_below, keys_of_rows, keys_of_roots, keys_of_segment, keys_step}
use Rattle.root_anchor.specs.inside.Keeping.{kept, keys_of_row, marks_of}
use Rattle.root_anchor.specs.inside.Rebuilding.{ArePlaced, met_after, reserved}
use Rattle.root_anchor.specs.inside.Standing.{places_of, Stands, AreKeyed}
use Rattle.root_anchor.specs.declared.standing.Standing.{Standing}
use Rattle.root_anchor.proofs.Apart.{met-append}
use Rattle.root_anchor.proofs.OneChain.{one_segment}
use Rattle.plain_laws.proofs.Alls.{contains_first, contains_later}

-- a segment of its type stands in it, and its key is there
pub record HasKey (types : List SegDef) (area : List (List ℕ)) (s : Standing) : Type 0 where
  pub segment : Segment
  pub has : HasSegment types area s.segment s.at segment
  pub is_key : s.key ≡ key_in types s.segment segment.bytes

abbrev pub HaveKeys : List SegDef → List (List ℕ) → List Standing → Type 0
HaveKeys types area list = AllByRecursion (λ s. HasKey types area s) list

keys_each : (types : List SegDef) (area : List (List ℕ)) (list : List Standing)
    → ((s : Standing) → Contains list s → HasKey types area s) → HaveKeys types area list
keys_each types area [] f = tt
keys_each types area (x ∷ list) f =
    (f x (contains_first x list), keys_each types area list (λ s c. f s (contains_later x list s c)))

pub have-keys : (types : List SegDef) (area : List (List ℕ)) (list : List Standing)
    → ((s : Standing) → Contains list s → Stands types area s) → AreKeyed types area list → HaveKeys types area list
have-keys types area list stand keyed = keys_each types area list (λ s c. record {
  segment = (stand s c).segment;
  has = (stand s c).has;
  is_key = keyed s (stand s c).segment c (stand s c).has;
})

-- ---- one element

one_type : {types : List SegDef} {area : List (List ℕ)} {type other : ℕ} {at : Pointer} {s t : Segment}
    → HasSegment types area type at s → HasSegment types area other at t → type ≡ other
one_type {area = area} {type} {other} {at} h k = sym (used-type (bytes_at area at.0) at.1 type h.content h.used)
    ∙ used-type (bytes_at area at.0) at.1 other k.content k.used

mark_is : (types : List SegDef) (area : List (List ℕ)) (type : ℕ) (at : Pointer) (s : Segment) (x : Standing)
    → HasSegment types area type at s → x.at ≡ at → HasKey types area x
    → (let p : ℕ × List ℕ = (x.segment, x.key) in p) ≡ (type, key_in types type s.bytes)
mark_is types area type at s x has e k =
    let P : Pointer → Type 0 = λ q. HasSegment types area x.segment q k.segment in
    let here : HasSegment types area x.segment at k.segment = subst P e k.has in
    let t : x.segment ≡ type = one_type here has in
    let Q : ℕ → Type 0 = λ n. HasSegment types area n at k.segment in
    let same : k.segment ≡ s = one_segment (subst Q t here) has in
    ap (λ (key : List ℕ). (let p : ℕ × List ℕ = (x.segment, key) in p)) k.is_key
    ∙ ap (λ (n : ℕ). (let p : ℕ × List ℕ = (n, key_in types n k.segment.bytes) in p)) t
    ∙ ap (λ (u : Segment). (let p : ℕ × List ℕ = (type, key_in types type u.bytes) in p)) same

-- ---- lists of elements

record IsCutAt (types : List SegDef) (area : List (List ℕ)) (list : List Standing) (first second : List Pointer) : Type 0
  where
    front : List Standing
    back : List Standing
    parts : list ≡ front ++ back
    are_front : places_of front ≡ first
    are_back : places_of back ≡ second
    front_keys : HaveKeys types area front
    back_keys : HaveKeys types area back

cut_at : (types : List SegDef) (area : List (List ℕ)) (list : List Standing) (first second : List Pointer)
    → places_of list ≡ first ++ second → HaveKeys types area list → IsCutAt types area list first second
cut_at types area list [] second e a = record {
  front = [];
  back = list;
  parts = refl;
  are_front = refl;
  are_back = e;
  front_keys = tt;
  back_keys = a;
}
cut_at types area [] (p ∷ first) second e a = absurd (cc)
cut_at types area (x ∷ list) (p ∷ first) second e a =
    let d : places_of list ≡ first ++ second = cc in
    let h : x.at ≡ p = cc in
    let s : IsCutAt types area list first second = cut_at types area list first second d a.1 in
    record {
      front = x ∷ s.front;
      back = s.back;
      parts = ap (λ l. x ∷ l) s.parts;
      are_front = rw (h, s.are_front) refl;
      are_back = s.are_back;
      front_keys = (a.0, s.front_keys);
      back_keys = s.back_keys;
    }

no_marks : (list : List Standing) → places_of list ≡ [] → marks_of list ≡ []
no_marks [] e = refl
no_marks (x ∷ list) e = absurd (cc)

-- a segment in front of those below it, and these in front of the others
both_marks : (types : List SegDef) (area : List (List ℕ)) (type : ℕ) (at : Pointer) (s : Segment)
    (first second : List Pointer) (below others : List (ℕ × List ℕ)) → HasSegment types area type at s
    → ((l : List Standing) → places_of l ≡ first → HaveKeys types area l → marks_of l ≡ below)
    → ((l : List Standing) → places_of l ≡ second → HaveKeys types area l → marks_of l ≡ others)
    → (list : List Standing) → places_of list ≡ at ∷ (first ++ second) → HaveKeys types area list
    → marks_of list ≡ (type, key_in types type s.bytes) ∷ (below ++ others)
both_marks types area type at s first second below others has f g [] e a = absurd (cc)
both_marks types area type at s first second below others has f g (x ∷ list) e a =
    let d : places_of list ≡ first ++ second = cc in
    let h : x.at ≡ at = cc in
    let c : IsCutAt types area list first second = cut_at types area list first second d a.1 in
    let m : (let p : ℕ × List ℕ = (x.segment, x.key) in p) ≡ (type, key_in types type s.bytes) =
    mark_is types area type at s x has h a.0 in
    let rest : marks_of list ≡ below ++ others =
    ap marks_of c.parts ∙ map-append (λ (z : Standing). (let p : ℕ × List ℕ = (z.segment, z.key) in p)) c.front c.back
    ∙ ap (λ ms. ms ++ marks_of c.back) (f c.front c.are_front c.front_keys)
    ∙ ap (λ ms. below ++ ms) (g c.back c.are_back c.back_keys) in
    ap (λ (p : ℕ × List ℕ). p ∷ marks_of list) m ∙ ap (λ ms. (type, key_in types type s.bytes) ∷ ms) rest

-- ---- rows and roots

record RowsOrder (types : List SegDef) (area : List (List ℕ)) (met : List Pointer) (kinds : List ℕ)
    (rows : List (List Node)) (after : List Pointer) : Type 0 where
  elements : List Pointer
  same : after ≡ met_after elements met
  keys : (list : List Standing) → places_of list ≡ elements → HaveKeys types area list
      → marks_of list ≡ keys_of_rows types kinds rows

one_more : (types : List SegDef) (type : ℕ) (bytes : List ℕ) (down : List (List Node)) (row : List Node)
    (more : List (ℕ × List ℕ))
    → (type, key_in types type bytes) ∷ (keys_of_rows types (child_types types type) down ++ (keys_of_row types type row
    ++ more)) ≡ keys_of_row types type (roll-Node (record { bytes = bytes; children = down }) ∷ row) ++ more
one_more types type bytes down row more =
    let f : Node-F Node = record { bytes = bytes; children = down } in
    let e : keys_below types (roll-Node f) type ≡ keys_of_segment types type bytes down =
    ap (λ (s : ℕ → List (ℕ × List ℕ)). s type) (fold-roll-Node (ℕ → List (ℕ × List ℕ)) (keys_step types) f) in
    sym (append_assoc (keys_of_segment types type bytes down) (keys_of_row types type row) more)
    ∙ ap (λ ms. (ms ++ keys_of_row types type row) ++ more) (sym e)

rows_order : {types : List SegDef} {area : List (List ℕ)} {met : List Pointer} {kinds : List ℕ} {firsts : List Pointer}
    {rows : List (List Node)} {after : List Pointer} → AreRows types area met kinds firsts rows after
    → RowsOrder types area met kinds rows after
rows_order no_row = record { elements = []; same = refl; keys = λ list e a. no_marks list e }
rows_order (row_end next) =
    let t = rows_order next in
    record { elements = t.elements; same = t.same; keys = t.keys }
rows_order {types} {area} (segment {met = met} {type = type} {more = more} {at = at} s {below = down} {row = row}
    {rows = rows} has fresh below next) =
    let h = rows_order below in
    let t = rows_order next in
    record {
      elements = at ∷ (h.elements ++ t.elements);
      same = t.same ∙ ap (λ m. met_after t.elements m) h.same
          ∙ sym (met-append h.elements t.elements (at ∷ met));
      keys = λ list e a. both_marks types area type at s h.elements t.elements
          (keys_of_rows types (child_types types type) down) (keys_of_rows types (type ∷ more) (row ∷ rows)) has h.keys
          t.keys list e a ∙ one_more types type s.bytes down row (keys_of_rows types more rows);
    }

record RootsOrder (types : List SegDef) (area : List (List ℕ)) (met : List Pointer) (roots : List Root)
    (after : List Pointer) : Type 0 where
  elements : List Pointer
  same : after ≡ met_after elements met
  keys : (list : List Standing) → places_of list ≡ elements → HaveKeys types area list
      → marks_of list ≡ keys_of_roots types roots

roots_order : {types : List SegDef} {area : List (List ℕ)} {met : List Pointer} {first : Pointer} {roots : List Root}
    {after : List Pointer} → AreRoots types area met first roots after → RootsOrder types area met roots after
roots_order no_root = record { elements = []; same = refl; keys = λ list e a. no_marks list e }
roots_order {types} {area} (root {met = met} {at = at} s {below = down} {roots = roots} has fresh below next) =
    let h = rows_order below in
    let t = roots_order next in
    record {
      elements = at ∷ (h.elements ++ t.elements);
      same = t.same ∙ ap (λ m. met_after t.elements m) h.same
          ∙ sym (met-append h.elements t.elements (at ∷ met));
      keys = λ list e a. both_marks types area 0 at s h.elements t.elements
          (keys_of_rows types (child_types types 0) down) (keys_of_roots types roots) has h.keys t.keys list e a;
    }

pub met-reverse : (xs ys : List Pointer) → met_after xs ys ≡ reverse xs ++ ys
met-reverse [] ys = refl
met-reverse (x ∷ xs) ys =
    met-reverse xs (x ∷ ys) ∙ sym (append_assoc (reverse xs) (x ∷ []) ys)
    ∙ ap (λ l. l ++ ys) (sym (reverse-append (x ∷ []) xs))

-- the keys of the elements in hierarchical order are those of the roots
pub chain-keys : (shape : Shape) (types : List SegDef) (area : List (List ℕ)) (anchor : ℕ) (roots : List Root)
    (list : List Standing) → IsChain shape types area anchor roots (reverse (places_of list)) → HaveKeys types area list
    → marks_of list ≡ keys_of_roots types roots
chain-keys shape types area anchor roots list chain a =
    let o = roots_order chain.are_roots in
    let turned : reverse (places_of list) ≡ reverse o.elements =
    o.same ∙ met-reverse o.elements [] ∙ append-nil (reverse o.elements) in
    let same : places_of list ≡ o.elements =
    sym (reverse-reverse (places_of list)) ∙ ap reverse turned ∙ reverse-reverse o.elements in
    o.keys list same a

-- ---- a plan in which each segment has the element that it had

pub kept-placed : (list : List Standing) → ArePlaced (kept list)
kept-placed [] = tt
kept-placed (s ∷ list) = (record { place = s.at; is_place = refl }, kept-placed list)

pub kept-reserved : (list : List Standing) → reserved (kept list) ≡ places_of list
kept-reserved [] = refl
kept-reserved (s ∷ list) = ap (λ xs. s.at ∷ xs) (kept-reserved list)

pub keeps-on-ok : {X E : Type 0} (r : Result X E) (shape : Shape) (types : List SegDef) (old new : List (List ℕ))
    (anchor : ℕ) (roots : List Root)
    → ((before : List Root) (elements : List Pointer) → IsChain shape types old anchor before elements
    → keys_of_roots types before ≡ keys_of_roots types roots → OnOk r (IsChain shape types new anchor roots elements))
    → OnOk r (KeepsElements shape types old new anchor roots)
keeps-on-ok (Ok x) shape types old new anchor roots f = record { keep = f }
keeps-on-ok (Err e) shape types old new anchor roots f = tt
