-- An anchor's pointers give one list of roots, in one list of elements; and where they give one, they don't fail.
use Rattle.std.proofs.Common.{◌≡◌, ◌≢◌, ◌⊎◌, inl, inr, ℕ, List, [], ◌∷◌, ◌++◌, refl, sym, ap, subst, ◌∙◌, arith}
use Rattle.std.specs.List.{Contains}
use Rattle.ci_space.specs.declared.intervals.Shape.{Shape}
use Rattle.ci_space.specs.Element.{Used}
use Rattle.ci_space.specs.Interval.{IsInterval, HasUsed}
use Rattle.ci_space.specs.Walk.{length_of}
use Rattle.ci_space.proofs.Contents.{used-content}
use Rattle.ci_overflow.specs.Lists.{bytes_at}
use Rattle.fp_model.specs.declared.definitions.SegDef.{SegDef}
use Rattle.fp_model.specs.declared.database.Node.{Node, roll-Node}
use Rattle.fp_model.specs.declared.database.Root.{Root}
use Rattle.fp_model.specs.Order.{child_types}
use Rattle.anchor_elements.specs.Elements.{Pointer, nothing, Segment, segment_in, HasSegment}
use Rattle.root_anchor.specs.Chains.{AreRows, no_row, row_end, segment, newest, AreRoots, no_root, root, IsChain}
use Rattle.plain_laws.proofs.Alls.{contains_cases, contains_nothing}

-- ---- segments

pub one_content : (bytes : List ℕ) (at type other : ℕ) (content more : List ℕ) → HasUsed bytes at type content
    → HasUsed bytes at other more → content ≡ more
one_content bytes at type other content more u v =
    sym (used-content bytes at (length_of bytes at) type content refl u) ∙ used-content bytes at (length_of bytes at)
    other more refl v

-- an element says one thing
pub one_segment : {types : List SegDef} {area : List (List ℕ)} {type : ℕ} {at : Pointer} {s t : Segment}
    → HasSegment types area type at s → HasSegment types area type at t → s ≡ t
one_segment {types} {area} {type} {at} h k =
    h.says ∙ ap (segment_in types type) (one_content (bytes_at area at.0) at.1 type type h.content k.content h.used
    k.used) ∙ sym k.says

-- none stands at the pointer to nothing
pub none_at_nothing : {types : List SegDef} {area : List (List ℕ)} {type : ℕ} {at : Pointer} {s : Segment}
    → HasSegment types area type at s → at ≢ nothing
none_at_nothing h e = absurd (omega (arith, h.used.place, ap (λ p. p.1) e))

-- it stands in an interval
pub stands_in_interval : {types : List SegDef} {area : List (List ℕ)} {type : ℕ} {at : Pointer} {s : Segment}
    → HasSegment types area type at s → IsInterval (bytes_at area at.0)
stands_in_interval {type = type} h = record {
  elements = h.used.before ++ Used type h.content ∷ h.used.after;
  tiles =
      h.used.tiles;
}

-- ---- what rows begin with

record Ends (types : List SegDef) (area : List (List ℕ)) (met : List Pointer) (more : List ℕ) (at : Pointer)
    (firsts : List Pointer) (rows : List (List Node)) (after : List Pointer) : Type 0 where
  is_nothing : at ≡ nothing
  rest : List (List Node)
  next : AreRows types area met more firsts rest after
  same : rows ≡ [] ∷ rest

record Meets (types : List SegDef) (area : List (List ℕ)) (met : List Pointer) (type : ℕ) (more : List ℕ) (at : Pointer)
    (firsts : List Pointer) (rows : List (List Node)) (after : List Pointer) : Type 0 where
  s : Segment
  down : List (List Node)
  between : List Pointer
  row : List Node
  rest : List (List Node)
  has : HasSegment types area type at s
  fresh : ¬ Contains met at
  lower : AreRows types area (at ∷ met) (child_types types type) s.firsts down between
  next : AreRows types area between (type ∷ more) (s.next ∷ firsts) (row ∷ rest) after
  same : rows ≡ (roll-Node (record { bytes = s.bytes; children = down }) ∷ row) ∷ rest

abbrev Begin : List SegDef → List (List ℕ) → List Pointer → List ℕ → List Pointer → List (List Node) → List Pointer
    → Type 0
Begin types area met [] firsts rows after = (rows ≡ []) × (after ≡ met)
Begin types area met (type ∷ more) [] rows after = ⊥
Begin types area met (type ∷ more) (at ∷ firsts) rows after = Ends types area met more at firsts rows after
    ⊎ Meets types area met type more at firsts rows after

begins : {types : List SegDef} {area : List (List ℕ)} {met : List Pointer} {row_types : List ℕ} {firsts : List Pointer}
    {rows : List (List Node)} {after : List Pointer}
    → AreRows types area met row_types firsts rows after → Begin types area met row_types firsts rows after
begins no_row = (refl, refl)
begins (row_end {rows = rows} next) = inl (record { is_nothing = refl; rest = rows; next = next; same = refl })
begins (segment s {below = down} {between = between} {row = row} {rows = rows} has fresh lower next) =
    inr (record {
      s = s;
      down = down;
      between = between;
      row = row;
      rest = rows;
      has = has;
      fresh = fresh;
      lower =
          lower;
      next = next;
      same = refl;
    })

-- ---- one list of rows

step : (s t : Segment) (down other_down : List (List Node)) (row other_row : List Node)
    (rows other_rows : List (List Node)) (others : List (List Node))
    → t ≡ s → down ≡ other_down → row ∷ rows ≡ other_row ∷ other_rows
    → others ≡ (roll-Node (record { bytes = t.bytes; children = other_down }) ∷ other_row) ∷ other_rows
    → (roll-Node (record { bytes = s.bytes; children = down }) ∷ row) ∷ rows ≡ others
step s t down other_down row other_row rows other_rows others says same rest e =
    let first : roll-Node (record { bytes = s.bytes; children = down }) ≡ roll-Node (record {
      bytes =
          t.bytes;
      children = other_down;
    }) =
    ap (λ (x : Segment). roll-Node (record { bytes = x.bytes; children = down })) (sym says) ∙ ap
    (λ (x : List (List Node)). roll-Node (record { bytes = t.bytes; children = x })) same in
    cc

pub one_rows : {types : List SegDef} {area : List (List ℕ)} {met : List Pointer} {row_types : List ℕ}
    {firsts : List Pointer} {rows : List (List Node)} {after : List Pointer}
    → AreRows types area met row_types firsts rows after → (others : List (List Node)) (last : List Pointer)
    → AreRows types area met row_types firsts others last → (rows ≡ others) × (after ≡ last)
one_rows no_row others last r = let b = begins r in (sym b.0, sym b.1)
one_rows (row_end {rows = rows} {after = after} next) others last r =
    elim (begins r) as (λ _. ([] ∷ rows ≡ others) × (after ≡ last)) [
      | inl e ↦ (let same = one_rows next e.rest last e.next in (ap (λ l. [] ∷ l) same.0 ∙ sym e.same, same.1))
      | inr m ↦ absurd (none_at_nothing m.has refl)
    ]
one_rows {types} {area} (segment {met = met} {type = type} {more = more} {at = at} {firsts = firsts} s {below = down}
    {between = between} {row = row} {rows = rows} {after = after} has fresh lower next) others last r =
    elim (begins r) as (λ _. ((roll-Node (record { bytes = s.bytes; children = down }) ∷ row) ∷ rows ≡ others)
    × (after ≡ last)) [
      | inl e ↦ absurd (none_at_nothing has e.is_nothing)
      | inr m ↦
          (let says : m.s ≡ s = one_segment m.has has in
          let there : AreRows types area (at ∷ met) (child_types types type) s.firsts m.down m.between =
          subst (λ t. AreRows types area (at ∷ met) (child_types types type) t.firsts m.down m.between) says m.lower
          in
          let first = one_rows lower m.down m.between there in
          let then_ : AreRows types area m.between (type ∷ more) (s.next ∷ firsts) (m.row ∷ m.rest) last =
          subst (λ t. AreRows types area m.between (type ∷ more) (t.next ∷ firsts) (m.row ∷ m.rest) last) says
          m.next in
          let from : AreRows types area between (type ∷ more) (s.next ∷ firsts) (m.row ∷ m.rest) last =
          subst (λ l. AreRows types area l (type ∷ more) (s.next ∷ firsts) (m.row ∷ m.rest) last) (sym first.1)
          then_ in
          let second = one_rows next (m.row ∷ m.rest) last from in
          (step s m.s down m.down row m.row rows m.rest others says first.0 second.0 m.same, second.1))
    ]

-- ---- what roots begin with

record EndsRoots (met : List Pointer) (at : Pointer) (roots : List Root) (after : List Pointer) : Type 0 where
  is_nothing : at ≡ nothing
  none : roots ≡ []
  same : after ≡ met

record MeetsRoot (types : List SegDef) (area : List (List ℕ)) (met : List Pointer) (at : Pointer) (roots : List Root)
    (after : List Pointer) : Type 0 where
  s : Segment
  down : List (List Node)
  between : List Pointer
  rest : List Root
  has : HasSegment types area 0 at s
  fresh : ¬ Contains met at
  lower : AreRows types area (at ∷ met) (child_types types 0) s.firsts down between
  next : AreRoots types area between s.next rest after
  same : roots ≡ (record { bytes = s.bytes; children = down; seqs = newest s.serial }) ∷ rest

roots_begin : {types : List SegDef} {area : List (List ℕ)} {met : List Pointer} {at : Pointer} {roots : List Root}
    {after : List Pointer}
    → AreRoots types area met at roots after → EndsRoots met at roots after ⊎ MeetsRoot types area met at roots after
roots_begin no_root = inl (record { is_nothing = refl; none = refl; same = refl })
roots_begin (root s {below = down} {between = between} {roots = roots} has fresh lower next) =
    inr (record {
      s = s;
      down = down;
      between = between;
      rest = roots;
      has = has;
      fresh = fresh;
      lower = lower;
      next =
          next;
      same = refl;
    })

-- ---- one list of roots

step_root : (s t : Segment) (down other_down : List (List Node)) (roots other_roots others : List Root)
    → t ≡ s → down ≡ other_down → roots ≡ other_roots
    → others ≡ (record { bytes = t.bytes; children = other_down; seqs = newest t.serial }) ∷ other_roots
    → (record { bytes = s.bytes; children = down; seqs = newest s.serial }) ∷ roots ≡ others
step_root s t down other_down roots other_roots others says same rest e =
    ap (λ (x : Segment). (record { bytes = x.bytes; children = down; seqs = newest x.serial }) ∷ roots) (sym says)
    ∙ ap (λ (x : List (List Node)). (record { bytes = t.bytes; children = x; seqs = newest t.serial }) ∷ roots) same
    ∙ ap (λ (x : List Root). (record { bytes = t.bytes; children = other_down; seqs = newest t.serial }) ∷ x) rest
    ∙ sym e

pub one_roots : {types : List SegDef} {area : List (List ℕ)} {met : List Pointer} {at : Pointer} {roots : List Root}
    {after : List Pointer}
    → AreRoots types area met at roots after → (others : List Root) (last : List Pointer)
    → AreRoots types area met at others last → (roots ≡ others) × (after ≡ last)
one_roots {after = after} no_root others last r = elim (roots_begin r) as (λ _. ([] ≡ others) × (after ≡ last)) [
  | inl e ↦ (sym e.none, sym e.same)
  | inr m ↦ absurd (none_at_nothing m.has refl)
]
one_roots {types} {area} (root {met = met} {at = at} s {below = down} {between = between} {roots = roots}
    {after = after} has fresh lower next) others last r =
    elim (roots_begin r) as (λ _. ((record { bytes = s.bytes; children = down; seqs = newest s.serial }) ∷ roots ≡
    others) × (after ≡ last)) [
      | inl e ↦ absurd (none_at_nothing has e.is_nothing)
      | inr m ↦
          (let says : m.s ≡ s = one_segment m.has has in
          let there : AreRows types area (at ∷ met) (child_types types 0) s.firsts m.down m.between =
          subst (λ t. AreRows types area (at ∷ met) (child_types types 0) t.firsts m.down m.between) says m.lower in
          let first = one_rows lower m.down m.between there in
          let from : AreRoots types area between s.next m.rest last =
          subst (λ l. AreRoots types area l s.next m.rest last) (sym first.1)
          (subst (λ t. AreRoots types area m.between t.next m.rest last) says m.next) in
          let second = one_roots next m.rest last from in
          (step_root s m.s down m.down roots m.rest others says first.0 second.0 m.same, second.1))
    ]

pub one_chain : {shape : Shape} {types : List SegDef} {area : List (List ℕ)} {anchor : ℕ} {roots others : List Root}
    {elements more : List Pointer}
    → IsChain shape types area anchor roots elements → IsChain shape types area anchor others more → (roots ≡ others)
    × (elements ≡ more)
one_chain {others = others} {more = more} a b = one_roots a.are_roots others more b.are_roots

-- ---- each element has a segment

pub record HasSome (types : List SegDef) (area : List (List ℕ)) (at : Pointer) : Type 0 where
  pub type : ℕ
  pub segment : Segment
  pub has : HasSegment types area type at segment

pub rows_have : {types : List SegDef} {area : List (List ℕ)} {met : List Pointer} {row_types : List ℕ}
    {firsts : List Pointer} {rows : List (List Node)} {after : List Pointer}
    → AreRows types area met row_types firsts rows after → (p : Pointer) → Contains after p → Contains met p
    ⊎ HasSome types area p
rows_have no_row p h = inl h
rows_have (row_end next) p h = rows_have next p h
rows_have {types} {area} (segment {met = met} {type = type} {at = at} s has fresh lower next) p h =
    elim (rows_have next p h) as (λ _. Contains met p ⊎ HasSome types area p) [
      | inl b ↦ elim (rows_have lower p b) as (λ _. Contains met p ⊎ HasSome types area p) [
        | inl m ↦ elim (contains_cases at met p m) as (λ _. Contains met p ⊎ HasSome types area p) [
          | inl e ↦ inr (subst (λ q. HasSome types area q) e (record { type = type; segment = s; has = has }))
          | inr old ↦ inl old
        ]
        | inr some ↦ inr some
      ]
      | inr some ↦ inr some
    ]

pub roots_have : {types : List SegDef} {area : List (List ℕ)} {met : List Pointer} {at : Pointer} {roots : List Root}
    {after : List Pointer}
    → AreRoots types area met at roots after → (p : Pointer) → Contains after p → Contains met p ⊎ HasSome types area p
roots_have no_root p h = inl h
roots_have {types} {area} (root {met = met} {at = at} s has fresh lower next) p h =
    elim (roots_have next p h) as (λ _. Contains met p ⊎ HasSome types area p) [
      | inl b ↦ elim (rows_have lower p b) as (λ _. Contains met p ⊎ HasSome types area p) [
        | inl m ↦ elim (contains_cases at met p m) as (λ _. Contains met p ⊎ HasSome types area p) [
          | inl e ↦ inr (subst (λ q. HasSome types area q) e (record { type = 0; segment = s; has = has }))
          | inr old ↦ inl old
        ]
        | inr some ↦ inr some
      ]
      | inr some ↦ inr some
    ]

pub chain_has : {shape : Shape} {types : List SegDef} {area : List (List ℕ)} {anchor : ℕ} {roots : List Root}
    {elements : List Pointer}
    → IsChain shape types area anchor roots elements → (p : Pointer) → Contains elements p → HasSome types area p
chain_has {types = types} {area = area} c p h = elim (roots_have c.are_roots p h) as (λ _. HasSome types area p)
    [ inl none ↦ absurd (contains_nothing p none) | inr some ↦ some ]
