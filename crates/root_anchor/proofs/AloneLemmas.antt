-- One element of an anchor that says another segment, or another newest serial.
use Rattle.std.proofs.Common.{◌≡◌, ◌≢◌, ◌⊎◌, inl, inr, ℕ, ◌<◌, List, [], ◌∷◌, Contains, refl, sym, subst, ap, ◌∙◌}
use Rattle.ci_space.specs.declared.intervals.Shape.{Shape}
use Rattle.ci_space.specs.Interval.{IsUsed}
use Rattle.ci_overflow.specs.Lists.{bytes_at, IsInOrder}
use Rattle.ci_overflow.specs.Places.{base_of}
use Rattle.fp_model.specs.declared.definitions.SegDef.{SegDef}
use Rattle.fp_model.specs.declared.database.Node.{Node, out-Node, out-roll-Node, roll-Node}
use Rattle.fp_model.specs.declared.database.Node.TheOpen.{Node-F}
use Rattle.fp_model.specs.declared.database.Node.TheViews.{roll-out-Node}
use Rattle.fp_model.specs.declared.database.Root.{Root}
use Rattle.fp_model.specs.declared.database.SeqItem.{SeqItem}
use Rattle.fp_model.specs.Order.{child_types}
use Rattle.anchor_elements.specs.Elements.{Pointer, nothing, Segment, HasSegment}
use Rattle.anchor_elements.specs.Puts.{PutsSegment}
use Rattle.anchor_elements.proofs.Pointers.{pointer_or}
use Rattle.root_anchor.specs.Chains.{AreRows, no_row, row_end, segment, AreRoots, no_root, root, newest, root_of, IsChain, anchor_count}
use Rattle.root_anchor.specs.Formed.{HasRoots, Meets, IsFormed}
use Rattle.root_changes.specs.Differing.{HaveSameOwn}
use Rattle.root_anchor.specs.Differing.{RowsDifferIn, this_segment, below_segment, behind_twin, behind_row, RootsDifferIn, this_root, below_root, behind_root, ChangesAlone}
use Rattle.root_anchor.specs.Stored.{OthersKeep, ApartKeep, KeepsSequential}
use Rattle.root_anchor.proofs.Framing.{Stay, rows_keep, rows_stay, roots_keep, roots_stay}
use Rattle.root_anchor.proofs.OneChain.{one_segment, one_chain}
use Rattle.root_anchor.proofs.PutLemmas.{put_keeps_segment, put_keeps_place, put_keeps_roots, put_keeps_order, put_adds_no_used, put_keeps_sequential}
use Rattle.plain_laws.proofs.Alls.{contains_first, contains_later}
use Rattle.plain_laws.proofs.Numbers.{same_or_other}

pub rolled_bytes : (bytes : List ℕ) (below : List (List Node))
    → (out-Node (roll-Node (record { bytes = bytes; children = below }))).bytes ≡ bytes
rolled_bytes bytes below =
    let f : Node-F Node = record { bytes = bytes; children = below } in
    ap (λ (g : Node-F Node). g.bytes) (out-roll-Node f)

pub rolled_below : (bytes : List ℕ) (below : List (List Node))
    → (out-Node (roll-Node (record { bytes = bytes; children = below }))).children ≡ below
rolled_below bytes below =
    let f : Node-F Node = record { bytes = bytes; children = below } in
    ap (λ (g : Node-F Node). g.children) (out-roll-Node f)

-- ---- where rows differ

record This (at : Pointer) (x : Node) (type : ℕ) (row : List Node) (rows others : List (List Node)) (s : Segment)
    (of_type : ℕ) (place : Pointer) (says : Segment) : Type 0 where
  y : Node
  below : (out-Node x).children ≡ (out-Node y).children
  same : others ≡ (y ∷ row) ∷ rows
  is_type : of_type ≡ type
  is_place : place ≡ at
  is_said : says ≡ record s { bytes = (out-Node y).bytes }

record Below (types : List SegDef) (area : List (List ℕ)) (type : ℕ) (x : Node) (row : List Node)
    (rows others : List (List Node)) (s : Segment) (of_type : ℕ) (place : Pointer) (says : Segment) : Type 0 where
  y : Node
  bytes : (out-Node x).bytes ≡ (out-Node y).bytes
  differ : RowsDifferIn types area (child_types types type) s.firsts (out-Node x).children (out-Node y).children of_type
      place says
  same : others ≡ (y ∷ row) ∷ rows

record Behind (types : List SegDef) (area : List (List ℕ)) (type : ℕ) (more : List ℕ) (firsts : List Pointer) (x : Node)
    (row : List Node) (rows others : List (List Node)) (s : Segment) (of_type : ℕ) (place : Pointer) (says : Segment) :
    Type 0 where
  other : List Node
  rest : List (List Node)
  differ : RowsDifferIn types area (type ∷ more) (s.next ∷ firsts) (row ∷ rows) (other ∷ rest) of_type place says
  same : others ≡ (x ∷ other) ∷ rest

record InNext (types : List SegDef) (area : List (List ℕ)) (more : List ℕ) (firsts : List Pointer) (row : List Node)
    (rows others : List (List Node)) (of_type : ℕ) (place : Pointer) (says : Segment) : Type 0 where
  rest : List (List Node)
  differ : RowsDifferIn types area more firsts rows rest of_type place says
  same : others ≡ row ∷ rest

abbrev Differ : List SegDef → List (List ℕ) → List ℕ → List Pointer → List (List Node) → List (List Node) → ℕ → Pointer
    → Segment → Type 0
Differ types area [] firsts rows others of_type place says = ⊥
Differ types area (type ∷ more) [] rows others of_type place says = ⊥
Differ types area (type ∷ more) (at ∷ firsts) [] others of_type place says = ⊥
Differ types area (type ∷ more) (at ∷ firsts) ([] ∷ rows) others of_type place says =
    InNext types area more firsts [] rows others of_type place says
Differ types area (type ∷ more) (at ∷ firsts) ((x ∷ row) ∷ rows) others of_type place says =
    (s : Segment) → HasSegment types area type at s → This at x type row rows others s of_type place says
    ⊎ (Below types area type x row rows others s of_type place says
    ⊎ Behind types area type more firsts x row rows others s of_type place says)

differ_so : {types : List SegDef} {area : List (List ℕ)} {kinds : List ℕ} {firsts : List Pointer}
    {rows others : List (List Node)} {of_type : ℕ} {place : Pointer} {says : Segment}
    → RowsDifferIn types area kinds firsts rows others of_type place says
    → Differ types area kinds firsts rows others of_type place says
differ_so (this_segment {y = y} s has below) = λ t there. inl (record {
  y = y;
  below = below;
  same = refl;
  is_type = refl;
  is_place = refl;
  is_said = ap (λ (u : Segment). record u { bytes = (out-Node y).bytes }) (one_segment has there);
})
differ_so {types} {area} (below_segment {type = type} {x = x} {y = y} {of_type = of_type} {place = place} {says = says}
    s has bytes differ) = λ t there. inr (inl (record {
      y = y;
      bytes = bytes;
      differ = subst (λ (u : Segment). RowsDifferIn types area (child_types types type) u.firsts (out-Node x).children
          (out-Node y).children of_type place says) (one_segment has there) differ;
      same = refl;
    }))
differ_so {types} {area} (behind_twin {type = type} {more = more} {firsts = firsts} {row = row} {other = other}
    {rows = rows} {others = others} {of_type = of_type} {place = place} {says = says} s has differ) =
    λ t there. inr (inr (record {
      other = other;
      rest = others;
      differ = subst (λ (u : Segment). RowsDifferIn types area (type ∷ more) (u.next ∷ firsts) (row ∷ rows)
          (other ∷ others) of_type place says) (one_segment has there) differ;
      same = refl;
    }))
differ_so (behind_row {row = []} {others = others} differ) = record { rest = others; differ = differ; same = refl }
differ_so (behind_row {row = x ∷ row} {others = others} differ) = λ t there. inr (inr (record {
  other = row;
  rest = others;
  differ = behind_row differ;
  same = refl;
}))

-- ---- and where roots do

record ThisRoot (at : Pointer) (x : Root) (roots others : List Root) (s : Segment) (of_type : ℕ) (place : Pointer)
    (says : Segment) : Type 0 where
  y : Root
  serial : ℕ
  below : x.children ≡ y.children
  is_newest : newest serial ≡ y.seqs
  same : others ≡ y ∷ roots
  is_type : of_type ≡ 0
  is_place : place ≡ at
  is_said : says ≡ record s { serial = serial; bytes = y.bytes }

record BelowRoot (types : List SegDef) (area : List (List ℕ)) (x : Root) (roots others : List Root) (s : Segment)
    (of_type : ℕ) (place : Pointer) (says : Segment) : Type 0 where
  y : Root
  own : HaveSameOwn x y
  differ : RowsDifferIn types area (child_types types 0) s.firsts x.children y.children of_type place says
  same : others ≡ y ∷ roots

record BehindRoot (types : List SegDef) (area : List (List ℕ)) (x : Root) (roots others : List Root) (s : Segment)
    (of_type : ℕ) (place : Pointer) (says : Segment) : Type 0 where
  rest : List Root
  differ : RootsDifferIn types area s.next roots rest of_type place says
  same : others ≡ x ∷ rest

abbrev DifferRoots : List SegDef → List (List ℕ) → Pointer → List Root → List Root → ℕ → Pointer → Segment → Type 0
DifferRoots types area at [] others of_type place says = ⊥
DifferRoots types area at (x ∷ roots) others of_type place says =
    (s : Segment) → HasSegment types area 0 at s → ThisRoot at x roots others s of_type place says
    ⊎ (BelowRoot types area x roots others s of_type place says
    ⊎ BehindRoot types area x roots others s of_type place says)

roots_differ_so : {types : List SegDef} {area : List (List ℕ)} {at : Pointer} {roots others : List Root} {of_type : ℕ}
    {place : Pointer} {says : Segment} → RootsDifferIn types area at roots others of_type place says
    → DifferRoots types area at roots others of_type place says
roots_differ_so (this_root {y = y} {serial = serial} s has below is_newest) = λ t there. inl (record {
  y = y;
  serial = serial;
  below = below;
  is_newest = is_newest;
  same = refl;
  is_type = refl;
  is_place = refl;
  is_said = ap (λ (u : Segment). record u { serial = serial; bytes = y.bytes }) (one_segment has there);
})
roots_differ_so {types} {area} (below_root {x = x} {y = y} {of_type = of_type} {place = place} {says = says} s has own
    differ) = λ t there. inr (inl (record {
      y = y;
      own = own;
      differ = subst (λ (u : Segment). RowsDifferIn types area (child_types types 0) u.firsts x.children y.children
          of_type place says) (one_segment has there) differ;
      same = refl;
    }))
roots_differ_so {types} {area} (behind_root {roots = roots} {others = others} {of_type = of_type} {place = place}
    {says = says} s has differ) = λ t there. inr (inr (record {
      rest = others;
      differ = subst (λ (u : Segment). RootsDifferIn types area u.next roots others of_type place says)
          (one_segment has there) differ;
      same = refl;
    }))

-- ---- the element is one of those behind what was met

fresh_rows : {types : List SegDef} {area : List (List ℕ)} {met : List Pointer} {kinds : List ℕ} {firsts : List Pointer}
    {rows : List (List Node)} {after : List Pointer} → AreRows types area met kinds firsts rows after
    → (others : List (List Node)) (of_type : ℕ) (place : Pointer) (says : Segment)
    → RowsDifferIn types area kinds firsts rows others of_type place says → ¬ Contains met place
fresh_rows no_row others of_type place says d c = differ_so d
fresh_rows (row_end next) others of_type place says d c =
    let r = differ_so d in fresh_rows next r.rest of_type place says r.differ c
fresh_rows {types} {area} (segment {met = met} {type = type} {at = at} s {below = down} has fresh lower next) others
    of_type place says d c =
    elim (differ_so d s has) as (λ _. ⊥) [
      | inl t ↦ fresh (subst (λ p. Contains met p) t.is_place c)
      | inr o ↦ elim o as (λ _. ⊥) [
        | inl b ↦ fresh_rows lower (out-Node b.y).children of_type place says
            (subst (λ r. RowsDifferIn types area (child_types types type) s.firsts r (out-Node b.y).children of_type
            place says) (rolled_below s.bytes down) b.differ) (contains_later at met place c)
        | inr b ↦ fresh_rows next (b.other ∷ b.rest) of_type place says b.differ
            (rows_keep lower place (contains_later at met place c))
      ]
    ]

met_rows : {types : List SegDef} {area : List (List ℕ)} {met : List Pointer} {kinds : List ℕ} {firsts : List Pointer}
    {rows : List (List Node)} {after : List Pointer} → AreRows types area met kinds firsts rows after
    → (others : List (List Node)) (of_type : ℕ) (place : Pointer) (says : Segment)
    → RowsDifferIn types area kinds firsts rows others of_type place says → Contains after place
met_rows no_row others of_type place says d = absurd (differ_so d)
met_rows (row_end next) others of_type place says d =
    let r = differ_so d in met_rows next r.rest of_type place says r.differ
met_rows {types} {area} (segment {met = met} {type = type} {at = at} s {below = down} {after = after} has fresh lower
    next) others of_type place says d = elim (differ_so d s has) as (λ _. Contains after place) [
      | inl t ↦ subst (λ p. Contains after p) (sym t.is_place)
          (rows_keep next at (rows_keep lower at (contains_first at met)))
      | inr o ↦ elim o as (λ _. Contains after place) [
        | inl b ↦ rows_keep next place (met_rows lower (out-Node b.y).children of_type place says
            (subst (λ r. RowsDifferIn types area (child_types types type) s.firsts r (out-Node b.y).children of_type
            place says) (rolled_below s.bytes down) b.differ))
        | inr b ↦ met_rows next (b.other ∷ b.rest) of_type place says b.differ
      ]
    ]

fresh_roots : {types : List SegDef} {area : List (List ℕ)} {met : List Pointer} {at : Pointer} {roots : List Root}
    {after : List Pointer} → AreRoots types area met at roots after
    → (others : List Root) (of_type : ℕ) (place : Pointer) (says : Segment)
    → RootsDifferIn types area at roots others of_type place says → ¬ Contains met place
fresh_roots no_root others of_type place says d c = roots_differ_so d
fresh_roots {types} {area} (root {met = met} {at = at} s has fresh lower next) others of_type place says d c =
    elim (roots_differ_so d s has) as (λ _. ⊥) [
      | inl t ↦ fresh (subst (λ p. Contains met p) t.is_place c)
      | inr o ↦ elim o as (λ _. ⊥) [
        | inl b ↦ fresh_rows lower b.y.children of_type place says b.differ (contains_later at met place c)
        | inr b ↦ fresh_roots next b.rest of_type place says b.differ
            (rows_keep lower place (contains_later at met place c))
      ]
    ]

pub met_roots : {types : List SegDef} {area : List (List ℕ)} {met : List Pointer} {at : Pointer} {roots : List Root}
    {after : List Pointer} → AreRoots types area met at roots after
    → (others : List Root) (of_type : ℕ) (place : Pointer) (says : Segment)
    → RootsDifferIn types area at roots others of_type place says → Contains after place
met_roots no_root others of_type place says d = absurd (roots_differ_so d)
met_roots {types} {area} (root {met = met} {at = at} s {after = after} has fresh lower next) others of_type place says d
    = elim (roots_differ_so d s has) as (λ _. Contains after place) [
      | inl t ↦ subst (λ p. Contains after p) (sym t.is_place)
          (roots_keep next at (rows_keep lower at (contains_first at met)))
      | inr o ↦ elim o as (λ _. Contains after place) [
        | inl b ↦ roots_keep next place (met_rows lower b.y.children of_type place says b.differ)
        | inr b ↦ met_roots next b.rest of_type place says b.differ
      ]
    ]

pub made_root : (y : Root) (bytes : List ℕ) (below : List (List Node)) (seqs : List SeqItem) → bytes ≡ y.bytes
    → below ≡ y.children → seqs ≡ y.seqs → (record { bytes = bytes; children = below; seqs = seqs }) ≡ y
made_root y bytes below seqs b c s =
    let P : List ℕ → Root = λ u. record { bytes = u; children = below; seqs = seqs } in
    let Q : List (List Node) → Root = λ u. record { bytes = y.bytes; children = u; seqs = seqs } in
    let R : List SeqItem → Root = λ u. record { bytes = y.bytes; children = y.children; seqs = u } in
    ap P b ∙ ap Q c ∙ ap R s

-- ---- the rows and roots with what the element says now

module _ (types : List SegDef) (old new : List (List ℕ)) (of_type : ℕ) (place : Pointer) (says : Segment)
    (p : PutsSegment types old new of_type place says) where
  keeps : (q : Pointer) (type : ℕ) (x : Segment) → q ≢ place → HasSegment types old type q x
      → HasSegment types new type q x
  keeps q type x d h = put_keeps_segment types old new of_type place says p type q x d h

  -- what was met behind others stays where these have the element, or none has it
  stay_behind : (met after : List Pointer) → Contains met place → Stay types old new met after
  stay_behind met after c = record {
    each = λ q h apart type x k. keeps q type x (λ e. apart (subst (λ r. Contains met r) (sym e) c)) k;
  }

  stay_before : (met after : List Pointer) → ¬ Contains after place → Stay types old new met after
  stay_before met after n = record {
    each = λ q h apart type x k. keeps q type x (λ e. n (subst (λ r. Contains after r) e h)) k;
  }

  rows_put : {met : List Pointer} {kinds : List ℕ} {firsts : List Pointer} {rows : List (List Node)}
      {after : List Pointer} → AreRows types old met kinds firsts rows after → (others : List (List Node))
      → RowsDifferIn types old kinds firsts rows others of_type place says → AreRows types new met kinds firsts others
      after
  rows_put no_row others d = absurd (differ_so d)
  rows_put (row_end {met = met} {type = type} {more = more} {firsts = firsts} {after = after} next) others d =
      let r = differ_so d in
      subst (λ l. AreRows types new met (type ∷ more) (nothing ∷ firsts) l after) (sym r.same)
      (row_end (rows_put next r.rest r.differ))
  rows_put (segment {met = met} {type = type} {more = more} {at = at} {firsts = firsts} s {below = down}
      {between = between} {row = row} {rows = rows} {after = after} has fresh lower next) others d =
      elim (differ_so d s has) as (λ _. AreRows types new met (type ∷ more) (at ∷ firsts) others after) [
        | inl t ↦
            (let says_it : HasSegment types new type at (record s { bytes = (out-Node t.y).bytes }) =
            subst (λ (u : Segment). HasSegment types new type at u) t.is_said
            (subst (λ q. HasSegment types new type q says) t.is_place
            (subst (λ k. HasSegment types new k place says) t.is_type p.stands)) in
            let node : roll-Node (record { bytes = (out-Node t.y).bytes; children = down }) ≡ t.y =
            ap (λ c. roll-Node (record { bytes = (out-Node t.y).bytes; children = c }))
            (sym (rolled_below s.bytes down) ∙ t.below) ∙ roll-out-Node t.y in
            let here : Contains (at ∷ met) place = subst (λ q. Contains (at ∷ met) q) (sym t.is_place)
            (contains_first at met) in
            let built = segment (record s { bytes = (out-Node t.y).bytes }) says_it fresh
            (rows_stay lower (stay_behind (at ∷ met) between here))
            (rows_stay next (stay_behind between after (rows_keep lower place here))) in
            subst (λ l. AreRows types new met (type ∷ more) (at ∷ firsts) l after) (sym t.same)
            (subst (λ n. AreRows types new met (type ∷ more) (at ∷ firsts) ((n ∷ row) ∷ rows) after) node built))
        | inr o ↦ elim o as (λ _. AreRows types new met (type ∷ more) (at ∷ firsts) others after) [
          | inl b ↦
              (let inner : RowsDifferIn types old (child_types types type) s.firsts down (out-Node b.y).children of_type
              place says = subst (λ r. RowsDifferIn types old (child_types types type) s.firsts r
              (out-Node b.y).children of_type place says) (rolled_below s.bytes down) b.differ in
              let low = fresh_rows lower (out-Node b.y).children of_type place says inner in
              let there = met_rows lower (out-Node b.y).children of_type place says inner in
              let node : roll-Node (record { bytes = s.bytes; children = (out-Node b.y).children }) ≡ b.y =
              ap (λ c. roll-Node (record { bytes = c; children = (out-Node b.y).children }))
              (sym (rolled_bytes s.bytes down) ∙ b.bytes) ∙ roll-out-Node b.y in
              let built = segment s
              (keeps at type s (λ e. low (subst (λ q. Contains (at ∷ met) q) e (contains_first at met))) has) fresh
              (rows_put lower (out-Node b.y).children inner)
              (rows_stay next (stay_behind between after there)) in
              subst (λ l. AreRows types new met (type ∷ more) (at ∷ firsts) l after) (sym b.same)
              (subst (λ n. AreRows types new met (type ∷ more) (at ∷ firsts) ((n ∷ row) ∷ rows) after) node built))
          | inr b ↦
              (let high = fresh_rows next (b.other ∷ b.rest) of_type place says b.differ in
              let built = segment s
              (keeps at type s
              (λ e. high (subst (λ q. Contains between q) e (rows_keep lower at (contains_first at met)))) has) fresh
              (rows_stay lower (stay_before (at ∷ met) between high))
              (rows_put next (b.other ∷ b.rest) b.differ) in
              subst (λ l. AreRows types new met (type ∷ more) (at ∷ firsts) l after) (sym b.same) built)
        ]
      ]

  pub roots_put : {met : List Pointer} {at : Pointer} {roots : List Root} {after : List Pointer}
      → AreRoots types old met at roots after → (others : List Root)
      → RootsDifferIn types old at roots others of_type place says → AreRoots types new met at others after
  roots_put no_root others d = absurd (roots_differ_so d)
  roots_put (root {met = met} {at = at} s {below = down} {between = between} {roots = roots} {after = after} has fresh
      lower next) others d =
      elim (roots_differ_so d s has) as (λ _. AreRoots types new met at others after) [
        | inl t ↦
            (let says_it : HasSegment types new 0 at (record s { serial = t.serial; bytes = t.y.bytes }) =
            subst (λ (u : Segment). HasSegment types new 0 at u) t.is_said
            (subst (λ q. HasSegment types new 0 q says) t.is_place
            (subst (λ k. HasSegment types new k place says) t.is_type p.stands)) in
            let same : (record { bytes = t.y.bytes; children = down; seqs = newest t.serial }) ≡ t.y =
            made_root t.y t.y.bytes down (newest t.serial) refl t.below t.is_newest in
            let here : Contains (at ∷ met) place = subst (λ q. Contains (at ∷ met) q) (sym t.is_place)
            (contains_first at met) in
            let built = root (record s { serial = t.serial; bytes = t.y.bytes }) says_it fresh
            (rows_stay lower (stay_behind (at ∷ met) between here))
            (roots_stay next (stay_behind between after (rows_keep lower place here))) in
            subst (λ l. AreRoots types new met at l after) (sym t.same)
            (subst (λ n. AreRoots types new met at (n ∷ roots) after) same built))
        | inr o ↦ elim o as (λ _. AreRoots types new met at others after) [
          | inl b ↦
              (let low = fresh_rows lower b.y.children of_type place says b.differ in
              let there = met_rows lower b.y.children of_type place says b.differ in
              let same : (record { bytes = s.bytes; children = b.y.children; seqs = newest s.serial }) ≡ b.y =
              made_root b.y s.bytes b.y.children (newest s.serial) b.own.0 refl b.own.1 in
              let built = root s
              (keeps at 0 s (λ e. low (subst (λ q. Contains (at ∷ met) q) e (contains_first at met))) has) fresh
              (rows_put lower b.y.children b.differ)
              (roots_stay next (stay_behind between after there)) in
              subst (λ l. AreRoots types new met at l after) (sym b.same)
              (subst (λ n. AreRoots types new met at (n ∷ roots) after) same built))
          | inr b ↦
              (let high = fresh_roots next b.rest of_type place says b.differ in
              let built = root s
              (keeps at 0 s
              (λ e. high (subst (λ q. Contains between q) e (rows_keep lower at (contains_first at met)))) has) fresh
              (rows_stay lower (stay_before (at ∷ met) between high))
              (roots_put next b.rest b.differ) in
              subst (λ l. AreRoots types new met at l after) (sym b.same) built)
        ]
      ]

-- ---- an element that changes is one of a segment

rows_differ_have : {types : List SegDef} {area : List (List ℕ)} {kinds : List ℕ} {firsts : List Pointer}
    {rows others : List (List Node)} {of_type : ℕ} {place : Pointer} {says : Segment}
    → RowsDifferIn types area kinds firsts rows others of_type place says
    → (s : Segment) × HasSegment types area of_type place s
rows_differ_have (this_segment s has below) = (s, has)
rows_differ_have (below_segment s has bytes d) = rows_differ_have d
rows_differ_have (behind_twin s has d) = rows_differ_have d
rows_differ_have (behind_row d) = rows_differ_have d

pub roots_differ_have : {types : List SegDef} {area : List (List ℕ)} {at : Pointer} {roots others : List Root}
    {of_type : ℕ} {place : Pointer} {says : Segment} → RootsDifferIn types area at roots others of_type place says
    → (s : Segment) × HasSegment types area of_type place s
roots_differ_have (this_root s has below is_newest) = (s, has)
roots_differ_have (below_root s has own d) = rows_differ_have d
roots_differ_have (behind_root s has d) = roots_differ_have d

-- ---- the area

module _ (shape : Shape) (types : List SegDef) (old new : List (List ℕ)) (anchor : ℕ) (before after : List Root)
    (it : ChangesAlone shape types old new anchor before after) where
  puts : PutsSegment types old new it.type it.place it.says
  puts = it.puts

  used : IsUsed (bytes_at old it.place.0) it.place.1
  used =
      let h = roots_differ_have it.is_there in
      record { segment = it.type; content = h.1.content; used = h.1.used }

  same_root : (other : ℕ) → root_of shape new other ≡ root_of shape old other
  same_root = put_keeps_roots shape types old new it.type it.place it.says puts

  pub alone_sequential : IsInOrder shape old → KeepsSequential shape old new
  alone_sequential o = put_keeps_sequential shape types old new it.type it.place it.says o used puts

  module _ (has : HasRoots shape types old anchor before) where
    place_met : Contains has.elements it.place
    place_met = met_roots has.is_chain.are_roots after it.type it.place it.says it.is_there

    pub alone_chain : IsChain shape types new anchor after has.elements
    alone_chain = record {
      base = put_keeps_place shape types old new it.type it.place it.says puts (base_of shape anchor)
          has.is_chain.base;
      are_roots = subst (λ p. AreRoots types new [] p after has.elements) (sym (same_root anchor))
          (roots_put types old new it.type it.place it.says puts has.is_chain.are_roots after it.is_there);
    }

    -- the anchor has the roots
    pub alone_stored : HasRoots shape types new anchor after
    alone_stored = record { elements = has.elements; is_chain = alone_chain }

    -- an anchor that hasn't this element keeps its roots
    apart_stays : (other : ℕ) (roots : List Root) (elements : List Pointer) → IsChain shape types old other roots elements
        → ¬ Contains elements it.place → IsChain shape types new other roots elements
    apart_stays other roots elements c d =
        let stay : Stay types old new [] elements = record {
          each = λ q h apart type x k. put_keeps_segment types old new it.type it.place it.says puts type q x
              (λ g. d (subst (Contains elements) g h)) k;
        } in
        record {
          base = put_keeps_place shape types old new it.type it.place it.says puts (base_of shape other) c.base;
          are_roots = subst (λ p. AreRoots types new [] p roots elements) (sym (same_root other))
              (roots_stay c.are_roots stay);
        }

    pub alone_apart : ApartKeep shape types old new anchor
    alone_apart = record {
      keep = λ other roots mine elements of_mine b n c m d. apart_stays other roots elements c
          (λ h. d it.place h (subst (λ (xs : List Pointer). Contains xs it.place) (one_chain has.is_chain m).1
          place_met));
    }

    module _ (formed : IsFormed shape types old) (below : anchor < anchor_count shape) where
      meets_place : Meets shape types old anchor it.place
      meets_place = record {
        roots = before;
        elements = has.elements;
        is_chain = has.is_chain;
        met = place_met;
      }

      others_stay : (other : ℕ) (roots : List Root) (elements : List Pointer) → other < anchor_count shape
          → ¬ (other ≡ anchor) → IsChain shape types old other roots elements
          → IsChain shape types new other roots elements
      others_stay other roots elements b n c = apart_stays other roots elements c
          (λ h. n (formed.apart other anchor it.place b below
          (record { roots = roots; elements = elements; is_chain = c; met = h }) meets_place))

      pub alone_others : OthersKeep shape types old new anchor
      alone_others = record { keep = others_stay }

      -- each anchor's chain stands, in the elements that it had
      record StaysAt (other : ℕ) (elements : List Pointer) : Type 0 where
        roots : List Root
        is_chain : IsChain shape types new other roots elements

      stays_at : (other : ℕ) (b : other < anchor_count shape) → StaysAt other (formed.chains other b).elements
      stays_at other b = elim (same_or_other other anchor) as (λ _. StaysAt other (formed.chains other b).elements) [
        | inl e ↦
            let h = formed.chains other b in
            let P : ℕ → Type 0 = λ k. IsChain shape types old k h.roots h.elements in
            let Q : ℕ → Type 0 = λ k. IsChain shape types new k after h.elements in
            let same : has.elements ≡ h.elements = (one_chain has.is_chain (subst P e h.is_chain)).1 in
            record {
              roots = after;
              is_chain = subst Q (sym e)
                  (subst (λ (xs : List Pointer). IsChain shape types new anchor after xs) same alone_chain);
            }
        | inr n ↦ record {
          roots = (formed.chains other b).roots;
          is_chain = others_stay other (formed.chains other b).roots (formed.chains other b).elements b n
              (formed.chains other b).is_chain;
        }
      ]

      met_before : (other : ℕ) (at : Pointer) → other < anchor_count shape → Meets shape types new other at
          → Meets shape types old other at
      met_before other at b m =
          let s = stays_at other b in
          let h = formed.chains other b in
          let P : List Pointer → Type 0 = λ xs. Contains xs at in
          record {
            roots = h.roots;
            elements = h.elements;
            is_chain = h.is_chain;
            met = subst P ((one_chain m.is_chain s.is_chain).1) m.met;
          }

      met_now : (other : ℕ) (at : Pointer) → other < anchor_count shape → Meets shape types old other at
          → Meets shape types new other at
      met_now other at b m =
          let s = stays_at other b in
          let h = formed.chains other b in
          let P : List Pointer → Type 0 = λ xs. Contains xs at in
          record {
            roots = s.roots;
            elements = h.elements;
            is_chain = s.is_chain;
            met = subst P ((one_chain m.is_chain h.is_chain).1) m.met;
          }

      used_before : (at : Pointer) → IsUsed (bytes_at new at.0) at.1 → IsUsed (bytes_at old at.0) at.1
      used_before at u = elim (pointer_or at it.place) as (λ _. IsUsed (bytes_at old at.0) at.1) [
        | inl e ↦
            (let P : Pointer → Type 0 = λ p. IsUsed (bytes_at old p.0) p.1 in subst P (sym e) used)
        | inr n ↦ record {
          segment = u.segment;
          content = u.content;
          used = put_adds_no_used types old new it.type it.place it.says puts at u.segment u.content n u.used;
        }
      ]

      pub alone_formed : IsFormed shape types new
      alone_formed = record {
        in_order = put_keeps_order shape types old new it.type it.place it.says formed.in_order used puts;
        chains = λ other b. (let s = stays_at other b in
            record { roots = s.roots; elements = (formed.chains other b).elements; is_chain = s.is_chain });
        apart = λ a b at x y m n. formed.apart a b at x y (met_before a at x m) (met_before b at y n);
        each_met = λ at w. (let m = formed.each_met at (used_before at w) in
            record { anchor = m.anchor; below = m.below; meets = met_now m.anchor at m.below m.meets });
      }
