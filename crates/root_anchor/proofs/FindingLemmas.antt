-- A segment that is looked for among those of an anchor.
use Rattle.std.proofs.Common.{◌≡◌, true, ℕ, zero, suc, ◌<◌, List, [], ◌∷◌, length, slice_get, get_or, Option, Some, None, IfSome, Result, Ok, Err, IfOk, refl, sym, ap, subst, ◌∙◌, arith}
use Rattle.std.specs.Option.{option_map}
use Rattle.std.proofs.lemmas.Option.{slice_get-map, slice_get_within, get_or_from_slice_get}
use Rattle.std.proofs.lemmas.List.{length-map}
use Rattle.fp_model.specs.declared.definitions.SegDef.{SegDef}
use Rattle.fp_model.specs.WellFormed.{HavePlaces}
use Rattle.anchor_elements.specs.declared.element.First.{First}
use Rattle.anchor_elements.specs.Reading.{types_of, pointers_of}
use Rattle.root_anchor.specs.inside.Rebuilding.{IsDirect}
use Rattle.root_anchor.specs.Stored.{rows_have_form}
use Rattle.root_anchor.specs.inside.Stored.{row_has_form}
use Rattle.root_anchor.proofs.TypeLemmas.{child-behind, child-direct, rows-row}
use Rattle.fp_model.specs.declared.database.Node.{Node, out-Node, roll-Node}
use Rattle.fp_model.specs.declared.database.Root.{Root}
use Rattle.fp_model.specs.Order.{child_types}
use Rattle.anchor_elements.specs.Elements.{Pointer, Segment, HasSegment}
use Rattle.anchor_elements.specs.Wrong.{IsWrong}
use Rattle.root_anchor.specs.Chains.{AreRows, no_row, row_end, segment, AreRoots, no_root, root, newest}
use Rattle.root_changes.specs.Differing.{HaveSameOwn, DifferAt, DifferIn, RowDiffers}
use Rattle.root_anchor.specs.Differing.{RowsDifferIn, this_segment, below_segment, behind_twin, behind_row, RootsDifferIn, this_root, below_root, behind_root}
use Rattle.root_anchor.specs.inside.Finding.{IsTwinAt, this_twin, twin_behind, GiveRows, GivesRow, RowDiffersIn}
use Rattle.root_anchor.specs.inside.Gaps.{IsFirstAt}
use Rattle.root_anchor.proofs.AloneLemmas.{rolled_below}
use Rattle.root_changes.proofs.ComparingLemmas.{shifted, front_same, rest_same, front_first, front_second}
use Rattle.root_anchor.proofs.OneChain.{one_segment}
use Rattle.root_anchor.proofs.Sound.{right}
use Rattle.plain_laws.proofs.Alls.{contains_nothing}

-- ---- twins

pub twin_has : {types : List SegDef} {area : List (List ℕ)} {type k : ℕ} {at place : Pointer} {t : Segment}
    → IsTwinAt types area type at k place t → (s : Segment) × HasSegment types area type at s
twin_has {t = t} (this_twin has) = (t, has)
twin_has (twin_behind s has twin) = (s, has)

pub twin_first : {types : List SegDef} {area : List (List ℕ)} {type : ℕ} {at place : Pointer} {t : Segment}
    → IsTwinAt types area type at 0 place t → (place ≡ at) × HasSegment types area type at t
twin_first (this_twin has) = (refl, has)

pub record IsBehind (types : List SegDef) (area : List (List ℕ)) (type : ℕ) (at : Pointer) (k : ℕ) (place : Pointer)
    (t : Segment) : Type 0 where
  pub s : Segment
  pub has : HasSegment types area type at s
  pub twin : IsTwinAt types area type s.next k place t

pub twin_later : {types : List SegDef} {area : List (List ℕ)} {type : ℕ} {at place : Pointer} {t : Segment} (k : ℕ)
    → IsTwinAt types area type at (suc k) place t → IsBehind types area type at k place t
twin_later k (twin_behind s has twin) = record { s = s; has = has; twin = twin }

pub one_twin : {types : List SegDef} {area : List (List ℕ)} {type : ℕ} {p q : Pointer} {s t : Segment} (k : ℕ)
    (at : Pointer) → IsTwinAt types area type at k p s → IsTwinAt types area type at k q t → s ≡ t
one_twin zero at a b = one_segment (twin_first a).1 (twin_first b).1
one_twin {types} {area} {type} {q = q} {t = t} (suc k) at a b =
    let x = twin_later k a in
    let y = twin_later k b in
    let e : y.s ≡ x.s = one_segment y.has x.has in
    one_twin k x.s.next x.twin (subst (λ (u : Segment). IsTwinAt types area type u.next k q t) e y.twin)

pub last_has : {types : List SegDef} {area : List (List ℕ)} {type k : ℕ} {at place : Pointer} {t : Segment}
    → IsTwinAt types area type at k place t → HasSegment types area type place t
last_has (this_twin has) = has
last_has (twin_behind s has twin) = last_has twin

-- where there is a twin, its pointer isn't wrong
pub twin_right : (types : List SegDef) (area now : List (List ℕ)) (type k from ci : ℕ) (at place : Pointer)
    (t : Segment) → now ≡ area → IsTwinAt types area type at k place t → IsWrong types now [] from type at ci → ⊥
twin_right types area now type k from ci at place t e twin wrong =
    let s = twin_has twin in
    right s.0 s.1 (contains_nothing at) (subst (λ a. IsWrong types a [] from type at ci) e wrong)

-- one twin further
pub finds_on : (types : List SegDef) (area now : List (List ℕ)) (type left less : ℕ) (at : Pointer) (s : Segment)
    (place : Pointer) (t : Segment) → now ≡ area → left ≡ suc less → HasSegment types now type at s
    → IsTwinAt types area type s.next less place t → IsTwinAt types area type at left place t
finds_on types area now type left less at s place t e l has twin =
    subst (λ k. IsTwinAt types area type at k place t) (sym l)
    (twin_behind s (subst (λ a. HasSegment types a type at s) e has) twin)

pub leads_on : (types : List SegDef) (area now : List (List ℕ)) (type left less : ℕ) (at : Pointer) (s : Segment)
    (place : Pointer) (t : Segment) → now ≡ area → left ≡ suc less → HasSegment types now type at s
    → IsTwinAt types area type at left place t → IsTwinAt types area type s.next less place t
leads_on types area now type left less at s place t e l has twin =
    let b = twin_later less (subst (λ k. IsTwinAt types area type at k place t) l twin) in
    let same : b.s ≡ s = one_segment b.has (subst (λ a. HasSegment types a type at s) e has) in
    subst (λ (u : Segment). IsTwinAt types area type u.next less place t) same b.twin

pub found_twin : (types : List SegDef) (area now : List (List ℕ)) (type left : ℕ) (at : Pointer) (s : Segment)
    → now ≡ area → left ≡ 0 → HasSegment types now type at s → IsTwinAt types area type at left at s
found_twin types area now type left at s e l has =
    subst (λ k. IsTwinAt types area type at k at s) (sym l)
    (this_twin (subst (λ a. HasSegment types a type at s) e has))

-- ---- what is found at a twin differs from the row's first on

row_at_twin : {types : List SegDef} {area : List (List ℕ)} {type k : ℕ} {first at : Pointer} {s : Segment}
    {of_type : ℕ} {place : Pointer} {says : Segment} {x y : Node} → IsTwinAt types area type first k at s
    → (row other : List Node) → DifferAt row other k x y
    → ((more : List ℕ) (firsts : List Pointer) (rest : List Node) (rows : List (List Node))
    → RowsDifferIn types area (type ∷ more) (at ∷ firsts) ((x ∷ rest) ∷ rows) ((y ∷ rest) ∷ rows) of_type place says)
    → RowDiffersIn types area type first row other of_type place says
row_at_twin twin [] other d f = absurd (let h = d.first in cc)
row_at_twin twin (a ∷ row) [] d f = absurd (let h = d.second in cc)
row_at_twin {types} {area} {type} {first = first} {of_type = of_type} {place = place} {says = says} {x = x} {y = y}
    (this_twin has) (a ∷ row) (b ∷ other) d f =
    let e : a ≡ x = front_first d in
    let g : b ≡ y = front_second d in
    let h : row ≡ other = rest_same d in
    record {
      whatever = λ more firsts rows.
          subst (λ u. RowsDifferIn types area (type ∷ more) (first ∷ firsts) ((a ∷ row) ∷ rows) ((b ∷ u) ∷ rows) of_type
          place says) h
          (subst (λ u. RowsDifferIn types area (type ∷ more) (first ∷ firsts) ((a ∷ row) ∷ rows) ((u ∷ row) ∷ rows)
          of_type place says) (sym g)
          (subst (λ u. RowsDifferIn types area (type ∷ more) (first ∷ firsts) ((u ∷ row) ∷ rows) ((y ∷ row) ∷ rows)
          of_type place says) (sym e) (f more firsts row rows)));
    }
row_at_twin {types} {area} {type} {first = first} {of_type = of_type} {place = place} {says = says}
    (twin_behind s has twin) (a ∷ row) (b ∷ other) d f =
    let e : a ≡ b = front_same d in
    let r = row_at_twin twin row other (shifted d) f in
    record {
      whatever = λ more firsts rows.
          subst (λ u. RowsDifferIn types area (type ∷ more) (first ∷ firsts) ((a ∷ row) ∷ rows) ((u ∷ other) ∷ rows)
          of_type place says) e (behind_twin s has (r.whatever more firsts rows));
    }

-- the segment itself
pub itself_found : (types : List SegDef) (area : List (List ℕ)) (type k : ℕ) (first at : Pointer) (s : Segment)
    (row other : List Node) (x y : Node) → IsTwinAt types area type first k at s → DifferAt row other k x y
    → (out-Node x).children ≡ (out-Node y).children
    → RowDiffersIn types area type first row other type at (record s { bytes = (out-Node y).bytes })
itself_found types area type k first at s row other x y twin d c = row_at_twin twin row other d
    (λ more firsts rest rows. this_segment s (last_has twin) c)

-- one below it
pub below_found : (types : List SegDef) (area : List (List ℕ)) (type k : ℕ) (first at : Pointer) (s : Segment)
    (row other : List Node) (x y : Node) (of_type : ℕ) (place : Pointer) (says : Segment)
    → IsTwinAt types area type first k at s → DifferAt row other k x y → (out-Node x).bytes ≡ (out-Node y).bytes
    → RowsDifferIn types area (child_types types type) s.firsts (out-Node x).children (out-Node y).children of_type place
    says → RowDiffersIn types area type first row other of_type place says
below_found types area type k first at s row other x y of_type place says twin d b r = row_at_twin twin row other d
    (λ more firsts rest rows. below_segment s (last_has twin) b r)

-- of a list of rows
pub rows_at : {types : List SegDef} {area : List (List ℕ)} {type : ℕ} {first : Pointer} {of_type : ℕ} {place : Pointer}
    {says : Segment} {row other : List Node} (j : ℕ) (kinds : List ℕ) (firsts : List Pointer)
    (rows others : List (List Node)) → slice_get kinds j ≡ Some type → slice_get firsts j ≡ Some first
    → DifferAt rows others j row other → RowDiffersIn types area type first row other of_type place says
    → RowsDifferIn types area kinds firsts rows others of_type place says
rows_at j [] firsts rows others k f d r = absurd (let h = k in cc)
rows_at j (t ∷ kinds) [] rows others k f d r = absurd (let h = f in cc)
rows_at j (t ∷ kinds) (p ∷ firsts) [] others k f d r = absurd (let h = d.first in cc)
rows_at j (t ∷ kinds) (p ∷ firsts) (a ∷ rows) [] k f d r = absurd (let h = d.second in cc)
rows_at {types} {area} {type} {first} {of_type} {place} {says} {row} {other} zero (t ∷ kinds) (p ∷ firsts) (a ∷ rows)
    (b ∷ others) k f d r =
    let e : type ≡ t = cc in
    let g : first ≡ p = cc in
    let x : a ≡ row = front_first d in
    let y : b ≡ other = front_second d in
    let h : rows ≡ others = rest_same d in
    let it : RowsDifferIn types area (type ∷ kinds) (first ∷ firsts) (row ∷ rows) (other ∷ rows) of_type place says =
    r.whatever kinds firsts rows in
    let one : RowsDifferIn types area (t ∷ kinds) (first ∷ firsts) (row ∷ rows) (other ∷ rows) of_type place says =
    subst (λ u. RowsDifferIn types area (u ∷ kinds) (first ∷ firsts) (row ∷ rows) (other ∷ rows) of_type place says) e
    it in
    let two : RowsDifferIn types area (t ∷ kinds) (p ∷ firsts) (row ∷ rows) (other ∷ rows) of_type place says =
    subst (λ u. RowsDifferIn types area (t ∷ kinds) (u ∷ firsts) (row ∷ rows) (other ∷ rows) of_type place says) g one
    in
    subst (λ u. RowsDifferIn types area (t ∷ kinds) (p ∷ firsts) (a ∷ rows) (b ∷ u) of_type place says) h
    (subst (λ u. RowsDifferIn types area (t ∷ kinds) (p ∷ firsts) (a ∷ rows) (u ∷ rows) of_type place says) (sym y)
    (subst (λ u. RowsDifferIn types area (t ∷ kinds) (p ∷ firsts) (u ∷ rows) (other ∷ rows) of_type place says) (sym x)
    two))
rows_at {types} {area} {type} {first} {of_type} {place} {says} {row} {other} (suc j) (t ∷ kinds) (p ∷ firsts)
    (a ∷ rows) (b ∷ others) k f d r =
    let e : a ≡ b = front_same d in
    subst (λ u. RowsDifferIn types area (t ∷ kinds) (p ∷ firsts) (a ∷ rows) (u ∷ others) of_type place says) e
    (behind_row (rows_at j kinds firsts rows others k f (shifted d) r))

-- of roots
pub roots_at : {types : List SegDef} {area : List (List ℕ)} {k : ℕ} {first at : Pointer} {s : Segment}
    {of_type : ℕ} {place : Pointer} {says : Segment} {x y : Root} → IsTwinAt types area 0 first k at s
    → (roots others : List Root) → DifferAt roots others k x y
    → ((rest : List Root) → RootsDifferIn types area at (x ∷ rest) (y ∷ rest) of_type place says)
    → RootsDifferIn types area first roots others of_type place says
roots_at twin [] others d f = absurd (let h = d.first in cc)
roots_at twin (a ∷ roots) [] d f = absurd (let h = d.second in cc)
roots_at {types} {area} {first = first} {of_type = of_type} {place = place} {says = says} {x = x} {y = y}
    (this_twin has) (a ∷ roots) (b ∷ others) d f =
    let e : a ≡ x = front_first d in
    let g : b ≡ y = front_second d in
    let h : roots ≡ others = rest_same d in
    subst (λ u. RootsDifferIn types area first (a ∷ roots) (b ∷ u) of_type place says) h
    (subst (λ u. RootsDifferIn types area first (a ∷ roots) (u ∷ roots) of_type place says) (sym g)
    (subst (λ u. RootsDifferIn types area first (u ∷ roots) (y ∷ roots) of_type place says) (sym e) (f roots)))
roots_at {types} {area} {first = first} {of_type = of_type} {place = place} {says = says} (twin_behind s has twin)
    (a ∷ roots) (b ∷ others) d f =
    let e : a ≡ b = front_same d in
    subst (λ u. RootsDifferIn types area first (a ∷ roots) (u ∷ others) of_type place says) e
    (behind_root s has (roots_at twin roots others (shifted d) f))

-- ---- a row that the pointers give has its twins, and they have their rows

pub record TwinOf (types : List SegDef) (area : List (List ℕ)) (type : ℕ) (first : Pointer) (k : ℕ)
    (children : List (List Node)) : Type 0 where
  pub place : Pointer
  pub s : Segment
  pub twin : IsTwinAt types area type first k place s
  pub below : GiveRows types area (child_types types type) s.firsts children

pub row_twin : {types : List SegDef} {area : List (List ℕ)} {met : List Pointer} {type : ℕ} {more : List ℕ}
    {first : Pointer} {firsts : List Pointer} {row : List Node} {rows : List (List Node)} {after : List Pointer}
    → AreRows types area met (type ∷ more) (first ∷ firsts) (row ∷ rows) after → (k : ℕ) (x : Node)
    → slice_get row k ≡ Some x → TwinOf types area type first k (out-Node x).children
row_twin (row_end next) k x e = absurd (let h = e in cc)
row_twin {types} {area} {type = type} (segment {met = met} {at = at} s {below = down} {between = between} has fresh
    lower next) zero x e =
    let same : roll-Node (record { bytes = s.bytes; children = down }) ≡ x = cc in
    let g : GiveRows types area (child_types types type) s.firsts down =
    record { met = at ∷ met; after = between; are = lower } in
    record {
      place = at;
      s = s;
      twin = this_twin has;
      below = subst (λ u. GiveRows types area (child_types types type) s.firsts (out-Node u).children) same
          (subst (λ u. GiveRows types area (child_types types type) s.firsts u) (sym (rolled_below s.bytes down)) g);
    }
row_twin (segment s has fresh lower next) (suc k) x e =
    let t = row_twin next k x e in
    record { place = t.place; s = t.s; twin = twin_behind s has t.twin; below = t.below }

pub rows_row : {types : List SegDef} {area : List (List ℕ)} {met : List Pointer} {kinds : List ℕ}
    {firsts : List Pointer} {rows : List (List Node)} {after : List Pointer}
    → AreRows types area met kinds firsts rows after → (j type : ℕ) (first : Pointer) (row : List Node)
    → slice_get kinds j ≡ Some type → slice_get firsts j ≡ Some first → slice_get rows j ≡ Some row
    → GivesRow types area type first row
rows_row no_row j type first row k f r = absurd (let h = k in cc)
rows_row {types} {area} (row_end {met = met} {type = t} {more = more} {firsts = firsts} {rows = rows} {after = after}
    next) zero type first row k f r =
    let e : t ≡ type = cc in
    let g : (0, 0) ≡ first = cc in
    let h : [] ≡ row = cc in
    subst (λ u. GivesRow types area u first row) e
    (subst (λ u. GivesRow types area t u row) g
    (subst (λ u. GivesRow types area t (0, 0) u) h
    (record {
      more = more;
      firsts = firsts;
      rows = rows;
      are = record { met = met; after = after; are = row_end next };
    })))
rows_row (row_end next) (suc j) type first row k f r = rows_row next j type first row k f r
rows_row {types} {area} (segment {met = met} {type = t} {more = more} {at = at} {firsts = firsts} s {below = down}
    {row = rest} {rows = rows} {after = after} has fresh lower next) zero type first row k f r =
    let e : t ≡ type = cc in
    let g : at ≡ first = cc in
    let h : roll-Node (record { bytes = s.bytes; children = down }) ∷ rest ≡ row = cc in
    subst (λ u. GivesRow types area u first row) e
    (subst (λ u. GivesRow types area t u row) g
    (subst (λ u. GivesRow types area t at u) h
    (record {
      more = more;
      firsts = firsts;
      rows = rows;
      are = record { met = met; after = after; are = segment s has fresh lower next };
    })))
rows_row (segment s has fresh lower next) (suc j) type first row k f r = rows_row next (suc j) type first row k f r

pub root_twin : {types : List SegDef} {area : List (List ℕ)} {met : List Pointer} {first : Pointer} {roots : List Root}
    {after : List Pointer} → AreRoots types area met first roots after → (k : ℕ) (x : Root)
    → slice_get roots k ≡ Some x → TwinOf types area 0 first k x.children
root_twin no_root k x e = absurd (let h = e in cc)
root_twin {types} {area} (root {met = met} {at = at} s {below = down} {between = between} has fresh lower next) zero x e
    =
    let same : (record { bytes = s.bytes; children = down; seqs = newest s.serial }) ≡ x = cc in
    let g : GiveRows types area (child_types types 0) s.firsts down =
    record { met = at ∷ met; after = between; are = lower } in
    record {
      place = at;
      s = s;
      twin = this_twin has;
      below = subst (λ (u : Root). GiveRows types area (child_types types 0) s.firsts u.children) same g;
    }
root_twin (root s has fresh lower next) (suc k) x e =
    let t = root_twin next k x e in
    record { place = t.place; s = t.s; twin = twin_behind s has t.twin; below = t.below }

-- the rows below the twin that was read
pub below_twin : (types : List SegDef) (area now : List (List ℕ)) (type k : ℕ) (first at : Pointer) (s : Segment)
    (children : List (List Node)) → now ≡ area → IsTwinAt types area type first k at s
    → TwinOf types area type first k children → GiveRows types now (child_types types type) s.firsts children
below_twin types area now type k first at s children e twin t =
    subst (λ a. GiveRows types a (child_types types type) s.firsts children) (sym e)
    (subst (λ (u : Segment). GiveRows types area (child_types types type) u.firsts children)
    (one_twin k first t.twin twin) t.below)

-- ---- answers

pub found_map : {X E : Type 0} (r : Result (Option X) E) (P Q : X → Type 0) → ((x : X) → P x → Q x)
    → IfOk r (λ o. IfSome o P) → IfOk r (λ o. IfSome o Q)
found_map (Ok None) P Q f p = tt
found_map (Ok (Some x)) P Q f p = f x p
found_map (Err e) P Q f p = tt

-- ---- the pointer to a row below a segment

pub first_at : (types : List SegDef) (parent : ℕ) (firsts : List First) (others : List (List Node)) (j : ℕ)
    (first : First) (other : List Node) → HavePlaces 0 types → types_of firsts ≡ child_types types parent
    → rows_have_form types (child_types types parent) others ≡ true → j < length firsts → j < length others
    → slice_get firsts j ≡ Some first → other ≡ get_or others j other
    → IsFirstAt types parent firsts others j first other
first_at types parent firsts others j first other h c f b d e o =
    let kinds : List ℕ = child_types types parent in
    let kind : slice_get kinds j ≡ Some first.segment =
    ap (λ (xs : List ℕ). slice_get xs j) (sym c) ∙ slice_get-map (λ (f : First). f.segment) firsts j
    ∙ ap (λ (o : Option First). option_map (λ (f : First). f.segment) o) e in
    let pointer : slice_get (pointers_of firsts) j ≡ Some first.at =
    slice_get-map (λ (f : First). f.at) firsts j ∙ ap (λ (o : Option First). option_map (λ (f : First). f.at) o) e in
    let within : j < length kinds = slice_get_within kinds j first.segment kind in
    let is : get_or kinds j 0 ≡ first.segment = get_or_from_slice_get kinds j first.segment 0 kind in
    record {
      kind = kind;
      pointer = pointer;
      above = omega (arith, child-behind types parent j h within, is);
      direct = subst (λ k. IsDirect types k) is (child-direct types parent j within);
      form = rows-row types kinds others j other first.segment f d o (sym is);
    }

pub count_of : (firsts : List First) (kinds : List ℕ) → types_of firsts ≡ kinds → length firsts ≡ length kinds
count_of firsts kinds e = sym (length-map firsts (λ (f : First). f.segment)) ∙ ap length e

-- ---- as slices

pub give_as : (types : List SegDef) (area : List (List ℕ)) (kinds : List ℕ) (firsts points : List Pointer)
    (rows slice : List (List Node)) → points ≡ firsts → slice ≡ rows → GiveRows types area kinds firsts rows
    → GiveRows types area kinds points slice
give_as types area kinds firsts points rows slice e f g =
    subst (λ u. GiveRows types area kinds points u) (sym f) (subst (λ u. GiveRows types area kinds u rows) (sym e) g)

pub differ_as : (types : List SegDef) (area now : List (List ℕ)) (kinds : List ℕ) (firsts points : List Pointer)
    (rows slice others other_slice : List (List Node)) (of_type : ℕ) (place : Pointer) (says : Segment) → now ≡ area
    → points ≡ firsts → slice ≡ rows → other_slice ≡ others
    → RowsDifferIn types now kinds points slice other_slice of_type place says
    → RowsDifferIn types area kinds firsts rows others of_type place says
differ_as types area now kinds firsts points rows slice others other_slice of_type place says e f g h d =
    subst (λ u. RowsDifferIn types area kinds firsts rows u of_type place says) h
    (subst (λ u. RowsDifferIn types area kinds firsts u other_slice of_type place says) g
    (subst (λ u. RowsDifferIn types area kinds u slice other_slice of_type place says) f
    (subst (λ u. RowsDifferIn types u kinds points slice other_slice of_type place says) e d)))

pub in_as : (rows slice others other_slice : List (List Node)) (j : ℕ) → slice ≡ rows → other_slice ≡ others
    → DifferIn RowDiffers rows others j → DifferIn RowDiffers slice other_slice j
in_as rows slice others other_slice j e f d =
    subst (λ u. DifferIn RowDiffers slice u j) (sym f) (subst (λ u. DifferIn RowDiffers u others j) (sym e) d)

-- ---- roots

-- the root itself
pub root_found : (types : List SegDef) (area : List (List ℕ)) (k : ℕ) (first at : Pointer) (s : Segment)
    (roots others : List Root) (x y : Root) (serial : ℕ) → IsTwinAt types area 0 first k at s
    → DifferAt roots others k x y → x.children ≡ y.children → newest serial ≡ y.seqs
    → RootsDifferIn types area first roots others 0 at (record s { serial = serial; bytes = y.bytes })
root_found types area k first at s roots others x y serial twin d c n = roots_at twin roots others d
    (λ rest. this_root s (last_has twin) c n)

-- one below it
pub below_root_found : (types : List SegDef) (area : List (List ℕ)) (k : ℕ) (first at : Pointer) (s : Segment)
    (roots others : List Root) (x y : Root) (of_type : ℕ) (place : Pointer) (says : Segment)
    → IsTwinAt types area 0 first k at s → DifferAt roots others k x y → HaveSameOwn x y
    → RowsDifferIn types area (child_types types 0) s.firsts x.children y.children of_type place says
    → RootsDifferIn types area first roots others of_type place says
below_root_found types area k first at s roots others x y of_type place says twin d o r = roots_at twin roots others d
    (λ rest. below_root s (last_has twin) o r)

pub found_there : {X : Type 0} (o : Option X) (x : X) (P : X → Type 0) → o ≡ Some x → IfSome o P → P x
found_there o x P e p = subst (λ q. IfSome q P) e p
