-- What an anchor's pointers give once a gap is filled.
use Rattle.std.proofs.Common.{◌≡◌, ◌≢◌, ◌⊎◌, inl, inr, ℕ, zero, suc, List, [], ◌∷◌, ◌++◌, length, set, replicate, Contains, slice_get, Some, refl, sym, ap, ◌∙◌, subst, arith}
use Rattle.std.specs.Prelude.{⊤}
use Rattle.fp_model.specs.declared.definitions.SegDef.{SegDef}
use Rattle.fp_model.specs.declared.database.Node.{Node, out-Node, roll-Node}
use Rattle.fp_model.specs.declared.database.Node.TheViews.{roll-out-Node}
use Rattle.fp_model.specs.declared.database.Root.{Root}
use Rattle.fp_model.specs.Order.{child_types}
use Rattle.anchor_elements.specs.Elements.{Pointer, nothing, Segment, HasSegment}
use Rattle.anchor_elements.specs.Reading.{segment_of}
use Rattle.root_changes.specs.Differing.{DifferAt, HaveSameOwn}
use Rattle.root_changes.specs.Gaining.{AreBare}
use Rattle.root_changes.proofs.ComparingLemmas.{shifted, front_same, rest_same, front_first, front_second}
use Rattle.root_anchor.specs.declared.gaps.Gap.{Gap}
use Rattle.root_anchor.specs.declared.gaps.Added.{Added}
use Rattle.root_anchor.specs.declared.gaps.Link.TheVariants.{Next, FirstChild}
use Rattle.root_anchor.specs.Chains.{AreRows, no_row, row_end, segment, newest, AreRoots, no_root, root}
use Rattle.root_anchor.specs.inside.Finding.{IsTwinAt}
use Rattle.root_anchor.specs.inside.Gaps.{says_added, linked, Fills, MeetsOneMore, HasBelow, IsGapBelow}
use Rattle.root_anchor.proofs.AloneLemmas.{rolled_bytes, rolled_below, made_root}
use Rattle.root_anchor.proofs.FindingLemmas.{twin_first, twin_later}
use Rattle.root_anchor.proofs.Framing.{Stay, rows_keep, rows_stay, roots_keep}
use Rattle.root_anchor.proofs.OneChain.{one_segment, rows_have}
use Rattle.root_anchor.proofs.Rows.{rows_joined}
use Rattle.plain_laws.proofs.Alls.{contains_cases, contains_first, contains_later}

-- ---- what was met

more_on : (at p : Pointer) (met other : List Pointer) → MeetsOneMore at met other
    → MeetsOneMore at (p ∷ met) (p ∷ other)
more_on at p met other m = record {
  keep = λ q h. elim (contains_cases p met q h) as (λ _. Contains (p ∷ other) q) [
    | inl e ↦ subst (λ r. Contains (p ∷ other) r) e (contains_first p other)
    | inr k ↦ contains_later p other q (m.keep q k)
  ];
  only = λ q h. elim (contains_cases p other q h) as (λ _. (q ≡ at) ⊎ Contains (p ∷ met) q) [
    | inl e ↦ inr (subst (λ r. Contains (p ∷ met) r) e (contains_first p met))
    | inr k ↦ elim (m.only q k) as (λ _. (q ≡ at) ⊎ Contains (p ∷ met) q)
        [ inl e ↦ inl e | inr o ↦ inr (contains_later p met q o) ]
  ];
  is_met = contains_later p other at m.is_met;
}

pub one_in_front : (at : Pointer) (met : List Pointer) → MeetsOneMore at met (at ∷ met)
one_in_front at met = record {
  keep = λ q h. contains_later at met q h;
  only = λ q h. elim (contains_cases at met q h) as (λ _. (q ≡ at) ⊎ Contains met q) [ inl e ↦ inl (sym e) | inr k ↦ inr k ];
  is_met = contains_first at met;
}

-- ---- what rows and roots begin with

record FirstIs (types : List SegDef) (area : List (List ℕ)) (met : List Pointer) (type : ℕ) (more : List ℕ)
    (at : Pointer) (firsts : List Pointer) (x : Node) (row : List Node) (rows : List (List Node)) (after : List Pointer)
    (s : Segment) : Type 0 where
  down : List (List Node)
  between : List Pointer
  fresh : ¬ Contains met at
  lower : AreRows types area (at ∷ met) (child_types types type) s.firsts down between
  next : AreRows types area between (type ∷ more) (s.next ∷ firsts) (row ∷ rows) after
  same : x ≡ roll-Node (record { bytes = s.bytes; children = down })

record FirstSo (types : List SegDef) (area : List (List ℕ)) (met : List Pointer) (type : ℕ) (more : List ℕ)
    (at : Pointer) (firsts : List Pointer) (x : Node) (row : List Node) (rows : List (List Node)) (after : List Pointer)
    : Type 0 where
  s : Segment
  has : HasSegment types area type at s
  is : FirstIs types area met type more at firsts x row rows after s

first_so : {types : List SegDef} {area : List (List ℕ)} {met : List Pointer} {type : ℕ} {more : List ℕ} {at : Pointer}
    {firsts : List Pointer} {x : Node} {row : List Node} {rows : List (List Node)} {after : List Pointer}
    → AreRows types area met (type ∷ more) (at ∷ firsts) ((x ∷ row) ∷ rows) after
    → FirstSo types area met type more at firsts x row rows after
first_so (segment s {below = down} {between = between} has fresh lower next) = record {
  s = s;
  has = has;
  is = record { down = down; between = between; fresh = fresh; lower = lower; next = next; same = refl };
}

first_is : {types : List SegDef} {area : List (List ℕ)} {met : List Pointer} {type : ℕ} {more : List ℕ} {at : Pointer}
    {firsts : List Pointer} {x : Node} {row : List Node} {rows : List (List Node)} {after : List Pointer} (s : Segment)
    → HasSegment types area type at s → AreRows types area met (type ∷ more) (at ∷ firsts) ((x ∷ row) ∷ rows) after
    → FirstIs types area met type more at firsts x row rows after s
first_is {types} {area} {met} {type} {more} {at} {firsts} {x} {row} {rows} {after} s has r =
    let o = first_so r in
    subst (λ (t : Segment). FirstIs types area met type more at firsts x row rows after t) (one_segment o.has has) o.is

record RootIs (types : List SegDef) (area : List (List ℕ)) (met : List Pointer) (at : Pointer) (x : Root)
    (roots : List Root) (after : List Pointer) (s : Segment) : Type 0 where
  down : List (List Node)
  between : List Pointer
  fresh : ¬ Contains met at
  lower : AreRows types area (at ∷ met) (child_types types 0) s.firsts down between
  next : AreRoots types area between s.next roots after
  same : x ≡ record { bytes = s.bytes; children = down; seqs = newest s.serial }

record RootSo (types : List SegDef) (area : List (List ℕ)) (met : List Pointer) (at : Pointer) (x : Root)
    (roots : List Root) (after : List Pointer) : Type 0 where
  s : Segment
  has : HasSegment types area 0 at s
  is : RootIs types area met at x roots after s

root_so : {types : List SegDef} {area : List (List ℕ)} {met : List Pointer} {at : Pointer} {x : Root} {roots : List Root}
    {after : List Pointer} → AreRoots types area met at (x ∷ roots) after
    → RootSo types area met at x roots after
root_so (root s {below = down} {between = between} has fresh lower next) = record {
  s = s;
  has = has;
  is = record { down = down; between = between; fresh = fresh; lower = lower; next = next; same = refl };
}

root_is : {types : List SegDef} {area : List (List ℕ)} {met : List Pointer} {at : Pointer} {x : Root} {roots : List Root}
    {after : List Pointer} (s : Segment) → HasSegment types area 0 at s → AreRoots types area met at (x ∷ roots) after
    → RootIs types area met at x roots after s
root_is {types} {area} {met} {at} {x} {roots} {after} s has r =
    let o = root_so r in
    subst (λ (t : Segment). RootIs types area met at x roots after t) (one_segment o.has has) o.is

-- the first of some rows, and those behind it
record SplitOff (types : List SegDef) (area : List (List ℕ)) (met : List Pointer) (type : ℕ) (kinds : List ℕ)
    (first : Pointer) (firsts : List Pointer) (row : List Node) (rows : List (List Node)) (after : List Pointer) : Type 0
  where
    between : List Pointer
    head : AreRows types area met (type ∷ []) (first ∷ []) (row ∷ []) between
    rest : AreRows types area between kinds firsts rows after

split_off : {types : List SegDef} {area : List (List ℕ)} {met : List Pointer} {type : ℕ} {kinds : List ℕ}
    {first : Pointer} {firsts : List Pointer} {row : List Node} {rows : List (List Node)} {after : List Pointer}
    → AreRows types area met (type ∷ kinds) (first ∷ firsts) (row ∷ rows) after
    → SplitOff types area met type kinds first firsts row rows after
split_off (row_end {met = met} next) = record { between = met; head = row_end no_row; rest = next }
split_off (segment s has fresh lower next) =
    let r = split_off next in
    record { between = r.between; head = segment s has fresh lower r.head; rest = r.rest }

-- ---- a segment with none below it

abbrev pub lone : List SegDef → ℕ → Pointer → ℕ → List ℕ → Segment
lone types type next serial bytes = record {
  next = next;
  serial = serial;
  firsts = replicate (length (child_types types type)) nothing;
  bytes = bytes;
}

pub lone_stands : (types : List SegDef) (area : List (List ℕ)) (at : Pointer) (added : Added) (type : ℕ)
    (next : Pointer) (serial : ℕ) (bytes : List ℕ) → HasSegment types area added.segment at (says_added types added)
    → added.segment ≡ type → added.next ≡ next → added.serial ≡ serial → added.bytes.now ≡ bytes
    → HasSegment types area type at (lone types type next serial bytes)
lone_stands types area at added type next serial bytes h k n s b =
    subst (λ x. HasSegment types area type at (lone types type next serial x)) b
    (subst (λ x. HasSegment types area type at (lone types type next x added.bytes.now)) s
    (subst (λ x. HasSegment types area type at (lone types type x added.serial added.bytes.now)) n
    (subst (λ x. HasSegment types area x at (lone types x added.next added.serial added.bytes.now)) k h)))

pub bare_rows : (types : List SegDef) (area : List (List ℕ)) (met : List Pointer) (kinds : List ℕ)
    (rows : List (List Node)) → AreBare rows → length rows ≡ length kinds
    → AreRows types area met kinds (replicate (length kinds) nothing) rows met
bare_rows types area met [] [] b e = no_row
bare_rows types area met [] (row ∷ rows) b e = absurd (omega (arith, e))
bare_rows types area met (k ∷ kinds) [] b e = absurd (omega (arith, e))
bare_rows types area met (k ∷ kinds) (row ∷ rows) b e =
    subst (λ (r : List Node). AreRows types area met (k ∷ kinds) (nothing ∷ replicate (length kinds) nothing) (r ∷ rows)
    met) (sym b.0) (row_end (bare_rows types area met kinds rows b.1 (omega (arith, e))))

set_same : {A : Type 0} (xs : List A) (j : ℕ) (x : A) → slice_get xs j ≡ Some x → set xs j x ≡ xs
set_same [] j x e = absurd (let h = e in cc)
set_same (y ∷ xs) zero x e = let h : y ≡ x = cc in ap (λ z. z ∷ xs) (sym h)
set_same (y ∷ xs) (suc j) x e = ap (λ zs. y ∷ zs) (set_same xs j x e)

-- ---- rows and roots behind others, of which one is new

record RowsMoved (types : List SegDef) (new : List (List ℕ)) (at : Pointer) (met : List Pointer) (kinds : List ℕ)
    (firsts : List Pointer) (rows : List (List Node)) (after : List Pointer) : Type 0 where
  now : List Pointer
  are : AreRows types new met kinds firsts rows now
  more : MeetsOneMore at after now

record RootsMoved (types : List SegDef) (new : List (List ℕ)) (at : Pointer) (met : List Pointer) (first : Pointer)
    (roots : List Root) (after : List Pointer) : Type 0 where
  now : List Pointer
  are : AreRoots types new met first roots now
  more : MeetsOneMore at after now

-- a row that gained the segment
pub record RowFilled (types : List SegDef) (new : List (List ℕ)) (gap : Gap) (at : Pointer) (met : List Pointer) (type : ℕ)
    (first : Pointer) (row : List Node) (after : List Pointer) : Type 0 where
  pub now : List Pointer
  pub are : AreRows types new met (type ∷ []) (first ∷ []) (row ∷ []) now
  pub more : MeetsOneMore at after now
  pub apart : ¬ Contains met gap.holder.at
  pub holder_met : Contains after gap.holder.at

-- roots that did
pub record RootsFilled (types : List SegDef) (new : List (List ℕ)) (gap : Gap) (at : Pointer) (met : List Pointer)
    (first : Pointer) (roots : List Root) (after : List Pointer) : Type 0 where
  pub now : List Pointer
  pub are : AreRoots types new met first roots now
  pub more : MeetsOneMore at after now
  pub apart : ¬ Contains met gap.holder.at
  pub holder_met : Contains after gap.holder.at

module _ (types : List SegDef) (old new : List (List ℕ)) (gap : Gap) (at : Pointer) (f : Fills types old new gap at)
  where
    -- what stays: behind the holder, or in front of it
    stay_behind : (met after : List Pointer) → Contains met gap.holder.at → Stay types old new met after
    stay_behind met after c = record {
      each = λ p h n type s k. f.others type p s (λ e. n (subst (λ q. Contains met q) (sym e) c)) k;
    }

    stay_before : (met after : List Pointer) → ¬ Contains after gap.holder.at → Stay types old new met after
    stay_before met after n = record {
      each = λ p h m type s k. f.others type p s (λ e. n (subst (λ q. Contains after q) e h)) k;
    }

    -- the new element is none of those that were met
    none_met : {met : List Pointer} {kinds : List ℕ} {firsts : List Pointer} {rows : List (List Node)}
        {after : List Pointer} → AreRows types old met kinds firsts rows after → ¬ Contains met at → ¬ Contains after at
    none_met r n c = elim (rows_have r at c) as (λ _. ⊥) [ inl m ↦ n m | inr h ↦ f.none_before h.type h.segment h.has ]

    not_new : (p : Pointer) (type : ℕ) (s : Segment) → HasSegment types old type p s → p ≢ at
    not_new p type s h e = f.none_before type s (subst (λ q. HasSegment types old type q s) e h)

    rows_moved : {met : List Pointer} {kinds : List ℕ} {firsts : List Pointer} {rows : List (List Node)}
        {after : List Pointer} → AreRows types old met kinds firsts rows after → (other : List Pointer)
        → MeetsOneMore at met other → Contains met gap.holder.at → RowsMoved types new at other kinds firsts rows after
    rows_moved no_row other m c = record { now = other; are = no_row; more = m }
    rows_moved (row_end next) other m c =
        let r = rows_moved next other m c in
        record { now = r.now; are = row_end r.are; more = r.more }
    rows_moved (segment {met = met} {type = type} {at = p} s has fresh lower next) other m c =
        let low = rows_moved lower (p ∷ other) (more_on at p met other m) (contains_later p met gap.holder.at c) in
        let rest = rows_moved next low.now low.more (rows_keep lower gap.holder.at (contains_later p met gap.holder.at c)) in
        record {
          now = rest.now;
          are = segment s (f.others type p s (λ e. fresh (subst (λ q. Contains met q) (sym e) c)) has)
              (λ k. elim (m.only p k) as (λ _. ⊥) [ inl e ↦ not_new p type s has e | inr o ↦ fresh o ]) low.are rest.are;
          more = rest.more;
        }

    roots_moved : {met : List Pointer} {first : Pointer} {roots : List Root} {after : List Pointer}
        → AreRoots types old met first roots after → (other : List Pointer)
        → MeetsOneMore at met other → Contains met gap.holder.at → RootsMoved types new at other first roots after
    roots_moved no_root other m c = record { now = other; are = no_root; more = m }
    roots_moved (root {met = met} {at = p} s has fresh lower next) other m c =
        let low = rows_moved lower (p ∷ other) (more_on at p met other m) (contains_later p met gap.holder.at c) in
        let rest = roots_moved next low.now low.more (rows_keep lower gap.holder.at (contains_later p met gap.holder.at c)) in
        record {
          now = rest.now;
          are = root s (f.others 0 p s (λ e. fresh (subst (λ q. Contains met q) (sym e) c)) has)
              (λ k. elim (m.only p k) as (λ _. ⊥) [ inl e ↦ not_new p 0 s has e | inr o ↦ fresh o ]) low.are rest.are;
          more = rest.more;
        }

    -- ---- along a row

    -- up to a twin all stay, and from there on others stand in the place of these
    pub row_twins : (type : ℕ) (place : Pointer) (t : Segment) (tail others : List Node)
        → ((met after : List Pointer) → ¬ Contains met at
        → AreRows types old met (type ∷ []) (place ∷ []) (tail ∷ []) after
        → RowFilled types new gap at met type place others after)
        → (front : List Node) (first : Pointer) → IsTwinAt types old type first (length front) place t
        → (met after : List Pointer) → ¬ Contains met at
        → AreRows types old met (type ∷ []) (first ∷ []) ((front ++ tail) ∷ []) after
        → RowFilled types new gap at met type first (front ++ others) after
    row_twins type place t tail others g [] first w met after n r =
        let e : place ≡ first = (twin_first w).0 in
        subst (λ q. RowFilled types new gap at met type q others after) e
        (g met after n (subst (λ q. AreRows types old met (type ∷ []) (q ∷ []) (tail ∷ []) after) (sym e) r))
    row_twins type place t tail others g (x ∷ front) first w met after n r =
        let l = twin_later (length front) w in
        let o = first_is l.s l.has r in
        let k = row_twins type place t tail others g front l.s.next l.twin o.between after
        (none_met o.lower (λ c. elim (contains_cases first met at c) as (λ _. ⊥)
        [ inl e ↦ not_new first type l.s l.has e | inr m ↦ n m ])) o.next in
        let here : Contains o.between first = rows_keep o.lower first (contains_first first met) in
        let all = segment l.s (f.others type first l.s (λ e. k.apart (subst (λ q. Contains o.between q) e here)) l.has)
        o.fresh (rows_stay o.lower (stay_before (first ∷ met) o.between k.apart)) k.are in
        record {
          now = k.now;
          are = subst (λ (y : Node). AreRows types new met (type ∷ []) (first ∷ []) ((y ∷ (front ++ others)) ∷ []) k.now)
              (sym o.same) all;
          more = k.more;
          apart = λ c. k.apart (rows_keep o.lower gap.holder.at (contains_later first met gap.holder.at c));
          holder_met = k.holder_met;
        }

    -- a new twin behind the holder
    pub row_behind : (type : ℕ) (serial : ℕ) (n x : Node) (back : List Node)
        → HasSegment types old type gap.holder.at (segment_of gap.holder.said) → gap.holder.segment ≡ type
        → gap.holder.link ≡ Next
        → HasSegment types new type at (lone types type (segment_of gap.holder.said).next serial (out-Node n).bytes)
        → AreBare (out-Node n).children → length (out-Node n).children ≡ length (child_types types type)
        → (met after : List Pointer) → ¬ Contains met at
        → AreRows types old met (type ∷ []) (gap.holder.at ∷ []) ((x ∷ back) ∷ []) after
        → RowFilled types new gap at met type gap.holder.at (x ∷ n ∷ back) after
    row_behind type serial n x back h k e stands bare count met after none r =
        let said : Segment = segment_of gap.holder.said in
        let o = first_is said h r in
        let links : HasSegment types new type gap.holder.at (record said { next = at }) =
        subst (λ l. HasSegment types new type gap.holder.at (linked l at said)) e
        (subst (λ t. HasSegment types new t gap.holder.at (linked gap.holder.link at said)) k f.links) in
        let here : Contains o.between gap.holder.at = rows_keep o.lower gap.holder.at (contains_first gap.holder.at met) in
        let free : ¬ Contains o.between at = none_met o.lower (λ c. elim (contains_cases gap.holder.at met at c) as (λ _. ⊥)
        [ inl g ↦ not_new gap.holder.at type said h g | inr m ↦ none m ]) in
        let rest = rows_moved o.next (at ∷ o.between) (one_in_front at o.between) here in
        let it = segment (lone types type said.next serial (out-Node n).bytes) stands free
        (bare_rows types new (at ∷ o.between) (child_types types type) (out-Node n).children bare count) rest.are in
        let made = subst (λ (y : Node). AreRows types new o.between (type ∷ []) (at ∷ []) ((y ∷ back) ∷ []) rest.now)
        (roll-out-Node n) it in
        let all = segment (record said { next = at }) links o.fresh
        (rows_stay o.lower (stay_behind (gap.holder.at ∷ met) o.between (contains_first gap.holder.at met))) made in
        record {
          now = rest.now;
          are = subst (λ (y : Node). AreRows types new met (type ∷ []) (gap.holder.at ∷ []) ((y ∷ n ∷ back) ∷ []) rest.now)
              (sym o.same) all;
          more = rest.more;
          apart = o.fresh;
          holder_met = rows_keep o.next gap.holder.at here;
        }

    -- a new segment somewhere below a twin
    pub row_below : (type : ℕ) (place : Pointer) (t : Segment) (x y : Node) (back : List Node)
        → HasSegment types old type place t → (out-Node x).bytes ≡ (out-Node y).bytes
        → IsGapBelow types old type place (out-Node x).children (out-Node y).children gap
        → (met after : List Pointer) → ¬ Contains met at
        → AreRows types old met (type ∷ []) (place ∷ []) ((x ∷ back) ∷ []) after
        → RowFilled types new gap at met type place (y ∷ back) after
    row_below type place t x y back h own g met after none r =
        let o = first_is t h r in
        let down : o.down ≡ (out-Node x).children =
        sym (rolled_below t.bytes o.down) ∙ ap (λ (z : Node). (out-Node z).children) (sym o.same) in
        let bytes : t.bytes ≡ (out-Node y).bytes =
        sym (rolled_bytes t.bytes o.down) ∙ ap (λ (z : Node). (out-Node z).bytes) (sym o.same) ∙ own in
        let b = g.fills new at f t h met o.between o.fresh none
        (subst (λ d. AreRows types old (place ∷ met) (child_types types type) t.firsts d o.between) down o.lower) in
        let rest = rows_moved o.next b.now b.more b.holder_met in
        let all = segment (record t { firsts = b.firsts }) b.has o.fresh b.are rest.are in
        let is : roll-Node (record { bytes = t.bytes; children = (out-Node y).children }) ≡ y =
        ap (λ c. roll-Node (record { bytes = c; children = (out-Node y).children })) bytes ∙ roll-out-Node y in
        record {
          now = rest.now;
          are = subst (λ (z : Node). AreRows types new met (type ∷ []) (place ∷ []) ((z ∷ back) ∷ []) rest.now) is all;
          more = rest.more;
          apart = b.apart;
          holder_met = rows_keep o.next gap.holder.at b.holder_met;
        }

    -- ---- in the rows below a segment

    -- The row of a number gains the segment: those before it stay, and those behind it are met after it. What was met
    -- before the row has a property that those before have too, and by which these stay.
    rows_at : (base : List Pointer) (Q : List Pointer → Type 0)
        → ((met after : List Pointer) → ((p : Pointer) → Contains met p → Contains after p) → Q after → Q met)
        → ((met after : List Pointer) → ((p : Pointer) → Contains base p → Contains met p) → Q after
        → Stay types old new met after)
        → (type : ℕ) (first now_first : Pointer) (row other : List Node)
        → ((met after : List Pointer) → ((p : Pointer) → Contains base p → Contains met p) → ¬ Contains met at
        → AreRows types old met (type ∷ []) (first ∷ []) (row ∷ []) after
        → (Q met × Contains after gap.holder.at) × RowsMoved types new at met (type ∷ []) (now_first ∷ []) (other ∷ []) after)
        → (j : ℕ) (kinds : List ℕ) (firsts : List Pointer) (rows others : List (List Node))
        → slice_get kinds j ≡ Some type → slice_get firsts j ≡ Some first → DifferAt rows others j row other
        → (met after : List Pointer) → ((p : Pointer) → Contains base p → Contains met p) → ¬ Contains met at
        → AreRows types old met kinds firsts rows after
        → (Q met × Contains after gap.holder.at) × RowsMoved types new at met kinds (set firsts j now_first) others after
    rows_at base Q down keep type first now_first row other g j [] firsts rows others k p d met after sub none r =
        absurd (let h = k in cc)
    rows_at base Q down keep type first now_first row other g j (t ∷ kinds) [] rows others k p d met after sub none r =
        absurd (let h = p in cc)
    rows_at base Q down keep type first now_first row other g j (t ∷ kinds) (q ∷ firsts) [] others k p d met after sub none
        r = absurd (let h = d.first in cc)
    rows_at base Q down keep type first now_first row other g j (t ∷ kinds) (q ∷ firsts) (a ∷ rows) [] k p d met after sub
        none r = absurd (let h = d.second in cc)
    rows_at base Q down keep type first now_first row other g zero (t ∷ kinds) (q ∷ firsts) (a ∷ rows) (b ∷ others) k p d
        met after sub none r =
        let e : t ≡ type = cc in
        let h : q ≡ first = cc in
        let x : a ≡ row = front_first d in
        let y : b ≡ other = front_second d in
        let same : rows ≡ others = rest_same d in
        let s = split_off r in
        let head = subst (λ u. AreRows types old met (type ∷ []) (first ∷ []) (u ∷ []) s.between) x
        (subst (λ u. AreRows types old met (type ∷ []) (u ∷ []) (a ∷ []) s.between) h
        (subst (λ u. AreRows types old met (u ∷ []) (q ∷ []) (a ∷ []) s.between) e s.head)) in
        let one = g met s.between sub none head in
        let rest = rows_moved s.rest one.1.now one.1.more one.0.1 in
        let all : AreRows types new met (type ∷ kinds) (now_first ∷ firsts) (other ∷ rows) rest.now =
        rows_joined one.1.are rest.are in (
          (one.0.0, rows_keep s.rest gap.holder.at one.0.1),
          record {
            now = rest.now;
            are = subst (λ u. AreRows types new met (u ∷ kinds) (now_first ∷ firsts) (b ∷ others) rest.now) (sym e)
                (subst (λ u. AreRows types new met (type ∷ kinds) (now_first ∷ firsts) (u ∷ others) rest.now) (sym y)
                (subst (λ u. AreRows types new met (type ∷ kinds) (now_first ∷ firsts) (other ∷ u) rest.now) same all));
            more = rest.more;
          },
        )
    rows_at base Q down keep type first now_first row other g (suc j) (t ∷ kinds) (q ∷ firsts) (a ∷ rows) (b ∷ others) k p
        d met after sub none r =
        let e : a ≡ b = front_same d in
        let s = split_off r in
        let on : (u : Pointer) → Contains met u → Contains s.between u = rows_keep s.head in
        let it = rows_at base Q down keep type first now_first row other g j kinds firsts rows others k p (shifted d)
        s.between after (λ u c. on u (sub u c)) (none_met s.head none) s.rest in
        let head = rows_stay s.head (keep met s.between sub it.0.0) in
        let all : AreRows types new met (t ∷ kinds) (q ∷ set firsts j now_first) (a ∷ others) it.1.now =
        rows_joined head it.1.are in (
          (down met s.between on it.0.0, it.0.1),
          record {
            now = it.1.now;
            are = subst (λ u. AreRows types new met (t ∷ kinds) (q ∷ set firsts j now_first) (u ∷ others) it.1.now) e all;
            more = it.1.more;
          },
        )

    -- the row of a number gains the segment behind or below one of its own
    pub below_in_row : (type kind : ℕ) (place first : Pointer) (s : Segment) (row other : List Node) (j : ℕ)
        (rows others : List (List Node)) → slice_get (child_types types type) j ≡ Some kind
        → slice_get s.firsts j ≡ Some first
        → DifferAt rows others j row other
        → ((met after : List Pointer) → ¬ Contains met at
        → AreRows types old met (kind ∷ []) (first ∷ []) (row ∷ []) after
        → RowFilled types new gap at met kind first other after)
        → HasSegment types old type place s → (met after : List Pointer) → ¬ Contains met at
        → AreRows types old (place ∷ met) (child_types types type) s.firsts rows after
        → HasBelow types new gap at type place s met others after
    below_in_row type kind place first s row other j rows others k p d g h met after none r =
        let it = rows_at (place ∷ met) (λ m. ¬ Contains m gap.holder.at) (λ m n on c e. c (on gap.holder.at e))
        (λ m n sub c. stay_before m n c) kind first first row other
        (λ m n sub free a. (let w = g m n free a in
        ((w.apart, w.holder_met), record { now = w.now; are = w.are; more = w.more }))) j
        (child_types types type) s.firsts rows others k p d (place ∷ met) after (λ u c. c)
        (λ c. elim (contains_cases place met at c) as (λ _. ⊥)
        [ inl e ↦ not_new place type s h e | inr m ↦ none m ]) r in
        let stays : HasSegment types new type place s =
        f.others type place s (λ e. it.0.0 (subst (λ q. Contains (place ∷ met) q) e (contains_first place met))) h in
        record {
          firsts = set s.firsts j first;
          has = subst (λ l. HasSegment types new type place (record s { firsts = l })) (sym (set_same s.firsts j first p))
              stays;
          now = it.1.now;
          are = it.1.are;
          more = it.1.more;
          apart = λ c. it.0.0 (contains_later place met gap.holder.at c);
          holder_met = it.0.1;
        }

    -- the row of a number gains the segment in front of all its own: the parent has the pointer to it
    pub below_in_front : (type kind : ℕ) (place first : Pointer) (s : Segment) (n : Node) (serial : ℕ) (row other : List Node)
        (j : ℕ) (rows others : List (List Node)) → slice_get (child_types types type) j ≡ Some kind
        → slice_get s.firsts j ≡ Some first → DifferAt rows others j row other → other ≡ n ∷ row
        → gap.holder.segment ≡ type → place ≡ gap.holder.at → gap.holder.link ≡ FirstChild j
        → HasSegment types old type place (segment_of gap.holder.said)
        → HasSegment types new kind at (lone types kind first serial (out-Node n).bytes)
        → AreBare (out-Node n).children → length (out-Node n).children ≡ length (child_types types kind)
        → HasSegment types old type place s → (met after : List Pointer) → ¬ Contains met place → ¬ Contains met at
        → AreRows types old (place ∷ met) (child_types types type) s.firsts rows after
        → HasBelow types new gap at type place s met others after
    below_in_front type kind place first s n serial row other j rows others k p d o is_type is_place is_link said stands
        bare count h met after fresh none r =
        let here : Contains (place ∷ met) gap.holder.at = subst (λ q. Contains (place ∷ met) q) is_place (contains_first place met) in
        let one : (m a : List Pointer) → ((q : Pointer) → Contains (place ∷ met) q → Contains m q) → ¬ Contains m at
        → AreRows types old m (kind ∷ []) (first ∷ []) (row ∷ []) a
        → (⊤ × Contains a gap.holder.at) × RowsMoved types new at m (kind ∷ []) (at ∷ []) (other ∷ []) a =
        λ m a sub free w.
        let rest = rows_moved w (at ∷ m) (one_in_front at m) (sub gap.holder.at here) in
        let it = segment (lone types kind first serial (out-Node n).bytes) stands free
        (bare_rows types new (at ∷ m) (child_types types kind) (out-Node n).children bare count) rest.are in
        let made = subst (λ (y : Node). AreRows types new m (kind ∷ []) (at ∷ []) ((y ∷ row) ∷ []) rest.now)
        (roll-out-Node n) it in (
          (tt, rows_keep w gap.holder.at (sub gap.holder.at here)),
          record {
            now = rest.now;
            are = subst (λ u. AreRows types new m (kind ∷ []) (at ∷ []) (u ∷ []) rest.now) (sym o) made;
            more = rest.more;
          },
        ) in
        let it = rows_at (place ∷ met) (λ m. ⊤) (λ m n on c. tt) (λ m n sub c. stay_behind m n (sub gap.holder.at here)) kind first
        at row other one j (child_types types type) s.firsts rows others k p d (place ∷ met) after (λ u c. c)
        (λ c. elim (contains_cases place met at c) as (λ _. ⊥)
        [ inl e ↦ not_new place type s h e | inr m ↦ none m ]) r in
        let e : segment_of gap.holder.said ≡ s = one_segment said h in
        let a : HasSegment types new type gap.holder.at (linked gap.holder.link at (segment_of gap.holder.said)) =
        subst (λ t. HasSegment types new t gap.holder.at (linked gap.holder.link at (segment_of gap.holder.said))) is_type f.links
        in
        let b : HasSegment types new type place (linked (FirstChild j) at (segment_of gap.holder.said)) =
        subst (λ l. HasSegment types new type place (linked l at (segment_of gap.holder.said))) is_link
        (subst (λ q. HasSegment types new type q (linked gap.holder.link at (segment_of gap.holder.said))) (sym is_place) a)
        in
        record {
          firsts = set s.firsts j at;
          has = subst (λ (t : Segment). HasSegment types new type place (record t { firsts = set t.firsts j at })) e b;
          now = it.1.now;
          are = it.1.are;
          more = it.1.more;
          apart = λ c. fresh (subst (λ q. Contains met q) (sym is_place) c);
          holder_met = it.0.1;
        }

    -- ---- along the roots

    pub root_twins : (place : Pointer) (t : Segment) (tail others : List Root)
        → ((met after : List Pointer) → ¬ Contains met at → AreRoots types old met place tail after
        → RootsFilled types new gap at met place others after)
        → (front : List Root) (first : Pointer) → IsTwinAt types old 0 first (length front) place t
        → (met after : List Pointer) → ¬ Contains met at → AreRoots types old met first (front ++ tail) after
        → RootsFilled types new gap at met first (front ++ others) after
    root_twins place t tail others g [] first w met after n r =
        let e : place ≡ first = (twin_first w).0 in
        subst (λ q. RootsFilled types new gap at met q others after) e
        (g met after n (subst (λ q. AreRoots types old met q tail after) (sym e) r))
    root_twins place t tail others g (x ∷ front) first w met after n r =
        let l = twin_later (length front) w in
        let o = root_is l.s l.has r in
        let k = root_twins place t tail others g front l.s.next l.twin o.between after
        (none_met o.lower (λ c. elim (contains_cases first met at c) as (λ _. ⊥)
        [ inl e ↦ not_new first 0 l.s l.has e | inr m ↦ n m ])) o.next in
        let here : Contains o.between first = rows_keep o.lower first (contains_first first met) in
        let all = root l.s (f.others 0 first l.s (λ e. k.apart (subst (λ q. Contains o.between q) e here)) l.has)
        o.fresh (rows_stay o.lower (stay_before (first ∷ met) o.between k.apart)) k.are in
        record {
          now = k.now;
          are = subst (λ (y : Root). AreRoots types new met first (y ∷ (front ++ others)) k.now) (sym o.same) all;
          more = k.more;
          apart = λ c. k.apart (rows_keep o.lower gap.holder.at (contains_later first met gap.holder.at c));
          holder_met = k.holder_met;
        }

    pub root_behind : (serial : ℕ) (n x : Root) (back : List Root)
        → HasSegment types old 0 gap.holder.at (segment_of gap.holder.said) → gap.holder.segment ≡ 0
        → gap.holder.link ≡ Next → newest serial ≡ n.seqs
        → HasSegment types new 0 at (lone types 0 (segment_of gap.holder.said).next serial n.bytes)
        → AreBare n.children → length n.children ≡ length (child_types types 0)
        → (met after : List Pointer) → ¬ Contains met at → AreRoots types old met gap.holder.at (x ∷ back) after
        → RootsFilled types new gap at met gap.holder.at (x ∷ n ∷ back) after
    root_behind serial n x back h k e seqs stands bare count met after none r =
        let said : Segment = segment_of gap.holder.said in
        let o = root_is said h r in
        let links : HasSegment types new 0 gap.holder.at (record said { next = at }) =
        subst (λ l. HasSegment types new 0 gap.holder.at (linked l at said)) e
        (subst (λ t. HasSegment types new t gap.holder.at (linked gap.holder.link at said)) k f.links) in
        let here : Contains o.between gap.holder.at = rows_keep o.lower gap.holder.at (contains_first gap.holder.at met) in
        let free : ¬ Contains o.between at = none_met o.lower (λ c. elim (contains_cases gap.holder.at met at c) as (λ _. ⊥)
        [ inl g ↦ not_new gap.holder.at 0 said h g | inr m ↦ none m ]) in
        let rest = roots_moved o.next (at ∷ o.between) (one_in_front at o.between) here in
        let it = root (lone types 0 said.next serial n.bytes) stands free
        (bare_rows types new (at ∷ o.between) (child_types types 0) n.children bare count) rest.are in
        let made = subst (λ (y : Root). AreRoots types new o.between at (y ∷ back) rest.now)
        (made_root n n.bytes n.children (newest serial) refl refl seqs) it in
        let all = root (record said { next = at }) links o.fresh
        (rows_stay o.lower (stay_behind (gap.holder.at ∷ met) o.between (contains_first gap.holder.at met))) made in
        record {
          now = rest.now;
          are = subst (λ (y : Root). AreRoots types new met gap.holder.at (y ∷ n ∷ back) rest.now) (sym o.same) all;
          more = rest.more;
          apart = o.fresh;
          holder_met = roots_keep o.next gap.holder.at here;
        }

    pub root_below : (place : Pointer) (t : Segment) (x y : Root) (back : List Root)
        → HasSegment types old 0 place t → HaveSameOwn x y → IsGapBelow types old 0 place x.children y.children gap
        → (met after : List Pointer) → ¬ Contains met at → AreRoots types old met place (x ∷ back) after
        → RootsFilled types new gap at met place (y ∷ back) after
    root_below place t x y back h own g met after none r =
        let o = root_is t h r in
        let down : o.down ≡ x.children = ap (λ (z : Root). z.children) (sym o.same) in
        let bytes : t.bytes ≡ y.bytes = ap (λ (z : Root). z.bytes) (sym o.same) ∙ own.0 in
        let seqs : newest t.serial ≡ y.seqs = ap (λ (z : Root). z.seqs) (sym o.same) ∙ own.1 in
        let b = g.fills new at f t h met o.between o.fresh none
        (subst (λ d. AreRows types old (place ∷ met) (child_types types 0) t.firsts d o.between) down o.lower) in
        let rest = roots_moved o.next b.now b.more b.holder_met in
        let all = root (record t { firsts = b.firsts }) b.has o.fresh b.are rest.are in
        record {
          now = rest.now;
          are = subst (λ (z : Root). AreRoots types new met place (z ∷ back) rest.now)
              (made_root y t.bytes y.children (newest t.serial) bytes refl seqs) all;
          more = rest.more;
          apart = b.apart;
          holder_met = roots_keep o.next gap.holder.at b.holder_met;
        }
