-- A gap that is found: behind a twin, in front of a row, or below a twin.
use Rattle.std.proofs.Common.{◌≡◌, ℕ, ◌<◌, true, false, get_or, zero, suc, List, [], ◌∷◌, ◌++◌, length, slice_get, Some, Contains, refl, sym, ap, ◌∙◌, subst, append_assoc, arith}
use Rattle.std.proofs.lemmas.Option.{slice_get_read, slice_get_within}
use Rattle.fp_model.specs.declared.definitions.SegDef.{SegDef}
use Rattle.fp_model.specs.WellFormed.{HavePlaces}
use Rattle.anchor_elements.specs.declared.element.First.{First}
use Rattle.fp_model.specs.declared.database.Node.{Node, out-Node}
use Rattle.fp_model.specs.declared.database.Root.{Root}
use Rattle.fp_model.specs.Order.{child_types}
use Rattle.anchor_elements.specs.declared.element.Said.{Said}
use Rattle.anchor_elements.specs.Elements.{Pointer, Segment, HasSegment, has_serial, segment_length}
use Rattle.anchor_elements.specs.Reading.{pointers_of, segment_of, types_of}
use Rattle.root_changes.specs.Differing.{DifferAt, HaveSameOwn}
use Rattle.root_changes.specs.Gaining.{OneMore, AreBare, RowGains}
use Rattle.root_changes.specs.Telling.{GainIn, GainWithin, HasNew, IsOwnNode, node_rows, root_rows}
use Rattle.root_changes.proofs.GainingLemmas.{more_read}
use Rattle.root_changes.proofs.ComparingLemmas.{shifted, front_same, rest_same, front_first, front_second}
use Rattle.root_anchor.specs.declared.gaps.Gap.{Gap}
use Rattle.root_anchor.specs.declared.gaps.Link.TheVariants.{FirstChild}
use Rattle.root_anchor.specs.Chains.{AreRows, AreRoots, newest}
use Rattle.root_anchor.specs.inside.Finding.{IsTwinAt}
use Rattle.root_anchor.specs.inside.Gaps.{HaveRow, IsRowAt, Fills, FitsGap, IsGapBelow, IsGapBehind, IsGapInRoots, HasThese}
use Rattle.root_anchor.proofs.FindingLemmas.{count_of, first_at, last_has}
use Rattle.root_anchor.proofs.GapLemmas.{RowFilled, RootsFilled, lone_stands, row_twins, row_behind, row_below, below_in_row, below_in_front, root_twins, root_behind, root_below}
use Rattle.root_anchor.proofs.OneChain.{one_segment}
use Rattle.root_anchor.proofs.TypeLemmas.{row-node, rows-count}
use Rattle.root_anchor.specs.inside.Rebuilding.{IsDirect}
use Rattle.root_anchor.specs.Stored.{rows_have_form}
use Rattle.root_anchor.specs.inside.Stored.{row_has_form}
use Rattle.plain_laws.proofs.Alls.{contains_nothing}

-- ---- lists

record SplitLast {A : Type 0} (front : List A) (k : ℕ) : Type 0 where
  init : List A
  last : A
  same : front ≡ init ++ last ∷ []
  count : length init ≡ k

split_last : {A : Type 0} (front : List A) (k : ℕ) → length front ≡ suc k → SplitLast front k
split_last [] k e = absurd (omega (arith, e))
split_last (a ∷ []) k e = record { init = []; last = a; same = refl; count = omega (arith, e) }
split_last (a ∷ b ∷ front) zero e = absurd (omega (arith, e))
split_last (a ∷ b ∷ front) (suc k) e =
    let r = split_last (b ∷ front) k (omega (arith, e)) in
    record { init = a ∷ r.init; last = r.last; same = ap (λ u. a ∷ u) r.same; count = ap suc r.count }

record DifferSplit {A : Type 0} (xs ys : List A) (k : ℕ) (x y : A) : Type 0 where
  front : List A
  back : List A
  first : xs ≡ front ++ x ∷ back
  second : ys ≡ front ++ y ∷ back
  count : length front ≡ k

differ_split : {A : Type 0} (k : ℕ) (xs ys : List A) (x y : A) → DifferAt xs ys k x y → DifferSplit xs ys k x y
differ_split k [] ys x y d = absurd (let h = d.first in cc)
differ_split k (a ∷ xs) [] x y d = absurd (let h = d.second in cc)
differ_split zero (a ∷ xs) (b ∷ ys) x y d = record {
  front = [];
  back = xs;
  first = ap (λ u. u ∷ xs) (front_first d);
  second = ap (λ u. u ∷ ys) (front_second d) ∙ ap (λ u. y ∷ u) (sym (rest_same d));
  count = refl;
}
differ_split (suc k) (a ∷ xs) (b ∷ ys) x y d =
    let r = differ_split k xs ys x y (shifted d) in
    record {
      front = a ∷ r.front;
      back = r.back;
      first = ap (λ u. a ∷ u) r.first;
      second = ap (λ u. u ∷ ys) (sym (front_same d)) ∙ ap (λ u. a ∷ u) r.second;
      count = ap suc r.count;
    }

-- ---- in a row

row_behind_twin : (types : List SegDef) (old new : List (List ℕ)) (gap : Gap) (at : Pointer) (kind : ℕ)
    (first : Pointer) (k serial : ℕ) (n : Node) (row other : List Node)
    → IsGapBehind types old kind first k serial (out-Node n).bytes gap → OneMore row other (suc k) n
    → AreBare (out-Node n).children → length (out-Node n).children ≡ length (child_types types kind)
    → Fills types old new gap at → (met after : List Pointer) → ¬ Contains met at
    → AreRows types old met (kind ∷ []) (first ∷ []) (row ∷ []) after
    → RowFilled types new gap at met kind first other after
row_behind_twin types old new gap at kind first k serial n row other b m bare count f met after none r =
    let w = split_last m.front k m.place in
    let was : row ≡ w.init ++ w.last ∷ m.back =
    m.fewer ∙ ap (λ u. u ++ m.back) w.same ∙ append_assoc w.init (w.last ∷ []) m.back in
    let now : other ≡ w.init ++ w.last ∷ n ∷ m.back =
    m.more ∙ ap (λ u. u ++ n ∷ m.back) w.same ∙ append_assoc w.init (w.last ∷ []) (n ∷ m.back) in
    let said : Segment = segment_of gap.holder.said in
    let stands = lone_stands types new at gap.added kind said.next serial (out-Node n).bytes f.stands b.added_type b.added_next
    b.added_serial b.added_bytes in
    subst (λ u. RowFilled types new gap at met kind first u after) (sym now)
    (row_twins types old new gap at f kind gap.holder.at said (w.last ∷ m.back) (w.last ∷ n ∷ m.back)
    (row_behind types old new gap at f kind serial n w.last m.back (last_has b.twin) b.is_type b.is_link stands bare
    count) w.init first (subst (λ j. IsTwinAt types old kind first j gap.holder.at said) (sym w.count) b.twin) met after
    none (subst (λ u. AreRows types old met (kind ∷ []) (first ∷ []) (u ∷ []) after) was r))

row_below_twin : (types : List SegDef) (old new : List (List ℕ)) (gap : Gap) (at : Pointer) (kind : ℕ)
    (first place : Pointer) (t : Segment) (k : ℕ) (x y : Node) (row other : List Node)
    → IsTwinAt types old kind first k place t → DifferAt row other k x y
    → (out-Node x).bytes ≡ (out-Node y).bytes
    → IsGapBelow types old kind place (out-Node x).children (out-Node y).children gap
    → Fills types old new gap at → (met after : List Pointer) → ¬ Contains met at
    → AreRows types old met (kind ∷ []) (first ∷ []) (row ∷ []) after
    → RowFilled types new gap at met kind first other after
row_below_twin types old new gap at kind first place t k x y row other w d own g f met after none r =
    let s = differ_split k row other x y d in
    subst (λ u. RowFilled types new gap at met kind first u after) (sym s.second)
    (row_twins types old new gap at f kind place t (x ∷ s.back) (y ∷ s.back)
    (row_below types old new gap at f kind place t x y s.back (last_has w) own g) s.front first
    (subst (λ j. IsTwinAt types old kind first j place t) (sym s.count) w) met after none
    (subst (λ u. AreRows types old met (kind ∷ []) (first ∷ []) (u ∷ []) after) s.first r))

-- ---- in the rows below a segment

-- the pointer to a row below a segment, whatever it is that it says
pointed : (types : List SegDef) (old : List (List ℕ)) (type : ℕ) (place : Pointer) (said : Said) (s : Segment) (j : ℕ)
    (first : Pointer) → HasSegment types old type place (segment_of said) → HasSegment types old type place s
    → slice_get (pointers_of said.firsts.items) j ≡ Some first → slice_get s.firsts j ≡ Some first
pointed types old type place said s j first h k p =
    subst (λ (t : Segment). slice_get t.firsts j ≡ Some first) (one_segment h k) p

pub gap_behind_twin : (types : List SegDef) (old : List (List ℕ)) (type kind : ℕ) (place first : Pointer) (said : Said)
    (j k serial : ℕ) (n : Node) (row other : List Node) (rows others : List (List Node)) (gap : Gap)
    → slice_get (child_types types type) j ≡ Some kind → slice_get (pointers_of said.firsts.items) j ≡ Some first
    → DifferAt rows others j row other → HasSegment types old type place (segment_of said)
    → IsGapBehind types old kind first k serial (out-Node n).bytes gap → OneMore row other (suc k) n
    → AreBare (out-Node n).children → length (out-Node n).children ≡ length (child_types types kind)
    → IsGapBelow types old type place rows others gap
gap_behind_twin types old type kind place first said j k serial n row other rows others gap c p d h b m bare count =
    record {
      there = subst (λ t. HasSegment types old t gap.holder.at (segment_of gap.holder.said)) (sym b.is_type)
          (last_has b.twin);
      fills = λ new at f s has met after fresh none r.
          below_in_row types old new gap at f type kind place first s row other j rows others c
          (pointed types old type place said s j first h has p) d
          (row_behind_twin types old new gap at kind first k serial n row other b m bare count f) has met after none r;
    }

pub gap_below_twin : (types : List SegDef) (old : List (List ℕ)) (type kind : ℕ) (place first twin : Pointer)
    (said : Said) (t : Segment) (j k : ℕ) (x y : Node) (row other : List Node) (rows others : List (List Node))
    (gap : Gap) → slice_get (child_types types type) j ≡ Some kind
    → slice_get (pointers_of said.firsts.items) j ≡ Some first
    → DifferAt rows others j row other → HasSegment types old type place (segment_of said)
    → IsTwinAt types old kind first k twin t → DifferAt row other k x y → (out-Node x).bytes ≡ (out-Node y).bytes
    → IsGapBelow types old kind twin (out-Node x).children (out-Node y).children gap
    → IsGapBelow types old type place rows others gap
gap_below_twin types old type kind place first twin said t j k x y row other rows others gap c p d h w e own g = record {
  there = g.there;
  fills = λ new at f s has met after fresh none r.
      below_in_row types old new gap at f type kind place first s row other j rows others c
      (pointed types old type place said s j first h has p) d
      (row_below_twin types old new gap at kind first twin t k x y row other w e own g f) has met after none r;
}

pub gap_in_front : (types : List SegDef) (old : List (List ℕ)) (type kind : ℕ) (place first : Pointer) (said : Said)
    (j serial : ℕ) (n : Node) (row other : List Node) (rows others : List (List Node)) (gap : Gap)
    → slice_get (child_types types type) j ≡ Some kind → slice_get (pointers_of said.firsts.items) j ≡ Some first
    → DifferAt rows others j row other → HasSegment types old type place (segment_of said) → other ≡ n ∷ row
    → AreBare (out-Node n).children → length (out-Node n).children ≡ length (child_types types kind)
    → gap.holder.segment ≡ type → gap.holder.at ≡ place → gap.holder.said ≡ said → gap.holder.link ≡ FirstChild j
    → gap.added.segment ≡ kind → gap.added.next ≡ first → gap.added.serial ≡ serial
    → gap.added.bytes.now ≡ (out-Node n).bytes → IsGapBelow types old type place rows others gap
gap_in_front types old type kind place first said j serial n row other rows others gap c p d h o bare count is_type is_at
    is_said is_link added_type next ser bytes =
    let said_there : HasSegment types old type place (segment_of gap.holder.said) =
    subst (λ (u : Said). HasSegment types old type place (segment_of u)) (sym is_said) h in
    record {
      there = subst (λ t. HasSegment types old t gap.holder.at (segment_of gap.holder.said)) (sym is_type)
          (subst (λ q. HasSegment types old type q (segment_of gap.holder.said)) (sym is_at) said_there);
      fills = λ new at f s has met after fresh none r.
          below_in_front types old new gap at f type kind place first s n serial row other j rows others c
          (pointed types old type place said s j first h has p) d o is_type (sym is_at) is_link said_there
          (lone_stands types new at gap.added kind first serial (out-Node n).bytes f.stands added_type next ser bytes)
          bare count has met after fresh none r;
    }

-- ---- in the roots

has_these : {types : List SegDef} {new : List (List ℕ)} {gap : Gap} {at first : Pointer} {roots : List Root}
    {after : List Pointer} → RootsFilled types new gap at [] first roots after
    → HasThese types new gap at first roots after
has_these r = record { now = r.now; are = r.are; more = r.more; holder_met = r.holder_met }

pub gap_behind_root : (types : List SegDef) (old : List (List ℕ)) (first : Pointer) (k serial : ℕ) (n : Root)
    (roots others : List Root) (gap : Gap) → IsGapBehind types old 0 first k serial n.bytes gap
    → OneMore roots others (suc k) n → newest serial ≡ n.seqs → AreBare n.children
    → length n.children ≡ length (child_types types 0) → IsGapInRoots types old first roots others gap
gap_behind_root types old first k serial n roots others gap b m seqs bare count =
    let w = split_last m.front k m.place in
    let was : roots ≡ w.init ++ w.last ∷ m.back =
    m.fewer ∙ ap (λ u. u ++ m.back) w.same ∙ append_assoc w.init (w.last ∷ []) m.back in
    let now : others ≡ w.init ++ w.last ∷ n ∷ m.back =
    m.more ∙ ap (λ u. u ++ n ∷ m.back) w.same ∙ append_assoc w.init (w.last ∷ []) (n ∷ m.back) in
    let said : Segment = segment_of gap.holder.said in
    record {
      there = subst (λ t. HasSegment types old t gap.holder.at said) (sym b.is_type) (last_has b.twin);
      fills = λ new at f after r.
          (let stands = lone_stands types new at gap.added 0 said.next serial n.bytes f.stands b.added_type b.added_next
          b.added_serial b.added_bytes in
          has_these (subst (λ u. RootsFilled types new gap at [] first u after) (sym now)
          (root_twins types old new gap at f gap.holder.at said (w.last ∷ m.back) (w.last ∷ n ∷ m.back)
          (root_behind types old new gap at f serial n w.last m.back (last_has b.twin) b.is_type b.is_link seqs stands
          bare count) w.init first (subst (λ j. IsTwinAt types old 0 first j gap.holder.at said) (sym w.count) b.twin)
          [] after (contains_nothing at) (subst (λ u. AreRoots types old [] first u after) was r))));
    }

pub gap_below_root : (types : List SegDef) (old : List (List ℕ)) (first twin : Pointer) (t : Segment) (k : ℕ)
    (x y : Root) (roots others : List Root) (gap : Gap) → IsTwinAt types old 0 first k twin t
    → DifferAt roots others k x y → HaveSameOwn x y → IsGapBelow types old 0 twin x.children y.children gap
    → IsGapInRoots types old first roots others gap
gap_below_root types old first twin t k x y roots others gap w d own g =
    let s = differ_split k roots others x y d in
    record {
      there = g.there;
      fills = λ new at f after r.
          has_these (subst (λ u. RootsFilled types new gap at [] first u after) (sym s.second)
          (root_twins types old new gap at f twin t (x ∷ s.back) (y ∷ s.back)
          (root_below types old new gap at f twin t x y s.back (last_has w) own g) s.front first
          (subst (λ j. IsTwinAt types old 0 first j twin t) (sym s.count) w) [] after (contains_nothing at)
          (subst (λ u. AreRoots types old [] first u after) s.first r)));
    }

-- ---- what is read there

pub differ_read : {A : Type 0} (xs ys : List A) (k : ℕ) (x y a b : A) → DifferAt xs ys k x y → a ≡ get_or xs k a
    → b ≡ get_or ys k b → (DifferAt xs ys k a b × (x ≡ a)) × (y ≡ b)
differ_read xs ys k x y a b d p q =
    let first : slice_get xs k ≡ Some a = slice_get_read xs (length xs) k a refl
    (slice_get_within xs k x d.first) p in
    let second : slice_get ys k ≡ Some b = slice_get_read ys (length ys) k b refl
    (slice_get_within ys k y d.second) q in
    let f = d.first in
    let s = d.second in
    let e : x ≡ a = cc in
    let g : y ≡ b = cc in
    ((record { first = first; second = second; elsewhere = d.elsewhere }, e), g)

pub differ_within : {A : Type 0} (xs ys : List A) (k : ℕ) (x y : A) → DifferAt xs ys k x y
    → (k < length xs) × (k < length ys)
differ_within xs ys k x y d = (slice_get_within xs k x d.first, slice_get_within ys k y d.second)

-- a row that gains one segment is there
pub have_row : (types : List SegDef) (parent : ℕ) (firsts : List First) (rows others : List (List Node)) (j : ℕ)
    → types_of firsts ≡ child_types types parent
    → rows_have_form types (child_types types parent) others ≡ true → GainIn rows others j
    → HaveRow firsts rows others j
have_row types parent firsts rows others j c f g =
    let w = differ_within rows others j g.lower g.more g.at in
    record {
      in_firsts = omega (
        arith,
        w.1,
        rows-count types (child_types types parent) others f,
        count_of firsts (child_types types parent) c,
      );
      in_rows = w.0;
      in_others = w.1;
    }

pub row_at : (types : List SegDef) (parent : ℕ) (firsts : List First) (rows others : List (List Node)) (j : ℕ)
    (first : First) (row other : List Node) → HavePlaces 0 types → types_of firsts ≡ child_types types parent
    → rows_have_form types (child_types types parent) others ≡ true → GainIn rows others j
    → slice_get firsts j ≡ Some first → row ≡ get_or rows j row → other ≡ get_or others j other
    → IsRowAt types parent firsts rows others j first row other
row_at types parent firsts rows others j first row other h c f g e p q =
    let b = have_row types parent firsts rows others j c f g in
    let d = differ_read rows others j g.lower g.more row other g.at p q in
    record {
      it = first_at types parent firsts others j first other h c f b.in_firsts b.in_others e q;
      at = d.0.0;
      gains = subst (λ u. RowGains row u) d.1 (subst (λ u. RowGains u g.more) d.0.1 g.gains);
    }

-- ---- as slices

pub gain_as : (rows others slice other_slice : List (List Node)) (j : ℕ) → slice ≡ rows → other_slice ≡ others
    → GainIn rows others j → GainIn slice other_slice j
gain_as rows others slice other_slice j e f g =
    subst (λ u. GainIn slice u j) (sym f) (subst (λ u. GainIn u others j) (sym e) g)

pub below_as : (types : List SegDef) (area now : List (List ℕ)) (kind : ℕ) (place : Pointer)
    (rows others slice other_slice : List (List Node)) (gap : Gap) → now ≡ area → slice ≡ rows → other_slice ≡ others
    → IsGapBelow types now kind place slice other_slice gap → IsGapBelow types area kind place rows others gap
below_as types area now kind place rows others slice other_slice gap a e f g =
    subst (λ u. IsGapBelow types area kind place rows u gap) f
    (subst (λ u. IsGapBelow types area kind place u other_slice gap) e
    (subst (λ u. IsGapBelow types u kind place slice other_slice gap) a g))

-- the new segment, as it is read
pub record NewRead (row other : List Node) (k : ℕ) (z : Node) : Type 0 where
  pub within : k < length other
  pub more : OneMore row other k z
  pub bare : AreBare (out-Node z).children

pub new_read : (row other : List Node) (k : ℕ) (z : Node) → HasNew node_rows row other k → z ≡ get_or other k z
    → NewRead row other k z
new_read row other k z h e =
    let m = more_read row other k h.item z h.more e in
    record {
      within = m.0;
      more = subst (λ u. OneMore row other k u) (sym m.1) h.more;
      bare = subst (λ (u : Node). AreBare (out-Node u).children) (sym m.1) h.bare;
    }

pub count_below : (types : List SegDef) (kind : ℕ) (row other : List Node) (k : ℕ) (z : Node)
    → row_has_form types kind other ≡ true → NewRead row other k z → z ≡ get_or other k z
    → length (out-Node z).children ≡ length (child_types types kind)
count_below types kind row other k z f n e =
    rows-count types (child_types types kind) (out-Node z).children (row-node types kind other k z f n.within e).rows

-- the two twins below which a segment comes, as they are read
pub record WithinRead (row other : List Node) (k j : ℕ) (a b : Node) : Type 0 where
  pub at : DifferAt row other k a b
  pub within : k < length row
  pub within_other : k < length other
  pub own : (out-Node a).bytes ≡ (out-Node b).bytes
  pub below : GainIn (out-Node a).children (out-Node b).children j

pub within_read : (row other : List Node) (k j : ℕ) (a b : Node) → GainWithin IsOwnNode node_rows row other k j
    → a ≡ get_or row k a → b ≡ get_or other k b → WithinRead row other k j a b
within_read row other k j a b w p q =
    let d = differ_read row other k w.x w.y a b w.at p q in
    let l = differ_within row other k w.x w.y w.at in
    record {
      at = d.0.0;
      within = l.0;
      within_other = l.1;
      own = subst (λ (u : Node). (out-Node a).bytes ≡ (out-Node u).bytes) d.1
          (subst (λ (u : Node). (out-Node u).bytes ≡ (out-Node w.y).bytes) d.0.1 w.own);
      below = subst (λ (u : Node). GainIn (out-Node a).children (out-Node u).children j) d.1
          (subst (λ (u : Node). GainIn (out-Node u).children (out-Node w.y).children j) d.0.1 w.below);
    }

-- the same of roots
pub record RootWithinRead (roots others : List Root) (k j : ℕ) (a b : Root) : Type 0 where
  pub at : DifferAt roots others k a b
  pub within : k < length roots
  pub within_other : k < length others
  pub own : HaveSameOwn a b
  pub below : GainIn a.children b.children j

pub root_within_read : (roots others : List Root) (k j : ℕ) (a b : Root)
    → GainWithin HaveSameOwn root_rows roots others k j
    → a ≡ get_or roots k a → b ≡ get_or others k b → RootWithinRead roots others k j a b
root_within_read roots others k j a b w p q =
    let d = differ_read roots others k w.x w.y a b w.at p q in
    let l = differ_within roots others k w.x w.y w.at in
    record {
      at = d.0.0;
      within = l.0;
      within_other = l.1;
      own = subst (λ u. HaveSameOwn a u) d.1 (subst (λ u. HaveSameOwn u w.y) d.0.1 w.own);
      below = subst (λ (u : Root). GainIn a.children u.children j) d.1
          (subst (λ (u : Root). GainIn u.children w.y.children j) d.0.1 w.below);
    }

pub record RootNewRead (roots others : List Root) (k : ℕ) (z : Root) : Type 0 where
  pub within : k < length others
  pub more : OneMore roots others k z
  pub bare : AreBare z.children

pub root_new_read : (roots others : List Root) (k : ℕ) (z : Root) → HasNew root_rows roots others k
    → z ≡ get_or others k z → RootNewRead roots others k z
root_new_read roots others k z h e =
    let m = more_read roots others k h.item z h.more e in
    record {
      within = m.0;
      more = subst (λ u. OneMore roots others k u) (sym m.1) h.more;
      bare = subst (λ (u : Root). AreBare u.children) (sym m.1) h.bare;
    }

-- the gap in front of a row fits its types
pub front_fits : (types : List SegDef) (type kind : ℕ) (said : Said) (bytes : List ℕ) (gap : Gap)
    → IsDirect types type → IsDirect types kind → types_of said.firsts.items ≡ child_types types type
    → length said.bytes ≡ segment_length types type → (has_serial types type ≡ false → said.serial ≡ 0)
    → length bytes ≡ segment_length types kind → gap.holder.segment ≡ type → gap.holder.said ≡ said
    → gap.added.segment ≡ kind → gap.added.serial ≡ 0 → gap.added.bytes.now ≡ bytes → FitsGap types gap
front_fits types type kind said bytes gap d k c l s b is_type is_said is_kind none has = record {
  added = record {
    direct = subst (λ u. IsDirect types u) (sym is_kind) k;
    bytes = ap length has ∙ b ∙ ap (segment_length types) (sym is_kind);
    serial = λ e. none;
  };
  holder = record {
    direct = subst (λ u. IsDirect types u) (sym is_type) d;
    firsts = ap (λ (u : Said). length u.firsts.items) is_said ∙ count_of said.firsts.items (child_types types type) c
        ∙ ap (λ u. length (child_types types u)) (sym is_type);
    bytes = ap (λ (u : Said). length u.bytes) is_said ∙ l ∙ ap (segment_length types) (sym is_type);
    serial = λ e. ap (λ (u : Said). u.serial) is_said ∙ s (sym (ap (has_serial types) is_type) ∙ e);
  };
}
