-- A newest serial that is set.
use Rattle.std.proofs.Common.{◌≡◌, ◌≢◌, Option, Some, IfSome, ℕ, zero, suc, ◌<◌, inl, inr, List, [], ◌∷◌, Contains, refl, sym, subst, ◌∙◌}
use Rattle.ci_space.specs.declared.intervals.Shape.{Shape}
use Rattle.ci_space.specs.Interval.{IsUsed}
use Rattle.ci_overflow.specs.Lists.{bytes_at}
use Rattle.ci_overflow.specs.Places.{base_of}
use Rattle.fp_model.specs.declared.definitions.SegDef.{SegDef}
use Rattle.fp_model.specs.declared.database.Root.{Root}
use Rattle.anchor_elements.specs.Elements.{Pointer, Segment, HasSegment}
use Rattle.anchor_elements.specs.Puts.{PutsSegment}
use Rattle.anchor_elements.proofs.Pointers.{pointer_or}
use Rattle.root_anchor.specs.Chains.{AreRoots, no_root, root, root_of, IsChain, anchor_count}
use Rattle.root_anchor.specs.Formed.{HasChain, Meets, IsFormed}
use Rattle.root_anchor.specs.Newest.{with_newest, SetsNewest}
use Rattle.root_anchor.specs.declared.places.RootPlace.{RootPlace}
use Rattle.root_anchor.specs.Roots.{IsRootAt, this_root, later_root}
use Rattle.root_anchor.specs.Stored.{OthersKeep}
use Rattle.root_anchor.proofs.Framing.{Stay, rows_keep, rows_stay, roots_keep, roots_stay}
use Rattle.root_anchor.proofs.OneChain.{one_segment, one_chain, none_at_nothing}
use Rattle.root_anchor.proofs.PutLemmas.{put_keeps_segment, put_keeps_place, put_keeps_roots, put_keeps_order, put_adds_no_used}
use Rattle.root_anchor.proofs.RootLemmas.{root_at_first, root_at_later}
use Rattle.plain_laws.proofs.Alls.{contains_first, contains_later}
use Rattle.plain_laws.proofs.Numbers.{same_or_other}

pub root_has : {types : List SegDef} {area : List (List ℕ)} {at place : Pointer} {k : ℕ} {t : Segment}
    → IsRootAt types area at k place t → HasSegment types area 0 place t
root_has (this_root has) = has
root_has (later_root s has r) = root_has r

root_at_place : {types : List SegDef} {area : List (List ℕ)} {at place : Pointer} {t : Segment}
    → IsRootAt types area at 0 place t → place ≡ at
root_at_place (this_root has) = refl

-- a root of the chain wasn't met before it
fresh_root : {types : List SegDef} {area : List (List ℕ)} {met : List Pointer} {at : Pointer} {roots : List Root}
    {after : List Pointer} → AreRoots types area met at roots after → (k : ℕ) (place : Pointer) (t : Segment)
    → IsRootAt types area at k place t → ¬ Contains met place
fresh_root no_root zero place t r c = none_at_nothing (root_at_first r) refl
fresh_root no_root (suc k) place t r c = none_at_nothing (root_at_later k r).has refl
fresh_root {types} {area} (root {met = met} {at = at} s has fresh lower next) zero place t r c =
    fresh (subst (Contains met) (root_at_place r) c)
fresh_root {types} {area} (root {met = met} {at = at} s has fresh lower next) (suc k) place t r c =
    let l = root_at_later k r in
    let e : l.s ≡ s = one_segment l.has has in
    fresh_root next k place t (subst (λ (x : Segment). IsRootAt types area x.next k place t) e l.is_root)
    (rows_keep lower place (contains_later at met place c))

-- it is met behind it
met_root : {types : List SegDef} {area : List (List ℕ)} {met : List Pointer} {at : Pointer} {roots : List Root}
    {after : List Pointer} → AreRoots types area met at roots after → (k : ℕ) (place : Pointer) (t : Segment)
    → IsRootAt types area at k place t → Contains after place
met_root no_root zero place t r = absurd (none_at_nothing (root_at_first r) refl)
met_root no_root (suc k) place t r = absurd (none_at_nothing (root_at_later k r).has refl)
met_root {types} {area} (root {met = met} {at = at} s {after = after} has fresh lower next) zero place t r =
    subst (Contains after) (sym (root_at_place r)) (roots_keep next at (rows_keep lower at (contains_first at met)))
met_root {types} {area} (root {met = met} {at = at} s has fresh lower next) (suc k) place t r =
    let l = root_at_later k r in
    let e : l.s ≡ s = one_segment l.has has in
    met_root next k place t (subst (λ (x : Segment). IsRootAt types area x.next k place t) e l.is_root)

-- the roots with the newest serial that was set
newest_roots : {types : List SegDef} {old : List (List ℕ)} {met : List Pointer} {at : Pointer} {roots : List Root}
    {after : List Pointer} → AreRoots types old met at roots after → (new : List (List ℕ)) (k n : ℕ) (place : Pointer)
    (t : Segment) → IsRootAt types old at k place t → PutsSegment types old new 0 place (record t { serial = n })
    → AreRoots types new met at (with_newest k n roots) after
newest_roots no_root new zero n place t r p = absurd (none_at_nothing (root_at_first r) refl)
newest_roots no_root new (suc k) n place t r p = absurd (none_at_nothing (root_at_later k r).has refl)
newest_roots {types} {old} (root {met = met} {at = at} s {between = between} {after = after} has fresh lower next) new
    zero n place t r p =
    let e : place ≡ at = root_at_place r in
    let f : t ≡ s = one_segment (root_at_first r) has in
    let says : HasSegment types new 0 at (record s { serial = n }) =
    subst (λ (x : Segment). HasSegment types new 0 at (record x { serial = n })) f
    (subst (λ (q : Pointer). HasSegment types new 0 q (record t { serial = n })) e p.stands) in
    let keeps : (q : Pointer) (type : ℕ) (x : Segment) → q ≢ at → HasSegment types old type q x
    → HasSegment types new type q x =
    λ q type x d h. put_keeps_segment types old new 0 place (record t { serial = n }) p type q x (λ g. d (g ∙ e)) h in
    let low : Stay types old new (at ∷ met) between = record {
      each = λ q c apart type x h. keeps q type x
          (λ g. apart (subst (Contains (at ∷ met)) (sym g) (contains_first at met))) h;
    } in
    let high : Stay types old new between after = record {
      each = λ q c apart type x h. keeps q type x
          (λ g. apart (subst (Contains between) (sym g) (rows_keep lower at (contains_first at met)))) h;
    } in
    root (record s { serial = n }) says fresh (rows_stay lower low) (roots_stay next high)
newest_roots {types} {old} (root {met = met} {at = at} s {between = between} has fresh lower next) new (suc k) n place t
    r p =
    let l = root_at_later k r in
    let e : l.s ≡ s = one_segment l.has has in
    let later : IsRootAt types old s.next k place t =
    subst (λ (x : Segment). IsRootAt types old x.next k place t) e l.is_root in
    let none : ¬ Contains between place = fresh_root next k place t later in
    let keeps : (q : Pointer) (type : ℕ) (x : Segment) → Contains between q → HasSegment types old type q x
    → HasSegment types new type q x =
    λ q type x c h. put_keeps_segment types old new 0 place (record t { serial = n }) p type q x
    (λ g. none (subst (Contains between) g c)) h in
    let low : Stay types old new (at ∷ met) between = record { each = λ q c apart type x h. keeps q type x c h } in
    root s (keeps at 0 s (rows_keep lower at (contains_first at met)) has) fresh (rows_stay lower low)
    (newest_roots next new k n place t later p)

module _ (shape : Shape) (types : List SegDef) (old new : List (List ℕ)) (anchor number serial : ℕ)
    (it : SetsNewest shape types old new anchor number serial) where
  puts : PutsSegment types old new 0 it.place (record it.segment { serial = serial })
  puts = it.puts

  same_root : (other : ℕ) → root_of shape new other ≡ root_of shape old other
  same_root = put_keeps_roots shape types old new 0 it.place (record it.segment { serial = serial }) puts

  -- the anchor has its roots with it, in the same elements
  pub newest_chain : (roots : List Root) (elements : List Pointer) → IsChain shape types old anchor roots elements
      → IsChain shape types new anchor (with_newest number serial roots) elements
  newest_chain roots elements c = record {
    base = put_keeps_place shape types old new 0 it.place (record it.segment { serial = serial }) puts
        (base_of shape anchor) c.base;
    are_roots = subst (λ p. AreRoots types new [] p (with_newest number serial roots) elements) (sym (same_root anchor))
        (newest_roots c.are_roots new number serial it.place it.segment it.is_root puts);
  }

  -- an anchor that hasn't this element keeps its roots
  pub newest_apart : (other : ℕ) (roots : List Root) (elements : List Pointer)
      → IsChain shape types old other roots elements → ¬ Contains elements it.place
      → IsChain shape types new other roots elements
  newest_apart other roots elements c d =
      let stay : Stay types old new [] elements = record {
        each = λ q h apart type x k. put_keeps_segment types old new 0 it.place (record it.segment { serial = serial })
            puts type q x (λ g. d (subst (Contains elements) g h)) k;
      } in
      record {
        base = put_keeps_place shape types old new 0 it.place (record it.segment { serial = serial }) puts
            (base_of shape other) c.base;
        are_roots = subst (λ p. AreRoots types new [] p roots elements) (sym (same_root other))
            (roots_stay c.are_roots stay);
      }

  module _ (formed : IsFormed shape types old) (below : anchor < anchor_count shape) where
    mine : HasChain shape types old anchor
    mine = formed.chains anchor below

    meets_place : Meets shape types old anchor it.place
    meets_place = record {
      roots = mine.roots;
      elements = mine.elements;
      is_chain = mine.is_chain;
      met = met_root mine.is_chain.are_roots number it.place it.segment it.is_root;
    }

    others_stay : (other : ℕ) (roots : List Root) (elements : List Pointer) → other < anchor_count shape
        → ¬ (other ≡ anchor) → IsChain shape types old other roots elements
        → IsChain shape types new other roots elements
    others_stay other roots elements b n c = newest_apart other roots elements c
        (λ h. n (formed.apart other anchor it.place b below
        (record { roots = roots; elements = elements; is_chain = c; met = h }) meets_place))

    pub newest_others : OthersKeep shape types old new anchor
    newest_others = record { keep = others_stay }

    -- each anchor's chain stands, in the elements that it had
    record StaysAt (other : ℕ) (elements : List Pointer) : Type 0 where
      roots : List Root
      is_chain : IsChain shape types new other roots elements

    stays_at : (other : ℕ) (b : other < anchor_count shape)
        → StaysAt other (formed.chains other b).elements
    stays_at other b = elim (same_or_other other anchor) as (λ _. StaysAt other (formed.chains other b).elements) [
      | inl e ↦
          let c = (formed.chains other b).is_chain in
          let P : ℕ → Type 0 = λ k. IsChain shape types old k (formed.chains other b).roots (formed.chains other
          b).elements
          in
          let Q : ℕ → Type 0 = λ k. IsChain shape types new k (with_newest number serial (formed.chains other b).roots)
          (formed.chains other b).elements in
          record {
            roots = with_newest number serial (formed.chains other b).roots;
            is_chain = subst Q (sym e) (newest_chain (formed.chains other b).roots (formed.chains other b).elements
                (subst P e c));
          }
      | inr n ↦ record {
        roots = (formed.chains other b).roots;
        is_chain = others_stay other (formed.chains other b).roots (formed.chains other b).elements b n
            (formed.chains other b).is_chain;
      }
    ]

    met_before : (other : ℕ) (at : Pointer) → other < anchor_count shape → Meets shape types new other at
        → Meets shape types old other at
    met_before other at b m =
        let s = stays_at other b in
        let h = formed.chains other b in
        let P : List Pointer → Type 0 = λ xs. Contains xs at in
        record {
          roots = h.roots;
          elements = h.elements;
          is_chain = h.is_chain;
          met = subst P ((one_chain m.is_chain s.is_chain).1) m.met;
        }

    met_now : (other : ℕ) (at : Pointer) → other < anchor_count shape → Meets shape types old other at
        → Meets shape types new other at
    met_now other at b m =
        let s = stays_at other b in
        let h = formed.chains other b in
        let P : List Pointer → Type 0 = λ xs. Contains xs at in
        record {
          roots = s.roots;
          elements = h.elements;
          is_chain = s.is_chain;
          met = subst P ((one_chain m.is_chain h.is_chain).1) m.met;
        }

    used_before : (at : Pointer) → IsUsed (bytes_at new at.0) at.1 → IsUsed (bytes_at old at.0) at.1
    used_before at u = elim (pointer_or at it.place) as (λ _. IsUsed (bytes_at old at.0) at.1) [
      | inl e ↦
          let has = root_has it.is_root in
          let P : Pointer → Type 0 = λ p. IsUsed (bytes_at old p.0) p.1 in
          subst P (sym e) (record { segment = 0; content = has.content; used = has.used })
      | inr n ↦ record {
        segment = u.segment;
        content = u.content;
        used = put_adds_no_used types old new 0 it.place (record it.segment { serial = serial }) puts at u.segment
            u.content n u.used;
      }
    ]

    pub newest_formed : IsFormed shape types new
    newest_formed =
        let u : IsUsed (bytes_at old it.place.0) it.place.1 = record {
          segment = 0;
          content = (root_has it.is_root).content;
          used = (root_has it.is_root).used;
        } in
        record {
          in_order = put_keeps_order shape types old new 0 it.place (record it.segment { serial = serial })
              formed.in_order u puts;
          chains = λ other b. (let s = stays_at other b in
              record { roots = s.roots; elements = (formed.chains other b).elements; is_chain = s.is_chain });
          apart = λ a b at x y m n. formed.apart a b at x y (met_before a at x m) (met_before b at y n);
          each_met = λ at w. (let m = formed.each_met at (used_before at w) in
              record { anchor = m.anchor; below = m.below; meets = met_now m.anchor at m.below m.meets });
        }

-- what is put with another newest serial, said of what stood there
pub newest_puts : (types : List SegDef) (old mid new : List (List ℕ)) (at : Pointer) (s said : Segment)
    (firsts : List Pointer) (bytes : List ℕ) (serial : ℕ)
    → PutsSegment types mid new 0 at (record { next = said.next; serial = serial; firsts = firsts; bytes = bytes })
    → mid ≡ old → said ≡ s → firsts ≡ said.firsts → bytes ≡ said.bytes
    → PutsSegment types old new 0 at (record s { serial = serial })
newest_puts types old mid new at s said firsts bytes serial p e f x y =
    subst (λ (q : Segment). PutsSegment types old new 0 at (record q { serial = serial })) f
    (subst (λ (b : List ℕ). PutsSegment types old new 0 at
    (record { next = said.next; serial = serial; firsts = said.firsts; bytes = b })) y
    (subst (λ (ps : List Pointer). PutsSegment types old new 0 at
    (record { next = said.next; serial = serial; firsts = ps; bytes = bytes })) x
    (subst (λ (a : List (List ℕ)). PutsSegment types a new 0 at
    (record { next = said.next; serial = serial; firsts = firsts; bytes = bytes })) e p)))

-- a place that was found
pub root_found : (o : Option RootPlace) (place : RootPlace) (P : RootPlace → Type 0) → o ≡ Some place → IfSome o P
    → P place
root_found o place P e p = subst (λ (q : Option RootPlace). IfSome q P) e p
