-- An anchor's roots with one segment more: the pointer to it leads there, and every other element stays.
use Rattle.std.proofs.Common.{◌≡◌, ◌≢◌, ◌⊎◌, inl, inr, ℕ, ◌<◌, List, [], ◌∷◌, ◌++◌, length, replicate, Contains, None, Result, Ok, Err, IfOk, refl, sym, ap, ◌∙◌, subst, arith}
use Rattle.std.proofs.lemmas.List.{append-nil}
use Rattle.std.proofs.lemmas.List.Elements.{Contains-append_left, Contains-append_right, Contains-append_cases}
use Rattle.ci_space.specs.declared.intervals.Shape.{Shape}
use Rattle.ci_space.specs.Interval.{IsUsed}
use Rattle.ci_space.proofs.Contents.{used-type}
use Rattle.ci_overflow.specs.Lists.{bytes_at, IsInOrder, IsInPlace}
use Rattle.ci_overflow.specs.Places.{base_of, first_base, uow_of}
use Rattle.ci_overflow.specs.Rooms.{IsOwnRoom}
use Rattle.ci_overflow.specs.inside.Rooms.{TakesOne}
use Rattle.fp_model.specs.declared.definitions.SegDef.{SegDef}
use Rattle.fp_model.specs.declared.database.Node.{Node}
use Rattle.fp_model.specs.declared.database.Root.{Root}
use Rattle.fp_model.specs.Order.{child_types}
use Rattle.anchor_elements.specs.Elements.{Pointer, nothing, Segment, HasSegment, content_length}
use Rattle.anchor_elements.specs.Puts.{PutsSegment}
use Rattle.anchor_elements.specs.Reading.{segment_of}
use Rattle.anchor_elements.proofs.Pointers.{pointer_or}
use Rattle.root_changes.specs.Gaining.{AreBare}
use Rattle.root_anchor.specs.declared.gaps.Added.{Added}
use Rattle.root_anchor.specs.declared.gaps.Gap.{Gap}
use Rattle.root_anchor.specs.declared.gaps.Link.{Link}
use Rattle.root_anchor.specs.declared.gaps.Link.TheVariants.{Next, FirstChild}
use Rattle.root_anchor.specs.declared.standing.Standing.{Standing}
use Rattle.root_anchor.specs.Chains.{AreRows, no_row, row_end, segment, AreRoots, no_root, root, newest, root_of, anchor_count, IsChain}
use Rattle.root_anchor.specs.Differing.{ChangesAlone}
use Rattle.root_anchor.specs.Formed.{HasRoots, IsFormed, NewAreOwn}
use Rattle.root_anchor.specs.Gaps.{AddsOne, FewChange, SegmentsStay, StaysIn}
use Rattle.root_anchor.specs.inside.Gaps.{linked, Refills, Fills, MeetsOneMore, IsGapInRoots, Adds, AddsBehind, AddsInFront, says_added, links_to}
use Rattle.root_anchor.specs.Keeping.{KeepsElements}
use Rattle.root_anchor.specs.inside.Puts.{PutsRoot}
use Rattle.root_anchor.specs.inside.Rebuilding.{Exchanges, AreApart, RootsStand, Rebuilds, Shares, met_after}
use Rattle.root_anchor.specs.inside.Standing.{places_of, AreStanding}
use Rattle.root_anchor.specs.inside.Storing.{IsStored}
use Rattle.root_anchor.specs.Stored.{ApartKeep}
use Rattle.root_anchor.proofs.AloneLemmas.{alone_chain, made_root}
use Rattle.root_anchor.proofs.Apart.{contains-one, holds_or, met-now, met-cases}
use Rattle.root_anchor.proofs.Exchanging.{used-stays, exchange-both}
use Rattle.root_anchor.proofs.Framing.{Stay, roots_stay, roots_behind}
use Rattle.root_anchor.proofs.GapLemmas.{bare_rows, lone, lone_stands}
use Rattle.root_anchor.proofs.OwnLemmas.{put_keeps_own, root_keeps_own}
use Rattle.root_anchor.proofs.OneChain.{one_segment, one_chain, chain_has}
use Rattle.root_anchor.proofs.PutLemmas.{root_keeps_segment, put_keeps_segment, segment_stays}
use Rattle.root_anchor.proofs.Rebuilt.{place-stays, is-stored, apart-kept, own-kept}
use Rattle.root_anchor.proofs.Steps.{finds-place, put-there, puts-segment, takes-one}
use Rattle.plain_laws.proofs.Alls.{contains_cases, contains_first, contains_later, contains_nothing}

-- ---- what was met, each once, and from its end

rows_once : {types : List SegDef} {area : List (List ℕ)} {met : List Pointer} {kinds : List ℕ} {firsts : List Pointer}
    {rows : List (List Node)} {after : List Pointer} → AreRows types area met kinds firsts rows after → AreApart met
    → AreApart after
rows_once no_row a = a
rows_once (row_end next) a = rows_once next a
rows_once (segment s has fresh lower next) a = rows_once next (rows_once lower (fresh, a))

roots_once : {types : List SegDef} {area : List (List ℕ)} {met : List Pointer} {first : Pointer} {roots : List Root}
    {after : List Pointer} → AreRoots types area met first roots after → AreApart met → AreApart after
roots_once no_root a = a
roots_once (root s has fresh lower next) a = roots_once next (rows_once lower (fresh, a))

turned_once : (xs ys : List Pointer) → AreApart xs → AreApart ys → ((p : Pointer) → Contains xs p → ¬ Contains ys p)
    → AreApart (met_after xs ys)
turned_once [] ys a b d = b
turned_once (x ∷ xs) ys a b d = turned_once xs (x ∷ ys) a.1 ((d x (contains_first x xs)), b)
    (λ p c m. elim (contains_cases x ys p m) as (λ _. ⊥) [
      | inl e ↦ a.0 (subst (λ q. Contains xs q) (sym e) c)
      | inr k ↦ d p (contains_later x xs p c) k
    ])

turned : (xs ys met : List Pointer) → met_after (met_after xs ys) met ≡ met_after ys (xs ++ met)
turned [] ys met = refl
turned (x ∷ xs) ys met = turned xs (x ∷ ys) met

-- roots that stand behind nothing stand behind any others
stands_anywhere : {types : List SegDef} {area : List (List ℕ)} {first : Pointer} {roots : List Root} {now : List Pointer}
    → AreRoots types area [] first roots now → RootsStand types area first roots (met_after now [])
stands_anywhere {types} {area} {first} {roots} {now} r met d =
    let b = roots_behind r in
    let n : now ≡ b.added = b.same ∙ append-nil b.added in
    let e : b.added ++ met ≡ met_after (met_after now []) met =
    sym (ap (λ l. met_after (met_after l []) met) n ∙ turned b.added [] met) in
    subst (λ l. AreRoots types area met first roots l) e
    (b.behind met (λ p c. d p (met-now now [] p (subst (λ l. Contains l p) (sym n) c))))

-- ---- an exchange among others that stay

exchange_wider : (shape : Shape) (old new : List (List ℕ)) (xs ys had has : List Pointer)
    → Exchanges shape old new xs ys → ((p : Pointer) → Contains xs p → Contains had p)
    → ((p : Pointer) → Contains xs p → Contains ys p) → ((p : Pointer) → Contains ys p → Contains has p)
    → ((p : Pointer) → Contains had p → Contains has p)
    → ((p : Pointer) → Contains has p → Contains ys p ⊎ Contains had p)
    → ((p : Pointer) → Contains had p → IsUsed (bytes_at old p.0) p.1) → AreApart has → Exchanges shape old new had has
exchange_wider shape old new xs ys had has e xh xy yh hh split used once = record {
  stay = λ p type content n h. e.stay p type content (λ c. n (xh p c)) h;
  none_comes = λ p type content n h.
      let x = e.none_comes p type content (λ c. n (yh p c)) h in
      ((λ c. n (hh p c)), x.1);
  fresh = λ p c. elim (split p c) as (λ _. Contains had p ⊎ (¬ IsUsed (bytes_at old p.0) p.1)) [
    | inl y ↦ elim (e.fresh p y) as (λ _. Contains had p ⊎ (¬ IsUsed (bytes_at old p.0) p.1))
        [ inl x ↦ inl (xh p x) | inr u ↦ inr u ]
    | inr h ↦ inl h
  ];
  used = λ p c. elim (holds_or ys p) as (λ _. IsUsed (bytes_at new p.0) p.1) [
    | inl y ↦ e.used p y
    | inr n ↦ elim (split p c) as (λ _. IsUsed (bytes_at new p.0) p.1) [
      | inl y ↦ absurd (n y)
      | inr h ↦ used-stays (bytes_at old p.0) (bytes_at new p.0) p.1
          (λ type content. e.stay p type content (λ x. n (xy p x))) (used p h)
    ]
  ];
  once = once;
  roots = e.roots;
  kinds = e.kinds;
  in_order = e.in_order;
  sequential = e.sequential;
}

-- ---- a segment that came

pub says_made : (types : List SegDef) (added : Added) (firsts : List Pointer) (bytes : List ℕ)
    → firsts ≡ replicate (length (child_types types added.segment)) nothing → bytes ≡ added.bytes.now
    → (record { next = added.next; serial = added.serial; firsts = firsts; bytes = bytes }) ≡ says_added types added
says_made types added firsts bytes f b =
    let P : List Pointer → Segment = λ u. record { next = added.next; serial = added.serial; firsts = u; bytes = bytes } in
    let Q : List ℕ → Segment = λ u. record {
      next = added.next;
      serial = added.serial;
      firsts = replicate (length (child_types types added.segment)) nothing;
      bytes = u;
    } in
    ap P f ∙ ap Q b

pub adds_made : (shape : Shape) (types : List SegDef) (old middle new : List (List ℕ)) (anchor : ℕ) (added : Added)
    (at : Pointer) (s : Segment) → anchor < anchor_count shape
    → TakesOne shape old middle anchor (content_length types added.segment) at
    → s ≡ says_added types added → PutsSegment types middle new added.segment at s
    → Adds shape types old new anchor added at
adds_made shape types old middle new anchor added at s b t e p =
    let put : PutsSegment types middle new added.segment at (says_added types added) =
    subst (λ (u : Segment). PutsSegment types middle new added.segment at u) e p in
    let place = finds-place shape types old middle added.segment anchor (content_length types added.segment) None at refl
    refl t.takes t.in_order t.own b in
    record {
      exchange = put-there shape types old middle new anchor added.segment None at (says_added types added) place put;
      has = put.stands;
      named = λ ci x y z. put.elsewhere ci z ∙ t.takes.named ci x y z;
      place = λ o. (t.finds o).place;
      own = put_keeps_own shape types middle new anchor added.segment at at.0 (says_added types added) put t.own;
      one_more = omega (
        arith,
        put.same_number,
        takes-one shape old middle anchor (content_length types added.segment) at t.takes,
      );
    }

none_used : (shape : Shape) (old new : List (List ℕ)) (at : Pointer) → Exchanges shape old new [] (at ∷ [])
    → ¬ IsUsed (bytes_at old at.0) at.1
none_used shape old new at e = elim (e.fresh at (contains_first at [])) as (λ _. ¬ IsUsed (bytes_at old at.0) at.1)
    [ inl c ↦ absurd (contains_nothing at c) | inr n ↦ n ]

module _ (shape : Shape) (types : List SegDef) (old new : List (List ℕ)) (anchor : ℕ) (added : Added) (at : Pointer)
    (a : Adds shape types old new anchor added at) where
  none_there : (type : ℕ) (s : Segment) → ¬ HasSegment types old type at s
  none_there type s h = elim (a.exchange.fresh at (contains_first at [])) as (λ _. ⊥) [
    | inl c ↦ contains_nothing at c
    | inr n ↦ n (record { segment = type; content = h.content; used = h.used })
  ]

  pub others_there : (type : ℕ) (p : Pointer) (s : Segment) → HasSegment types old type p s → HasSegment types new type p s
  others_there type p s h = segment_stays types old new type p s
      (λ content u. a.exchange.stay p type content (contains_nothing p) u) h

-- ---- behind another, or below it

module _ (shape : Shape) (types : List SegDef) (old new : List (List ℕ)) (anchor : ℕ) (gap : Gap)
    (there : HasSegment types old gap.holder.segment gap.holder.at (segment_of gap.holder.said))
    (d : AddsBehind shape types old new anchor gap) where
  in_middle : HasSegment types d.middle gap.holder.segment gap.holder.at (segment_of gap.holder.said)
  in_middle = others_there shape types old d.middle anchor gap.added d.at d.adds gap.holder.segment gap.holder.at
      (segment_of gap.holder.said) there

  not_held : d.at ≢ gap.holder.at
  not_held e = none_there shape types old d.middle anchor gap.added d.at d.adds gap.holder.segment
      (segment_of gap.holder.said)
      (subst (λ p. HasSegment types old gap.holder.segment p (segment_of gap.holder.said)) (sym e) there)

  pub behind_fills : Fills types old new gap d.at
  behind_fills = record {
    none_before = none_there shape types old d.middle anchor gap.added d.at d.adds;
    stands = put_keeps_segment types d.middle new gap.holder.segment gap.holder.at (links_to gap.holder d.at) d.put
        gap.added.segment d.at (says_added types gap.added) not_held d.adds.has;
    links = d.put.stands;
    others = λ type p s n h. put_keeps_segment types d.middle new gap.holder.segment gap.holder.at (links_to gap.holder d.at)
        d.put type p s n (others_there shape types old d.middle anchor gap.added d.at d.adds type p s h);
  }

  used_in_middle : IsUsed (bytes_at d.middle gap.holder.at.0) gap.holder.at.1
  used_in_middle = record {
    segment = gap.holder.segment;
    content = in_middle.content;
    used = in_middle.used;
  }

  pub behind_exchange : Exchanges shape old new (gap.holder.at ∷ []) (gap.holder.at ∷ d.at ∷ [])
  behind_exchange =
      exchange-both shape old d.middle new [] (d.at ∷ []) (gap.holder.at ∷ []) (gap.holder.at ∷ []) d.adds.exchange
      (puts-segment shape types d.middle new gap.holder.segment gap.holder.at (links_to gap.holder d.at) d.put
      used_in_middle)
      (λ p c. (let P : Pointer → Type 0 = λ q. IsUsed (bytes_at old q.0) q.1 in
      subst P (contains-one gap.holder.at p c)
      (record { segment = gap.holder.segment; content = there.content; used = there.used })))
      (λ p c. contains_nothing p)

-- every segment stays in its element

linked_bytes : (l : Link) (at : Pointer) (s : Segment) → (linked l at s).bytes ≡ s.bytes
linked_bytes Next at s = refl
linked_bytes (FirstChild number) at s = refl

linked_serial : (l : Link) (at : Pointer) (s : Segment) → (linked l at s).serial ≡ s.serial
linked_serial Next at s = refl
linked_serial (FirstChild number) at s = refl

one_type : {types : List SegDef} {area : List (List ℕ)} {type other : ℕ} {at : Pointer} {s t : Segment}
    → HasSegment types area type at s → HasSegment types area other at t → type ≡ other
one_type {area = area} {type} {other} {at} h k = sym (used-type (bytes_at area at.0) at.1 type h.content h.used)
    ∙ used-type (bytes_at area at.0) at.1 other k.content k.used

pub behind_stay : (shape : Shape) (types : List SegDef) (old new : List (List ℕ)) (anchor : ℕ) (gap : Gap)
    → HasSegment types old gap.holder.segment gap.holder.at (segment_of gap.holder.said)
    → AddsBehind shape types old new anchor gap → SegmentsStay types old new
behind_stay shape types old new anchor gap there d =
    let fills = behind_fills shape types old new anchor gap there d in
    let said : Segment = segment_of gap.holder.said in
    record {
      stay = λ type p s h. elim (pointer_or p gap.holder.at) as (λ _. StaysIn types new type p s) [
        | inl e ↦
            let here : HasSegment types old type gap.holder.at s = subst (λ q. HasSegment types old type q s) e h in
            let t : gap.holder.segment ≡ type = one_type there here in
            let same : said ≡ s = one_segment (subst (λ k. HasSegment types old k gap.holder.at said) t there) here in
            record {
              now = links_to gap.holder d.at;
              has = subst (λ q. HasSegment types new type q (links_to gap.holder d.at)) (sym e)
                  (subst (λ k. HasSegment types new k gap.holder.at (links_to gap.holder d.at)) t fills.links);
              same_bytes = linked_bytes gap.holder.link d.at said ∙ ap (λ (u : Segment). u.bytes) same;
              same_serial = linked_serial gap.holder.link d.at said ∙ ap (λ (u : Segment). u.serial) same;
            }
        | inr n ↦ record { now = s; has = fills.others type p s n h; same_bytes = refl; same_serial = refl }
      ];
    }

pub front_stay : (shape : Shape) (types : List SegDef) (old new : List (List ℕ)) (anchor : ℕ) (first : Pointer)
    (r : Root) → AddsInFront shape types old new anchor first r → SegmentsStay types old new
front_stay shape types old new anchor first r d = record {
  stay = λ type p s h. (record {
    now = s;
    has = root_keeps_segment shape types d.middle new anchor d.at d.put type p s
        (others_there shape types old d.middle anchor d.added d.at d.adds type p s h);
    same_bytes = refl;
    same_serial = refl;
  });
}

pub none_stays : (types : List SegDef) (area : List (List ℕ)) → SegmentsStay types area area
none_stays types area = record {
  stay = λ type p s h. (record { now = s; has = h; same_bytes = refl; same_serial = refl });
}

-- at most four intervals change
one_of : (list : List ℕ) (x y : ℕ) → Contains list x → y ≡ x → Contains list y
one_of list x y c e = subst (λ z. Contains list z) (sym e) c

pub behind_few : (shape : Shape) (types : List SegDef) (old new : List (List ℕ)) (anchor : ℕ) (gap : Gap)
    → AddsBehind shape types old new anchor gap → FewChange old new
behind_few shape types old new anchor gap d =
    let base : ℕ = first_base shape (uow_of shape anchor) in
    let all : List ℕ = 0 ∷ base ∷ d.at.0 ∷ gap.holder.at.0 ∷ [] in
    let two : List ℕ = d.at.0 ∷ gap.holder.at.0 ∷ [] in
    record {
      changed = all;
      few = omega arith;
      others = λ ci n. d.put.elsewhere ci (λ e. n (one_of all (gap.holder.at.0) ci
          (contains_later 0 (base ∷ two) _ (contains_later base two _ (contains_later d.at.0 (gap.holder.at.0 ∷ []) _ (contains_first (gap.holder.at.0) [])))) e))
          ∙ d.adds.named ci (λ e. n (one_of all 0 ci (contains_first 0 (base ∷ two)) e))
          (λ e. n (one_of all base ci (contains_later 0 (base ∷ two) _ (contains_first base two)) e))
          (λ e. n (one_of all d.at.0 ci
          (contains_later 0 (base ∷ two) _ (contains_later base two _ (contains_first d.at.0 (gap.holder.at.0 ∷ [])))) e));
    }

pub front_few : (shape : Shape) (types : List SegDef) (old new : List (List ℕ)) (anchor : ℕ) (first : Pointer)
    (r : Root) → AddsInFront shape types old new anchor first r → FewChange old new
front_few shape types old new anchor first r d =
    let base : ℕ = first_base shape (uow_of shape anchor) in
    let own : ℕ = base_of shape anchor in
    let all : List ℕ = 0 ∷ base ∷ d.at.0 ∷ own ∷ [] in
    let two : List ℕ = d.at.0 ∷ own ∷ [] in
    record {
      changed = all;
      few = omega arith;
      others = λ ci n. d.put.elsewhere ci (λ e. n (one_of all own ci
          (contains_later 0 (base ∷ two) _ (contains_later base two _ (contains_later d.at.0 (own ∷ []) _ (contains_first own [])))) e))
          ∙ d.adds.named ci (λ e. n (one_of all 0 ci (contains_first 0 (base ∷ two)) e))
          (λ e. n (one_of all base ci (contains_later 0 (base ∷ two) _ (contains_first base two)) e))
          (λ e. n (one_of all d.at.0 ci
          (contains_later 0 (base ∷ two) _ (contains_later base two _ (contains_first d.at.0 (own ∷ [])))) e));
    }

-- one has come
pub behind_one : (shape : Shape) (types : List SegDef) (old new : List (List ℕ)) (anchor : ℕ) (first : Pointer)
    (roots others : List Root) (gap : Gap) → first ≡ root_of shape old anchor → HasRoots shape types old anchor roots
    → IsGapInRoots types old first roots others gap → IsInOrder shape old → AddsBehind shape types old new anchor gap
    → AddsOne shape types old new anchor
behind_one shape types old new anchor first roots others gap e has g o d =
    let start : AreRoots types old [] first roots has.elements =
    subst (λ p. AreRoots types old [] p roots has.elements) (sym e) has.is_chain.are_roots in
    let fills = behind_fills shape types old new anchor gap g.there d in
    let k = g.fills new d.at fills has.elements start in
    record {
      type = gap.added.segment;
      element = d.at;
      holder = gap.holder.at.0;
      fresh = none_used shape old d.middle d.at d.adds.exchange;
      used = record { segment = gap.added.segment; content = fills.stands.content; used = fills.stands.used };
      place = d.adds.place o;
      own = put_keeps_own shape types d.middle new anchor gap.holder.segment gap.holder.at d.at.0
          (links_to gap.holder d.at) d.put d.adds.own;
      holds = inr (record {
        at = gap.holder.at;
        is_met = record { roots = roots; elements = has.elements; is_chain = has.is_chain; met = k.holder_met };
        is_there = refl;
      });
      others = λ ci x y z w. d.put.elsewhere ci w ∙ d.adds.named ci x y z;
      one_more = omega (arith, d.put.same_number, d.adds.one_more);
    }

pub front_one : (shape : Shape) (types : List SegDef) (old new : List (List ℕ)) (anchor : ℕ) (first : Pointer)
    (r : Root) → IsInOrder shape old → AddsInFront shape types old new anchor first r → AddsOne shape types old new anchor
front_one shape types old new anchor first r o d =
    let now = root_keeps_segment shape types d.middle new anchor d.at d.put d.added.segment d.at
    (says_added types d.added) d.adds.has in
    record {
      type = d.added.segment;
      element = d.at;
      holder = base_of shape anchor;
      fresh = none_used shape old d.middle d.at d.adds.exchange;
      used = record { segment = d.added.segment; content = now.content; used = now.used };
      place = d.adds.place o;
      own = root_keeps_own shape d.middle new anchor d.at.0 d.at d.put d.adds.own;
      holds = inl refl;
      others = λ ci x y z w. d.put.elsewhere ci w ∙ d.adds.named ci x y z;
      one_more = omega (arith, d.put.same_number, d.adds.one_more);
    }

-- ---- the anchor's elements give way to those and one more

refilled : (shape : Shape) (types : List SegDef) (old middle new : List (List ℕ)) (anchor : ℕ) (all : List Standing)
    (roots others : List Root) (first at : Pointer) (xs ys now : List Pointer)
    → AreStanding shape types old anchor all
    → (has : HasRoots shape types old anchor roots) → Exchanges shape old middle xs ys
    → ((p : Pointer) → Contains xs p → Contains has.elements p) → ((p : Pointer) → Contains xs p → Contains ys p)
    → ((p : Pointer) → Contains ys p → (p ≡ at) ⊎ Contains xs p) → Contains ys at
    → IsOwnRoom shape middle anchor at.0
    → AreRoots types middle [] first others now → MeetsOneMore at has.elements now → PutsRoot shape middle new anchor first
    → Rebuilds shape types old new anchor [] all others
refilled shape types old middle new anchor all roots others first at xs ys now a has e xh xy only is own are more put =
    let same : has.elements ≡ a.elements = (one_chain has.is_chain a.is_chain).1 in
    let to : (p : Pointer) → Contains (places_of all) p → Contains has.elements p =
    λ p c. subst (λ (l : List Pointer). Contains l p) (sym same) ((a.same p).0 c) in
    let back : (p : Pointer) → Contains has.elements p → Contains (places_of all) p =
    λ p c. (a.same p).1 (subst (λ (l : List Pointer). Contains l p) same c) in
    record {
      middle = middle;
      first = first;
      elements = met_after now [];
      exchange = exchange_wider shape old middle xs ys (places_of all) (met_after now []) e (λ p c. back p (xh p c)) xy
          (λ p c. met-now now [] p (elim (only p c) as (λ _. Contains now p) [
            | inl k ↦ subst (λ q. Contains now q) (sym k) more.is_met
            | inr x ↦ more.keep p (xh p x)
          ])) (λ p c. met-now now [] p (more.keep p (to p c)))
          (λ p c. elim (met-cases now [] p c) as (λ _. Contains ys p ⊎ Contains (places_of all) p) [
            | inl m ↦ elim (more.only p m) as (λ _. Contains ys p ⊎ Contains (places_of all) p)
                [ inl k ↦ inl (subst (λ q. Contains ys q) (sym k) is) | inr x ↦ inr (back p x) ]
            | inr m ↦ absurd (contains_nothing p m)
          ])
          (λ p c. (let s = chain_has has.is_chain p (to p c) in
          record { segment = s.type; content = s.has.content; used = s.has.used }))
          (turned_once now [] (roots_once are tt) tt (λ p c. contains_nothing p));
      own = λ p c. elim (met-cases now [] p c) as
          (λ _. Contains (places_of all) p ⊎ IsOwnRoom shape middle anchor p.0) [
            | inl m ↦ elim (more.only p m) as (λ _. Contains (places_of all) p ⊎ IsOwnRoom shape middle anchor p.0) [
              | inl k ↦ inr (let P : Pointer → Type 0 = λ q. IsOwnRoom shape middle anchor q.0 in subst P (sym k) own)
              | inr x ↦ inl (back p x)
            ]
            | inr m ↦ absurd (contains_nothing p m)
          ];
      stand = stands_anywhere are;
      put = put;
    }

-- a root anchor point that stays
root_stays : (shape : Shape) (area : List (List ℕ)) (anchor : ℕ) → IsInPlace shape area (base_of shape anchor)
    → PutsRoot shape area area anchor (root_of shape area anchor)
root_stays shape area anchor b = record {
  head = refl;
  used = record { stay = λ place type content h. h; none_comes = λ place type content h. h };
  is_interval = b.is_interval;
  elsewhere = λ ci n. refl;
  same_number = refl;
}

pub behind_rebuilds : (shape : Shape) (types : List SegDef) (old new : List (List ℕ)) (anchor : ℕ) (all : List Standing)
    (first : Pointer) (roots others : List Root) (gap : Gap)
    → first ≡ root_of shape old anchor → AreStanding shape types old anchor all
    → HasRoots shape types old anchor roots → IsGapInRoots types old first roots others gap
    → AddsBehind shape types old new anchor gap → Rebuilds shape types old new anchor [] all others
behind_rebuilds shape types old new anchor all first roots others gap e a has g d =
    let x = behind_exchange shape types old new anchor gap g.there d in
    let start : AreRoots types old [] first roots has.elements =
    subst (λ p. AreRoots types old [] p roots has.elements) (sym e) has.is_chain.are_roots in
    let k = g.fills new d.at (behind_fills shape types old new anchor gap g.there d) has.elements start in
    let same : first ≡ root_of shape new anchor = e ∙ sym (x.roots (base_of shape anchor)) in
    refilled shape types old new new anchor all roots others first d.at (gap.holder.at ∷ [])
    (gap.holder.at ∷ d.at ∷ []) k.now a has x
    (λ p c. subst (λ q. Contains has.elements q) (contains-one gap.holder.at p c) k.holder_met)
    (λ p c. subst (λ q. Contains (gap.holder.at ∷ d.at ∷ []) q) (contains-one gap.holder.at p c)
    (contains_first gap.holder.at (d.at ∷ [])))
    (λ p c. elim (contains_cases gap.holder.at (d.at ∷ []) p c) as (λ _. (p ≡ d.at) ⊎ Contains (gap.holder.at ∷ []) p) [
      | inl q ↦ inr (subst (λ u. Contains (gap.holder.at ∷ []) u) q (contains_first gap.holder.at []))
      | inr q ↦ inl (sym (contains-one d.at p q))
    ]) (contains_later gap.holder.at (d.at ∷ []) d.at (contains_first d.at []))
    (put_keeps_own shape types d.middle new anchor gap.holder.segment gap.holder.at d.at.0 (links_to gap.holder d.at)
    d.put d.adds.own) k.are k.more
    (subst (λ p. PutsRoot shape new new anchor p) (sym same) (root_stays shape new anchor
    (place-stays shape old new (base_of shape anchor) (gap.holder.at ∷ []) (gap.holder.at ∷ d.at ∷ []) x
    has.is_chain.base)))

-- ---- a root in front of all others

pub front_rebuilds : (shape : Shape) (types : List SegDef) (old new : List (List ℕ)) (anchor : ℕ) (all : List Standing)
    (first : Pointer) (roots others : List Root) (r : Root)
    → first ≡ root_of shape old anchor → AreStanding shape types old anchor all
    → HasRoots shape types old anchor roots → others ≡ r ∷ roots → AreBare r.children
    → length r.children ≡ length (child_types types 0) → AddsInFront shape types old new anchor first r
    → Rebuilds shape types old new anchor [] all others
front_rebuilds shape types old new anchor all first roots others r e a has o bare count d =
    let stay : Stay types old d.middle [] has.elements = record {
      each = λ p c n type s h. others_there shape types old d.middle anchor d.added d.at d.adds type p s h;
    } in
    let start : AreRoots types old [] first roots has.elements =
    subst (λ p. AreRoots types old [] p roots has.elements) (sym e) has.is_chain.are_roots in
    let b = roots_behind (roots_stay start stay) in
    let n : has.elements ≡ b.added = b.same ∙ append-nil b.added in
    let back : (p : Pointer) → Contains b.added p → Contains has.elements p =
    λ p c. subst (λ l. Contains l p) (sym n) c in
    let apart : (p : Pointer) → Contains b.added p → ¬ Contains (d.at ∷ []) p = λ p c k.
    (let s = chain_has has.is_chain p (back p c) in
    none_there shape types old d.middle anchor d.added d.at d.adds s.type s.segment
    (subst (λ q. HasSegment types old s.type q s.segment) (sym (contains-one d.at p k)) s.has)) in
    let stands : HasSegment types d.middle 0 d.at (lone types 0 first d.added.serial r.bytes) =
    lone_stands types d.middle d.at d.added 0 first d.added.serial r.bytes d.adds.has d.is_root d.is_next refl d.has_bytes in
    let it = root (lone types 0 first d.added.serial r.bytes) stands (contains_nothing d.at)
    (bare_rows types d.middle (d.at ∷ []) (child_types types 0) r.children bare count) (b.behind (d.at ∷ []) apart) in
    let now : List Pointer = b.added ++ d.at ∷ [] in
    let made : AreRoots types d.middle [] d.at (r ∷ roots) now =
    subst (λ (y : Root). AreRoots types d.middle [] d.at (y ∷ roots) now)
    (made_root r r.bytes r.children (newest d.added.serial) refl refl d.is_newest) it in
    let more : MeetsOneMore d.at has.elements now = record {
      keep = λ p c. Contains-append_left b.added (d.at ∷ []) p (subst (λ l. Contains l p) n c);
      only = λ p c. elim (Contains-append_cases b.added (d.at ∷ []) p c) as
          (λ _. (p ≡ d.at) ⊎ Contains has.elements p)
          [ inl k ↦ inr (back p k) | inr k ↦ inl (sym (contains-one d.at p k)) ];
      is_met = Contains-append_right b.added (d.at ∷ []) d.at (contains_first d.at []);
    } in
    refilled shape types old d.middle new anchor all roots others d.at d.at [] (d.at ∷ []) now a has d.adds.exchange
    (λ p c. absurd (contains_nothing p c)) (λ p c. absurd (contains_nothing p c)) (λ p c. inl (sym (contains-one d.at p c)))
    (contains_first d.at []) d.adds.own (subst (λ l. AreRoots types d.middle [] d.at l now) (sym o) made) more d.put

-- ---- what a store promises

pub no_plan : (all : List Standing) → Shares all [] all
no_plan all = record {
  typed = tt;
  of_rest = λ s c. c;
  once = λ o. o;
  had = λ p c. c;
  has = λ p c. c;
}

pub refill_stores : (shape : Shape) (types : List SegDef) (old now new : List (List ℕ)) (anchor : ℕ) (roots : List Root)
    → now ≡ old → anchor < anchor_count shape → IsFormed shape types old → Refills shape types now new anchor roots
    → IsStored shape types old new anchor roots
refill_stores shape types old now new anchor roots e b formed r =
    let x = subst (λ a. Refills shape types a new anchor roots) e r in
    is-stored shape types old new anchor x.all x.all [] roots b formed x.standing (no_plan x.all) x.rebuilds

pub refill_apart : (shape : Shape) (types : List SegDef) (old now new : List (List ℕ)) (anchor : ℕ) (roots : List Root)
    → now ≡ old → anchor < anchor_count shape → IsInOrder shape old → Refills shape types now new anchor roots
    → ApartKeep shape types old new anchor
refill_apart shape types old now new anchor roots e b o r =
    let x = subst (λ a. Refills shape types a new anchor roots) e r in
    apart-kept shape types old old new anchor x.all x.all x.all [] roots refl refl b o x.standing (no_plan x.all)
    x.rebuilds

pub refill_own : (shape : Shape) (types : List SegDef) (old now new : List (List ℕ)) (anchor : ℕ) (roots : List Root)
    → now ≡ old → anchor < anchor_count shape → IsInOrder shape old → Refills shape types now new anchor roots
    → NewAreOwn shape types old new anchor
refill_own shape types old now new anchor roots e b o r =
    let x = subst (λ a. Refills shape types a new anchor roots) e r in
    own-kept shape types old old new anchor x.all x.all x.all [] roots refl refl b o x.standing (no_plan x.all)
    x.rebuilds

pub none_own : (shape : Shape) (types : List SegDef) (area : List (List ℕ)) (anchor : ℕ)
    → NewAreOwn shape types area area anchor
none_own shape types area anchor = record { each = λ at m. inl m }

pub alone_own : (shape : Shape) (types : List SegDef) (old new : List (List ℕ)) (anchor : ℕ) (before after : List Root)
    → ChangesAlone shape types old new anchor before after → HasRoots shape types old anchor before
    → NewAreOwn shape types old new anchor
alone_own shape types old new anchor before after it has =
    let chain = alone_chain shape types old new anchor before after it has in
    record {
      each = λ at m. inl (record {
        roots = before;
        elements = has.elements;
        is_chain = has.is_chain;
        met = subst (λ (l : List Pointer). Contains l at) ((one_chain m.is_chain chain).1) m.met;
      });
    }

-- the one element that changes alone holds a segment still, and so do the others
pub alone_keeps : (shape : Shape) (types : List SegDef) (old new : List (List ℕ)) (anchor : ℕ) (before after : List Root)
    → ChangesAlone shape types old new anchor before after → HasRoots shape types old anchor before
    → KeepsElements shape types old new anchor after
alone_keeps shape types old new anchor before after it has = record {
  keep = λ had elements chain keys. (let P : List Pointer → Type 0 = λ es. IsChain shape types new anchor after es in
      subst P ((one_chain has.is_chain chain).1) (alone_chain shape types old new anchor before after it has));
}

pub same_keeps : (shape : Shape) (types : List SegDef) (area : List (List ℕ)) (anchor : ℕ) (roots : List Root)
    → HasRoots shape types area anchor roots → KeepsElements shape types area area anchor roots
same_keeps shape types area anchor roots has = record {
  keep = λ had elements chain keys. (let P : List Pointer → Type 0 = λ es. IsChain shape types area anchor roots es in
      subst P ((one_chain has.is_chain chain).1) has.is_chain);
}

-- ---- few change where one does, or none

pub none_changes : (area : List (List ℕ)) → FewChange area area
none_changes area = record { changed = []; few = omega arith; others = λ ci n. refl }

pub alone_few : (shape : Shape) (types : List SegDef) (old new : List (List ℕ)) (anchor : ℕ) (before after : List Root)
    → ChangesAlone shape types old new anchor before after → FewChange old new
alone_few shape types old new anchor before after it = record {
  changed = it.place.0 ∷ [];
  few = omega arith;
  others = λ ci n. it.puts.elsewhere ci (λ e. n (one_of (it.place.0 ∷ []) it.place.0 ci (contains_first it.place.0 []) e));
}

-- ---- answers

pub any_ok : {X E : Type 0} (r : Result X E) (P : X → Type 0) → ((x : X) → P x) → IfOk r P
any_ok (Ok x) P f = f x
any_ok (Err e) P f = tt
