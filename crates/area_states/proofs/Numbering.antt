-- A root's newest serial is set to one that was given.
use Rattle.std.proofs.Common.{◌≡◌, ◌⊎◌, Option, inl, inr, ℕ, zero, suc, ◌+◌, ◌-◌, ◌<◌, true, false, List, [], ◌∷◌, length, map, All, Some, None, IfSome, IfNone, refl, sym, ◌∙◌, ap, subst, arith}
use Rattle.std.specs.Prelude.{◌==◌, slice_get, slice_set}
use Rattle.std.specs.List.{AllZip}
use Rattle.std.proofs.lemmas.Bool.{cases_Bool, cases_eq}
use Rattle.std.proofs.lemmas.Bool.Decides.{nat_tests}
use Rattle.std.proofs.lemmas.List.Elements.{All-cons}
use Rattle.ci_space.specs.Interval.{IsUsed}
use Rattle.ci_overflow.specs.Lists.{bytes_at}
use Rattle.fp_model.specs.declared.calls.SeqInsert.{SeqInsert}
use Rattle.fp_model.specs.declared.database.Root.{Root}
use Rattle.fp_model.specs.declared.database.SeqItem.{SeqItem}
use Rattle.fp_model.specs.declared.definitions.SegDef.{SegDef}
use Rattle.fp_model.specs.Commit.{with_newest}
use Rattle.fp_model.specs.Order.{key_in, root_key}
use Rattle.fp_model.specs.State.{ascend, change_key}
use Rattle.fp_model.specs.Texts.{same_text}
use Rattle.key_order.proofs.Ascending.{changed_at, place_of_same}
use Rattle.anchor_elements.specs.Elements.{Pointer, nothing, Segment, HasSegment}
use Rattle.root_anchor.specs.Chains.{AreRoots, no_root, root, anchor_count, newest}
use Rattle.root_anchor.specs.Formed.{HasChain, HasRoots}
use Rattle.root_anchor.specs.Newest.{SetsNewest, with_newest as with_serial}
use Rattle.root_anchor.specs.Roots.{AreSoMany, no_more, one_more, HasFewer}
use Rattle.root_anchor.proofs.NewestLemmas.{newest_chain, newest_formed, newest_others, root_has}
use Rattle.root_anchor.proofs.OneChain.{none_at_nothing, one_chain, one_segment}
use Rattle.root_anchor.proofs.PutLemmas.{put_keeps_sequential}
use Rattle.seq_dependents.specs.Control.{begin_of, end_of}
use Rattle.seq_dependents.specs.Down.{IsItem, IsDown}
use Rattle.seq_dependents.specs.Puts.{Appends, IsTooMany}
use Rattle.seq_dependents.specs.Slots.{IsHeld}
use Rattle.area_states.specs.declared.finding.Found.{Found}
use Rattle.area_states.specs.declared.place.Place.{Place}
use Rattle.area_states.specs.inside.Keys.{HasNewest, IsFound, NoneHas}
use Rattle.area_states.specs.Places.{part_of, sequential_length, IsPlace, LiesIn}
use Rattle.area_states.specs.States.{AreaState, HasAnchor, HasState, IsReadAs, newest_serial}
use Rattle.area_states.specs.Changes.{AreOrdered, numbered_at, with_roots_at}
use Rattle.area_states.proofs.NewSerials.{Gives, ended_at, ends, given_held, given_state, gives_alone, gives_holding}
use Rattle.area_states.proofs.Frames.{roots_on}
use Rattle.area_states.proofs.KeyLemmas.{got_within, keys_same}
use Rattle.area_states.proofs.Lists.{GoesOnHolding, all_read_on, read_on}
use Rattle.area_states.proofs.Readings.{newest_again}
use Rattle.area_states.proofs.StateLemmas.{same_state, store_holds, store_whole, stored_end}
use Rattle.plain_laws.proofs.Numbers.{other_number, same_number}

-- ---- roots by their numbers

record HasMore (types : List SegDef) (area : List (List ℕ)) (at : Pointer) (k : ℕ) : Type 0 where
  s : Segment
  has : HasSegment types area 0 at s
  rest : ℕ
  is : k ≡ suc rest
  more : AreSoMany types area s.next rest

many_so : {types : List SegDef} {area : List (List ℕ)} {at : Pointer} {k : ℕ} → AreSoMany types area at k
    → ((at ≡ nothing) × (k ≡ 0)) ⊎ HasMore types area at k
many_so no_more = inl (refl, refl)
many_so (one_more {k = k} s has more) = inr (record { s = s; has = has; rest = k; is = refl; more = more })

-- the pointers give as many roots as the anchor has
so_many : {types : List SegDef} {area : List (List ℕ)} {met : List Pointer} {at : Pointer} {roots : List Root}
    {after : List Pointer} → AreRoots types area met at roots after → (k : ℕ) → AreSoMany types area at k
    → k ≡ length roots
so_many no_root k m = elim (many_so m) as (λ _. k ≡ 0) [
  | inl none ↦ none.1
  | inr h ↦ absurd (none_at_nothing h.has refl)
]
so_many {types} {area} (root {at = at} s {roots = roots} has fresh lower next) k m =
    elim (many_so m) as (λ _. k ≡ suc (length roots)) [
      | inl none ↦ absurd (none_at_nothing has none.0)
      | inr h ↦ h.is ∙ ap suc (so_many next h.rest
          (subst (λ (x : Segment). AreSoMany types area x.next h.rest) (one_segment h.has has) h.more))
    ]

-- so one that it has isn't too far
pub not_fewer : (place : Place) (area : List (List ℕ)) (anchor number : ℕ) (kept : List Root) (r : Root)
    → HasRoots place.shape place.segments area anchor kept → slice_get kept number ≡ Some r
    → ¬ HasFewer place.shape place.segments area anchor number
not_fewer place area anchor number kept r has at fewer =
    let n = so_many has.is_chain.are_roots fewer.count fewer.are in
    let few = fewer.fewer in
    let within = got_within kept number r at in
    omega (arith, n, few, within)

-- ---- lists

some_same : (x y : Root) → Some x ≡ Some y → x ≡ y
some_same x y e = cc

-- the root of a number has a list in front of which an item stands, which is linked to its newest one
pub numbered_lists : (place : Place) (old new : List (List ℕ)) → GoesOnHolding (part_of place) old new
    → (number serial previous : ℕ) (item : SeqItem) (kept roots : List Root) (k r : Root)
    → slice_get kept number ≡ Some k → slice_get roots number ≡ Some r → previous ≡ newest_serial k.seqs
    → IsItem (part_of place) old serial previous item → AllZip (IsReadAs place old) kept roots
    → AllZip (IsReadAs place new) (with_serial number serial kept) (slice_set roots number (with_newest item r))
numbered_lists place old new goes number serial previous item [] roots k r a b p it all = cc
numbered_lists place old new goes number serial previous item (x ∷ kept) [] k r a b p it all = cc
numbered_lists place old new goes zero serial previous item (x ∷ kept) (y ∷ roots) k r a b p it all =
    let e : x ≡ k = some_same x k a in
    let f : y ≡ r = some_same y r b in
    let read : IsReadAs place old x r = subst (λ (z : Root). IsReadAs place old x z) f all.0 in
    let down : IsDown (part_of place) old previous r.seqs =
    subst (λ n. IsDown (part_of place) old n r.seqs) (ap (λ (z : Root). newest_serial z.seqs) e ∙ sym p) read.list in
    let given = it.is_kept.before_end in
    let listed : IsDown (part_of place) old serial (item ∷ r.seqs) = (previous, it, down) in
    let again = newest_again serial in
    let now : IsReadAs place old (record x { seqs = newest serial }) (with_newest item r) = record {
      bytes = read.bytes;
      children = read.children;
      list = subst (λ n. IsDown (part_of place) old n (item ∷ r.seqs)) (sym again) listed;
      before_end = subst (λ n. n < end_of old) (sym again) given;
    } in (
      read_on place old new goes (record x { seqs = newest serial }) (with_newest item r) now,
      all_read_on place old new goes kept roots all.1,
    )
numbered_lists place old new goes (suc number) serial previous item (x ∷ kept) (y ∷ roots) k r a b p it all = (
  read_on place old new goes x y all.0,
  numbered_lists place old new goes number serial previous item kept roots k r a b p it all.1,
)

-- the root of a number stands for one
pub its_root : (place : Place) (area : List (List ℕ)) (kept roots : List Root) (number : ℕ) (k : Root)
    → AllZip (IsReadAs place area) kept roots → slice_get kept number ≡ Some k → (r : Root)
    × ((slice_get roots number ≡ Some r) × (r.bytes ≡ k.bytes))
its_root place area [] roots number k all at = cc
its_root place area (x ∷ kept) [] number k all at = absurd all
its_root place area (x ∷ kept) (y ∷ roots) zero k all at =
    (y, (refl, all.0.bytes ∙ ap (λ (z : Root). z.bytes) (some_same x k at)))
its_root place area (x ∷ kept) (y ∷ roots) (suc number) k all at = its_root place area kept roots number k all.1 at

-- no root stands for one of a key that none has
pub none_has : (place : Place) (area : List (List ℕ)) (key : List ℕ) (kept roots : List Root)
    → AllZip (IsReadAs place area) kept roots → NoneHas place.segments key kept → NoneHas place.segments key roots
none_has place area key [] [] all none = tt
none_has place area key [] (y ∷ roots) all none = absurd all
none_has place area key (x ∷ kept) [] all none = absurd all
none_has place area key (x ∷ kept) (y ∷ roots) all none =
    let same : root_key place.segments y ≡ root_key place.segments x =
    ap (λ b. key_in place.segments 0 b) all.0.bytes in
    (subst (λ k. same_text k key ≡ false) (sym same) none.0, none_has place area key kept roots all.1 none.1)

-- and then nothing changes
pub none_changed : (types : List SegDef) (key : List ℕ) (change : Root → Root) (roots : List Root)
    → NoneHas types key roots → change_key (root_key types) key change roots ≡ roots
none_changed types key change [] none = refl
none_changed types key change (r ∷ roots) none =
    rw none.0 (ap (λ rs. r ∷ rs) (none_changed types key change roots none.1))

-- ---- the state

-- the root of a number gets a newest serial that was given
pub set_state : (place : Place) (old new : List (List ℕ)) (state : AreaState) (anchor number serial previous : ℕ)
    (item : SeqItem) (kept : List Root) (k r : Root) → IsPlace place → anchor < anchor_count place.shape
    → HasState place old state → SetsNewest place.shape place.segments old new anchor number serial
    → HasRoots place.shape place.segments old anchor kept → slice_get kept number ≡ Some k
    → slice_get (state.roots anchor) number ≡ Some r → previous ≡ newest_serial k.seqs
    → IsItem (part_of place) old serial previous item
    → HasState place new (with_roots_at anchor (slice_set (state.roots anchor) number (with_newest item r)) state)
set_state place old new state anchor number serial previous item kept k r is below was sets has at there p it =
    let formed = newest_formed place.shape place.segments old new anchor number serial sets was.formed below in
    let others = newest_others place.shape place.segments old new anchor number serial sets was.formed below in
    let stands = root_has sets.is_root in
    let used : IsUsed (bytes_at old sets.place.0) sets.place.1 =
    record { segment = 0; content = stands.content; used = stands.used } in
    let keeps = put_keeps_sequential place.shape place.segments old new 0 sets.place
    (record sets.segment { serial = serial }) was.formed.in_order used sets.puts in
    let holds = store_holds place old new is was.whole formed keeps in
    let mine = was.anchors anchor below in
    let same : mine.kept ≡ kept = (one_chain mine.has.is_chain has.is_chain).0 in
    let lists : AllZip (IsReadAs place old) kept (state.roots anchor) =
    subst (λ xs. AllZip (IsReadAs place old) xs (state.roots anchor)) same mine.lists in
    record {
      formed = formed;
      whole = store_whole place old new is was.whole formed keeps;
      begin = holds.begin ∙ was.begin;
      end = stored_end place old new is was.whole formed keeps ∙ was.end;
      anchors = λ a lt. elim (cases_eq a anchor) [
        | inl e ↦
            let here_is : (a == anchor) ≡ true = same_number a anchor e in
            let this : HasAnchor place new anchor (slice_set (state.roots anchor) number (with_newest item r)) = record {
              kept = with_serial number serial kept;
              has = record {
                elements = has.elements;
                is_chain = newest_chain place.shape place.segments old new anchor number serial sets kept has.elements
                    has.is_chain;
              };
              lists = numbered_lists place old new holds number serial previous item kept (state.roots anchor) k r at
                  there p it lists;
            } in
            rw here_is (subst
            (λ b. HasAnchor place new b (slice_set (state.roots anchor) number (with_newest item r))) (sym e) this)
        | inr ne ↦
            let other : (a == anchor) ≡ false = other_number a anchor ne in
            let theirs = was.anchors a lt in
            let stays : HasAnchor place new a (state.roots a) = record {
              kept = theirs.kept;
              has = record {
                elements = theirs.has.elements;
                is_chain = others.keep a theirs.kept theirs.has.elements lt ne theirs.has.is_chain;
              };
              lists = all_read_on place old new holds theirs.kept (state.roots a) theirs.lists;
            } in
            rw other stays
      ];
    }

-- the item of an insert
abbrev pub item_of : AreaState → SeqInsert → SeqItem
item_of state i = record { serial = state.end; bytes = i.bytes }

given_item : (place : Place) (old mid : List (List ℕ)) (previous : ℕ) (state : AreaState) (i : SeqInsert)
    → HasState place old state → Gives (part_of place) old mid previous (i.bytes ∷ [])
    → IsItem (part_of place) mid state.end previous (item_of state i)
given_item place old mid previous state i was it =
    let held = given_held (part_of place) old mid previous (i.bytes ∷ []) it 0 (omega arith) in
    let z : end_of old + 0 ≡ end_of old = omega arith in
    let e : end_of old + 0 ≡ state.end = z ∙ was.end in
    let ordered = was.whole.control.is_control.are_ends.ordered in
    let b = (gives_holding (part_of place) old mid previous (i.bytes ∷ []) it).begin in
    let f = ends (part_of place) old mid previous (i.bytes ∷ []) it in
    let w = was.end in
    record {
      is_kept = record { from_begin = omega (arith, ordered, b, w); before_end = omega (arith, f, w) };
      is_serial = refl;
      is_held = subst (λ s. IsHeld (part_of place) mid s previous i.bytes) e held;
    }

-- An insert of a root that the anchor has, and one of no root.
pub inserted : (place : Place) (old mid new : List (List ℕ)) (state : AreaState) (i : SeqInsert) (anchor : ℕ)
    (found : Found) → IsPlace place → anchor < anchor_count place.shape → i.anchor - place.first_anchor ≡ anchor
    → HasState place old state → AreOrdered place state → IsFound place old anchor i.key found
    → Gives (part_of place) old mid found.newest (i.bytes ∷ [])
    → ((n : ℕ) → found.number ≡ Some n → ¬ HasFewer place.shape place.segments mid anchor n
    → SetsNewest place.shape place.segments mid new anchor n state.end)
    → (found.number ≡ None → new ≡ mid) → HasState place new (numbered_at place i state)
inserted place old mid new state i anchor found is below same was ordered at it sets stays = by found.number refl at.some
    (at.none kept_ascend)
  where
    roots : List Root
    roots = state.roots anchor

    change : Root → Root
    change = with_newest (item_of state i)

    given : HasState place mid (ended_at (state.end + 1) state)
    given = given_state place old mid found.newest (i.bytes ∷ []) state is was it

    mine : HasAnchor place old anchor roots
    mine = was.anchors anchor below

    same_kept : mine.kept ≡ at.kept
    same_kept = (one_chain mine.has.is_chain at.has.is_chain).0

    lists : AllZip (IsReadAs place old) at.kept roots
    lists = subst (λ xs. AllZip (IsReadAs place old) xs roots) same_kept mine.lists

    -- with these roots at the anchor
    Becomes : List Root → Type 0
    Becomes xs = HasState place new (with_roots_at anchor xs (ended_at (state.end + 1) state))

    done : (xs : List Root) → change_key (root_key place.segments) i.key change roots ≡ xs → Becomes xs
        → HasState place new (numbered_at place i state)
    done xs e h =
        let P : ℕ → Type 0 = λ a. HasState place new (with_roots_at a
        (change_key (root_key place.segments) i.key change (state.roots a)) (ended_at (state.end + 1) state)) in
        subst P (sym same) (subst Becomes (sym e) h)

    mid_kept : HasRoots place.shape place.segments mid anchor at.kept
    mid_kept = roots_on place.shape old mid
        (gives_alone place old mid found.newest (i.bytes ∷ []) was.whole it.appends) was.formed.in_order is.base
        place.segments anchor at.kept below at.has

    with_root : (n : ℕ) → found.number ≡ Some n → HasNewest place.segments i.key at.kept found.newest n
        → HasState place new (numbered_at place i state)
    with_root n e h =
        let k = h.is_root.root in
        let r = its_root place old at.kept roots n k lists h.is_root.is_there in
        let key : root_key place.segments r.0 ≡ root_key place.segments k =
        ap (λ b. key_in place.segments 0 b) r.1.1 in
        let has_key : same_text (root_key place.segments r.0) i.key ≡ true =
        subst (λ x. same_text x i.key ≡ true) (sym key) h.is_root.has_key in
        let at_place = place_of_same (root_key place.segments) i.key roots n r.0 (ordered anchor below) r.1.0 has_key in
        let changed = changed_at (root_key place.segments) i.key change roots n r.0 (ordered anchor below) at_place
        r.1.0 has_key in
        done (slice_set roots n (change r.0)) (sym changed)
        (set_state place mid new (ended_at (state.end + 1) state) anchor n state.end found.newest (item_of state i)
        at.kept k r.0 is below given (sets n e (not_fewer place mid anchor n at.kept k mid_kept h.is_root.is_there))
        mid_kept h.is_root.is_there r.1.0 h.is_newest
        (given_item place old mid found.newest state i was it))

    kept_ascend : ascend (map (root_key place.segments) at.kept) ≡ true
    kept_ascend = ap ascend (keys_same place old at.kept roots lists) ∙ ordered anchor below

    without_root : found.number ≡ None → NoneHas place.segments i.key at.kept
        → HasState place new (numbered_at place i state)
    without_root e none =
        let all = none_has place old i.key at.kept roots lists none in
        let e2 : new ≡ mid = stays e in
        let here : HasState place mid (with_roots_at anchor roots (ended_at (state.end + 1) state)) =
        same_state place mid (ended_at (state.end + 1) state)
        (with_roots_at anchor roots (ended_at (state.end + 1) state)) given (record {
          roots = λ a lt. elim (cases_eq a anchor) [
            | inl q ↦
                let here_is : (a == anchor) ≡ true = same_number a anchor q in
                rw here_is (ap state.roots q)
            | inr ne ↦
                let other : (a == anchor) ≡ false = other_number a anchor ne in
                rw other refl
          ];
          begin = refl;
          end = refl;
        }) in
        done roots (none_changed place.segments i.key change roots all)
        (subst (λ area. HasState place area (with_roots_at anchor roots (ended_at (state.end + 1) state))) (sym e2) here)

    by : (o : Option ℕ) → found.number ≡ o → IfSome o (HasNewest place.segments i.key at.kept found.newest)
        → IfNone o (NoneHas place.segments i.key at.kept)
        → HasState place new (numbered_at place i state)
    by (Some n) e some none = with_root n e some
    by None e some none = without_root e none

-- ---- as the calls answer

-- a root's newest serial was given
its_end : (place : Place) (area : List (List ℕ)) (kept roots : List Root) (number : ℕ) (k : Root)
    → AllZip (IsReadAs place area) kept roots → slice_get kept number ≡ Some k
    → newest_serial k.seqs < end_of area
its_end place area [] roots number k all at = cc
its_end place area (x ∷ kept) [] number k all at = absurd all
its_end place area (x ∷ kept) (y ∷ roots) zero k all at =
    subst (λ (z : Root). newest_serial z.seqs < end_of area) (some_same x k at) all.0.before_end
its_end place area (x ∷ kept) (y ∷ roots) (suc number) k all at = its_end place area kept roots number k all.1 at

found_before_end : (place : Place) (area : List (List ℕ)) (state : AreaState) (anchor : ℕ) (key : List ℕ)
    (found : Found) → anchor < anchor_count place.shape → HasState place area state
    → IsFound place area anchor key found → found.newest < end_of area
found_before_end place area state anchor key found below was at = by found.number at.some at.newest
  where
    mine : HasAnchor place area anchor (state.roots anchor)
    mine = was.anchors anchor below

    lists : AllZip (IsReadAs place area) at.kept (state.roots anchor)
    lists = subst (λ xs. AllZip (IsReadAs place area) xs (state.roots anchor))
        (one_chain mine.has.is_chain at.has.is_chain).0 mine.lists

    by : (o : Option ℕ) → IfSome o (HasNewest place.segments key at.kept found.newest)
        → IfNone o (found.newest ≡ 0) → found.newest < end_of area
    by (Some n) some none =
        let low = its_end place area at.kept (state.roots anchor) n some.is_root.root lists some.is_root.is_there in
        let e = some.is_newest in
        omega (arith, low, e)
    by None some none =
        let bounds = was.whole.control.is_control.are_ends in
        let first = bounds.some in
        let ordered = bounds.ordered in
        omega (arith, none, first, ordered)

one_length : (bytes : List ℕ) (n : ℕ) → length bytes ≡ n → All (λ b. length b ≡ n) (bytes ∷ [])
one_length bytes n e = All-cons (λ b. length b ≡ n) bytes [] e (λ k d lt. absurd (omega (arith, lt)))

-- a serial was given
gives_here : (place : Place) (old before mid : List (List ℕ)) (state : AreaState) (i : SeqInsert) (anchor : ℕ)
    (found : Found) → anchor < anchor_count place.shape → before ≡ old → HasState place old state
    → length i.bytes ≡ sequential_length place.segments → IsFound place old anchor i.key found
    → Appends (part_of place) before mid found.newest (i.bytes ∷ [])
    → ¬ IsTooMany place.capacity (begin_of before) (end_of before) 1
    → Gives (part_of place) old mid found.newest (i.bytes ∷ [])
gives_here place old before mid state i anchor found below same was long at appends room = record {
  appends = subst (λ area. Appends (part_of place) area mid found.newest (i.bytes ∷ [])) same appends;
  whole = one_length i.bytes (sequential_length place.segments) long;
  earlier = found_before_end place old state anchor i.key found below was at;
  room = subst (λ area. ¬ IsTooMany place.capacity (begin_of area) (end_of area) 1) same room;
}

-- and the anchor's chain stands
pub chain_stands : (place : Place) (old before mid : List (List ℕ)) (state : AreaState) (i : SeqInsert) (anchor : ℕ)
    (found : Found) → IsPlace place → anchor < anchor_count place.shape → before ≡ old → HasState place old state
    → length i.bytes ≡ sequential_length place.segments → IsFound place old anchor i.key found
    → Appends (part_of place) before mid found.newest (i.bytes ∷ [])
    → ¬ IsTooMany place.capacity (begin_of before) (end_of before) 1
    → HasChain place.shape place.segments mid anchor
chain_stands place old before mid state i anchor found is below same was long at appends room =
    (given_state place old mid found.newest (i.bytes ∷ []) state is was
    (gives_here place old before mid state i anchor found below same was long at appends room)).formed.chains anchor below

pub numbered_here : (place : Place) (old before mid new : List (List ℕ)) (state : AreaState) (i : SeqInsert)
    (anchor serial : ℕ) (found : Found) → IsPlace place → LiesIn place i.dedb i.anchor anchor → before ≡ old
    → HasState place old state → AreOrdered place state → length i.bytes ≡ sequential_length place.segments
    → IsFound place old anchor i.key found → Appends (part_of place) before mid found.newest (i.bytes ∷ [])
    → serial ≡ end_of before → ¬ IsTooMany place.capacity (begin_of before) (end_of before) 1
    → ((n : ℕ) → found.number ≡ Some n → ¬ HasFewer place.shape place.segments mid anchor n
    → SetsNewest place.shape place.segments mid new anchor n serial) → (found.number ≡ None → new ≡ mid)
    → HasState place new (numbered_at place i state)
numbered_here place old before mid new state i anchor serial found is lies same was ordered long at appends is_serial room
    sets stays =
    let n = lies.is_number in
    let e : serial ≡ state.end = is_serial ∙ ap end_of same ∙ was.end in
    inserted place old mid new state i anchor found is lies.below (omega (arith, n)) was ordered at
    (gives_here place old before mid state i anchor found lies.below same was long at appends room)
    (λ k f none. subst (λ s. SetsNewest place.shape place.segments mid new anchor k s) e (sets k f none)) stays

-- keys stay in order
same_keys : (types : List SegDef) (key : List ℕ) (item : SeqItem) (roots : List Root)
    → map (root_key types) (change_key (root_key types) key (with_newest item) roots) ≡ map (root_key types) roots
same_keys types key item [] = refl
same_keys types key item (r ∷ roots) = elim (cases_Bool (same_text (root_key types r) key)) [
  | inl is ↦ rw is (ap (λ ks. root_key types r ∷ ks) (same_keys types key item roots))
  | inr other ↦ rw other (ap (λ ks. root_key types r ∷ ks) (same_keys types key item roots))
]

pub ordered_numbered : (place : Place) (i : SeqInsert) (state : AreaState) → AreOrdered place state
    → AreOrdered place (numbered_at place i state)
ordered_numbered place i state ordered a lt = elim (cases_Bool (a == i.anchor - place.first_anchor)) [
  | inl is ↦
      let e : a ≡ i.anchor - place.first_anchor = grind (arith, nat_tests) in
      rw is (ap ascend (same_keys place.segments i.key (item_of state i) (state.roots (i.anchor - place.first_anchor)))
      ∙ ordered (i.anchor - place.first_anchor) (omega (arith, e, lt)))
  | inr other ↦ rw other (ordered a lt)
]
