-- An anchor that was rebuilt in an area that is whole: it has its new roots, the other anchors theirs, and the area is
-- whole.
use Rattle.std.proofs.Common.{◌≡◌, ◌≢◌, ◌⊎◌, ℕ, ◌<◌, inl, inr, List, [], ◌++◌, Contains, sym, ◌∙◌, subst, arith}
use Rattle.ci_space.specs.declared.intervals.Shape.{Shape}
use Rattle.ci_space.specs.Interval.{HasUsed, IsUsed}
use Rattle.ci_overflow.specs.Places.{base_of}
use Rattle.ci_overflow.specs.Lists.{bytes_at, IsInOrder, IsInPlace}
use Rattle.ci_overflow.specs.Rooms.{IsOwnRoom}
use Rattle.fp_model.specs.declared.definitions.SegDef.{SegDef}
use Rattle.fp_model.specs.declared.database.Root.{Root}
use Rattle.anchor_elements.specs.Elements.{Pointer}
use Rattle.root_anchor.specs.Chains.{IsChain, AreRoots, anchor_count, root_of}
use Rattle.root_anchor.specs.Formed.{IsFormed, HasChain, HasRoots, Meets, IsMet, NewAreOwn}
use Rattle.root_anchor.specs.inside.Puts.{PutsRoot}
use Rattle.root_anchor.specs.Stored.{KeepsSequential, OthersKeep, ApartKeep}
use Rattle.std.proofs.lemmas.List.{append-nil}
use Rattle.root_anchor.specs.inside.Standing.{places_of, AreStanding}
use Rattle.root_anchor.specs.inside.Storing.{IsStored}
use Rattle.root_anchor.specs.declared.plan.Planned.{Planned}
use Rattle.root_anchor.specs.declared.standing.Standing.{Standing}
use Rattle.root_anchor.specs.inside.Rebuilding.{Exchanges, RootsStand, met_after, reserved, types_of, types_of_roots, ArePlaced, AreReserved, BuildsPlan, AreGivable, IsRebuildable, Rebuilds, Shares}
use Rattle.root_anchor.proofs.Planning.{rooms-stay, rooms-used}
use Rattle.root_anchor.proofs.Sharing.{plan-reserved}
use Rattle.std.proofs.lemmas.List.Elements.{Contains-append_left, Contains-append_right}
use Rattle.root_anchor.proofs.Apart.{holds_or, met-cases, met-now, apart-left, apart-right, apart-disjoint, apart-pairs}
use Rattle.root_anchor.specs.Faults.{FaultComes, ListsFail}
use Rattle.root_anchor.proofs.ComingLemmas.{fault-wider}
use Rattle.root_anchor.proofs.OwnLemmas.{root_keeps_own}
use Rattle.root_anchor.proofs.Exchanging.{sequential-joined, exchange-both}
use Rattle.root_anchor.proofs.Framing.{Stay, roots_stay}
use Rattle.root_anchor.proofs.OneChain.{one_chain, chain_has, HasSome}
use Rattle.root_anchor.proofs.PutLemmas.{base_before, root_keeps_order, root_keeps_used, root_keeps_segment, root_is_put, root_keeps_roots, root_keeps_sequential, segment_stays}
use Rattle.plain_laws.proofs.Alls.{contains_nothing}
use Rattle.plain_laws.proofs.Numbers.{same_or_other}

-- an anchor below the count has its base interval in its place
pub base-in-place : (shape : Shape) (area : List (List ℕ)) (anchor : ℕ) → IsInOrder shape area
    → anchor < anchor_count shape → IsInPlace shape area (base_of shape anchor)
base-in-place shape area anchor o b = o.in_place (base_of shape anchor)
    (omega (arith, base_before shape anchor b, o.whole))

-- The elements `had` of an anchor gave way to `has`, in which its new roots stand, and its root anchor point leads
-- there.
pub record IsRebuilt (shape : Shape) (types : List SegDef) (old middle new : List (List ℕ)) (anchor : ℕ)
    (had has : List Pointer) (first : Pointer) (roots : List Root) : Type 0 where
  pub below : anchor < anchor_count shape
  pub in_order : IsInOrder shape old
  pub exchange : Exchanges shape old middle had has
  pub stand : RootsStand types middle first roots has
  pub put : PutsRoot shape middle new anchor first

module _ (shape : Shape) (types : List SegDef) (old middle new : List (List ℕ)) (anchor : ℕ) (had has : List Pointer)
    (first : Pointer) (roots : List Root)
    (it : IsRebuilt shape types old middle new anchor had has first roots) where
  pub new-order : IsInOrder shape new
  new-order = root_keeps_order shape middle new anchor first (it.exchange.in_order it.in_order) it.put it.below

  -- a used element that the anchor hadn't stays
  stays : (at : Pointer) (type : ℕ) (content : List ℕ) → ¬ Contains had at
      → HasUsed (bytes_at old at.0) at.1 type content → HasUsed (bytes_at new at.0) at.1 type content
  stays at type content n h = (root_keeps_used shape middle new anchor first it.put at.0).stay at.1 type content
      (it.exchange.stay at type content n h)

  pub new-chain : IsChain shape types new anchor roots (met_after has [])
  new-chain =
      let from : AreRoots types middle [] first roots (met_after has []) = it.stand [] (λ at c. contains_nothing at) in
      let there : AreRoots types new [] first roots (met_after has []) = roots_stay from (record {
        each =
            λ p _ _ type s h. root_keeps_segment shape types middle new anchor first it.put type p s h;
      }) in
      let P : Pointer → Type 0 = λ at. AreRoots types new [] at roots (met_after has []) in
      record {
        base = base-in-place shape new anchor new-order it.below;
        are_roots = subst P (sym (root_is_put shape middle new anchor first it.put)) there;
      }

  pub new-sequential : KeepsSequential shape old new
  new-sequential = sequential-joined shape old middle new (it.exchange.sequential it.in_order)
      (root_keeps_sequential shape middle new anchor first it.put it.below)

  -- an anchor keeps its roots that had none of those elements
  pub apart-stays : (other : ℕ) (rs : List Root) (es : List Pointer) → other < anchor_count shape → other ≢ anchor
      → IsChain shape types old other rs es → ((at : Pointer) → Contains es at → ¬ Contains had at)
      → IsChain shape types new other rs es
  apart-stays other rs es b n c apart =
      let stay : Stay types old new [] es = record {
        each = λ p h _ type s x. segment_stays types old new type p s
            (λ content. stays p type content (apart p h)) x;
      } in
      let there : AreRoots types new [] (root_of shape old other) rs es = roots_stay c.are_roots stay in
      let e : root_of shape new other ≡ root_of shape old other =
      root_keeps_roots shape middle new anchor first it.put it.below other b n ∙ it.exchange.roots
      (base_of shape other) in
      let P : Pointer → Type 0 = λ at. AreRoots types new [] at rs es in
      record { base = base-in-place shape new other new-order b; are_roots = subst P (sym e) there }

  module _ (types_had : List Pointer) (olds : List Root) (chain : IsChain shape types old anchor olds types_had)
      (same : (at : Pointer) → Contains had at → Contains types_had at)
      (back : (at : Pointer) → Contains types_had at → Contains had at) (formed : IsFormed shape types old) where
    -- the anchor met what it had
    met-had : (at : Pointer) → Meets shape types old anchor at → Contains had at
    met-had at m = let P : List Pointer → Type 0 = λ l. Contains l at in
        back at (subst P ((one_chain m.is_chain chain).1) m.met)

    -- another anchor met none of that
    apart-had : (other : ℕ) (at : Pointer) → other < anchor_count shape → other ≢ anchor
        → Meets shape types old other at → ¬ Contains had at
    apart-had other at b n m c = n (formed.apart other anchor at b it.below m
        (record { roots = olds; elements = types_had; is_chain = chain; met = same at c }))

    others-stay : (other : ℕ) (rs : List Root) (es : List Pointer) → other < anchor_count shape → other ≢ anchor
        → IsChain shape types old other rs es → IsChain shape types new other rs es
    others-stay other rs es b n c = apart-stays other rs es b n c
        (λ p h. apart-had other p b n (record { roots = rs; elements = es; is_chain = c; met = h }))

    pub others-keep : OthersKeep shape types old new anchor
    others-keep = record { keep = others-stay }

    -- what is met in the new area
    met-new : (at : Pointer) → Meets shape types new anchor at → Contains has at
    met-new at m =
        let P : List Pointer → Type 0 = λ l. Contains l at in
        elim (met-cases has [] at (subst P ((one_chain m.is_chain new-chain).1) m.met)) as (λ _. Contains has at)
        [ inl c ↦ c | inr c ↦ absurd (contains_nothing at c) ]

    met-before : (other : ℕ) (at : Pointer) → other < anchor_count shape → other ≢ anchor
        → Meets shape types new other at → Meets shape types old other at
    met-before other at b n m =
        let h : HasChain shape types old other = formed.chains other b in
        let P : List Pointer → Type 0 = λ l. Contains l at in
        record {
          roots = h.roots;
          elements = h.elements;
          is_chain = h.is_chain;
          met = subst P ((one_chain m.is_chain (others-stay other h.roots h.elements b n h.is_chain)).1) m.met;
        }

    used-before : (other : ℕ) (at : Pointer) → Meets shape types old other at → IsUsed (bytes_at old at.0) at.1
    used-before other at m = let s : HasSome types old at = chain_has m.is_chain at m.met in
        record { segment = s.type; content = s.has.content; used = s.has.used }

    -- what the anchor has, no other has
    has-alone : (other : ℕ) (at : Pointer) → other < anchor_count shape → other ≢ anchor
        → Meets shape types new anchor at → ¬ Meets shape types new other at
    has-alone other at b n m o =
        let x : Meets shape types old other at = met-before other at b n o in
        elim (it.exchange.fresh at (met-new at m)) as (λ _. ⊥) [
          | inl c ↦ apart-had other at b n x c
          | inr u ↦ u (used-before other at x)
        ]

    new-apart : (a b : ℕ) (at : Pointer) → a < anchor_count shape → b < anchor_count shape → Meets shape types new a at
        → Meets shape types new b at → a ≡ b
    new-apart a b at x y m n = elim (same_or_other a anchor) as (λ _. a ≡ b) [
      | inl e ↦ elim (same_or_other b anchor) as (λ _. a ≡ b) [
        | inl f ↦ e ∙ sym f
        | inr f ↦ (let P : ℕ → Type 0 = λ c. Meets shape types new c at in absurd (has-alone b at y f (subst P e m) n))
      ]
      | inr e ↦ elim (same_or_other b anchor) as (λ _. a ≡ b) [
        | inl f ↦ (let P : ℕ → Type 0 = λ c. Meets shape types new c at in absurd (has-alone a at x e (subst P f n) m))
        | inr f ↦ formed.apart a b at x y (met-before a at x e m) (met-before b at y f n)
      ]
    ]

    new-chains : (other : ℕ) → other < anchor_count shape → HasChain shape types new other
    new-chains other b = elim (same_or_other other anchor) as (λ _. HasChain shape types new other) [
      | inl e ↦ (let P : ℕ → Type 0 = λ c. HasChain shape types new c in
          subst P (sym e) (record { roots = roots; elements = met_after has []; is_chain = new-chain }))
      | inr n ↦ (let h : HasChain shape types old other = formed.chains other b in
          record {
            roots = h.roots;
            elements = h.elements;
            is_chain =
                others-stay other h.roots h.elements b n h.is_chain;
          })
    ]

    each-met : (at : Pointer) → IsUsed (bytes_at new at.0) at.1 → IsMet shape types new at
    each-met at u =
        let f : (type : ℕ) (content : List ℕ) → HasUsed (bytes_at new at.0) at.1 type content
        → HasUsed (bytes_at middle at.0) at.1 type content =
        λ type content. (root_keeps_used shape middle new anchor first it.put at.0).none_comes at.1 type content
        in
        elim (holds_or has at) as (λ _. IsMet shape types new at) [
          | inl c ↦ record {
            anchor = anchor;
            below = it.below;
            meets =
                record { roots = roots; elements = met_after has []; is_chain = new-chain; met = met-now has [] at c };
          }
          | inr n ↦
              (let b = it.exchange.none_comes at u.segment u.content n (f u.segment u.content u.used) in
              let m : IsMet shape types old at = formed.each_met at (record {
                segment = u.segment;
                content =
                    u.content;
                used = b.1;
              }) in
              elim (same_or_other m.anchor anchor) as (λ _. IsMet shape types new at) [
                | inl e ↦ (let P : ℕ → Type 0 = λ c. Meets shape types old c at in
                    absurd (b.0 (met-had at (subst P e m.meets))))
                | inr d ↦ record {
                  anchor = m.anchor;
                  below = m.below;
                  meets = record {
                    roots = m.meets.roots;
                    elements = m.meets.elements;
                    is_chain =
                        others-stay m.anchor m.meets.roots m.meets.elements m.below d m.meets.is_chain;
                    met =
                        m.meets.met;
                  };
                }
              ])
        ]

    pub new-formed : IsFormed shape types new
    new-formed = record { in_order = new-order; chains = new-chains; apart = new-apart; each_met = each-met }

-- ---- the steps of a rebuilding

pub givable : (shape : Shape) (types : List SegDef) (area : List (List ℕ)) (anchor : ℕ) (plan : List Planned)
    (rest : List Standing) (roots : List Root) → IsRebuildable shape types area anchor plan rest roots
    → AreGivable area (places_of rest)
givable shape types area anchor plan rest roots r = record
    { used = r.used; once = apart-right (reserved plan) (places_of rest) r.once }

pub plan-stays : (shape : Shape) (types : List SegDef) (old mid : List (List ℕ)) (anchor : ℕ) (plan : List Planned)
    (rest : List Standing) (roots : List Root) → IsRebuildable shape types old anchor plan rest roots
    → Exchanges shape old mid (places_of rest) [] → AreReserved types mid plan
plan-stays shape types old mid anchor plan rest roots r e = record {
  rooms = rooms-stay types old mid plan (λ at t content c h. e.stay at t content
      (apart-disjoint (reserved plan) (places_of rest) at r.once c) h) r.rooms;
  once = apart-left (reserved plan) (places_of rest) r.once;
}

-- what each step leaves in its place
pub place-stays : (shape : Shape) (old new : List (List ℕ)) (ci : ℕ) (had has : List Pointer)
    → Exchanges shape old new had has → IsInPlace shape old ci → IsInPlace shape new ci
place-stays shape old new ci had has e p =
    let k = e.kinds ci p.is_interval in record { is_interval = k.0; is_kind = k.1 ∙ p.is_kind }

pub rebuilds : (shape : Shape) (types : List SegDef) (old mid mid2 new : List (List ℕ)) (anchor : ℕ)
    (plan : List Planned) (rest : List Standing) (roots : List Root) (first : Pointer)
    → IsRebuildable shape types old anchor plan rest roots → Exchanges shape old mid (places_of rest) []
    → BuildsPlan shape types mid mid2 anchor plan first roots → PutsRoot shape mid2 new anchor first
    → Rebuilds shape types old new anchor plan rest roots
rebuilds shape types old mid mid2 new anchor plan rest roots first r e b p =
    let x : Exchanges shape old mid2 (reserved plan ++ places_of rest) (b.elements ++ []) =
    exchange-both shape old mid mid2 (places_of rest) [] (reserved plan) b.elements e b.exchange
    (rooms-used types old plan r.rooms) (λ at c. apart-disjoint (reserved plan) (places_of rest) at r.once c)
    in
    let P : List Pointer → Type 0 = λ has. Exchanges shape old mid2 (reserved plan ++ places_of rest) has in
    record {
      middle = mid2;
      first = first;
      elements = b.elements;
      exchange = subst P (append-nil b.elements) x;
      own = λ at c. elim (b.own at c) as
          (λ _. Contains (reserved plan ++ places_of rest) at ⊎ IsOwnRoom shape mid2 anchor at.0)
          [ inl h ↦ inl (Contains-append_left (reserved plan) (places_of rest) at h) | inr o ↦ inr o ];
      stand =
          b.stand;
      put = p;
    }

-- where the plan has a place for each, the roots stand just there
pub kept-chain : (shape : Shape) (types : List SegDef) (old mid mid2 new : List (List ℕ)) (anchor : ℕ)
    (plan : List Planned) (rest : List Standing) (roots : List Root) (first : Pointer) → anchor < anchor_count shape
    → IsInOrder shape old
    → IsRebuildable shape types old anchor plan rest roots → Exchanges shape old mid (places_of rest) []
    → BuildsPlan shape types mid mid2 anchor plan first roots → ArePlaced plan → PutsRoot shape mid2 new anchor first
    → IsChain shape types new anchor roots (met_after (reserved plan) [])
kept-chain shape types old mid mid2 new anchor plan rest roots first below o r e b placed p =
    let x : Exchanges shape old mid2 (reserved plan ++ places_of rest) (b.elements ++ []) =
    exchange-both shape old mid mid2 (places_of rest) [] (reserved plan) b.elements e b.exchange
    (rooms-used types old plan r.rooms) (λ at c. apart-disjoint (reserved plan) (places_of rest) at r.once c)
    in
    let P : List Pointer → Type 0 = λ has. Exchanges shape old mid2 (reserved plan ++ places_of rest) has in
    let it : IsRebuilt shape types old mid2 new anchor (reserved plan ++ places_of rest) b.elements first roots = record {
      below = below;
      in_order = o;
      exchange = subst P (append-nil b.elements) x;
      stand = b.stand;
      put = p;
    } in
    let Q : List Pointer → Type 0 = λ es. IsChain shape types new anchor roots (met_after es []) in
    subst Q (b.all_kept placed) (new-chain shape types old mid2 new anchor (reserved plan ++ places_of rest) b.elements
    first roots it)

-- ---- from what an anchor had to its new roots

pub rebuildable : (shape : Shape) (types : List SegDef) (area : List (List ℕ)) (anchor : ℕ) (all rest : List Standing)
    (plan : List Planned) (roots : List Root) → AreStanding shape types area anchor all
    → Shares all plan rest → types_of plan ≡ types_of_roots types roots
    → IsRebuildable shape types area anchor plan rest roots
rebuildable shape types area anchor all rest plan roots a s k = record {
  base = a.is_chain.base;
  kinds_are = k;
  rooms = (plan-reserved shape types area anchor all rest plan a s).rooms;
  used = λ at c.
      let h : HasSome types area at = chain_has a.is_chain at
      ((a.same at).0 (s.has at (Contains-append_right (reserved plan) (places_of rest) at c))) in
      record { segment = h.type; content = h.has.content; used = h.has.used };
  once = s.once (apart-pairs (places_of all) a.once);
}

-- what a store leaves in an area that was whole
pub is-stored : (shape : Shape) (types : List SegDef) (old new : List (List ℕ)) (anchor : ℕ) (all rest : List Standing)
    (plan : List Planned) (roots : List Root) → anchor < anchor_count shape → IsFormed shape types old
    → AreStanding shape types old anchor all → Shares all plan rest
    → Rebuilds shape types old new anchor plan rest roots → IsStored shape types old new anchor roots
is-stored shape types old new anchor all rest plan roots b f a s r =
    let o : IsInOrder shape old = f.in_order in
    let had : List Pointer = reserved plan ++ places_of rest in
    let it : IsRebuilt shape types old r.middle new anchor had r.elements r.first roots = record {
      below = b;
      in_order = o;
      exchange = r.exchange;
      stand = r.stand;
      put = r.put;
    } in
    let same : (at : Pointer) → Contains had at → Contains a.elements at = λ at c. (a.same at).0 (s.has at c) in
    let back : (at : Pointer) → Contains a.elements at → Contains had at = λ at c. s.had at ((a.same at).1 c) in
    record {
      stored = record {
        elements = met_after r.elements [];
        is_chain =
            new-chain shape types old r.middle new anchor had r.elements r.first roots it;
      };
      others = others-keep shape types old r.middle new anchor had r.elements r.first roots it a.elements a.roots
          a.is_chain same back f;
      sequential = new-sequential shape types old r.middle new anchor had r.elements r.first roots it;
      formed = new-formed shape types old r.middle new anchor had r.elements r.first roots it a.elements a.roots
          a.is_chain same back f;
    }

pub ready : (shape : Shape) (types : List SegDef) (old now : List (List ℕ)) (anchor : ℕ)
    (all rest slice : List Standing) (plan : List Planned) (roots : List Root) → now ≡ old → slice ≡ rest
    → AreStanding shape types old anchor all → Shares all plan rest → types_of plan ≡ types_of_roots types roots
    → IsRebuildable shape types now anchor plan slice roots
ready shape types old now anchor all rest slice plan roots e s a h k =
    let P : List (List ℕ) → Type 0 = λ area. IsRebuildable shape types area anchor plan slice roots in
    let Q : List Standing → Type 0 = λ xs. IsRebuildable shape types old anchor plan xs roots in
    subst P (sym e) (subst Q (sym s) (rebuildable shape types old anchor all rest plan roots a h k))

pub stores : (shape : Shape) (types : List SegDef) (old now new : List (List ℕ)) (anchor : ℕ)
    (all rest slice : List Standing) (plan : List Planned) (roots : List Root) → now ≡ old → slice ≡ rest
    → anchor < anchor_count shape
    → IsFormed shape types old → AreStanding shape types old anchor all → Shares all plan rest
    → Rebuilds shape types now new anchor plan slice roots → IsStored shape types old new anchor roots
stores shape types old now new anchor all rest slice plan roots e s b f a h r =
    let P : List (List ℕ) → Type 0 = λ area. Rebuilds shape types area new anchor plan slice roots in
    let Q : List Standing → Type 0 = λ xs. Rebuilds shape types old new anchor plan xs roots in
    is-stored shape types old new anchor all rest plan roots b f a h (subst Q s (subst P e r))

-- an anchor that shares no element with this one keeps its roots, in any area in order
pub apart-kept : (shape : Shape) (types : List SegDef) (old now new : List (List ℕ)) (anchor : ℕ)
    (all rest slice : List Standing) (plan : List Planned) (roots : List Root) → now ≡ old → slice ≡ rest
    → anchor < anchor_count shape → IsInOrder shape old → AreStanding shape types old anchor all → Shares all plan rest
    → Rebuilds shape types now new anchor plan slice roots → ApartKeep shape types old new anchor
apart-kept shape types old now new anchor all rest slice plan roots e f b o a s r0 =
    let P : List (List ℕ) → Type 0 = λ area. Rebuilds shape types area new anchor plan slice roots in
    let Q : List Standing → Type 0 = λ xs. Rebuilds shape types old new anchor plan xs roots in
    let r : Rebuilds shape types old new anchor plan rest roots = subst Q f (subst P e r0) in
    let had : List Pointer = reserved plan ++ places_of rest in
    let it : IsRebuilt shape types old r.middle new anchor had r.elements r.first roots = record {
      below = b;
      in_order = o;
      exchange = r.exchange;
      stand = r.stand;
      put = r.put;
    } in
    record {
      keep = λ other rs mine es of_mine l n c m d.
          apart-stays shape types old r.middle new anchor had r.elements r.first roots it other rs es l n c
          (λ at h k. d at h (let R : List Pointer → Type 0 = λ xs. Contains xs at in
          subst R ((one_chain a.is_chain m).1) ((a.same at).0 (s.has at k))));
    }

-- each element that an anchor has was one before, or is in its own unit of work
pub own-kept : (shape : Shape) (types : List SegDef) (old now new : List (List ℕ)) (anchor : ℕ)
    (all rest slice : List Standing) (plan : List Planned) (roots : List Root) → now ≡ old → slice ≡ rest
    → anchor < anchor_count shape → IsInOrder shape old → AreStanding shape types old anchor all → Shares all plan rest
    → Rebuilds shape types now new anchor plan slice roots → NewAreOwn shape types old new anchor
own-kept shape types old now new anchor all rest slice plan roots e f b o a s r0 =
    let P : List (List ℕ) → Type 0 = λ area. Rebuilds shape types area new anchor plan slice roots in
    let Q : List Standing → Type 0 = λ xs. Rebuilds shape types old new anchor plan xs roots in
    let r : Rebuilds shape types old new anchor plan rest roots = subst Q f (subst P e r0) in
    let had : List Pointer = reserved plan ++ places_of rest in
    let it : IsRebuilt shape types old r.middle new anchor had r.elements r.first roots = record {
      below = b;
      in_order = o;
      exchange = r.exchange;
      stand = r.stand;
      put = r.put;
    } in
    let chain : IsChain shape types new anchor roots (met_after r.elements []) =
    new-chain shape types old r.middle new anchor had r.elements r.first roots it in
    record {
      each = λ at m.
          let R : List Pointer → Type 0 = λ xs. Contains xs at in
          let c : Contains r.elements at = elim (met-cases r.elements [] at (subst R ((one_chain m.is_chain chain).1) m.met))
          as (λ _. Contains r.elements at) [ inl k ↦ k | inr k ↦ absurd (contains_nothing at k) ] in
          elim (r.own at c) as (λ _. Meets shape types old anchor at ⊎ IsOwnRoom shape new anchor at.0) [
            | inl h ↦ inl (record {
              roots = a.roots;
              elements = a.elements;
              is_chain = a.is_chain;
              met = (a.same at).0 (s.has at h);
            })
            | inr w ↦ inr (root_keeps_own shape r.middle new anchor at.0 r.first r.put w)
          ];
    }

-- an anchor has the roots that stand in its elements
pub has_chain : {shape : Shape} {types : List SegDef} {area : List (List ℕ)} {anchor : ℕ} {list : List Standing}
    → AreStanding shape types area anchor list → HasChain shape types area anchor
has_chain standing = record { roots = standing.roots; elements = standing.elements; is_chain = standing.is_chain }

-- an interval that is at fault where the rest of an anchor's elements is given back and room is taken
pub lists_fail : (shape : Shape) (types : List SegDef) (old now : List (List ℕ)) (anchor ci : ℕ)
    (all rest slice : List Standing) (plan : List Planned) → now ≡ old → slice ≡ rest
    → AreStanding shape types old anchor all → Shares all plan rest
    → FaultComes shape anchor (places_of slice) now ci → ListsFail shape types old anchor ci
lists_fail shape types old now anchor ci all rest slice plan e s a h f =
    let P : List (List ℕ) → Type 0 = λ area. FaultComes shape anchor (places_of slice) area ci in
    let Q : List Standing → Type 0 = λ xs. FaultComes shape anchor (places_of xs) old ci in
    record {
      roots = a.roots;
      elements = a.elements;
      is_chain = a.is_chain;
      fault = fault-wider shape anchor (places_of rest) a.elements old ci (λ at c. (a.same at).0
          (h.has at (Contains-append_right (reserved plan) (places_of rest) at c))) (subst Q s (subst P e f));
    }
