-- Places that are taken for the segments of a plan, from the last to the first.
use Rattle.std.proofs.Common.{◌≡◌, ◌⊎◌, ℕ, inl, inr, List, [], ◌∷◌, ◌++◌, All, Contains, Option, Some, None, refl, sym, ap, ◌∙◌, subst, append_assoc}
use Rattle.std.proofs.lemmas.List.{append-nil, map-append}
use Rattle.std.proofs.lemmas.List.Elements.{All-pop}
use Rattle.ci_space.specs.declared.intervals.Shape.{Shape}
use Rattle.ci_space.specs.Interval.{IsUsed}
use Rattle.ci_overflow.specs.Lists.{bytes_at}
use Rattle.ci_overflow.specs.Rooms.{IsOwnRoom}
use Rattle.fp_model.specs.declared.definitions.SegDef.{SegDef}
use Rattle.fp_model.specs.declared.database.Root.{Root}
use Rattle.anchor_elements.specs.Elements.{Pointer}
use Rattle.root_anchor.specs.inside.Rebuilding.{ArePlaced, AreReserved, BuildsPlan, BuildsRoots, Exchanges, HaveRoom, IsDirect, IsPlaced, IsPlanned, IsTaking, TakesPlace, TakesPlaces, and_place, reserved, types_of, types_of_roots}
use Rattle.root_anchor.specs.declared.plan.Planned.{Planned}
use Rattle.root_anchor.proofs.Exchanging.{exchange-again, exchange-both}
use Rattle.root_anchor.proofs.OwnLemmas.{own-there}
use Rattle.root_anchor.proofs.Planning.{exchange-none, places-right, reserved-append, reserved-disjoint, reserved-left, reserved-right, rooms-stay, rooms-used, still-reserved}
use Rattle.plain_laws.proofs.Alls.{contains_cases, contains_first, contains_later}

pub none-taken : (shape : Shape) (types : List SegDef) (area : List (List ℕ)) (anchor : ℕ) (plan : List Planned)
    → IsTaking shape types area area anchor plan plan []
none-taken shape types area anchor plan = record {
  done = [];
  parts = sym (append-nil plan);
  takes = record { exchange = exchange-none shape area; kinds = refl; rooms = tt; placed = tt; own = λ at c. inl c };
}

-- the next one has room, if it has a place
pub next-room : (shape : Shape) (types : List SegDef) (old now : List (List ℕ)) (anchor : ℕ)
    (plan left before taken : List Planned) (p : Planned) → AreReserved types old plan
    → IsTaking shape types old now anchor plan left taken → left ≡ before ++ p ∷ []
    → HaveRoom types now p.segment p.at
next-room shape types old now anchor plan left before taken p r t e =
    let P : List Planned → Type 0 = λ xs. AreReserved types old xs in
    let kept : AreReserved types now left = still-reserved shape types old now left t.done (reserved taken)
    (subst P t.parts r) t.takes.exchange in
    let Q : List Planned → Type 0 = λ xs. AreReserved types now xs in
    (reserved-right types now before (p ∷ []) (subst Q e kept)).rooms.0

-- the types of the rest are types of direct segments still
pub direct-last : (types : List SegDef) (plan before : List Planned) (p : Planned) → plan ≡ before ++ p ∷ []
    → All (IsDirect types) (types_of plan) → All (IsDirect types) (types_of before) × IsDirect types p.segment
direct-last types plan before p e all =
    All-pop (IsDirect types) (types_of plan) (types_of before) (Some p.segment)
    (ap types_of e ∙ map-append (λ (q : Planned). q.segment) before (p ∷ [])) all

-- one more is taken
-- the place that was planned is one of the plan's
own_place : (shape : Shape) (area : List (List ℕ)) (anchor : ℕ) (planned : Option Pointer) (places : List Pointer)
    (at : Pointer) → (planned ≡ Some at) ⊎ IsOwnRoom shape area anchor at.0
    → Contains (and_place planned places) at ⊎ IsOwnRoom shape area anchor at.0
own_place shape area anchor planned places at (inl e) =
    let P : Option Pointer → Type 0 = λ o. Contains (and_place o places) at in inl (subst P (sym e) (contains_first at places))
own_place shape area anchor planned places at (inr o) = inr o

and_more : (planned : Option Pointer) (places : List Pointer) (at : Pointer) → Contains places at
    → Contains (and_place planned places) at
and_more None places at c = c
and_more (Some p) places at c = contains_later p places at c

pub taken-on : (shape : Shape) (types : List SegDef) (old now new : List (List ℕ)) (anchor : ℕ)
    (plan left before taken : List Planned) (p : Planned) (at : Pointer) → AreReserved types old plan
    → IsTaking shape types old now anchor plan left taken
    → left ≡ before ++ p ∷ [] → TakesPlace shape types now new anchor p.segment p.at at
    → IsTaking shape types old new anchor plan before (record { segment = p.segment; at = Some at } ∷ taken)
taken-on shape types old now new anchor plan left before taken p at r t e x =
    let all : plan ≡ before ++ (p ∷ t.done) = t.parts ∙ ap (λ xs. xs ++ t.done) e ∙ append_assoc before (p ∷ []) t.done
    in
    let P : List Planned → Type 0 = λ xs. AreReserved types old xs in
    let rest : AreReserved types old ((p ∷ []) ++ t.done) =
    reserved-right types old before (p ∷ t.done) (subst P all r) in
    let u : (q : Pointer) → Contains (reserved (p ∷ [])) q → IsUsed (bytes_at old q.0) q.1 =
    rooms-used types old (p ∷ []) (reserved-left types old (p ∷ []) t.done rest).rooms in
    let d : (q : Pointer) → Contains (reserved (p ∷ [])) q → ¬ Contains (reserved t.done) q =
    reserved-disjoint types old (p ∷ []) t.done rest in
    let both : Exchanges shape old new (reserved (p ∷ []) ++ reserved t.done) ((at ∷ []) ++ reserved taken) =
    exchange-both shape old now new (reserved t.done) (reserved taken) (reserved (p ∷ [])) (at ∷ []) t.takes.exchange
    x.exchange u d in
    let Q : List Pointer → Type 0 = λ had. Exchanges shape old new had (at ∷ reserved taken) in
    record {
      done = p ∷ t.done;
      parts = all;
      takes = record {
        exchange = subst Q (sym (reserved-append (p ∷ []) t.done)) both;
        kinds = ap (λ ks. p.segment ∷ ks) t.takes.kinds;
        rooms = (
          x.room,
          rooms-stay types now new taken (λ q k content c h. x.exchange.stay q k content
              (λ m. elim (t.takes.exchange.fresh q c) as (λ _. ⊥) [ inl y ↦ d q m y | inr y ↦ y (u q m) ]) h)
              t.takes.rooms,
        );
        placed = (record { place = at; is_place = refl }, t.takes.placed);
        own = λ q c. elim (contains_cases at (reserved taken) q c) as
            (λ _. Contains (reserved (p ∷ t.done)) q ⊎ IsOwnRoom shape new anchor q.0) [
              | inl y ↦ (let S : Pointer → Type 0 = λ z. Contains (reserved (p ∷ t.done)) z
                  ⊎ IsOwnRoom shape new anchor z.0 in
                  subst S y (own_place shape new anchor p.at (reserved t.done) at x.own))
              | inr y ↦ elim (t.takes.own q y) as
                  (λ _. Contains (reserved (p ∷ t.done)) q ⊎ IsOwnRoom shape new anchor q.0)
                  [ inl z ↦ inl (and_more p.at (reserved t.done) q z) | inr z ↦ inr (x.owned q.0 z) ]
            ];
      };
    }

pub all-taken : (shape : Shape) (types : List SegDef) (old now : List (List ℕ)) (anchor : ℕ)
    (plan left taken : List Planned) → left ≡ [] → IsTaking shape types old now anchor plan left taken
    → TakesPlaces shape types old now anchor plan taken
all-taken shape types old now anchor plan left taken e t =
    let same : t.done ≡ plan = sym (t.parts ∙ ap (λ xs. xs ++ t.done) e) in
    subst (λ xs. TakesPlaces shape types old now anchor xs taken) same t.takes

-- where each has a place, it stays as it was
pub kept-on : (plan left before taken : List Planned) (p : Planned) (at : Pointer) → ArePlaced plan
    → plan ≡ left ++ taken → left ≡ before ++ p ∷ [] → ((q : Pointer) → p.at ≡ Some q → at ≡ q)
    → plan ≡ before ++ record { segment = p.segment; at = Some at } ∷ taken
kept-on plan left before taken p at placed e l f =
    let all : plan ≡ before ++ (p ∷ taken) = e ∙ ap (λ xs. xs ++ taken) l ∙ append_assoc before (p ∷ []) taken in
    let P : List Planned → Type 0 = ArePlaced in
    let one : IsPlaced p = (places-right before (p ∷ taken) (subst P all placed)).0 in
    let o : Some at ≡ p.at = ap Some (f one.place one.is_place) ∙ sym one.is_place in
    let same : (let q : Planned = record { segment = p.segment; at = Some at } in q) ≡ p =
    ap (λ (x : Option Pointer). (let q : Planned = record { segment = p.segment; at = x } in q)) o in
    all ∙ ap (λ (q : Planned). before ++ q ∷ taken) (sym same)

-- ---- what is built in these places

pub taken-planned : (shape : Shape) (types : List SegDef) (old new : List (List ℕ)) (anchor : ℕ)
    (plan taken : List Planned) (roots : List Root) → types_of plan ≡ types_of_roots types roots
    → TakesPlaces shape types old new anchor plan taken
    → IsPlanned types new taken [] taken (types_of_roots types roots)
taken-planned shape types old new anchor plan taken roots k t = record {
  parts = refl;
  kinds_are = t.kinds ∙ k;
  are_reserved = record { rooms = t.rooms; once = t.exchange.once };
  placed = t.placed;
}

pub taken-built : (shape : Shape) (types : List SegDef) (old mid new : List (List ℕ)) (anchor : ℕ)
    (plan taken : List Planned) (first : Pointer) (roots : List Root) → TakesPlaces shape types old mid anchor plan taken
    → (ArePlaced plan → taken ≡ plan) → BuildsRoots shape types mid new taken first roots
    → BuildsPlan shape types old new anchor plan first roots
taken-built shape types old mid new anchor plan taken first roots t k b = record {
  elements = b.elements;
  exchange = exchange-again shape old mid new (reserved plan) (reserved taken) b.elements t.exchange b.exchange;
  own = own-there shape mid new anchor (reserved plan) (reserved taken) b.elements t.own b.stand_in;
  all_kept = λ placed. b.stand_in.are ∙ ap reserved (k placed);
  stand = b.stand;
}
