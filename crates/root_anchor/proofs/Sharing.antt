-- The elements that an anchor had, shared out among a plan and a rest.
use Rattle.std.proofs.Common.{◌≡◌, ℕ, suc, ◌+◌, ◌<◌, inl, inr, List, [], ◌∷◌, ◌++◌, length, get_or, take, drop, Contains, Option, Some, None, IfSome, IfNone, refl, sym, ap, ◌∙◌, subst, append_assoc, arith}
use Rattle.std.proofs.Math.Seq.{drop-cons}
use Rattle.std.proofs.lemmas.List.{map-append, take-append-drop}
use Rattle.std.proofs.lemmas.List.Elements.{Contains-append_left, Contains-append_right, Contains-append_cases}
use Rattle.ci_space.specs.declared.intervals.Shape.{Shape}
use Rattle.ci_space.specs.Interval.{HasRoom}
use Rattle.ci_overflow.specs.Lists.{bytes_at}
use Rattle.fp_model.specs.declared.definitions.SegDef.{SegDef}
use Rattle.anchor_elements.specs.Elements.{Pointer, content_length}
use Rattle.root_anchor.specs.inside.Standing.{places_of, Stands, AreStanding}
use Rattle.root_anchor.specs.inside.Rebuilding.{AreApart, reserved, HaveRoom, HaveRooms, AreReserved, TakesOut, IsOneOf, AreTyped, Shares}
use Rattle.root_anchor.specs.declared.plan.Planned.{Planned}
use Rattle.root_anchor.specs.declared.standing.Standing.{Standing}
use Rattle.root_anchor.proofs.Apart.{apart-left, apart-pairs}
use Rattle.plain_laws.proofs.Alls.{contains_cases, contains_first, contains_later}

-- ---- an element in front of others

pub apart-front : (ws zs : List Pointer) (a : Pointer) → AreApart (ws ++ (a ∷ zs)) → AreApart (a ∷ (ws ++ zs))
apart-front [] zs a h = h
apart-front (w ∷ ws) zs a h =
    let i : AreApart (a ∷ (ws ++ zs)) = apart-front ws zs a h.1 in (
      (λ c. elim (contains_cases w (ws ++ zs) a c) as (λ _. ⊥) [
        | inl e ↦ (let P : Pointer → Type 0 = λ x. Contains (ws ++ (a ∷ zs)) x in
            h.0 (subst P (sym e) (Contains-append_right ws (a ∷ zs) a (contains_first a zs))))
        | inr d ↦ i.0 d
      ]),
      (
        (λ c. h.0 (elim (Contains-append_cases ws zs w c) as (λ _. Contains (ws ++ (a ∷ zs)) w) [
          | inl d ↦ Contains-append_left ws (a ∷ zs) w d
          | inr d ↦ Contains-append_right ws (a ∷ zs) w (contains_later a zs w d)
        ])),
        i.1,
      ),
    )

pub to-front : {X : Type 0} (ws zs : List X) (a x : X) → Contains (ws ++ (a ∷ zs)) x → Contains (a ∷ (ws ++ zs)) x
to-front {X} ws zs a x c = elim (Contains-append_cases ws (a ∷ zs) x c) as (λ _. Contains (a ∷ (ws ++ zs)) x) [
  | inl d ↦ contains_later a (ws ++ zs) x (Contains-append_left ws zs x d)
  | inr d ↦ elim (contains_cases a zs x d) as (λ _. Contains (a ∷ (ws ++ zs)) x) [
    | inl e ↦ (let P : X → Type 0 = λ y. Contains (a ∷ (ws ++ zs)) y in subst P e (contains_first a (ws ++ zs)))
    | inr f ↦ contains_later a (ws ++ zs) x (Contains-append_right ws zs x f)
  ]
]

pub from-front : {X : Type 0} (ws zs : List X) (a x : X) → Contains (a ∷ (ws ++ zs)) x → Contains (ws ++ (a ∷ zs)) x
from-front {X} ws zs a x c = elim (contains_cases a (ws ++ zs) x c) as (λ _. Contains (ws ++ (a ∷ zs)) x) [
  | inl e ↦ (let P : X → Type 0 = λ y. Contains (ws ++ (a ∷ zs)) y in
      subst P e (Contains-append_right ws (a ∷ zs) a (contains_first a zs)))
  | inr d ↦ elim (Contains-append_cases ws zs x d) as (λ _. Contains (ws ++ (a ∷ zs)) x) [
    | inl f ↦ Contains-append_left ws (a ∷ zs) x f
    | inr f ↦ Contains-append_right ws (a ∷ zs) x (contains_later a zs x f)
  ]
]

-- ---- an element that is taken out

pub takes-out : (old new : List Standing) (k type : ℕ) (taken : Standing) → k < length old
    → (get_or old k taken).segment ≡ type → taken ≡ get_or old k taken → new ≡ take k old ++ drop (k + 1) old
    → TakesOut old new type taken.at
takes-out old new k type taken b t e n =
    let one : k + 1 ≡ suc k = omega arith in
    let d : drop k old ≡ taken ∷ drop (k + 1) old =
    drop-cons old k taken b ∙ ap (λ (x : Standing). x ∷ drop (suc k) old) (sym e) ∙ ap (λ j. taken ∷ drop j old)
    (sym one) in
    record {
      before = take k old;
      after = drop (k + 1) old;
      taken = taken;
      was = sym (take-append-drop k old) ∙ ap (λ xs. take k old ++ xs) d;
      now = n;
      is_type = ap (λ (s : Standing). s.segment) e ∙ t;
      is_at = refl;
    }

pub shares-all : (all : List Standing) → Shares all [] all
shares-all all = record { typed = tt; of_rest = λ s c. c; once = λ a. a; had = λ at c. c; has = λ at c. c }

shares_taken : (all : List Standing) (plan : List Planned) (old new : List Standing) (type : ℕ) (at : Pointer)
    → Shares all plan old → TakesOut old new type at → Shares all ((record { segment = type; at = Some at }) ∷ plan) new
shares_taken all plan old new type at s t =
    let ws : List Pointer = reserved plan ++ places_of t.before in
    let zs : List Pointer = places_of t.after in
    let was : reserved plan ++ places_of old ≡ ws ++ (at ∷ zs) =
    ap (λ xs. reserved plan ++ places_of xs) t.was ∙ ap (λ xs. reserved plan ++ xs)
    (map-append (λ (x : Standing). x.at) t.before (t.taken ∷ t.after))
    ∙ sym (append_assoc (reserved plan) (places_of t.before) (t.taken.at ∷ zs)) ∙ ap (λ a. ws ++ (a ∷ zs)) t.is_at
    in
    let now : at ∷ (reserved plan ++ places_of new) ≡ at ∷ (ws ++ zs) =
    ap (λ xs. at ∷ xs) (ap (λ xs. reserved plan ++ places_of xs) t.now ∙ ap (λ xs. reserved plan ++ xs)
    (map-append (λ (x : Standing). x.at) t.before t.after)
    ∙ sym (append_assoc (reserved plan) (places_of t.before) zs))
    in
    let P : List Pointer → Type 0 = AreApart in
    record {
      typed = (
        let Q : List Standing → Type 0 = λ xs. Contains xs t.taken in
            record {
              standing = t.taken;
              held = s.of_rest t.taken
                  (subst Q (sym t.was) (Contains-append_right t.before (t.taken ∷ t.after) t.taken
                  (contains_first t.taken t.after)));
              is_type = t.is_type;
              is_at = t.is_at;
            },
        s.typed,
      );
      of_rest = λ x c.
          let Q : List Standing → Type 0 = λ xs. Contains xs x in
          s.of_rest x (subst Q (sym t.was) (from-front t.before t.after t.taken x
          (contains_later t.taken (t.before ++ t.after) x (subst Q t.now c))));
      once = λ a. subst P (sym now) (apart-front ws zs at (subst P was (s.once a)));
      had = λ p c. let Q : List Pointer → Type 0 = λ xs. Contains xs p in
          subst Q (sym now) (to-front ws zs at p (subst Q was (s.had p c)));
      has = λ p c. let Q : List Pointer → Type 0 = λ xs. Contains xs p in
          s.has p (subst Q (sym was) (from-front ws zs at p (subst Q now c)));
    }

pub shares-more : (all : List Standing) (plan : List Planned) (old new : List Standing) (type : ℕ) (o : Option Pointer)
    → IfSome o (TakesOut old new type) → IfNone o (new ≡ old) → Shares all plan old
    → Shares all ((record { segment = type; at = o }) ∷ plan) new
shares-more all plan old new type None t e s =
    let P : List Standing → Type 0 = λ xs. Shares all ((record { segment = type; at = None }) ∷ plan) xs in
    subst P (sym e) (record { typed = (tt, s.typed); of_rest = s.of_rest; once = s.once; had = s.had; has = s.has })
shares-more all plan old new type (Some at) t e s = shares_taken all plan old new type at s t

-- ---- what stood has room

stands_room : (types : List SegDef) (area : List (List ℕ)) (all : List Standing) (type : ℕ) (o : Option Pointer)
    → ((s : Standing) → Contains all s → Stands types area s) → IfSome o (IsOneOf all type) → HaveRoom types area type o
stands_room types area all type None f h = tt
stands_room types area all type (Some at) f h =
    let s = (f h.standing h.held).has in
    let P : Pointer → Type 0 = λ p. HasRoom (bytes_at area p.0) p.1 (content_length types type) in
    let Q : ℕ → Type 0 = λ t. HasRoom (bytes_at area h.standing.at.0) h.standing.at.1 (content_length types t) in
    subst P h.is_at (subst Q h.is_type (record {
      segment = h.standing.segment;
      content = s.content;
      used =
          s.used;
      fits = s.fits;
    }))

plan_rooms : (types : List SegDef) (area : List (List ℕ)) (all : List Standing) (plan : List Planned)
    → ((s : Standing) → Contains all s → Stands types area s) → AreTyped all plan → HaveRooms types area plan
plan_rooms types area all [] f h = tt
plan_rooms types area all (p ∷ plan) f h = (
  stands_room types area all p.segment p.at f h.0,
  plan_rooms types area all plan f h.1,
)

pub plan-reserved : (shape : Shape) (types : List SegDef) (area : List (List ℕ)) (anchor : ℕ) (all rest : List Standing)
    (plan : List Planned) → AreStanding shape types area anchor all → Shares all plan rest → AreReserved types area plan
plan-reserved shape types area anchor all rest plan a s = record {
  rooms = plan_rooms types area all plan a.typed s.typed;
  once = apart-left (reserved plan) (places_of rest) (s.once (apart-pairs (places_of all) a.once));
}
