-- What a walk has met.
use Rattle.std.proofs.Common.{◌≡◌, ◌≢◌, ◌↔◌, inl, inr, ℕ, ◌+◌, ◌*◌, ◌<◌, ◌≤◌, List, [], ◌∷◌, ◌++◌, length, map, reverse, get_or, Bool, true, false, cond, ◌&&◌, ◌==◌, IsTrue, refl, sym, ap, subst, ◌∙◌, arith}
use Rattle.std.specs.List.{Contains, All, AllPairs, IsDistinct}
use Rattle.std.specs.Ordering.{is_eq, nat_cmp}
use Rattle.std.specs.BTreeMap.{is_at}
use Rattle.std.specs.BTreeSet.{contains}
use Rattle.std.proofs.lemmas.Bool.{cases_Bool, eqb-true, eq-eqb}
use Rattle.std.proofs.lemmas.Bool.Decides.{Decides-eqb}
use Rattle.std.proofs.lemmas.List.{map-append, reverse-append, length-map, get_or-map}
use Rattle.std.proofs.lemmas.List.Elements.{Contains-append_left, Contains-append_right, Contains-append_cases, Contains-push, Contains-push_cases, All-push, All-map, All-contains, Contains-get_or}
use Rattle.std.proofs.lemmas.List.Quantifiers.{all_pairs_push}
use Rattle.std.proofs.lemmas.Map.Made.{IsDistinct-from_AllPairs}
use Rattle.std.proofs.lemmas.Map.Steps.{length-le_from_distinct_below}
use Rattle.std.proofs.lemmas.Map.Views.{Contains-from_any}
use Rattle.root_anchor.specs.declared.standing.Standing.{Standing}
use Rattle.root_anchor.specs.declared.walk.Walk.{Walk}
use Rattle.fp_model.specs.declared.definitions.SegDef.{SegDef}
use Rattle.fp_model.specs.Order.{key_in}
use Rattle.anchor_elements.specs.Elements.{Pointer, Segment, HasSegment}
use Rattle.anchor_elements.specs.Wrong.{IsWrong, leads_back}
use Rattle.root_anchor.specs.inside.Standing.{places_of, Stands}
use Rattle.root_anchor.specs.inside.Walking.{place_cmp, met_of, IsWalk, IsNoted, AllStand}
use Rattle.root_anchor.proofs.OneChain.{one_segment}
use Rattle.plain_laws.proofs.Alls.{contains_cases, contains_first, contains_later, contains_nothing}
use Rattle.plain_laws.proofs.Numbers.{both_numbers}
use Rattle.plain_laws.proofs.Orderings.{number_test, then_test}

-- ---- the other way round

turned : {X : Type 0} (y : X) (ys : List X) → reverse (y ∷ ys) ≡ reverse ys ++ y ∷ []
turned y ys = reverse-append (y ∷ []) ys

pub in_reverse : {X : Type 0} (xs : List X) (x : X) → Contains xs x → Contains (reverse xs) x
in_reverse [] x h = h
in_reverse (y ∷ ys) x h = subst (λ l. Contains l x) (sym (turned y ys))
    (elim (contains_cases y ys x h) as (λ _. Contains (reverse ys ++ y ∷ []) x) [
      | inl e ↦ Contains-append_right (reverse ys) (y ∷ []) x (subst (λ z. Contains (y ∷ []) z) e (contains_first y []))
      | inr l ↦ Contains-append_left (reverse ys) (y ∷ []) x (in_reverse ys x l)
    ])

pub reverse_in : {X : Type 0} (xs : List X) (x : X) → Contains (reverse xs) x → Contains xs x
reverse_in [] x h = h
reverse_in (y ∷ ys) x h = elim (Contains-append_cases (reverse ys) (y ∷ []) x
    (subst (λ l. Contains l x) (turned y ys) h)) as (λ _. Contains (y ∷ ys) x) [
      | inl l ↦ contains_later y ys x (reverse_in ys x l)
      | inr l ↦ elim (contains_cases y [] x l) as (λ _. Contains (y ∷ ys) x)
          [ inl e ↦ subst (λ z. Contains (y ∷ ys) z) e (contains_first y ys) | inr none ↦ absurd (contains_nothing x none) ]
    ]

-- ---- a place is known exactly where it was met

pub met_known : (number : ℕ) (walk : Walk) (at : Pointer) (known : Bool) → known ≡ contains place_cmp walk.places at
    → IsWalk number walk → IsTrue known ↔ Contains (met_of walk) at
met_known number walk at known e w = (
  λ t. in_reverse (places_of walk.met.items) at ((w.known at).0 (subst (λ b. IsTrue b) e t)),
  λ m. subst (λ b. IsTrue b) (sym e) ((w.known at).1 (reverse_in (places_of walk.met.items) at m)),
)

place_test : (a b : Pointer) → is_at (place_cmp a) b ≡ (a.0 == b.0 && a.1 == b.1)
place_test a b = then_test (nat_cmp a.0 b.0) (nat_cmp a.1 b.1) ∙ ap (λ t. t && is_eq (nat_cmp a.1 b.1))
    (number_test a.0 b.0) ∙ ap (λ t. (a.0 == b.0) && t) (number_test a.1 b.1)

one_place : (a b : Pointer) → is_at (place_cmp a) b ≡ true → a ≡ b
one_place (x, y) (z, w) h = let s = both_numbers x y z w (sym (place_test (x, y) (z, w)) ∙ h) in
    ap (λ k. (k, y)) s.0 ∙ ap (λ k. (z, k)) s.1

its_place : (a : Pointer) → is_at (place_cmp a) a ≡ true
its_place a = place_test a a ∙ ap (λ t. t && a.1 == a.1) (eq-eqb a.0 a.0 refl) ∙ eq-eqb a.1 a.1 refl

-- ---- one more is met

places_pushed : (old new : List Standing) (s : Standing) → new ≡ old ++ s ∷ []
    → places_of new ≡ places_of old ++ s.at ∷ []
places_pushed old new s e = ap places_of e ∙ map-append (λ x. x.at) old (s ∷ [])

pub met_pushed : (old new : List Standing) (s : Standing) → new ≡ old ++ s ∷ []
    → reverse (places_of new) ≡ s.at ∷ reverse (places_of old)
met_pushed old new s e = ap reverse (places_pushed old new s e) ∙ reverse-append (places_of old) (s.at ∷ [])

known_pushed : (number : ℕ) (old new : Walk) (s : Standing) → IsWalk number old
    → new.met.items ≡ old.met.items ++ s ∷ []
    → ((q : Pointer) → contains place_cmp new.places q ≡ cond (is_at (place_cmp s.at) q) true
    (contains place_cmp old.places q))
    → (q : Pointer) → IsTrue (contains place_cmp new.places q) ↔ Contains (places_of new.met.items) q
known_pushed number old new s w e u q =
    let places : places_of new.met.items ≡ places_of old.met.items ++ s.at ∷ [] =
    places_pushed old.met.items new.met.items s e in
    elim (cases_Bool (is_at (place_cmp s.at) q)) as
    (λ _. IsTrue (contains place_cmp new.places q) ↔ Contains (places_of new.met.items) q) [
      | inl t ↦ (
        λ _. subst (λ l. Contains l q) (sym places)
            (subst (λ x. Contains (places_of old.met.items ++ s.at ∷ []) x) (one_place s.at q t)
            (Contains-push (places_of old.met.items) s.at)),
        λ _. u q ∙ ap (λ b. cond b true (contains place_cmp old.places q)) t,
      )
      | inr f ↦
          (let same : contains place_cmp new.places q ≡ contains place_cmp old.places q =
          u q ∙ ap (λ b. cond b true (contains place_cmp old.places q)) f in (
            λ t. subst (λ l. Contains l q) (sym places)
                (Contains-append_left (places_of old.met.items) (s.at ∷ []) q ((w.known q).0 (sym same ∙ t))),
            λ m. same ∙ (elim (Contains-push_cases (places_of old.met.items) s.at q
                (subst (λ l. Contains l q) places m)) as (λ _. contains place_cmp old.places q ≡ true) [
                  | inl o ↦ (w.known q).1 o
                  | inr e ↦
                      (let z : false ≡ true = sym f ∙ subst (λ x. is_at (place_cmp s.at) x ≡ true) e (its_place s.at) in
                      cc)
                ]),
          ))
    ]

pub walk_pushed : (number : ℕ) (old new : Walk) (s : Standing) → IsWalk number old → ¬ Contains (met_of old) s.at
    → s.at.0 < number → s.at.1 < 4096 → new.met.items ≡ old.met.items ++ s ∷ []
    → ((q : Pointer) → contains place_cmp new.places q ≡ cond (is_at (place_cmp s.at) q) true
    (contains place_cmp old.places q))
    → IsWalk number new
walk_pushed number old new s w fresh below inside e u =
    let places : places_of new.met.items ≡ places_of old.met.items ++ s.at ∷ [] =
    places_pushed old.met.items new.met.items s e in
    record {
      known = known_pushed number old new s w e u;
      once = subst (λ l. AllPairs (λ a b. a ≢ b) l) (sym places)
          (all_pairs_push (λ a b. a ≢ b) (places_of old.met.items) s.at w.once
          (λ k d h same. fresh (in_reverse (places_of old.met.items) s.at
          (subst (λ x. Contains (places_of old.met.items) x) same
          (Contains-get_or (places_of old.met.items) k d h)))));
      in_range = subst (λ l. All (λ at. (at.0 < number) × (at.1 < 4096)) l) (sym places)
          (All-push (λ at. (at.0 < number) × (at.1 < 4096)) (places_of old.met.items) s.at w.in_range (below, inside));
    }

-- ---- so many can be met

-- the number of a place
abbrev code : Pointer → ℕ
code at = at.0 * 4096 + at.1

one_code : (a b : Pointer) → a.1 < 4096 → b.1 < 4096 → code a ≡ code b → a ≡ b
one_code (x, y) (z, w) h k e =
    let first : x ≡ z = omega arith in
    let second : y ≡ w = omega arith in
    cc

code_below : (number : ℕ) (at : Pointer) → at.0 < number → at.1 < 4096 → code at < number * 4096
code_below number at b h = omega arith

codes_apart : (number : ℕ) (places : List Pointer) → AllPairs (λ a b. a ≢ b) places
    → All (λ at. (at.0 < number) × (at.1 < 4096)) places → AllPairs (λ a b. a ≢ b) (map code places)
codes_apart number places once within = λ i j d h k same.
    let l : length (map code places) ≡ length places = length-map places code in
    let n : Pointer = (0, 0) in
    let a : i < length places = omega arith in
    let b : j < length places = omega arith in
    let e : code (get_or places i n) ≡ code (get_or places j n) =
    sym (get_or-map code places i n d a) ∙ same ∙ get_or-map code places j n d b in
    once i j n h b (one_code (get_or places i n) (get_or places j n) (within i n a).1 (within j n b).1 e)

pub few_met : (number : ℕ) (walk : Walk) → IsWalk number walk → length walk.met.items ≤ number * 4096
few_met number walk w =
    let places : List Pointer = places_of walk.met.items in
    let distinct : IsDistinct ◌==◌ (map code places) =
    IsDistinct-from_AllPairs Decides-eqb (map code places) (codes_apart number places w.once w.in_range) in
    let below : All (λ n. n < number * 4096) (map code places) =
    All-map (λ n. n < number * 4096) code places (λ k d h. let r =
    w.in_range k d h in code_below number (get_or places k d) r.0 r.1) in
    let bound : length (map code places) ≤ number * 4096 =
    length-le_from_distinct_below (map code places) (number * 4096) distinct
    (λ q h. All-contains (λ n. n < number * 4096) (map code places) q below
    (Contains-from_any (λ x y. eqb-true x y) q (map code places) h)) in
    omega (arith, bound, length-map places code, length-map walk.met.items (λ s. s.at))

-- ---- one element

pub wrong_met : (types : List SegDef) (area : List (List ℕ)) (met : List Pointer) (from ci type : ℕ) (at : Pointer)
    → from ≡ ci → Contains met at → IsWrong types area met from type at ci
wrong_met types area met from ci type at e m = subst (λ n. IsWrong types area met from type at n) e (leads_back m)

pub all_stand_pushed : (types : List SegDef) (area : List (List ℕ)) (old new : Walk) (type : ℕ) (at : Pointer)
    (segment : Segment) → HasSegment types area type at segment
    → IsNoted types old new type at segment.bytes → AllStand types area old → AllStand types area new
all_stand_pushed types area old new type at segment has noted all =
    let s : Standing = record { segment = type; at = at; key = noted.key } in
    record {
      stand = λ other m. elim (Contains-push_cases old.met.items s other
          (subst (λ l. Contains l other) noted.one_more m)) as (λ _. Stands types area other) [
            | inl o ↦ all.stand other o
            | inr same ↦ subst (λ x. Stands types area x) same (record { segment = segment; has = has })
          ];
      keys = λ wanted other said m h.
          elim (Contains-push_cases old.met.items s other (subst (λ l. Contains l other) noted.one_more m)) as
          (λ _. other.key ≡ key_in types other.segment said.bytes) [
            | inl o ↦ all.keys (sym noted.same_keyed ∙ wanted) other said o h
            | inr same ↦
                (let there : HasSegment types area type at said =
                subst (λ x. HasSegment types area x.segment x.at said) (sym same) h in
                let key : noted.key ≡ key_in types type said.bytes =
                noted.is_key (sym noted.same_keyed ∙ wanted) ∙ ap (λ (x : Segment). key_in types type x.bytes)
                (one_segment has there) in
                subst (λ x. x.key ≡ key_in types x.segment said.bytes) same key)
          ];
    }
