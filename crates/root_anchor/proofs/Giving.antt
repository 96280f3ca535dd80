-- Elements that are given back, from the first to the last.
use Rattle.std.proofs.Common.{◌≡◌, ℕ, zero, suc, ◌+◌, ◌<◌, ◌≤◌, ◌⊎◌, inl, inr, List, [], ◌∷◌, ◌++◌, length, get_or, take, drop, Contains, sym, ap, ◌∙◌, subst, arith}
use Rattle.std.proofs.Math.Seq.{drop-cons}
use Rattle.std.proofs.lemmas.List.{take-append-drop, map-append, take_all}
use Rattle.std.proofs.lemmas.List.Elements.{Contains-append_left, Contains-append_right, Contains-append_cases}
use Rattle.ci_space.specs.declared.intervals.Shape.{Shape}
use Rattle.ci_space.specs.Interval.{IsUsed}
use Rattle.ci_overflow.specs.Lists.{bytes_at, IsInOrder}
use Rattle.ci_overflow.specs.Freed.{TakesBack, GivesBack}
use Rattle.anchor_elements.specs.Elements.{Pointer}
use Rattle.root_anchor.specs.inside.Standing.{places_of}
use Rattle.root_anchor.specs.inside.Rebuilding.{AreApart, Exchanges, AreGivable}
use Rattle.root_anchor.specs.declared.standing.Standing.{Standing}
use Rattle.root_anchor.proofs.Apart.{contains-one, apart-disjoint}
use Rattle.root_anchor.proofs.Exchanging.{exchange-both, used-stays}
use Rattle.root_anchor.proofs.Planning.{exchange-none}
use Rattle.root_anchor.proofs.Steps.{gives-back}
use Rattle.plain_laws.proofs.Alls.{contains_cases, contains_first, contains_later}

pub given-none : (shape : Shape) (area : List (List ℕ)) → Exchanges shape area area [] []
given-none shape area = exchange-none shape area

-- only which elements give way matters, and not their order
exchange-same : (shape : Shape) (old new : List (List ℕ)) (had other has : List Pointer)
    → ((at : Pointer) → Contains had at → Contains other at) → ((at : Pointer) → Contains other at → Contains had at)
    → Exchanges shape old new had has → Exchanges shape old new other has
exchange-same shape old new had other has to from e = record {
  stay = λ at type content n h. e.stay at type content (λ c. n (to at c)) h;
  none_comes = λ at type content n h. let x = e.none_comes at type content n h in ((λ c. x.0 (from at c)), x.1);
  fresh = λ at c. elim (e.fresh at c) as (λ _. Contains other at ⊎ (¬ IsUsed (bytes_at old at.0) at.1))
      [ inl x ↦ inl (to at x) | inr x ↦ inr x ];
  used = e.used;
  once = e.once;
  roots = e.roots;
  kinds = e.kinds;
  in_order = e.in_order;
  sequential = e.sequential;
}

-- the first elements, the next one, and the others
record IsNextPlace (area : List (List ℕ)) (all : List Standing) (k : ℕ) (one : Standing) : Type 0 where
  more : (at : Pointer) → Contains (one.at ∷ places_of (take k all)) at → Contains (places_of (take (k + 1) all)) at
  back : (at : Pointer) → Contains (places_of (take (k + 1) all)) at → Contains (one.at ∷ places_of (take k all)) at
  used : IsUsed (bytes_at area one.at.0) one.at.1
  apart : ¬ Contains (places_of (take k all)) one.at

take_one : (xs : List Standing) (k : ℕ) (x : Standing) → k < length xs → x ≡ get_or xs k x
    → take (k + 1) xs ≡ take k xs ++ x ∷ []
take_one [] k x l e = absurd (omega arith)
take_one (y ∷ ys) zero x l e = ap (λ (z : Standing). z ∷ []) (sym e)
take_one (y ∷ ys) (suc k) x l e =
    let n : suc k + 1 ≡ suc (k + 1) = omega arith in
    ap (λ j. take j (y ∷ ys)) n ∙ ap (λ (zs : List Standing). y ∷ zs) (take_one ys k x (omega arith) e)

next_place : (area : List (List ℕ)) (all : List Standing) (k : ℕ) (one : Standing) → AreGivable area (places_of all)
    → k < length all → one ≡ get_or all k one → IsNextPlace area all k one
next_place area all k one g b e =
    let t : places_of (take (k + 1) all) ≡ places_of (take k all) ++ one.at ∷ [] =
    ap places_of (take_one all k one b e) ∙ map-append (λ (s : Standing). s.at) (take k all) (one ∷ []) in
    let d : drop k all ≡ one ∷ drop (suc k) all =
    drop-cons all k one b ∙ ap (λ y. y ∷ drop (suc k) all) (sym e) in
    let whole : places_of all ≡ places_of (take k all) ++ (one.at ∷ places_of (drop (suc k) all)) =
    ap places_of (sym (take-append-drop k all)) ∙ map-append (λ (s : Standing). s.at) (take k all) (drop k all)
    ∙ ap (λ xs. places_of (take k all) ++ places_of xs) d in
    let P : List Pointer → Type 0 = AreApart in
    let Q : List Pointer → Type 0 = λ xs. Contains xs one.at in
    let here : Contains (one.at ∷ places_of (drop (suc k) all)) one.at =
    contains_first one.at (places_of (drop (suc k) all)) in
    let R : (at : Pointer) → List Pointer → Type 0 = λ at xs. Contains xs at in
    record {
      more = λ at c. subst (R at) (sym t) (elim (contains_cases one.at (places_of (take k all)) at c) as
          (λ _. Contains (places_of (take k all) ++ one.at ∷ []) at) [
            | inl s ↦ Contains-append_right (places_of (take k all)) (one.at ∷ []) at
                (let S : Pointer → Type 0 = λ p. Contains (one.at ∷ []) p in subst S s (contains_first one.at []))
            | inr x ↦ Contains-append_left (places_of (take k all)) (one.at ∷ []) at x
          ]);
      back = λ at c. elim (Contains-append_cases (places_of (take k all)) (one.at ∷ []) at (subst (R at) t c)) as
          (λ _. Contains (one.at ∷ places_of (take k all)) at) [
            | inl x ↦ contains_later one.at (places_of (take k all)) at x
            | inr x ↦ (let S : Pointer → Type 0 = λ p. Contains (one.at ∷ places_of (take k all)) p in
                subst S (contains-one one.at at x) (contains_first one.at (places_of (take k all))))
          ];
      used = g.used one.at (subst Q (sym whole) (Contains-append_right (places_of (take k all))
          (one.at ∷ places_of (drop (suc k) all)) one.at here));
      apart = λ c. apart-disjoint (places_of (take k all)) (one.at ∷ places_of (drop (suc k) all)) one.at
          (subst P whole g.once) c here;
    }

pub given-used : (shape : Shape) (old now : List (List ℕ)) (all : List Standing) (k : ℕ) (one : Standing)
    → AreGivable old (places_of all) → k < length all → one ≡ get_or all k one
    → Exchanges shape old now (places_of (take k all)) [] → IsUsed (bytes_at now one.at.0) one.at.1
given-used shape old now all k one g b e x =
    let n = next_place old all k one g b e in
    used-stays (bytes_at old one.at.0) (bytes_at now one.at.0) one.at.1
    (λ type content. x.stay one.at type content n.apart) n.used

pub given-on : (shape : Shape) (old now new : List (List ℕ)) (all : List Standing) (k : ℕ) (one : Standing)
    → AreGivable old (places_of all) → k < length all → one ≡ get_or all k one
    → Exchanges shape old now (places_of (take k all)) [] → TakesBack shape now new one.at.0 one.at.1
    → (IsInOrder shape now → GivesBack shape now new one.at.0 one.at.1)
    → (IsInOrder shape now → IsInOrder shape new) → Exchanges shape old new (places_of (take (k + 1) all)) []
given-on shape old now new all k one g b e x t y o =
    let n = next_place old all k one g b e in
    let u : (at : Pointer) → Contains (one.at ∷ []) at → IsUsed (bytes_at old at.0) at.1 =
    λ at c. let P : Pointer → Type 0 = λ p. IsUsed (bytes_at old p.0) p.1 in
    subst P (contains-one one.at at c) n.used in
    let d : (at : Pointer) → Contains (one.at ∷ []) at → ¬ Contains (places_of (take k all)) at =
    λ at c m. let P : Pointer → Type 0 = λ p. Contains (places_of (take k all)) p in
    n.apart (subst P (sym (contains-one one.at at c)) m)
    in
    exchange-same shape old new (one.at ∷ places_of (take k all)) (places_of (take (k + 1) all)) [] n.more n.back
    (exchange-both shape old now new (places_of (take k all)) [] (one.at ∷ []) [] x
    (gives-back shape now new one.at t y o) u d)

-- all of them
pub given-all : (shape : Shape) (old new : List (List ℕ)) (all : List Standing) (k : ℕ) → length all ≤ k
    → Exchanges shape old new (places_of (take k all)) [] → Exchanges shape old new (places_of all) []
given-all shape old new all k l x =
    let P : List Standing → Type 0 = λ xs. Exchanges shape old new (places_of xs) [] in
    subst P (take_all k all l) x

-- ---- what the area comes to

-- elements of a part of a list are elements of it
pub part-held : (all : List Standing) (k : ℕ) (one : Standing) → k < length all → one ≡ get_or all k one
    → Contains (places_of all) one.at
part-held all k one b e =
    let d : drop k all ≡ one ∷ drop (suc k) all =
    drop-cons all k one b ∙ ap (λ y. y ∷ drop (suc k) all) (sym e) in
    let whole : places_of all ≡ places_of (take k all) ++ (one.at ∷ places_of (drop (suc k) all)) =
    ap places_of (sym (take-append-drop k all)) ∙ map-append (λ (s : Standing). s.at) (take k all) (drop k all)
    ∙ ap (λ xs. places_of (take k all) ++ places_of xs) d in
    let Q : List Pointer → Type 0 = λ xs. Contains xs one.at in
    subst Q (sym whole) (Contains-append_right (places_of (take k all)) (one.at ∷ places_of (drop (suc k) all)) one.at
    (contains_first one.at (places_of (drop (suc k) all))))
