-- What is read of an element.
use Rattle.std.proofs.Common.{◌==◌, IsTrue, ◌↔◌, ◌≡◌, ℕ, suc, ◌+◌, ◌*◌, ◌<◌, inl, inr, List, [], ◌∷◌, ◌++◌, length, drop, get_or, Bool, true, false, refl, sym, ap, subst, ◌∙◌, append_assoc, arith, drop-cons}
use Rattle.std.proofs.lemmas.Bool.{eqb-true, eq-eqb}
use Rattle.std.proofs.lemmas.List.{map-append, length-append, get_or_past}
use Rattle.ci_space.specs.Element.{Used}
use Rattle.ci_space.specs.Interval.{IsInterval, HasUsed, IsUsed}
use Rattle.ci_space.proofs.Contents.{used-within}
use Rattle.ci_overflow.specs.Lists.{bytes_at}
use Rattle.fp_model.specs.declared.definitions.SegDef.{SegDef}
use Rattle.fp_model.specs.Order.{numbers_from}
use Rattle.anchor_elements.specs.Elements.{Pointer, Segment, pointer_at, pointers_from}
use Rattle.anchor_elements.specs.declared.element.First.{First}
use Rattle.anchor_elements.specs.Reading.{types_of, pointers_of, IsMissing}
use Rattle.anchor_elements.specs.inside.Reading.{IsOfType, Holds, IsWhole}
use Rattle.anchor_elements.specs.Wrong.{IsWrong, leads_to_no_interval, leads_to_no_element, leads_to_no_segment}
use Rattle.anchor_elements.proofs.SpellingLemmas.{pointers_more}

-- a type that passes, and one that doesn't
front_step : (test : SegDef → Bool) (types : List SegDef) (i : ℕ) (def : SegDef) → i < length types
    → def ≡ get_or types i def → numbers_from i test (drop i types) ≡ numbers_from i test (def ∷ drop (i + 1) types)
front_step test types i def l e =
    let n : i + 1 ≡ suc i = omega arith in
    ap (λ ds. numbers_from i test ds) (drop-cons types i def l ∙ ap (λ (x : SegDef). x ∷ drop (suc i) types) (sym e) ∙
    ap (λ k. def ∷ drop k types) (sym n))

pub numbers_more : (test : SegDef → Bool) (types : List SegDef) (i : ℕ) (def : SegDef) (before now : List First)
    (first : First) (all : List ℕ) → i < length types → def ≡ get_or types i def → test def ≡ true
    → now ≡ before ++ first ∷ [] → first.segment ≡ i
    → types_of before ++ numbers_from i test (drop i types) ≡ all
    → types_of now ++ numbers_from (i + 1) test (drop (i + 1) types) ≡ all
numbers_more test types i def before now first all l e t n s h =
    let step : numbers_from i test (drop i types) ≡ i ∷ numbers_from (i + 1) test (drop (i + 1) types) =
    front_step test types i def l e ∙ (rw t refl) in
    let now_types : types_of now ≡ types_of before ++ i ∷ [] =
    ap types_of n ∙ map-append (λ f. f.segment) before (first ∷ []) ∙ ap (λ k. types_of before ++ k ∷ []) s in
    ap (λ front. front ++ numbers_from (i + 1) test (drop (i + 1) types)) now_types
    ∙ append_assoc (types_of before) (i ∷ []) (numbers_from (i + 1) test (drop (i + 1) types))
    ∙ ap (λ l. types_of before ++ l) (sym step)
    ∙ h

pub numbers_less : (test : SegDef → Bool) (types : List SegDef) (i : ℕ) (def : SegDef) (front all : List ℕ)
    → i < length types → def ≡ get_or types i def → test def ≡ false
    → front ++ numbers_from i test (drop i types) ≡ all → front ++ numbers_from (i + 1) test (drop (i + 1) types) ≡ all
numbers_less test types i def front all l e t h =
    let step : numbers_from i test (drop i types) ≡ numbers_from (i + 1) test (drop (i + 1) types) =
    front_step test types i def l e ∙ (rw t refl) in
    ap (λ ns. front ++ ns) (sym step) ∙ h

pub pointers_pushed : (content : List ℕ) (start : ℕ) (before now : List First) (first : First)
    → now ≡ before ++ first ∷ [] → first.at ≡ pointer_at content (start + 10 * length before)
    → pointers_of before ≡ pointers_from content start (length before)
    → pointers_of now ≡ pointers_from content start (length now)
pointers_pushed content start before now first n s h =
    let l : length now ≡ suc (length before) = ap length n ∙ length-append before (first ∷ []) ∙ (omega arith) in
    ap pointers_of n ∙ map-append (λ f. f.at) before (first ∷ [])
    ∙ ap (λ ps. ps ++ first.at ∷ []) h
    ∙ ap (λ p. pointers_from content start (length before) ++ p ∷ []) s
    ∙ sym (pointers_more (length before) content start)
    ∙ ap (λ k. pointers_from content start k) (sym l)

-- a test that says no
pub refused : {b : Bool} {P : Type 0} → (IsTrue b ↔ P) → b ≡ false → P → ⊥
refused {P = P} test fails p = let yes_then : IsTrue false = subst (λ b. IsTrue b) fails (test.1 p) in
    let e : false ≡ true = yes_then in cc

-- the test of a used element's type
pub typed_test : {bytes : List ℕ} {type at other : ℕ} → IsUsed bytes at
    → ((kind : ℕ) (content : List ℕ) → HasUsed bytes at kind content → other ≡ kind) → IsTrue (other == type)
    ↔ IsOfType bytes type at
typed_test {bytes} {type} {at} {other} u same = (
  λ t. record {
    content = u.content;
    used = subst (λ k. HasUsed bytes at k u.content)
        (sym (same u.segment u.content u.used) ∙ eqb-true other type t) u.used;
  },
  λ e. eq-eqb other type (same type e.content e.used),
)

-- none stands there
pub none_whole : {types : List SegDef} {bytes : List ℕ} {type at : ℕ} (content : List ℕ)
    → ((other : ℕ) (more : List ℕ) → HasUsed bytes at other more → content ≡ more)
    → ¬ IsWhole types type content → (s : Segment) → ¬ Holds types bytes type at s
none_whole {types} {type = type} content same none s h =
    none (subst (λ c. IsWhole types type c) (sym (same type h.content h.used)) h.is_whole)

-- a used element begins within the interval
pub used_inside : (bytes : List ℕ) (at : ℕ) → IsUsed bytes at → at < 4096
used_inside bytes at u = let w = used-within bytes at u in omega (arith, w.four, w.limit)

-- a wrong pointer
pub content_interval : {bytes : List ℕ} {at type : ℕ} {content : List ℕ} → HasUsed bytes at type content
    → IsInterval bytes
content_interval {type = type} {content = content} u =
    record { elements = u.before ++ Used type content ∷ u.after; tiles = u.tiles }

pub no_bytes : IsInterval [] → ⊥
no_bytes i = let t : false ≡ true = i.tiles.size in cc

pub wrong_missing : (types : List SegDef) (area : List (List ℕ)) (met : List Pointer) (from type : ℕ) (at : Pointer)
    (ci : ℕ) → IsMissing area from at.0 ci → IsWrong types area met from type at ci
wrong_missing types area met from type at ci (inl there) =
    subst (λ n. IsWrong types area met from type at n) (sym there.2) (leads_to_no_interval there.0 there.1)
wrong_missing types area met from type at ci (inr past) =
    subst (λ n. IsWrong types area met from type at n) (sym past.1)
    (leads_to_no_element (λ below. absurd (omega (arith, past.0)))
    (λ content used. no_bytes (subst IsInterval (get_or_past area at.0 [] past.0) (content_interval used))))

pub wrong_element : (types : List SegDef) (area : List (List ℕ)) (met : List Pointer) (from ci type : ℕ) (at : Pointer)
    (bytes : List ℕ) → from ≡ ci → bytes ≡ bytes_at area at.0 → IsInterval bytes
    → ¬ IsOfType bytes type at.1 → IsWrong types area met from type at ci
wrong_element types area met from ci type at bytes same e interval none =
    subst (λ n. IsWrong types area met from type at n) same
    (leads_to_no_element (λ below. subst IsInterval e interval)
    (λ content used. none (record { content = content; used = subst (λ b. HasUsed b at.1 type content) (sym e) used })))

pub wrong_segment : (types : List SegDef) (area : List (List ℕ)) (met : List Pointer) (from ci type : ℕ) (at : Pointer)
    (bytes : List ℕ) → at.0 ≡ ci → bytes ≡ bytes_at area at.0
    → IsOfType bytes type at.1 → ((s : Segment) → ¬ Holds types bytes type at.1 s)
    → IsWrong types area met from type at ci
wrong_segment types area met from ci type at bytes same e element none =
    subst (λ n. IsWrong types area met from type at n) same
    (leads_to_no_segment element.content (subst (λ b. HasUsed b at.1 type element.content) e element.used)
    (λ s h. none s (record {
      content = h.content;
      used =
          subst (λ b. HasUsed b at.1 type h.content) (sym e) h.used;
      is_whole =
          record { fits = h.fits; zeros = h.zeros };
      says = h.says;
    })))
