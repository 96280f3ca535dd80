-- Where links lead: a walk over a list holds no interval twice, or goes round in a circle.
use Rattle.std.proofs.Common.{◌≡◌, ◌≢◌, ℕ, zero, suc, ◌+◌, ◌<◌, ◌≤◌, ◌⊎◌, inl, inr, List, [], ◌∷◌, length, refl, sym, ◌∙◌, subst, arith}
use Rattle.ci_space.specs.declared.intervals.Shape.{Shape}
use Rattle.ci_overflow.specs.Lists.{bytes_at, link_of, IsChain, Holds, IsOnce, IsOwned}
use Rattle.ci_overflow.specs.Faults.{Leads, here, on, HoldsLink, in_list, IsAtFault, circle}
use Rattle.ci_overflow.specs.Known.{AreFullTo, the_last, in_front}
use Rattle.plain_laws.proofs.Numbers.{same_or_other}

-- whether a list holds an interval
pub holds_or : (list : List ℕ) (ci : ℕ) → Holds list ci ⊎ (¬ Holds list ci)
holds_or [] ci = inr (λ h. h)
holds_or (x ∷ rest) ci = elim (same_or_other x ci) as (λ _. Holds (x ∷ rest) ci ⊎ (¬ Holds (x ∷ rest) ci)) [
  | inl e ↦ inl (inl e)
  | inr n ↦ elim (holds_or rest ci) as (λ _. Holds (x ∷ rest) ci ⊎ (¬ Holds (x ∷ rest) ci)) [
    | inl h ↦ inl (inr h)
    | inr m ↦ inr (λ h. elim h as (λ _. ⊥) [ inl y ↦ n y | inr y ↦ m y ])
  ]
]

-- a list without one of its intervals
record IsWithout (list rest : List ℕ) (ci : ℕ) : Type 0 where
  pub held : (k : ℕ) → Holds rest k → Holds list k × (k ≢ ci)
  pub once : IsOnce rest
  pub long : length list ≤ length rest + 1

take_out : (ci : ℕ) (list : List ℕ) → IsOnce list → (rest : List ℕ) × IsWithout list rest ci
take_out ci [] o = ([], record { held = λ k h. absurd h; once = tt; long = omega arith })
take_out ci (x ∷ list) o = elim (same_or_other x ci) as (λ _. (rest : List ℕ) × IsWithout (x ∷ list) rest ci) [
  | inl e ↦ (
    list,
    record {
      held = λ k h. (inr h, λ y. o.0 (let P : ℕ → Type 0 = λ d. Holds list d in subst P (y ∙ sym e) h));
      once = o.1;
      long = omega arith;
    },
  )
  | inr n ↦ (let w : (rest : List ℕ) × IsWithout list rest ci = take_out ci list o.1 in (
    x ∷ w.0,
    record {
      held = λ k h. elim h as (λ _. Holds (x ∷ list) k × (k ≢ ci)) [
        | inl y ↦ (inl y, λ z. n (y ∙ z))
        | inr y ↦ (inr (w.1.held k y).0, (w.1.held k y).1)
      ];
      once = ((λ h. o.0 (w.1.held x h).0), w.1.once);
      long = omega (arith, w.1.long);
    },
  ))
]

-- a list that holds each of its intervals once, all of them below a number, is no longer than that
pub bounded : (m : ℕ) (list : List ℕ) → IsOnce list → ((k : ℕ) → Holds list k → k < m) → length list ≤ m
bounded zero [] o h = omega arith
bounded zero (x ∷ rest) o h = absurd (omega (arith, h x (inl refl)))
bounded (suc m) list o h =
    let w : (rest : List ℕ) × IsWithout list rest m = take_out m list o in
    let below : (k : ℕ) → Holds w.0 k → k < m = λ k y. omega (arith, h k (w.1.held k y).0, (w.1.held k y).1) in
    let l : length w.0 ≤ m = bounded m w.0 w.1.once below in
    omega (arith, l, w.1.long)

-- one link more
pub leads-on : (area : List (List ℕ)) (from middle to : ℕ) → Leads area from middle → middle ≢ 0
    → link_of (bytes_at area middle) ≡ to → Leads area from to
leads-on area from middle to (here ci) z e = on ci to z (rw e (here to))
leads-on area from middle to (on f m n l) z e = on f to n (leads-on area (link_of (bytes_at area f)) m to l z e)

-- a circle, seen from its next interval
pub circle-on : (area : List (List ℕ)) (from to : ℕ) → from ≢ 0 → link_of (bytes_at area from) ≡ to → Leads area to from
    → Leads area (link_of (bytes_at area to)) to
circle-on area from to z e (here ci) = rw e (here ci)
circle-on area from to z e (on f m n l) = leads-on area (link_of (bytes_at area f)) m f l z e

-- a chain holds what its first interval leads to
pub leads-held : (area : List (List ℕ)) (from to : ℕ) (list : List ℕ) → to ≢ 0 → Leads area from to
    → IsChain area from list → Holds list to
leads-held area from to [] z (here ci) c = absurd (z c)
leads-held area from to (x ∷ rest) z (here ci) c = inl (sym c.0)
leads-held area from to [] z (on f t n l) c = absurd (n c)
leads-held area from to (x ∷ rest) z (on f t n l) c =
    let d : IsChain area (link_of (bytes_at area f)) rest = rw (← c.0) at c.2 in
    inr (leads-held area (link_of (bytes_at area f)) t rest z l d)

-- and leads to what it holds
pub chain-leads : (area : List (List ℕ)) (first to : ℕ) (list : List ℕ) → IsChain area first list → Holds list to
    → Leads area first to
chain-leads area first to [] c h = absurd h
chain-leads area first to (x ∷ rest) c (inl e) = let P : ℕ → Type 0 = λ d. Leads area d to in
    subst P (sym (c.0 ∙ e)) (here to)
chain-leads area first to (x ∷ rest) c (inr h) = let P : ℕ → Type 0 = λ d. Leads area d to in
    subst P (sym c.0) (on x to c.1 (chain-leads area (link_of (bytes_at area x)) to rest c.2 h))

-- no chain that holds each interval once holds a circle
pub no-circle : (area : List (List ℕ)) (first ci : ℕ) (list : List ℕ) → IsChain area first list → IsOnce list
    → Holds list ci → ci ≢ 0 → Leads area (link_of (bytes_at area ci)) ci → ⊥
no-circle area first ci [] c o h z l = h
no-circle area first ci (x ∷ rest) c o (inl e) z l =
    let d : IsChain area (link_of (bytes_at area ci)) rest = rw e at c.2 in
    o.0 (rw e (leads-held area (link_of (bytes_at area ci)) ci rest z l d))
no-circle area first ci (x ∷ rest) c o (inr h) z l = no-circle area (link_of (bytes_at area x)) ci rest c.2 o.1 h z l

-- a walk of `n` turns along the list with this owner has come to the link `ci`, which `from` holds
pub record IsWalked (shape : Shape) (area : List (List ℕ)) (owner from ci n : ℕ) : Type 0 where
  pub holds : HoldsLink shape area owner from ci
  pub goes : link_of (bytes_at area from) ≡ ci
  pub from_some : from ≢ 0
  pub path : List ℕ
  pub long : n ≤ length path
  pub inside : (k : ℕ) → Holds path k → (0 < k) × (k < length area)
  pub leads : (k : ℕ) → Holds path k → Leads area k from
  pub once : IsOnce path ⊎ (IsOwned shape area owner from × Leads area ci from)

pub walk-begins : (shape : Shape) (area : List (List ℕ)) (owner from ci n : ℕ) → HoldsLink shape area owner from ci
    → link_of (bytes_at area from) ≡ ci → from ≢ 0 → n ≡ 0 → IsWalked shape area owner from ci n
walk-begins shape area owner from ci n h g z e = record {
  holds = h;
  goes = g;
  from_some = z;
  path = [];
  long = omega (arith, e);
  inside = λ k x. absurd x;
  leads = λ k x. absurd x;
  once = inl tt;
}

pub walk-on : (shape : Shape) (area : List (List ℕ)) (owner from ci next n m : ℕ) → IsWalked shape area owner from ci n
    → IsOwned shape area owner ci → next ≡ link_of (bytes_at area ci) → m ≡ n + 1
    → IsWalked shape area owner ci next m
walk-on shape area owner from ci next n m w o e l =
    let z : ci ≢ 0 = λ y. omega (arith, o.from, y) in
    let round : Leads area ci from → Leads area next ci = λ y. rw e (circle-on area from ci w.from_some w.goes y) in
    record {
      holds = in_list o e;
      goes = sym e;
      from_some = z;
      path = ci ∷ w.path;
      long = omega (arith, w.long, l);
      inside = λ k h. elim h as (λ _. (0 < k) × (k < length area))
          [ inl y ↦ (omega (arith, z, y), omega (arith, o.below, y)) | inr y ↦ w.inside k y ];
      leads = λ k h. elim h as (λ _. Leads area k ci)
          [ inl y ↦ rw (← y) (here ci) | inr y ↦ leads-on area k from ci (w.leads k y) w.from_some w.goes ];
      once = elim w.once as (λ _. IsOnce (ci ∷ w.path) ⊎ (IsOwned shape area owner ci × Leads area next ci)) [
        | inl y ↦ elim (holds_or w.path ci) as (λ _. IsOnce (ci ∷ w.path)
            ⊎ (IsOwned shape area owner ci × Leads area next ci)) [
              | inl h ↦ inr (o, round (w.leads ci h))
              | inr h ↦ inl (h, y)
            ]
        | inr y ↦ inr (o, round y.1)
      ];
    }

-- as many turns as the area has intervals end in a circle
pub walk-round : (shape : Shape) (area : List (List ℕ)) (owner from ci n : ℕ) → IsWalked shape area owner from ci n
    → length area ≤ n → 0 < length area → IsAtFault shape area from
walk-round shape area owner from ci n w l s = elim w.once as (λ _. IsAtFault shape area from) [
  | inl o ↦
      (let b : length (0 ∷ w.path) ≤ length area = bounded (length area) (0 ∷ w.path)
      ((λ h. omega (arith, (w.inside 0 h).0)), o)
      (λ k h. elim h as (λ _. k < length area) [ inl y ↦ omega (arith, y, s) | inr y ↦ (w.inside k y).1 ]) in
      absurd (omega (arith, b, w.long, l)))
  | inr o ↦ circle owner o.0 (rw w.goes o.1)
]

-- a walk over intervals that are passed at once takes one turn
walk-fewer : (shape : Shape) (area : List (List ℕ)) (owner from ci n m : ℕ) → IsWalked shape area owner from ci n
    → m ≤ n → IsWalked shape area owner from ci m
walk-fewer shape area owner from ci n m w l = record {
  holds = w.holds;
  goes = w.goes;
  from_some = w.from_some;
  path = w.path;
  long = omega (arith, w.long, l);
  inside = w.inside;
  leads = w.leads;
  once = w.once;
}

pub walk-over : (shape : Shape) (area : List (List ℕ)) (owner room from ci last next n m : ℕ)
    → AreFullTo shape area owner room ci last next → IsWalked shape area owner from ci n → m ≡ n + 1
    → IsWalked shape area owner last next m
walk-over shape area owner room from ci last next n m (the_last c o f) w l = walk-on shape area owner from c
    (link_of (bytes_at area c)) n m w o refl l
walk-over shape area owner room from ci last next n m (in_front c t x o f rest) w l = walk-fewer shape area owner last next
    (m + 1) m (walk-over shape area owner room c (link_of (bytes_at area c)) last next m (m + 1) rest
    (walk-on shape area owner from c (link_of (bytes_at area c)) n m w o refl l) refl) (omega arith)
