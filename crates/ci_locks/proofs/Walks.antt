-- A search that follows one way at a time: what it finds is a cycle, and when it ends without one there is none.
use Rattle.std.proofs.Common.{refl, arith, ◌≡◌, ◌≢◌, ℕ, zero, suc, ◌+◌, ◌<◌, ◌≤◌, List, [], ◌∷◌, ◌++◌, length, filter, Bool, true, false, cond, not, ◌||◌, ◌==◌, inl, inr, ap, sym, subst, ◌∙◌, length-append}
use Rattle.std.specs.Cmp.{nat_eq_equiv}
use Rattle.std.specs.List.{AllByRecursion, IsDistinct}
use Rattle.std.proofs.lemmas.List.Folds.{list_any-append}
use Rattle.std.proofs.lemmas.Map.Keys.{IsDistinct-push}
use Rattle.std.proofs.lemmas.Map.Steps.{length-le_from_distinct_below}
use Rattle.fp_model.specs.State.{numbers_up}
use Rattle.ci_locks.specs.Cycles.{IsNoLater}
use Rattle.ci_locks.specs.Graph.{is_in}
use Rattle.ci_locks.specs.inside.Graph.{Along}
use Rattle.ci_locks.proofs.Firsts.{GoesOn, apart_of, goes_on, no_later_front, no_later_next}
use Rattle.plain_laws.proofs.Numbers.{is_number, number_is}
use Rattle.std.proofs.lemmas.Bool.{or_left, or_right}

or_elim : {P : Type 0} (a b : Bool) → (a || b) ≡ true → (a ≡ true → P) → (b ≡ true → P) → P
or_elim true b e left right = left refl
or_elim false b e left right = right e

none_twice : IsDistinct ◌==◌ []
unfolding IsDistinct
none_twice = tt

-- ---- elements

in_front : (xs ys : List ℕ) (x : ℕ) → is_in xs x ≡ true → is_in (xs ++ ys) x ≡ true
in_front xs ys x e = list_any-append (λ y. x == y) xs ys ∙ or_left (is_in xs x) (is_in ys x) e

in_back : (xs ys : List ℕ) (x : ℕ) → is_in ys x ≡ true → is_in (xs ++ ys) x ≡ true
in_back xs ys x e = list_any-append (λ y. x == y) xs ys ∙ or_right (is_in xs x) (is_in ys x) e

in_one : (x : ℕ) → is_in (x ∷ []) x ≡ true
in_one x = or_left (x == x) false (is_number x)

in_last : {P : Type 0} (xs : List ℕ) (y x : ℕ) → is_in (xs ++ y ∷ []) x ≡ true → (is_in xs x ≡ true → P) → (x ≡ y → P)
    → P
in_last xs y x e front last =
    or_elim (is_in xs x) ((x == y) || false) (sym (list_any-append (λ z. x == z) xs (y ∷ [])) ∙ e) front
    (λ h. or_elim (x == y) false h (λ same. last (number_is x y same)) (λ no_more. absurd (cc)))

not_in : (a b : Bool) → (a ≡ true → b ≡ true) → b ≡ false → a ≡ false
not_in true b there e = absurd (let t : b ≡ true = there refl in cc)
not_in false b there e = refl

-- regions that differ are no more than there are
pub few_regions : (regions : ℕ) (xs : List ℕ) → IsDistinct ◌==◌ xs
    → ((x : ℕ) → is_in xs x ≡ true → (1 ≤ x) × (x ≤ regions)) → length xs ≤ regions
few_regions regions xs apart within =
    let zero_apart : is_in xs 0 ≡ false = by (is_in xs 0) refl in
    let more : IsDistinct ◌==◌ (xs ++ 0 ∷ []) = IsDistinct-push nat_eq_equiv xs 0 apart zero_apart in
    let most = length-le_from_distinct_below (xs ++ 0 ∷ []) (regions + 1) more (λ q e. in_last xs 0 q e (λ h. let w =
    within q h in omega (arith, w.1)) (λ z. omega (arith, z))) in
    omega (arith, length-append xs (0 ∷ []), most)
  where
    by : (b : Bool) → is_in xs 0 ≡ b → b ≡ false
    by true e = absurd (omega (arith, (within 0 e).0))
    by false e = refl

all_front : (P : ℕ → Type 0) (xs : List ℕ) (y : ℕ) → AllByRecursion P (xs ++ y ∷ []) → AllByRecursion P xs
all_front P [] y all = tt
all_front P (x ∷ xs) y all = (all.0, all_front P xs y all.1)

distinct_front : (xs : List ℕ) (y : ℕ) → IsDistinct ◌==◌ (xs ++ y ∷ []) → IsDistinct ◌==◌ xs
unfolding IsDistinct
distinct_front [] y apart = tt
distinct_front (x ∷ xs) y apart = (all_front (λ z. (x == z) ≡ false) xs y apart.0, distinct_front xs y apart.1)

-- ---- walks

module _ (next : ℕ → List ℕ) (asker : ℕ) where
  -- through these regions, the asker first, to one at the end; through none it is the asker
  abbrev pub Walk : List ℕ → ℕ → Type 0
  Walk [] end = end ≡ asker
  Walk (r ∷ rs) end = (r ≡ asker) × Along next asker rs end

  along_more : (a : ℕ) (rs : List ℕ) (e b : ℕ) → Along next a rs e → is_in (next e) b ≡ true
      → Along next a (rs ++ e ∷ []) b
  along_more a [] e b walk edge = (walk, edge)
  along_more a (r ∷ rs) e b walk edge = (walk.0, along_more r rs e b walk.1 edge)

  pub walk_more : (through : List ℕ) (e b : ℕ) → Walk through e → is_in (next e) b ≡ true → Walk (through ++ e ∷ []) b
  walk_more [] e b walk edge = let P : ℕ → Type 0 = λ n. is_in (next n) b ≡ true in (walk, subst P walk edge)
  walk_more (r ∷ rs) e b walk edge = (walk.0, along_more asker rs e b walk.1 edge)

  along_less : (a : ℕ) (rs : List ℕ) (e b : ℕ) → Along next a (rs ++ e ∷ []) b → Along next a rs e
  along_less a [] e b walk = walk.0
  along_less a (r ∷ rs) e b walk = (walk.0, along_less r rs e b walk.1)

  walk_less : (through : List ℕ) (e b : ℕ) → Walk (through ++ e ∷ []) b → Walk through e
  walk_less [] e b walk = walk.0
  walk_less (r ∷ rs) e b walk = (walk.0, along_less asker rs e b walk.1)

  -- the whole way, whose last region is a parameter of its own
  abbrev pub IsWay : List ℕ → Type 0
  IsWay path = (through : List ℕ) (end : ℕ) → path ≡ through ++ end ∷ [] → Walk through end

  -- What the search keeps of its way and the regions met, of so many: each that it has left behind leads to those met
  -- alone, and not to the asker.
  pub record Searched (regions : ℕ) (met : ℕ → Bool) (path : List ℕ) : Type 0 where
    pub way : IsWay path
    pub apart : IsDistinct ◌==◌ path
    pub inside : (x : ℕ) → is_in path x ≡ true → met x ≡ true
    pub within : (x : ℕ) → met x ≡ true → (1 ≤ x) × (x ≤ regions)
    pub asker_met : met asker ≡ true
    pub behind : (x : ℕ) → met x ≡ true → is_in path x ≡ false → (b : ℕ) → is_in (next x) b ≡ true → (met b ≡ true)
        × (b ≢ asker)

  last_of : (xs ys : List ℕ) (x y : ℕ) → xs ++ x ∷ [] ≡ ys ++ y ∷ [] → (xs ≡ ys) × (x ≡ y)
  last_of [] [] x y e = (refl, cc)
  last_of [] (z ∷ []) x y e = absurd (cc)
  last_of [] (z ∷ w ∷ ys) x y e = absurd (cc)
  last_of (z ∷ []) [] x y e = absurd (cc)
  last_of (z ∷ w ∷ xs) [] x y e = absurd (cc)
  last_of (z ∷ xs) (w ∷ ys) x y e =
      let head : z ≡ w = cc in
      let tail : xs ++ x ∷ [] ≡ ys ++ y ∷ [] = cc in
      let r = last_of xs ys x y tail in
      (ap (λ n. n ∷ xs) head ∙ ap (λ l. w ∷ l) r.0, r.1)

  not_end : (through : List ℕ) (end : ℕ) → [] ≡ through ++ end ∷ [] → ⊥
  not_end [] end e = absurd (cc)
  not_end (x ∷ xs) end e = absurd (cc)

  no_way : IsWay []
  no_way through end e = absurd (not_end through end e)

  way_of : (through : List ℕ) (end : ℕ) → Walk through end → IsWay (through ++ end ∷ [])
  way_of through end walk other last e =
      let same = last_of through other end last e in
      let P : List ℕ → Type 0 = λ l. Walk l last in
      let Q : ℕ → Type 0 = λ n. Walk through n in
      subst P same.0 (subst Q same.1 walk)

  pub begins : (regions : ℕ) (met : ℕ → Bool) → 1 ≤ asker → asker ≤ regions → ((x : ℕ) → met x ≡ (x == asker || false))
      → Searched regions met (asker ∷ [])
  begins regions met some most is = record {
    way = way_of [] asker refl;
    apart = IsDistinct-push nat_eq_equiv [] asker none_twice refl;
    inside = λ x h. is x ∙ h;
    within = λ x h. or_elim (x == asker) false (sym (is x) ∙ h)
        (λ e. let P : ℕ → Type 0 = λ y. (1 ≤ y) × (y ≤ regions) in subst P (sym (number_is x asker e)) (some, most))
        (λ no_more. absurd (cc));
    asker_met = is asker ∙ or_left (asker == asker) false (is_number asker);
    behind = λ x h out b edge. absurd (let yes : is_in (asker ∷ []) x ≡ true = sym (is x) ∙ h in
        let wrong : false ≡ true = sym out ∙ yes in cc);
  }

  -- a way has no more regions than there are
  pub few : (regions : ℕ) (met : ℕ → Bool) (path : List ℕ) → Searched regions met path → length path ≤ regions
  few regions met path s = few_regions regions path s.apart (λ x h. s.within x (s.inside x h))

  -- its end is one of them
  pub end_within : (regions : ℕ) (met : ℕ → Bool) (through : List ℕ) (end : ℕ)
      → Searched regions met (through ++ end ∷ []) → (1 ≤ end) × (end ≤ regions)
  end_within regions met through end s = s.within end (s.inside end (in_back through (end ∷ []) end (in_one end)))

  -- on to a region not met
  pub onward : (regions : ℕ) (met met2 : ℕ → Bool) (through : List ℕ) (end r : ℕ)
      → Searched regions met (through ++ end ∷ []) → is_in (next end) r ≡ true → met r ≡ false → (1 ≤ r) × (r ≤ regions)
      → ((x : ℕ) → met2 x ≡ (x == r || met x)) → Searched regions met2 ((through ++ end ∷ []) ++ r ∷ [])
  onward regions met met2 through end r s edge fresh range is = record {
    way = way_of (through ++ end ∷ []) r (walk_more through end r (s.way through end refl) edge);
    apart = IsDistinct-push nat_eq_equiv (through ++ end ∷ []) r s.apart
        (not_in (is_in (through ++ end ∷ []) r) (met r) (s.inside r) fresh);
    inside = λ x h. is x ∙ in_last (through ++ end ∷ []) r x h (λ old. or_right (x == r) (met x) (s.inside x old))
        (λ same. or_left (x == r) (met x) (ap (λ n. n == r) same ∙ is_number r));
    within = λ x h. or_elim (x == r) (met x) (sym (is x) ∙ h)
        (λ e. let P : ℕ → Type 0 = λ y. (1 ≤ y) × (y ≤ regions) in subst P (sym (number_is x r e)) range) (s.within x);
    asker_met = is asker ∙ or_right (asker == r) (met asker) s.asker_met;
    behind = λ x h out b e.
        let front : is_in (through ++ end ∷ []) x ≡ false =
        not_in (is_in (through ++ end ∷ []) x) (is_in ((through ++ end ∷ []) ++ r ∷ []) x)
        (in_front (through ++ end ∷ []) (r ∷ []) x) out in
        let old : met x ≡ true = or_elim (x == r) (met x) (sym (is x) ∙ h)
        (λ same. let here : is_in ((through ++ end ∷ []) ++ r ∷ []) x ≡ true =
        in_back (through ++ end ∷ []) (r ∷ []) x (or_left (x == r) false same) in
        absurd (let wrong : false ≡ true = sym out ∙ here in cc)) (λ m. m) in
        let k = s.behind x old front b e in
        (is b ∙ or_right (b == r) (met b) k.0, k.1);
  }

  -- back from a region that leads to those met alone
  pub back : (regions : ℕ) (met : ℕ → Bool) (through : List ℕ) (end : ℕ) → Searched regions met (through ++ end ∷ [])
      → ((b : ℕ) → is_in (next end) b ≡ true → (met b ≡ true) × (b ≢ asker)) → Searched regions met through
  back regions met through end s done = record {
    way = λ other last e. let P : List ℕ → Type 0 = λ l. Walk l end in
        walk_less other last end (subst P e (s.way through end refl));
    apart = distinct_front through end s.apart;
    inside = λ x h. s.inside x (in_front through (end ∷ []) x h);
    within = s.within;
    asker_met = s.asker_met;
    behind = λ x h out b e. by x (is_in (through ++ end ∷ []) x) refl h out b e;
  }
    where
      by : (x : ℕ) (there : Bool) → is_in (through ++ end ∷ []) x ≡ there → met x ≡ true → is_in through x ≡ false
          → (b : ℕ) → is_in (next x) b ≡ true → (met b ≡ true) × (b ≢ asker)
      by x true e h out b edge = in_last through end x e
          (λ old. absurd (let wrong : false ≡ true = sym out ∙ old in cc))
          (λ same. let P : ℕ → Type 0 = λ n. is_in (next n) b ≡ true in done b (subst P same edge))
      by x false e h out b edge = s.behind x h e b edge

  -- the way is a cycle where its end leads to the asker
  pub closes : (regions : ℕ) (met : ℕ → Bool) (through : List ℕ) (end : ℕ) → Searched regions met (through ++ end ∷ [])
      → is_in (next end) asker ≡ true
      → (cycle : List ℕ) × (through ++ end ∷ [] ≡ asker ∷ cycle) × Along next asker cycle asker
      × IsDistinct ◌==◌ (through ++ end ∷ [])
  closes regions met through end s edge =
      let c = cycle_of (through ++ end ∷ []) (walk_more through end asker (s.way through end refl) edge) end
      (in_back through (end ∷ []) end (in_one end)) in
      (c.0, c.1, c.2, s.apart)
    where
      cycle_of : (path : List ℕ) → Walk path asker → (x : ℕ) → is_in path x ≡ true → (cycle : List ℕ)
          × (path ≡ asker ∷ cycle) × Along next asker cycle asker
      cycle_of [] walk x e = absurd (cc)
      cycle_of (r ∷ rs) walk x e = (rs, ap (λ n. n ∷ rs) walk.0, walk.1)

  -- where all is left behind there is none
  pub none : (regions : ℕ) (met : ℕ → Bool) → Searched regions met [] → (cycle : List ℕ)
      → ¬ Along next asker cycle asker
  none regions met s cycle = from cycle asker s.asker_met
    where
      from : (cycle : List ℕ) (r : ℕ) → met r ≡ true → ¬ Along next r cycle asker
      from [] r here walk = (s.behind r here refl asker walk).1 refl
      from (t ∷ ts) r here walk = from ts t (s.behind r here refl t walk.0).0 walk.1

  -- ---- the way comes no later than a cycle

  abbrev pub AreNoLater : List ℕ → Type 0
  AreNoLater path = (cycle : List ℕ) → Along next asker cycle asker → IsDistinct ◌==◌ (asker ∷ cycle)
      → IsNoLater path (asker ∷ cycle)

  pub none_before : AreNoLater (asker ∷ [])
  none_before cycle along apart = inr (refl, tt)

  pub still_before : (through : List ℕ) (end : ℕ) → AreNoLater (through ++ end ∷ []) → AreNoLater through
  still_before through end first cycle along apart =
      no_later_front through (end ∷ []) (asker ∷ cycle) (first cycle along apart)

  along_from : (a : ℕ) (rs : List ℕ) (e : ℕ) (rest : List ℕ) (goal : ℕ) → Along next a ((rs ++ e ∷ []) ++ rest) goal
      → Along next e rest goal
  along_from a [] e rest goal along = along.1
  along_from a (r ∷ rs) e rest goal along = along_from r rs e rest goal along.1

  walk_from : (through : List ℕ) (e : ℕ) (rest : List ℕ) (goal : ℕ) → Walk ((through ++ e ∷ []) ++ rest) goal
      → Along next e rest goal
  walk_from [] e rest goal walk = let P : ℕ → Type 0 = λ n. Along next n rest goal in subst P (sym walk.0) walk.1
  walk_from (t ∷ ts) e rest goal walk = along_from asker ts e rest goal walk.1

  -- a region that was left behind leads to the asker only through the way
  none_off : (regions : ℕ) (met : ℕ → Bool) (path : List ℕ) → Searched regions met path → (x : ℕ) (xs : List ℕ)
      → met x ≡ true → ((y : ℕ) → is_in (x ∷ xs) y ≡ true → is_in path y ≡ false) → ¬ Along next x xs asker
  none_off regions met path s x [] here out along =
      (s.behind x here (out x (in_one x)) asker along).1 refl
  none_off regions met path s x (y ∷ ys) here out along =
      none_off regions met path s y ys (s.behind x here (out x (or_left (x == x) (is_in (y ∷ ys) x) (is_number x))) y
      along.0).0 (λ z e. out z (or_right (z == x) (is_in (y ∷ ys) z) e)) along.1

  -- on to the least region not met
  pub onward_before : (regions : ℕ) (met : ℕ → Bool) (through : List ℕ) (end r : ℕ)
      → Searched regions met (through ++ end ∷ []) → is_in (next end) asker ≡ false
      → ((b : ℕ) → is_in (next end) b ≡ true → met b ≡ false → r ≤ b)
      → AreNoLater (through ++ end ∷ []) → AreNoLater ((through ++ end ∷ []) ++ r ∷ [])
  onward_before regions met through end r s shut least first cycle along apart =
      by (goes_on (through ++ end ∷ []) (asker ∷ cycle) (first cycle along apart))
    where
      step : (rest : List ℕ) → asker ∷ cycle ≡ (through ++ end ∷ []) ++ rest → Along next end rest asker
          → IsDistinct ◌==◌ ((through ++ end ∷ []) ++ rest)
          → IsNoLater ((through ++ end ∷ []) ++ r ∷ []) ((through ++ end ∷ []) ++ rest)
      step [] e walk distinct = absurd (let wrong : false ≡ true = sym shut ∙ walk in cc)
      step (x ∷ xs) e walk distinct = on (met x) refl
        where
          on : (b : Bool) → met x ≡ b
              → IsNoLater ((through ++ end ∷ []) ++ r ∷ []) ((through ++ end ∷ []) ++ x ∷ xs)
          on true here = absurd (none_off regions met (through ++ end ∷ []) s x xs here
              (apart_of (through ++ end ∷ []) (x ∷ xs) distinct) walk.1)
          on false fresh = no_later_next (through ++ end ∷ []) r x xs (least x walk.0 fresh)

      by : GoesOn (through ++ end ∷ []) (asker ∷ cycle) → IsNoLater ((through ++ end ∷ []) ++ r ∷ []) (asker ∷ cycle)
      by (inr further) = further (r ∷ [])
      by (inl (rest, e)) =
          let P : List ℕ → Type 0 = λ l. Walk l asker in
          let Q : List ℕ → Type 0 = λ l. IsDistinct ◌==◌ l in
          let R : List ℕ → Type 0 = λ l. IsNoLater ((through ++ end ∷ []) ++ r ∷ []) l in
          subst R (sym e)
          (step rest e (walk_from through end rest asker (subst P e (refl, along))) (subst Q e apart))

-- ---- regions not met yet

abbrev pub count_unmet : (ℕ → Bool) → ℕ → ℕ
count_unmet met regions = length (filter (λ x. not (met x)) (numbers_up regions 1))

no_more : (met met2 : ℕ → Bool) → ((x : ℕ) → met x ≡ true → met2 x ≡ true) → (xs : List ℕ)
    → length (filter (λ x. not (met2 x)) xs) ≤ length (filter (λ x. not (met x)) xs)
no_more met met2 wider [] = omega arith
no_more met met2 wider (x ∷ xs) = by (met x) (met2 x) (wider x) (no_more met met2 wider xs)
  where
    by : (a b : Bool) → (a ≡ true → b ≡ true) → length (filter (λ x. not (met2 x)) xs) ≤ length
        (filter (λ x. not (met x)) xs)
        → length (cond (not b) (x ∷ filter (λ x. not (met2 x)) xs) (filter (λ x. not (met2 x)) xs)) ≤ length
        (cond (not a) (x ∷ filter (λ x. not (met x)) xs) (filter (λ x. not (met x)) xs))
    by true true w h = h
    by true false w h = absurd (let wrong : false ≡ true = w refl in cc)
    by false true w h = omega (arith, h)
    by false false w h = omega (arith, h)

fewer_in : (met met2 : ℕ → Bool) (r : ℕ) → ((x : ℕ) → met x ≡ true → met2 x ≡ true) → met r ≡ false → met2 r ≡ true
    → (n from : ℕ) → from ≤ r → r < from + n
    → length (filter (λ x. not (met2 x)) (numbers_up n from)) < length (filter (λ x. not (met x)) (numbers_up n from))
fewer_in met met2 r wider fresh now zero from le lt = absurd (omega (arith, le, lt))
fewer_in met met2 r wider fresh now (suc n) from le lt =
    by (λ apart. fewer_in met met2 r wider fresh now n (from + 1) (omega (arith, le, apart)) (omega (arith, lt)))
    (r == from) refl
  where
    here : (a b : Bool) → a ≡ false → b ≡ true → length (filter (λ x. not (met2 x)) (numbers_up n (from + 1))) ≤ length
        (filter (λ x. not (met x)) (numbers_up n (from + 1)))
        → length (cond (not b) (from ∷ filter (λ x. not (met2 x)) (numbers_up n (from + 1)))
        (filter (λ x. not (met2 x)) (numbers_up n (from + 1))))
        < length (cond (not a) (from ∷ filter (λ x. not (met x)) (numbers_up n (from + 1)))
        (filter (λ x. not (met x)) (numbers_up n (from + 1))))
    here true b f t h = absurd (cc)
    here false true f t h = omega (arith, h)
    here false false f t h = absurd (cc)

    later : (a b : Bool) → (a ≡ true → b ≡ true) → length (filter (λ x. not (met2 x)) (numbers_up n (from + 1))) <
        length (filter (λ x. not (met x)) (numbers_up n (from + 1)))
        → length (cond (not b) (from ∷ filter (λ x. not (met2 x)) (numbers_up n (from + 1)))
        (filter (λ x. not (met2 x)) (numbers_up n (from + 1))))
        < length (cond (not a) (from ∷ filter (λ x. not (met x)) (numbers_up n (from + 1)))
        (filter (λ x. not (met x)) (numbers_up n (from + 1))))
    later true true w h = h
    later true false w h = absurd (let wrong : false ≡ true = w refl in cc)
    later false true w h = omega (arith, h)
    later false false w h = omega (arith, h)

    by : ((r ≡ from → ⊥) → length (filter (λ x. not (met2 x)) (numbers_up n (from + 1))) < length
        (filter (λ x. not (met x)) (numbers_up n (from + 1))))
        → (b : Bool) → (r == from) ≡ b → length (filter (λ x. not (met2 x)) (numbers_up (suc n) from)) < length
        (filter (λ x. not (met x)) (numbers_up (suc n) from))
    by further true e = let same : r ≡ from = number_is r from e in
        here (met from) (met2 from) (ap met (sym same) ∙ fresh) (ap met2 (sym same) ∙ now)
        (no_more met met2 wider (numbers_up n (from + 1)))
    by further false e =
        let apart : r ≡ from → ⊥ = (λ same. let wrong : true ≡ false =
        sym (is_number from) ∙ ap (λ x. x == from) (sym same) ∙ e in cc) in
        later (met from) (met2 from) (wider from) (further apart)

pub fewer : (met met2 : ℕ → Bool) (r regions : ℕ) → met r ≡ false → (1 ≤ r) × (r ≤ regions)
    → ((x : ℕ) → met2 x ≡ (x == r || met x)) → count_unmet met2 regions < count_unmet met regions
fewer met met2 r regions fresh range is =
    fewer_in met met2 r (λ x h. is x ∙ or_right (x == r) (met x) h) fresh
    (is r ∙ or_left (r == r) (met r) (is_number r)) regions 1 range.0 (omega (arith, range.1))
