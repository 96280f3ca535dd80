-- Items that may be applied one behind another: each is fit, and an interval is written whole before a range of it is.
use Rattle.std.proofs.Common.{◌≡◌, ℕ, List, [], ◌∷◌, ◌++◌, Option, Some, None, refl, sym, ◌∙◌, ap, subst, Bool, true, false, ◌&&◌, ◌||◌, ◌==◌, append_assoc, arith}
use Rattle.std.specs.Prelude.{IfOk, Result, Ok, Err, find, if◌then◌else◌}
use Rattle.std.specs.declared.alloc.AllocError.{AllocError}
use Rattle.std.specs.List.{list_any}
use Rattle.std.specs.Option.{option_map_or}
use Rattle.fp_model.specs.declared.definitions.Defs.{Defs}
use Rattle.fp_model.specs.declared.log.Item.{Item}
use Rattle.fp_model.specs.declared.log.Item.TheVariants.{Segment, Image, Range}
use Rattle.fp_model.specs.ItemTargets.{names_interval}
use Rattle.fp_model.specs.Items.{AreFit, IsFit, begins_with_image, is_image}
use Rattle.fp_restart.specs.inside.Begun.{Begins, IsBegunBy, IsJudged, Judges, has_begun}
use Rattle.fp_restart.specs.declared.begun.Begun.{Begun}
use Rattle.fp_restart.proofs.Fits.{all-back, all-front}
use Rattle.plain_laws.proofs.Alls.{all_append}

true_is_not_false : true ≡ false → ⊥
true_is_not_false e = cc

-- ---- the first of a list that passes

module _ {X : Type 0} (p : X → Bool) where
  any-append : (xs ys : List X) → list_any p (xs ++ ys) ≡ (list_any p xs || list_any p ys)
  any-append [] ys = refl
  any-append (x ∷ xs) ys = by (p x) (any-append xs ys)
    where
      by : (b : Bool) → list_any p (xs ++ ys) ≡ (list_any p xs || list_any p ys)
          → (b || list_any p (xs ++ ys)) ≡ ((b || list_any p xs) || list_any p ys)
      by true e = refl
      by false e = e

  -- one that passes is found first
  find-some : (xs ys : List X) → list_any p xs ≡ true → find p (xs ++ ys) ≡ find p xs
  find-some [] ys e = absurd (true_is_not_false (sym e))
  find-some (x ∷ xs) ys e = by (p x) e (find-some xs ys)
    where
      by : (b : Bool) → (b || list_any p xs) ≡ true → (list_any p xs ≡ true → find p (xs ++ ys) ≡ find p xs)
          → (if b then Some x else find p (xs ++ ys)) ≡ (if b then Some x else find p xs)
      by true e later = refl
      by false e later = later e

  -- behind those that don't, the rest is searched
  find-rest : (xs ys : List X) → list_any p xs ≡ false → find p (xs ++ ys) ≡ find p ys
  find-rest [] ys e = refl
  find-rest (x ∷ xs) ys e = by (p x) e (find-rest xs ys)
    where
      by : (b : Bool) → (b || list_any p xs) ≡ false → (list_any p xs ≡ false → find p (xs ++ ys) ≡ find p ys)
          → (if b then Some x else find p (xs ++ ys)) ≡ find p ys
      by true e later = absurd (true_is_not_false e)
      by false e later = later e

  find-none : (xs : List X) → list_any p xs ≡ false → find p xs ≡ None
  find-none [] e = refl
  find-none (x ∷ xs) e = by (p x) e (find-none xs)
    where
      by : (b : Bool) → (b || list_any p xs) ≡ false → (list_any p xs ≡ false → find p xs ≡ None)
          → (if b then Some x else find p xs) ≡ None
      by true e later = absurd (true_is_not_false e)
      by false e later = later e

-- ---- parts

module _ (defs : Defs) where
  -- what comes first may be applied by itself
  pub fit-front : (xs ys : List Item) → AreFit defs (xs ++ ys) → AreFit defs xs
  fit-front xs ys fit = record {
    each = all-front (IsFit defs) xs ys fit.each;
    begin = λ set ci. by set ci (list_any (names_interval set ci) xs) refl;
  }
    where
      by : (set ci : ℕ) (b : Bool) → list_any (names_interval set ci) xs ≡ b → begins_with_image set ci xs ≡ true
      by set ci true e =
          sym (ap (λ (o : Option Item). option_map_or is_image o true) (find-some (names_interval set ci) xs ys e))
          ∙ fit.begin set ci
      by set ci false e =
          ap (λ (o : Option Item). option_map_or is_image o true) (find-none (names_interval set ci) xs e)

  -- two lists that each may be applied may be, one behind the other
  pub fit-append : (xs ys : List Item) → AreFit defs xs → AreFit defs ys → AreFit defs (xs ++ ys)
  fit-append xs ys front rest = record {
    each = all_append (IsFit defs) xs ys front.each rest.each;
    begin = λ set ci. by set ci (list_any (names_interval set ci) xs) refl;
  }
    where
      by : (set ci : ℕ) (b : Bool) → list_any (names_interval set ci) xs ≡ b → begins_with_image set ci (xs ++ ys)
          ≡ true
      by set ci true e =
          ap (λ (o : Option Item). option_map_or is_image o true) (find-some (names_interval set ci) xs ys e)
          ∙ front.begin set ci
      by set ci false e =
          ap (λ (o : Option Item). option_map_or is_image o true) (find-rest (names_interval set ci) xs ys e)
          ∙ rest.begin set ci

  -- nothing may be applied
  pub fit-nothing : AreFit defs []
  fit-nothing = record { each = tt; begin = λ set ci. refl }

  -- ---- one item more

  -- an item that isn't an image of an interval which it names is behind one that names it
  abbrev IsBehind : List Item → Item → Type 0
  IsBehind xs item = (set ci : ℕ) → names_interval set ci item ≡ true → is_image item ≡ false
      → list_any (names_interval set ci) xs ≡ true

  fit-one : (xs : List Item) (item : Item) → AreFit defs xs → IsFit defs item → IsBehind xs item
      → AreFit defs (xs ++ item ∷ [])
  fit-one xs item front fit behind = record {
    each = all_append (IsFit defs) xs (item ∷ []) front.each (fit, tt);
    begin = λ set ci. by set ci (list_any (names_interval set ci) xs) refl;
  }
    where
      own : (set ci : ℕ) → list_any (names_interval set ci) xs ≡ false → (b : Bool) → names_interval set ci item ≡ b
          → (i : Bool) → is_image item ≡ i
          → option_map_or is_image (if b then Some item else None) true ≡ true
      own set ci none true named true is = is
      own set ci none true named false is = absurd (true_is_not_false (sym (behind set ci named is) ∙ none))
      own set ci none false named i is = refl

      by : (set ci : ℕ) (b : Bool) → list_any (names_interval set ci) xs ≡ b
          → begins_with_image set ci (xs ++ item ∷ []) ≡ true
      by set ci true e =
          ap (λ (o : Option Item). option_map_or is_image o true) (find-some (names_interval set ci) xs (item ∷ []) e)
          ∙ front.begin set ci
      by set ci false e =
          ap (λ (o : Option Item). option_map_or is_image o true) (find-rest (names_interval set ci) xs (item ∷ []) e)
          ∙ own set ci e (names_interval set ci item) refl (is_image item) refl

  -- one that isn't fit, behind any
  pub unfit-one : (xs : List Item) (item : Item) → ¬ IsFit defs item → ¬ AreFit defs (xs ++ item ∷ [])
  unfit-one xs item unfit fit = unfit (all-back (IsFit defs) xs (item ∷ []) fit.each).0

  number-is : (a b : ℕ) → (a == b) ≡ true → a ≡ b
  number-is a b e = grind arith

  is-number : (a : ℕ) → (a == a) ≡ true
  is-number a = grind arith

  same-or : (c : Bool) → (c || false) ≡ c
  same-or true = refl
  same-or false = refl

  flipped : (a b : Bool) → (a || b) ≡ (b || a)
  flipped true true = refl
  flipped true false = refl
  flipped false true = refl
  flipped false false = refl

  -- what is there already is there
  absorbed : (a b : Bool) → (b ≡ true → a ≡ true) → (a || b) ≡ a
  absorbed true b there = refl
  absorbed false true there = sym (there refl)
  absorbed false false there = refl

  any-one : (p : Item → Bool) (xs : List Item) (item : Item) → list_any p (xs ++ item ∷ []) ≡ (list_any p xs || p item)
  any-one p xs item = any-append p xs (item ∷ []) ∙ ap (λ c. list_any p xs || c) (same-or (p item))

  -- what an item that is fit comes to
  pub judged : (old new : Begun) (earlier : List Item) (item : Item) (b : Bool) → IsBegunBy old earlier
      → AreFit defs earlier → IsFit defs item → Begins old new item b → IsJudged defs new earlier (item ∷ []) b
  judged old new earlier (Segment msdb key bytes) b by_these front fit begins =
      subst (IsJudged defs new earlier (Segment msdb key bytes ∷ [])) (sym begins.0) (
        fit-one earlier (Segment msdb key bytes) front fit (λ set ci named is. absurd (true_is_not_false (sym named))),
        λ set ci.
            ap (λ (x : Begun). has_begun x set ci) begins.1 ∙ by_these set ci
            ∙ sym (any-one (names_interval set ci) earlier (Segment msdb key bytes)
            ∙ same-or (list_any (names_interval set ci) earlier)),
      )
  judged old new earlier (Image other n bytes) b by_these front fit begins =
      subst (IsJudged defs new earlier (Image other n bytes ∷ [])) (sym begins.0) (
        fit-one earlier (Image other n bytes) front fit (λ set ci named is. absurd (true_is_not_false is)),
        λ set ci.
            begins.1 set ci ∙ ap (λ c. (set == other && ci == n) || c) (by_these set ci)
            ∙ flipped (set == other && ci == n) (list_any (names_interval set ci) earlier)
            ∙ sym (any-one (names_interval set ci) earlier (Image other n bytes)),
      )
  judged old new earlier (Range other n at bytes) b by_these front fit begins =
      by b begins.0
    where
      found : (b : Bool) → b ≡ has_begun old other n → list_any (names_interval other n) earlier ≡ b
      found b e = sym (by_these other n) ∙ sym e

      -- an interval that the range names is its own
      behind : list_any (names_interval other n) earlier ≡ true → (set ci : ℕ) → (set == other && ci == n) ≡ true
          → list_any (names_interval set ci) earlier ≡ true
      behind any set ci named =
          let first = number-is set other (both-first (set == other) (ci == n) named) in
          let second = number-is ci n (both-second (set == other) (ci == n) named) in
          subst (λ (s : ℕ). list_any (names_interval s ci) earlier ≡ true) (sym first)
          (subst (λ (c : ℕ). list_any (names_interval other c) earlier ≡ true) (sym second) any)
        where
          both-first : (a b : Bool) → (a && b) ≡ true → a ≡ true
          both-first true b e = refl
          both-first false b e = e

          both-second : (a b : Bool) → (a && b) ≡ true → b ≡ true
          both-second true b e = e
          both-second false b e = absurd (true_is_not_false (sym e))

      by : (b : Bool) → b ≡ has_begun old other n → IsJudged defs new earlier (Range other n at bytes ∷ []) b
      by true e = (
        fit-one earlier (Range other n at bytes) front fit (λ set ci named is. behind (found true e) set ci named),
        λ set ci.
            ap (λ (x : Begun). has_begun x set ci) begins.1 ∙ by_these set ci
            ∙ sym (any-one (names_interval set ci) earlier (Range other n at bytes)
            ∙ absorbed (list_any (names_interval set ci) earlier) (set == other && ci == n)
            (λ named. behind (found true e) set ci named)),
      )
      by false e = λ fits.
          let none = found false e in
          let first : find (names_interval other n) (earlier ++ Range other n at bytes ∷ [])
          ≡ Some (Range other n at bytes) =
          find-rest (names_interval other n) earlier (Range other n at bytes ∷ []) none
          ∙ ap (λ c. if c then Some (Range other n at bytes) else None) (both-same other n) in
          true_is_not_false (sym (fits.begin other n) ∙ ap (λ (o : Option Item). option_map_or is_image o true) first)
        where
          both-same : (set ci : ℕ) → (set == set && ci == ci) ≡ true
          both-same set ci = ap (λ c. c && (ci == ci)) (is-number set) ∙ is-number ci

  -- ---- more items

  -- items behind others that were judged
  pub judged-more : (new : Begun) (earlier xs ys : List Item) (b : Bool) → IsJudged defs new (earlier ++ xs) ys b
      → IsJudged defs new earlier (xs ++ ys) b
  judged-more new earlier xs ys true is = (
    subst (AreFit defs) (append_assoc earlier xs ys) is.0,
    subst (IsBegunBy new) (append_assoc earlier xs ys) is.1,
  )
  judged-more new earlier xs ys false is = λ fits. is (subst (AreFit defs) (sym (append_assoc earlier xs ys)) fits)

  -- where some may not be applied, no more may
  pub judged-none : (new other : Begun) (earlier xs ys : List Item) → IsJudged defs new earlier xs false
      → IsJudged defs other earlier (xs ++ ys) false
  judged-none new other earlier xs ys is fits =
      is (fit-front (earlier ++ xs) ys (subst (AreFit defs) (sym (append_assoc earlier xs ys)) fits))

-- ---- judging in parts

module _ (defs : Defs) where
  -- some, and then more
  pub judges-on : (old mid new : Begun) (xs ys : List Item) (b : Bool) → Judges defs old mid xs true
      → Judges defs mid new ys b → Judges defs old new (xs ++ ys) b
  judges-on old mid new xs ys b first next earlier by_these front =
      let so_far = first earlier by_these front in
      judged-more defs new earlier xs ys b (next (earlier ++ xs) so_far.1 so_far.0)

  -- some that may not be applied, whatever follows
  pub judges-none : (old new : Begun) (xs ys : List Item) → Judges defs old new xs false
      → Judges defs old new (xs ++ ys) false
  judges-none old new xs ys first earlier by_these front =
      judged-none defs new new earlier xs ys (first earlier by_these front)

  -- one item
  pub judges-one : (old new : Begun) (item : Item) → IsFit defs item → (r : Result Bool AllocError)
      → IfOk r (Begins old new item) → IfOk r (Judges defs old new (item ∷ []))
  judges-one old new item fit (Ok b) begins =
      λ earlier by_these front. judged defs old new earlier item b by_these front fit begins
  judges-one old new item fit (Err e) begins = tt

-- what holds anyway holds where an answer is yes
pub fits-anyway : {P : Type 0} (r : Result Bool AllocError) → P → IfOk r (λ fit. fit ≡ true → P)
fits-anyway (Ok b) p = λ e. p
fits-anyway (Err e) p = tt
