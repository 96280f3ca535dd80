-- An interval of those that are held.
use Rattle.std.proofs.Common.{inl, inr, length, ◌+◌, [], ◌∷◌, set, ◌++◌, ◌≡◌, ℕ, zero, suc, ◌<◌, ◌≤◌, List, get_or, refl, sym, ◌∙◌, ap, subst, arith}
use Rattle.std.specs.Prelude.{Some, None, Option, Result, Ok, Err, IfOk, IsOk, OnOk, OnErr, IfSome, slice_get}
use Rattle.std.specs.BTreeMap.{BTreeMap, get, IsUnchanged}
use Rattle.std.specs.Ordering.{nat_cmp}
use Rattle.std.proofs.lemmas.Bool.{cases_eq}
use Rattle.ci_space.specs.Interval.{IsInterval, empty_bytes}
use Rattle.ci_space.specs.Calls.{GoesOn, HaveSize}
use Rattle.held_intervals.specs.Holding.{Changes, held_or, bytes_of, listed, overlaid, AreRead, Fit, IsToldHeld, KeepsFront, Keeps}

slice_get-listed : (n : ℕ) (f : ℕ → List ℕ) (i : ℕ) → i < n → slice_get (listed n f) i ≡ Some (f i)
slice_get-listed zero f i lt = absurd (omega arith)
slice_get-listed (suc n) f zero lt = refl
slice_get-listed (suc n) f (suc i) lt = slice_get-listed n (λ j. f (suc j)) i (omega arith)

-- what stands in a list is read by its default-free get
pub get_or-slice : (xs : List (List ℕ)) (i : ℕ) (x : List ℕ) → slice_get xs i ≡ Some x → get_or xs i [] ≡ x
get_or-slice [] i x e = absurd (cc)
get_or-slice (y ∷ ys) zero x e = cc
get_or-slice (y ∷ ys) (suc i) x e = get_or-slice ys i x e

pub slice-get_or : (xs : List (List ℕ)) (i : ℕ) → i < length xs → slice_get xs i ≡ Some (get_or xs i [])
slice-get_or [] i lt = absurd (omega arith)
slice-get_or (y ∷ ys) zero lt = refl
slice-get_or (y ∷ ys) (suc i) lt = slice-get_or ys i (omega arith)

-- what is answered is the interval there,
pub got : {E : Type 0} (n : ℕ) (f : ℕ → List ℕ) (ci : ℕ) (bytes : List ℕ) (result : Result (List ℕ) E) → ci < n
    → f ci ≡ bytes → IfOk result (λ i. i ≡ bytes) → IfOk result (λ i. slice_get (listed n f) ci ≡ Some i)
got n f ci bytes (Ok i) below is same = slice_get-listed n f ci below ∙ ap Some (is ∙ sym same)
got n f ci bytes (Err e) below is same = same

-- and what isn't an interval stands there
pub got_bad : (n : ℕ) (f : ℕ → List ℕ) (ci : ℕ) (bytes : List ℕ) → ci < n → f ci ≡ bytes → ¬ IsInterval bytes
    → IfSome (slice_get (listed n f) ci) (λ b. ¬ IsInterval b)
got_bad n f ci bytes below is none = rw (slice_get-listed n f ci below) (rw is none)

-- as it was changed, and as it stands in the area
pub in_changed : (changed : Changes) (area : List (List ℕ)) (ci : ℕ) (bytes : List ℕ) → changed ci ≡ Some bytes
    → bytes_of changed area ci ≡ bytes
in_changed changed area ci bytes is = rw is refl

pub in_area : (changed : Changes) (area : List (List ℕ)) (ci : ℕ) (bytes : List ℕ) → changed ci ≡ None
    → slice_get area ci ≡ Some bytes → bytes_of changed area ci ≡ bytes
in_area changed area ci bytes none is = rw none (get_or-slice area ci bytes is)

-- lists of the same values below n,
pub listed_same : (n : ℕ) (f g : ℕ → List ℕ) → ((k : ℕ) → k < n → f k ≡ g k) → listed n f ≡ listed n g
listed_same zero f g same = refl
listed_same (suc n) f g same =
    let first = same 0 (omega arith) in
    let rest = listed_same n (λ i. f (suc i)) (λ i. g (suc i)) (λ k lt. same (suc k) (omega arith)) in
    cc

-- one that is longer by one,
pub listed_more : (n : ℕ) (f : ℕ → List ℕ) → listed (suc n) f ≡ listed n f ++ f n ∷ []
listed_more zero f = refl
listed_more (suc n) f = ap (λ l. f 0 ∷ l) (listed_more n (λ i. f (suc i)))

-- and one with another value
pub listed_set : (n : ℕ) (f g : ℕ → List ℕ) (i : ℕ) (x : List ℕ) → g i ≡ x → ((k : ℕ) → (k ≡ i → ⊥) → g k ≡ f k)
    → listed n g ≡ set (listed n f) i x
listed_set zero f g i x here other = refl
listed_set (suc n) f g zero x here other =
    let rest = listed_same n (λ k. g (suc k)) (λ k. f (suc k)) (λ k lt. other (suc k) (λ e. omega arith)) in
    cc
listed_set (suc n) f g (suc i) x here other =
    let first = other 0 (λ e. omega arith) in
    let rest = listed_set n (λ k. f (suc k)) (λ k. g (suc k)) i x here
    (λ k ne. other (suc k) (λ e. ne (omega arith))) in
    cc

-- an interval that is changed, and the others
pub put_here : (before after : Changes) (area : List (List ℕ)) (n ci : ℕ) (bytes : List ℕ) → after ci ≡ Some bytes
    → ((k : ℕ) → (k ≡ ci → ⊥) → after k ≡ before k) → overlaid n after area ≡ set (overlaid n before area) ci bytes
put_here before after area n ci bytes is others =
    listed_set n (bytes_of before area) (bytes_of after area) ci bytes (rw is refl)
    (λ k ne. ap (λ o. held_or o (get_or area k [])) (others k ne))

-- the same area under the same changes
pub same_area : (changed : Changes) (old new : List (List ℕ)) (n m : ℕ) → m ≡ n → new ≡ old
    → overlaid m changed new ≡ overlaid n changed old
same_area changed old new n m e f = rw (e, f) refl

get_or-pushed : (xs : List (List ℕ)) (x : List ℕ) (k : ℕ) → k < length xs
    → get_or (xs ++ x ∷ []) k [] ≡ get_or xs k []
get_or-pushed [] x k lt = absurd (omega arith)
get_or-pushed (y ∷ ys) x zero lt = refl
get_or-pushed (y ∷ ys) x (suc k) lt = get_or-pushed ys x k (omega arith)

get_or-last : (xs : List (List ℕ)) (x : List ℕ) → get_or (xs ++ x ∷ []) (length xs) [] ≡ x
get_or-last [] x = refl
get_or-last (y ∷ ys) x = get_or-last ys x

none_past : (number size : ℕ) (changed : Changes) (o : Option (List ℕ)) → Fit number size changed
    → changed number ≡ o → changed number ≡ None
none_past number size changed None f e = e
none_past number size changed (Some bytes) f e = absurd (let b = (f number bytes e).0 in omega (arith, b))

-- one interval more
pub extended : (changed : Changes) (old new : List (List ℕ)) (number more size : ℕ) (bytes : List ℕ)
    → Fit number size changed → length old ≡ number → more ≡ number + 1 → new ≡ old ++ bytes ∷ []
    → overlaid more changed new ≡ overlaid number changed old ++ bytes ∷ []
extended changed old new number more size bytes fit n m e =
    let one : more ≡ suc number = omega (arith, m) in
    let none : changed number ≡ None = none_past number size changed (changed number) fit refl in
    let here : get_or new number [] ≡ bytes = ap (λ xs. get_or xs number []) e
    ∙ ap (λ k. get_or (old ++ bytes ∷ []) k []) (sym n) ∙ get_or-last old bytes in
    let last : bytes_of changed new number ≡ bytes = rw none here in
    let first = listed_same number (bytes_of changed new) (bytes_of changed old)
    (λ k lt. ap (λ xs. held_or (changed k) (get_or xs k [])) e
    ∙ ap (held_or (changed k)) (get_or-pushed old bytes k (omega (arith, lt, n)))) in
    ap (λ k. listed k (bytes_of changed new)) one
    ∙ listed_more number (bytes_of changed new)
    ∙ ap (λ l. l ++ bytes_of changed new number ∷ []) first
    ∙ ap (λ b. listed number (bytes_of changed old) ++ b ∷ []) last

-- ---- what stays

pub front_same : (old new : List (List ℕ)) → new ≡ old → KeepsFront old new
front_same old new e ci bytes s = ap (λ xs. slice_get xs ci) e ∙ s

pub front_pushed : (old new : List (List ℕ)) (x : List ℕ) → new ≡ old ++ x ∷ [] → KeepsFront old new
front_pushed old new x e ci bytes s = ap (λ xs. slice_get xs ci) e ∙ pushed old ci s where
  pushed : (xs : List (List ℕ)) (k : ℕ) → slice_get xs k ≡ Some bytes → slice_get (xs ++ x ∷ []) k ≡ Some bytes
  pushed [] k f = absurd (cc)
  pushed (y ∷ ys) zero f = f
  pushed (y ∷ ys) (suc k) f = pushed ys k f

pub fit_more : (number more size : ℕ) (changed : Changes) → number ≤ more → Fit number size changed
    → Fit more size changed
fit_more number more size changed l f ci bytes e = let b = f ci bytes e in (omega (arith, b.0, l), b.1)

pub fit_put : (number size : ℕ) (before after : Changes) (ci : ℕ) (bytes : List ℕ) → Fit number size before
    → ci < number → length bytes ≡ size → after ci ≡ Some bytes → ((k : ℕ) → (k ≡ ci → ⊥) → after k ≡ before k)
    → Fit number size after
fit_put number size before after ci bytes f lt e is others k b h = elim (cases_eq k ci) [
  | inl s ↦
      let same : Some b ≡ Some bytes = sym h ∙ ap after s ∙ is in
      let eq : b ≡ bytes = cc in
      (omega (arith, s, lt), ap length eq ∙ e)
  | inr ne ↦ f k b (sym (others k ne) ∙ h)
]

pub read_put : (area : List (List ℕ)) (before after : Changes) (ci : ℕ) (bytes : List ℕ) → AreRead before area
    → slice_get area ci ≡ Some bytes → after ci ≡ Some bytes → ((k : ℕ) → (k ≡ ci → ⊥) → after k ≡ before k)
    → AreRead after area
read_put area before after ci bytes r s is others k b h = elim (cases_eq k ci) [
  | inl e ↦
      let same : Some b ≡ Some bytes = sym h ∙ ap after e ∙ is in
      let eq : b ≡ bytes = cc in
      ap (slice_get area) e ∙ s ∙ ap Some (sym eq)
  | inr ne ↦ r k b (sym (others k ne) ∙ h)
]

pub read_front : (old new : List (List ℕ)) (read : Changes) → KeepsFront old new → AreRead read old → AreRead read new
read_front old new read f r ci bytes e = f ci bytes (r ci bytes e)

-- a call on what holds the area, and a change that is held
pub keeps_on : {I : Type 0} (told : I → Type 0) (intervals : I → List (List ℕ)) (number size faults : I → ℕ)
    (keeps : I → I → Type 0) (first now next : I) (first_size now_size next_size : ℕ)
    (first_changed changed after : Changes)
    → Keeps told intervals number size faults keeps first now first_size now_size first_changed changed
    → GoesOn told size faults keeps now next → number now ≤ number next
    → (told now → KeepsFront (intervals now) (intervals next)) → next_size ≡ now_size
    → (now_size ≡ size now → Fit (number now) now_size changed → Fit (number next) next_size after)
    → Keeps told intervals number size faults keeps first next first_size next_size first_changed after
keeps_on told intervals number size faults keeps first now next first_size now_size next_size first_changed changed
    after
    k g n f s h = record {
      area = record {
        tells = λ t. g.tells (k.area.tells t);
        same_size = g.same_size ∙ k.area.same_size;
        later = let a = k.area.later in let b = g.later in omega (arith, a, b);
        known = λ x y. g.known x (k.area.known x y);
      };
      no_fewer = let a = k.no_fewer in omega (arith, a, n);
      front = λ t ci bytes e. f (k.area.tells t) ci bytes (k.front t ci bytes e);
      same_size = s ∙ k.same_size;
      fit = λ e x. h (k.same_size ∙ e ∙ sym k.area.same_size) (k.fit e x);
    }

-- the same intervals, where there are no more
same_at : (old new : List (List ℕ)) → KeepsFront old new → (k : ℕ) → k < length old
    → get_or new k [] ≡ get_or old k []
same_at old new f k lt = get_or-slice new k (get_or old k []) (f k (get_or old k []) (slice-get_or old k lt))

lists_same : (old new : List (List ℕ)) → length new ≡ length old → ((k : ℕ) → k < length old → get_or new k [] ≡ get_or
    old k [])
    → new ≡ old
lists_same [] [] e f = refl
lists_same [] (y ∷ ys) e f = absurd (omega (arith, e))
lists_same (x ∷ xs) [] e f = absurd (omega (arith, e))
lists_same (x ∷ xs) (y ∷ ys) e f =
    let first = f 0 (omega arith) in
    let rest = lists_same xs ys (omega (arith, e)) (λ k lt. f (suc k) (omega arith)) in
    cc

pub front_whole : (old new : List (List ℕ)) → length new ≡ length old → KeepsFront old new → new ≡ old
front_whole old new e f = lists_same old new e (same_at old new f)

-- where nothing is changed, the area is as it stands
none_bytes : (changed : Changes) (area : List (List ℕ)) (k : ℕ) → changed k ≡ None → bytes_of changed area k ≡ get_or
    area k []
none_bytes changed area k e = rw e refl

listed-self : (xs : List (List ℕ)) → listed (length xs) (λ k. get_or xs k []) ≡ xs
listed-self [] = refl
listed-self (x ∷ xs) = ap (λ l. x ∷ l) (listed-self xs)

pub none_changed : (changed : Changes) (area : List (List ℕ)) (number : ℕ) → length area ≡ number
    → ((k : ℕ) → changed k ≡ None) → overlaid number changed area ≡ area
none_changed changed area number e none =
    listed_same number (bytes_of changed area) (λ k. get_or area k []) (λ k lt. none_bytes changed area k (none k))
    ∙ ap (λ n. listed n (λ k. get_or area k [])) (sym e) ∙ listed-self area

-- an interval that was read has the size of the area's
pub read_size : (number area_size : ℕ) (area : List (List ℕ)) (size : ℕ) (read changed : Changes) (ci : ℕ)
    (bytes : List ℕ) → IsToldHeld number area_size area size read changed → HaveSize area_size area
    → length area ≡ number → ci < number → read ci ≡ Some bytes → length bytes ≡ size
read_size number area_size area size read changed ci bytes told each n lt is =
    let here : get_or area ci [] ≡ bytes = get_or-slice area ci bytes (told.are_read ci bytes is) in
    ap length (sym here) ∙ each ci [] (omega (arith, lt, n)) ∙ sym told.same_size

-- what isn't an interval in the area isn't one under the changes
pub bad_area : (n ci : ℕ) (changed : Changes) (area : List (List ℕ)) → ci < n → length area ≡ n → changed ci ≡ None
    → IfSome (slice_get area ci) (λ b. ¬ IsInterval b)
    → IfSome (slice_get (overlaid n changed area) ci) (λ b. ¬ IsInterval b)
bad_area n ci changed area lt l none bad =
    let here : slice_get area ci ≡ Some (get_or area ci []) = slice-get_or area ci (omega (arith, lt, l)) in
    let none_there : ¬ IsInterval (get_or area ci []) = rw here at bad in
    got_bad n (bytes_of changed area) ci (get_or area ci []) lt (in_area changed area ci (get_or area ci []) none here)
    none_there

-- a look that changes nothing keeps what is told
pub told_look : (number area_size next_number next_size : ℕ) (area next : List (List ℕ)) (size : ℕ)
    (read changed : Changes) → next_number ≡ number → next_size ≡ area_size → next ≡ area
    → IsToldHeld number area_size area size read changed → IsToldHeld next_number next_size next size read changed
told_look number area_size next_number next_size area next size read changed e f h t = rw (e, f, h) t

pub told_read : (number area_size : ℕ) (area : List (List ℕ)) (size : ℕ) (before after changed : Changes) (ci : ℕ)
    (bytes : List ℕ) → IsToldHeld number area_size area size before changed → slice_get area ci ≡ Some bytes
    → after ci ≡ Some bytes → ((k : ℕ) → (k ≡ ci → ⊥) → after k ≡ before k)
    → IsToldHeld number area_size area size after changed
told_read number area_size area size before after changed ci bytes t s is others = record {
  same_size = t.same_size;
  are_read = read_put area before after ci bytes t.are_read s is others;
  fit = t.fit;
}

pub told_put : (number area_size : ℕ) (area : List (List ℕ)) (size : ℕ) (read before after : Changes) (ci : ℕ)
    (bytes : List ℕ) → IsToldHeld number area_size area size read before → ci < number → length bytes ≡ size
    → after ci ≡ Some bytes → ((k : ℕ) → (k ≡ ci → ⊥) → after k ≡ before k)
    → IsToldHeld number area_size area size read after
told_put number area_size area size read before after ci bytes t lt l is others = record {
  same_size = t.same_size;
  are_read = t.are_read;
  fit = fit_put number size before after ci bytes t.fit lt l is others;
}

pub told_more : (number area_size more next_size : ℕ) (area next : List (List ℕ)) (size : ℕ) (read changed : Changes)
    → number ≤ more → next_size ≡ area_size → KeepsFront area next
    → IsToldHeld number area_size area size read changed → IsToldHeld more next_size next size read changed
told_more number area_size more next_size area next size read changed l e f t = record {
  same_size = t.same_size ∙ sym e;
  are_read = read_front area next read f t.are_read;
  fit = fit_more number more size changed l t.fit;
}

pub goes_itself : {I : Type 0} (told : I → Type 0) (size faults : I → ℕ) (keeps : I → I → Type 0) (now : I)
    → GoesOn told size faults keeps now now
goes_itself told size faults keeps now = record {
  tells = λ t. t;
  same_size = refl;
  later = omega arith;
  known = λ first
      k. k;
}

-- ---- changes that are put

pub fit_same : (number size next_number next_size : ℕ) (changed : Changes) → next_number ≡ number → next_size ≡ size
    → Fit number size changed → Fit next_number next_size changed
fit_same number size next_number next_size changed e f h = rw (e, f) h

-- one change is taken out
pub fit_popped : (number size : ℕ) (before after : Changes) (ci : ℕ) → Fit number size before → after ci ≡ None
    → ((k : ℕ) → (k ≡ ci → ⊥) → after k ≡ before k) → Fit number size after
fit_popped number size before after ci f none others k bytes e = elim (cases_eq k ci) [
  | inl s ↦ let both : Some bytes ≡ None = sym e ∙ ap after s ∙ none in absurd (cc)
  | inr ne ↦ f k bytes (sym (others k ne) ∙ e)
]

get_or-set : (xs : List (List ℕ)) (i : ℕ) (x : List ℕ) → i < length xs → get_or (set xs i x) i [] ≡ x
get_or-set [] i x lt = absurd (omega arith)
get_or-set (y ∷ ys) zero x lt = refl
get_or-set (y ∷ ys) (suc i) x lt = get_or-set ys i x (omega arith)

get_or-unset : (xs : List (List ℕ)) (i : ℕ) (x : List ℕ) (k : ℕ) → (k ≡ i → ⊥) → get_or (set xs i x) k [] ≡ get_or xs k
    []
get_or-unset [] i x k ne = refl
get_or-unset (y ∷ ys) zero x zero ne = absurd (ne refl)
get_or-unset (y ∷ ys) zero x (suc k) ne = refl
get_or-unset (y ∷ ys) (suc i) x zero ne = refl
get_or-unset (y ∷ ys) (suc i) x (suc k) ne = get_or-unset ys i x k (λ e. ne (ap suc e))

-- and put: the changes that are left, over the new area, are those before, over the old one
pub popped : (number : ℕ) (before after : Changes) (old new : List (List ℕ)) (ci : ℕ) (bytes : List ℕ)
    → length old ≡ number → ci < number → before ci ≡ Some bytes → after ci ≡ None
    → ((k : ℕ) → (k ≡ ci → ⊥) → after k ≡ before k) → new ≡ set old ci bytes
    → overlaid number after new ≡ overlaid number before old
popped number before after old new ci bytes l lt was none others e =
    listed_same number (bytes_of after new) (bytes_of before old) (λ k b. elim (cases_eq k ci) [
      | inl s ↦
          let there : get_or new ci [] ≡ bytes = ap (λ xs. get_or xs ci []) e ∙ get_or-set old ci bytes (omega (
            arith,
            lt,
            l,
          )) in
          let left : bytes_of after new ci ≡ bytes = (none_bytes after new ci none) ∙ there in
          let right : bytes_of before old ci ≡ bytes = in_changed before old ci bytes was in
          ap (bytes_of after new) s ∙ left ∙ sym right ∙ ap (bytes_of before old) (sym s)
      | inr ne ↦
          ap (λ o. held_or o (get_or new k [])) (others k ne)
          ∙ ap (held_or (before k)) (ap (λ xs. get_or xs k []) e ∙ get_or-unset old ci bytes k ne)
    ])

-- ---- answers

pub unchanged_get : {X : Type 0} (m n : BTreeMap ℕ X) → IsUnchanged m n → (k : ℕ) → get nat_cmp n k ≡ get nat_cmp m k
unchanged_get m n e k = rw e refl

pub read_same : (area : List (List ℕ)) (before after : Changes) → ((k : ℕ) → after k ≡ before k) → AreRead before area
    → AreRead after area
read_same area before after e r k bytes h = r k bytes (sym (e k) ∙ h)

pub fit_again : (number size : ℕ) (before after : Changes) → ((k : ℕ) → after k ≡ before k) → Fit number size before
    → Fit number size after
fit_again number size before after e f k bytes h = f k bytes (sym (e k) ∙ h)

pub extended_ok : {E : Type 0} (r : Result ℕ E) (changed : Changes) (old new : List (List ℕ))
    (number more area_size size : ℕ) → OnOk r (new ≡ old ++ empty_bytes area_size 5 ∷ []) → OnOk r (more ≡ number + 1)
    → Fit number size changed → length old ≡ number → size ≡ area_size
    → OnOk r (overlaid more changed new ≡ overlaid number changed old ++ empty_bytes size 5 ∷ [])
extended_ok (Ok x) changed old new number more area_size size e m f l s =
    extended changed old new number more size (empty_bytes area_size 5) f l m e
    ∙ ap (λ k. overlaid number changed old ++ empty_bytes k 5 ∷ []) (sym s)
extended_ok (Err x) changed old new number more area_size size e m f l s = tt

pub not_fewer : {E : Type 0} (r : Result ℕ E) (number more : ℕ) → OnOk r (more ≡ number + 1)
    → OnErr r (more ≡ number) → number ≤ more
not_fewer (Ok x) number more e f = omega (arith, e)
not_fewer (Err x) number more e f = omega (arith, f)

pub front_extended : {E : Type 0} (r : Result ℕ E) (old new : List (List ℕ)) (bytes : List ℕ)
    → OnOk r (new ≡ old ++ bytes ∷ []) → OnErr r (new ≡ old) → KeepsFront old new
front_extended (Ok x) old new bytes e f = front_pushed old new bytes e
front_extended (Err x) old new bytes e f = front_same old new f

-- ---- a call that holds intervals, from its beginning to its end

pub fit_none : (number size : ℕ) (changed : Changes) → ((k : ℕ) → changed k ≡ None) → Fit number size changed
fit_none number size changed none ci bytes e = let both : Some bytes ≡ None = sym e ∙ none ci in absurd (cc)

pub none_read : (read : Changes) (area : List (List ℕ)) → ((k : ℕ) → read k ≡ None) → AreRead read area
none_read read area none ci bytes e = let both : Some bytes ≡ None = sym e ∙ none ci in absurd (cc)

pub begun_told : (number area_size : ℕ) (area : List (List ℕ)) (size : ℕ) (read changed : Changes) → size ≡ area_size
    → AreRead read area → ((k : ℕ) → changed k ≡ None) → IsToldHeld number area_size area size read changed
begun_told number area_size area size read changed e r none = record {
  same_size = e;
  are_read = r;
  fit = fit_none number size changed none;
}

-- what was done comes to stand in the area
pub on_settled : {A E : Type 0} (r : Result A E) (done : Result (Unit {0}) E) (area over : List (List ℕ))
    (P : List (List ℕ) → Type 0) → OnOk r (IsOk done) → OnOk r (area ≡ over) → OnOk done (P over) → OnOk r (P area)
on_settled (Ok x) (Ok y) area over P i e p = subst P (sym e) p
on_settled (Ok x) (Err f) area over P i e p = absurd (cc)
on_settled (Err f) done area over P i e p = tt

-- what is known of the area beneath
pub held_number : {I : Type 0} {told : I → Type 0} {intervals : I → List (List ℕ)} {number size faults : I → ℕ}
    {keeps : I → I → Type 0} {first now : I} {first_size now_size : ℕ} {first_changed changed : Changes}
    → Keeps told intervals number size faults keeps first now first_size now_size first_changed changed
    → first_size ≡ size first → ((k : ℕ) → first_changed k ≡ None) → Fit (number now) (size now) changed
held_number {number = number} {size = size} {first = first} {now = now} {first_size} {now_size} {first_changed}
    {changed} k e none =
    let s : now_size ≡ size now = k.same_size ∙ e ∙ sym k.area.same_size in
    subst (λ n. Fit (number now) n changed) s (k.fit e (fit_none (number first) first_size first_changed none))

pub held_same : {I : Type 0} {told : I → Type 0} {intervals : I → List (List ℕ)} {number size faults : I → ℕ}
    {keeps : I → I → Type 0} {first now : I} {first_size now_size : ℕ} {first_changed changed : Changes}
    → Keeps told intervals number size faults keeps first now first_size now_size first_changed changed
    → number now ≡ number first → ((x : I) → told x → length (intervals x) ≡ number x) → told first
    → intervals now ≡ intervals first
held_same {intervals = intervals} {first = first} {now = now} k e numbered t =
    front_whole (intervals first) (intervals now) (numbered now (k.area.tells t) ∙ e ∙ sym (numbered first t))
    (k.front t)
