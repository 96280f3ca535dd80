-- The values of one key: those up to a place come first, and what one more makes of them.
use Rattle.std.proofs.Common.{◌≡◌, ℕ, zero, suc, ◌-◌, ◌<◌, ◌≤◌, List, [], ◌∷◌, ◌++◌, length, take, Option, Some, None, refl, sym, ◌∙◌, ap, subst, true, false, slice_get, slice_set, slice_index_or, arith}
use Rattle.std.specs.Prelude.{fold, if◌then◌else◌, nat_le, MatchOption}
use Rattle.std.specs.Option.{option_map_or}
use Rattle.std.specs.List.{AllByRecursion}
use Rattle.std.specs.List.Sorted.{IsPartitionedBy, IsPartitionPoint}
use Rattle.std.proofs.lemmas.Bool.{leb-true, leb-false, le-leb, lt-leb}
use Rattle.std.proofs.lemmas.List.Sums.{fold-append}
use Rattle.past_segments.specs.Times.{EndsBy, Rises, value_at}
use Rattle.past_segments.specs.inside.Times.{EndsBefore, reaches, value_before}
use Rattle.past_segments.specs.declared.slot.Version.{Version}
use Rattle.key_order.proofs.Ascending.{all_at, not_both, stands_there}
use Rattle.plain_laws.proofs.Places.{last_at}
use Rattle.plain_laws.proofs.Lists.{length_snoc}
use Rattle.std.proofs.lemmas.Option.{slice_get_within}

-- ---- up to a place

-- those from a place or before come first
pub partitioned : (p : ℕ) (vs : List Version) → Rises vs → IsPartitionedBy (λ v. nat_le v.from p) vs
partitioned p [] up i j d le within less = absurd (omega (arith, within))
partitioned p (v ∷ vs) up zero zero d le within less = less
partitioned p (v ∷ vs) up zero (suc j) d le within less =
    le-leb v.from p (omega (
      arith,
      all_at (λ (w : Version). v.from < w.from) vs j d up.0 (omega (arith, within)),
      leb-true (slice_index_or vs j d).from p less,
    ))
partitioned p (v ∷ vs) up (suc i) zero d le within less = absurd (omega (arith, le))
partitioned p (v ∷ vs) up (suc i) (suc j) d le within less =
    partitioned p vs up.1 i j d (omega (arith, le)) (omega (arith, within)) less

-- the value goes by the last of them
pub value_by : (p : ℕ) (value : Option (List ℕ)) (vs : List Version) (n : ℕ)
    → IsPartitionPoint (λ v. nat_le v.from p ≡ true) (λ v. nat_le v.from p ≡ false) vs n
    → fold (λ so_far v. if nat_le v.from p then v.segment else so_far) value vs ≡ value_before value vs n
value_by p value [] zero point = refl
value_by p value [] (suc n) point = refl
value_by p value (v ∷ vs) zero point =
    rw (point.1 0 v (omega (arith)) (omega (arith)))
    (value_by p value vs zero (
      λ i d low high. absurd (omega (arith, high)),
      λ i d low high. point.1 (suc i) d (omega (arith)) (omega (arith, high)),
    ))
value_by p value (v ∷ vs) (suc n) point =
    rw (point.0 0 v (omega (arith)) (omega (arith)))
    (value_by p v.segment vs n (
      λ i d low high. point.0 (suc i) d (omega (arith)) (omega (arith, high)),
      λ i d low high. point.1 (suc i) d (omega (arith, low)) (omega (arith, high)),
    ))

-- which stands there
pub before_is : (value : Option (List ℕ)) (vs : List Version) (n : ℕ) (d : Version) → n < length vs
    → value_before value vs (suc n) ≡ (slice_index_or vs n d).segment
before_is value [] n d within = absurd (omega (arith, within))
before_is value (v ∷ vs) zero d within = nothing_before v.segment vs
  where
    nothing_before : (value : Option (List ℕ)) (vs : List Version) → value_before value vs 0 ≡ value
    nothing_before value [] = refl
    nothing_before value (w ∷ ws) = refl
before_is value (v ∷ vs) (suc n) d within = before_is v.segment vs n d (omega (arith, within))

-- ---- one more

-- a list that isn't empty, cut before its last element
pub cut_last : {X : Type 0} (xs : List X) (n : ℕ) (x : X) → suc n ≡ length xs → slice_get xs n ≡ Some x
    → xs ≡ take n xs ++ x ∷ []
cut_last [] n x e at = cc
cut_last (y ∷ []) zero x e at = ap (λ z. z ∷ []) (some_is y x at)
  where
    some_is : {A : Type 0} (x y : A) → Some x ≡ Some y → x ≡ y
    some_is x y e = cc
cut_last (y ∷ z ∷ zs) zero x e at = absurd (omega (arith, e))
cut_last (y ∷ ys) (suc n) x e at = ap (λ zs. y ∷ zs) (cut_last ys n x (omega (arith, e)) at)

pub set_last : {X : Type 0} (xs : List X) (n : ℕ) (x : X) → suc n ≡ length xs → slice_set xs n x ≡ take n xs ++ x ∷ []
set_last [] n x e = absurd (omega (arith, e))
set_last (y ∷ []) zero x e = refl
set_last (y ∷ z ∷ zs) zero x e = absurd (omega (arith, e))
set_last (y ∷ ys) (suc n) x e = ap (λ zs. y ∷ zs) (set_last ys n x (omega (arith, e)))

-- the value with one more behind
pub value_last : (p : ℕ) (vs : List Version) (w : Version)
    → value_at p (vs ++ w ∷ []) ≡ (if nat_le w.from p then w.segment else value_at p vs)
value_last p vs w = fold-append (λ so_far (v : Version). if nat_le v.from p then v.segment else so_far) None vs (w ∷ [])

pub value_from : (p : ℕ) (vs : List Version) (w : Version) → w.from ≤ p → value_at p (vs ++ w ∷ []) ≡ w.segment
value_from p vs w le = value_last p vs w ∙ rw (le-leb w.from p le) refl

pub value_stays : (p : ℕ) (vs : List Version) (w : Version) → p < w.from → value_at p (vs ++ w ∷ []) ≡ value_at p vs
value_stays p vs w less = value_last p vs w ∙ rw (lt-leb w.from p less) refl

pub all_last : (P : Version → Type 0) (vs : List Version) (w : Version) → AllByRecursion P vs → P w
    → AllByRecursion P (vs ++ w ∷ [])
all_last P [] w all one = (one, tt)
all_last P (v ∷ vs) w all one = (all.0, all_last P vs w all.1 one)

pub all_front : (P : Version → Type 0) (vs : List Version) (w : Version) → AllByRecursion P (vs ++ w ∷ [])
    → AllByRecursion P vs × P w
all_front P [] w all = (tt, all.0)
all_front P (v ∷ vs) w all = let rest = all_front P vs w all.1 in ((all.0, rest.0), rest.1)

pub rises_last : (vs : List Version) (w : Version) → Rises vs → EndsBefore w.from vs → Rises (vs ++ w ∷ [])
rises_last [] w up before = (tt, tt)
rises_last (v ∷ vs) w up before =
    (all_last (λ (x : Version). v.from < x.from) vs w up.0 before.0, rises_last vs w up.1 before.1)

pub rises_front : (vs : List Version) (w : Version) → Rises (vs ++ w ∷ []) → Rises vs × EndsBefore w.from vs
rises_front [] w up = (tt, tt)
rises_front (v ∷ vs) w up =
    let here = all_front (λ (x : Version). v.from < x.from) vs w up.0 in
    let rest = rises_front vs w up.1 in
    ((here.0, rest.0), (here.1, rest.1))

-- all before an earlier place
pub ends_sooner : (p q : ℕ) (vs : List Version) → p ≤ q → EndsBefore p vs → EndsBefore q vs
ends_sooner p q [] le all = tt
ends_sooner p q (v ∷ vs) le all = (omega (arith, le, all.0), ends_sooner p q vs le all.1)

pub ends_by : (p : ℕ) (vs : List Version) → EndsBefore p vs → EndsBy p vs
ends_by p [] all = tt
ends_by p (v ∷ vs) all = (omega (arith, all.0), ends_by p vs all.1)

-- ---- the last one

module _ (vs : List Version) (n : ℕ) (x : Version) (whole : suc n ≡ length vs) (at : slice_get vs n ≡ Some x) where
  -- with another in its place
  pub over_from : (p : ℕ) (w : Version) → w.from ≤ p → value_at p (slice_set vs n w) ≡ w.segment
  over_from p w le = ap (value_at p) (set_last vs n w whole) ∙ value_from p (take n vs) w le

  pub over_before : (p : ℕ) (w : Version) → p < w.from → p < x.from → value_at p (slice_set vs n w) ≡ value_at p vs
  over_before p w less earlier =
      ap (value_at p) (set_last vs n w whole) ∙ value_stays p (take n vs) w less
      ∙ sym (ap (value_at p) (cut_last vs n x whole at) ∙ value_stays p (take n vs) x earlier)

  pub over_rises : (w : Version) → w.from ≡ x.from → Rises vs → Rises (slice_set vs n w)
  over_rises w same up =
      let cut = rises_front (take n vs) x (subst Rises (cut_last vs n x whole at) up) in
      subst Rises (sym (set_last vs n w whole))
      (rises_last (take n vs) w cut.0 (subst (λ p. EndsBefore p (take n vs)) (sym same) cut.1))

  pub over_ends : (place : ℕ) (w : Version) → w.from ≤ place → EndsBy place vs → EndsBy place (slice_set vs n w)
  over_ends place w le all =
      let cut = all_front (λ (v : Version). v.from ≤ place) (take n vs) x
      (subst (EndsBy place) (cut_last vs n x whole at) all) in
      subst (EndsBy place) (sym (set_last vs n w whole))
      (all_last (λ (v : Version). v.from ≤ place) (take n vs) w cut.0 le)

  pub last_ends : (place : ℕ) → EndsBy place vs → x.from ≤ place
  last_ends place all =
      (all_front (λ (v : Version). v.from ≤ place) (take n vs) x
      (subst (EndsBy place) (cut_last vs n x whole at) all)).1

  pub last_before : (place : ℕ) → Rises vs → x.from < place → EndsBefore place vs
  last_before place up less =
      let cut = rises_front (take n vs) x (subst Rises (cut_last vs n x whole at) up) in
      subst (EndsBefore place) (sym (cut_last vs n x whole at))
      (all_last (λ (v : Version). v.from < place) (take n vs) x
      (ends_sooner x.from place (take n vs) (omega (arith, less)) cut.1) less)

-- the last one tells whether the values reach a place
pub reaching : (place : ℕ) (vs : List Version) (m : ℕ) (x : Version) → m ≡ length vs → slice_get vs (m - 1) ≡ Some x
    → reaches place vs ≡ nat_le place x.from
reaching place vs m x is at = ap (λ o. option_map_or (λ (v : Version). nat_le place v.from) o false)
    (subst (λ k. slice_get vs (k - 1) ≡ Some x) is at)

pub reached : (place : ℕ) (vs : List Version) (m : ℕ) (x : Version) → m ≡ length vs → slice_get vs (m - 1) ≡ Some x
    → reaches place vs ≡ true → place ≤ x.from
reached place vs m x is at e = leb-true place x.from (sym (reaching place vs m x is at) ∙ e)

-- where they don't, all are before it
pub not_reached : (place : ℕ) (vs : List Version) → Rises vs → reaches place vs ≡ false → EndsBefore place vs
not_reached place [] up e = tt
not_reached place (v ∷ vs) up e =
    let x : Version = slice_index_or (v ∷ vs) (length vs) v in
    let at : slice_get (v ∷ vs) (length vs) ≡ Some x = stands_there (v ∷ vs) (length vs) v (omega (arith)) in
    let at_end : slice_get (v ∷ vs) (length (v ∷ vs) - 1) ≡ Some x =
    subst (λ k. slice_get (v ∷ vs) k ≡ Some x) (omega (arith)) at in
    last_before (v ∷ vs) (length vs) x refl at place up
    (leb-false place x.from (sym (reaching place (v ∷ vs) (length (v ∷ vs)) x refl at_end) ∙ e))

-- ---- without the last

-- what was taken from behind, where the values reached a place
pub popped : (place : ℕ) (r : Option Version) (old new : List Version)
    → MatchOption r ((old ≡ []) × (new ≡ [])) (λ last. old ≡ new ++ last ∷ []) → reaches place old ≡ true
    → (last : Version) × (old ≡ new ++ last ∷ []) × (place ≤ last.from)
popped place None old new gone e = absurd (not_both (sym e ∙ ap (reaches place) gone.0))
popped place (Some last) old new gone e = (
  last,
  gone,
  reached place (new ++ last ∷ []) (length (new ++ last ∷ [])) last
      refl (subst (λ k. slice_get (new ++ last ∷ []) k ≡ Some last) (omega (arith, length_snoc new last)) (last_at new last))
      (sym (ap (reaches place) gone) ∙ e),
)

-- what is put in the place of the last one, where the values reach a place and none is behind it
module _ (place : ℕ) (vs : List Version) (m : ℕ) (x : Version) (is : m ≡ length vs)
    (at : slice_get vs (m - 1) ≡ Some x) (e : reaches place vs ≡ true) (ends : EndsBy place vs) where
  whole : suc (m - 1) ≡ length vs
  whole = omega (arith, is, slice_get_within vs (m - 1) x at)

  same : x.from ≡ place
  same = omega (arith, reached place vs m x is at e, last_ends vs (m - 1) x whole at place ends)

  pub put_from : (segment : Option (List ℕ)) (p : ℕ) → place ≤ p
      → value_at p (slice_set vs (m - 1) (record { from = x.from; segment = segment })) ≡ segment
  put_from segment p le = over_from vs (m - 1) x whole at p (record { from = x.from; segment = segment })
      (omega (arith, le, same))

  pub put_before : (segment : Option (List ℕ)) (p : ℕ) → p < place
      → value_at p (slice_set vs (m - 1) (record { from = x.from; segment = segment })) ≡ value_at p vs
  put_before segment p less = over_before vs (m - 1) x whole at p (record { from = x.from; segment = segment })
      (omega (arith, less, same)) (omega (arith, less, same))

  pub put_rises : (segment : Option (List ℕ)) → Rises vs
      → Rises (slice_set vs (m - 1) (record { from = x.from; segment = segment }))
  put_rises segment up = over_rises vs (m - 1) x whole at (record { from = x.from; segment = segment }) refl up

  pub put_ends : (segment : Option (List ℕ))
      → EndsBy place (slice_set vs (m - 1) (record { from = x.from; segment = segment }))
  put_ends segment = over_ends vs (m - 1) x whole at place (record { from = x.from; segment = segment })
      (omega (arith, same)) ends
