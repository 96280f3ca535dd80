-- The roots of an anchor, by the newest bytes of its area.
use Rattle.std.proofs.Common.{◌≡◌, inl, inr, ℕ, zero, suc, ◌+◌, ◌-◌, ◌*◌, ◌<◌, ◌≤◌, ◌^◌, true, false, List, length, refl, sym, ◌∙◌, ap, subst, arith}
use Rattle.std.specs.Prelude.{None, Some, Result, Ok, Err, IfOk, min, nat_lt, slice_get}
use Rattle.std.proofs.Math.Nat.{zero-min}
use Rattle.std.proofs.lemmas.Bool.{cases_Bool, cases_eq}
use Rattle.std.proofs.lemmas.Option.{slice_get_within}
use Rattle.std.proofs.lemmas.Bool.Decides.{nat_tests}
use Rattle.fp_site.specs.Disk.{Disk}
use Rattle.ci_overflow.specs.Lists.{bytes_at}
use Rattle.fp_model.specs.declared.database.Db.{Db}
use Rattle.fp_model.specs.declared.database.Root.{Root}
use Rattle.fp_model.specs.State.{first_area_set, roots_at}
use Rattle.ci_pool.specs.Held.{Held, newest_in}
use Rattle.held_intervals.specs.Holding.{Changes, listed}
use Rattle.held_intervals.proofs.Holds.{listed_same}
use Rattle.area_redo.specs.Redo.{AreaBytes, count_in}
use Rattle.area_redo.specs.Standing.{Way, behind}
use Rattle.area_states.specs.declared.place.Place.{Place}
use Rattle.area_states.specs.Databases.{AreFor, area_in, state_of}
use Rattle.area_states.specs.Places.{counted_by, has_anchor, layout_of, place_at, size_of}
use Rattle.area_states.specs.States.{HasAnchor, HasState}
use Rattle.area_states.proofs.Changing.{in_area}
use Rattle.area_states.proofs.StateLemmas.{one_anchor}
use Rattle.area_reading.proofs.Readable.{readable}
use Rattle.dedb_area.specs.Anchors.{AnchorIsAtHand, AreInTime, AreRootsOf, CountsIntervals, HasAnchorIn, IsAnchorOf, IsBegin, IsDamagedFor, IsFaulty, intervals_of, uncounted, unreadable}
use Rattle.dedb_area.specs.inside.Anchors.{ShowsArea, ShowsAreas}
use Rattle.dedb_area.specs.Control.{IsControl}
use Rattle.area_staging.specs.Looking.{LooksAt}
use Rattle.area_staging.specs.Staging.{AllAtHand, IsToldPool, KeepsStaging, staged_area, staged_or_newest}
use Rattle.dedb_area.specs.Standing.{AreasStand, Holding}
use Rattle.dedb_area.proofs.Newest.{reads_newest}
use Rattle.area_staging.proofs.Staged.{in_pool, newest_same}
use Rattle.area_laws.proofs.FullLemmas.{at_set}
use Rattle.plain_laws.proofs.Results.{if_ok_with}

-- ---- which area

-- an anchor's number within the area that has it
pub anchor_here : (places : List Place) (dedb anchor set : ℕ) (place : Place) → HasAnchorIn places dedb anchor set
    → place_at places set ≡ Some place → IsAnchorOf places dedb anchor set place (anchor - place.first_anchor)
anchor_here places dedb anchor set place here is =
    let both : Some here.place ≡ Some place = sym here.is.is_place ∙ is in
    let same : here.place ≡ place = cc in
    let has : has_anchor place dedb anchor ≡ true = subst (λ (p : Place). has_anchor p dedb anchor ≡ true) same
    here.is.lies.has in
    let within = in_area place dedb anchor has in
    let low = within.0 in
    record {
      is_place = is;
      lies = record { has = has; is_number = omega (arith, low); below = within.1 };
    }

-- the area of this number has it
pub found_here : (places : List Place) (dedb anchor number : ℕ) (place : Place)
    → place_at places (first_area_set + number) ≡ Some place → has_anchor place dedb anchor ≡ true
    → HasAnchorIn places dedb anchor (first_area_set + number)
found_here places dedb anchor number place is has =
    let within = in_area place dedb anchor has in
    let low = within.0 in
    record {
      place = place;
      number = anchor - place.first_anchor;
      is = record {
        is_place = is;
        lies = record { has = has; is_number = omega (arith, low); below = within.1 };
      };
    }

-- ---- the newest bytes of an area

-- what is counted by control begins with control
pub some_counted : (place : Place) (control : List ℕ) → 0 < counted_by (Some place) control
some_counted place control = omega arith

-- areas that stand show their newest bytes
pub shows : (way : Way) (bytes : AreaBytes) (disk : Disk) (areas : Holding) → AreasStand way bytes disk areas
    → ShowsAreas areas.places disk.contents areas.pool (behind way.unsealed bytes)
shows way bytes disk areas stands set place is =
    let newest = behind way.unsealed bytes in
    let layout = layout_of areas.places in
    let counts : count_in layout newest set ≡ counted_by (Some place) (newest set 0) =
    ap (λ o. counted_by o (newest set 0)) is in
    record {
      told = record { clean = stands.pool.clean; sizes = stands.fit.sizes set place is };
      newest = λ ci below.
          subst (λ n. newest_in areas.pool disk.contents set ci n ≡ newest set ci) (ap size_of is)
          (reads_newest layout way bytes disk areas.pool stands.pool set ci (omega (arith, below, counts)));
    }

-- the intervals of an area with nothing staged
pub nothing_staged : (place : Place) (set count : ℕ) (contents : ℕ → List ℕ) (pool : Held) (bytes : ℕ → List ℕ)
    (staged : Changes) → ShowsArea place set contents pool bytes → count ≡ counted_by (Some place) (bytes 0)
    → ((ci : ℕ) → staged ci ≡ None)
    → staged_area count staged pool contents set place.shape.ci ≡ intervals_of place bytes
nothing_staged place set count contents pool bytes staged shown is none =
    ap (λ n. listed n (staged_or_newest staged pool contents set place.shape.ci)) is
    ∙ listed_same (counted_by (Some place) (bytes 0)) (staged_or_newest staged pool contents set place.shape.ci) bytes
    (λ ci below. in_pool staged pool contents set place.shape.ci ci (none ci) ∙ shown.newest ci below)

module _ {S : Type 0} (told : S → Type 0) (disk : S → Disk) (faults holds : S → ℕ) (keeps : S → S → Type 0) where
  -- a look shows the same
  pub still_shown : (place : Place) (set : ℕ) (bytes : ℕ → List ℕ) (old new : S) (pool after : Held)
      → LooksAt told disk faults holds keeps set place.shape.ci old new pool after → told old
      → ShowsArea place set (disk old).contents pool bytes → ShowsArea place set (disk new).contents after bytes
  still_shown place set bytes old new pool after looks t shown = record {
    told = record {
      clean = looks.clean t shown.told.clean;
      sizes = looks.sizes set place.shape.ci (λ e. refl) shown.told.sizes;
    };
    newest = λ ci below.
        newest_same pool after (disk old).contents (disk new).contents set ci place.shape.ci looks.cells
        (looks.stays t).contents
        ∙ shown.newest ci below;
  }

-- what is known of staging, said of equal parts
pub kept_of_equals : {S : Type 0} (told : S → Type 0) (disk : S → Disk) (faults holds : S → ℕ) (keeps : S → S → Type 0)
    (tells_reads : S → ℕ → Type 0) (bytes_read : S → ℕ → ℕ) (set set2 size size2 first first2 count : ℕ) (old old2 new : S)
    (before before2 after : Held) (first_staged staged : Changes) → set ≡ set2 → size ≡ size2 → first ≡ first2 → old ≡ old2
    → before ≡ before2
    → KeepsStaging told disk faults holds keeps tells_reads bytes_read set size first count old new before after
    first_staged staged
    → KeepsStaging told disk faults holds keeps tells_reads bytes_read set2 size2 first2 count old2 new before2 after
    first_staged staged
kept_of_equals told disk faults holds keeps tells_reads bytes_read set set2 size size2 first first2 count old old2 new
    before before2 after first_staged staged e1 e2 e3 e4 e5 k =
    subst (λ x. KeepsStaging told disk faults holds keeps tells_reads bytes_read x size2 first2 count old2 new before2
    after first_staged staged) e1
    (subst (λ x. KeepsStaging told disk faults holds keeps tells_reads bytes_read set x first2 count old2 new before2
    after first_staged staged) e2
    (subst (λ x. KeepsStaging told disk faults holds keeps tells_reads bytes_read set size x count old2 new before2
    after first_staged staged) e3
    (subst (λ x. KeepsStaging told disk faults holds keeps tells_reads bytes_read set size first count x new before2
    after first_staged staged) e4
    (subst (λ x. KeepsStaging told disk faults holds keeps tells_reads bytes_read set size first count old new x
    after first_staged staged) e5 k))))

-- ---- the databases

-- the intervals that control counts
pub counted_area : (places : List Place) (bytes : AreaBytes) (set : ℕ) (place : Place) → place_at places set ≡ Some place
    → area_in (layout_of places) bytes set ≡ intervals_of place (bytes set)
counted_area places bytes set place is = ap (λ o. listed (counted_by o (bytes set 0)) (bytes set)) is

pub state_here : (places : List Place) (bytes : AreaBytes) (db : Db) (set : ℕ) (place : Place) → AreFor places bytes db
    → place_at places set ≡ Some place → HasState place (intervals_of place (bytes set)) (state_of place db)
state_here places bytes db set place are is =
    subst (λ area. HasState place area (state_of place db)) (counted_area places bytes set place is) (are set place is)

-- what an anchor has is what the databases have
pub roots_are : (places : List Place) (bytes : AreaBytes) (db : Db) (dedb anchor : ℕ) (roots : List Root)
    → AreFor places bytes db → AreRootsOf places bytes dedb anchor roots → roots ≡ roots_at db dedb anchor
roots_are places bytes db dedb anchor roots are is =
    let place = is.place in
    let state = state_here places bytes db is.set place are is.is.is_place in
    let same = one_anchor place (intervals_of place (bytes is.set)) is.number roots
    ((state_of place db).roots is.number) is.has (state.anchors is.number is.is.lies.below) in
    let here : place.dedb ≡ dedb = (let has = is.is.lies.has in grind (arith, nat_tests)) in
    let number : place.first_anchor + is.number ≡ anchor = sym is.is.lies.is_number in
    same ∙ ap (λ d. roots_at db d (place.first_anchor + is.number)) here ∙ ap (λ a. roots_at db dedb a) number

pub first_bytes : (n : ℕ) (f : ℕ → List ℕ) → 0 < n → bytes_at (listed n f) 0 ≡ f 0
first_bytes zero f some = absurd (omega (arith, some))
first_bytes (suc n) f some = refl

-- nothing is at fault where the bytes stand for databases
pub none_faulty : (places : List Place) (bytes : AreaBytes) (db : Db) (dedb anchor set at : ℕ) → AreFor places bytes db
    → AreInTime places bytes → IsDamagedFor places bytes dedb anchor set at → ⊥
none_faulty places bytes db dedb anchor set at are ends bad = by bad.faulty
  where
    state : HasState bad.place (intervals_of bad.place (bytes set)) (state_of bad.place db)
    state = state_here places bytes db set bad.place are bad.is.is_place

    first : bytes_at (intervals_of bad.place (bytes set)) 0 ≡ bytes set 0
    first = first_bytes (counted_by (Some bad.place) (bytes set 0)) (bytes set) (some_counted bad.place (bytes set 0))

    counts : CountsIntervals bad.place (bytes set 0)
    counts = record {
      is_control = subst IsControl first (record {
        is_interval = state.whole.control.is_control.is_interval;
        is_kind = state.whole.control.is_control.is_kind;
      });
      ends = ends set bad.place bad.is.is_place;
    }

    by : IsFaulty bad.place (bytes set) bad.number bad.ci → ⊥
    by (uncounted first none) = none counts
    by (unreadable fault) = readable bad.place (intervals_of bad.place (bytes set)) bad.number bad.ci
        (state_of bad.place db) state bad.is.lies.below fault

-- ---- a `Staging` with nothing staged

-- the intervals that it tells, said of equal parts
pub fresh_area : (place : Place) (set set2 size2 count count2 : ℕ) (contents contents2 : ℕ → List ℕ) (pool pool2 : Held)
    (staged : Changes) (bytes : ℕ → List ℕ) → set2 ≡ set → size2 ≡ place.shape.ci → count2 ≡ count
    → contents2 ≡ contents → pool2 ≡ pool → ((ci : ℕ) → staged ci ≡ None)
    → ShowsArea place set contents pool bytes → count ≡ counted_by (Some place) (bytes 0)
    → staged_area count2 staged pool2 contents2 set2 size2 ≡ intervals_of place bytes
fresh_area place set set2 size2 count count2 contents contents2 pool pool2 staged bytes e1 e2 e3 e4 e5 none shown is =
    let e : staged_area count2 staged pool2 contents2 set2 size2
    ≡ staged_area count staged pool contents set place.shape.ci = cc in
    e ∙ nothing_staged place set count contents pool bytes staged shown is none

-- and what it tells of the site and the pool
pub fresh_tells : {S : Type 0} (told : S → Type 0) (disk : S → Disk) (set set2 size size2 : ℕ) (site site2 : S)
    (pool pool2 : Held) → set2 ≡ set → size2 ≡ size → site2 ≡ site → pool2 ≡ pool → told site
    → IsToldPool set size (disk site).contents pool
    → told site2 × IsToldPool set2 size2 (disk site2).contents pool2
fresh_tells told disk set set2 size size2 site site2 pool pool2 e1 e2 e3 e4 t is = (
  subst told (sym e3) t,
  subst (λ x. IsToldPool x size2 (disk site2).contents pool2) (sym e1)
      (subst (λ x. IsToldPool set x (disk site2).contents pool2) (sym e2)
      (subst (λ x. IsToldPool set size (disk x).contents pool2) (sym e3)
      (subst (λ x. IsToldPool set size (disk site).contents x) (sym e4) is))),
)

-- ---- as a call on all areas answers

module _ (way : Way) (bytes : AreaBytes) (disk : Disk) (areas : Holding) (dedb anchor set : ℕ) (place : Place)
    (stands : AreasStand way bytes disk areas) (has : HasAnchorIn areas.places dedb anchor set)
    (is : place_at areas.places set ≡ Some place) where
  abbrev newest : ℕ → List ℕ
  newest = behind way.unsealed bytes set

  shown : ShowsArea place set disk.contents areas.pool newest
  shown = shows way bytes disk areas stands set place is

  here : IsAnchorOf areas.places dedb anchor set place (anchor - place.first_anchor)
  here = anchor_here areas.places dedb anchor set place has is

  pub roots_here : {E : Type 0} (r : Result (List Root) E)
      → ((b : ℕ → List ℕ) → ShowsArea place set disk.contents areas.pool b
      → IfOk r (HasAnchor place (intervals_of place b) (anchor - place.first_anchor)))
      → IfOk r (AreRootsOf areas.places (behind way.unsealed bytes) dedb anchor)
  roots_here r f =
      if_ok_with r (HasAnchor place (intervals_of place newest) (anchor - place.first_anchor))
      (AreRootsOf areas.places (behind way.unsealed bytes) dedb anchor) (f newest shown)
      (λ roots h. record { set = set; place = place; number = anchor - place.first_anchor; is = here; has = h })

  pub damage_here : (s at : ℕ) → s ≡ set
      → ((b : ℕ → List ℕ) → ShowsArea place set disk.contents areas.pool b
      → (ci : ℕ) × IsBegin place ci at × IsFaulty place b (anchor - place.first_anchor) ci)
      → IsDamagedFor areas.places (behind way.unsealed bytes) dedb anchor s at
  damage_here s at e f =
      let found = f newest shown in
      subst (λ n. IsDamagedFor areas.places (behind way.unsealed bytes) dedb anchor n at) (sym e) (record {
        place = place;
        number = anchor - place.first_anchor;
        ci = found.0;
        is = here;
        begins = found.1;
        faulty = found.2;
      })

  pub at_hand_here : (R : Type 0) → AnchorIsAtHand areas.places areas.pool (behind way.unsealed bytes) dedb anchor
      → ((b : ℕ → List ℕ) → ShowsArea place set disk.contents areas.pool b
      → AllAtHand areas.pool set (counted_by (Some place) (b 0)) → R)
      → R
  at_hand_here R all f = f newest shown (all set place (anchor - place.first_anchor) here)

-- ---- as the calls on one area answer

pub by_given : {T E F : Type 0} (r : Result T F) (read : Result T E) (P : T → Type 0) → IfOk r (λ x. read ≡ Ok x)
    → IfOk read P → IfOk r P
by_given (Ok x) read P same p = subst (λ z. IfOk z P) same p
by_given (Err e) read P same p = tt

-- control begins at the first byte
pub begin_first : (place : Place) (at : ℕ) → at ≡ 0 → IsBegin place 0 at
begin_first place at e =
    let none : 0 * place.shape.ci ≡ 0 = omega arith in
    e ∙ sym (zero-min (2 ^ 64 - 1)) ∙ ap (λ n. min n (2 ^ 64 - 1)) (sym none)

-- ---- a look along the areas

pub within_areas : (places : List Place) (set : ℕ) (place : Place) → place_at places set ≡ Some place
    → (first_area_set ≤ set) × (set - first_area_set < length places)
within_areas places set place is = elim (cases_Bool (nat_lt set first_area_set)) [
  | inl low ↦ let none : None ≡ Some place = rw low at is in cc
  | inr high ↦
      let here : slice_get places (set - first_area_set) ≡ Some place = rw high at is in
      let from : first_area_set ≤ set = grind (arith, nat_tests) in
      (from, slice_get_within places (set - first_area_set) place here)
]

pub area_from : (places : List Place) (dedb anchor set : ℕ) → HasAnchorIn places dedb anchor set
    → (first_area_set ≤ set) × (set - first_area_set < length places)
area_from places dedb anchor set has = within_areas places set has.place has.is.is_place

-- one that doesn't have it is passed
pub next_area : (places : List Place) (dedb anchor n : ℕ) (place : Place) → slice_get places n ≡ Some place
    → has_anchor place dedb anchor ≡ false
    → ((set : ℕ) → HasAnchorIn places dedb anchor set → first_area_set + n ≤ set)
    → (set : ℕ) → HasAnchorIn places dedb anchor set → first_area_set + (n + 1) ≤ set
next_area places dedb anchor n place is none before set has = elim (cases_eq set (first_area_set + n)) [
  | inl e ↦
      let there : place_at places set ≡ Some place = ap (place_at places) e ∙ at_set places n place is in
      let both : Some has.place ≡ Some place = sym has.is.is_place ∙ there in
      let same : has.place ≡ place = cc in
      let yes : has_anchor place dedb anchor ≡ true =
      subst (λ (p : Place). has_anchor p dedb anchor ≡ true) same has.is.lies.has in
      let clash : true ≡ false = sym yes ∙ none in
      cc
  | inr ne ↦ let le = before set has in omega (arith, le, ne)
]
