-- Gets: what the search over the anchors that are held says of the answer.
use Rattle.std.proofs.Common.{◌≡◌, ℕ, List, [], ◌∷◌, Option, ◌<◌, ◌≤◌, arith, Some, None, refl, sym, ◌∙◌, ap, subst, Bool, true, false, not, ◌||◌}
use Rattle.std.proofs.lemmas.Bool.Decides.{nat_tests}
use Rattle.std.specs.Prelude.{codes, nat_lt, if◌then◌else◌, option_map}
use Rattle.fp_model.specs.declared.calls.Get.{Get}
use Rattle.fp_model.specs.declared.calls.Get.TheVariants as get
use Rattle.fp_model.specs.declared.calls.Mode.{Mode}
use Rattle.fp_model.specs.declared.calls.Resource.{Resource}
use Rattle.fp_model.specs.declared.calls.Resource.TheVariants.{Anchor}
use Rattle.fp_model.specs.declared.calls.Ssa.{Ssa}
use Rattle.fp_model.specs.declared.database.Db.{Db}
use Rattle.fp_model.specs.declared.definitions.DedbDef.{DedbDef}
use Rattle.fp_model.specs.declared.definitions.SegDef.{SegDef}
use Rattle.fp_model.specs.Answers.{Needed, Replied, answered, serves, showing}
use Rattle.fp_model.specs.DedbCalls as dedb
use Rattle.fp_model.specs.Order.{Occurrence, Place, first_admitted, sequence}
use Rattle.fp_model.specs.Shape.{has_length}
use Rattle.fp_model.specs.Workspace.{Workspace}
use Rattle.state_laws.specs.Workspaces.{FitsPlace}
use Rattle.state_laws.proofs.DedbReplies.{found_at}
use Rattle.state_laws.proofs.Lists.{found_has}
use Rattle.state_laws.proofs.Sequences.{IsSegment}
use Rattle.dedb_calls.specs.Anchors.{Ascend, Sees, held_at}
use Rattle.dedb_calls.specs.inside.Calls.{is_locked, lacks_parent_at, place_found, refusal_of}
use Rattle.dedb_calls.specs.Progress.{DedbProgress, FitsDedb, Knows, position_in, with_progress}
use Rattle.dedb_calls.specs.inside.Progress.{roots_in, with_position_at}
use Rattle.dedb_calls.specs.Readiness.{ComesTo}
use Rattle.dedb_calls.specs.inside.Searches.{HasLooked, found_there, look_in}
use Rattle.dedb_calls.specs.declared.anchors.HeldAnchor.{HeldAnchor}
use Rattle.dedb_calls.specs.declared.ready.DedbReady.{DedbReady}
use Rattle.dedb_calls.specs.declared.ready.DedbReady.TheVariants as ready
use Rattle.dedb_calls.specs.declared.search.Found.{Found}
use Rattle.dedb_calls.specs.declared.search.Looked.{Looked}
use Rattle.dedb_calls.specs.declared.search.Looked.TheVariants as looked
use Rattle.dedb_calls.proofs.SearchLemmas.{found_same, held_roots, unlocked_same}
use Rattle.dedb_calls.proofs.SeenLemmas.{all_segments, is_there, seen_roots, serves_some}
use Rattle.plain_laws.proofs.Numbers.{lt_false, lt_true}

-- ---- the anchors of GN with the root's key

pub next_none : (a k at p : ℕ) → a ≡ k → at ≡ p → a < at → [] ≡ (if nat_lt k p then [] else k ∷ [])
next_none a k at p same there less =
    let e : nat_lt k p ≡ true = lt_true k p (omega (arith, same, there, less)) in
    sym (ap (λ b. if b then [] else k ∷ []) e)

pub next_one : (l : List ℕ) (a k at p : ℕ) → a ≡ k → at ≡ p → at ≤ a → l ≡ a ∷ []
    → l ≡ (if nat_lt k p then [] else k ∷ [])
next_one l a k at p same there more is =
    let e : nat_lt k p ≡ false = lt_false k p (omega (arith, same, there, more)) in
    is ∙ ap (λ n. n ∷ []) same ∙ sym (ap (λ b. if b then [] else k ∷ []) e)

-- ---- what refuses a get

module _ (def : DedbDef) (number : ℕ) (work : DedbProgress) (g : Get) (ssas : List Ssa) where
  pub refused_args : false ≡ dedb.are_get_arguments def number ssas
      → Some (codes "AM") ≡ refusal_of def number work g ssas
  refused_args e = ap (λ b. if not b then Some (codes "AM")
      else if lacks_parent_at (position_in work number) g then Some (codes "GP") else None) e

  pub refused_parent : true ≡ dedb.are_get_arguments def number ssas → true ≡ lacks_parent_at (position_in work number)
      g
      → Some (codes "GP") ≡ refusal_of def number work g ssas
  refused_parent e f =
      ap (λ b. if b then Some (codes "GP") else None) f
      ∙ ap (λ b. if not b then Some (codes "AM")
      else if lacks_parent_at (position_in work number) g then Some (codes "GP") else None) e

  pub refused_nothing : true ≡ dedb.are_get_arguments def number ssas
      → false ≡ lacks_parent_at (position_in work number) g → None ≡ refusal_of def number work g ssas
  refused_nothing e f =
      ap (λ b. if b then Some (codes "GP") else None) f
      ∙ ap (λ b. if not b then Some (codes "AM")
      else if lacks_parent_at (position_in work number) g then Some (codes "GP") else None) e

-- ---- the same search under other names

pub renamed : (l : Looked) (held : ℕ → Option Mode) (types : List SegDef) (number : ℕ) (xs ys : List HeldAnchor)
    → (m m2 : Mode) (b b2 w w2 : Option Place) (s s2 : List Ssa) (n n2 : List ℕ)
    → xs ≡ ys → m ≡ m2 → b ≡ b2 → w ≡ w2 → s ≡ s2 → n ≡ n2
    → HasLooked l (λ a. serves (held a) m) (λ a. first_admitted types a (roots_in xs number a) b w s) n
    → HasLooked l (λ a. serves (held a) m2) (λ a. first_admitted types a (roots_in ys number a) b2 w2 s2) n2
renamed l held types number xs ys m m2 b b2 w w2 s s2 n n2 ex em eb ew es en h =
    subst (λ k. HasLooked l (λ a. serves (held a) m2) (λ a. first_admitted types a (roots_in ys number a) b2 w2 s2) k)
    en
    (subst (λ k. HasLooked l (λ a. serves (held a) m2) (λ a. first_admitted types a (roots_in ys number a) b2 w2 k) n)
    es
    (subst (λ k. HasLooked l (λ a. serves (held a) m2) (λ a. first_admitted types a (roots_in ys number a) b2 k s) n) ew
    (subst (λ k. HasLooked l (λ a. serves (held a) m2) (λ a. first_admitted types a (roots_in ys number a) k w s) n) eb
    (subst (λ k. HasLooked l (λ a. serves (held a) k) (λ a. first_admitted types a (roots_in ys number a) b w s) n) em
    (subst (λ k. HasLooked l (λ a. serves (held a) m) (λ a. first_admitted types a (roots_in k number a) b w s) n) ex
    h)))))

-- ---- what it says

pub looked_is : (l l2 : Looked) (locked : ℕ → Bool) (look : ℕ → Option Occurrence) (n : List ℕ) → l ≡ l2
    → HasLooked l locked look n → HasLooked l2 locked look n
looked_is l l2 locked look n same h = subst (λ k. HasLooked k locked look n) same h

module _ (def : DedbDef) (number : ℕ) (held : Resource → Option Mode) (work : DedbProgress) (order : Ascend
    work.anchors)
    (known : Knows held work.anchors) (g : Get) (hold : Bool) (ssas : List Ssa) where
  abbrev lock : ℕ → Bool
  lock = is_locked held number (dedb.lock_of def number hold)

  abbrev anchors : List ℕ
  anchors = dedb.anchors_searched def number (position_in work number) g (dedb.root_named def number ssas)

  abbrev Needs : (Db → Workspace → Option Needed)
  Needs db own = dedb.get_need def number db own held g hold ssas

  abbrev Replies : (Db → Workspace → Replied)
  Replies db own = dedb.get_reply def number db own g hold ssas

  lacks_as : (db : Db) (own : Workspace) (h : Get)
      → dedb.lacks_parent def number (with_progress work own) h ≡ lacks_parent_at (position_in work number) h
  lacks_as db own get.Unique = refl
  lacks_as db own get.Next = refl
  lacks_as db own get.NextInParent = refl

  module _ (db : Db) (own : Workspace) (sees : Sees db work.anchors) where
    abbrev all : Workspace
    all = with_progress work own

    abbrev look : ℕ → Option Occurrence
    look = dedb.look_at def number db all g ssas

    same : (anchor : ℕ) → lock anchor ≡ true → look_in def number work g ssas anchor ≡ look anchor
    same anchor locked =
        let some = known number anchor (serves_some (held (Anchor number anchor)) (dedb.lock_of def number hold) locked)
        in
        let there = is_there (held_at work.anchors number anchor) some in
        let mine = held_roots work.anchors number anchor there.0 there.0.roots there.1 refl in
        let seen = seen_roots def number anchor db work own there.0 order sees there.1 in
        ap (λ roots. first_admitted def.segments anchor roots
        (dedb.begins_behind def number (position_in work number) g)
        (dedb.stays_below def number (position_in work number) g) ssas) (mine ∙ sym seen)

    unlocked_as : dedb.first_unlocked lock (look_in def number work g ssas) anchors
        ≡ dedb.first_unlocked lock look anchors
    unlocked_as = unlocked_same lock (look_in def number work g ssas) look same anchors

    found_as : dedb.first_unlocked lock (look_in def number work g ssas) anchors ≡ None
        → dedb.first_found (look_in def number work g ssas) anchors ≡ dedb.first_found look anchors
    found_as none = found_same lock (look_in def number work g ssas) look same anchors none

    abbrev wanted : Option Needed
    wanted = option_map (dedb.anchor_lock def number (dedb.lock_of def number hold))
        (dedb.first_unlocked lock look anchors)

    abbrev given : Replied
    given = dedb.found_or def number (dedb.not_found def number g ssas) g hold all (dedb.first_found look anchors)

    -- what is needed, and what is answered, by what refuses a get
    cases : (status : List ℕ) (a b : Bool)
        → (if not a then Some (codes "AM") else if b then Some (codes "GP") else None) ≡ Some status
        → (None ≡ (if not a || b then None else wanted))
        × ((if not a then dedb.refused def number all (codes "AM")
        else if b then dedb.refused def number all (codes "GP") else given) ≡ dedb.refused def number all status)
    cases status false b e = (refl, ap (dedb.refused def number all) (letters e))
      where
        letters : Some (codes "AM") ≡ Some status → codes "AM" ≡ status
        letters e = cc
    cases status true true e = (refl, ap (dedb.refused def number all) (letters e))
      where
        letters : Some (codes "GP") ≡ Some status → codes "GP" ≡ status
        letters e = cc
    cases status true false e = absurd (cc)

    free : (a b : Bool) → (if not a then Some (codes "AM") else if b then Some (codes "GP") else None) ≡ None
        → ((if not a || b then None else wanted) ≡ wanted)
        × ((if not a then dedb.refused def number all (codes "AM")
        else if b then dedb.refused def number all (codes "GP") else given) ≡ given)
    free false b e = absurd (cc)
    free true true e = absurd (cc)
    free true false e = (refl, refl)

    abbrev args : Bool
    args = dedb.are_get_arguments def number ssas

    abbrev lacks : Bool
    lacks = dedb.lacks_parent def number all g

    as_refusal : (o : Option (List ℕ)) → refusal_of def number work g ssas ≡ o
        → (if not args then Some (codes "AM") else if lacks then Some (codes "GP") else None) ≡ o
    as_refusal o e =
        ap (λ b. if not args then Some (codes "AM") else if b then Some (codes "GP") else None) (lacks_as db own g) ∙ e

    refused_here : (status : List ℕ) → refusal_of def number work g ssas ≡ Some status
        → (None ≡ Needs db all) × (Replies db all ≡ dedb.refused def number all status)
    refused_here status e = cases status args lacks (as_refusal (Some status) e)

    free_here : refusal_of def number work g ssas ≡ None → (Needs db all ≡ wanted) × (Replies db all ≡ given)
    free_here e = free args lacks (as_refusal None e)

  abbrev let_go : DedbProgress
  let_go = with_position_at number (record (position_in work number) { held = false }) work

  ends_as : (new new2 : DedbProgress) (came came2 : DedbReady) → new ≡ new2 → came ≡ came2
      → ComesTo number Needs Replies work new2 came2 → ComesTo number Needs Replies work new came
  ends_as new new2 came came2 same answered_so h =
      subst (λ (w : DedbProgress). ComesTo number Needs Replies work w came) (sym same)
      (subst (λ (r : DedbReady). ComesTo number Needs Replies work new2 r) (sym answered_so) h)

  -- it is refused
  pub comes_refused : (status : List ℕ) (new : DedbProgress) (came : DedbReady)
      → refusal_of def number work g ssas ≡ Some status → new ≡ let_go → came ≡ ready.Answer (answered status)
      → ComesTo number Needs Replies work new came
  comes_refused status new came e new_is came_is =
      ends_as new let_go came (ready.Answer (answered status)) new_is came_is (record {
        need = λ db own sees. (refused_here db own sees status e).0;
        answer = λ db own sees. (refused_here db own sees status e).1;
      })

  -- it needs a lock
  pub comes_unlocked : (anchor : ℕ) (mode : Mode) → refusal_of def number work g ssas ≡ None
      → mode ≡ dedb.lock_of def number hold
      → HasLooked (looked.Unlocked anchor) lock (look_in def number work g ssas) anchors
      → ComesTo number Needs Replies work work (ready.Need anchor mode)
  comes_unlocked anchor mode e mode_is h =
      ends_as work work (ready.Need anchor mode) (ready.Need anchor (dedb.lock_of def number hold)) refl
      (ap (λ m. ready.Need anchor m) mode_is) (record {
        need = λ db own sees.
            sym ((free_here db own sees e).0
            ∙ ap (option_map (dedb.anchor_lock def number (dedb.lock_of def number hold)))
            (sym (unlocked_as db own sees) ∙ h));
        answer = λ db own sees. tt;
      })

  -- it finds nothing
  pub comes_nothing : (status : List ℕ) (new : DedbProgress) (came : DedbReady)
      → refusal_of def number work g ssas ≡ None
      → status ≡ dedb.not_found def number g ssas → new ≡ let_go → came ≡ ready.Answer (answered status)
      → HasLooked looked.Nothing lock (look_in def number work g ssas) anchors
      → ComesTo number Needs Replies work new came
  comes_nothing status new came e status_is new_is came_is h =
      ends_as new let_go came (ready.Answer (answered (dedb.not_found def number g ssas))) new_is
      (came_is ∙ ap (λ s. ready.Answer (answered s)) status_is) (record {
        need = λ db own sees.
            sym ((free_here db own sees e).0
            ∙ ap (option_map (dedb.anchor_lock def number (dedb.lock_of def number hold)))
            (sym (unlocked_as db own sees) ∙ h.0));
        answer = λ db own sees.
            (free_here db own sees e).1
            ∙ ap (dedb.found_or def number (dedb.not_found def number g ssas) g hold (with_progress work own))
            (sym (found_as db own sees h.0) ∙ h.1);
      })

  abbrev pub moved : Found → DedbProgress
  moved found = with_position_at number (record {
    place = Some (place_found found);
    parent = dedb.parent_after def number g (position_in work number).parent (place_found found);
    held = hold;
  }) work

  -- it finds
  pub comes_found : (found : Found) (new : DedbProgress) (came : DedbReady) → refusal_of def number work g ssas ≡ None
      → new ≡ moved found
      → came ≡ ready.Answer (showing (dedb.type_of_path def number (found_there found).1.path)
      (found_there found).1.bytes)
      → HasLooked (looked.Found found) lock (look_in def number work g ssas) anchors
      → ComesTo number Needs Replies work new came
  comes_found found new came e new_is came_is h =
      ends_as new (moved found) came (ready.Answer (showing
      (dedb.type_of_path def number (found_there found).1.path) (found_there found).1.bytes)) new_is came_is (record {
        need = λ db own sees.
            sym ((free_here db own sees e).0
            ∙ ap (option_map (dedb.anchor_lock def number (dedb.lock_of def number hold)))
            (sym (unlocked_as db own sees) ∙ h.0));
        answer = λ db own sees.
            (free_here db own sees e).1
            ∙ ap (dedb.found_or def number (dedb.not_found def number g ssas) g hold (with_progress work own))
            (sym (found_as db own sees h.0) ∙ h.1);
      })

  -- what is found is a segment
  pub found_fits : (found : Found) → FitsDedb def number work
      → HasLooked (looked.Found found) lock (look_in def number work g ssas) anchors
      → FitsPlace def number (place_found found)
  found_fits found fits h =
      let at = found_at (look_in def number work g ssas) anchors (found_there found) h.1 in
      let segment = found_has (IsSegment def number) _
      (sequence def.segments (roots_in work.anchors number (found_there found).0)) (found_there found).1
      (all_segments def number work (found_there found).0 fits) at in
      record { begins = segment.begins; direct = segment.direct }

  pub found_long : (found : Found) → FitsDedb def number work
      → HasLooked (looked.Found found) lock (look_in def number work g ssas) anchors
      → has_length def.segments (dedb.type_of_path def number (found_there found).1.path) (found_there found).1.bytes
      ≡ true
  found_long found fits h =
      let at = found_at (look_in def number work g ssas) anchors (found_there found) h.1 in
      let segment = found_has (IsSegment def number) _
      (sequence def.segments (roots_in work.anchors number (found_there found).0)) (found_there found).1
      (all_segments def number work (found_there found).0 fits) at in
      segment.long

  pub held_found : (found : Found) (place : Place) → FitsPlace def number (place_found found)
      → (if hold then Some (place_found found) else None) ≡ Some place → FitsPlace def number place
  held_found found place fits e = by hold e
    where
      by : (b : Bool) → (if b then Some (place_found found) else None) ≡ Some place → FitsPlace def number place
      by true f = let same : place_found found ≡ place = cc in subst (FitsPlace def number) same fits
      by false f = absurd (cc)
