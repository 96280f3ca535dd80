-- What is held is of the type shown last, behind every answered call.
use Rattle.std.proofs.Common.{◌≡◌, ℕ, zero, suc, ◌+◌, ◌<◌, List, [], ◌∷◌, length, Option, Some, None, refl, sym, ◌∙◌, ap, subst, Bool, true, false, not, ◌&&◌, ◌==◌, slice_get, slice_set, arith, ◌⊎◌, inl, inr}
use Rattle.std.specs.Prelude.{codes, is_some, if◌then◌else◌, unwrap_or}
use Rattle.std.proofs.lemmas.Bool.{cases_eq}
use Rattle.fp_model.specs.declared.calls.Answer.{Answer}
use Rattle.fp_model.specs.declared.calls.Call.{Call}
use Rattle.fp_model.specs.declared.calls.Call.TheVariants as call
use Rattle.fp_model.specs.declared.calls.Deferred.TheVariants as deferred
use Rattle.fp_model.specs.declared.calls.Get.{Get}
use Rattle.fp_model.specs.declared.calls.Get.TheVariants as get
use Rattle.fp_model.specs.declared.calls.Ssa.{Ssa}
use Rattle.fp_model.specs.declared.database.Db.{Db}
use Rattle.fp_model.specs.declared.database.Msdb.{Msdb}
use Rattle.fp_model.specs.declared.database.Root.{Root}
use Rattle.fp_model.specs.declared.definitions.DedbDef.{DedbDef}
use Rattle.fp_model.specs.declared.definitions.Defs.{Defs}
use Rattle.fp_model.specs.declared.definitions.MsdbDef.{MsdbDef}
use Rattle.fp_model.specs.Answers.{Replied, answered, blank, lettered}
use Rattle.fp_model.specs.Calls.{Target, database_of, msdb_at, reply_on, reply_to, target_of}
use Rattle.fp_model.specs.DedbCalls as dedb
use Rattle.fp_model.specs.FitCalls.{IsTied, finds, shown_behind}
use Rattle.fp_model.specs.Fsas.{all_blank, fsas_in, list_on}
use Rattle.fp_model.specs.MsdbCalls as msdb
use Rattle.fp_model.specs.Order.{Edit, Occurrence, Place, Replaces, Step, is_sequential, key_in}
use Rattle.fp_model.specs.State.{key_of, segment_after, segment_of}
use Rattle.fp_model.specs.Texts.{same_text}
use Rattle.fp_model.specs.Workspace.{DedbPosition, Workspace, no_dedb_position}
use Rattle.state_laws.proofs.Keeping.{place_held}
use Rattle.state_laws.proofs.Targets.{IsTarget, is_dedb, is_msdb, is_nowhere, its_target}
use Rattle.std.proofs.lemmas.Option.{none-some, same_Some, slice_get_within}
use Rattle.plain_laws.proofs.Places.{get_other}

-- ---- main storage databases: no place changes

module _ (own : Workspace) (number : ℕ) (def : MsdbDef) where
  abbrev Stays : Replied → Type 0
  Stays r = r.own.dedbs ≡ own.dedbs

  either_stays : (b : Bool) (r q : Replied) → Stays r → Stays q → Stays (if b then r else q)
  either_stays true r q kr kq = kr
  either_stays false r q kr kq = kq

  found_stays : (status : List ℕ) (hold : Bool) (o : Option (List ℕ))
      → Stays (msdb.found_or def number status hold own o)
  found_stays status hold None = refl
  found_stays status hold (Some segment) = refl

  get_stays : (now visible : Msdb) (g : Get) (hold : Bool) (o : Option (List ℕ))
      → Stays (msdb.get_reply def number now visible own g hold o)
  get_stays now visible get.Unique false (Some key) = found_stays (codes "GE") false (segment_of def visible key)
  get_stays now visible get.Unique false None = found_stays (codes "GE") false (segment_after def visible None)
  get_stays now visible get.Unique true (Some key) = found_stays (codes "GE") true (segment_of def now key)
  get_stays now visible get.Unique true None = refl
  get_stays now visible get.Next false o =
      found_stays (codes "GB") false (segment_after def visible (msdb.position_of def number own).key)
  get_stays now visible get.Next true o = refl
  get_stays now visible get.NextInParent hold o = refl

  fld_stays : (key fsas : List ℕ) (o : Option (List ℕ)) → Stays (msdb.fld_reply def number own key fsas o)
  fld_stays key fsas None = refl
  fld_stays key fsas (Some segment) =
      let letters : List ℕ = (list_on def (fsas_in fsas) segment).letters in
      either_stays (all_blank letters)
      (msdb.queued def number own (lettered blank letters) (deferred.Fld number key fsas))
      (record { answer = lettered (codes "FE") letters; own = msdb.hold_ended def number own }) refl refl

  held_stays : (reply : List ℕ → Replied) (o : Option (List ℕ)) → ((key : List ℕ) → Stays (reply key))
      → Stays (msdb.if_held def number own reply o)
  held_stays reply None stays = refl
  held_stays reply (Some key) stays = stays key

  repl_stays : (bytes key : List ℕ) → Stays (msdb.repl_reply def number own bytes key)
  repl_stays bytes key = by (msdb.is_put_or_dropped def number own key) (same_text (key_of def.fields bytes) key)
    where
      by : (a b : Bool) → Stays (
          if a then msdb.refused def number own (codes "XP")
          else if b then msdb.queued def number own (answered blank) (deferred.Repl number bytes)
          else msdb.refused def number own (codes "DA")
          )
      by true b = refl
      by false true = refl
      by false false = refl

  isrt_stays : (now : Msdb) (bytes : List ℕ) → Stays (msdb.isrt_reply def number now own bytes)
  isrt_stays now bytes =
      by (not def.dynamic) (msdb.is_put_or_dropped def number own (key_of def.fields bytes))
      (is_some (segment_of def now (key_of def.fields bytes)))
    where
      by : (a b c : Bool) → Stays (
          if a then msdb.refused def number own (codes "AM")
          else if b then msdb.refused def number own (codes "XP")
          else if c then msdb.refused def number own (codes "II")
          else msdb.queued def number own (answered blank) (deferred.Isrt number bytes)
          )
      by true b c = refl
      by false true c = refl
      by false false true = refl
      by false false false = refl

  msdb_stays : (now visible : Msdb) (c : Call) → Stays (msdb.msdb_reply def number now visible own c)
  msdb_stays now visible (call.Get g hold n ssas) = get_stays now visible g hold (msdb.key_named ssas)
  msdb_stays now visible (call.Fld n key fsas) =
      either_stays (msdb.is_put_or_dropped def number own key) (msdb.refused def number own (codes "XP"))
      (msdb.fld_reply def number own key fsas (segment_of def visible key)) refl
      (fld_stays key fsas (segment_of def visible key))
  msdb_stays now visible (call.Isrt n ssas bytes) = isrt_stays now bytes
  msdb_stays now visible (call.Repl n bytes) =
      held_stays (msdb.repl_reply def number own bytes) (msdb.held_key def number own) (repl_stays bytes)
  msdb_stays now visible (call.Dlet n) =
      either_stays (not def.dynamic) (msdb.refused def number own (codes "AM"))
      (msdb.if_held def number own (msdb.dlet_reply def number own) (msdb.held_key def number own)) refl
      (held_stays (msdb.dlet_reply def number own) (msdb.held_key def number own)
      (λ key. either_stays (msdb.is_put_or_dropped def number own key) (msdb.refused def number own (codes "XP"))
      (msdb.queued def number own (answered blank) (deferred.Dlet number key)) refl refl))

-- ---- data entry databases: the place found, or none

-- the element that was set, or none where there is no such place
set_here : {X : Type 0} (xs : List X) (n : ℕ) (p d : X)
    → (unwrap_or (slice_get (slice_set xs n p) n) d ≡ p) ⊎ (unwrap_or (slice_get (slice_set xs n p) n) d ≡ d)
set_here [] n p d = inr refl
set_here (x ∷ xs) zero p d = inl refl
set_here (x ∷ xs) (suc n) p d = set_here xs n p d

module _ (own : Workspace) (number : ℕ) (def : DedbDef) where
  -- Behind an answered call: other places are as they were, and one that is held here was shown by the answer.
  record IsBehind (c : Call) (r : Replied) : Type 0 where
    others : (k : ℕ) → ¬ (k ≡ number) → slice_get r.own.dedbs k ≡ slice_get own.dedbs k
    here : (place : Place) → dedb.held_place def number r.own ≡ Some place
        → (finds c r.answer ≡ true) × (r.answer.segment ≡ dedb.type_of_path def number place.path)

  -- a position that was set
  position_held : (dedbs : List DedbPosition) (p : DedbPosition) (place : Place)
      → place_held (unwrap_or (slice_get (slice_set dedbs number p) number) no_dedb_position) ≡ Some place
      → place_held p ≡ Some place
  position_held dedbs p place e = elim (set_here dedbs number p no_dedb_position) [
    | inl is ↦ sym (ap place_held is) ∙ e
    | inr none ↦ absurd (none-some place (sym (ap place_held none) ∙ e))
  ]

  not_held : (p : DedbPosition) (place : Place) → p.held ≡ false → place_held p ≡ Some place → ⊥
  not_held p place is e =
      none-some place (sym (ap (λ b. if b then p.place else None) is) ∙ e)

  -- where a position that isn't held is set
  ended : (c : Call) (r : Replied) (p : DedbPosition) → r.own.dedbs ≡ slice_set own.dedbs number p → p.held ≡ false
      → IsBehind c r
  ended c r p is none = record {
    others = λ k other. ap (λ (ps : List DedbPosition). slice_get ps k) is ∙ get_other own.dedbs number k p other;
    here = λ place e. absurd (not_held p place none
        (position_held own.dedbs p place
        (sym (ap (λ (ps : List DedbPosition). place_held (unwrap_or (slice_get ps number) no_dedb_position)) is) ∙ e)));
  }

  either_behind : (c : Call) (b : Bool) (r q : Replied) → IsBehind c r → IsBehind c q → IsBehind c (if b then r else q)
  either_behind c true r q kr kq = kr
  either_behind c false r q kr kq = kq

  refused_behind : (c : Call) (status : List ℕ) → IsBehind c (dedb.refused def number own status)
  refused_behind c status =
      ended c (dedb.refused def number own status) (record (dedb.position_of def number own) { held = false }) refl refl

  found_behind : (g : Get) (hold : Bool) (n : ℕ) (ssas : List Ssa) (status : List ℕ) (o : Option (ℕ × Occurrence))
      → IsBehind (call.Get g hold n ssas) (dedb.found_or def number status g hold own o)
  found_behind g hold n ssas status None = refused_behind (call.Get g hold n ssas) status
  found_behind g hold n ssas status (Some found) =
      let place : Place = record { anchor = found.0; path = found.1.path } in
      let parent : Option Place = dedb.parent_after def number g (dedb.position_of def number own).parent place in
      let p : DedbPosition = record { place = Some place; parent = parent; held = hold } in
      record {
        others = λ k other. get_other own.dedbs number k p other;
        here = λ other e. (
          refl,
          ap (λ (q : Place). dedb.type_of_path def number q.path)
              (held hold place other (position_held own.dedbs p other e)),
        );
      }
    where
      held : (b : Bool) (place other : Place) → (if b then Some place else None) ≡ Some other → place ≡ other
      held true place other e = same_Some place other e
      held false place other e = absurd (none-some other e)

  module _ (db : Db) where
    get_behind : (g : Get) (hold : Bool) (n : ℕ) (ssas : List Ssa)
        → IsBehind (call.Get g hold n ssas) (dedb.get_reply def number db own g hold ssas)
    get_behind g hold n ssas = by (not (dedb.are_get_arguments def number ssas)) (dedb.lacks_parent def number own g)
      where
        by : (a b : Bool) → IsBehind (call.Get g hold n ssas) (
            if a then dedb.refused def number own (codes "AM")
            else if b then dedb.refused def number own (codes "GP")
            else dedb.found_or def number (dedb.not_found def number g ssas) g hold own
            (dedb.first_found (dedb.look_at def number db own g ssas)
            (dedb.anchors_searched def number (dedb.position_of def number own) g (dedb.root_named def number ssas)))
            )
        by true b = refused_behind (call.Get g hold n ssas) (codes "AM")
        by false true = refused_behind (call.Get g hold n ssas) (codes "GP")
        by false false = found_behind g hold n ssas (dedb.not_found def number g ssas) _

    isrt_at_behind : (c : Call) (roots : List Root) (type : ℕ) (path : List Step) (bytes : List ℕ)
        → IsBehind c (dedb.isrt_at def number roots own type path bytes)
    isrt_at_behind c roots type path bytes =
        by (not (dedb.stands_at def number roots (dedb.parents_in path))) (is_sequential def.segments type)
        (dedb.stands_at def number roots path)
      where
        by : (a b d : Bool) → IsBehind c (
            if a then dedb.refused def number own (codes "GE")
            else if b then dedb.queued_insert def number own path bytes
            else if d then dedb.refused def number own (codes "II")
            else dedb.inserted def number roots own path bytes
            )
        by true b d = refused_behind c (codes "GE")
        by false true d =
            ended c (dedb.queued_insert def number own path bytes)
            (record (dedb.position_of def number own) { held = false }) refl refl
        by false false true = refused_behind c (codes "II")
        by false false false = ended c (dedb.inserted def number roots own path bytes) _ refl refl

    isrt_behind : (c : Call) (ssas : List Ssa) (bytes : List ℕ)
        → IsBehind c (dedb.isrt_reply def number db own ssas bytes)
    isrt_behind c ssas bytes =
        either_behind c (dedb.are_insert_arguments def number ssas) _ (dedb.refused def number own (codes "AM"))
        (isrt_at_behind c _ (dedb.type_of_last def number ssas) (dedb.insert_path def number ssas bytes) bytes)
        (refused_behind c (codes "AM"))

    edit_behind : (c : Call) (place : Place) (edit : Edit)
        → IsBehind c (record { answer = answered blank; own = dedb.edit_at def number db own place edit })
    edit_behind c place edit =
        ended c (record { answer = answered blank; own = dedb.edit_at def number db own place edit })
        (record (dedb.position_of def number own) { held = false }) refl refl

    repl_behind : (c : Call) (bytes : List ℕ) (o : Option Place)
        → IsBehind c (dedb.repl_reply def number db own bytes o)
    repl_behind c bytes None = refused_behind c (codes "DJ")
    repl_behind c bytes (Some place) =
        by (is_sequential def.segments (dedb.type_of_path def number place.path)) (same_text
        (key_in def.segments (dedb.type_of_path def number place.path) bytes) (dedb.key_of_path def number place.path))
      where
        by : (a b : Bool) → IsBehind c (
            if a then dedb.refused def number own (codes "AM")
            else if b
            then record { answer = answered blank; own = dedb.edit_at def number db own place (Replaces bytes) }
            else dedb.refused def number own (codes "DA")
            )
        by true b = refused_behind c (codes "AM")
        by false true = edit_behind c place (Replaces bytes)
        by false false = refused_behind c (codes "DA")

    -- the parent is forgotten too
    deleted_behind : (c : Call) (place : Place)
        → IsBehind c (record { answer = answered blank; own = dedb.deleted def number db own place })
    deleted_behind c place =
        let first : DedbPosition = record (dedb.position_of def number own) { held = false } in
        let after : List DedbPosition = slice_set own.dedbs number first in
        let p : DedbPosition = record (unwrap_or (slice_get after number) no_dedb_position) { parent = None } in
        record {
          others = λ k other. get_other after number k p other ∙ get_other own.dedbs number k first other;
          here = λ q e. absurd (not_held p q (was_ended own.dedbs) (position_held after p q e));
        }
      where
        was_ended : (dedbs : List DedbPosition)
            → (unwrap_or (slice_get (slice_set dedbs number (record (dedb.position_of def number own) { held = false }))
            number) no_dedb_position).held ≡ false
        was_ended dedbs = elim
            (set_here dedbs number (record (dedb.position_of def number own) { held = false }) no_dedb_position) [
              | inl is ↦ ap (λ (p : DedbPosition). p.held) is
              | inr none ↦ ap (λ (p : DedbPosition). p.held) none
            ]

    dlet_behind : (c : Call) (o : Option Place) → IsBehind c (dedb.dlet_reply def number db own o)
    dlet_behind c None = refused_behind c (codes "DJ")
    dlet_behind c (Some place) =
        either_behind c (is_sequential def.segments (dedb.type_of_path def number place.path))
        (dedb.refused def number own (codes "AM"))
        (record { answer = answered blank; own = dedb.deleted def number db own place })
        (refused_behind c (codes "AM")) (deleted_behind c place)

    dedb_behind : (c : Call) → IsBehind c (dedb.dedb_reply def number db own c)
    dedb_behind (call.Get g hold n ssas) = get_behind g hold n ssas
    dedb_behind (call.Fld n key fsas) = refused_behind (call.Fld n key fsas) (codes "AM")
    dedb_behind (call.Isrt n ssas bytes) = isrt_behind (call.Isrt n ssas bytes) ssas bytes
    dedb_behind (call.Repl n bytes) = repl_behind (call.Repl n bytes) bytes (dedb.held_place def number own)
    dedb_behind (call.Dlet n) = dlet_behind (call.Dlet n) (dedb.held_place def number own)

-- ---- what is shown

module _ (defs : Defs) (now visible : Db) (shown : ℕ → Option ℕ) (own : Workspace) (c : Call)
    (tied : IsTied defs shown own) where
  -- what was shown of other databases stays
  shown_elsewhere : (answer : Answer) (n : ℕ) → ¬ (database_of c ≡ n) → shown_behind c answer shown n ≡ shown n
  shown_elsewhere answer n other = by (finds c answer) (database_of c == n) refl
    where
      number_is : (a b : ℕ) → (a == b) ≡ true → a ≡ b
      number_is a b e = grind arith

      by : (a b : Bool) → (database_of c == n) ≡ b → (if a && b then Some answer.segment else shown n) ≡ shown n
      by true true e = absurd (other (number_is (database_of c) n e))
      by true false e = refl
      by false b e = refl

  -- what is found is shown
  shown_here : (answer : Answer) (n : ℕ) → database_of c ≡ n → finds c answer ≡ true
      → shown_behind c answer shown n ≡ Some answer.segment
  shown_here answer n here found = rw found (rw (is_number (database_of c) n here) refl)
    where
      is_number : (a b : ℕ) → a ≡ b → (a == b) ≡ true
      is_number a b e = grind arith

  -- a call that goes nowhere finds nothing
  finds_nothing : (c : Call) → finds c (answered (codes "AM")) ≡ false
  finds_nothing (call.Get g hold n ssas) = refl
  finds_nothing (call.Fld n key fsas) = refl
  finds_nothing (call.Isrt n ssas bytes) = refl
  finds_nothing (call.Repl n bytes) = refl
  finds_nothing (call.Dlet n) = refl

  -- a place that is held is of the type shown there last
  abbrev IsTiedAt : Replied → ℕ → DedbDef → Place → Type 0
  IsTiedAt r n def place = dedb.held_place def n r.own ≡ Some place
      → shown_behind c r.answer shown (length defs.msdbs + n) ≡ Some (dedb.type_of_path def n place.path)

  msdb_tied : (r : Replied) → database_of c < length defs.msdbs → r.own.dedbs ≡ own.dedbs → (n : ℕ) (def : DedbDef)
      → (place : Place) → slice_get defs.dedbs n ≡ Some def → IsTiedAt r n def place
  msdb_tied r low same n def place defined held =
      let was : dedb.held_place def n own ≡ Some place =
      sym (ap (λ (ps : List DedbPosition). place_held (unwrap_or (slice_get ps n) no_dedb_position)) same) ∙ held in
      shown_elsewhere r.answer (length defs.msdbs + n) (λ e. absurd (omega (arith, e, low)))
      ∙ tied n def place defined was

  dedb_tied : (r : Replied) (number : ℕ) (its : DedbDef) → database_of c ≡ length defs.msdbs + number
      → IsBehind own number its c r → (n : ℕ) (def : DedbDef) (place : Place) → slice_get defs.dedbs n ≡ Some def
      → IsTiedAt r n def place
  dedb_tied r number its is b n def place defined held = elim (cases_eq n number) [
    | inl same ↦
        let here = b.here place
        (subst (λ (k : ℕ). dedb.held_place def k r.own ≡ Some place) same held) in
        shown_here r.answer (length defs.msdbs + n) (omega (arith, is, same)) here.0 ∙ ap (λ (t : ℕ). Some t) here.1
    | inr other ↦
        let was : dedb.held_place def n own ≡ Some place =
        sym (ap (λ (o : Option DedbPosition). place_held (unwrap_or o no_dedb_position)) (b.others n other)) ∙ held in
        shown_elsewhere r.answer (length defs.msdbs + n) (λ e. other (apart n number is e))
        ∙ tied n def place defined was
  ]
    where
      apart : (n number : ℕ) → database_of c ≡ length defs.msdbs + number → database_of c ≡ length defs.msdbs + n
          → n ≡ number
      apart n number is e = omega (arith, is, e)

  target_tied : (t : Target) → IsTarget defs (database_of c) t
      → IsTied defs (shown_behind c (reply_on t now visible own c).answer shown) (reply_on t now visible own c).own
  target_tied t (is_msdb def at) n its place defined held =
      let number : ℕ = database_of c in
      msdb_tied (msdb.msdb_reply def number (msdb_at now number) (msdb_at visible number) own c)
      (slice_get_within defs.msdbs number def at) (msdb_stays own number def (msdb_at now number) (msdb_at visible number) c) n
      its place defined held
  target_tied t (is_dedb def number at is) n its place defined held =
      dedb_tied (dedb.dedb_reply def number now own c) number def is (dedb_behind own number def now c) n its place
      defined held
  target_tied t is_nowhere n its place defined held =
      ap (λ b. if b && database_of c == length defs.msdbs + n then Some 0 else shown (length defs.msdbs + n))
      (finds_nothing c) ∙ tied n its place defined held

  pub answer_tied : IsTied defs (shown_behind c (reply_to defs now visible own c).answer shown)
      (reply_to defs now visible own c).own
  unfolding reply_to
  answer_tied = target_tied (target_of defs (database_of c)) (its_target defs (database_of c))
