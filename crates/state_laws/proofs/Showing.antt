-- The answer to a get that found shows a whole segment of its target.
use Rattle.std.proofs.Common.{◌≡◌, ℕ, List, [], length, Option, Some, None, refl, sym, ◌∙◌, subst, Bool, true, false, not, slice_get}
use Rattle.std.specs.Prelude.{codes, if◌then◌else◌, unwrap_or}
use Rattle.std.specs.List.{AllByRecursion, list_all}
use Rattle.fp_model.specs.declared.calls.Call.{Call}
use Rattle.fp_model.specs.declared.calls.Call.TheVariants as call
use Rattle.fp_model.specs.declared.calls.Get.{Get}
use Rattle.fp_model.specs.declared.calls.Get.TheVariants as get
use Rattle.fp_model.specs.declared.calls.Ssa.{Ssa}
use Rattle.fp_model.specs.declared.database.Db.{Db}
use Rattle.fp_model.specs.declared.database.Msdb.{Msdb}
use Rattle.fp_model.specs.declared.definitions.DedbDef.{DedbDef}
use Rattle.fp_model.specs.declared.definitions.Defs.{Defs}
use Rattle.fp_model.specs.declared.definitions.MsdbDef.{MsdbDef}
use Rattle.fp_model.specs.Answers.{Replied, answered}
use Rattle.fp_model.specs.Calls.{OnDedb, OnMsdb, Target, database_of, msdb_at, reply_on, reply_to, target_of}
use Rattle.fp_model.specs.CheckpointText.{IsMsdbOf}
use Rattle.fp_model.specs.DedbCalls as dedb
use Rattle.fp_model.specs.FitCalls.{FitsAnswerOf, finds}
use Rattle.fp_model.specs.MsdbCalls as msdb
use Rattle.fp_model.specs.Order.{Occurrence}
use Rattle.fp_model.specs.Shape.{IsDbOf}
use Rattle.fp_model.specs.State.{is_below, key_of, segment_after, segment_of}
use Rattle.fp_model.specs.Texts.{same_text, trimmed}
use Rattle.fp_model.specs.WellFormed.{AreDefs}
use Rattle.fp_model.specs.Workspace.{Workspace}
use Rattle.state_laws.specs.Workspaces.{FitsWorkspace}
use Rattle.state_laws.proofs.DedbReplies.{found_segment}
use Rattle.state_laws.proofs.Lists.{all_at, each_at, found_has, true_is_not_false}
use Rattle.state_laws.proofs.Purging.{partner}
use Rattle.state_laws.proofs.Sequences.{IsSegment}
use Rattle.state_laws.proofs.Targets.{IsTarget, is_dedb, is_msdb, is_nowhere, its_target}

-- ---- main storage databases

-- segments of a database, each as long as its definition says
abbrev AreLong : MsdbDef → Msdb → Type 0
AreLong def m = AllByRecursion (λ s. length s ≡ def.length) m.segments

module _ (own : Workspace) (number : ℕ) (def : MsdbDef) where
  abbrev Shows : Call → Replied → Type 0
  Shows c r = FitsAnswerOf (OnMsdb def number) c r.answer

  module _ (g : Get) (hold : Bool) (n : ℕ) (ssas : List Ssa) where
    abbrev asked : Call
    asked = call.Get g hold n ssas

    found_shows : (held : Bool) (o : Option (List ℕ)) → ((s : List ℕ) → o ≡ Some s → length s ≡ def.length)
        → Shows asked (msdb.found_or def number (codes "GE") held own o)
    found_shows held None whole e = absurd (true_is_not_false (sym e))
    found_shows held (Some s) whole e = record { root = refl; whole = whole s refl }

    next_shows : (held : Bool) (o : Option (List ℕ)) → ((s : List ℕ) → o ≡ Some s → length s ≡ def.length)
        → Shows asked (msdb.found_or def number (codes "GB") held own o)
    next_shows held None whole e = absurd (true_is_not_false (sym e))
    next_shows held (Some s) whole e = record { root = refl; whole = whole s refl }

    refused_shows : Shows asked (msdb.refused def number own (codes "AM"))
    refused_shows e = absurd (true_is_not_false (sym e))

  of_key : (m : Msdb) → AreLong def m → (key s : List ℕ) → segment_of def m key ≡ Some s → length s ≡ def.length
  of_key m long key s e =
      found_has (λ (s : List ℕ). length s ≡ def.length) (λ s. same_text (key_of def.fields s) key) m.segments s long e

  behind_key : (m : Msdb) → AreLong def m → (o : Option (List ℕ)) (s : List ℕ) → segment_after def m o ≡ Some s
      → length s ≡ def.length
  behind_key m long None s e = all_at (λ (s : List ℕ). length s ≡ def.length) m.segments 0 s long e
  behind_key m long (Some key) s e =
      found_has (λ (s : List ℕ). length s ≡ def.length) (λ s. is_below key (key_of def.fields s)) m.segments s long e

  get_shows : (now visible : Msdb) → AreLong def now → AreLong def visible
      → (g : Get) (hold : Bool) (n : ℕ) (ssas : List Ssa)
      → (o : Option (List ℕ)) → Shows (call.Get g hold n ssas) (msdb.get_reply def number now visible own g hold o)
  get_shows now visible a b get.Unique false n ssas (Some key) =
      found_shows get.Unique false n ssas false (segment_of def visible key) (of_key visible b key)
  get_shows now visible a b get.Unique false n ssas None =
      found_shows get.Unique false n ssas false (segment_after def visible None) (behind_key visible b None)
  get_shows now visible a b get.Unique true n ssas (Some key) =
      found_shows get.Unique true n ssas true (segment_of def now key) (of_key now a key)
  get_shows now visible a b get.Unique true n ssas None = refused_shows get.Unique true n ssas
  get_shows now visible a b get.Next false n ssas o =
      next_shows get.Next false n ssas false (segment_after def visible (msdb.position_of def number own).key)
      (behind_key visible b (msdb.position_of def number own).key)
  get_shows now visible a b get.Next true n ssas o = refused_shows get.Next true n ssas
  get_shows now visible a b get.NextInParent hold n ssas o = refused_shows get.NextInParent hold n ssas

  msdb_shows : (now visible : Msdb) → AreLong def now → AreLong def visible → (c : Call)
      → Shows c (msdb.msdb_reply def number now visible own c)
  msdb_shows now visible a b (call.Get g hold n ssas) e =
      get_shows now visible a b g hold n ssas (msdb.key_named ssas) e
  msdb_shows now visible a b (call.Fld n key fsas) e = absurd (true_is_not_false (sym e))
  msdb_shows now visible a b (call.Isrt n ssas bytes) e = absurd (true_is_not_false (sym e))
  msdb_shows now visible a b (call.Repl n bytes) e = absurd (true_is_not_false (sym e))
  msdb_shows now visible a b (call.Dlet n) e = absurd (true_is_not_false (sym e))

its_segments : (defs : Defs) (db : Db) (number : ℕ) (def : MsdbDef) → IsDbOf defs db
    → slice_get defs.msdbs number ≡ Some def → AreLong def (msdb_at db number)
its_segments defs db number def good at =
    let m = partner IsMsdbOf defs.msdbs db.msdbs number def good.msdbs at in
    let long = (each_at IsMsdbOf defs.msdbs db.msdbs number def m.0 good.msdbs at m.1).lengths in
    subst (λ (o : Option Msdb). AreLong def (unwrap_or o (record { segments = [] }))) (sym m.1) long

-- ---- data entry databases

module _ (defs : Defs) (db : Db) (are : AreDefs defs) (good : IsDbOf defs db) (own : Workspace)
    (f : FitsWorkspace defs db own) (number : ℕ) (def : DedbDef) (defined : slice_get defs.dedbs number ≡ Some def)
  where
    abbrev ShowsOf : Call → Replied → Type 0
    ShowsOf c r = FitsAnswerOf (OnDedb def number) c r.answer

    -- the letters where nothing is found aren't blank
    no_blank : (g : Get) (ssas : List Ssa) → same_text (trimmed (dedb.not_found def number g ssas)) [] ≡ false
    no_blank get.Unique ssas = refl
    no_blank get.Next ssas = by (list_all (λ (a : Ssa). not (dedb.is_qualified a)) ssas)
      where
        by : (b : Bool) → same_text (trimmed (if b then codes "GB" else codes "GE")) [] ≡ false
        by true = refl
        by false = refl
    no_blank get.NextInParent ssas = refl

    place_shows : (g : Get) (hold : Bool) (n : ℕ) (ssas : List Ssa) (o : Option (ℕ × Occurrence))
        → ((found : ℕ × Occurrence) → o ≡ Some found → IsSegment def number found.1)
        → ShowsOf (call.Get g hold n ssas) (dedb.found_or def number (dedb.not_found def number g ssas) g hold own o)
    place_shows g hold n ssas None segments e = absurd (true_is_not_false (sym e ∙ no_blank g ssas))
    place_shows g hold n ssas (Some found) segments e = (segments found refl).long

    dedb_get_shows : (g : Get) (hold : Bool) (n : ℕ) (ssas : List Ssa)
        → ShowsOf (call.Get g hold n ssas) (dedb.get_reply def number db own g hold ssas)
    dedb_get_shows g hold n ssas = by (not (dedb.are_get_arguments def number ssas))
        (dedb.lacks_parent def number own g)
      where
        by : (a b : Bool) → ShowsOf (call.Get g hold n ssas) (
            if a then dedb.refused def number own (codes "AM")
            else if b then dedb.refused def number own (codes "GP")
            else dedb.found_or def number (dedb.not_found def number g ssas) g hold own
            (dedb.first_found (dedb.look_at def number db own g ssas)
            (dedb.anchors_searched def number (dedb.position_of def number own) g (dedb.root_named def number ssas)))
            )
        by true b e = absurd (true_is_not_false (sym e))
        by false true e = absurd (true_is_not_false (sym e))
        by false false e =
            let anchors : List ℕ =
            dedb.anchors_searched def number (dedb.position_of def number own) g (dedb.root_named def number ssas) in
            place_shows g hold n ssas (dedb.first_found (dedb.look_at def number db own g ssas) anchors)
            (found_segment defs db are good own f number def defined g ssas anchors) e

    dedb_shows : (c : Call) → ShowsOf c (dedb.dedb_reply def number db own c)
    dedb_shows (call.Get g hold n ssas) e = dedb_get_shows g hold n ssas e
    dedb_shows (call.Fld n key fsas) e = absurd (true_is_not_false (sym e))
    dedb_shows (call.Isrt n ssas bytes) e = absurd (true_is_not_false (sym e))
    dedb_shows (call.Repl n bytes) e = absurd (true_is_not_false (sym e))
    dedb_shows (call.Dlet n) e = absurd (true_is_not_false (sym e))

-- ---- every target

module _ (defs : Defs) (now visible : Db) (own : Workspace) (c : Call) (are : AreDefs defs) (good : IsDbOf defs now)
    (good2 : IsDbOf defs visible) (f : FitsWorkspace defs now own) where
  finds_nothing : (c : Call) → finds c (answered (codes "AM")) ≡ false
  finds_nothing (call.Get g hold n ssas) = refl
  finds_nothing (call.Fld n key fsas) = refl
  finds_nothing (call.Isrt n ssas bytes) = refl
  finds_nothing (call.Repl n bytes) = refl
  finds_nothing (call.Dlet n) = refl

  target_shows : (t : Target) → IsTarget defs (database_of c) t
      → FitsAnswerOf t c (reply_on t now visible own c).answer
  target_shows t (is_msdb def at) e =
      let number : ℕ = database_of c in
      msdb_shows own number def (msdb_at now number) (msdb_at visible number)
      (its_segments defs now number def good at) (its_segments defs visible number def good2 at) c e
  target_shows t (is_dedb def number at is) e = dedb_shows defs now are good own f number def at c e
  target_shows t is_nowhere e = absurd (true_is_not_false (sym e ∙ finds_nothing c))

  pub answer_fits : FitsAnswerOf (target_of defs (database_of c)) c (reply_to defs now visible own c).answer
  unfolding reply_to
  answer_fits = target_shows (target_of defs (database_of c)) (its_target defs (database_of c))
