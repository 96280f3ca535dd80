-- Answered calls to a main storage database leave a workspace that fits.
use Rattle.std.proofs.Common.{◌≡◌, ℕ, List, Option, Some, None, refl, sym, ◌∙◌, subst, Bool, true, false, not, slice_get}
use Rattle.std.specs.Prelude.{IfSome, codes, is_some, if◌then◌else◌}
use Rattle.fp_model.specs.declared.calls.Call.{Call}
use Rattle.fp_model.specs.declared.calls.Call.TheVariants as call
use Rattle.fp_model.specs.declared.calls.Deferred.{Deferred}
use Rattle.fp_model.specs.declared.calls.Deferred.TheVariants as deferred
use Rattle.fp_model.specs.declared.calls.Get.{Get}
use Rattle.fp_model.specs.declared.calls.Get.TheVariants as get
use Rattle.fp_model.specs.declared.database.Db.{Db}
use Rattle.fp_model.specs.declared.database.Msdb.{Msdb}
use Rattle.fp_model.specs.declared.definitions.Defs.{Defs}
use Rattle.fp_model.specs.declared.definitions.MsdbDef.{MsdbDef}
use Rattle.fp_model.specs.Answers.{Replied, answered, blank, lettered}
use Rattle.fp_model.specs.FitCalls.{FitsCall, FitsKey, FitsSegment, IsFitDeferred, IsFsaList}
use Rattle.fp_model.specs.Fsas.{all_blank, fsas_in, list_on}
use Rattle.fp_model.specs.MsdbCalls as msdb
use Rattle.fp_model.specs.State.{key_of, segment_after, segment_of}
use Rattle.fp_model.specs.Texts.{same_text}
use Rattle.fp_model.specs.Workspace.{Workspace}
use Rattle.state_laws.specs.Workspaces.{FitsWorkspace}
use Rattle.state_laws.proofs.Keeping.{with_deferred, with_msdb}
use Rattle.plain_laws.proofs.Alls.{found_passes}
use Rattle.std.proofs.lemmas.Option.{none-some, same_Some}
use Rattle.model_laws.proofs.Texts.{same_text_is}

module _ (defs : Defs) (db : Db) (own : Workspace) (f : FitsWorkspace defs db own) (number : ℕ) (def : MsdbDef)
    (defined : slice_get defs.msdbs number ≡ Some def) where
  -- the answer leaves a workspace that fits
  abbrev Keeps : Replied → Type 0
  Keeps r = FitsWorkspace defs db r.own

  either : (b : Bool) (r q : Replied) → Keeps r → Keeps q → Keeps (if b then r else q)
  either true r q kr kq = kr
  either false r q kr kq = kq

  hold_ended : FitsWorkspace defs db (msdb.hold_ended def number own)
  hold_ended = with_msdb defs db own f number (record (msdb.position_of def number own) { held = false })
      (λ d key at e. absurd (none-some key e))

  refused : (status : List ℕ) → Keeps (msdb.refused def number own status)
  refused status = hold_ended

  queued : (call : Deferred) → IsFitDeferred defs.msdbs call
      → FitsWorkspace defs db (msdb.queued def number own (answered blank) call).own
  queued call fit = with_deferred defs db (msdb.hold_ended def number own) hold_ended call fit

  -- ---- gets

  found : (status : List ℕ) (hold : Bool) (o : Option (List ℕ))
      → ((segment : List ℕ) → o ≡ Some segment → hold ≡ true → FitsKey (key_of def.fields segment) def)
      → Keeps (msdb.found_or def number status hold own o)
  found status hold None fits = hold_ended
  found status false (Some segment) fits =
      with_msdb defs db own f number (record { key = Some (key_of def.fields segment); held = false })
      (λ d key at e. absurd (none-some key e))
  found status true (Some segment) fits =
      with_msdb defs db own f number (record { key = Some (key_of def.fields segment); held = true })
      (λ d key at e.
      let same : def ≡ d = same_Some def d (sym defined ∙ at) in
      let its : FitsKey key def =
      subst (λ (k : List ℕ). FitsKey k def) (same_Some (key_of def.fields segment) key e) (fits segment refl refl) in
      subst (FitsKey key) same its)

  not_held : false ≡ true → ⊥
  not_held e = cc

  get_keeps : (now visible : Msdb) (g : Get) (hold : Bool) (o : Option (List ℕ))
      → IfSome o (λ key. FitsKey key def) → Keeps (msdb.get_reply def number now visible own g hold o)
  get_keeps now visible get.Unique false (Some key) fit =
      found (codes "GE") false (segment_of def visible key) (λ segment e h. absurd (not_held h))
  get_keeps now visible get.Unique false None fit =
      found (codes "GE") false (segment_after def visible None) (λ segment e h. absurd (not_held h))
  get_keeps now visible get.Unique true (Some key) fit =
      found (codes "GE") true (segment_of def now key)
      (λ segment e h.
      let same = same_text_is (key_of def.fields segment) key
      (found_passes (λ s. same_text (key_of def.fields s) key) now.segments segment e) in
      subst (λ (k : List ℕ). FitsKey k def) (sym same) fit)
  get_keeps now visible get.Unique true None fit = hold_ended
  get_keeps now visible get.Next false o fit =
      found (codes "GB") false (segment_after def visible (msdb.position_of def number own).key)
      (λ segment e h. absurd (not_held h))
  get_keeps now visible get.Next true o fit = hold_ended
  get_keeps now visible get.NextInParent hold o fit = hold_ended

  -- ---- changes

  fld_keeps : (key fsas : List ℕ) (o : Option (List ℕ)) → FitsKey key def → IsFsaList fsas
      → Keeps (msdb.fld_reply def number own key fsas o)
  fld_keeps key fsas None fit list = hold_ended
  fld_keeps key fsas (Some segment) fit list =
      let letters : List ℕ = (list_on def (fsas_in fsas) segment).letters in
      let call : Deferred = deferred.Fld number key fsas in
      either (all_blank letters) (msdb.queued def number own (lettered blank letters) call)
      (record { answer = lettered (codes "FE") letters; own = msdb.hold_ended def number own })
      (queued call ((def, defined, fit), list)) hold_ended

  repl_keeps : (bytes key : List ℕ) → FitsSegment bytes def → Keeps (msdb.repl_reply def number own bytes key)
  repl_keeps bytes key fit =
      let call : Deferred = deferred.Repl number bytes in
      let late : Replied =
      if same_text (key_of def.fields bytes) key then msdb.queued def number own (answered blank) call
      else msdb.refused def number own (codes "DA") in
      either (msdb.is_put_or_dropped def number own key) (msdb.refused def number own (codes "XP")) late hold_ended
      (either (same_text (key_of def.fields bytes) key) (msdb.queued def number own (answered blank) call)
      (msdb.refused def number own (codes "DA")) (queued call (def, defined, fit)) hold_ended)

  isrt_keeps : (now : Msdb) (bytes : List ℕ) → FitsSegment bytes def → Keeps (msdb.isrt_reply def number now own bytes)
  isrt_keeps now bytes fit =
      by (not def.dynamic) (msdb.is_put_or_dropped def number own (key_of def.fields bytes))
      (is_some (segment_of def now (key_of def.fields bytes)))
    where
      by : (a b c : Bool) → Keeps (
          if a then msdb.refused def number own (codes "AM")
          else if b then msdb.refused def number own (codes "XP")
          else if c then msdb.refused def number own (codes "II")
          else msdb.queued def number own (answered blank) (deferred.Isrt number bytes)
          )
      by true b c = hold_ended
      by false true c = hold_ended
      by false false true = hold_ended
      by false false false = queued (deferred.Isrt number bytes) (def, defined, fit)

  dlet_keeps : (key : List ℕ) → FitsKey key def → Keeps (msdb.dlet_reply def number own key)
  dlet_keeps key fit =
      either (msdb.is_put_or_dropped def number own key) (msdb.refused def number own (codes "XP"))
      (msdb.queued def number own (answered blank) (deferred.Dlet number key)) hold_ended
      (queued (deferred.Dlet number key) (def, defined, fit))

  held_keeps : (reply : List ℕ → Replied) (o : Option (List ℕ)) → msdb.held_key def number own ≡ o
      → ((key : List ℕ) → FitsKey key def → Keeps (reply key)) → Keeps (msdb.if_held def number own reply o)
  held_keeps reply None e keeps = hold_ended
  held_keeps reply (Some key) e keeps = keeps key (f.keys number def key defined e)

  pub msdb_keeps : (now visible : Msdb) (c : Call) → FitsCall c def
      → FitsWorkspace defs db (msdb.msdb_reply def number now visible own c).own
  msdb_keeps now visible (call.Get g hold n ssas) fit = get_keeps now visible g hold (msdb.key_named ssas) fit
  msdb_keeps now visible (call.Fld n key fsas) fit =
      either (msdb.is_put_or_dropped def number own key) (msdb.refused def number own (codes "XP"))
      (msdb.fld_reply def number own key fsas (segment_of def visible key)) hold_ended
      (fld_keeps key fsas (segment_of def visible key) fit.0 fit.1)
  msdb_keeps now visible (call.Isrt n ssas bytes) fit = isrt_keeps now bytes fit
  msdb_keeps now visible (call.Repl n bytes) fit =
      held_keeps (msdb.repl_reply def number own bytes) (msdb.held_key def number own) refl
      (λ key its. repl_keeps bytes key fit)
  msdb_keeps now visible (call.Dlet n) fit =
      either (not def.dynamic) (msdb.refused def number own (codes "AM"))
      (msdb.if_held def number own (msdb.dlet_reply def number own) (msdb.held_key def number own)) hold_ended
      (held_keeps (msdb.dlet_reply def number own) (msdb.held_key def number own) refl (λ key its. dlet_keeps key its))
