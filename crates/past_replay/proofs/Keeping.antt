-- A call to a main storage database defers at most one call.
use Rattle.std.proofs.Common.{◌≡◌, ◌∙◌, refl, sym, ap, subst, arith, length-append, ◌+◌, ◌≤◌, ℕ, ◌-◌, List, ◌++◌, ◌∷◌, [], length, Bool, true, false, Option, Some, None, if◌then◌else◌}
use Rattle.std.specs.Prelude.{not, is_some, codes}
use Rattle.std.specs.Option.{option_map_or}
use Rattle.fp_model.specs.declared.database.Db.{Db}
use Rattle.fp_model.specs.declared.database.Msdb.{Msdb}
use Rattle.fp_model.specs.declared.definitions.Defs.{Defs}
use Rattle.fp_model.specs.declared.definitions.MsdbDef.{MsdbDef}
use Rattle.fp_model.specs.declared.calls.Answer.{Answer}
use Rattle.fp_model.specs.declared.calls.Call.{Call}
use Rattle.fp_model.specs.declared.calls.Call.TheVariants as call
use Rattle.fp_model.specs.declared.calls.Deferred.{Deferred}
use Rattle.fp_model.specs.declared.calls.Deferred.TheVariants as deferred
use Rattle.fp_model.specs.declared.calls.Get.{Get}
use Rattle.fp_model.specs.declared.calls.Get.TheVariants as get
use Rattle.fp_model.specs.Answers.{Replied, answered, blank, lettered}
use Rattle.fp_model.specs.Calls.{OnMsdb, database_of, dedb_target, msdb_at, reply_on, reply_to}
use Rattle.fp_model.specs.FitCalls.{IsMsdbCall}
use Rattle.fp_model.specs.Fsas.{all_blank, fsas_in, list_on}
use Rattle.fp_model.specs.MsdbCalls as msdbs
use Rattle.fp_model.specs.State.{key_of, segment_of, segment_after}
use Rattle.fp_model.specs.Texts.{same_text}
use Rattle.fp_model.specs.Workspace.{Workspace}

-- what it leaves: at most one deferred call more
abbrev DefersOne : Workspace → Workspace → Type 0
DefersOne own new = length new.deferred ≤ length own.deferred + 1

module _ (def : MsdbDef) (msdb : ℕ) (own : Workspace) where
  abbrev KeepsReply : Replied → Type 0
  KeepsReply r = DefersOne own r.own

  none : (r : Replied) → r.own.deferred ≡ own.deferred → KeepsReply r
  none r same = let e : length r.own.deferred ≡ length own.deferred = ap length same in omega (arith, e)

  one : (r : Replied) (d : Deferred) → r.own.deferred ≡ own.deferred ++ d ∷ [] → KeepsReply r
  one r d more =
      let e : length r.own.deferred ≡ length own.deferred + 1 = ap length more ∙ length-append own.deferred (d ∷ []) in
      omega (arith, e)

  either : (b : Bool) (x y : Replied) → KeepsReply x → KeepsReply y → KeepsReply (if b then x else y)
  either true x y h g = h
  either false x y h g = g

  refused_keeps : (status : List ℕ) → KeepsReply (msdbs.refused def msdb own status)
  refused_keeps status = none (msdbs.refused def msdb own status) refl

  found_keeps : (status : List ℕ) (hold : Bool) (o : Option (List ℕ))
      → KeepsReply (msdbs.found_or def msdb status hold own o)
  found_keeps status hold None = refused_keeps status
  found_keeps status hold (Some segment) = none (msdbs.found_or def msdb status hold own (Some segment)) refl

  get_keeps : (now shown : Msdb) (g : Get) (hold : Bool) (key : Option (List ℕ))
      → KeepsReply (msdbs.get_reply def msdb now shown own g hold key)
  get_keeps now shown get.Unique false (Some key) = found_keeps (codes "GE") false (segment_of def shown key)
  get_keeps now shown get.Unique false None = found_keeps (codes "GE") false (segment_after def shown None)
  get_keeps now shown get.Unique true (Some key) = found_keeps (codes "GE") true (segment_of def now key)
  get_keeps now shown get.Unique true None = refused_keeps (codes "AM")
  get_keeps now shown get.Next false key = found_keeps (codes "GB") false
      (segment_after def shown (msdbs.position_of def msdb own).key)
  get_keeps now shown get.Next true key = refused_keeps (codes "AM")
  get_keeps now shown get.NextInParent hold key = refused_keeps (codes "AM")

  queued_keeps : (answer : Answer) (d : Deferred) → KeepsReply (msdbs.queued def msdb own answer d)
  queued_keeps answer d = one (msdbs.queued def msdb own answer d) d refl

  fld_keeps : (key fsas : List ℕ) (o : Option (List ℕ)) → KeepsReply (msdbs.fld_reply def msdb own key fsas o)
  fld_keeps key fsas None = refused_keeps (codes "GE")
  fld_keeps key fsas (Some segment) =
      let letters : List ℕ = (list_on def (fsas_in fsas) segment).letters in
      let tried : Replied = record { answer = lettered (codes "FE") letters; own = msdbs.hold_ended def msdb own } in
      either (all_blank letters) (msdbs.queued def msdb own (lettered blank letters) (deferred.Fld msdb key fsas)) tried
      (queued_keeps (lettered blank letters) (deferred.Fld msdb key fsas)) (none tried refl)

  repl_keeps : (bytes : List ℕ) (o : Option (List ℕ))
      → KeepsReply (msdbs.if_held def msdb own (msdbs.repl_reply def msdb own bytes) o)
  repl_keeps bytes None = refused_keeps (codes "DJ")
  repl_keeps bytes (Some key) =
      either (msdbs.is_put_or_dropped def msdb own key) _ _ (refused_keeps (codes "XP"))
      (either (same_text (key_of def.fields bytes) key) _ _ (queued_keeps (answered blank) (deferred.Repl msdb bytes))
      (refused_keeps (codes "DA")))

  dlet_keeps : (o : Option (List ℕ)) → KeepsReply (msdbs.if_held def msdb own (msdbs.dlet_reply def msdb own) o)
  dlet_keeps None = refused_keeps (codes "DJ")
  dlet_keeps (Some key) =
      either (msdbs.is_put_or_dropped def msdb own key) _ _ (refused_keeps (codes "XP"))
      (queued_keeps (answered blank) (deferred.Dlet msdb key))

  isrt_keeps : (now : Msdb) (bytes : List ℕ) → KeepsReply (msdbs.isrt_reply def msdb now own bytes)
  isrt_keeps now bytes =
      either (not def.dynamic) _ _ (refused_keeps (codes "AM"))
      (either (msdbs.is_put_or_dropped def msdb own (key_of def.fields bytes)) _ _ (refused_keeps (codes "XP"))
      (either (is_some (segment_of def now (key_of def.fields bytes))) _ _ (refused_keeps (codes "II"))
      (queued_keeps (answered blank) (deferred.Isrt msdb bytes))))

  pub msdb_defers : (now shown : Msdb) (c : Call) → KeepsReply (msdbs.msdb_reply def msdb now shown own c)
  msdb_defers now shown (call.Get g hold db ssas) = get_keeps now shown g hold (msdbs.key_named ssas)
  msdb_defers now shown (call.Fld db key fsas) =
      either (msdbs.is_put_or_dropped def msdb own key) _ _ (refused_keeps (codes "XP"))
      (fld_keeps key fsas (segment_of def shown key))
  msdb_defers now shown (call.Repl db bytes) = repl_keeps bytes (msdbs.held_key def msdb own)
  msdb_defers now shown (call.Isrt db ssas bytes) = isrt_keeps now bytes
  msdb_defers now shown (call.Dlet db) =
      either (not def.dynamic) _ _ (refused_keeps (codes "AM")) (dlet_keeps (msdbs.held_key def msdb own))
