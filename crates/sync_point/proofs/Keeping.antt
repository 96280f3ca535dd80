-- A call to a main storage database changes no anchor, inserts no sequential dependent, and defers at most one call.
use Rattle.std.proofs.Common.{◌≡◌, ◌∙◌, refl, sym, ap, subst, arith, length-append, ◌+◌, ◌≤◌, ℕ, ◌-◌, List, ◌++◌, ◌∷◌, [], length, Bool, true, false, Option, Some, None, if◌then◌else◌}
use Rattle.std.specs.Prelude.{not, is_some, codes}
use Rattle.std.specs.Option.{option_map_or}
use Rattle.fp_model.specs.declared.database.Db.{Db}
use Rattle.fp_model.specs.declared.database.Msdb.{Msdb}
use Rattle.fp_model.specs.declared.definitions.Defs.{Defs}
use Rattle.fp_model.specs.declared.definitions.MsdbDef.{MsdbDef}
use Rattle.fp_model.specs.declared.calls.Call.{Call}
use Rattle.fp_model.specs.declared.calls.Call.TheVariants as call
use Rattle.fp_model.specs.declared.calls.Deferred.{Deferred}
use Rattle.fp_model.specs.declared.calls.Deferred.TheVariants as deferred
use Rattle.fp_model.specs.declared.calls.Get.{Get}
use Rattle.fp_model.specs.declared.calls.Get.TheVariants as get
use Rattle.fp_model.specs.Answers.{Replied}
use Rattle.fp_model.specs.Calls.{OnMsdb, database_of, dedb_target, msdb_at, reply_on, reply_to}
use Rattle.fp_model.specs.FitCalls.{IsMsdbCall}
use Rattle.fp_model.specs.Fsas.{all_blank, fsas_in, list_on}
use Rattle.fp_model.specs.MsdbCalls as msdbs
use Rattle.fp_model.specs.State.{key_of, segment_of, segment_after}
use Rattle.fp_model.specs.Texts.{same_text}
use Rattle.fp_model.specs.Workspace.{Workspace}

module _ (def : MsdbDef) (msdb : ℕ) (own : Workspace) where
  abbrev pub Keeps : Replied → Type 0
  Keeps r = (r.own.changes ≡ own.changes) × (r.own.inserts ≡ own.inserts)
      × (length r.own.deferred ≤ length own.deferred + 1)

  same : length own.deferred ≤ length own.deferred + 1
  same = omega arith

  one : (d : Deferred) → length (own.deferred ++ d ∷ []) ≤ length own.deferred + 1
  one d = let e : length (own.deferred ++ d ∷ []) ≡ length own.deferred + 1 = length-append own.deferred (d ∷ []) in
      omega (arith, e)

  either : (b : Bool) (x y : Replied) → Keeps x → Keeps y → Keeps (if b then x else y)
  either true x y h g = h
  either false x y h g = g

  refused_keeps : (status : List ℕ) → Keeps (msdbs.refused def msdb own status)
  refused_keeps status = (refl, refl, same)

  found_keeps : (status : List ℕ) (hold : Bool) (o : Option (List ℕ))
      → Keeps (msdbs.found_or def msdb status hold own o)
  found_keeps status hold None = (refl, refl, same)
  found_keeps status hold (Some segment) = (refl, refl, same)

  get_keeps : (now shown : Msdb) (g : Get) (hold : Bool) (key : Option (List ℕ))
      → Keeps (msdbs.get_reply def msdb now shown own g hold key)
  get_keeps now shown get.Unique false (Some key) = found_keeps (codes "GE") false (segment_of def shown key)
  get_keeps now shown get.Unique false None = found_keeps (codes "GE") false (segment_after def shown None)
  get_keeps now shown get.Unique true (Some key) = found_keeps (codes "GE") true (segment_of def now key)
  get_keeps now shown get.Unique true None = (refl, refl, same)
  get_keeps now shown get.Next false key = found_keeps (codes "GB") false
      (segment_after def shown (msdbs.position_of def msdb own).key)
  get_keeps now shown get.Next true key = (refl, refl, same)
  get_keeps now shown get.NextInParent hold key = (refl, refl, same)

  fld_keeps : (key fsas : List ℕ) (o : Option (List ℕ)) → Keeps (msdbs.fld_reply def msdb own key fsas o)
  fld_keeps key fsas None = (refl, refl, same)
  fld_keeps key fsas (Some segment) = either (all_blank (list_on def (fsas_in fsas) segment).letters) _ _
      (refl, refl, one (deferred.Fld msdb key fsas)) (refl, refl, same)

  repl_keeps : (bytes : List ℕ) (o : Option (List ℕ))
      → Keeps (msdbs.if_held def msdb own (msdbs.repl_reply def msdb own bytes) o)
  repl_keeps bytes None = (refl, refl, same)
  repl_keeps bytes (Some key) =
      either (msdbs.is_put_or_dropped def msdb own key) _ _ (refl, refl, same)
      (either (same_text (key_of def.fields bytes) key) _ _ (refl, refl, one (deferred.Repl msdb bytes))
      (refl, refl, same))

  dlet_keeps : (o : Option (List ℕ)) → Keeps (msdbs.if_held def msdb own (msdbs.dlet_reply def msdb own) o)
  dlet_keeps None = (refl, refl, same)
  dlet_keeps (Some key) = either (msdbs.is_put_or_dropped def msdb own key) _ _ (refl, refl, same)
      (refl, refl, one (deferred.Dlet msdb key))

  isrt_keeps : (now : Msdb) (bytes : List ℕ) → Keeps (msdbs.isrt_reply def msdb now own bytes)
  isrt_keeps now bytes =
      either (not def.dynamic) _ _ (refl, refl, same)
      (either (msdbs.is_put_or_dropped def msdb own (key_of def.fields bytes)) _ _ (refl, refl, same)
      (either (is_some (segment_of def now (key_of def.fields bytes))) _ _ (refl, refl, same)
      (refl, refl, one (deferred.Isrt msdb bytes))))

  msdb_keeps : (now shown : Msdb) (c : Call) → Keeps (msdbs.msdb_reply def msdb now shown own c)
  msdb_keeps now shown (call.Get g hold db ssas) = get_keeps now shown g hold (msdbs.key_named ssas)
  msdb_keeps now shown (call.Fld db key fsas) = either (msdbs.is_put_or_dropped def msdb own key) _ _
      (refl, refl, same) (fld_keeps key fsas (segment_of def shown key))
  msdb_keeps now shown (call.Repl db bytes) = repl_keeps bytes (msdbs.held_key def msdb own)
  msdb_keeps now shown (call.Isrt db ssas bytes) = isrt_keeps now bytes
  msdb_keeps now shown (call.Dlet db) = either (not def.dynamic) _ _ (refl, refl, same)
      (dlet_keeps (msdbs.held_key def msdb own))

-- the reply is the main storage database's
reply_is : (defs : Defs) (now : Db) (own : Workspace) (c : Call) (fits : IsMsdbCall defs.msdbs c)
    → reply_to defs now now own c ≡ msdbs.msdb_reply fits.0 (database_of c) (msdb_at now (database_of c))
    (msdb_at now (database_of c)) own c
unfolding reply_to
reply_is defs now own c fits =
    ap (λ (o : Option MsdbDef). reply_on (option_map_or (λ (def : MsdbDef). OnMsdb def (database_of c)) o
    (dedb_target defs (database_of c - length defs.msdbs))) now now own c) fits.1

pub call_keeps : (defs : Defs) (now : Db) (own : Workspace) (c : Call) (r : Replied) → IsMsdbCall defs.msdbs c
    → reply_to defs now now own c ≡ r → (r.own.changes ≡ own.changes) × (r.own.inserts ≡ own.inserts)
    × (length r.own.deferred ≤ length own.deferred + 1)
call_keeps defs now own c r fits e =
    let place : ℕ = database_of c in
    subst (λ (x : Replied). (x.own.changes ≡ own.changes) × (x.own.inserts ≡ own.inserts)
    × (length x.own.deferred ≤ length own.deferred + 1)) (sym (reply_is defs now own c fits) ∙ e)
    (msdb_keeps fits.0 place own (msdb_at now place) (msdb_at now place) c)
