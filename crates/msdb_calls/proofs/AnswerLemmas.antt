-- A call to the main storage database that it names.
use Rattle.std.proofs.Common.{◌≡◌, ℕ, ◌-◌, List, [], length, Option, Some, None, ap, ◌∙◌, subst, slice_get, unwrap_or}
use Rattle.std.specs.Option.{option_map_or}
use Rattle.fp_model.specs.declared.calls.Answer.{Answer}
use Rattle.fp_model.specs.declared.calls.Call.{Call}
use Rattle.fp_model.specs.declared.calls.Call.TheVariants as call
use Rattle.fp_model.specs.declared.calls.Mode.{Mode}
use Rattle.fp_model.specs.declared.calls.Resource.{Resource}
use Rattle.fp_model.specs.declared.database.Db.{Db}
use Rattle.fp_model.specs.declared.database.Msdb.{Msdb}
use Rattle.fp_model.specs.declared.definitions.Defs.{Defs}
use Rattle.fp_model.specs.declared.definitions.MsdbDef.{MsdbDef}
use Rattle.fp_model.specs.Answers.{unless_held}
use Rattle.fp_model.specs.Calls.{OnMsdb, database_of, dedb_target, looks_on, looks_unheld, need_of, need_on, reply_on, reply_to, target_of}
use Rattle.fp_model.specs.FitCalls.{FitsAnswerOf}
use Rattle.fp_model.specs.MsdbCalls.{msdb_looks, msdb_need, msdb_reply}
use Rattle.fp_model.specs.Workspace.{Workspace}
use Rattle.msdb_calls.specs.inside.Replies.{ShowsFound}

-- the call names this database
pub record Names (defs : List MsdbDef) (c : Call) (n : ℕ) (def : MsdbDef) : Type 0 where
  pub same : n ≡ database_of c
  pub there : slice_get defs n ≡ Some def

pub names_it : (defs : List MsdbDef) (c : Call) (n : ℕ) (def : MsdbDef) → n ≡ database_of c
    → slice_get defs n ≡ Some def → Names defs c n def
names_it defs c n def same there = record { same = same; there = there }

module _ (defs : Defs) (c : Call) (n : ℕ) (def : MsdbDef) (it : Names defs.msdbs c n def) where
  pub target : target_of defs (database_of c) ≡ OnMsdb def n
  target =
      subst (λ number. target_of defs number ≡ OnMsdb def n) it.same
      (ap (λ (found : Option MsdbDef). option_map_or (λ one. OnMsdb one n) found
      (dedb_target defs (n - length defs.msdbs))) it.there)

  pub replies : (now visible : Db) (nows visibles : List Msdb) (own : Workspace) → now.msdbs ≡ nows
      → visible.msdbs ≡ visibles
      → (let segments : Msdb = unwrap_or (slice_get nows n) (record { segments = [] }) in
      let noted : Msdb = unwrap_or (slice_get visibles n) (record { segments = [] }) in
      reply_to defs now visible own c ≡ msdb_reply def n segments noted own c)
  unfolding reply_to
  replies now visible nows visibles own same other =
      ap (λ on. reply_on on now visible own c) target
      ∙ ap (λ (stored : List Msdb). let segments : Msdb = unwrap_or (slice_get stored n) (record { segments = [] }) in
      let noted : Msdb = unwrap_or (slice_get visible.msdbs n) (record { segments = [] }) in
      msdb_reply def n segments noted own c) same
      ∙ ap (λ (stored : List Msdb). let segments : Msdb = unwrap_or (slice_get nows n) (record { segments = [] }) in
      let noted : Msdb = unwrap_or (slice_get stored n) (record { segments = [] }) in
      msdb_reply def n segments noted own c) other

  pub needs : (db : Db) (own : Workspace) (held : Resource → Option Mode)
      → need_of defs db own held c ≡ option_map_or (unless_held held) (msdb_need def n own c) None
  unfolding need_of
  needs db own held = ap (λ on. need_on on db own held c) target

  pub looks : (own : Workspace) → looks_unheld defs own c ≡ msdb_looks def n own c
  unfolding looks_unheld
  looks own = ap (λ on. looks_on on own c) target

-- what a get shows is a segment of the database that it names
pub fits_answer : (c : Call) (n : ℕ) (def : MsdbDef) (answer : Answer) → ShowsFound def c answer
    → FitsAnswerOf (OnMsdb def n) c answer
fits_answer (call.Get get hold db ssas) n def answer shows = shows
fits_answer (call.Fld db key fsas) n def answer shows = λ found. absurd (cc)
fits_answer (call.Isrt db ssas bytes) n def answer shows = λ found. absurd (cc)
fits_answer (call.Repl db bytes) n def answer shows = λ found. absurd (cc)
fits_answer (call.Dlet db) n def answer shows = λ found. absurd (cc)
