-- What calls, the sync point and scripts ask for.
use Rattle.std.proofs.Common.{◌≡◌, ◌<◌, ℕ, ◌-◌, List, [], ◌∷◌, length, Option, Some, None, refl, sym, ◌∙◌, subst, Bool, true, false, not, ◌||◌, if◌then◌else◌, slice_get}
use Rattle.std.specs.Prelude.{option_map, is_some}
use Rattle.std.specs.Option.{option_map_or}
use Rattle.fp_model.specs.declared.definitions.Defs.{Defs}
use Rattle.fp_model.specs.declared.definitions.MsdbDef.{MsdbDef}
use Rattle.fp_model.specs.declared.definitions.DedbDef.{DedbDef}
use Rattle.fp_model.specs.declared.database.Db.{Db}
use Rattle.fp_model.specs.declared.calls.Answer.{Answer}
use Rattle.fp_model.specs.declared.calls.Call.{Call}
use Rattle.fp_model.specs.declared.calls.Call.TheVariants as call
use Rattle.fp_model.specs.declared.calls.Message.{Message}
use Rattle.fp_model.specs.declared.calls.Mode.{Mode}
use Rattle.fp_model.specs.declared.calls.Mode.TheVariants.{Exclusive}
use Rattle.fp_model.specs.declared.calls.Resource.{Resource}
use Rattle.fp_model.specs.declared.calls.Resource.TheVariants.{Anchor}
use Rattle.fp_model.specs.declared.scripts.Script.{Script}
use Rattle.fp_model.specs.Settle.{resources}
use Rattle.fp_model.specs.Commit.{lacking}
use Rattle.fp_model.specs.Order.{Occurrence, Place}
use Rattle.fp_model.specs.Asking.{Asks, Replies, ask, full_cost, script_of}
use Rattle.fp_model.specs.Product.{asked_by, cost_of}
use Rattle.fp_model.specs.Workspace.{Workspace}
use Rattle.fp_model.specs.Answers.{Needed, serves, unless_held}
use Rattle.fp_model.specs.MsdbCalls as msdb
use Rattle.fp_model.specs.DedbCalls as dedb
use Rattle.fp_model.specs.Calls.{OnMsdb, OnDedb, Nowhere, database_of, dedb_target, need_on, need_of}
use Rattle.fp_model.proofs.ProgramLemmas.{calls_below_cost}
use Rattle.serial_order.proofs.Lists.{true_is_not_false}
use Rattle.serial_order.proofs.Replies.{exclusive_serves, unless_some}
use Rattle.plain_laws.proofs.Alls.{found_passes}
use Rattle.std.proofs.lemmas.Option.{none-some, same_Some}

-- ---- locks

-- the first anchor without its lock
first_is_unlocked : (is_locked : ℕ → Bool) (look : ℕ → Option Occurrence) (anchors : List ℕ) (anchor : ℕ)
    → dedb.first_unlocked is_locked look anchors ≡ Some anchor → is_locked anchor ≡ false
first_is_unlocked is_locked look [] anchor e = absurd (none-some anchor e)
first_is_unlocked is_locked look (a ∷ rest) anchor e =
    at (is_locked a) refl (is_some (look a)) e (λ f. first_is_unlocked is_locked look rest anchor f)
  where
    at : (b : Bool) → is_locked a ≡ b → (found : Bool)
        → (if not b then Some a else if found then None else dedb.first_unlocked is_locked look rest) ≡ Some anchor
        → (dedb.first_unlocked is_locked look rest ≡ Some anchor → is_locked anchor ≡ false) → is_locked anchor ≡ false
    at false is found e later = subst (λ (q : ℕ). is_locked q ≡ false) (same_Some a anchor e) is
    at true is true e later = absurd (none-some anchor e)
    at true is false e later = later e

-- what isn't served isn't Exclusive
not_served : (o : Option Mode) (mode : Mode) → serves o mode ≡ false → ¬ (o ≡ Some Exclusive)
not_served o mode e is = true_is_not_false (sym (exclusive_serves o mode is) ∙ e)

module _ (held : Resource → Option Mode) (needed : Needed) where
  -- a lock, unless it is held, behind what there may be
  maybe_needed : (o : Option Needed) → option_map_or (unless_held held) o None ≡ Some needed
      → ¬ (held needed.resource ≡ Some Exclusive)
  maybe_needed None e = absurd (none-some needed e)
  maybe_needed (Some n) e = unless_some held n needed e

  -- a lock behind a test
  if_needed : (b : Bool) (o : Option Needed) → (if b then o else None) ≡ Some needed
      → (o ≡ Some needed → ¬ (held needed.resource ≡ Some Exclusive)) → ¬ (held needed.resource ≡ Some Exclusive)
  if_needed true o e h = h e
  if_needed false o e h = absurd (none-some needed e)

  unless_needed : (b : Bool) (o : Option Needed) → (if b then None else o) ≡ Some needed
      → (o ≡ Some needed → ¬ (held needed.resource ≡ Some Exclusive)) → ¬ (held needed.resource ≡ Some Exclusive)
  unless_needed true o e h = absurd (none-some needed e)
  unless_needed false o e h = h e

  -- calls to a data entry database
  dedb_wants : (def : DedbDef) (number : ℕ) (db : Db) (own : Workspace) (c : Call)
      → dedb.dedb_need def number db own held c ≡ Some needed → ¬ (held needed.resource ≡ Some Exclusive)
  dedb_wants def number db own (call.Get g hold n ssas) e =
      unless_needed (not (dedb.are_get_arguments def number ssas) || dedb.lacks_parent def number own g) _ e
      (from (dedb.first_unlocked (λ (anchor : ℕ). serves (held (Anchor number anchor)) (dedb.lock_of def number hold))
      (dedb.look_at def number db own g ssas) (dedb.anchors_searched def number (dedb.position_of def number own) g
      (dedb.root_named def number ssas))) refl)
    where
      from : (o : Option ℕ) → dedb.first_unlocked (λ (anchor : ℕ). serves (held (Anchor number anchor))
          (dedb.lock_of def number hold)) (dedb.look_at def number db own g ssas)
          (dedb.anchors_searched def number (dedb.position_of def number own) g (dedb.root_named def number ssas)) ≡ o
          → option_map (dedb.anchor_lock def number (dedb.lock_of def number hold)) o ≡ Some needed
          → ¬ (held needed.resource ≡ Some Exclusive)
      from None is e = absurd (none-some needed e)
      from (Some a) is e =
          subst (λ (q : Needed). ¬ (held q.resource ≡ Some Exclusive))
          (same_Some (dedb.anchor_lock def number (dedb.lock_of def number hold) a) needed e)
          (not_served (held (Anchor number a)) (dedb.lock_of def number hold)
          (first_is_unlocked (λ (anchor : ℕ). serves (held (Anchor number anchor)) (dedb.lock_of def number hold))
          (dedb.look_at def number db own g ssas)
          (dedb.anchors_searched def number (dedb.position_of def number own) g (dedb.root_named def number ssas)) a
          is))
  dedb_wants def number db own (call.Fld n key fsas) e = absurd (none-some needed e)
  dedb_wants def number db own (call.Isrt n ssas bytes) e =
      if_needed (dedb.are_insert_arguments def number ssas) _ e (λ f. unless_some held _ needed f)
  dedb_wants def number db own (call.Repl n bytes) e = held_wants (dedb.held_place def number own) e
    where
      held_wants : (o : Option Place) → dedb.held_need def number held o ≡ Some needed
          → ¬ (held needed.resource ≡ Some Exclusive)
      held_wants None e = absurd (none-some needed e)
      held_wants (Some place) e = unless_some held _ needed e
  dedb_wants def number db own (call.Dlet n) e = held_wants (dedb.held_place def number own) e
    where
      held_wants : (o : Option Place) → dedb.held_need def number held o ≡ Some needed
          → ¬ (held needed.resource ≡ Some Exclusive)
      held_wants None e = absurd (none-some needed e)
      held_wants (Some place) e = unless_some held _ needed e

  -- if there is one
  dedb_target_wants : (number : ℕ) (o : Option DedbDef) (db : Db) (own : Workspace) (c : Call)
      → need_on (option_map_or (λ def. OnDedb def number) o Nowhere) db own held c ≡ Some needed
      → ¬ (held needed.resource ≡ Some Exclusive)
  dedb_target_wants number None db own c e = absurd (none-some needed e)
  dedb_target_wants number (Some def) db own c e = dedb_wants def number db own c e

  -- main storage databases are looked for first
  target_wants : (defs : Defs) (number dedb_number : ℕ) (o : Option MsdbDef) (db : Db) (own : Workspace) (c : Call)
      → need_on (option_map_or (λ def. OnMsdb def number) o (dedb_target defs dedb_number)) db own held c ≡ Some needed
      → ¬ (held needed.resource ≡ Some Exclusive)
  target_wants defs number dedb_number None db own c e =
      dedb_target_wants dedb_number (slice_get defs.dedbs dedb_number) db own c e
  target_wants defs number dedb_number (Some def) db own c e = maybe_needed (msdb.msdb_need def number own c) e

  -- A call asks for no lock on what is held Exclusive.
  pub calls_want : (defs : Defs) (db : Db) (own : Workspace) (c : Call) → need_of defs db own held c ≡ Some needed
      → ¬ (held needed.resource ≡ Some Exclusive)
  unfolding need_of
  calls_want defs db own c e = target_wants defs (database_of c) (database_of c - length defs.msdbs)
      (slice_get defs.msdbs (database_of c)) db own c e

-- Nor does the sync point.
pub sync_wants : (own : Workspace) (held : Resource → Option Mode) (resource : Resource)
    → lacking own held ≡ Some resource → ¬ (held resource ≡ Some Exclusive)
unfolding lacking
sync_wants own held resource e = not_served (held resource) Exclusive
    (negated (serves (held resource) Exclusive) (found_passes (λ (r : Resource). not (serves (held r) Exclusive))
    (resources own.deferred) resource e))
  where
    negated : (b : Bool) → not b ≡ true → b ≡ false
    negated true e = sym e
    negated false e = refl

-- ---- scripts

asks_is_not_replies : (c : Call) (reply : List ℕ) → Replies reply ≡ Asks c → ⊥
asks_is_not_replies c reply e = cc

-- A script that asks a call was answered fewer than it may make.
pub asks_fewer : (defs : Defs) (scripts : List Script) (message : Message) (answers : List Answer) (c : Call)
    → asked_by defs scripts message answers ≡ Asks c → length answers < cost_of scripts message
asks_fewer defs scripts message answers c e = by (script_of scripts message.tran) e
  where
    by : (o : Option Script) → option_map_or (λ script. ask defs script.statements message answers) o (Replies []) ≡
        Asks c → length answers < option_map_or (λ script. full_cost script.statements) o 0
    by None e = absurd (asks_is_not_replies c [] e)
    by (Some script) e = calls_below_cost defs script.statements message answers c e
