-- The sync point of a transaction whose region holds all that it needs.
use Rattle.std.proofs.Common.{◌≡◌, refl, sym, ◌∙◌, ap, subst, ℕ, ◌-◌, ◌≤◌, List, length, Some, slice_get}
use Rattle.fp_model.specs.declared.calls.Deferred.{Deferred}
use Rattle.fp_model.specs.declared.calls.Message.{Message}
use Rattle.fp_model.specs.declared.database.Db.{Db}
use Rattle.fp_model.specs.declared.events.Event.TheVariants as event
use Rattle.fp_model.specs.declared.log.Entry.{Entry}
use Rattle.fp_model.specs.declared.log.Item.{Item}
use Rattle.fp_model.specs.declared.log.Outcome.TheVariants as outcome
use Rattle.fp_model.specs.Asking.{Replies}
use Rattle.fp_model.specs.Commit.{Settlement, settlement}
use Rattle.fp_model.specs.Machine.{Transaction, Machine, ended_with, entry_of}
use Rattle.fp_model.specs.Rules.{Rules}
use Rattle.fp_model.specs.Serial.{Ending, settled_as}
use Rattle.fp_model.specs.Turns.{Does, Finishes, IsAtEnd, asks, ending_of}
use Rattle.fp_model.specs.Workspace.{Workspace}
use Rattle.log_groups.specs.Log.{LogState}
use Rattle.msdb_store.specs.Settling.{CanSettle}
use Rattle.msdb_store.specs.Store.{IsOf, Stored}
use Rattle.sync_point.specs.Drafts.{IsDraftOf, done_entry}
use Rattle.sync_point.specs.declared.committing.Draft.{Draft}
use Rattle.sync_point.proofs.Replies.{replies_are_short}
use Rattle.sync_point.proofs.Scripts.{asked_is}
use Rattle.fp_core.specs.declared.did.Did.TheVariants as did
use Rattle.fp_core.specs.declared.engine.Active.{Active}
use Rattle.fp_core.specs.declared.engine.Engine.{Engine}
use Rattle.fp_core.specs.declared.engine.Region.TheVariants as regions
use Rattle.fp_core.specs.inside.Acting.{HoldsAll, IsAtWork}
use Rattle.fp_core.specs.inside.Ending.{draft_of}
use Rattle.fp_core.specs.Relation.{IsTransaction, StandsFor, rules_in}
use Rattle.fp_core.specs.Turning.{AreItemsOf, Turned}
use Rattle.fp_core.proofs.Ends.{may_end, region_is}
use Rattle.fp_core.proofs.Refusals.{unsettled_stands}
use Rattle.fp_core.proofs.Turns.{acted}

-- ---- what is handed to the sync point

module _ (engine : Engine) (m : Machine) (t : Transaction) (active : Active) (s : StandsFor engine m)
    (is : IsTransaction engine.defs.now engine.scripts.now.scripts active t) where
  pub is_draft : (draft : Draft) (reply : List ℕ) → draft ≡ draft_of active reply
      → IsDraftOf engine.defs.now m.history.now t.point.own engine.store draft
  is_draft draft reply e = record {
    able =
        subst (λ (calls : List Deferred). CanSettle engine.defs.now.msdbs engine.store calls)
        (sym (ap (λ (d : Draft). d.deferred) e))
        (record { of = s.of; defined = s.setup.defined.each_msdb; fit = is.of.deferred });
    msdbs = s.msdbs;
    deferred = ap (λ (own : Workspace). own.deferred) (sym is.own) ∙ sym (ap (λ (d : Draft). d.deferred) e);
    no_dedbs = s.setup.no_dedbs;
    changes = is.changes;
    inserts = is.inserts;
  }

  pub reply_is_short : (reply : List ℕ) → asks (rules_in engine) t ≡ Replies reply → length reply ≤ 1000
  reply_is_short reply asked =
      replies_are_short engine.defs.now t.message is.script.statements t.point.answers reply
      (sym (asked_is engine.defs.now engine.scripts.now.scripts t.message is.script t.point.answers is.named) ∙ asked)

module _ (engine : Engine) (m : Machine) (region : ℕ) (t : Transaction) (active : Active) (reply : List ℕ)
    (draft : Draft)
    (w : IsAtWork engine m region t)
    (there : slice_get engine.regions (region - 1) ≡ Some (regions.Active active))
    (drafted : draft ≡ draft_of active reply) where
  -- the same at the region,
  pub at_work_is : IsTransaction engine.defs.now engine.scripts.now.scripts active t
  at_work_is = region_is engine m region t (regions.Active active) (may_end engine m region t w) there

  pub draft_at : IsDraftOf engine.defs.now m.history.now t.point.own engine.store draft
  draft_at = is_draft engine m t active w.stands at_work_is draft reply drafted

  -- which is at work still where nothing is settled
  pub at_work_still : (store : Stored) (log : LogState)
      → (CanSettle engine.defs.now.msdbs engine.store draft.deferred → IsOf engine.defs.now.msdbs store)
      → store.msdbs ≡ engine.store.msdbs
      → log.sealed ≡ engine.log.sealed
      → log.unsealed ≡ engine.log.unsealed
      → engine.log.spare ≤ log.spare
      → IsAtWork (record engine { store = store; log = log }) m region t
  at_work_still store log of msdbs sealed unsealed spare = record {
    stands = unsettled_stands engine m store log w.stands (of draft_at.able) msdbs sealed unsealed spare;
    active = w.active;
  }

-- ---- the script is at its end

-- it ends as the settlement says
pub ends_so : (engine : Engine) (m : Machine) (region : ℕ) (t : Transaction) (reply : List ℕ) (ending : Ending)
    → HoldsAll engine m region t reply
    → settled_as m.history.now reply (settlement engine.defs.now m.history.now t.point.own) ≡ ending
    → IsAtEnd (rules_in engine) m region t ending
ends_so engine m region t reply ending h ends = record {
  lacks_none = h.lacks_none;
  ends = ap (ending_of (rules_in engine) m.history.now t) h.at_end.asked ∙ ap (λ (x : Ending). Some x) ends;
}

-- ---- all is settled

-- the transaction's end, with these databases behind it
abbrev pub done_as : Machine → List ℕ → Stored → Ending
done_as m reply store =
    record { outcome = outcome.Done; reply = reply; next = record m.history.now { msdbs = store.msdbs } }

module _ (engine : Engine) (m : Machine) (region : ℕ) (t : Transaction) (reply : List ℕ) (store : Stored) where
  -- its entry is the machine's
  pub done_is : (active : Active) (draft : Draft) (entry : Entry)
      → IsTransaction engine.defs.now engine.scripts.now.scripts active t
      → draft ≡ draft_of active reply
      → entry ≡ done_entry draft entry.items
      → entry ≡ entry_of t (done_as m reply store) t.notes entry.items
  done_is active draft entry is drafted e =
      let made : ℕ → List ℕ → List ℕ → Entry = λ from line notes. record {
        from = from;
        outcome = outcome.Done;
        line = line;
        reply = reply;
        notes = notes;
        items = entry.items;
      } in
      e ∙ ap (λ (d : Draft). done_entry d entry.items) drafted
      ∙ ap (λ (n : ℕ). made n active.message.line active.work.notes) is.from
      ∙ ap (λ (x : Message). made t.from x.line active.work.notes) is.message
      ∙ ap (λ (ns : List ℕ). made t.from t.message.line ns) is.notes

  -- and so is its end
  pub ends_done : (active : Active) (draft : Draft) (entry : Entry) (settled : Settlement)
      → draft ≡ draft_of active reply
      → entry ≡ done_entry draft entry.items
      → settled_as m.history.now draft.reply settled
      ≡ record { outcome = entry.outcome; reply = entry.reply; next = record m.history.now { msdbs = store.msdbs } }
      → settled_as m.history.now reply settled ≡ done_as m reply store
  ends_done active draft entry settled drafted is e =
      let next : Db = record m.history.now { msdbs = store.msdbs } in
      let of_entry : Entry → Ending = λ x. record { outcome = x.outcome; reply = x.reply; next = next } in
      let of_draft : Draft → Ending = λ d. record { outcome = outcome.Done; reply = d.reply; next = next } in
      ap (λ (text : List ℕ). settled_as m.history.now text settled) (sym (ap (λ (d : Draft). d.reply) drafted))
      ∙ e ∙ ap of_entry is ∙ ap of_draft drafted

  -- the region's transaction is done
  pub committed : (after : Engine) (items : List Item)
      → HoldsAll engine m region t reply
      → rules_in after ≡ rules_in engine
      → after.defs ≡ engine.defs
      → AreItemsOf engine.defs.now t.point.own.deferred m.history.now.msdbs store.msdbs items
      → settled_as m.history.now reply (settlement engine.defs.now m.history.now t.point.own) ≡ done_as m reply store
      → StandsFor after (ended_with region (entry_of t (done_as m reply store) t.notes items)
      (record m.history.now { msdbs = store.msdbs }) m)
      → Turned (event.Region region) m after did.Committed
  committed after items h same same_defs its ends stands =
      let ending : Ending = done_as m reply store in
      let at_end = ends_so engine m region t reply ending h ends in
      let m2 : Machine = ended_with region (entry_of t ending t.notes items) ending.next m in
      acted after m region t (Finishes ending items) m2 h.at_end.at_work.active
      (subst (λ (rules : Rules). Does rules m region t (Finishes ending items) m2) (sym same)
      (at_end, (λ fails. absurd cc), tt, refl))
      (subst (λ d. AreItemsOf d.now t.point.own.deferred m.history.now.msdbs store.msdbs items) (sym same_defs) its)
      stands
