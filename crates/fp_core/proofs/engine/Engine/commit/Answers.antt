use Rattle.std.proofs.lemmas.List.{length-set}
use Rattle.std.proofs.Common.{◌≡◌, refl, ◌∙◌, sym, ap, subst, arith, [], ◌∷◌, ◌++◌, ◌+◌, ◌≤◌, ℕ, ◌-◌, List, length, Option}
use Rattle.std.specs.Prelude.{Err, ◌↔◌}
use Rattle.std.specs.VecDeque.{deque_capacity}
use Rattle.fp_model.specs.declared.calls.Deferred.{Deferred}
use Rattle.fp_model.specs.declared.calls.Message.{Message}
use Rattle.fp_model.specs.declared.database.Db.{Db}
use Rattle.fp_model.specs.declared.database.Msdb.{Msdb}
use Rattle.fp_model.specs.declared.log.Entry.{Entry}
use Rattle.fp_model.specs.declared.log.Outcome.TheVariants as outcome
use Rattle.fp_model.specs.Commit.{settlement}
use Rattle.fp_model.specs.Items.{with_items}
use Rattle.fp_model.specs.Lasts.{Last, last_by}
use Rattle.fp_model.specs.Machine.{ended_with, entry_of}
use Rattle.fp_model.specs.Serial.{refused_as, settled_as}
use Rattle.msdb_store.specs.Settling.{HasItem, IsNamed}
use Rattle.sync_point.specs.declared.committing.Cause.{Cause}
use Rattle.sync_point.specs.declared.committing.Draft.{Draft}
use Rattle.sync_point.specs.Drafts.{IsEnd}
use Rattle.sync_point.specs.Refusals.{refusal_room}
use Rattle.fp_core.specs.declared.engine.Engine.{Engine}
use Rattle.fp_core.specs.declared.engine.Region.{Region}
use Rattle.fp_core.specs.Numbering.{last_told}
use Rattle.fp_core.specs.inside.Numbering.{with_used}
use Rattle.fp_core.specs.Relation.{StandsFor, owed_of}
use Rattle.fp_core.specs.Turning.{AreItemsOf}
use Rattle.fp_core.proofs.Commits.{at_work_is, at_work_still, committed, done_as, done_is, draft_at, ends_done, ends_so, reply_is_short}
use Rattle.fp_core.proofs.Ends.{ended_at, may_end, room_within, uses_last}
use Rattle.fp_core.proofs.engine.Engine.commit.Goals as goal

pub commit-requires-clause-able : goal.commit-requires-clause-able
commit-requires-clause-able c =
    let engine = c.args.self.now in
    let h = c.requires.holds in (
      engine.defs.now.msdbs,
      (draft_at engine h.0 c.args.region h.1.0 c.active_in-active.result.now c.args.reply
          c.in_ok-draft.draft h.1.1.at_end.at_work c.active_in-active.ensures.there c.in_ok-draft.ensures).able,
    )

pub commit-requires-clause-reply : goal.commit-requires-clause-reply
commit-requires-clause-reply c =
    let engine = c.args.self.now in
    let h = c.requires.holds in
    let w = h.1.1.at_end.at_work in
    let active = c.active_in-active.result.now in
    let is = at_work_is engine h.0 c.args.region h.1.0 active c.args.reply c.in_ok-draft.draft w
    c.active_in-active.ensures.there c.in_ok-draft.ensures in
    let same : length c.in_ok-draft.draft.reply ≡ length c.args.reply =
    ap (λ (d : Draft). length d.reply) c.in_ok-draft.ensures in
    omega (arith, same, reply_is_short engine h.0 h.1.0 active w.stands is c.args.reply h.1.1.at_end.asked)

pub fail-requires-clause-under : goal.fail-requires-clause-under
fail-requires-clause-under c =
    let engine = c.args.self.now in
    let h = c.requires.holds in
    let e = c.in-Err-Verify.ensures in (
      h.0,
      (
        h.1.0,
        at_work_still engine h.0 c.args.region h.1.0 c.active_in-active.result.now c.args.reply c.in_ok-draft.draft
            h.1.1.at_end.at_work
            c.active_in-active.ensures.there c.in_ok-draft.ensures c.commit.new.msdbs c.commit.new.log
            (e.of engine.defs.now.msdbs) e.segments e.sealed e.waiting e.spare,
      ),
    )

pub returns-in-Ok-clause-turned : goal.returns-in-Ok-clause-turned
returns-in-Ok-clause-turned c m t h =
    let engine = c.args.self.now in
    let region = c.args.region in
    let reply = c.args.reply in
    let active = c.active_in-active.result.now in
    let draft = c.in_ok-draft.draft in
    let w = h.at_end.at_work in
    let u = may_end engine m region t w in
    let is = at_work_is engine m region t active reply draft w c.active_in-active.ensures.there c.in_ok-draft.ensures in
    let handed = draft_at engine m region t active reply draft w c.active_in-active.ensures.there c.in_ok-draft.ensures
    in
    let e = c.in-Ok.ensures in
    let entry = c.in-Ok.entry in
    let store = c.commit.new.msdbs in
    let log = c.commit.new.log in
    let owed = c.push_back_reserved.new.self in
    let lasts = c.keep.new.lasts in
    let room : ℕ = engine.room - c.refusal_room.result in
    let next : Db = record m.history.now { msdbs = store.msdbs } in
    let made : Entry = entry_of t (done_as m reply store) t.notes entry.items in
    let done : entry ≡ made = done_is engine m region t reply store active draft entry is c.in_ok-draft.ensures e.entry
    in
    let line : length active.message.line ≡ length t.message.line = ap (λ message. length message.line) is.message in
    let most = room_within engine m region t u in
    let slots : deque_capacity engine.owed ≤ deque_capacity owed =
    omega (arith, c.push_back_reserved.ensures.capacity) in
    let less : room + refusal_room t.message.line ≡ engine.room =
    omega (arith, most, line, c.refusal_room.ensures.room) in
    let spare : room ≤ log.spare = omega (arith, w.stands.spare, e.spare) in
    let unsealed : log.unsealed ≡ engine.log.unsealed ++ made ∷ [] =
    e.unsealed ∙ ap (λ (x : Entry). engine.log.unsealed ++ x ∷ []) done in
    let owes : owed.items ≡ engine.owed.items ++ owed_of made ∷ [] =
    c.push_back_reserved.ensures.items ∙ ap (λ o. engine.owed.items ++ o ∷ []) c.owed_of.ensures ∙ ap
    (λ (x : Entry). engine.owed.items ++ owed_of x ∷ []) done in
    let used : lasts.terminals ≡ with_used (last_by engine.format made) engine.lasts.terminals =
    uses_last engine m region t u made engine.lasts.terminals lasts.terminals refl refl
    (c.keep.ensures.terminals ∙ ap (λ (o : Option Last). with_used o engine.lasts.terminals)
    (c.in_ok-kept.ensures ∙ ap (λ (text : List ℕ). last_told active.message outcome.Done text) c.as_slice.ensures
    ∙ ap (λ (x : Message). last_told x outcome.Done reply) is.message)) in
    let items : with_items engine.defs.now.msdbs m.history.now.msdbs entry.items ≡ store.msdbs =
    ap (λ (msdbs : List Msdb). with_items engine.defs.now.msdbs msdbs entry.items) w.stands.msdbs ∙ sym
    (e.msdbs engine.defs.now.msdbs handed.able) in
    let after : List Region → Engine = λ rs. record engine {
      regions = rs;
      locks = c.release_all.new.self;
      store = store;
      log = log;
      owed = owed;
      room = room;
      lasts = lasts;
    } in
    let its : AreItemsOf engine.defs.now t.point.own.deferred m.history.now.msdbs store.msdbs entry.items = record {
      kinds = e.kinds engine.defs.now.msdbs handed.able;
      in_order = e.in_order engine.defs.now.msdbs handed.able;
      keys = subst (λ (calls : List Deferred). (number : ℕ) (key : List ℕ) → HasItem entry.items number key
          ↔ IsNamed engine.defs.now.msdbs calls number key) (sym handed.deferred)
          (e.keys engine.defs.now.msdbs handed.able);
      fit = e.fit engine.defs.now handed.able;
      made = items;
    } in
    committed engine m region t reply store (after c.set_region.new.regions) entry.items h refl refl its
    (ends_done engine m region t reply store active draft entry (settlement engine.defs.now m.history.now t.point.own)
    c.in_ok-draft.ensures e.entry (e.end engine.defs.now m.history.now t.point.own handed))
    (subst (λ rs. StandsFor (after rs) (ended_with region made next m)) (sym c.set_region.ensures)
    (ended_at engine m region t made next c.release_all.new.self store log owed room lasts u
    c.release_all.ensures.lists c.release_all.ensures.regions
    e.sealed unsealed owes slots less spare (e.of engine.defs.now.msdbs handed.able) refl refl used
    c.keep.ensures.spare
    (record { fit = e.fit engine.defs.now handed.able; made = items })))

pub returns-in-Err-Verify-clause-turned : goal.returns-in-Err-Verify-clause-turned
returns-in-Err-Verify-clause-turned c m t h =
    let engine = c.args.self.now in
    let region = c.args.region in
    let active = c.active_in-active.result.now in
    let draft = c.in_ok-draft.draft in
    let w = h.at_end.at_work in
    let e = c.in-Err-Verify.ensures in
    let handed = draft_at engine m region t active c.args.reply draft w c.active_in-active.ensures.there
    c.in_ok-draft.ensures in
    let settled = settlement engine.defs.now m.history.now t.point.own in
    let still = at_work_still engine m region t active c.args.reply draft w c.active_in-active.ensures.there
    c.in_ok-draft.ensures
    c.commit.new.msdbs c.commit.new.log (e.of engine.defs.now.msdbs) e.segments e.sealed e.waiting e.spare in
    let ends : settled_as m.history.now draft.reply settled ≡ refused_as
    (outcome.Verify c.in-Err-Verify.call c.in-Err-Verify.fsa c.in-Err-Verify.found) m.history.now =
    subst (λ (f : Cause). IsEnd m.history.now c.commit.new.msdbs.msdbs (Err f)
    (settled_as m.history.now draft.reply settled)) c.in-Err-Verify.field-0-is
    (e.end engine.defs.now m.history.now t.point.own handed) in
    c.fail.ensures.turned m t still (ends_so engine m region t c.args.reply
    (refused_as (outcome.Verify c.in-Err-Verify.call c.in-Err-Verify.fsa c.in-Err-Verify.found) m.history.now) h
    (ap (λ (text : List ℕ). settled_as m.history.now text settled)
    (sym (ap (λ (d : Draft). d.reply) c.in_ok-draft.ensures)) ∙ ends))

pub returns-in-Err-Verify-clause-err : goal.returns-in-Err-Verify-clause-err
returns-in-Err-Verify-clause-err c m t w =
    let engine = c.args.self.now in
    let e = c.in-Err-Verify.ensures in
    c.fail.ensures.err m t (at_work_still engine m c.args.region t c.active_in-active.result.now c.args.reply
    c.in_ok-draft.draft w c.active_in-active.ensures.there c.in_ok-draft.ensures
    c.commit.new.msdbs c.commit.new.log (e.of engine.defs.now.msdbs) e.segments e.sealed e.waiting e.spare)

pub returns-clause-err : goal.returns-clause-err
returns-clause-err c m t w =
    let engine = c.args.self.now in
    let e = c.in-Err-Memory.ensures in
    may_end (record engine { store = c.commit.new.msdbs; log = c.commit.new.log }) m c.args.region t
    (at_work_still engine m c.args.region t c.active_in-active.result.now c.args.reply c.in_ok-draft.draft w
    c.active_in-active.ensures.there c.in_ok-draft.ensures
    c.commit.new.msdbs c.commit.new.log (e.of engine.defs.now.msdbs) e.segments e.sealed e.waiting e.spare)

pub returns-in-Ok-clause-count : goal.returns-in-Ok-clause-count
returns-in-Ok-clause-count c = ap length c.set_region.ensures ∙ length-set c.args.self.now.regions _ _
