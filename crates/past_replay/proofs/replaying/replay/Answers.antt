use Rattle.std.proofs.Common.{◌≡◌, ◌∙◌, ◌+◌, ap, arith, length, subst, sym, true, List}
use Rattle.std.specs.List.{AllByRecursion}
use Rattle.fp_model.specs.declared.calls.AnchorChange.{AnchorChange}
use Rattle.fp_model.specs.declared.calls.Deferred.{Deferred}
use Rattle.fp_model.specs.declared.calls.SeqInsert.{SeqInsert}
use Rattle.fp_model.specs.declared.log.Outcome.TheVariants.{Roll}
use Rattle.fp_model.specs.Commit.{settlement}
use Rattle.fp_model.specs.FitCalls.{IsFitDeferred}
use Rattle.fp_model.specs.Serial.{Ends, refused_as, settled_as}
use Rattle.past_segments.specs.Pasts.{databases_at}
use Rattle.past_replay.specs.declared.running.End.TheVariants as ends
use Rattle.past_replay.specs.Ends.{with_next}
use Rattle.past_replay.specs.inside.Running.{IsEnd}
use Rattle.past_replay.specs.States.{state_at}
use Rattle.past_replay.proofs.SettledLemmas.{shows_next}
use Rattle.past_replay.proofs.replaying.replay.Goals as goal
use Rattle.state_laws.specs.Parts.{FitsAnchorChange, FitsSeqInsert, changes_ascend}
use Rattle.plain_laws.proofs.Results.{if_ok_then}
use Rattle.past_settling.proofs.BackLemmas.{ends_later}

pub returns-in_err-running-clause-settled : goal.returns-in_err-running-clause-settled
returns-in_err-running-clause-settled g c = ends_later c.args.place c.args.pasts.now c.requires.settled

pub returns-in_err-reply-clause-settled : goal.returns-in_err-reply-clause-settled
returns-in_err-reply-clause-settled g c = ends_later c.args.place c.args.pasts.now c.requires.settled

pub returns-in_err-parts-in-Replies-clause-settled : goal.returns-in_err-parts-in-Replies-clause-settled
returns-in_err-parts-in-Replies-clause-settled g c =
    ends_later c.args.place c.args.pasts.now c.requires.settled

pub returns-in-Stuck-clause-settled : goal.returns-in-Stuck-clause-settled
returns-in-Stuck-clause-settled g c = ends_later c.args.place c.args.pasts.now c.requires.settled

pub returns-in-Rolls-clause-settled : goal.returns-in-Rolls-clause-settled
returns-in-Rolls-clause-settled g c = ends_later c.args.place c.args.pasts.now c.requires.settled

-- what the transaction hands in fits
pub commit-requires-clause-fit : goal.commit-requires-clause-fit
commit-requires-clause-fit g c =
    let end : IsEnd _ c.run.new.self (ends.Replies c.in-Replies.reply)
    = subst (IsEnd _ c.run.new.self) c.in-Replies.is c.in_ok-reply.ensures in
    subst (λ (queue : List Deferred). AllByRecursion (IsFitDeferred c.args.defs.now.msdbs) queue)
    (sym c.in_ok-parts-in-Replies.ensures.deferred) end.kept.of.deferred

pub commit-requires-clause-few : goal.commit-requires-clause-few
commit-requires-clause-few g c =
    let end : IsEnd _ c.run.new.self (ends.Replies c.in-Replies.reply)
    = subst (IsEnd _ c.run.new.self) c.in-Replies.is c.in_ok-reply.ensures in
    let few : length c.in_ok-parts-in-Replies.parts.deferred ≡ length c.run.new.self.work.own.deferred
    = ap length c.in_ok-parts-in-Replies.ensures.deferred in
    omega (arith, few, end.kept.few)

pub commit-requires-clause-fits : goal.commit-requires-clause-fits
commit-requires-clause-fits g c =
    let defs = c.args.defs.now in
    let now = state_at c.args.place c.args.pasts.now c.args.anchors.now in
    let end : IsEnd _ c.run.new.self (ends.Replies c.in-Replies.reply)
    = subst (IsEnd _ c.run.new.self) c.in-Replies.is c.in_ok-reply.ensures in
    let state = end.kept.fits.state in
    let its = c.in_ok-parts-in-Replies.ensures in
    record {
      msdbs = databases_at c.args.place c.args.pasts.now;
      in_order = subst (λ (changes : List AnchorChange). changes_ascend changes ≡ true) (sym its.changes) state.in_order;
      changed = subst (λ (changes : List AnchorChange). AllByRecursion (FitsAnchorChange defs now) changes)
          (sym its.changes) state.changes;
      inserted = subst (λ (inserts : List SeqInsert). AllByRecursion (FitsSeqInsert defs) inserts) (sym its.inserts)
          state.inserts;
    }

pub returns-in_ok-parts-in-Replies-clause-alone : goal.returns-in_ok-parts-in-Replies-clause-alone
returns-in_ok-parts-in-Replies-clause-alone g c now states are =
    let defs = c.args.defs.now in
    let reply = c.in-Replies.reply in
    let own = c.run.new.self.work.own in
    let end : IsEnd _ c.run.new.self (ends.Replies reply)
    = subst (IsEnd _ c.run.new.self) c.in-Replies.is c.in_ok-reply.ensures in
    let its = c.in_ok-parts-in-Replies.ensures in
    if_ok_then c.commit.result
    (c.commit.ensures.alone own
    (record { deferred = sym its.deferred; changes = sym its.changes; inserts = sym its.inserts }))
    (λ alone so.
    end.is now states are
    ∙ ap (λ db. Ends (settled_as db reply (settlement defs db own))) are.here
    ∙ so)

pub returns-in-Rolls-clause-alone : goal.returns-in-Rolls-clause-alone
returns-in-Rolls-clause-alone g c now states are =
    let place = c.args.place in
    let pasts = c.args.pasts.now in
    let dedbs = c.args.anchors.now in
    let next = state_at (place + 1) pasts dedbs in
    let end : IsEnd _ c.run.new.self (ends.Rolls c.in-Rolls.code)
    = subst (IsEnd _ c.run.new.self) c.in-Rolls.is c.in_ok-reply.ensures in
    end.is now states are
    ∙ ap (λ db. Ends (refused_as (Roll c.in-Rolls.code) db))
    (are.here ∙ ap (λ msdbs. record { msdbs = msdbs; dedbs = dedbs })
    (sym (shows_next place pasts c.requires.settled)))
    ∙ ap (with_next next) (sym (c.ended.ensures ∙ c.roll.ensures))
