use Rattle.std.proofs.Common.{ℕ, ◌≡◌, ◌∙◌, ◌+◌, ap, sym, subst, Err, List, []}
use Rattle.std.specs.Prelude.{Result}
use Rattle.fp_model.specs.declared.database.Db.{Db}
use Rattle.fp_model.specs.declared.database.Dedb.{Dedb}
use Rattle.fp_model.specs.declared.log.Outcome.{Outcome}
use Rattle.fp_model.specs.declared.log.Outcome.TheVariants.{SeqFull, Verify}
use Rattle.fp_model.specs.Commit.{Settlement}
use Rattle.fp_model.specs.Serial.{Ends, refused_as, settled_as}
use Rattle.fp_model.specs.Settle.{settle}
use Rattle.fp_model.specs.Workspace.{Workspace}
use Rattle.past_anchors.specs.Fullness.{full_as}
use Rattle.past_segments.specs.Pasts.{databases_at}
use Rattle.past_settling.specs.declared.fault.QueueFault.{QueueFault}
use Rattle.past_settling.specs.declared.fault.QueueFault.TheVariants as fault
use Rattle.past_settling.specs.Queues.{IsQueue, OnFound}
use Rattle.past_replay.specs.declared.alone.Alone.{Alone}
use Rattle.past_replay.specs.declared.alone.Alone.TheVariants as alone
use Rattle.past_replay.specs.Ends.{with_next}
use Rattle.past_replay.specs.States.{state_at}
use Rattle.past_replay.proofs.EndLemmas.{refused_same, settlement_fails, settlement_fills}
use Rattle.past_replay.proofs.SettledLemmas.{shows_next}
use Rattle.past_replay.proofs.settling.refuse.Goals as goal

pub returns-in-Ok-clause-alone : goal.returns-in-Ok-clause-alone
returns-in-Ok-clause-alone c dedbs own reply hands full =
    let defs = c.args.defs.now in
    let place = c.args.place in
    let now : Db = state_at place c.args.pasts.now dedbs in
    let its = c.args.full in
    let next = databases_at (place + 1) c.try_settle.new.pasts in
    let queue = c.try_settle.ensures.queue in
    let same : next ≡ now.msdbs
    = subst (λ (r : Result (Unit {0}) QueueFault).
    OnFound r ((p : ℕ) → databases_at p c.try_settle.new.pasts ≡ databases_at p c.args.pasts.now)) c.in-Ok.is
    c.try_settle.ensures.stays (place + 1) ∙ shows_next place c.args.pasts.now c.requires.settled in
    ap (λ (s : Settlement). Ends (settled_as now reply s))
    (settlement_fills defs now own queue.0 (full_as its)
    (ap (λ calls. settle defs.msdbs now.msdbs calls) hands.deferred
    ∙ subst (λ (r : Result (Unit {0}) QueueFault). IsQueue defs.msdbs c.args.parts.now.deferred now.msdbs r queue.0)
    c.in-Ok.is queue.1)
    (full now.msdbs))
    ∙ refused_same (SeqFull its.set its.begin its.end its.n) now.msdbs next dedbs (sym same)
    ∙ ap (with_next (state_at (place + 1) c.try_settle.new.pasts dedbs)) (sym c.fill.ensures)

pub returns-in-Err-Verify-clause-alone : goal.returns-in-Err-Verify-clause-alone
returns-in-Err-Verify-clause-alone c dedbs own reply hands full =
    let defs = c.args.defs.now in
    let place = c.args.place in
    let now : Db = state_at place c.args.pasts.now dedbs in
    let fails = c.in-Err-Verify in
    let said : c.verify.result ≡ alone.Ends (Verify fails.call fails.fsa fails.found) []
    = rw fails.field-0-is at c.verify.ensures in
    let is : c.try_settle.result ≡ Err (fault.Verify fails.call fails.fsa fails.found)
    = fails.is ∙ ap Err fails.field-0-is in
    let next = databases_at (place + 1) c.try_settle.new.pasts in
    let queue = c.try_settle.ensures.queue in
    let same : next ≡ now.msdbs
    = subst (λ (r : Result (Unit {0}) QueueFault).
    OnFound r ((p : ℕ) → databases_at p c.try_settle.new.pasts ≡ databases_at p c.args.pasts.now)) is
    c.try_settle.ensures.stays (place + 1) ∙ shows_next place c.args.pasts.now c.requires.settled in
    ap (λ (s : Settlement). Ends (settled_as now reply s))
    (settlement_fails defs now own fails.call fails.fsa fails.found
    (ap (λ calls. settle defs.msdbs now.msdbs calls) hands.deferred
    ∙ subst (λ (r : Result (Unit {0}) QueueFault). IsQueue defs.msdbs c.args.parts.now.deferred now.msdbs r queue.0) is
    queue.1))
    ∙ refused_same (Verify fails.call fails.fsa fails.found) now.msdbs next dedbs (sym same)
    ∙ ap (with_next (state_at (place + 1) c.try_settle.new.pasts dedbs)) (sym said)
