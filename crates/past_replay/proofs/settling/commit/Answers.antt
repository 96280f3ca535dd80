use Rattle.std.proofs.Common.{ℕ, ◌≡◌, ◌∙◌, ◌+◌, ap, sym, subst, List, [], Err, None}
use Rattle.std.specs.Prelude.{Result, option_map}
use Rattle.fp_model.specs.declared.database.Db.{Db}
use Rattle.fp_model.specs.declared.database.Msdb.{Msdb}
use Rattle.fp_model.specs.declared.log.Outcome.TheVariants.{Verify}
use Rattle.fp_model.specs.Commit.{Commits, Settlement, first_full}
use Rattle.fp_model.specs.Serial.{Ends, settled_as}
use Rattle.fp_model.specs.Settle.{settle}
use Rattle.fp_model.specs.State.{areas_of, first_area_set}
use Rattle.past_anchors.specs.Databases.{state_of}
use Rattle.past_anchors.specs.Fullness.{full_as}
use Rattle.past_segments.specs.Pasts.{databases_at}
use Rattle.past_settling.specs.declared.fault.QueueFault.{QueueFault}
use Rattle.past_settling.specs.declared.fault.QueueFault.TheVariants as fault
use Rattle.past_settling.specs.Queues.{IfVerify, IsQueue}
use Rattle.past_replay.specs.declared.alone.Alone.TheVariants as alone
use Rattle.past_replay.specs.Ends.{with_next}
use Rattle.past_replay.specs.States.{state_at}
use Rattle.past_replay.proofs.EndLemmas.{committed_is, first_is, refused_same, settlement_fails, settlement_is}
use Rattle.past_replay.proofs.SettledLemmas.{shows_next}
use Rattle.past_replay.proofs.settling.commit.Goals as goal

pub returns-in-Ok-clause-alone : goal.returns-in-Ok-clause-alone
returns-in-Ok-clause-alone c own hands =
    let defs = c.args.defs.now in
    let place = c.args.place in
    let now : Db = state_at place c.args.pasts.now c.args.anchors.now in
    let next : List Msdb = databases_at (place + 1) c.settle.new.pasts in
    let none : option_map full_as c.first_full.result ≡ None = ap (option_map full_as) c.in_default.is in
    let room = first_is defs now own c.args.parts.inserts None hands.inserts
    (sym none ∙ c.first_full.ensures now.msdbs
    ∙ ap (λ inserts. first_full now inserts first_area_set (areas_of defs)) c.as_slice.ensures) in
    ap (λ (s : Settlement). Ends (settled_as now c.args.reply s))
    (settlement_is defs now own next
    (ap (λ queue. settle defs.msdbs now.msdbs queue) hands.deferred
    ∙ subst (λ (r : Result (Unit {0}) QueueFault). IsQueue defs.msdbs c.args.parts.deferred now.msdbs r next) c.in-Ok.is
    c.settle.ensures.queue)
    room
    ∙ ap (λ db. Commits db) (committed_is defs now own next c.args.parts.changes c.args.parts.inserts
    (state_of next c.commit.new.self) hands.changes hands.inserts (c.in_ok-commit-in-Ok.ensures.committed next)))

pub returns-in-Err-Verify-clause-alone : goal.returns-in-Err-Verify-clause-alone
returns-in-Err-Verify-clause-alone c own hands =
    let defs = c.args.defs.now in
    let place = c.args.place in
    let dedbs = c.args.anchors.now in
    let now : Db = state_at place c.args.pasts.now dedbs in
    let fails = c.in-Err-Verify in
    let said : c.verify.result ≡ alone.Ends (Verify fails.call fails.fsa fails.found) []
    = c.verify.ensures in
    let is : c.settle.result ≡ Err (fault.Verify fails.call fails.fsa fails.found)
    = fails.is ∙ ap Err fails.field-0-is in
    let next : List Msdb = databases_at (place + 1) c.settle.new.pasts in
    let same : next ≡ now.msdbs
    = subst (λ (r : Result (Unit {0}) QueueFault).
    IfVerify r ((p : ℕ) → databases_at p c.settle.new.pasts ≡ databases_at p c.args.pasts.now)) is
    c.settle.ensures.verify (place + 1) ∙ shows_next place c.args.pasts.now c.requires.settled in
    ap (λ (s : Settlement). Ends (settled_as now c.args.reply s))
    (settlement_fails defs now own fails.call fails.fsa fails.found
    (ap (λ queue. settle defs.msdbs now.msdbs queue) hands.deferred
    ∙ subst (λ (r : Result (Unit {0}) QueueFault). IsQueue defs.msdbs c.args.parts.deferred now.msdbs r next) is
    c.settle.ensures.queue))
    ∙ refused_same (Verify fails.call fails.fsa fails.found) now.msdbs next dedbs (sym same)
    ∙ ap (with_next (state_at (place + 1) c.settle.new.pasts dedbs)) (sym said)
