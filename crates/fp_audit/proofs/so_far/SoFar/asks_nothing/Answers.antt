use Rattle.std.proofs.Common.{◌+◌, subst}
use Rattle.past_replay.specs.States.{state_at}
use Rattle.fp_audit.specs.inside.Judging.{IsRequest, rules_by}
use Rattle.fp_audit.proofs.Founds.{asks_so}
use Rattle.fp_audit.proofs.StateLemmas.{stays_now}
use Rattle.fp_audit.proofs.so_far.SoFar.asks_nothing.Goals as goal

pub returns : goal.returns
returns c = λ h stands.
    let it = c.args.self.now in
    asks_so (rules_by it) h c.args.e.now (state_at (it.place + 1) it.pasts.items it.anchors) c.in-Refused.outcome c.is_same.result
    (subst (λ request. IsRequest request ((rules_by it).request_of h c.args.e.now.line)) c.in-Refused.is
    (c.in_ok-request.ensures.is h stands))
    (stays_now it h c.requires.ready stands) c.is_same.ensures
