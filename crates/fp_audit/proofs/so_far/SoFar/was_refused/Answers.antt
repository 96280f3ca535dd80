use Rattle.std.proofs.Common.{subst, arith}
use Rattle.fp_audit.specs.inside.Judging.{IsRequest, rules_by}
use Rattle.fp_audit.proofs.StateLemmas.{stays_now}
use Rattle.fp_audit.proofs.so_far.SoFar.was_refused.Goals as goal

pub returns-in-Run : goal.returns-in-Run
returns-in-Run c = λ h stands. record {
  message = c.in-Run.message;
  is_request = subst (λ request. IsRequest request ((rules_by c.args.self.now).request_of h c.args.e.now.line)) c.in-Run.is
      (c.in_ok-request.ensures.is h stands);
  in_order = omega (arith, c.if-e-self.false, stands.place);
  same = stays_now c.args.self.now h c.requires.ready stands;
}
