use Rattle.std.proofs.Common.{subst, ◌≡◌, take, false}
use Rattle.fp_model.specs.State.{with_segment}
use Rattle.fp_model.specs.Texts.{same_text}
use Rattle.past_settling.proofs.OneLemmas.{past_good}
use Rattle.past_settling.proofs.one.put.Goals as goal
use Rattle.state_laws.proofs.Settling.{with_good}

pub returns-clause-leaves : goal.returns-clause-leaves
returns-clause-leaves c = record {
  is = past_good c.args.def.now c.args.place (with_segment c.args.def.now c.args.bytes) c.put.result c.args.past.now
      c.put.new.self c.requires.is c.put.ensures.count
      (λ msdb good. with_good c.args.def.now c.args.bytes msdb c.requires.whole good)
      (λ p le. c.put.ensures.from c.args.def.now p c.requires.is.keys le) c.put.ensures.before c.put.ensures.err;
  settled = c.put.ensures.settled;
  before = c.put.ensures.before;
  late = λ other differs. c.put.ensures.late other
      (subst (λ n. same_text (take n c.args.bytes) other ≡ false) c.requires.is.keys differs);
}
