use Rattle.std.proofs.Common.{◌≡◌, true}
use Rattle.fp_model.specs.Asking.{Asks}
use Rattle.fp_model.specs.FitCalls.{are_fit}
use Rattle.fp_core.proofs.Goings.{asks_are, is_here, moves}
use Rattle.fp_core.proofs.Places.{each_has}
use Rattle.fp_core.proofs.answering.work_out.Goals as goal

pub returns-in_err-call-clause-same : goal.returns-in_err-call-clause-same
returns-in_err-call-clause-same c t s =
    moves c.args.defs.now c.args.scripts.now.scripts c.args.active.now t s c.requires.unknown c.next.new.self
    c.in_err-call.ensures.number (c.in_err-call.ensures.at s.script t.point.answers s.numbered
    (is_here c.args.defs.now c.args.scripts.now.scripts c.args.active.now t s))
    (c.in_err-call.ensures.fit c.args.defs.now s.fit)

pub returns-in_err-segments-in-Reply-clause-same : goal.returns-in_err-segments-in-Reply-clause-same
returns-in_err-segments-in-Reply-clause-same c t s =
    moves c.args.defs.now c.args.scripts.now.scripts c.args.active.now t s c.requires.unknown c.next.new.self
    c.in_ok-call.ensures.number (c.in_ok-call.ensures.at s.script t.point.answers s.numbered
    (is_here c.args.defs.now c.args.scripts.now.scripts c.args.active.now t s))
    (c.in_ok-call.ensures.fit c.args.defs.now s.fit)

pub returns-in-Call-clause-is : goal.returns-in-Call-clause-is
returns-in-Call-clause-is c t s = record {
  asked = asks_are c.args.defs.now c.args.scripts.now.scripts c.args.active.now t s (Asks c.in-Call.call)
      (rw c.in-Call.is at (c.in_ok-call.ensures.exact s.script t.point.answers s.numbered
      (is_here c.args.defs.now c.args.scripts.now.scripts c.args.active.now t s)));
  waits = rw c.in-Call.is at c.in_ok-call.ensures.waits;
  fits = rw c.in-Call.is at (c.in_ok-call.ensures.fit_call s.script s.numbered c.requires.setup.defined.each_msdb
      (each_has (λ script. are_fit c.args.defs.now script.statements ≡ true) c.args.scripts.now.scripts
      c.args.active.now.program.number s.script c.requires.setup.fit s.numbered) s.fit);
}

pub returns-in-Call-clause-same : goal.returns-in-Call-clause-same
returns-in-Call-clause-same c t s =
    moves c.args.defs.now c.args.scripts.now.scripts c.args.active.now t s c.requires.unknown c.next.new.self
    c.in_ok-call.ensures.number (c.in_ok-call.ensures.at s.script t.point.answers s.numbered
    (is_here c.args.defs.now c.args.scripts.now.scripts c.args.active.now t s))
    (c.in_ok-call.ensures.fit c.args.defs.now s.fit)

pub returns-in_ok-segments-in-Reply-clause-same : goal.returns-in_ok-segments-in-Reply-clause-same
returns-in_ok-segments-in-Reply-clause-same c t s =
    moves c.args.defs.now c.args.scripts.now.scripts c.args.active.now t s c.requires.unknown c.next.new.self
    c.in_ok-call.ensures.number (c.in_ok-call.ensures.at s.script t.point.answers s.numbered
    (is_here c.args.defs.now c.args.scripts.now.scripts c.args.active.now t s))
    (c.in_ok-call.ensures.fit c.args.defs.now s.fit)

pub returns-in-Roll-clause-same : goal.returns-in-Roll-clause-same
returns-in-Roll-clause-same c t s =
    moves c.args.defs.now c.args.scripts.now.scripts c.args.active.now t s c.requires.unknown c.next.new.self
    c.in_ok-call.ensures.number (c.in_ok-call.ensures.at s.script t.point.answers s.numbered
    (is_here c.args.defs.now c.args.scripts.now.scripts c.args.active.now t s))
    (c.in_ok-call.ensures.fit c.args.defs.now s.fit)
