use Rattle.std.proofs.Common.{subst, sym}
use Rattle.std.specs.List.{AllByRecursion}
use Rattle.fp_model.specs.WellFormed.{IsMsdbDef}
use Rattle.call_tests.proofs.queues.settled.Goals as goal

pub settle-requires-clause-fit : goal.settle-requires-clause-fit
settle-requires-clause-fit c =
    let r = c.requires in (
      r.0,
      record {
        of = r.6;
        defined = subst (AllByRecursion IsMsdbDef) (sym r.2) (r.3, tt);
        fit =
            c.in_ok-queue.ensures.fit r.0 r.1 r.2 r.4 r.5;
      },
    )

pub returns : goal.returns
returns c defs def is good long short of =
    c.settle.ensures defs (record {
      of = of;
      defined = subst (AllByRecursion IsMsdbDef) (sym is) (good, tt);
      fit =
          c.in_ok-queue.ensures.fit defs def is long short;
    })
