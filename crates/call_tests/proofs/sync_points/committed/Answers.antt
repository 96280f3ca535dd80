use Rattle.std.proofs.Common.{subst, sym}
use Rattle.std.specs.List.{AllByRecursion}
use Rattle.fp_model.specs.WellFormed.{IsMsdbDef}
use Rattle.call_tests.proofs.sync_points.committed.Goals as goal

pub commit-requires-clause-able : goal.commit-requires-clause-able
commit-requires-clause-able c =
    let r = c.requires in (
      r.0,
      record {
        of = r.6;
        defined = subst (AllByRecursion IsMsdbDef) (sym r.2) (r.3, tt);
        fit = c.in_ok-draft.ensures.fit r.0 r.1 r.2 r.4 r.5;
      },
    )

pub returns-in-Ok : goal.returns-in-Ok
returns-in-Ok c defs def is good long short of = c.commit.ensures.of defs (record {
  of = of;
  defined = subst (AllByRecursion IsMsdbDef) (sym is) (good, tt);
  fit = c.in_ok-draft.ensures.fit defs def is long short;
})

pub returns-in-Err : goal.returns-in-Err
returns-in-Err c defs def is good long short of = c.commit.ensures.of defs (record {
  of = of;
  defined = subst (AllByRecursion IsMsdbDef) (sym is) (good, tt);
  fit = c.in_ok-draft.ensures.fit defs def is long short;
})
