use Rattle.std.proofs.Common.{◌≡◌, ◌-◌}
use Rattle.dedb_calls.specs.inside.Progress.{roots_in}
use Rattle.fp_model.specs.Answers.{serves}
use Rattle.fp_model.specs.DedbCalls.{first_found, first_unlocked}
use Rattle.fp_model.specs.Order.{first_admitted}
use Rattle.fp_model.specs.State.{numbers_up}
use Rattle.fp_model.specs.declared.calls.Resource.TheVariants.{Anchor}
use Rattle.std.specs.Option.{option_copied}
use Rattle.dedb_calls.proofs.search.search.Given as goal

-- the anchors that are left decide
abbrev pub invariant-loop-number : goal.invariant-loop-number
invariant-loop-number g l = record {
  locked :
      first_unlocked
      (λ n. serves (g.L.AnchorLocks.modes l.reach.locks.now l.reach.work.now (Anchor l.reach.dedb n)) l.reach.mode)
      (λ anchor. first_admitted l.segments anchor (roots_in l.reach.work.now.anchors l.reach.dedb anchor)
      (option_copied l.quest.behind) (option_copied l.quest.within) l.quest.ssas.now)
      (numbers_up (l.fn.stretch.to - l.fn.stretch.from) l.fn.stretch.from)
      ≡ first_unlocked
      (λ n. serves (g.L.AnchorLocks.modes l.reach.locks.now l.reach.work.now (Anchor l.reach.dedb n)) l.reach.mode)
      (λ anchor. first_admitted l.segments anchor (roots_in l.reach.work.now.anchors l.reach.dedb anchor)
      (option_copied l.quest.behind) (option_copied l.quest.within) l.quest.ssas.now)
      (numbers_up (l.fn.stretch.to - l.number) l.number);
  found :
      first_found
      (λ anchor. first_admitted l.segments anchor (roots_in l.reach.work.now.anchors l.reach.dedb anchor)
      (option_copied l.quest.behind) (option_copied l.quest.within) l.quest.ssas.now)
      (numbers_up (l.fn.stretch.to - l.fn.stretch.from) l.fn.stretch.from)
      ≡ first_found
      (λ anchor. first_admitted l.segments anchor (roots_in l.reach.work.now.anchors l.reach.dedb anchor)
      (option_copied l.quest.behind) (option_copied l.quest.within) l.quest.ssas.now)
      (numbers_up (l.fn.stretch.to - l.number) l.number);
}
