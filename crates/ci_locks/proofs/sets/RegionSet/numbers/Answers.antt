use Rattle.std.proofs.Common.{◌++◌, ◌∷◌, [], ◌+◌, sym, ap, ◌∙◌}
use Rattle.ci_locks.specs.Sets.{has}
use Rattle.ci_locks.proofs.SetLemmas.{filter_last, no_more, yes_more}
use Rattle.ci_locks.proofs.sets.RegionSet.numbers.Goals as goal
use Rattle.ci_locks.proofs.sets.RegionSet.numbers.Goals.{then-has+in_ok-push, else-has}

pub loop-place-preserved : goal.loop-place-preserved
loop-place-preserved c =
    let number = c.loop-place.place + 1 in
    let more = filter_last (has c.args.self.0) c.loop-place.place in
    elim c.if-has.branch [
      | then-has+in_ok-push w ↦ w.list-is ∙ w.in_ok-push.ensures.ok ∙ ap (λ list. list ++ number ∷ [])
          c.loop-place.invariant ∙ sym (yes_more _ number (has c.args.self.0 number)
          (sym c.has.ensures ∙ w.if-has.true)) ∙ sym more
      | else-has w ↦ w.list-is ∙ c.loop-place.invariant ∙ sym
          (no_more _ number (has c.args.self.0 number) (sym c.has.ensures ∙ w.if-has.false)) ∙ sym more
    ]
