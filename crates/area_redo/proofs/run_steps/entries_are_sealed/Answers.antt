use Rattle.std.proofs.Common.{sym, ◌∙◌, ap, take, drop}
use Rattle.std.proofs.lemmas.List.{take-append-drop}
use Rattle.area_redo.specs.Standing.{behind}
use Rattle.area_redo.proofs.Entries.{behind_more}
use Rattle.area_redo.proofs.Steps.{sealed}
use Rattle.area_redo.proofs.Opening.{may_sealed}
use Rattle.area_redo.proofs.run_steps.entries_are_sealed.Goals as goal

pub returns : goal.returns
returns g c = record {
  stands = λ layout way owed bytes n stands. sealed layout way owed bytes n _ stands;
  opening = λ layout way owed bytes n stands opening. may_sealed layout way owed bytes n _ stands opening;
  newest = λ way bytes n. sym (behind_more (take n way.unsealed) (drop n way.unsealed) bytes)
      ∙ ap (λ entries. behind entries bytes) (take-append-drop n way.unsealed);
}
