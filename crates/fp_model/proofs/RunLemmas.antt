-- Laws of runs: the last machine, one run behind another, and IN on a drained machine.
use Rattle.std.proofs.Common.{◌≡◌, List, [], ◌∷◌, ◌++◌, Some, None, ap, ◌∙◌, subst}
use Rattle.std.specs.Prelude.{unwrap_or, slice_get}
use Rattle.std.specs.Option.{option_map_or}
use Rattle.fp_model.specs.Rules.{Rules}
use Rattle.fp_model.specs.Machine.{Machine, next_line, taken_in, with_line, without_line}
use Rattle.fp_model.specs.Runs.{RunStep, Runs, machine_after, IsDrained}

module _ (rules : Rules) where
  pub last_machine : (m : Machine) (steps : List RunStep) (m2 : Machine) → Runs rules m steps m2
      → m2 ≡ machine_after m steps
  last_machine m [] m2 r = r
  last_machine m (step ∷ steps) m2 r = last_machine step.after steps m2 r.1

  pub runs_joined : (m : Machine) (a b : List RunStep) (mid m2 : Machine) → Runs rules m a mid → Runs rules mid b m2
      → Runs rules m (a ++ b) m2
  runs_joined m [] b mid m2 r s = let P : Machine → Type 0 = λ x. Runs rules x b m2 in subst P r s
  runs_joined m (step ∷ steps) b mid m2 r s = (r.0, runs_joined step.after steps b mid m2 r.1 s)

  no_next : (m : Machine) → m.held ≡ None → m.lines ≡ [] → next_line m ≡ None
  no_next m none empty =
      ap (λ h. unwrap_or (option_map_or (λ line. Some (Some line)) h None) (slice_get m.lines 0)) none
      ∙ ap (λ lines. slice_get lines 0) empty

  pub drained_in : (m : Machine) → IsDrained rules m → taken_in rules m ≡ m
  drained_in m d =
      ap (λ next. option_map_or (λ line. with_line rules line (without_line m)) next m) (no_next m d.no_held d.no_line)
