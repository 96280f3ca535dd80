-- What the paths of the code stand for: steps, places and occurrences of the model.
use Rattle.std.specs.Prelude.{ℕ, List, map}
use Rattle.fp_model.specs.Order.{Occurrence, Place, Step}
use Rattle.dli_tree.specs.declared.path.Path.{Path}
use Rattle.dli_tree.specs.declared.path.Step.{Step as StepOf}

-- a step as the model has it
abbrev pub step_of : StepOf → Step
step_of s = record { segment = s.segment; key = s.key; serial = s.serial }

abbrev pub steps_of : List StepOf → List Step
steps_of steps = map step_of steps

-- a place at the anchor that is looked at, which counts as number 0
abbrev pub place_of : Path → Place
place_of p = record { anchor = 0; path = steps_of p.steps }

-- what was found: the bytes of a segment, and the steps that lead to it
abbrev pub occurrence_of : (Path × List ℕ) → Occurrence
occurrence_of found = record { path = steps_of found.0.steps; bytes = found.1 }
