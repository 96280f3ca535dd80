-- What bodies and proofs need of Paths, beside what contracts say.
use Rattle.std.specs.Prelude.{List, Option, option_map}
use Rattle.fp_model.specs.Order.{Step}
use Rattle.dli_tree.specs.declared.path.Path.{Path}
use Rattle.dli_tree.specs.Paths.{steps_of}

-- the steps of a path, if there is one
abbrev pub path_steps : Option Path → Option (List Step)
path_steps path = option_map (λ p. steps_of p.steps) path
