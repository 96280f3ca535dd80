use Rattle.std.proofs.Common.{ap}
use Rattle.std.specs.Prelude.{option_map}
use Rattle.std.specs.Option.{option_copied}
use Rattle.dli_tree.specs.inside.Aims.{aim_of}
use Rattle.dli_tree.specs.Paths.{steps_of}
use Rattle.dli_tree.proofs.reach.keys_in_reach.Goals as goal

pub returns-in-Some-within_reach : goal.returns-in-Some-within_reach
returns-in-Some-within_reach c = c.in-Some-within_reach.ensures (aim_of c.args.aim)
    (ap (λ w. option_map steps_of (option_copied w)) c.in-Some.is)

pub returns-in-Some-behind_reach : goal.returns-in-Some-behind_reach
returns-in-Some-behind_reach c = c.in-Some-behind_reach.ensures (aim_of c.args.aim)
    (ap (λ w. option_map steps_of (option_copied w)) c.in-Some-behind.is)
