use Rattle.log_format.proofs.Bodies.{not_bad, one_place}
use Rattle.log_format.proofs.laws.the_first_bad_place_is_one.Goals as goal

pub returns : goal.returns
returns c = record { apart = not_bad; one = one_place }
