use Rattle.area_redo.proofs.Finding.{found}
use Rattle.area_redo.proofs.restarts.a_restart_finds_the_areas.Goals as goal

pub returns : goal.returns
returns g c = record { stands = λ layout count tail whole durable. found layout count tail _ whole durable }
