use Rattle.state_laws.proofs.Serials.{sequential_good}
use Rattle.state_laws.proofs.laws.a_sequential_insert_keeps_its_database.Goals as goal

pub returns : goal.returns
returns c = λ def dedb area anchor ends roots key bytes good fits. sequential_good def dedb area anchor ends roots key
    bytes good fits
