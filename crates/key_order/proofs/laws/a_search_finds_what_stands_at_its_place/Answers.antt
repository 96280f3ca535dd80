use Rattle.key_order.proofs.Ascending.{found_at}
use Rattle.key_order.proofs.laws.a_search_finds_what_stands_at_its_place.Goals as goal

pub returns : goal.returns
returns c = λ key k elements place up at. found_at key k elements place up at
