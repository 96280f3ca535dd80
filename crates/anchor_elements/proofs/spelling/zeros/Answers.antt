use Rattle.std.proofs.lemmas.List.{get_or-replicate}
use Rattle.anchor_elements.proofs.spelling.zeros.Goals as goal

pub returns : goal.returns
returns c = λ k x y. get_or-replicate 4096 k 0 0 y
