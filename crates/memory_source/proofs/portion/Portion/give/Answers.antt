use Rattle.std.proofs.Common.{ℕ, ◌≡◌, ◌-◌, List, length, arith, take, drop}
use Rattle.std.proofs.lemmas.List.{take_rest}
use Rattle.memory_source.proofs.Pieces.{piece_given}
use Rattle.memory_source.proofs.portion.Portion.give.Goals as goal

pub returns-clause-bytes : goal.returns-clause-bytes
returns-clause-bytes c =
    let it = c.args.self.now in
    let slice : List ℕ = c.as_slice.result.now in
    let same : slice ≡ it.bytes = c.as_slice.ensures in
    let rest : take (length slice - it.at) (drop it.at slice) ≡ drop it.at it.bytes = cc (take_rest slice it.at) in
    piece_given it.bytes (take (length slice - it.at) (drop it.at slice)) c.copy_from_slice.new.self _ it.at
    c.min-count.result
    rest (omega arith) c.copy_from_slice.ensures.after
