use Rattle.std.proofs.Common.{◌≡◌, ◌<◌, ◌∙◌, Some, ap, sym, length}
use Rattle.fp_model.specs.declared.database.Root.{Root}
use Rattle.key_order.proofs.Ascending.{stands_there}
use Rattle.area_states.specs.States.{newest_serial}
use Rattle.area_states.proofs.KeyLemmas.{got_within}
use Rattle.area_states.proofs.finding.found_in.Goals as goal
use Rattle.std.proofs.lemmas.Option.{same_Some}

pub returns-in-Some-clause-some : goal.returns-in-Some-clause-some
returns-in-Some-clause-some c =
    let found = c.in-Some.ensures.found in
    let lt : c.in-Some.number < length c.args.roots.now =
    got_within c.args.roots.now c.in-Some.number found.root found.is_there in
    let there = stands_there c.args.roots.now c.in-Some.number c.index-roots-number.result lt
    ∙ ap Some (sym c.index-roots-number.is) in
    let same : c.index-roots-number.result ≡ found.root =
    same_Some c.index-roots-number.result found.root (sym there ∙ found.is_there) in
    let read : c.newest_serial.result ≡ newest_serial c.index-roots-number.result.seqs =
    c.newest_serial.ensures ∙ ap newest_serial c.as_slice.ensures
    ∙ ap (λ (r : Root). newest_serial r.seqs) (sym c.index-roots-number.is) in
    record { is_root = found; is_newest = read ∙ ap (λ (r : Root). newest_serial r.seqs) same }
