use Rattle.std.proofs.Common.{◌≡◌, ◌<◌, ◌∙◌, ap, sym, subst, length, true, arith}
use Rattle.fp_model.specs.declared.database.Root.{Root}
use Rattle.root_anchor.specs.Chains.{newest}
use Rattle.root_anchor.specs.Stored.{is_newest}
use Rattle.area_states.specs.States.{newest_serial}
use Rattle.area_states.proofs.KeyLemmas.{got_within}
use Rattle.std.proofs.lemmas.Bool.Decides.{nat_tests}
use Rattle.area_states.proofs.Again.{none_has, serial_found}
use Rattle.area_states.proofs.Storables.{stored_newest}
use Rattle.area_states.proofs.roots.purged_serial.Goals as goal

pub returns-then-serial-begin-clause-form : goal.returns-then-serial-begin-clause-form
returns-then-serial-begin-clause-form c all =
    let types = c.args.segments.now in
    let found = c.in-Some.ensures.found in
    let lt : c.in-Some.number < length c.args.before.now =
    got_within c.args.before.now c.in-Some.number found.root found.is_there in
    let form = stored_newest types c.args.before.now c.in-Some.number c.index-before-number.result all lt
    c.index-before-number.is in
    let same : c.newest_serial-serial.result ≡ newest_serial c.index-before-number.result.seqs =
    c.newest_serial-serial.ensures ∙ ap newest_serial c.as_slice.ensures
    ∙ ap (λ (r : Root). newest_serial r.seqs) (sym c.index-before-number.is) in
    subst (λ n. is_newest types (newest n) ≡ true) (sym same) form

pub returns-in_default-clause-again : goal.returns-in_default-clause-again
returns-in_default-clause-again c = λ up number other is same low.
    absurd (none_has c.args.segments.now c.args.root.now other c.root_key.result.now c.args.before.now number
    (c.in_default.ensures.none up) is same c.root_key.ensures)

pub returns-then-serial-begin-clause-again : goal.returns-then-serial-begin-clause-again
returns-then-serial-begin-clause-again c = λ up number other is same low.
    c.newest_serial-serial.ensures ∙ ap newest_serial c.as_slice.ensures
    ∙ ap (λ (r : Root). newest_serial r.seqs) (sym c.index-before-number.is)
    ∙ serial_found c.args.segments.now c.args.root.now other c.index-before-number.result c.root_key.result.now
    c.args.before.now number c.in-Some.number up c.in-Some.ensures.found c.index-before-number.is is same
    c.root_key.ensures

pub returns-else-serial-begin-clause-again : goal.returns-else-serial-begin-clause-again
returns-else-serial-begin-clause-again c = λ up number other is same low.
    let serial : c.newest_serial-serial.result ≡ newest_serial other.seqs =
    c.newest_serial-serial.ensures ∙ ap newest_serial c.as_slice.ensures
    ∙ ap (λ (r : Root). newest_serial r.seqs) (sym c.index-before-number.is)
    ∙ serial_found c.args.segments.now c.args.root.now other c.index-before-number.result c.root_key.result.now
    c.args.before.now number c.in-Some.number up c.in-Some.ensures.found c.index-before-number.is is same
    c.root_key.ensures in
    absurd (grind (arith, nat_tests, serial, low, c.if-serial-begin.false))
