use Rattle.std.proofs.Common.{◌∙◌, arith, refl}
use Rattle.dedb_storm.proofs.Banks.{bank_fits, bank_goes, bank_knows}
use Rattle.dedb_storm.proofs.bank.ask_once.Goals as goal

pub answer-requires-clause-call : goal.answer-requires-clause-call
answer-requires-clause-call g c =
    let (def, there, number, fits) = c.if-not-fits_first.ensures refl in
    bank_fits c.args.defs.now c.args.call.now def there number c.args.work.now fits

pub answer-requires-clause-known : goal.answer-requires-clause-known
answer-requires-clause-known g c =
    let (def, there, number, fits) = c.if-not-fits_first.ensures refl in
    bank_knows c.args.defs.now c.args.call.now def there number _ c.requires.going.known

pub answer-requires-clause-within : goal.answer-requires-clause-within
answer-requires-clause-within g c = omega (arith, c.requires.going.within, c.requires.going.locked.regions)

pub returns : goal.returns
returns g c =
    let (def, there, number, fits) = c.if-not-fits_first.ensures refl in
    let goes = bank_goes c.args.defs.now c.args.call.now def there number c.args.work.now c.answer.new.work
    c.in_ok-answer.ensures.others in
    record {
      going = c.in_ok-answer.ensures.of;
      some = c.requires.going.some;
      within = c.requires.going.within;
      locked = c.requires.going.locked;
      known = λ d a held. goes.known d a ∙ c.requires.going.known d a held;
    }
