use Rattle.std.proofs.Common.{[], drop, refl, ap, arith, rules}
use Rattle.log_format.specs.Reading.{many_at}
use Rattle.log_groups.specs.Images.{as_front}
use Rattle.log_groups.specs.Log.{entries_in}
use Rattle.log_groups.proofs.Shutting.{length-front}
use Rattle.log_groups.proofs.log.Log.open.Goals as goal

pub invariant_of-result : goal.invariant_of-result
unfolding entries_in many_at
invariant_of-result g c =
    let front = as_front c.args.front.now in
    let fits = c.requires.fits in
    record {
      each = tt;
      count = refl;
      text = ap (drop 8) c.in_ok-buffer.ensures.items;
      header = omega arith;
      room = search rules;
      limit = omega (arith, c.gate.ensures, length-front front, fits.defs_fit, fits.scripts_fit);
      fewer = omega arith;
    }

pub returns-clause-log : goal.returns-clause-log
unfolding entries_in many_at
returns-clause-log g c = ap (λ n. record {
  front_format = c.in-Some.format;
  format = c.in-Some.format;
  sealed = 0;
  gate = n;
  unsealed = [];
  spare = 0;
}) c.gate.ensures
