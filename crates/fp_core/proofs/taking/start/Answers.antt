use Rattle.std.proofs.Common.{◌∙◌, refl}
use Rattle.fp_core.proofs.taking.start.Goals as goal

pub returns : goal.returns
returns c from tries refusal kept = record {
  from = refl;
  message = refl;
  short = c.requires.short;
  tries = refl;
  refusal = kept;
  own = c.in_ok-work.ensures.own;
  notes = c.in_ok-work.ensures.notes;
  of = c.in_ok-work.ensures.of;
  changes = refl;
  inserts = refl;
  script = c.requires.named.0;
  named = c.requires.named.1;
  numbered = rw c.start-program.ensures.number (c.in-Some.ensures.script ∙ c.requires.named.1);
  at = c.start-program.ensures.at c.args.defs.now c.requires.named.0.statements c.args.message.now;
  fit = c.start-program.ensures.fit c.args.defs.now;
  ahead = tt;
}
