use Rattle.std.proofs.Common.{◌∙◌, ap, sym}
use Rattle.checkpoint_format.specs.Reading.{rest_at}
use Rattle.msdb_checkpoint.proofs.newest.load.Goals as goal

pub returns-in-Ok-clause-ok : goal.returns-in-Ok-clause-ok
returns-in-Ok-clause-ok g c t = (
  c.in-Ok.field-0-1.now,
  ap (rest_at c.args.defs.now) (sym (c.deref.ensures.value ∙ c.in_ok-bytes.ensures.bytes t)) ∙ c.in-Ok.ensures.given,
)

pub returns-in-Ok-clause-whole : goal.returns-in-Ok-clause-whole
returns-in-Ok-clause-whole g c t short =
    let whole = c.in-Ok.ensures.whole short in
    ((c.in-Ok.field-0-1.now, sym (c.deref.ensures.value ∙ c.in_ok-bytes.ensures.bytes t) ∙ whole.0), whole.1)
