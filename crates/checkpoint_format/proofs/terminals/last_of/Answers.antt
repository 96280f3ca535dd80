use Rattle.std.proofs.Common.{◌∙◌, sym, arith}
use Rattle.checkpoint_format.proofs.Numbers.{last_is, last_isnt, part_is}
use Rattle.checkpoint_format.proofs.terminals.last_of.Goals as goal

pub returns-in-Some : goal.returns-in-Some
returns-in-Some c =
    last_is c.args.bytes.now c.split_at.result.0.now c.split_at.result.1.now c.in_ok-number.number
    c.in_ok-number.rest.now c.in_ok-line.line c.in_ok-line.rest.now c.in-Some.lterm
    (part_is 8 c.args.bytes.now _ _ (omega (arith, c.if-bytes-lt8.false)) c.split_at.ensures.front
    c.split_at.ensures.back)
    c.in_ok-number.ensures.value c.in_ok-line.ensures (sym c.stored_name-name.ensures ∙ c.in-Some.is)

pub returns-in-None : goal.returns-in-None
returns-in-None c = λ other.
    last_isnt c.args.bytes.now c.split_at.result.0.now c.split_at.result.1.now c.in_ok-number.number
    c.in_ok-number.rest.now c.in_ok-line.line c.in_ok-line.rest.now
    (part_is 8 c.args.bytes.now _ _ (omega (arith, c.if-bytes-lt8.false)) c.split_at.ensures.front
    c.split_at.ensures.back)
    c.in_ok-number.ensures.value c.in_ok-line.ensures (sym c.stored_name-name.ensures ∙ c.in-None.is)
