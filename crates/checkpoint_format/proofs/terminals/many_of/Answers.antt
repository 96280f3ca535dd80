use Rattle.std.proofs.Common.{◌≡◌, ◌∷◌, ◌++◌, [], map, ap, ◌∙◌}
use Rattle.std.proofs.lemmas.Result.{err_from_is_err_and}
use Rattle.log_format.specs.Reading.{many_at}
use Rattle.log_format.proofs.Loop.{goes_on, ends, is_done}
use Rattle.checkpoint_format.specs.Reading.{last_at}
use Rattle.checkpoint_format.specs.inside.Terminals.{as_last}
use Rattle.checkpoint_format.proofs.terminals.many_of.Goals as goal
use Rattle.plain_laws.proofs.Lists.{map_snoc}

pub returns-in_err-terminal : goal.returns-in_err-terminal
returns-in_err-terminal c =
    let p = err_from_is_err_and c.from_residual.result c.from_residual.ensures.1 in
    rw (p.1, p.2) (ends last_at c.in_err-terminal.field-0.0 (map as_last c.loop.terminals.items) c.args.count
    c.loop.counter c.loop.rest.now (many_at last_at c.args.count c.args.bytes.now) c.loop-test.true
    c.in_err-terminal.ensures c.loop.invariant)

pub loop-preserved : goal.loop-preserved
loop-preserved c =
    let more : map as_last c.push.new.self.items ≡ map as_last c.loop.terminals.items
    ++ as_last c.in_ok-terminal.terminal ∷ [] =
    ap (map as_last) c.in_ok-push.ensures.items ∙ map_snoc as_last c.loop.terminals.items c.in_ok-terminal.terminal in
    rw more (goes_on last_at (map as_last c.loop.terminals.items) c.args.count c.loop.counter
    c.loop.rest.now (as_last c.in_ok-terminal.terminal) c.in_ok-terminal.after.now
    (many_at last_at c.args.count c.args.bytes.now) c.loop-test.true c.in_ok-terminal.ensures
    c.loop.invariant)

pub returns : goal.returns
returns c = is_done last_at (map as_last c.loop.terminals.items) c.args.count c.loop.counter c.loop.rest.now
    (many_at last_at c.args.count c.args.bytes.now) c.loop-test.false c.loop.invariant
