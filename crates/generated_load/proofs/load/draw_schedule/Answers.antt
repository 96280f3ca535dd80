use Rattle.std.proofs.Common.{◌≡◌, ◌≤◌, arith, rules}
use Rattle.generated_load.specs.Load.{tokens_behind}
use Rattle.generated_load.proofs.Loads.{token_put, tokens_done}
use Rattle.generated_load.proofs.load.draw_schedule.Goals as goal

pub loop-preserved : goal.loop-preserved
loop-preserved c =
    token_put c.args.count c.loop.counter c.loop.draws.state c.put_token.new.draws.state c.loop.text
    c.put_token.new.into (tokens_behind c.args.count c.args.draws.now.state) c.loop-test.true
    c.put_token.ensures.state (search rules) c.loop.invariant

pub returns : goal.returns
returns c =
    let past : c.args.count ≤ c.loop.counter = omega arith in
    tokens_done c.args.count c.loop.counter c.loop.draws.state c.loop.text _ past c.loop.invariant
