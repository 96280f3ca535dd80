use Rattle.std.proofs.Common.{◌≡◌, ◌++◌, ◌≤◌, arith, rules, codes}
use Rattle.generated_load.specs.Load.{line, messages_behind, state_behind}
use Rattle.generated_load.proofs.Loads.{message_put, messages_done, state_done, state_put}
use Rattle.generated_load.proofs.load.draw_messages.Goals as goal

pub loop-preserved : goal.loop-preserved
loop-preserved c =
    let it = c.loop.invariant in
    let first = c.args.draws.now.state in
    record {
      text = message_put c.args.count c.loop.counter c.loop.draws.state c.put_message.new.draws.state c.loop.text
          c.put_message.new.into (line (codes "T1 NEWCUST C001 ANN") ++ messages_behind c.args.count first)
          c.loop-test.true c.put_message.ensures.state (search rules) it.text;
      state = state_put c.args.count c.loop.counter c.loop.draws.state c.put_message.new.draws.state first
          c.loop-test.true c.put_message.ensures.state it.state;
    }

pub returns-clause-text : goal.returns-clause-text
returns-clause-text c =
    let past : c.args.count ≤ c.loop.counter = omega arith in
    messages_done c.args.count c.loop.counter c.loop.draws.state c.loop.text _ past c.loop.invariant.text

pub returns-clause-state : goal.returns-clause-state
returns-clause-state c =
    let past : c.args.count ≤ c.loop.counter = omega arith in
    state_done c.args.count c.loop.counter c.loop.draws.state (state_behind c.args.count c.args.draws.now.state) past
    c.loop.invariant.state
