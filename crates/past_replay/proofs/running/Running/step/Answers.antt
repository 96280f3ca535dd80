use Rattle.std.proofs.Common.{◌≡◌, ◌≤◌, subst, sym, true}
use Rattle.fp_model.specs.Asking.{full_cost}
use Rattle.txn_lang.specs.Suiting.{all_suit}
use Rattle.past_replay.specs.inside.Running.{IsEnd}
use Rattle.past_replay.proofs.GoingLemmas.{asks, moves, replies, rolls}
use Rattle.past_replay.proofs.ListLemmas.{each_has}
use Rattle.past_replay.proofs.running.Running.step.Goals as goal

pub answer-requires-clause-asking : goal.answer-requires-clause-asking
answer-requires-clause-asking g c =
    let it = c.args.it.now in
    let running = c.args.self.now in
    let count = c.requires.under.0 in
    let s = c.requires.under.1 in
    let fits = each_has (λ script. all_suit it.defs.now script.statements ≡ true) it.scripts.now.scripts
    running.program.number s.script c.requires.can.setup.suit s.numbered in (
      count,
      asks it count running s c.next.new.self c.next.ensures.number
          (c.next.ensures.at s.script s.answers s.numbered s.at) (c.next.ensures.fit it.defs.now s.fit) c.next.ensures.types c.in-Call.call
          (rw c.in-Call.is at (c.in_ok-call.ensures.exact s.script s.answers s.numbered s.at))
          (rw c.in-Call.is at c.in_ok-call.ensures.waits)
          (rw c.in-Call.is at (c.in_ok-call.ensures.suits_call s.script s.numbered c.requires.can.setup.good.each_msdb
          c.requires.can.setup.good.each_dedb fits s.fit)),
    )

pub returns-in-Call-clause-goes : goal.returns-in-Call-clause-goes
returns-in-Call-clause-goes g c count s =
    let it = c.args.it.now in
    let running = c.args.self.now in
    let fits = each_has (λ script. all_suit it.defs.now script.statements ≡ true) it.scripts.now.scripts
    running.program.number s.script c.requires.can.setup.suit s.numbered in
    c.answer.ensures.goes count (asks it count running s c.next.new.self c.next.ensures.number
    (c.next.ensures.at s.script s.answers s.numbered s.at) (c.next.ensures.fit it.defs.now s.fit) c.next.ensures.types c.in-Call.call
    (rw c.in-Call.is at (c.in_ok-call.ensures.exact s.script s.answers s.numbered s.at))
    (rw c.in-Call.is at c.in_ok-call.ensures.waits)
    (rw c.in-Call.is at (c.in_ok-call.ensures.suits_call s.script s.numbered c.requires.can.setup.good.each_msdb
    c.requires.can.setup.good.each_dedb fits s.fit)))

pub returns-in-Call-clause-ends : goal.returns-in-Call-clause-ends
returns-in-Call-clause-ends g c count s =
    let it = c.args.it.now in
    let running = c.args.self.now in
    let fits = each_has (λ script. all_suit it.defs.now script.statements ≡ true) it.scripts.now.scripts
    running.program.number s.script c.requires.can.setup.suit s.numbered in
    c.answer.ensures.ends count (asks it count running s c.next.new.self c.next.ensures.number
    (c.next.ensures.at s.script s.answers s.numbered s.at) (c.next.ensures.fit it.defs.now s.fit) c.next.ensures.types c.in-Call.call
    (rw c.in-Call.is at (c.in_ok-call.ensures.exact s.script s.answers s.numbered s.at))
    (rw c.in-Call.is at c.in_ok-call.ensures.waits)
    (rw c.in-Call.is at (c.in_ok-call.ensures.suits_call s.script s.numbered c.requires.can.setup.good.each_msdb
    c.requires.can.setup.good.each_dedb fits s.fit)))

pub returns-in-Reply-clause-ends : goal.returns-in-Reply-clause-ends
returns-in-Reply-clause-ends g c count s =
    let it = c.args.it.now in
    let running = c.args.self.now in
    let cheap : full_cost s.script.statements ≤ 10000
    = each_has (λ script. full_cost script.statements ≤ 10000) it.scripts.now.scripts running.program.number s.script
    c.requires.can.setup.cheap s.numbered in
    subst (IsEnd it (record running { program = c.next.new.self })) (sym c.end.ensures)
    (replies it count (record running { program = c.next.new.self })
    (moves it count running s c.next.new.self c.next.ensures.number
    (c.next.ensures.at s.script s.answers s.numbered s.at) (c.next.ensures.fit it.defs.now s.fit) c.next.ensures.types)
    cheap c.in-Reply.reply
    (rw c.in-Reply.is at (c.in_ok-call.ensures.exact s.script s.answers s.numbered s.at)))

pub returns-in-Roll-clause-ends : goal.returns-in-Roll-clause-ends
returns-in-Roll-clause-ends g c count s =
    let it = c.args.it.now in
    let running = c.args.self.now in
    let cheap : full_cost s.script.statements ≤ 10000
    = each_has (λ script. full_cost script.statements ≤ 10000) it.scripts.now.scripts running.program.number s.script
    c.requires.can.setup.cheap s.numbered in
    subst (IsEnd it (record running { program = c.next.new.self })) (sym c.end-in-Roll.ensures)
    (rolls it count (record running { program = c.next.new.self })
    (moves it count running s c.next.new.self c.next.ensures.number
    (c.next.ensures.at s.script s.answers s.numbered s.at) (c.next.ensures.fit it.defs.now s.fit) c.next.ensures.types)
    cheap c.in-Roll.code
    (rw c.in-Roll.is at (c.in_ok-call.ensures.exact s.script s.answers s.numbered s.at)))
