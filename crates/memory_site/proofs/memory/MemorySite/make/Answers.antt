use Rattle.std.proofs.Common.{◌≡◌, [], ◌∷◌, ap}
use Rattle.memory_site.specs.History.{contents_after, sent_after}
use Rattle.memory_site.specs.History.Event.{Opened}
use Rattle.memory_site.specs.Sets.{image_at}
use Rattle.memory_site.specs.Past.{past_of}
use Rattle.memory_site.proofs.Crashes.{opened_durable}
use Rattle.memory_site.proofs.Histories.{history_of-none}
use Rattle.memory_site.proofs.memory.MemorySite.make.Goals as goal

pub returns-clause-begins : goal.returns-clause-begins
returns-clause-begins c =
    let past = c.new-3.result in
    let is : past_of past ≡ Opened (image_at c.args.start.images) c.args.start.sent ∷ [] =
    history_of-none past.start c.args.start past.calls.items past.kept.items c.new-3.ensures.calls c.new-3.ensures.start
    in
    record {
      contents = ap contents_after is;
      durable = opened_durable (past_of past) (image_at c.args.start.images) c.args.start.sent is;
      sent = ap sent_after is;
      calls = c.in_ok-faults.ensures.2;
      faults = c.in_ok-faults.ensures.3;
      shorts = c.in_ok-faults.ensures.4;
    }
