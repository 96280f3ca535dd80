use Rattle.std.proofs.Common.{◌∙◌, List, ℕ, ap, false}
use Rattle.dedb_calls.specs.inside.Inserts.{with_queued}
use Rattle.dedb_calls.specs.Progress.{DedbProgress, position_in}
use Rattle.dedb_calls.specs.inside.Progress.{with_position_at}
use Rattle.dedb_calls.proofs.get.Database.queue.Goals as goal

pub returns-clause-work : goal.returns-clause-work
returns-clause-work c def =
    c.let_go.ensures
    ∙ ap (λ (w : DedbProgress). with_position_at c.args.self.number
    (record (position_in w c.args.self.number) { held = false }) w) c.in_ok-queue.ensures.ok
    ∙ ap (λ (key : List ℕ). with_queued c.args.self.number (record {
      dedb = c.args.self.number;
      anchor = c.args.new.anchor;
      key = key;
      bytes = c.args.new.bytes;
    }) c.args.work.now) (c.in_ok-key.ensures def c.args.self.number)
