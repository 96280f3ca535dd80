use Rattle.std.proofs.Common.{rules, ◌≡◌, ◌∙◌, ap, false, Option}
use Rattle.std.specs.Prelude.{◌==◌, option_map}
use Rattle.txn_machine.specs.Knowing.{segment_on}
use Rattle.txn_machine.specs.declared.shown.Shown.{Shown}
use Rattle.txn_machine.proofs.ShownLemmas.{found_behind}
use Rattle.txn_machine.proofs.shown.Gets.on.Goals as goal

pub returns-in-Some : goal.returns-in-Some
returns-in-Some c =
    let other : (c.args.self.now.db == c.args.db) ≡ false = search rules in
    found_behind (segment_on c.args.self.now.db c.args.self.now.newest) c.args.self.now.older c.args.db other
    ∙ ap (option_map (segment_on c.args.db)) c.in-Some.ensures

pub returns-in-None : goal.returns-in-None
returns-in-None c =
    let other : (c.args.self.now.db == c.args.db) ≡ false = search rules in
    found_behind (segment_on c.args.self.now.db c.args.self.now.newest) c.args.self.now.older c.args.db other
    ∙ ap (option_map (segment_on c.args.db)) c.in-None.ensures
