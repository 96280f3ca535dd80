use Rattle.std.proofs.Common.{◌≡◌, ◌==◌, ◌∙◌, Some, ap, sym, ℕ}
use Rattle.std.specs.Prelude.{if◌then◌else◌}
use Rattle.ci_locks.specs.Holdings.{held_by, mode_of}
use Rattle.ci_locks.specs.inside.Standing.{raised}
use Rattle.ci_locks.proofs.Modes.{gain_held, gain_modes}
use Rattle.ci_locks.proofs.holding.Holdings.gain.Goals as goal
use Rattle.ci_locks.proofs.holding.Holdings.gain.Goals.{In_ok-put}

abbrev Found : In_ok-put → Type 0
Found c = (other : ℕ) → mode_of c.with-holders.result other
    ≡ (if other == c.args.region then Some (raised (held_by c.args.self.now c.args.region c.args.resource.now)
    c.args.mode) else held_by c.args.self.now other c.args.resource.now)

with_it : (c : In_ok-put) → Found c
with_it c other =
    c.with-holders.ensures other
    ∙ ap (λ m. if other == c.args.region then Some (raised m c.args.mode) else mode_of c.holders.result other)
    (c.holders.ensures c.args.region)
    ∙ ap (λ m. if other == c.args.region then Some (raised (held_by c.args.self.now c.args.region c.args.resource.now)
    c.args.mode) else m) (c.holders.ensures other)

pub returns-in_err-put-clause-held : goal.returns-in_err-put-clause-held
returns-in_err-put-clause-held c one holders is =
    c.requires.held one holders (sym (c.in_err-put.ensures.err one) ∙ is)

pub returns-clause-modes : goal.returns-clause-modes
returns-clause-modes c = gain_modes c.args.self.now c.put.new.self c.args.resource.now c.args.region c.args.mode
    c.with-holders.result c.in_ok-put.ensures.ok (with_it c)

pub returns-clause-held : goal.returns-clause-held
returns-clause-held c = gain_held c.args.self.now c.put.new.self c.args.resource.now c.args.region c.args.mode
    c.with-holders.result c.in_ok-put.ensures.ok (with_it c) c.requires.held
