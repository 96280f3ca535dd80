use Rattle.std.proofs.Common.{◌≡◌, ◌∙◌, Some, None, sym, subst}
use Rattle.std.specs.Prelude.{IsSome}
use Rattle.ci_locks.specs.Holdings.{mode_of}
use Rattle.ci_locks.specs.declared.holding.Holders.{Holders}
use Rattle.ci_locks.proofs.Modes.{leave_held, leave_modes, left_of}
use Rattle.ci_locks.proofs.holding.Holdings.leave.Goals as goal

pub returns-then-is_nobody-clause-modes : goal.returns-then-is_nobody-clause-modes
returns-then-is_nobody-clause-modes c =
    let is = sym c.in-Some.ensures in
    leave_modes c.args.self.now c.remove.new.self c.args.resource.now c.args.region None c.remove.ensures
    (λ other. sym (c.is_nobody.ensures.none c.if-is_nobody.true other) ∙ left_of c.args.self.now c.remove.new.self
    c.args.resource.now c.args.region c.in-Some.holders c.without-left.result is c.without-left.ensures other)

pub returns-then-is_nobody-clause-held : goal.returns-then-is_nobody-clause-held
returns-then-is_nobody-clause-held c =
    let is = sym c.in-Some.ensures in
    leave_held c.args.self.now c.remove.new.self c.args.resource.now c.args.region None c.remove.ensures
    (λ other. sym (c.is_nobody.ensures.none c.if-is_nobody.true other) ∙ left_of c.args.self.now c.remove.new.self
    c.args.resource.now c.args.region c.in-Some.holders c.without-left.result is c.without-left.ensures other)
    (λ found none. absurd (cc)) c.requires.held

pub returns-else-is_nobody-clause-modes : goal.returns-else-is_nobody-clause-modes
returns-else-is_nobody-clause-modes c =
    let is = sym c.in-Some.ensures in
    leave_modes c.args.self.now c.set.new.self c.args.resource.now c.args.region (Some c.without-left.result)
    c.set.ensures
    (left_of c.args.self.now c.set.new.self c.args.resource.now c.args.region c.in-Some.holders c.without-left.result is
    c.without-left.ensures)

pub returns-else-is_nobody-clause-held : goal.returns-else-is_nobody-clause-held
returns-else-is_nobody-clause-held c =
    let is = sym c.in-Some.ensures in
    leave_held c.args.self.now c.set.new.self c.args.resource.now c.args.region (Some c.without-left.result)
    c.set.ensures
    (left_of c.args.self.now c.set.new.self c.args.resource.now c.args.region c.in-Some.holders c.without-left.result is
    c.without-left.ensures)
    (λ found one. let same : c.without-left.result ≡ found = cc in
    let P : Holders → Type 0 = λ h. (number : _) × IsSome (mode_of h number) in
    subst P same (c.is_nobody.ensures.some c.if-is_nobody.false)) c.requires.held
