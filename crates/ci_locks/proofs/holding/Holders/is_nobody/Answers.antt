use Rattle.std.proofs.Common.{◌≡◌, ◌||◌, ℕ, Bool, true, false, Option, Some, None, ap, sym, ◌∙◌}
use Rattle.std.specs.Prelude.{IfSome, IsSome, is_some, not}
use Rattle.ci_locks.specs.Holdings.{mode_by}
use Rattle.ci_locks.specs.Sets.{has}
use Rattle.ci_locks.proofs.holding.Holders.is_nobody.Goals as goal

some_mode : (share exclusive : Bool) → (share || exclusive) ≡ true → IsSome (mode_by share exclusive)
some_mode share true e = search
some_mode true false e = search
some_mode false false e = absurd (cc)

found : (o : Option ℕ) (P : ℕ → Type 0) → is_some o ≡ true → IfSome o P → (n : ℕ) × P n
found None P some p = absurd (cc)
found (Some n) P some p = (n, p)

pub returns-clause-some : goal.returns-clause-some
returns-clause-some c some =
    let f = found c.first.result (λ region. has c.or.result.0 region ≡ true) (c.is_none.ensures ∙ ap not some)
    c.first.ensures.some in
    (f.0, some_mode (has c.args.self.share.0 f.0) (has c.args.self.exclusive.0 f.0) (sym (c.or.ensures f.0) ∙ f.1))
