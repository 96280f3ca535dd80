use Rattle.std.proofs.Common.{arith, ◌≡◌, ◌∙◌, ◌≤◌, ℕ, List, length, sym, subst}
use Rattle.std.specs.Prelude.{Contains, Err, IfOk, Ok, Result}
use Rattle.fp_model.specs.Waiting.{Lock, waits, with_request}
use Rattle.ci_locks.specs.Cycles.{IsFirstCycle, first_cycle}
use Rattle.ci_locks.specs.inside.Regions.{standing_of}
use Rattle.ci_locks.specs.Standing.{IfCycle, IsGrant, Shows, locks_after, requests_after}
use Rattle.ci_locks.specs.declared.locks.Grant.{Grant}
use Rattle.ci_locks.specs.declared.locks.Grant.TheVariants as grant
use Rattle.ci_locks.proofs.Bridge.{long_rows, rows_long, shows_code, shows_rows, standing_is, stands}
use Rattle.ci_locks.proofs.Firsts.{is_first_cycle}
use Rattle.ci_locks.proofs.locks.Locks.ask.Goals as goal
use Rattle.plain_laws.proofs.Results.{if_ok_by}
use Rattle.std.proofs.lemmas.Result.{on_err_weaker}

named : {E : Type 0} (regions : ℕ) (locks requests : List Lock) (wanted : Lock)
    → ((lock : Lock) → Contains locks lock → (1 ≤ lock.region) × (lock.region ≤ regions))
    → (r : Result Grant E) → IfOk r (IsGrant regions locks requests wanted)
    → IfOk r (λ grant. IfCycle grant (λ list. length list ≤ regions))
    → IfOk r (λ grant. IfCycle grant
    (IsFirstCycle (waits (with_request wanted requests) locks) wanted.region))
    → IfOk r (λ grant. IfCycle grant (λ list. list ≡ first_cycle regions (with_request wanted requests) locks
    wanted.region))
named regions locks requests wanted within (Ok grant.Held) granted short first = tt
named regions locks requests wanted within (Ok (grant.Wait holders)) granted short first = tt
named regions locks requests wanted within (Ok (grant.Cycle list)) granted short first =
    let P : List ℕ → Type 0 = λ l. length l ≤ regions in
    let Q : List ℕ → Type 0 = IsFirstCycle (waits (with_request wanted requests) locks) wanted.region in
    granted.1 ∙ is_first_cycle regions (with_request wanted requests) locks wanted.region granted.0 within granted.2
    granted.3 (subst P granted.1 short) (subst Q granted.1 first)
named regions locks requests wanted within (Err e) granted short first = tt

pub ask-requires-clause-within : goal.ask-requires-clause-within
ask-requires-clause-within c = let l = long_rows c.self.inside.state c.args.self.now c.self.view_is in
    omega (arith, c.requires.within, l)

pub returns-clause-grant : goal.returns-clause-grant
returns-clause-grant c locks requests shows =
    let wanted : Lock = record { region = c.args.region; resource = c.args.resource.now; mode = c.args.mode } in
    let P : ℕ → Type 0 = λ n. IfOk c.ask.result (IsGrant n locks requests wanted) in
    subst P (sym (long_rows c.self.inside.state c.args.self.now c.self.view_is))
    (c.ask.ensures.grant locks requests (shows_code c.self.inside.state c.args.self.now locks requests c.self.invariant
    c.self.view_is shows))

pub returns-clause-short : goal.returns-clause-short
returns-clause-short c =
    let P : ℕ → Type 0 = λ n. IfOk c.ask.result (λ grant. IfCycle grant (λ list. length list ≤ n)) in
    subst P (sym (long_rows c.self.inside.state c.args.self.now c.self.view_is)) c.ask.ensures.short

pub returns-clause-first : goal.returns-clause-first
returns-clause-first c locks requests shows =
    c.ask.ensures.first locks requests
    (shows_code c.self.inside.state c.args.self.now locks requests c.self.invariant c.self.view_is shows)

pub returns-clause-named : goal.returns-clause-named
returns-clause-named c locks requests shows =
    let wanted : Lock = record { region = c.args.region; resource = c.args.resource.now; mode = c.args.mode } in
    let inner = shows_code c.self.inside.state c.args.self.now locks requests c.self.invariant c.self.view_is shows in
    let long = sym (long_rows c.self.inside.state c.args.self.now c.self.view_is) in
    let P : ℕ → Type 0 = λ n. IfOk c.ask.result (IsGrant n locks requests wanted) in
    let Q : ℕ → Type 0 = λ n. IfOk c.ask.result (λ grant. IfCycle grant (λ list. length list ≤ n)) in
    named (length c.args.self.now) locks requests wanted shows.within c.ask.result
    (subst P long (c.ask.ensures.grant locks requests inner)) (subst Q long c.ask.ensures.short)
    (c.ask.ensures.first locks requests inner)

pub returns-clause-after : goal.returns-clause-after
returns-clause-after c locks requests shows =
    let wanted : Lock = record { region = c.args.region; resource = c.args.resource.now; mode = c.args.mode } in
    if_ok_by (λ (grant : Grant). Shows (standing_of c.ask.new.self) (locks_after grant wanted locks)
    (requests_after grant wanted requests)) _ c.ask.result
    (λ grant after. shows_rows c.ask.new.self (locks_after grant wanted locks) (requests_after grant wanted requests)
    c.ask.ensures.sound after)
    (c.ask.ensures.after locks requests (shows_code c.self.inside.state c.args.self.now locks requests c.self.invariant
    c.self.view_is shows))

pub returns-clause-regions : goal.returns-clause-regions
returns-clause-regions c = rows_long c.ask.new.self.holdings 0 c.ask.new.self.regions.items ∙ c.ask.ensures.regions ∙
    sym (long_rows c.self.inside.state c.args.self.now c.self.view_is)

pub returns-clause-err : goal.returns-clause-err
returns-clause-err c =
    on_err_weaker c.ask.result (λ same. standing_is c.ask.new.self c.ask.ensures.sound ∙ same ∙ stands c.self.inside.state
    c.args.self.now c.self.invariant c.self.view_is) c.ask.ensures.err
