use Rattle.std.proofs.Common.{refl, rules, ◌≡◌, ◌∙◌, ◌∷◌, [], ◌≤◌, ℕ, List, length, filter, Bool, true, false, cond, not, Option, Some, None, ap, sym, subst}
use Rattle.std.specs.Prelude.{IfNone, IfSome, is_some}
use Rattle.std.proofs.lemmas.List.Elements.{filter_agree}
use Rattle.fp_model.specs.State.{numbers_up}
use Rattle.fp_model.specs.declared.calls.Resource.{Resource}
use Rattle.fp_model.specs.Waiting.{Lock, with_request, without_region}
use Rattle.ci_locks.specs.Graph.{is_in}
use Rattle.ci_locks.specs.inside.Graph.{Along, leads, next, set_at}
use Rattle.ci_locks.specs.inside.Regions.{standing_of}
use Rattle.ci_locks.specs.Sets.{has}
use Rattle.ci_locks.specs.Standing.{Shows, Standing}
use Rattle.ci_locks.specs.inside.Standing.{Asks, asking, blocking, in_way}
use Rattle.ci_locks.specs.Table.{lock_of}
use Rattle.ci_locks.specs.declared.state.Region.{Region}
use Rattle.ci_locks.proofs.Answered.{along_of, asked, closes, gains, open_way, unasked, waits_for}
use Rattle.ci_locks.proofs.Asking.{asking_is}
use Rattle.ci_locks.proofs.Members.{is_kept}
use Rattle.ci_locks.proofs.Ways.{along_by, leads_next, leads_within, next_leads, owns_all, way_within}
use Rattle.ci_locks.proofs.state.State.ask.Goals as goal

none_of : {X : Type 0} (o : Option X) (P : Type 0) → is_some o ≡ false → IfNone o P → P
none_of None P none p = p
none_of (Some x) P none p = absurd (cc)

some_of : (o : Option ℕ) (P : ℕ → Type 0) → is_some o ≡ true → IfSome o P → (n : ℕ) × P n
some_of None P some p = absurd (cc)
some_of (Some n) P some p = (n, p)

filter_none : (p : ℕ → Bool) → ((x : ℕ) → p x ≡ false) → (xs : List ℕ) → filter p xs ≡ []
filter_none p none [] = refl
filter_none p none (x ∷ xs) = ap (λ b. cond b (x ∷ filter p xs) (filter p xs)) (none x) ∙ filter_none p none xs

pub cycle_through-requires-clause-range : goal.cycle_through-requires-clause-range
cycle_through-requires-clause-range c =
    let s = c.args.self.now in
    let wanted : Lock = record { region = c.args.region; resource = c.args.resource.now; mode = c.args.mode } in
    let P : List Region → Type 0 = λ regions. (region other : ℕ)
    → has (set_at regions c.args.region c.in_way-found.result.0 region) other ≡ true → (1 ≤ other)
    × (other ≤ length regions) in
    subst P (sym c.deref.ensures.value) (leads_within s c.requires.sound wanted c.in_way-found.result.0
    c.in_way-found.ensures)

pub returns-then-is_none-clause-grant : goal.returns-then-is_none-clause-grant
returns-then-is_none-clause-grant c locks requests shows =
    let s = c.args.self.now in
    let wanted : Lock = record { region = c.args.region; resource = c.args.resource.now; mode = c.args.mode } in
    let alone = none_of c.first.result ((region : ℕ) → has c.in_way-found.result.0 region ≡ false)
    (c.is_none.ensures ∙ ap not c.if-is_none.true) c.first.ensures.none in
    open_way (standing_of s) locks requests shows wanted
    (filter_none (in_way (standing_of s) wanted) (λ other. sym (c.in_way-found.ensures other) ∙ alone other)
    (numbers_up (length s.regions.items) 1))

pub returns-then-is_none-clause-after : goal.returns-then-is_none-clause-after
returns-then-is_none-clause-after c locks requests shows =
    let wanted : Lock = record { region = c.args.region; resource = c.args.resource.now; mode = c.args.mode } in
    gains (standing_of c.args.self.now) locks requests wanted shows (standing_of c.gain.new.self) c.requires.some
    c.requires.within c.in_ok-gain.ensures.ok

pub returns-in-Some-clause-grant : goal.returns-in-Some-clause-grant
returns-in-Some-clause-grant c locks requests shows =
    let s = c.args.self.now in
    let wanted : Lock = record { region = c.args.region; resource = c.args.resource.now; mode = c.args.mode } in
    let found = rw c.in-Some.is at c.in_ok-cycle.ensures.found in
    let P : List Region → Type 0 = λ regions. Along (leads regions c.args.region c.in_way-found.result.0) c.args.region
    found.0 c.args.region in
    closes (standing_of s) locks requests wanted shows (owns_all s) c.in-Some.cycle found.0 found.1
    (along_by (leads s.regions.items c.args.region c.in_way-found.result.0)
    (next (asking (standing_of s) c.args.region (Some wanted)))
    (leads_next s c.requires.sound wanted c.in_way-found.result.0 c.in_way-found.ensures) found.0 c.args.region
    c.args.region (subst P c.deref.ensures.value found.2)) found.3

pub returns-in-Some-clause-first : goal.returns-in-Some-clause-first
returns-in-Some-clause-first c locks requests shows cycle closes apart =
    let s = c.args.self.now in
    let wanted : Lock = record { region = c.args.region; resource = c.args.resource.now; mode = c.args.mode } in
    let asks = asking (standing_of s) c.args.region (Some wanted) in
    let first = rw c.in-Some.is at c.in_ok-cycle.ensures.first in
    let P : List Region → Type 0 = λ regions. Along (leads regions c.args.region c.in_way-found.result.0) c.args.region
    cycle c.args.region in
    first cycle
    (subst P (sym c.deref.ensures.value)
    (along_by (next asks) (leads s.regions.items c.args.region c.in_way-found.result.0)
    (next_leads s c.requires.sound wanted c.in_way-found.result.0 c.in_way-found.ensures) cycle c.args.region
    c.args.region
    (along_of asks locks (with_request wanted requests) (asked (standing_of s) locks requests wanted shows) cycle
    c.args.region c.args.region closes)))
    apart

pub returns-in-Some-clause-after : goal.returns-in-Some-clause-after
returns-in-Some-clause-after c locks requests shows =
    let s = c.args.self.now in
    let P : Standing → Type 0 = λ t. Shows t locks (without_region c.args.region requests) in
    subst P (sym (asking_is (standing_of s) (standing_of c.put_request.new.self) c.args.region None
    c.put_request.ensures.after)) (unasked (standing_of s) locks requests c.args.region shows)

pub returns-in_ok-resource-in-None-clause-grant : goal.returns-in_ok-resource-in-None-clause-grant
returns-in_ok-resource-in-None-clause-grant c locks requests shows =
    let s = c.args.self.now in
    let wanted : Lock = record { region = c.args.region; resource = c.args.resource.now; mode = c.args.mode } in
    let none = rw c.in-None.is at c.in_ok-cycle.ensures.found in
    let first = some_of c.first.result (λ region. has c.in_way-found.result.0 region ≡ true)
    (c.is_none.ensures ∙ ap not c.if-is_none.false) c.first.ensures.some in
    let way : in_way (standing_of s) wanted first.0 ≡ true = sym (c.in_way-found.ensures first.0) ∙ first.1 in
    let range = way_within s c.requires.sound wanted first.0 way in
    let there : is_in (blocking (standing_of s) wanted) first.0 ≡ true =
    is_kept (in_way (standing_of s) wanted) (length s.regions.items) first.0 range.0 range.1 way in
    let holders : c.in_ok-holders-in-None.holders ≡ blocking (standing_of s) wanted =
    c.in_ok-holders-in-None.ensures ∙ ap (λ n. filter (has c.in_way-found.result.0) (numbers_up n 1)) (search rules)
    ∙ filter_agree (has c.in_way-found.result.0) (in_way (standing_of s) wanted) c.in_way-found.ensures
    (numbers_up (length s.regions.items) 1) in
    let P : List Region → Type 0 = λ regions. (cycle : List ℕ)
    → ¬ Along (leads regions c.args.region c.in_way-found.result.0) c.args.region cycle c.args.region in
    waits_for (standing_of s) locks requests wanted shows c.in_ok-holders-in-None.holders holders
    (λ empty. let wrong : false ≡ true = ap (λ list. is_in list first.0) (sym empty ∙ holders) ∙ there in absurd (cc))
    (λ cycle along. subst P c.deref.ensures.value none cycle
    (along_by (next (asking (standing_of s) c.args.region (Some wanted)))
    (leads s.regions.items c.args.region c.in_way-found.result.0)
    (next_leads s c.requires.sound wanted c.in_way-found.result.0 c.in_way-found.ensures) cycle c.args.region
    c.args.region along))

pub returns-in_ok-resource-in-None-clause-after : goal.returns-in_ok-resource-in-None-clause-after
returns-in_ok-resource-in-None-clause-after c locks requests shows =
    let s = c.args.self.now in
    let wanted : Lock = record { region = c.args.region; resource = c.args.resource.now; mode = c.args.mode } in
    let P : Standing → Type 0 = λ t. Shows t locks (with_request wanted requests) in
    subst P
    (sym (asking_is (standing_of s) (standing_of c.put_request-in-None.new.self) c.args.region (Some wanted)
    (let Q : Resource → Type 0 = λ one. Asks (standing_of s) (standing_of c.put_request-in-None.new.self) c.args.region
    (lock_of c.args.region (Some (record { resource = one; mode = c.args.mode }))) in
    subst Q c.in_ok-resource-in-None.ensures c.put_request-in-None.ensures.after)))
    (asked (standing_of s) locks requests wanted shows)
