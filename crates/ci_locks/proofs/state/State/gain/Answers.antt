use Rattle.std.proofs.Common.{refl, arith, ◌≡◌, ◌∙◌, ◌++◌, ◌∷◌, [], ◌<◌, ◌-◌, ℕ, List, suc, length, None, ap, sym, subst}
use Rattle.std.specs.Prelude.{Contains}
use Rattle.std.specs.Vec.{with_item, with_items}
use Rattle.fp_model.specs.declared.calls.Resource.{Resource}
use Rattle.ci_locks.specs.declared.state.News.{News}
use Rattle.ci_locks.specs.declared.state.News.TheVariants as news
use Rattle.ci_locks.specs.declared.state.Region.{Region}
use Rattle.ci_locks.specs.declared.state.State.{State}
use Rattle.std.proofs.lemmas.List.{with_items_is}
use Rattle.ci_locks.specs.Regions.{region_at}
use Rattle.ci_locks.specs.inside.Regions.{AreTold}
use Rattle.ci_locks.proofs.Regions.{at_old}
use Rattle.ci_locks.proofs.Sounds.{contains_end, contains_more, gains_now, gains_sound, lists_sound, lists_stand}
use Rattle.ci_locks.proofs.state.State.gain.Goals as goal
use Rattle.plain_laws.proofs.Results.{on_err}

pub returns-clause-ok : goal.returns-clause-ok
returns-clause-ok c =
    let s = c.args.self.now in
    let place = c.from.result - 1 in
    let within : place < length s.regions.items = omega (arith, c.from.ensures, c.requires.some, c.requires.within) in
    let number : c.args.region ≡ suc place = omega (arith, c.from.ensures, c.requires.some) in
    let r : Region = c.index_mut-gaining.result.now in
    let next : Region = record { held = c.push.new.self; request = None; ahead = c.empty-gaining.result } in
    let t : State = record {
      regions = with_items (with_item s.regions place next) c.tell.new.regions;
      holdings =
          c.gain.new.self;
    } in
    let all : t.regions.items ≡ c.tell.new.regions =
    with_items_is (with_item s.regions place next) c.tell.new.regions
    (c.tell.ensures.long ∙ c.deref_mut.ensures.len) in
    let n : News = news.Gained c.args.resource c.in_ok-holders.holders in
    let pushed : c.push.new.self.items ≡ r.held.items ++ c.args.resource.now ∷ [] =
    c.in_ok-push.ensures.items ∙ ap (λ x. r.held.items ++ x ∷ []) c.in_ok-copy_of.ensures in
    let Q : List Region → Type 0 = λ list. (k : ℕ) → AreTold n k (region_at c.deref_mut.result.now k) (region_at list k)
    in
    let P : Resource → List Resource → Type 0 = λ one list. Contains list one in
    gains_now s t c.deref_mut.result.now place c.args.region r next c.args.resource.now c.args.mode n
    c.in_ok-holders.holders c.requires.sound within number
    (at_old s.regions.items place c.args.region r within number c.index_mut-gaining.ensures.value)
    c.deref_mut.ensures.value refl c.empty-gaining.ensures (ap length all ∙ c.tell.ensures.long)
    (subst Q (sym all) c.tell.ensures.all)
    (λ one has_it. subst (P one) (sym pushed) (contains_more r.held.items c.args.resource.now one has_it))
    (subst (P c.args.resource.now) (sym pushed) (contains_end r.held.items c.args.resource.now))
    c.in_ok-holders.ensures.modes (λ k request old other. refl) c.in_ok-holders.ensures.holders c.gain.ensures.held

pub returns-clause-sound : goal.returns-clause-sound
returns-clause-sound c =
    let s = c.args.self.now in
    let place = c.from.result - 1 in
    let within : place < length s.regions.items = omega (arith, c.from.ensures, c.requires.some, c.requires.within) in
    let number : c.args.region ≡ suc place = omega (arith, c.from.ensures, c.requires.some) in
    let r : Region = c.index_mut-gaining.result.now in
    let next : Region = record { held = c.push.new.self; request = None; ahead = c.empty-gaining.result } in
    let t : State = record {
      regions = with_items (with_item s.regions place next) c.tell.new.regions;
      holdings =
          c.gain.new.self;
    } in
    let all : t.regions.items ≡ c.tell.new.regions =
    with_items_is (with_item s.regions place next) c.tell.new.regions
    (c.tell.ensures.long ∙ c.deref_mut.ensures.len) in
    let n : News = news.Gained c.args.resource c.in_ok-holders.holders in
    let pushed : c.push.new.self.items ≡ r.held.items ++ c.args.resource.now ∷ [] =
    c.in_ok-push.ensures.items ∙ ap (λ x. r.held.items ++ x ∷ []) c.in_ok-copy_of.ensures in
    let Q : List Region → Type 0 = λ list. (k : ℕ) → AreTold n k (region_at c.deref_mut.result.now k) (region_at list k)
    in
    let P : Resource → List Resource → Type 0 = λ one list. Contains list one in
    gains_sound s t c.deref_mut.result.now place c.args.region r next c.args.resource.now c.args.mode n
    c.in_ok-holders.holders c.requires.sound within number
    (at_old s.regions.items place c.args.region r within number c.index_mut-gaining.ensures.value)
    c.deref_mut.ensures.value refl c.empty-gaining.ensures (ap length all ∙ c.tell.ensures.long)
    (subst Q (sym all) c.tell.ensures.all)
    (λ one has_it. subst (P one) (sym pushed) (contains_more r.held.items c.args.resource.now one has_it))
    (subst (P c.args.resource.now) (sym pushed) (contains_end r.held.items c.args.resource.now))
    c.in_ok-holders.ensures.modes (λ k request old other. refl) c.in_ok-holders.ensures.holders c.gain.ensures.held

pub returns-in_err-copy_of-clause-sound : goal.returns-in_err-copy_of-clause-sound
returns-in_err-copy_of-clause-sound c =
    let s = c.args.self.now in
    let place = c.from.result - 1 in
    let within : place < length s.regions.items = omega (arith, c.from.ensures, c.requires.some, c.requires.within) in
    let number : c.args.region ≡ suc place = omega (arith, c.from.ensures, c.requires.some) in
    let r : Region = c.index_mut-gaining.result.now in
    let t : State = record { regions = with_item s.regions place r; holdings = s.holdings } in
    lists_sound s t place c.args.region r r refl within number
    (at_old s.regions.items place c.args.region r within number c.index_mut-gaining.ensures.value) refl
    (λ other one. refl) c.requires.sound (λ other. refl) (λ one has_it. has_it) c.requires.sound.held

pub returns-in_err-push-clause-err : goal.returns-in_err-push-clause-err
returns-in_err-push-clause-err c =
    let s = c.args.self.now in
    let place = c.from.result - 1 in
    let within : place < length s.regions.items = omega (arith, c.from.ensures, c.requires.some, c.requires.within) in
    let number : c.args.region ≡ suc place = omega (arith, c.from.ensures, c.requires.some) in
    let r : Region = c.index_mut-gaining.result.now in
    let next : Region = record { held = c.push.new.self; request = r.request; ahead = r.ahead } in
    let t : State = record { regions = with_item s.regions place next; holdings = s.holdings } in
    on_err c.from_residual-in_err-push.result (lists_stand s t place c.args.region r next refl within number
    (at_old s.regions.items place c.args.region r within number c.index_mut-gaining.ensures.value) refl
    (λ other one. refl))

pub returns-in_err-push-clause-sound : goal.returns-in_err-push-clause-sound
returns-in_err-push-clause-sound c =
    let s = c.args.self.now in
    let place = c.from.result - 1 in
    let within : place < length s.regions.items = omega (arith, c.from.ensures, c.requires.some, c.requires.within) in
    let number : c.args.region ≡ suc place = omega (arith, c.from.ensures, c.requires.some) in
    let r : Region = c.index_mut-gaining.result.now in
    let next : Region = record { held = c.push.new.self; request = r.request; ahead = r.ahead } in
    let t : State = record { regions = with_item s.regions place next; holdings = s.holdings } in
    lists_sound s t place c.args.region r next refl within number
    (at_old s.regions.items place c.args.region r within number c.index_mut-gaining.ensures.value) refl
    (λ other one. refl) c.requires.sound (λ other. refl)
    (λ one has_it. let P : List Resource → Type 0 = λ list. Contains list one in
    subst P (sym c.in_err-push.ensures.items) has_it) c.requires.sound.held

pub returns-in_err-holders-clause-err : goal.returns-in_err-holders-clause-err
returns-in_err-holders-clause-err c =
    let s = c.args.self.now in
    let place = c.from.result - 1 in
    let within : place < length s.regions.items = omega (arith, c.from.ensures, c.requires.some, c.requires.within) in
    let number : c.args.region ≡ suc place = omega (arith, c.from.ensures, c.requires.some) in
    let r : Region = c.index_mut-gaining.result.now in
    let next : Region = record { held = c.push.new.self; request = r.request; ahead = r.ahead } in
    let t : State = record { regions = with_item s.regions place next; holdings = c.gain.new.self } in
    on_err c.from_residual-in_err-holders.result (lists_stand s t place c.args.region r next refl within number
    (at_old s.regions.items place c.args.region r within number c.index_mut-gaining.ensures.value) refl
    c.in_err-holders.ensures.err)

pub returns-in_err-holders-clause-sound : goal.returns-in_err-holders-clause-sound
returns-in_err-holders-clause-sound c =
    let s = c.args.self.now in
    let place = c.from.result - 1 in
    let within : place < length s.regions.items = omega (arith, c.from.ensures, c.requires.some, c.requires.within) in
    let number : c.args.region ≡ suc place = omega (arith, c.from.ensures, c.requires.some) in
    let r : Region = c.index_mut-gaining.result.now in
    let next : Region = record { held = c.push.new.self; request = r.request; ahead = r.ahead } in
    let t : State = record { regions = with_item s.regions place next; holdings = c.gain.new.self } in
    lists_sound s t place c.args.region r next refl within number
    (at_old s.regions.items place c.args.region r within number c.index_mut-gaining.ensures.value) refl
    c.in_err-holders.ensures.err c.requires.sound (λ other. refl)
    (λ one has_it. let P : List Resource → Type 0 = λ list. Contains list one in
    subst P (sym (c.in_ok-push.ensures.items ∙ ap (λ x. r.held.items ++ x ∷ []) c.in_ok-copy_of.ensures))
    (contains_more r.held.items c.args.resource.now one has_it)) c.gain.ensures.held
