use Rattle.std.proofs.Common.{refl, arith, ◌≡◌, ◌∙◌, ◌<◌, ◌-◌, ℕ, List, suc, length, None, ap, sym, subst}
use Rattle.std.specs.Vec.{with_item, with_items}
use Rattle.ci_locks.specs.declared.state.News.TheVariants as news
use Rattle.ci_locks.specs.declared.state.Region.{Region}
use Rattle.ci_locks.specs.declared.state.State.{State}
use Rattle.std.proofs.lemmas.List.{with_items_is}
use Rattle.ci_locks.specs.Regions.{region_at}
use Rattle.ci_locks.specs.inside.Regions.{AreTold}
use Rattle.ci_locks.proofs.Regions.{at_old}
use Rattle.ci_locks.proofs.Sounds.{frees_now, frees_sound}
use Rattle.ci_locks.proofs.state.State.free.Goals as goal

pub leave_all-requires-clause-listed : goal.leave_all-requires-clause-listed
leave_all-requires-clause-listed c one mode held =
    let s = c.args.self.now in
    let place = c.from.result - 1 in
    let within : place < length s.regions.items = omega (arith, c.from.ensures, c.requires.some, c.requires.within) in
    let number : c.args.region ≡ suc place = omega (arith, c.from.ensures, c.requires.some) in
    let r : Region = c.index_mut-freed.result.now in
    c.requires.sound.listed c.args.region r (at_old s.regions.items place c.args.region r within number
    c.index_mut-freed.ensures.value) one mode held

pub returns-clause-after : goal.returns-clause-after
returns-clause-after c =
    let s = c.args.self.now in
    let place = c.from.result - 1 in
    let within : place < length s.regions.items = omega (arith, c.from.ensures, c.requires.some, c.requires.within) in
    let number : c.args.region ≡ suc place = omega (arith, c.from.ensures, c.requires.some) in
    let next : Region = record { held = c.leave_all.new.held; request = None; ahead = c.empty-freed.result } in
    let t : State = record {
      regions = with_items (with_item s.regions place next) c.tell.new.regions;
      holdings =
          c.leave_all.new.holdings;
    } in
    let all : t.regions.items ≡ c.tell.new.regions =
    with_items_is (with_item s.regions place next) c.tell.new.regions
    (c.tell.ensures.long ∙ c.deref_mut.ensures.len) in
    let Q : List Region → Type 0 = λ list. (k : ℕ) → AreTold (news.Freed c.args.region) k
    (region_at c.deref_mut.result.now k) (region_at list k) in
    frees_now s t c.deref_mut.result.now place c.args.region next (news.Freed c.args.region) c.requires.sound within
    number
    c.deref_mut.ensures.value refl c.empty-freed.ensures (ap length all ∙ c.tell.ensures.long)
    (subst Q (sym all) c.tell.ensures.all) c.leave_all.ensures.modes (λ k request old other. refl)
    c.leave_all.ensures.held

pub returns-clause-sound : goal.returns-clause-sound
returns-clause-sound c =
    let s = c.args.self.now in
    let place = c.from.result - 1 in
    let within : place < length s.regions.items = omega (arith, c.from.ensures, c.requires.some, c.requires.within) in
    let number : c.args.region ≡ suc place = omega (arith, c.from.ensures, c.requires.some) in
    let next : Region = record { held = c.leave_all.new.held; request = None; ahead = c.empty-freed.result } in
    let t : State = record {
      regions = with_items (with_item s.regions place next) c.tell.new.regions;
      holdings =
          c.leave_all.new.holdings;
    } in
    let all : t.regions.items ≡ c.tell.new.regions =
    with_items_is (with_item s.regions place next) c.tell.new.regions
    (c.tell.ensures.long ∙ c.deref_mut.ensures.len) in
    let Q : List Region → Type 0 = λ list. (k : ℕ) → AreTold (news.Freed c.args.region) k
    (region_at c.deref_mut.result.now k) (region_at list k) in
    frees_sound s t c.deref_mut.result.now place c.args.region next (news.Freed c.args.region) c.requires.sound within
    number
    c.deref_mut.ensures.value refl c.empty-freed.ensures (ap length all ∙ c.tell.ensures.long)
    (subst Q (sym all) c.tell.ensures.all) c.leave_all.ensures.modes (λ k request old other. refl)
    c.leave_all.ensures.held
