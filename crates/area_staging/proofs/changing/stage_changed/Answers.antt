use Rattle.std.proofs.Common.{rules, ℕ, ◌<◌, List, length, sym, ◌∙◌, ◌≡◌, ap, subst, arith}
use Rattle.std.specs.Prelude.{None, Some}
use Rattle.std.specs.Ordering.{nat_cmp}
use Rattle.std.specs.BTreeMap.{get}
use Rattle.std.proofs.lemmas.Bool.Decides.{nat_tests}
use Rattle.area_staging.specs.Changing.{MakeChanges}
use Rattle.area_staging.specs.Items.{is_imaged}
use Rattle.area_staging.proofs.Data.{sized_newest}
use Rattle.area_staging.proofs.Stages.{stages_then, still_shows}
use Rattle.area_staging.proofs.Least.{least_more}
use Rattle.area_staging.proofs.AtHand.{hand_then, still_at_hand}
use Rattle.area_staging.proofs.Steps.{at_last, before_more, fit_more, flags_more, item_as, order_more, some_bytes, taken, taken_staged}
use Rattle.area_staging.proofs.changing.stage_changed.Goals as goal
use Rattle.plain_laws.proofs.Alls.{no_entries}

pub stage_one-requires-clause-size : goal.stage_one-requires-clause-size
stage_one-requires-clause-size g c =
    (c.requires.changed c.in-Some.ci c.in-Some.interval
    (c.loop-ci.invariant.same c.in-Some.ci c.in-Some.interval c.in-Some.ensures.value)).0

pub stage_one-requires-clause-end : goal.stage_one-requires-clause-end
stage_one-requires-clause-end g c =
    (c.requires.changed c.in-Some.ci c.in-Some.interval
    (c.loop-ci.invariant.same c.in-Some.ci c.in-Some.interval c.in-Some.ensures.value)).1

pub returns-in_err-item-clause-stages : goal.returns-in_err-item-clause-stages
returns-in_err-item-clause-stages g c =
    stages_then g.T.Site.told g.T.Site.disk g.T.Site.faults g.T.Site.holds g.T.Site.keeps c.args.area.set
    c.args.area.size (λ s t. g.met.T.Site.lawful s t) c.args.site.now c.loop-ci.site c.stage_one.new.site
    c.args.pool.now c.loop-ci.pool c.stage_one.new.pool c.loop-ci.invariant.stages c.stage_one.ensures.stages

pub returns-in_err-add-clause-stages : goal.returns-in_err-add-clause-stages
returns-in_err-add-clause-stages g c =
    stages_then g.T.Site.told g.T.Site.disk g.T.Site.faults g.T.Site.holds g.T.Site.keeps c.args.area.set
    c.args.area.size (λ s t. g.met.T.Site.lawful s t) c.args.site.now c.loop-ci.site c.stage_one.new.site
    c.args.pool.now c.loop-ci.pool c.stage_one.new.pool c.loop-ci.invariant.stages c.stage_one.ensures.stages

pub loop-ci-preserved : goal.loop-ci-preserved
loop-ci-preserved g c =
    let inv = c.loop-ci.invariant in
    let area = c.args.area in
    let ci = c.in-Some.ci in
    let bytes = c.in-Some.interval in
    let all = get nat_cmp c.args.changed in
    let left = get nat_cmp c.loop-ci.left in
    let left2 = get nat_cmp c.pop_first.new.self in
    let was : left ci ≡ Some bytes = c.in-Some.ensures.value in
    let gone : left2 ci ≡ None = c.in-Some.ensures.updates.1 in
    let others : (k : ℕ) → (k ≡ ci → ⊥) → left2 k ≡ left k =
    λ k ne. c.in-Some.ensures.updates.2 k (search (rules, nat_tests)) in
    let apart : (k : ℕ) (b : List ℕ) → left2 k ≡ Some b → k ≡ ci → ⊥ =
    λ k b is e. (let both : Some b ≡ None = sym is ∙ ap left2 e ∙ gone in absurd cc) in
    let here : (k : ℕ) (b : List ℕ) → left2 k ≡ Some b → left k ≡ Some b =
    λ k b is. sym (others k (apart k b is)) ∙ is in
    let later : (k : ℕ) (b : List ℕ) → left2 k ≡ Some b → ci < k =
    λ k b is. (
    let least = c.in-Some.ensures.least k (some_bytes (left k) b (here k b is)) in
    let ne = apart k b is in
    grind (arith, nat_tests, least, ne)
    ) in
    let is = inv.same ci bytes was in
    let e = c.in_ok-add.ensures in
    let long : length bytes ≡ area.size = (c.requires.changed ci bytes is).0 in
    let same_long : (b : ℕ → List ℕ) (t : g.T.Site.told c.args.site.now) → _ → ci < area.count → length (b ci) ≡ length bytes =
    λ b t shown lt. (
    ap length (sym (shown.newest ci lt))
    ∙ sized_newest area.set area.size c.args.pool.now (g.T.Site.disk c.args.site.now).contents ci shown.told.sizes
    ∙ sym long
    ) in
    let flag : is_imaged c.loop-ci.imaged.items area.set ci ≡ is_imaged c.args.imaged.now.items area.set ci =
    inv.flags area.set ci in
    let shows_on = still_shows g.T.Site.told g.T.Site.disk g.T.Site.faults g.T.Site.holds g.T.Site.keeps area.set
    area.size area.count in
    record {
      stages = stages_then g.T.Site.told g.T.Site.disk g.T.Site.faults g.T.Site.holds g.T.Site.keeps area.set area.size
          (λ s t. g.met.T.Site.lawful s t) c.args.site.now c.loop-ci.site c.stage_one.new.site c.args.pool.now
          c.loop-ci.pool c.stage_one.new.pool inv.stages c.stage_one.ensures.stages;
      same = λ k b h. inv.same k b (here k b h);
      fit = fit_more area ci c.loop-ci.items c.add.new.items c.in_ok-item.item c.in_ok-item.ensures.fits e inv.fit;
      in_order = order_more area ci c.loop-ci.items c.add.new.items c.in_ok-item.item c.in_ok-item.ensures.fits e
          (inv.before ci bytes was) inv.in_order;
      before = λ k b h. before_more area ci k c.loop-ci.items c.add.new.items c.in_ok-item.item
          c.in_ok-item.ensures.fits e (later k b h) (inv.before k b (here k b h));
      flagged = flags_more c.loop-ci.imaged.items c.stage_one.new.imaged.items area ci c.loop-ci.items c.add.new.items
          c.in_ok-item.item c.in_ok-item.ensures.fits e c.requires.from c.stage_one.ensures.kept
          c.in_ok-item.ensures.flagged inv.flagged;
      flags = λ s k. c.stage_one.ensures.flags s k ∙ inv.flags s k;
      kept = λ s k h. c.stage_one.ensures.kept s k (inv.kept s k h);
      count = c.stage_one.ensures.count ∙ inv.count;
      unread = λ all. c.stage_one.ensures.unread (still_at_hand area.set area.count c.args.pool.now c.loop-ci.pool all
          (inv.hand all) ci)
          ∙ inv.unread all;
      hand = λ all s k. c.stage_one.ensures.hand (still_at_hand area.set area.count c.args.pool.now c.loop-ci.pool all
          (inv.hand all) ci) s k
          ∙ inv.hand all s k;
      made = λ t b shown.
          taken (is_imaged c.args.imaged.now.items area.set) area b ci bytes all left left2 was is gone others
          c.loop-ci.items c.add.new.items c.in_ok-item.item (inv.made t b shown)
          (item_as area ci (b ci) bytes c.in_ok-item.item (is_imaged c.loop-ci.imaged.items area.set ci)
          (is_imaged c.args.imaged.now.items area.set ci) flag
          (c.in_ok-item.ensures.item (inv.stages.continued.still_told t) b
          (shows_on b c.args.site.now c.loop-ci.site c.args.pool.now c.loop-ci.pool inv.stages t shown)))
          (same_long b t shown) e;
      least = λ t b shown.
          least_more (is_imaged c.args.imaged.now.items area.set) area b ci bytes c.loop-ci.items c.add.new.items
          c.in_ok-item.item
          (item_as area ci (b ci) bytes c.in_ok-item.item (is_imaged c.loop-ci.imaged.items area.set ci)
          (is_imaged c.args.imaged.now.items area.set ci) flag
          (c.in_ok-item.ensures.item (inv.stages.continued.still_told t) b
          (shows_on b c.args.site.now c.loop-ci.site c.args.pool.now c.loop-ci.pool inv.stages t shown)))
          e (inv.least t b shown);
      staged = λ t b shown.
          taken_staged (is_imaged c.args.imaged.now.items area.set) area b ci bytes all left left2 was is gone others
          c.loop-ci.items c.add.new.items c.in_ok-item.item c.args.pool.now c.loop-ci.pool c.stage_one.new.pool
          (inv.made t b shown)
          (item_as area ci (b ci) bytes c.in_ok-item.item (is_imaged c.loop-ci.imaged.items area.set ci)
          (is_imaged c.args.imaged.now.items area.set ci) flag
          (c.in_ok-item.ensures.item (inv.stages.continued.still_told t) b
          (shows_on b c.args.site.now c.loop-ci.site c.args.pool.now c.loop-ci.pool inv.stages t shown)))
          (same_long b t shown) e (inv.staged t b shown) c.in_ok-item.ensures.staged;
    }

pub returns-clause-made : goal.returns-clause-made
returns-clause-made g c = λ told bytes shown.
    let all = get nat_cmp c.args.changed in
    let left = get nat_cmp c.loop-ci.left in
    let none : (k : ℕ) → left k ≡ None =
    λ k. no_entries _ c.loop-ci.left.entries (λ some. c.in_default.ensures.variant.1 some) in
    subst (λ d. MakeChanges c.args.area.set c.args.area.count (is_imaged c.args.imaged.now.items c.args.area.set) bytes d
    c.loop-ci.items) (at_last all left none) (c.loop-ci.invariant.made told bytes shown)

pub returns-in_err-item-clause-hand : goal.returns-in_err-item-clause-hand
returns-in_err-item-clause-hand g c = λ all.
    hand_then c.args.pool.now c.loop-ci.pool c.stage_one.new.pool (c.loop-ci.invariant.hand all)
    (c.stage_one.ensures.hand (still_at_hand c.args.area.set c.args.area.count c.args.pool.now c.loop-ci.pool all
    (c.loop-ci.invariant.hand all) c.in-Some.ci))

pub returns-in_err-item-clause-unread : goal.returns-in_err-item-clause-unread
returns-in_err-item-clause-unread g c = λ all.
    c.stage_one.ensures.unread (still_at_hand c.args.area.set c.args.area.count c.args.pool.now c.loop-ci.pool all
    (c.loop-ci.invariant.hand all) c.in-Some.ci)
    ∙ c.loop-ci.invariant.unread all

pub returns-in_err-add-clause-hand : goal.returns-in_err-add-clause-hand
returns-in_err-add-clause-hand g c = λ all.
    hand_then c.args.pool.now c.loop-ci.pool c.stage_one.new.pool (c.loop-ci.invariant.hand all)
    (c.stage_one.ensures.hand (still_at_hand c.args.area.set c.args.area.count c.args.pool.now c.loop-ci.pool all
    (c.loop-ci.invariant.hand all) c.in-Some.ci))

pub returns-in_err-add-clause-unread : goal.returns-in_err-add-clause-unread
returns-in_err-add-clause-unread g c = λ all.
    c.stage_one.ensures.unread (still_at_hand c.args.area.set c.args.area.count c.args.pool.now c.loop-ci.pool all
    (c.loop-ci.invariant.hand all) c.in-Some.ci)
    ∙ c.loop-ci.invariant.unread all
