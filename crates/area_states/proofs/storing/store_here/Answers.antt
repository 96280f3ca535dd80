use Rattle.std.proofs.Common.{◌≡◌, ◌∙◌, ap, map, sym, subst, true}
use Rattle.std.proofs.lemmas.Result.{err_from_is_err_and}
use Rattle.anchor_elements.specs.Elements.{AreTypes}
use Rattle.std.specs.List.{AllZip}
use Rattle.fp_model.specs.Order.{root_key}
use Rattle.fp_model.specs.State.{ascend}
use Rattle.root_anchor.proofs.OneChain.{one_chain}
use Rattle.seq_dependents.specs.Control.{begin_of}
use Rattle.area_states.specs.inside.Keys.{IsKeptAs, IsOwnOf}
use Rattle.area_states.specs.Places.{part_of}
use Rattle.area_states.specs.States.{IsReadAs}
use Rattle.area_states.proofs.Alone.{alone_ok, differ_so}
use Rattle.area_states.proofs.KeyLemmas.{keys_same}
use Rattle.area_states.proofs.StateLemmas.{whole_ends}
use Rattle.area_states.proofs.Changing.{begin_stays, roots_stay, state_stays, stored_ok}
use Rattle.area_states.proofs.storing.store_here.Goals as goal
use Rattle.plain_laws.proofs.Results.{same_fault}

pub load-requires-clause-types : goal.load-requires-clause-types
load-requires-clause-types g c =
    subst (λ n. AreTypes n c.args.place.now.segments) (sym c.requires.size) c.requires.place.types

pub rewrite-requires-clause-types : goal.rewrite-requires-clause-types
rewrite-requires-clause-types g c =
    let same = c.begin_of.ensures.goes_on.same_size ∙ c.load.ensures.goes_on.same_size ∙ c.requires.size in
    subst (λ n. AreTypes n c.args.place.now.segments) (sym same) c.requires.place.types

pub rewrite-requires-clause-roots : goal.rewrite-requires-clause-roots
rewrite-requires-clause-roots g c = c.in_ok-after.ensures.form c.in_ok-before.ensures.form c.requires.roots

pub returns-in_err-before-clause-sound : goal.returns-in_err-before-clause-sound
returns-in_err-before-clause-sound g c = λ told state has ci e.
    let f = err_from_is_err_and c.from_residual.result c.from_residual.ensures.1 in
    c.in_err-before.ensures.sound told (has.formed.chains c.args.anchor c.requires.anchor) ci
    (same_fault _ _ _ _ f.1 f.2 e)

pub returns-in_err-begin-clause-sound : goal.returns-in_err-begin-clause-sound
returns-in_err-begin-clause-sound g c = λ told state has ci e.
    let f = err_from_is_err_and c.from_residual-in_err-begin.result c.from_residual-in_err-begin.ensures.1 in
    let now = state_stays c.args.place.now _ _ state (c.load.ensures.same told) has in
    c.in_err-begin.ensures.sound (c.load.ensures.goes_on.tells told) now.whole.control ci
    (same_fault _ _ _ _ f.1 f.2 e)

pub returns-clause-stored : goal.returns-clause-stored
returns-clause-stored g c = λ told state has own.
    let place = c.args.place.now in
    let told1 = c.load.ensures.goes_on.tells told in
    let told2 = c.begin_of.ensures.goes_on.tells told1 in
    let same1 = c.load.ensures.same told in
    let same2 = c.begin_of.ensures.same told1 ∙ same1 in
    let roots = roots_stay place _ _ c.args.anchor _ same2 (c.in_ok-before.ensures.roots told) in
    let now = state_stays place _ _ state same2 has in
    let e = c.rewrite.ensures in
    stored_ok place (g.I.Intervals.intervals c.args.i.now) (g.I.Intervals.intervals c.begin_of.new.i)
    (g.I.Intervals.intervals c.rewrite.new.i) c.args.anchor c.in_ok-begin.begin c.args.roots.now
    c.in_ok-after.after state c.rewrite.result c.requires.place c.requires.anchor same2
    (c.in_ok-begin.ensures.begin told1 ∙ begin_stays _ _ same1) has own c.in_ok-after.ensures.kept
    (e.stored told2 roots now.formed) (e.others told2 roots now.formed) (e.sequential told2 now.formed)
    (e.formed told2 roots now.formed)

pub returns-clause-sound : goal.returns-clause-sound
returns-clause-sound g c = λ told state has ci e.
    let told1 = c.load.ensures.goes_on.tells told in
    let told2 = c.begin_of.ensures.goes_on.tells told1 in
    let same2 = c.begin_of.ensures.same told1 ∙ c.load.ensures.same told in
    let now = state_stays c.args.place.now _ _ state same2 has in
    c.rewrite.ensures.sound told2 now.formed.in_order (now.formed.chains c.args.anchor c.requires.anchor) ci e

pub returns-clause-alone : goal.returns-clause-alone
returns-clause-alone g c = λ told state has own up differ.
    let place = c.args.place.now in
    let old = g.I.Intervals.intervals c.args.i.now in
    let told1 = c.load.ensures.goes_on.tells told in
    let told2 = c.begin_of.ensures.goes_on.tells told1 in
    let same1 = c.load.ensures.same told in
    let same2 = c.begin_of.ensures.same told1 ∙ same1 in
    let before = c.in_ok-before.before in
    let after = c.in_ok-after.after in
    let here = c.in_ok-before.ensures.roots told in
    let mine = has.anchors c.args.anchor c.requires.anchor in
    let same : mine.kept ≡ before = (one_chain mine.has.is_chain here.is_chain).0 in
    let read = subst (λ l. AllZip (IsReadAs place old) l (state.roots c.args.anchor)) same mine.lists in
    let begin : c.in_ok-begin.begin ≡ begin_of old = c.in_ok-begin.ensures.begin told1 ∙ begin_stays _ _ same1 in
    let kept = subst (λ n. AllZip (IsKeptAs n) c.args.roots.now after) begin c.in_ok-after.ensures.kept in
    let keys : ascend (map (root_key place.segments) before) ≡ true =
    ap ascend (keys_same place old before (state.roots c.args.anchor) read) ∙ up in
    let ends = whole_ends (part_of place) old has.whole in
    alone_ok place old (g.I.Intervals.intervals c.begin_of.new.i) (g.I.Intervals.intervals c.rewrite.new.i)
    c.args.anchor before after c.rewrite.result same2
    (c.rewrite.ensures.alone told2 (roots_stay place _ _ c.args.anchor _ same2 here)
    (differ_so place.segments place old before (state.roots c.args.anchor) c.args.roots.now after
    c.in_ok-before.ensures.form read own kept
    (λ n root other is at is_own. c.in_ok-after.ensures.again keys n root other is at
    (subst (λ b. IsOwnOf b root other) (sym begin) is_own))
    ends.some ends.ordered differ))
