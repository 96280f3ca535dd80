use Rattle.std.proofs.Common.{◌≡◌, inl, inr, ◌∙◌, ◌+◌, ap, sym, subst, arith, [], ◌∷◌, ◌++◌, take}
use Rattle.std.specs.Prelude.{slice_get, Some}
use Rattle.std.proofs.lemmas.Bool.{cases_eq}
use Rattle.std.proofs.lemmas.List.{take_more}
use Rattle.std.proofs.lemmas.Option.{slice_get-get_or, slice_get_within}
use Rattle.std.proofs.lemmas.Result.{err_from_is_err_and}
use Rattle.fp_model.specs.declared.log.Item.TheVariants.{Range}
use Rattle.dedb_area.specs.Applying.{IsApplied, IsFitImage}
use Rattle.dedb_area.specs.Standing.{IsFitPool}
use Rattle.dedb_area.proofs.Applied.{applied_more, item_at, left_of_all, lacks_at, appliable_at}
use Rattle.dedb_area.proofs.applying.apply_items.Goals as goal

pub returns-in_err-apply_item-clause-lacks : goal.returns-in_err-apply_item-clause-lacks
returns-in_err-apply_item-clause-lacks c none s k e =
    let p = err_from_is_err_and c.from_residual.result c.from_residual.ensures.1 in
    let i = c.loop-item.item-index in
    let items = c.args.items.now in
    let here : slice_get items i ≡ Some c.item-item.result =
    slice_get-get_or items i c.item-item.result c.loop-item-test.true ∙ ap Some (sym c.item-item.is) in
    lacks_at c.args.place i c.args.pool.now c.loop-item.pool items c.item-item.result s k here
    (c.loop-item.invariant.applied none) (c.apply_item.ensures.lacks s k (cc (p.1, p.2, c.in_err-apply_item.was)))

pub returns-in_err-apply_item-clause-fit : goal.returns-in_err-apply_item-clause-fit
returns-in_err-apply_item-clause-fit c places fits below fit =
    subst (IsFitPool places) (sym c.in_err-apply_item.ensures.err) (c.loop-item.invariant.fit places fits below fit)

pub loop-item-preserved : goal.loop-item-preserved
loop-item-preserved c =
    let i = c.loop-item.item-index in
    let items = c.args.items.now in
    let item = c.item-item.result in
    let inv = c.loop-item.invariant in
    let here : slice_get items i ≡ Some item =
    slice_get-get_or items i item c.loop-item-test.true ∙ ap Some (sym c.item-item.is) in
    let more : take (i + 1) items ≡ take i items ++ item ∷ [] =
    take_more items i item c.loop-item-test.true ∙ ap (λ x. take i items ++ x ∷ []) (sym c.item-item.is) in
    record {
      applied = λ none. subst (λ l. IsApplied c.args.place l c.args.pool.now c.apply_item.new.pool) (sym more)
          (applied_more c.args.place (take i items) item c.args.pool.now c.loop-item.pool c.apply_item.new.pool
          (inv.applied none) (c.in_ok-apply_item.ensures.applied (inv.unstaged none)));
      appliable = λ none n set ci at bytes lt is. elim (cases_eq n i) [
        | inl e ↦
            let both : Some item ≡ Some (Range set ci at bytes) = sym here ∙ ap (slice_get items) (sym e) ∙ is in
            let same : item ≡ Range set ci at bytes = cc in
            appliable_at c.args.place n set ci at bytes c.args.pool.now c.loop-item.pool items item
            (ap (slice_get items) e ∙ here) same
            (subst (λ m. IsApplied c.args.place (take m items) c.args.pool.now c.loop-item.pool) (sym e)
            (inv.applied none)) c.in_ok-apply_item.ensures.appliable
        | inr ne ↦ inv.appliable none n set ci at bytes (omega (arith, lt, ne)) is
      ];
      unstaged = λ none. c.apply_item.ensures.unstaged (inv.unstaged none);
      fit = λ places fits below fit. c.apply_item.ensures.fit places (item_at (IsFitImage places) items i item fits here)
          below (inv.fit places fits below fit);
      clean = λ contents was. c.apply_item.ensures.clean contents (inv.clean contents was);
      left = left_of_all _ items i inv.left;
    }

pub returns-clause-appliable : goal.returns-clause-appliable
returns-clause-appliable c none n set ci at bytes is =
    let within = slice_get_within c.args.items.now n (Range set ci at bytes) is in
    c.loop-item.invariant.appliable none n set ci at bytes (omega (arith, within, c.loop-item-test.false)) is
