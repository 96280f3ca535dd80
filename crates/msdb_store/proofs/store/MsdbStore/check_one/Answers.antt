use Rattle.std.proofs.Common.{◌≡◌, ◌∙◌, ◌∷◌, [], ap, sym, subst, List, ℕ}
use Rattle.std.specs.Prelude.{Err}
use Rattle.fp_model.specs.Settle.{settle}
use Rattle.fp_model.specs.declared.log.Item.{Item}
use Rattle.fp_model.specs.declared.log.Item.TheVariants.{Segment}
use Rattle.msdb_store.specs.Settling.{IsAnswer, named}
use Rattle.msdb_store.specs.inside.Steps.{AtCall}
use Rattle.msdb_store.specs.inside.Touches.{item_of}
use Rattle.msdb_store.proofs.Names.{same_keys}
use Rattle.msdb_store.proofs.Queues.{at_one, behind_one, good_answer, one_bad, only_touch}
use Rattle.msdb_store.proofs.store.MsdbStore.check_one.Goals as goal

pub returns-in-Err-clause-answer : goal.returns-in-Err-clause-answer
returns-in-Err-clause-answer c defs can =
    let store = c.args.self.now in
    let call = c.args.call.now in
    subst (λ why. IsAnswer defs store.msdbs (Err why) (settle defs store.msdbs (call ∷ []))) (sym c.at.ensures)
    (one_bad defs store call can c.in-Err.fault (c.in-Err.ensures defs store.msdbs
    (subst (λ ts. AtCall defs store ts store.msdbs call) (sym c.new.ensures) (at_one defs store call can))))

pub returns-clause-answer : goal.returns-clause-answer
returns-clause-answer c defs can =
    let store = c.args.self.now in
    let call = c.args.call.now in
    let bytes = c.in-Ok.bytes in
    let key = c.in_ok-key.key in
    let given = c.in-Ok.ensures defs store.msdbs
    (subst (λ ts. AtCall defs store ts store.msdbs call) (sym c.new.ensures) (at_one defs store call can)) in
    let names = c.in_ok-key.ensures defs can.of can.fit.0 in
    let is : c.in_ok-items.items ≡ item_of (only_touch defs store call can bytes) ∷ [] =
    c.in_ok-items.ensures
    ∙ ap (λ (n : ℕ). let its : List Item = Segment n key.key.items bytes ∷ [] in its) names.0
    ∙ ap (λ (k : List ℕ). let its : List Item = Segment (named defs call).0 k bytes ∷ [] in its) names.1 in
    good_answer defs store.msdbs (call ∷ []) (call ∷ []) 1 (only_touch defs store call can bytes ∷ [])
    c.in_ok-items.items can.of.each (behind_one defs store call can bytes given) (tt, tt) is

pub returns-clause-keys : goal.returns-clause-keys
returns-clause-keys c defs can number key =
    let store = c.args.self.now in
    let call = c.args.call.now in
    let bytes = c.in-Ok.bytes in
    let own = c.in_ok-key.key in
    let given = c.in-Ok.ensures defs store.msdbs
    (subst (λ ts. AtCall defs store ts store.msdbs call) (sym c.new.ensures) (at_one defs store call can)) in
    let names = c.in_ok-key.ensures defs can.of can.fit.0 in
    let is : c.in_ok-items.items ≡ item_of (only_touch defs store call can bytes) ∷ [] =
    c.in_ok-items.ensures
    ∙ ap (λ (n : ℕ). let its : List Item = Segment n own.key.items bytes ∷ [] in its) names.0
    ∙ ap (λ (k : List ℕ). let its : List Item = Segment (named defs call).0 k bytes ∷ [] in its) names.1 in
    same_keys defs (call ∷ []) (only_touch defs store call can bytes ∷ []) c.in_ok-items.items number key is
    ((behind_one defs store call can bytes given).keys number key)
