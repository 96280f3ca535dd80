use Rattle.std.proofs.Common.{◌≡◌, ◌≤◌, ℕ, List, ◌++◌, ◌∙◌, Some, None, length, sym, ap, arith}
use Rattle.std.specs.Prelude.{flat_map}
use Rattle.std.proofs.lemmas.List.{append-nil, take_all}
use Rattle.fp_model.specs.declared.database.SeqItem.{SeqItem}
use Rattle.fp_model.specs.Order.{sequential_type}
use Rattle.fp_show.specs.DbText.{typed_line}
use Rattle.fp_show.proofs.Walking.{sequentials_none, sequentials_some}
use Rattle.fp_show.proofs.walk.put_sequentials.Goals as goal

-- there is no sequential type
pub returns-in_default : goal.returns-in_default
returns-in_default c =
    let types = c.args.types.now in
    let none : sequential_type types ≡ None = cc in
    let empty = sequentials_none types c.args.items.now none in
    sym (append-nil c.args.into.now) ∙ ap (λ (text : List ℕ). c.args.into.now ++ text) (sym empty)

pub returns : goal.returns
returns c =
    let types = c.args.types.now in
    let number = c.in-Some.number in
    let items = c.args.items.now in
    let some : sequential_type types ≡ Some number = cc in
    let end : length items ≤ c.loop-item.item-index = omega arith in
    let lines : List SeqItem → List ℕ = λ xs. flat_map (λ item. typed_line types number 2 item.bytes) xs in
    c.loop-item.invariant
    ∙ ap (λ (xs : List SeqItem). c.args.into.now ++ lines xs) (take_all c.loop-item.item-index items end)
    ∙ ap (λ (text : List ℕ). c.args.into.now ++ text) (sym (sequentials_some types items number some))
