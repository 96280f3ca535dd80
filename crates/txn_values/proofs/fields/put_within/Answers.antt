use Rattle.std.proofs.Common.{◌≡◌, ◌∙◌, ℕ, ◌+◌, ◌-◌, drop, length, ap, arith, rules}
use borrow.Rule.Slice.PartMut.{post_of}
use Rattle.std.proofs.lemmas.List.{drop-drop}
use Rattle.txn_values.proofs.FieldLemmas.{put_is_filled}
use Rattle.txn_values.proofs.fields.put_within.Goals as goal

pub returns : goal.returns
returns c =
    let field = c.args.field.now in
    let segment = c.args.segment.now in
    let new = c.put_value.new.held in
    let at : c.from-at.result ≡ field.at = search rules in
    let size : c.from.result ≡ field.length = search rules in
    let m = c.from-at.result + c.from.result - c.from-at.result in
    let many : m ≡ field.length = omega arith in
    let ends : c.from-at.result + m ≡ field.at + field.length = omega arith in
    let long : length new ≡ field.length = omega (arith, c.put_value.auto.held, many, at, size, c.requires) in
    let post : post_of c.from-at.result m segment ≡ drop (field.at + field.length) segment =
    drop-drop m c.from-at.result segment ∙ ap (λ (n : ℕ). drop n segment) ends in
    rw (post, at) (put_is_filled field segment new c.args.text.now c.put_value.result long c.put_value.ensures)
