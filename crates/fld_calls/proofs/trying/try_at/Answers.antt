use Rattle.std.proofs.Common.{◌≡◌, ◌∙◌, ℕ, ◌+◌, ◌-◌, take, drop, length, ap, arith}
use borrow.Rule.Slice.PartMut.{post_of}
use Rattle.std.proofs.lemmas.List.{drop-drop}
use Rattle.fp_model.specs.Fsas.{field_bytes}
use Rattle.fld_calls.specs.inside.Operations.{byte_of}
use Rattle.fld_calls.proofs.TryLemmas.{put-ok, put-err, window}
use Rattle.fld_calls.proofs.trying.try_at.Goals as goal

pub returns-clause-letter : goal.returns-clause-letter
returns-clause-letter c =
    let field = c.args.field.now in
    let at : c.from-at.result ≡ field.at = c.from-at.ensures in
    let size : c.from.result ≡ field.length = c.from.ensures in
    let held : take (c.from-at.result + c.from.result - c.from-at.result) (drop c.from-at.result c.args.segment.now) ≡
    field_bytes field c.args.segment.now = window field c.args.segment.now c.from-at.result c.from.result at size in
    rw held at c.try_field.ensures.letter

pub returns-clause-ok : goal.returns-clause-ok
returns-clause-ok c =
    let field = c.args.field.now in
    let segment = c.args.segment.now in
    let new = c.try_field.new.held in
    let at : c.from-at.result ≡ field.at = c.from-at.ensures in
    let size : c.from.result ≡ field.length = c.from.ensures in
    let m = c.from-at.result + c.from.result - c.from-at.result in
    let many : m ≡ field.length = omega arith in
    let ends : c.from-at.result + m ≡ field.at + field.length = omega arith in
    let held : take m (drop c.from-at.result segment) ≡ field_bytes field segment =
    window field segment c.from-at.result c.from.result at size in
    let long : length new ≡ field.length = omega (arith, c.try_field.auto.held, many, at, size, c.requires) in
    let post : post_of c.from-at.result m segment ≡ drop (field.at + field.length) segment =
    drop-drop m c.from-at.result segment ∙ ap (λ (n : ℕ). drop n segment) ends in
    rw (post, at) (put-ok field segment new long (byte_of c.args.operation) c.args.operand.now c.try_field.result
    (rw held at c.try_field.ensures.ok))

pub returns-clause-err : goal.returns-clause-err
returns-clause-err c =
    let field = c.args.field.now in
    let segment = c.args.segment.now in
    let new = c.try_field.new.held in
    let at : c.from-at.result ≡ field.at = c.from-at.ensures in
    let size : c.from.result ≡ field.length = c.from.ensures in
    let m = c.from-at.result + c.from.result - c.from-at.result in
    let many : m ≡ field.length = omega arith in
    let ends : c.from-at.result + m ≡ field.at + field.length = omega arith in
    let held : take m (drop c.from-at.result segment) ≡ field_bytes field segment =
    window field segment c.from-at.result c.from.result at size in
    let long : length new ≡ field.length = omega (arith, c.try_field.auto.held, many, at, size, c.requires) in
    let post : post_of c.from-at.result m segment ≡ drop (field.at + field.length) segment =
    drop-drop m c.from-at.result segment ∙ ap (λ (n : ℕ). drop n segment) ends in
    rw (post, at) (put-err field segment new long c.try_field.result (rw held at c.try_field.ensures.err))
