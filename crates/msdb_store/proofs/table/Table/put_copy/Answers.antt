use Rattle.std.proofs.Common.{◌≡◌, ◌∙◌, ap, sym, subst, length, take, List, ℕ, true}
use Rattle.std.specs.Prelude.{is_none}
use Rattle.msdb_store.specs.inside.Store.{lacks}
use Rattle.fp_model.specs.State.{key_of}
use Rattle.msdb_store.specs.inside.Places.{IsPlaced}
use Rattle.msdb_store.specs.declared.keyed.Place.TheVariants.{Stands, Lacks}
use Rattle.key_order.proofs.Ascending.{found_at, not_both, put_over}
use Rattle.msdb_store.proofs.Slots.{each_at}
use Rattle.msdb_store.proofs.table.Table.put_copy.Goals as goal

pub returns-in_ok-set_copy-in-Stands-clause-ok : goal.returns-in_ok-set_copy-in-Stands-clause-ok
returns-in_ok-set_copy-in-Stands-clause-ok c up =
    let xs = c.args.self.now.segments.items in
    let key = key_of c.args.self.now.fields in
    let is : c.key_in-key.result.now ≡ key c.args.segment.now =
    c.key_in-key.ensures ∙ ap (λ n. take n c.args.segment.now) c.key_length.ensures in
    let p = subst (λ k. IsPlaced key k xs (Stands c.in-Stands.at)) is (c.in-Stands.ensures.place up) in
    c.in_ok-set_copy-in-Stands.ensures.items ∙ put_over key c.args.segment.now xs c.in-Stands.at p.1 up p.0 p.2 p.3

pub returns-in_err-set_copy-in-Stands-clause-done : goal.returns-in_err-set_copy-in-Stands-clause-done
returns-in_err-set_copy-in-Stands-clause-done c n up there each whole =
    let xs = c.args.self.now.segments.items in
    let key = key_of c.args.self.now.fields in
    let is : c.key_in-key.result.now ≡ key c.args.segment.now =
    c.key_in-key.ensures ∙ ap (λ n. take n c.args.segment.now) c.key_length.ensures in
    let p = subst (λ k. IsPlaced key k xs (Stands c.in-Stands.at)) is (c.in-Stands.ensures.place up) in
    absurd (not_both (sym (c.in_err-set_copy-in-Stands.ensures.done p.1 p.2
    (each_at (λ (s : List ℕ). length s ≡ n) xs c.in-Stands.at p.1 p.2 each ∙ sym whole))))

pub returns-in_err-copy-in-Lacks-clause-done : goal.returns-in_err-copy-in-Lacks-clause-done
returns-in_err-copy-in-Lacks-clause-done c n up there each whole =
    let xs = c.args.self.now.segments.items in
    let key = key_of c.args.self.now.fields in
    let is : c.key_in-key.result.now ≡ key c.args.segment.now =
    c.key_in-key.ensures ∙ ap (λ n. take n c.args.segment.now) c.key_length.ensures in
    let p = subst (λ k. IsPlaced key k xs (Lacks c.in-Lacks.field-0)) is (c.in-Lacks.ensures.place up) in
    let none : lacks c.args.self.now.fields xs c.args.segment.now ≡ true =
    ap is_none (found_at key (key c.args.segment.now) xs c.in-Lacks.field-0 up p.0 ∙ p.1) in
    absurd (not_both (sym none ∙ there))

pub returns-in_err-put-in-Lacks-clause-done : goal.returns-in_err-put-in-Lacks-clause-done
returns-in_err-put-in-Lacks-clause-done c n up there each whole =
    let xs = c.args.self.now.segments.items in
    let key = key_of c.args.self.now.fields in
    let is : c.key_in-key.result.now ≡ key c.args.segment.now =
    c.key_in-key.ensures ∙ ap (λ n. take n c.args.segment.now) c.key_length.ensures in
    let p = subst (λ k. IsPlaced key k xs (Lacks c.in-Lacks.field-0)) is (c.in-Lacks.ensures.place up) in
    let none : lacks c.args.self.now.fields xs c.args.segment.now ≡ true =
    ap is_none (found_at key (key c.args.segment.now) xs c.in-Lacks.field-0 up p.0 ∙ p.1) in
    absurd (not_both (sym none ∙ there))
