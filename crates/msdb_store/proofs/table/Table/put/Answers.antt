use Rattle.std.proofs.Common.{◌≡◌, ◌∙◌, ap, sym, subst, length, take, ℕ, Bool, true, arith}
use Rattle.std.proofs.lemmas.List.Edits.{length-insert}
use Rattle.std.specs.Prelude.{if◌then◌else◌, is_none}
use Rattle.msdb_store.specs.inside.Store.{lacks}
use Rattle.fp_model.specs.State.{key_of}
use Rattle.msdb_store.specs.inside.Places.{IsPlaced}
use Rattle.msdb_store.specs.declared.keyed.Place.TheVariants.{Stands, Lacks}
use Rattle.key_order.proofs.Ascending.{found_at, not_both, put_over, put_in}
use Rattle.msdb_store.proofs.table.Table.put.Goals as goal

pub returns-in-Stands-clause-ok : goal.returns-in-Stands-clause-ok
returns-in-Stands-clause-ok c up =
    let xs = c.args.self.now.segments.items in
    let key = key_of c.args.self.now.fields in
    let is : c.key_in-key.result.now ≡ key c.args.segment =
    c.key_in-key.ensures ∙ ap (take c.key_length.result) c.as_slice.ensures ∙ ap (λ n. take n c.args.segment)
    c.key_length.ensures in
    let p = subst (λ k. IsPlaced key k xs (Stands c.in-Stands.at)) is (c.in-Stands.ensures.place up) in
    c.set.ensures.items ∙ put_over key c.args.segment xs c.in-Stands.at p.1 up p.0 p.2 p.3

pub returns-in_ok-insert-in-Lacks-clause-ok : goal.returns-in_ok-insert-in-Lacks-clause-ok
returns-in_ok-insert-in-Lacks-clause-ok c up =
    let xs = c.args.self.now.segments.items in
    let key = key_of c.args.self.now.fields in
    let is : c.key_in-key.result.now ≡ key c.args.segment =
    c.key_in-key.ensures ∙ ap (take c.key_length.result) c.as_slice.ensures ∙ ap (λ n. take n c.args.segment)
    c.key_length.ensures in
    let p = subst (λ k. IsPlaced key k xs (Lacks c.in-Lacks.at)) is (c.in-Lacks.ensures.place up) in
    c.in_ok-insert-in-Lacks.ensures.items ∙ put_in key c.args.segment xs c.in-Lacks.at up p.0 p.1
    c.in-Lacks.ensures.within

pub returns-in_err-insert-in-Lacks-clause-done : goal.returns-in_err-insert-in-Lacks-clause-done
returns-in_err-insert-in-Lacks-clause-done c up fits =
    let xs = c.args.self.now.segments.items in
    let key = key_of c.args.self.now.fields in
    let is : c.key_in-key.result.now ≡ key c.args.segment =
    c.key_in-key.ensures ∙ ap (take c.key_length.result) c.as_slice.ensures ∙ ap (λ n. take n c.args.segment)
    c.key_length.ensures in
    let p = subst (λ k. IsPlaced key k xs (Lacks c.in-Lacks.at)) is (c.in-Lacks.ensures.place up) in
    let none : lacks c.args.self.now.fields xs c.args.segment ≡ true =
    ap is_none (found_at key (key c.args.segment) xs c.in-Lacks.at up p.0 ∙ p.1) in
    absurd (not_both (sym (c.in_err-insert-in-Lacks.ensures.done (fits none))))

pub returns-in_ok-insert-in-Lacks-clause-long : goal.returns-in_ok-insert-in-Lacks-clause-long
returns-in_ok-insert-in-Lacks-clause-long c up =
    let xs = c.args.self.now.segments.items in
    let key = key_of c.args.self.now.fields in
    let is : c.key_in-key.result.now ≡ key c.args.segment =
    c.key_in-key.ensures ∙ ap (take c.key_length.result) c.as_slice.ensures ∙ ap (λ n. take n c.args.segment)
    c.key_length.ensures in
    let p = subst (λ k. IsPlaced key k xs (Lacks c.in-Lacks.at)) is (c.in-Lacks.ensures.place up) in
    let none : lacks c.args.self.now.fields xs c.args.segment ≡ true =
    ap is_none (found_at key (key c.args.segment) xs c.in-Lacks.at up p.0 ∙ p.1) in
    let add : Bool → ℕ = λ b. if b then 1 else 0 in
    let one : add (lacks c.args.self.now.fields xs c.args.segment) ≡ add true = ap add none in
    omega (
      arith,
      one,
      ap length c.in_ok-insert-in-Lacks.ensures.items,
      length-insert xs c.in-Lacks.at c.args.segment c.in-Lacks.ensures.within,
    )
