use Rattle.std.proofs.Common.{◌≡◌, ◌∙◌, ℕ, List, sym, ap, subst, length, slice_get, true, arith}
use Rattle.dli_tree.specs.Paths.{step_of, steps_of}
use Rattle.dli_tree.specs.declared.path.Step.{Step}
use Rattle.fp_model.specs.DedbCalls.{insert_path}
use Rattle.fp_model.specs.Order.{Step as StepOf, last_type}
use Rattle.fp_model.specs.Shape.{has_length}
use Rattle.dedb_calls.proofs.ArgumentLemmas.{first_step, first_there}
use Rattle.dedb_calls.proofs.InsertLemmas.{insert_key_fits}
use Rattle.dedb_calls.proofs.get.Database.new_segment.Goals as goal

pub anchor_of-anchor-requires-clause-some : goal.anchor_of-anchor-requires-clause-some
anchor_of-anchor-requires-clause-some g c =
    let path_is : steps_of c.as_slice-2.result.now
    ≡ insert_path c.args.self.def.now c.args.self.number c.args.ssas.now c.args.bytes.now =
    ap (λ (l : List Step). steps_of l) c.as_slice-2.ensures.value
    ∙ c.in_ok-steps.ensures c.args.self.number
    ∙ ap (λ (b : List ℕ). insert_path c.args.self.def.now c.args.self.number c.args.ssas.now b) c.as_slice.ensures in
    let at = sym (ap (λ (p : List StepOf). slice_get p 0) path_is)
    ∙ first_step c.as_slice-2.result.now c.root-item.result
    (first_there c.as_slice-2.result.now c.root-item.result c.in-len1-up.len_at_least c.root-item.is) in
    let fits = insert_key_fits c.args.self.def.now c.args.self.number c.args.ssas.now c.args.bytes.now
    (step_of c.root-item.result) c.requires.good c.requires.arguments c.requires.fits c.requires.long at in
    let key = ap (λ (k : List ℕ). length k) c.as_slice-in-len1-up.ensures in
    omega (arith, fits.0, key)

pub anchor_of-anchor-requires-clause-short : goal.anchor_of-anchor-requires-clause-short
anchor_of-anchor-requires-clause-short g c =
    let path_is : steps_of c.as_slice-2.result.now
    ≡ insert_path c.args.self.def.now c.args.self.number c.args.ssas.now c.args.bytes.now =
    ap (λ (l : List Step). steps_of l) c.as_slice-2.ensures.value
    ∙ c.in_ok-steps.ensures c.args.self.number
    ∙ ap (λ (b : List ℕ). insert_path c.args.self.def.now c.args.self.number c.args.ssas.now b) c.as_slice.ensures in
    let at = sym (ap (λ (p : List StepOf). slice_get p 0) path_is)
    ∙ first_step c.as_slice-2.result.now c.root-item.result
    (first_there c.as_slice-2.result.now c.root-item.result c.in-len1-up.len_at_least c.root-item.is) in
    let fits = insert_key_fits c.args.self.def.now c.args.self.number c.args.ssas.now c.args.bytes.now
    (step_of c.root-item.result) c.requires.good c.requires.arguments c.requires.fits c.requires.long at in
    let key = ap (λ (k : List ℕ). length k) c.as_slice-in-len1-up.ensures in
    omega (arith, fits.1, key)

pub returns-clause-insert : goal.returns-clause-insert
returns-clause-insert g c = record {
  arguments = c.requires.arguments;
  path_is =
      ap (λ (l : List Step). steps_of l) c.from_vec.ensures
      ∙ c.in_ok-steps.ensures c.args.self.number
      ∙ ap (λ (b : List ℕ). insert_path c.args.self.def.now c.args.self.number c.args.ssas.now b)
      (c.as_slice.ensures ∙ sym c.in_ok-copy.ensures);
  fits = c.requires.fits;
  long =
      subst (λ (b : List ℕ). has_length c.args.self.def.now.segments (last_type 0 c.args.ssas.now) b ≡ true)
      (sym c.in_ok-copy.ensures) c.requires.long;
}
