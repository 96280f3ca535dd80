use Rattle.std.proofs.Common.{◌≡◌, ◌∙◌, ◌+◌, ◌-◌, ◌++◌, ◌∷◌, [], ◌==◌, if◌then◌else◌, length, length-drop, drop, ap, sym, subst, arith, List, ℕ}
use Rattle.std.proofs.lemmas.List.{length-map}
use Rattle.fp_model.specs.Fsas.{Fsa, fsa_text, list_text}
use Rattle.fld_calls.specs.declared.arguments.Fsa.{Fsa as Argument}
use Rattle.fld_calls.specs.Forms.{form_of, forms}
use Rattle.fld_calls.proofs.WriteLemmas.{text-step}
use Rattle.fld_calls.proofs.layout.write_list.Goals as goal
use Rattle.plain_laws.proofs.Places.{rest_at}

pub loop-fsa-preserved : goal.loop-fsa-preserved
loop-fsa-preserved c =
    let xs : List Argument = c.as_slice-fsa-items.result.now in
    let i = c.loop-fsa.fsa-index in
    let a : Argument = c.fsa-item.result in
    let text = c.loop-fsa.text in
    let here = rest_at xs i a c.loop-fsa-test.true c.fsa-item.is in
    let left : length (drop (i + 1) xs) ≡ c.loop-fsa.left - 1 =
    omega (arith, length-drop (i + 1) xs, c.loop-fsa.invariant.many, c.loop-fsa-test.true) in
    let step = text-step text (form_of a) (forms (drop (i + 1) xs)) (c.loop-fsa.left - 1)
    (length-map (drop (i + 1) xs) form_of ∙ left) in
    let new : c.append_fsa.new.text ≡ text ++ fsa_text (form_of a) ++ (if c.loop-fsa.left - 1 == 0 then 32 else 42) ∷ []
    =
    subst (λ (f : Fsa). c.append_fsa.new.text ≡ text ++ fsa_text f ++ (if c.loop-fsa.left - 1 == 0 then 32 else 42) ∷
    [])
    c.lent.ensures.form c.in_ok-append_fsa.ensures in
    record {
      many = omega (arith, c.loop-fsa.invariant.many, c.loop-fsa-test.true);
      so_far = ap (λ (t : List ℕ). t ++ list_text (forms (drop (i + 1) xs))) new ∙ step ∙ ap
          (λ (ys : List Argument). text ++ list_text (forms ys)) (sym here) ∙ c.loop-fsa.invariant.so_far;
    }
