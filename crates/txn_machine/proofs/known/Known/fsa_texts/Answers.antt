use Rattle.std.proofs.Common.{◌≡◌, ◌∙◌, ◌+◌, ◌-◌, ◌++◌, ◌∷◌, [], ap, sym, subst, arith, drop, length, length-drop, List}
use Rattle.std.specs.Prelude.{option_map}
use Rattle.fp_model.specs.Fsas.{list_text}
use Rattle.fp_model.specs.Operands.{Env, fsas_given}
use Rattle.fp_model.specs.declared.scripts.FsaText.{FsaText}
use Rattle.txn_machine.specs.Knowing.{env_of}
use Rattle.txn_machine.proofs.GivenLemmas.{AreSpelled, spelled_on, text_put}
use Rattle.txn_machine.proofs.known.Known.fsa_texts.Goals as goal
use Rattle.plain_laws.proofs.Places.{rest_at}

pub loop-fsa-preserved : goal.loop-fsa-preserved
loop-fsa-preserved c =
    let defs = c.args.defs.now in
    let message = c.args.message.now in
    let env : Env = env_of c.args.self.now [] in
    let fsas : List FsaText = c.args.fsas.now in
    let i = c.loop-fsa.fsa-index in
    let f : FsaText = c.fsa-item.result in
    let text = c.loop-fsa.text in
    let here : drop i fsas ≡ f ∷ drop (i + 1) fsas = rest_at fsas i f c.loop-fsa-test.true c.fsa-item.is in
    let left : length (drop (i + 1) fsas) ≡ c.loop-fsa.left - 1 =
    omega (arith, length-drop (i + 1) fsas, c.loop-fsa.invariant.many, c.loop-fsa-test.true) in
    record {
      many = omega (arith, c.loop-fsa.invariant.many, c.loop-fsa-test.true);
      gives = text_put defs message env text c.append_given.new.text f (drop (i + 1) fsas) (c.loop-fsa.left - 1)
          c.in_ok-append_given.ensures.gives left
          ∙ ap (λ (fs : List FsaText). option_map (λ list. text ++ list_text list) (fsas_given defs message env fs))
          (sym here)
          ∙ c.loop-fsa.invariant.gives;
      spelled = λ others. c.loop-fsa.invariant.spelled
          (subst (AreSpelled defs message env) (sym here)
          (spelled_on defs message env f (drop (i + 1) fsas) c.in_ok-append_given.ensures.spelled others));
    }
