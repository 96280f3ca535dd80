use Rattle.std.proofs.Common.{◌≡◌, ◌+◌, ◌++◌, length, drop, []}
use Rattle.std.specs.Prelude.{option_map}
use Rattle.fp_model.specs.Fsas.{list_text}
use Rattle.fp_model.specs.Operands.{fsas_given}
use Rattle.txn_machine.specs.Knowing.{env_of}
use Rattle.txn_machine.proofs.GivenLemmas.{AreSpelled}
use Rattle.txn_machine.proofs.known.Known.fsa_texts.Given as goal

-- the text so far, and that of the others
abbrev pub invariant-loop-fsa : goal.invariant-loop-fsa
invariant-loop-fsa l = record {
  many : l.left + l.fsa-index ≡ length l.fsas;
  gives : option_map (λ list. l.text ++ list_text list)
      (fsas_given l.defs l.message (env_of l.self []) (drop l.fsa-index l.fsas)) ≡ option_map list_text
      (fsas_given l.defs l.message (env_of l.self []) l.fsas);
  spelled : AreSpelled l.defs l.message (env_of l.self []) (drop l.fsa-index l.fsas)
      → AreSpelled l.defs l.message (env_of l.self []) l.fsas;
}
