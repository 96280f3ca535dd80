use Rattle.std.proofs.Common.{◌≡◌, ◌+◌, ◌≤◌, length, List}
use Rattle.fp_model.specs.Messages.{lines_of}
use Rattle.txn_lang.specs.declared.line.Line.{Line}
use Rattle.txn_lang.specs.Grammar.{lines_in, text_in}
use Rattle.txn_lang.proofs.TextLemmas.{in_front}
use Rattle.txn_lang.specs.inside.Building.{IsBuilt, context_of}
use Rattle.txn_lang.proofs.reader.read_lines.Given as goal

abbrev pub invariant-loop-rest : goal.invariant-loop-rest
invariant-loop-rest l = record {
  so_far : (said : List Line) × IsBuilt l.builder said × (length said + length l.rest ≤ 1000000)
      × (in_front said (lines_in l.defs l.number (context_of l.builder) (lines_of l.rest)) ≡ text_in l.defs l.text);
  few : l.number + length l.rest ≤ 1000001;
}

abbrev pub decreases-loop-rest : goal.decreases-loop-rest
decreases-loop-rest l = length l.rest
