use Rattle.std.proofs.Common.{◌∙◌, sym, subst, ◌∷◌, [], arith}
use Rattle.std.proofs.lemmas.List.{append-nil}
use Rattle.std.proofs.lemmas.Result.{err_from_is_err_and}
use Rattle.txn_lang.specs.inside.Building.{IsBuilt, context_of}
use Rattle.txn_lang.proofs.LineLemmas.{said_reads, line_reads, line_skips, line_foreign, line_fails}
use Rattle.txn_lang.proofs.reader.read_line.Goals as goal

pub add-requires : goal.add-requires
add-requires c = record {
  follows = (said_reads c.args.defs.now (context_of c.args.builder) 0 c.args.bytes.now _ c.in_ok-line.ensures).0;
  block = c.requires.block;
  frames = c.requires.frames;
}

pub returns-then-not-is_ascii-clause-err : goal.returns-then-not-is_ascii-clause-err
returns-then-not-is_ascii-clause-err c = λ other. line_foreign c.args.defs.now (context_of c.args.builder) c.args.number
    c.args.bytes.now (sym c.is_ascii.ensures ∙ c.if-not-is_ascii.true)

pub returns-then-is_skipped-clause-ok : goal.returns-then-is_skipped-clause-ok
returns-then-is_skipped-clause-ok c = record {
  said = [];
  few = omega arith;
  reads = line_skips c.args.defs.now (context_of c.args.builder) c.args.number c.args.bytes.now
      (sym c.is_ascii.ensures ∙ c.if-not-is_ascii.false) (sym c.is_skipped.ensures ∙ c.if-is_skipped.true);
  adds = λ before built. subst (IsBuilt c.args.builder) (sym (append-nil before)) built;
}

pub returns-in_err-line-clause-err : goal.returns-in_err-line-clause-err
returns-in_err-line-clause-err c =
    let p = err_from_is_err_and c.from_residual.result c.from_residual.ensures.1 in
    rw (p.1, p.2) (line_fails c.args.defs.now (context_of c.args.builder) c.in_err-line.field-0.0 c.args.number
    c.args.bytes.now (sym c.is_ascii.ensures ∙ c.if-not-is_ascii.false)
    (sym c.is_skipped.ensures ∙ c.if-is_skipped.false) c.in_err-line.ensures)

pub returns-clause-ok : goal.returns-clause-ok
returns-clause-ok c = record {
  said = c.in_ok-line.line ∷ [];
  few = omega arith;
  reads = rw c.in_ok-add.ensures.context (line_reads c.args.defs.now (context_of c.args.builder) c.args.number
      c.args.bytes.now _ (sym c.is_ascii.ensures ∙ c.if-not-is_ascii.false)
      (sym c.is_skipped.ensures ∙ c.if-is_skipped.false) c.in_ok-line.ensures);
  adds = c.in_ok-add.ensures.built;
}
