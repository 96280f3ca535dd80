use Rattle.std.proofs.Common.{◌∙◌, sym, ap, arith, ◌++◌, length-append}
use Rattle.fp_model.specs.Messages.{lines_of}
use Rattle.txn_lang.specs.Grammar.{text_in}
use Rattle.txn_lang.specs.inside.Building.{context_of}
use Rattle.txn_lang.proofs.TextLemmas.{line_more, line_refused, lines_done}
use Rattle.txn_lang.proofs.reader.read_lines.Goals as goal
use Rattle.plain_laws.proofs.Lists.{is_nil}

pub returns-in-Err-clause-err : goal.returns-in-Err-clause-err
returns-in-Err-clause-err c =
    let so_far = c.loop-rest.invariant.so_far in
    rw c.at_line.ensures (line_refused c.args.defs.now c.in-Err.fault c.loop-rest.number
    (context_of c.loop-rest.builder) so_far.0 _ _ _ (text_in c.args.defs.now c.args.text.now)
    c.split_line.ensures.lines c.in-Err.ensures.err so_far.3)

pub loop-rest-preserved : goal.loop-rest-preserved
loop-rest-preserved c =
    let so_far = c.loop-rest.invariant.so_far in
    let read = c.in-Ok.ensures.ok in
    record {
      so_far = (
        so_far.0 ++ read.said,
        read.adds so_far.0 so_far.1,
        omega (arith, length-append so_far.0 read.said, read.few, so_far.2, c.split_line.ensures.shorter),
        line_more c.args.defs.now c.loop-rest.number (context_of c.loop-rest.builder) _ so_far.0 read.said _ _ _
            (text_in c.args.defs.now c.args.text.now) c.split_line.ensures.lines read.reads so_far.3,
      );
      few = omega (arith, c.split_line.ensures.shorter, c.loop-rest.invariant.few);
    }

pub returns-clause-ok : goal.returns-clause-ok
returns-clause-ok c =
    let so_far = c.loop-rest.invariant.so_far in
    let none = is_nil c.loop-rest.rest.now (sym c.is_empty.ensures ∙ c.loop-rest-test.false) in
    record {
      said = so_far.0;
      few = omega (arith, so_far.2);
      reads = lines_done c.args.defs.now c.loop-rest.number (context_of c.loop-rest.builder) so_far.0 _
          (text_in c.args.defs.now c.args.text.now) (ap lines_of none) so_far.3;
      built = so_far.1;
    }
