use Rattle.std.proofs.Common.{◌≡◌, ◌+◌, ◌++◌, ℕ, List, [], Err, sym, ◌∙◌, ap, append_assoc}
use Rattle.std.proofs.lemmas.Result.{IfOk-from_err, err_from_is_err_and}
use Rattle.fp_lists.proofs.FaultLemmas.{rose_behind}
use Rattle.message_lines.specs.declared.lines.LineFault.{LineFault}
use Rattle.message_lines.specs.declared.lines.LineFault.TheVariants.{TooLong, TooMany}
use Rattle.fp_source.specs.declared.part.Part.TheVariants.{Messages}
use Rattle.message_lines.specs.Lines.{buffered, to_come}
use Rattle.message_lines.proofs.Errs.{no_long_line, no_line_too_many, caused, not_by_read}
use Rattle.message_lines.proofs.Pieces.{plain_append, long_extended}
use Rattle.fp_source.proofs.Calls.{reads_joined}
use Rattle.message_lines.proofs.lines.Lines.gather.Goals as goal

pub returns-in_err-fill-clause-by_newline : goal.returns-in_err-fill-clause-by_newline
returns-in_err-fill-clause-by_newline g c = λ t. IfOk-from_err c.from_residual.result _ c.from_residual.ensures.0

pub returns-in_err-fill-clause-at_end : goal.returns-in_err-fill-clause-at_end
returns-in_err-fill-clause-at_end g c = λ t. IfOk-from_err c.from_residual.result _ c.from_residual.ensures.0

pub returns-in_err-fill-clause-ended : goal.returns-in_err-fill-clause-ended
returns-in_err-fill-clause-ended g c = λ t. IfOk-from_err c.from_residual.result _ c.from_residual.ensures.0

pub returns-in_err-fill-clause-plain : goal.returns-in_err-fill-clause-plain
returns-in_err-fill-clause-plain g c = IfOk-from_err c.from_residual.result _ c.from_residual.ensures.0

pub returns-in_err-fill-clause-short : goal.returns-in_err-fill-clause-short
returns-in_err-fill-clause-short g c = IfOk-from_err c.from_residual.result _ c.from_residual.ensures.0

pub returns-in_err-fill-clause-calm : goal.returns-in_err-fill-clause-calm
returns-in_err-fill-clause-calm g c = IfOk-from_err c.from_residual.result _ c.from_residual.ensures.0

pub returns-in_err-fill-clause-too_long : goal.returns-in_err-fill-clause-too_long
returns-in_err-fill-clause-too_long g c = λ t n e. absurd (no_long_line c.from_residual.result n c.from_residual.ensures.1 e)

pub returns-in_err-fill-clause-number : goal.returns-in_err-fill-clause-number
returns-in_err-fill-clause-number g c = λ n e. absurd (no_long_line c.from_residual.result n c.from_residual.ensures.1 e)

pub returns-in_err-fill-clause-not_many : goal.returns-in_err-fill-clause-not_many
returns-in_err-fill-clause-not_many g c = λ n e. no_line_too_many c.from_residual.result n c.from_residual.ensures.1 e

pub returns-in_err-fill-clause-given : goal.returns-in_err-fill-clause-given
returns-in_err-fill-clause-given g c = c.in_err-fill.ensures.given ∙ c.loop-self.invariant.given

pub returns-in_err-fill-clause-source : goal.returns-in_err-fill-clause-source
returns-in_err-fill-clause-source g c = reads_joined g.S.Source.told g.S.Source.left g.S.Source.faults g.S.Source.holds
    g.S.Source.keeps Messages c.args.source.now c.loop-self.source c.fill.new.source c.loop-self.invariant.source
    c.in_err-fill.ensures.source

pub returns-in_err-take_part-clause-by_newline : goal.returns-in_err-take_part-clause-by_newline
returns-in_err-take_part-clause-by_newline g c = λ t. IfOk-from_err c.from_residual-in_err-take_part.result _ c.from_residual-in_err-take_part.ensures.0

pub returns-in_err-take_part-clause-at_end : goal.returns-in_err-take_part-clause-at_end
returns-in_err-take_part-clause-at_end g c = λ t. IfOk-from_err c.from_residual-in_err-take_part.result _ c.from_residual-in_err-take_part.ensures.0

pub returns-in_err-take_part-clause-ended : goal.returns-in_err-take_part-clause-ended
returns-in_err-take_part-clause-ended g c = λ t. IfOk-from_err c.from_residual-in_err-take_part.result _ c.from_residual-in_err-take_part.ensures.0

pub returns-in_err-take_part-clause-plain : goal.returns-in_err-take_part-clause-plain
returns-in_err-take_part-clause-plain g c = IfOk-from_err c.from_residual-in_err-take_part.result _ c.from_residual-in_err-take_part.ensures.0

pub returns-in_err-take_part-clause-short : goal.returns-in_err-take_part-clause-short
returns-in_err-take_part-clause-short g c = IfOk-from_err c.from_residual-in_err-take_part.result _ c.from_residual-in_err-take_part.ensures.0

pub returns-in_err-take_part-clause-calm : goal.returns-in_err-take_part-clause-calm
returns-in_err-take_part-clause-calm g c = IfOk-from_err c.from_residual-in_err-take_part.result _ c.from_residual-in_err-take_part.ensures.0

pub returns-in_err-take_part-clause-too_long : goal.returns-in_err-take_part-clause-too_long
returns-in_err-take_part-clause-too_long g c = λ t n e.
    let p = err_from_is_err_and c.from_residual-in_err-take_part.result c.from_residual-in_err-take_part.ensures.1 in
    let told : LineFault = c.in_err-take_part.field-0.0 in
    let same : told ≡ TooLong n = cc (p.1, p.2, e) in
    let long = c.in_err-take_part.ensures.too_long n (ap (λ x. Err x) same) in
    let left : List ℕ = g.S.Source.left c.fill.new.source Messages in
    let more = long_extended (c.loop-self.line.items ++ buffered c.fill.new.self) left long in
    let now : to_come c.fill.new.self left ≡ to_come c.loop-self.self (g.S.Source.left c.loop-self.source Messages) =
    c.in_ok-fill.ensures.same (c.loop-self.invariant.source.continued.still_told t) in
    let whole : to_come c.args.self.now (g.S.Source.left c.args.source.now Messages) ≡ c.loop-self.line.items ++ to_come
    c.loop-self.self (g.S.Source.left c.loop-self.source Messages) = c.loop-self.invariant.same t in
    rw (whole, ← now, ← append_assoc c.loop-self.line.items (buffered c.fill.new.self) left) more

pub loop-self-preserved : goal.loop-self-preserved
loop-self-preserved g c =
    let it = c.loop-self.invariant in
    let part = c.in_ok-take_part.ensures.part in
    let left : List ℕ = g.S.Source.left c.fill.new.source Messages in
    let line : List ℕ = c.loop-self.line.items in
    record {
      source = reads_joined g.S.Source.told g.S.Source.left g.S.Source.faults g.S.Source.holds g.S.Source.keeps Messages
          _ _ _ it.source c.in_ok-fill.ensures.source;
      same = λ t.
          let whole : to_come c.args.self.now (g.S.Source.left c.args.source.now Messages) ≡ line ++ to_come
          c.loop-self.self (g.S.Source.left c.loop-self.source Messages) = it.same t in
          let now : to_come c.fill.new.self left ≡ to_come c.loop-self.self
          (g.S.Source.left c.loop-self.source Messages) = c.in_ok-fill.ensures.same (it.source.continued.still_told t) in
          let all : buffered c.fill.new.self ≡ part.0 = part.1.all c.if-branch-2.false in
          let nothing : buffered c.take_part.new.self ≡ [] = part.1.nothing c.if-branch-2.false in
          let more : c.take_part.new.line.items ≡ line ++ part.0 = part.2 in
          rw (whole, ← now, all, more, nothing) (sym (append_assoc line part.0 left));
      plain = let more : c.take_part.new.line.items ≡ line ++ part.0 = part.2 in
          rw more (plain_append line part.0 it.plain part.1.plain);
      short = c.in_ok-take_part.ensures.short;
      given = c.in_ok-take_part.ensures.given ∙ c.in_ok-fill.ensures.given ∙ it.given;
      calm = c.in_ok-fill.ensures.cause.stayed ∙ it.calm;
    }

pub returns-in_err-fill-clause-cause : goal.returns-in_err-fill-clause-cause
returns-in_err-fill-clause-cause g c = caused c.from_residual.result _ _ c.from_residual.ensures.1
    (rose_behind _ _ _ c.loop-self.invariant.source.continued.later c.in_err-fill.ensures.cause.rose)

pub returns-in_err-take_part-clause-number : goal.returns-in_err-take_part-clause-number
returns-in_err-take_part-clause-number g c = λ n e.
    let p = err_from_is_err_and c.from_residual-in_err-take_part.result c.from_residual-in_err-take_part.ensures.1 in
    let told : LineFault = c.in_err-take_part.field-0.0 in
    let same : told ≡ TooLong n = cc (p.1, p.2, e) in
    c.in_err-take_part.ensures.number n (ap (λ x. Err x) same) ∙ ap (λ k. k + 1)
    (c.in_ok-fill.ensures.given ∙ c.loop-self.invariant.given)

pub returns-in_err-take_part-clause-not_many : goal.returns-in_err-take_part-clause-not_many
returns-in_err-take_part-clause-not_many g c = λ n e.
    let p = err_from_is_err_and c.from_residual-in_err-take_part.result c.from_residual-in_err-take_part.ensures.1 in
    let told : LineFault = c.in_err-take_part.field-0.0 in
    let same : told ≡ TooMany n = cc (p.1, p.2, e) in
    c.in_err-take_part.ensures.not_many n (ap (λ x. Err x) same)

pub returns-in_err-take_part-clause-cause : goal.returns-in_err-take_part-clause-cause
returns-in_err-take_part-clause-cause g c =
    let p = err_from_is_err_and c.from_residual-in_err-take_part.result c.from_residual-in_err-take_part.ensures.1 in
    let told : LineFault = c.in_err-take_part.field-0.0 in
    let same : c.from_residual-in_err-take_part.result ≡ Err told = cc (p.1, p.2) in
    not_by_read c.from_residual-in_err-take_part.result told _ _ same (λ e. c.in_err-take_part.ensures.not_failed (ap (λ x. Err x) e))
    (c.in_ok-fill.ensures.cause.stayed ∙ c.loop-self.invariant.calm)

pub returns-in_err-take_part-clause-given : goal.returns-in_err-take_part-clause-given
returns-in_err-take_part-clause-given g c =
    c.in_err-take_part.ensures.given ∙ c.in_ok-fill.ensures.given ∙ c.loop-self.invariant.given

pub returns-in_err-take_part-clause-source : goal.returns-in_err-take_part-clause-source
returns-in_err-take_part-clause-source g c = reads_joined g.S.Source.told g.S.Source.left g.S.Source.faults g.S.Source.holds
    g.S.Source.keeps Messages c.args.source.now c.loop-self.source c.fill.new.source c.loop-self.invariant.source
    c.in_ok-fill.ensures.source
