use Rattle.std.proofs.Common.{◌≡◌, ◌<◌, ◌+◌, ℕ, List, Err, length, sym, ◌∙◌, ap, arith, length-append}
use Rattle.std.proofs.lemmas.Result.{IfOk-from_err, err_from_is_err_and}
use Rattle.fp_source.specs.declared.part.Part.TheVariants.{Messages}
use Rattle.message_lines.specs.declared.lines.LineFault.{LineFault}
use Rattle.message_lines.specs.declared.lines.LineFault.TheVariants.{TooLong, TooMany}
use Rattle.message_lines.specs.Lines.{buffered, to_come}
use Rattle.message_lines.proofs.Errs.{no_long_line, no_line_too_many, caused, caused_later}
use Rattle.fp_source.proofs.Calls.{reads_joined}
use Rattle.message_lines.proofs.LineLemmas.{Begins, line_given, fault_stays, many_ahead, long_ahead}
use Rattle.message_lines.proofs.lines.Lines.next.Given.{Over}
use Rattle.message_lines.proofs.lines.Lines.next.Goals as goal

pub returns-in_err-fill-clause-line : goal.returns-in_err-fill-clause-line
returns-in_err-fill-clause-line g c = λ t. IfOk-from_err c.from_residual.result _ c.from_residual.ensures.0

pub returns-in_err-fill-clause-fair : goal.returns-in_err-fill-clause-fair
returns-in_err-fill-clause-fair g c = λ t. IfOk-from_err c.from_residual.result _ c.from_residual.ensures.0

pub returns-in_err-fill-clause-none : goal.returns-in_err-fill-clause-none
returns-in_err-fill-clause-none g c = λ t. IfOk-from_err c.from_residual.result _ c.from_residual.ensures.0

pub returns-in_err-fill-clause-ended : goal.returns-in_err-fill-clause-ended
returns-in_err-fill-clause-ended g c = λ t. IfOk-from_err c.from_residual.result _ c.from_residual.ensures.0

pub returns-in_err-fill-clause-short : goal.returns-in_err-fill-clause-short
returns-in_err-fill-clause-short g c = IfOk-from_err c.from_residual.result _ c.from_residual.ensures.0

pub returns-in_err-fill-clause-given : goal.returns-in_err-fill-clause-given
returns-in_err-fill-clause-given g c = IfOk-from_err c.from_residual.result _ c.from_residual.ensures.0

pub returns-in_err-fill-clause-few : goal.returns-in_err-fill-clause-few
returns-in_err-fill-clause-few g c = IfOk-from_err c.from_residual.result _ c.from_residual.ensures.0

pub returns-in_err-fill-clause-still : goal.returns-in_err-fill-clause-still
returns-in_err-fill-clause-still g c = IfOk-from_err c.from_residual.result _ c.from_residual.ensures.0

pub returns-in_err-fill-clause-calm : goal.returns-in_err-fill-clause-calm
returns-in_err-fill-clause-calm g c = IfOk-from_err c.from_residual.result _ c.from_residual.ensures.0

pub returns-in_err-fill-clause-too_long : goal.returns-in_err-fill-clause-too_long
returns-in_err-fill-clause-too_long g c = λ t n e. absurd (no_long_line c.from_residual.result n c.from_residual.ensures.1 e)

pub returns-in_err-fill-clause-too_many : goal.returns-in_err-fill-clause-too_many
returns-in_err-fill-clause-too_many g c = λ t n e. absurd (no_line_too_many c.from_residual.result n c.from_residual.ensures.1 e)

pub returns-in_err-fill-clause-long_number : goal.returns-in_err-fill-clause-long_number
returns-in_err-fill-clause-long_number g c = λ n e. absurd (no_long_line c.from_residual.result n c.from_residual.ensures.1 e)

pub returns-in_err-fill-clause-last_number : goal.returns-in_err-fill-clause-last_number
returns-in_err-fill-clause-last_number g c = λ n e. absurd (no_line_too_many c.from_residual.result n c.from_residual.ensures.1 e)

pub returns-in_err-fill-clause-source : goal.returns-in_err-fill-clause-source
returns-in_err-fill-clause-source g c = c.in_err-fill.ensures.source

pub returns-in_err-by_newline-clause-line : goal.returns-in_err-by_newline-clause-line
returns-in_err-by_newline-clause-line g c = λ t. IfOk-from_err c.from_residual-in_err-by_newline.result _ c.from_residual-in_err-by_newline.ensures.0

pub returns-in_err-by_newline-clause-fair : goal.returns-in_err-by_newline-clause-fair
returns-in_err-by_newline-clause-fair g c = λ t. IfOk-from_err c.from_residual-in_err-by_newline.result _ c.from_residual-in_err-by_newline.ensures.0

pub returns-in_err-by_newline-clause-none : goal.returns-in_err-by_newline-clause-none
returns-in_err-by_newline-clause-none g c = λ t. IfOk-from_err c.from_residual-in_err-by_newline.result _ c.from_residual-in_err-by_newline.ensures.0

pub returns-in_err-by_newline-clause-ended : goal.returns-in_err-by_newline-clause-ended
returns-in_err-by_newline-clause-ended g c = λ t. IfOk-from_err c.from_residual-in_err-by_newline.result _ c.from_residual-in_err-by_newline.ensures.0

pub returns-in_err-by_newline-clause-short : goal.returns-in_err-by_newline-clause-short
returns-in_err-by_newline-clause-short g c = IfOk-from_err c.from_residual-in_err-by_newline.result _ c.from_residual-in_err-by_newline.ensures.0

pub returns-in_err-by_newline-clause-given : goal.returns-in_err-by_newline-clause-given
returns-in_err-by_newline-clause-given g c = IfOk-from_err c.from_residual-in_err-by_newline.result _ c.from_residual-in_err-by_newline.ensures.0

pub returns-in_err-by_newline-clause-few : goal.returns-in_err-by_newline-clause-few
returns-in_err-by_newline-clause-few g c = IfOk-from_err c.from_residual-in_err-by_newline.result _ c.from_residual-in_err-by_newline.ensures.0

pub returns-in_err-by_newline-clause-still : goal.returns-in_err-by_newline-clause-still
returns-in_err-by_newline-clause-still g c = IfOk-from_err c.from_residual-in_err-by_newline.result _ c.from_residual-in_err-by_newline.ensures.0

pub returns-in_err-by_newline-clause-calm : goal.returns-in_err-by_newline-clause-calm
returns-in_err-by_newline-clause-calm g c = IfOk-from_err c.from_residual-in_err-by_newline.result _ c.from_residual-in_err-by_newline.ensures.0

pub returns-then-self-eq-MOST_LINES-clause-too_many : goal.returns-then-self-eq-MOST_LINES-clause-too_many
returns-then-self-eq-MOST_LINES-clause-too_many g c = λ t n e.
    let left : List ℕ = g.S.Source.left c.fill.new.source Messages in
    let number : n ≡ 1000001 = cc e in
    let now : to_come c.fill.new.self left ≡ to_come c.args.self.now (g.S.Source.left c.args.source.now Messages) =
    c.in_ok-fill.ensures.same t in
    let some : 0 < length (buffered c.fill.new.self) = c.in_ok-fill.ensures.some c.if-not-branch.false in
    let given : c.args.self.now.given ≡ 1000000 = sym c.in_ok-fill.ensures.given ∙ c.if-self-eq-MOST_LINES.true in
    rw (number, ← now) (many_ahead c.args.self.now.given (to_come c.fill.new.self left) given
    (omega (arith, length-append (buffered c.fill.new.self) left)))

pub returns-in_err-by_newline-clause-too_long : goal.returns-in_err-by_newline-clause-too_long
returns-in_err-by_newline-clause-too_long g c = λ t n e.
    let p = err_from_is_err_and c.from_residual-in_err-by_newline.result c.from_residual-in_err-by_newline.ensures.1 in
    let told : LineFault = c.in_err-by_newline.field-0.0 in
    let same : told ≡ TooLong n = cc (p.1, p.2, e) in
    let left : List ℕ = g.S.Source.left c.fill.new.source Messages in
    let now : to_come c.fill.new.self left ≡ to_come c.args.self.now (g.S.Source.left c.args.source.now Messages) =
    c.in_ok-fill.ensures.same t in
    let long = c.in_err-by_newline.ensures.too_long (c.in_ok-fill.ensures.source.continued.still_told t) n (ap (λ x. Err x) same)
    in
    let given : c.fill.new.self.given ≡ c.args.self.now.given = c.in_ok-fill.ensures.given in
    let number : n ≡ c.args.self.now.given + 1 = c.in_err-by_newline.ensures.number n (ap (λ x. Err x) same) ∙ ap
    (λ k. k + 1) given in
    rw (number, ← now) (long_ahead c.args.self.now.given (to_come c.fill.new.self left) (omega arith) long)

-- what the bytes ahead begin with
begins : (g : Over) (c : goal.After-finished g) → g.S.Source.told c.args.source.now
    → Begins (to_come c.args.self.now (g.S.Source.left c.args.source.now Messages)) c.gather.new.line.items
    (to_come c.gather.new.self (g.S.Source.left c.gather.new.source Messages)) c.in_ok-by_newline.by_newline
begins g c t =
    let left : List ℕ = g.S.Source.left c.fill.new.source Messages in
    let now : to_come c.fill.new.self left ≡ to_come c.args.self.now (g.S.Source.left c.args.source.now Messages) =
    c.in_ok-fill.ensures.same t in
    let some : 0 < length (buffered c.fill.new.self) = c.in_ok-fill.ensures.some c.if-not-branch.false in
    let told = c.in_ok-fill.ensures.source.continued.still_told t in
    let it = c.in_ok-by_newline.ensures in
    record {
      some = rw (← now) (omega (arith, length-append (buffered c.fill.new.self) left));
      plain = it.plain;
      up_to = λ by. rw (← now) (it.by_newline told by);
      all = λ by. rw (← now) (it.at_end told by);
      nothing = λ by. it.ended told by;
    }

pub returns-clause-line : goal.returns-clause-line
returns-clause-line g c = λ t. rw c.finished.ensures (line_given _ _ _ _ (begins g c t))

pub returns-clause-fair : goal.returns-clause-fair
returns-clause-fair g c = λ t.
    let given : c.gather.new.self.given ≡ c.args.self.now.given =
    c.in_ok-by_newline.ensures.given ∙ c.in_ok-fill.ensures.given in
    rw given (fault_stays c.args.self.now.given _ _ _ _ (begins g c t) (omega arith) c.in_ok-by_newline.ensures.short)

pub returns-in_err-fill-clause-cause : goal.returns-in_err-fill-clause-cause
returns-in_err-fill-clause-cause g c =
    caused c.from_residual.result _ _ c.from_residual.ensures.1 c.in_err-fill.ensures.cause.rose

pub returns-in_err-by_newline-clause-too_many : goal.returns-in_err-by_newline-clause-too_many
returns-in_err-by_newline-clause-too_many g c = λ t n e.
    let p = err_from_is_err_and c.from_residual-in_err-by_newline.result c.from_residual-in_err-by_newline.ensures.1 in
    let told : LineFault = c.in_err-by_newline.field-0.0 in
    let same : told ≡ TooMany n = cc (p.1, p.2, e) in
    absurd (c.in_err-by_newline.ensures.not_many n (ap (λ x. Err x) same))

pub returns-in_err-by_newline-clause-last_number : goal.returns-in_err-by_newline-clause-last_number
returns-in_err-by_newline-clause-last_number g c = λ n e.
    let p = err_from_is_err_and c.from_residual-in_err-by_newline.result c.from_residual-in_err-by_newline.ensures.1 in
    let told : LineFault = c.in_err-by_newline.field-0.0 in
    let same : told ≡ TooMany n = cc (p.1, p.2, e) in
    absurd (c.in_err-by_newline.ensures.not_many n (ap (λ x. Err x) same))

pub returns-in_err-by_newline-clause-long_number : goal.returns-in_err-by_newline-clause-long_number
returns-in_err-by_newline-clause-long_number g c = λ n e.
    let p = err_from_is_err_and c.from_residual-in_err-by_newline.result c.from_residual-in_err-by_newline.ensures.1 in
    let told : LineFault = c.in_err-by_newline.field-0.0 in
    let same : told ≡ TooLong n = cc (p.1, p.2, e) in
    c.in_err-by_newline.ensures.number n (ap (λ x. Err x) same) ∙ ap (λ k. k + 1) c.in_ok-fill.ensures.given

pub returns-in_err-by_newline-clause-cause : goal.returns-in_err-by_newline-clause-cause
returns-in_err-by_newline-clause-cause g c =
    let p = err_from_is_err_and c.from_residual-in_err-by_newline.result c.from_residual-in_err-by_newline.ensures.1 in
    let told : LineFault = c.in_err-by_newline.field-0.0 in
    let same : c.from_residual-in_err-by_newline.result ≡ Err told = cc (p.1, p.2) in
    caused_later c.from_residual-in_err-by_newline.result told _ _ _ same c.in_ok-fill.ensures.cause.stayed c.in_err-by_newline.ensures.cause

pub returns-in_err-by_newline-clause-source : goal.returns-in_err-by_newline-clause-source
returns-in_err-by_newline-clause-source g c = reads_joined g.S.Source.told g.S.Source.left g.S.Source.faults g.S.Source.holds
    g.S.Source.keeps Messages c.args.source.now c.fill.new.source c.gather.new.source c.in_ok-fill.ensures.source
    c.in_err-by_newline.ensures.source
