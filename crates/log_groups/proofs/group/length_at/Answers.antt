use Rattle.std.proofs.Common.{◌+◌, ◌∙◌, ap, arith}
use Rattle.std.proofs.lemmas.Result.{IfOk-from_err}
use Rattle.fp_lists.proofs.ContinuedLemmas.{continued_both}
use Rattle.fp_site.proofs.Runs.{stays_then}
use Rattle.fp_site.specs.Disk.{read_range}
use Rattle.log_groups.proofs.BodyReads.{cut_short, length_read, no_length_is_damage, past_end_is_damage}
use Rattle.log_groups.proofs.group.length_at.Goals.{then-size-lt9-via-then-size-lt9, then-size-lt9-via-else-size-lt9+then-at-size}
use Rattle.log_groups.proofs.group.length_at.Goals.{then-len-eq0-via-then-len-eq0, then-len-eq0-via-else-len-eq0+then-len-size}
use Rattle.log_groups.proofs.group.length_at.Goals as goal

-- the length is cut short
pub returns-then-size-lt9-clause-none : goal.returns-then-size-lt9-clause-none
returns-then-size-lt9-clause-none g c t one =
    let bytes = (g.S.Site.disk c.args.site.now).contents 0 in
    let size = c.in_ok-size.ensures.value t in
    elim c.then-size-lt9.branch [
      | then-size-lt9-via-then-size-lt9 w ↦ cut_short bytes c.args.at one (omega (arith, size, w.if-size-lt9.true))
      | then-size-lt9-via-else-size-lt9+then-at-size w ↦
          cut_short bytes c.args.at one (omega (arith, size, w.if-size-lt9.false, w.if-at-size.true))
    ]

-- it is 0, or passes the end
pub returns-then-len-eq0-clause-none : goal.returns-then-len-eq0-clause-none
returns-then-len-eq0-clause-none g c t one =
    let bytes = (g.S.Site.disk c.args.site.now).contents 0 in
    let size = c.in_ok-size.ensures.value t in
    let bound = c.in_ok-size.ensures.bound in
    let read = c.number_of-len.ensures.text ∙ c.in_ok-read_at.ensures.value (c.size.ensures.site.still_told t) ∙ ap
    (λ f. read_range (f 0) (c.args.at + 1) 8) (c.size.ensures.stays t).contents in
    let text = length_read bytes c.args.at c.number_of-len.result
    (omega (arith, size, c.if-size-lt9.false, c.if-at-size.false)) read in
    elim c.then-len-eq0.branch [
      | then-len-eq0-via-then-len-eq0 w ↦ no_length_is_damage bytes c.args.at c.number_of-len.result one text
          w.if-len-eq0.true
      | then-len-eq0-via-else-len-eq0+then-len-size w ↦
          past_end_is_damage bytes c.args.at c.number_of-len.result one text c.number_of-len.type_inv
          (omega (arith, size, c.if-size-lt9.false, c.if-at-size.false, w.if-len-size.true))
    ]

pub returns-clause-found : goal.returns-clause-found
returns-clause-found g c t =
    let bytes = (g.S.Site.disk c.args.site.now).contents 0 in
    let size = c.in_ok-size.ensures.value t in
    let bound = c.in_ok-size.ensures.bound in
    let read = c.number_of-len.ensures.text ∙ c.in_ok-read_at.ensures.value (c.size.ensures.site.still_told t) ∙ ap
    (λ f. read_range (f 0) (c.args.at + 1) 8) (c.size.ensures.stays t).contents in
    record {
      some = omega (arith, c.if-len-eq0.false);
      small = omega (arith, bound, c.if-size-lt9.false, c.if-at-size.false, c.if-len-size.false);
      text = length_read bytes c.args.at c.number_of-len.result
          (omega (arith, size, c.if-size-lt9.false, c.if-at-size.false)) read;
      inside = omega (arith, size, c.if-size-lt9.false, c.if-at-size.false, c.if-len-size.false);
    }

-- ---- the size can't be asked

pub returns-in_err-size-clause-found : goal.returns-in_err-size-clause-found
returns-in_err-size-clause-found g c t = IfOk-from_err c.from_residual.result _ c.from_residual.ensures.0

pub returns-in_err-size-clause-none : goal.returns-in_err-size-clause-none
returns-in_err-size-clause-none g c t one = IfOk-from_err c.from_residual.result _ c.from_residual.ensures.0

pub returns-in_err-size-clause-within : goal.returns-in_err-size-clause-within
returns-in_err-size-clause-within g c = IfOk-from_err c.from_residual.result _ c.from_residual.ensures.0

pub returns-in_err-size-clause-count : goal.returns-in_err-size-clause-count
returns-in_err-size-clause-count g c told = IfOk-from_err c.from_residual.result _ c.from_residual.ensures.0

pub returns-in_err-size-clause-stays : goal.returns-in_err-size-clause-stays
returns-in_err-size-clause-stays g c = c.size.ensures.stays

pub returns-in_err-size-clause-site : goal.returns-in_err-size-clause-site
returns-in_err-size-clause-site g c = c.size.ensures.site

-- ---- the length can't be read

pub returns-in_err-read_at-clause-found : goal.returns-in_err-read_at-clause-found
returns-in_err-read_at-clause-found g c t =
    IfOk-from_err c.from_residual-in_err-read_at.result _ c.from_residual-in_err-read_at.ensures.0

pub returns-in_err-read_at-clause-none : goal.returns-in_err-read_at-clause-none
returns-in_err-read_at-clause-none g c t one =
    IfOk-from_err c.from_residual-in_err-read_at.result _ c.from_residual-in_err-read_at.ensures.0

pub returns-in_err-read_at-clause-within : goal.returns-in_err-read_at-clause-within
returns-in_err-read_at-clause-within g c =
    IfOk-from_err c.from_residual-in_err-read_at.result _ c.from_residual-in_err-read_at.ensures.0

pub returns-in_err-read_at-clause-count : goal.returns-in_err-read_at-clause-count
returns-in_err-read_at-clause-count g c told =
    IfOk-from_err c.from_residual-in_err-read_at.result _ c.from_residual-in_err-read_at.ensures.0

pub returns-in_err-read_at-clause-stays : goal.returns-in_err-read_at-clause-stays
returns-in_err-read_at-clause-stays g c t =
    let t1 = c.size.ensures.site.still_told t in
    stays_then _ _ _ (g.met.S.Site.lawful c.args.site.now t) (g.met.S.Site.lawful c.size.new.self t1)
    (c.size.ensures.stays t) (c.read_at.ensures.stays t1)

pub returns-in_err-read_at-clause-site : goal.returns-in_err-read_at-clause-site
returns-in_err-read_at-clause-site g c = continued_both _ _ _ _ _ _ _ c.size.ensures.site c.read_at.ensures.site

pub returns-in_err-read_at-clause-reads : goal.returns-in_err-read_at-clause-reads
returns-in_err-read_at-clause-reads g c k told =
    let none = c.size.ensures.reads k (c.read_at.ensures.reads k told) in
    (none.0, λ other. c.read_at.ensures.others k other told ∙ none.1)

-- ---- nothing changes

pub returns-then-size-lt9-clause-stays : goal.returns-then-size-lt9-clause-stays
returns-then-size-lt9-clause-stays g c = c.size.ensures.stays

pub returns-then-size-lt9-clause-site : goal.returns-then-size-lt9-clause-site
returns-then-size-lt9-clause-site g c = c.size.ensures.site

pub returns-then-len-eq0-clause-stays : goal.returns-then-len-eq0-clause-stays
returns-then-len-eq0-clause-stays g c t =
    let t1 = c.size.ensures.site.still_told t in
    stays_then _ _ _ (g.met.S.Site.lawful c.args.site.now t) (g.met.S.Site.lawful c.size.new.self t1)
    (c.size.ensures.stays t) (c.read_at.ensures.stays t1)

pub returns-then-len-eq0-clause-site : goal.returns-then-len-eq0-clause-site
returns-then-len-eq0-clause-site g c = continued_both _ _ _ _ _ _ _ c.size.ensures.site c.read_at.ensures.site

pub returns-then-len-eq0-clause-reads : goal.returns-then-len-eq0-clause-reads
returns-then-len-eq0-clause-reads g c k told =
    let none = c.size.ensures.reads k (c.read_at.ensures.reads k told) in
    (none.0, λ other. c.read_at.ensures.others k other told ∙ none.1)

pub returns-clause-stays : goal.returns-clause-stays
returns-clause-stays g c t =
    let t1 = c.size.ensures.site.still_told t in
    stays_then _ _ _ (g.met.S.Site.lawful c.args.site.now t) (g.met.S.Site.lawful c.size.new.self t1)
    (c.size.ensures.stays t) (c.read_at.ensures.stays t1)

pub returns-clause-site : goal.returns-clause-site
returns-clause-site g c = continued_both _ _ _ _ _ _ _ c.size.ensures.site c.read_at.ensures.site

pub returns-clause-reads : goal.returns-clause-reads
returns-clause-reads g c k told =
    let none = c.size.ensures.reads k (c.read_at.ensures.reads k told) in
    (none.0, λ other. c.read_at.ensures.others k other told ∙ none.1)
