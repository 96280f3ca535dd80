use Rattle.std.proofs.Common.{◌+◌, ◌-◌, drop, take, sym, ap, ◌∙◌, subst, arith}
use Rattle.std.proofs.lemmas.List.{length-drop, length-take}
use Rattle.fp_site.proofs.Runs.{weaker}
use Rattle.gated_write.specs.Gates.{IsWriting}
use Rattle.msdb_checkpoint.proofs.StageLemmas.{piece_is, unopened_is, up_to, written_within}
use Rattle.fp_site.specs.Disk.{written}
use Rattle.msdb_checkpoint.proofs.stages.write_piece.Goals as goal

pub returns-in_err-put-clause-crash : goal.returns-in_err-put-clause-crash
returns-in_err-put-clause-crash g c t at = weaker _ _ _ _
    (λ s un. unopened_is _ c.args.set c.args.body.now at.0 (s.images c.args.set) at.1 un)
    (c.put.ensures.crash at.0 0 t at.3.each at.3.stands (omega arith))

pub returns-in_err-put-clause-settles : goal.returns-in_err-put-clause-settles
returns-in_err-put-clause-settles g c image t at settles = unopened_is _ c.args.set c.args.body.now at.0 image at.1
    (c.put.ensures.settles at.0 0 t at.3.each at.3.stands (omega arith) image settles)

pub returns-clause-next : goal.returns-clause-next
returns-clause-next g c t at = (
  at.0,
  at.1,
  omega (arith, c.min-end.ensures),
  subst (λ b. IsWriting at.0 0 b c.args.set (g.S.Site.disk c.put.new.site))
      (sym (up_to c.args.body.now c.args.count c.min-end.result (omega (arith, c.min-end.ensures, c.requires.more))))
      (c.in_ok-put.ensures.wrote at.0 0 (take c.args.count c.args.body.now) t at.3
      (omega (arith, length-take c.args.count c.args.body.now, c.requires.more))),
)

pub returns-clause-crash : goal.returns-clause-crash
returns-clause-crash g c t at = weaker _ _ _ _
    (λ s un. unopened_is _ c.args.set c.args.body.now at.0 (s.images c.args.set) at.1 un)
    (c.put.ensures.crash at.0 0 t at.3.each at.3.stands (omega arith))

pub returns-clause-settles : goal.returns-clause-settles
returns-clause-settles g c image t at settles = unopened_is _ c.args.set c.args.body.now at.0 image at.1
    (c.put.ensures.settles at.0 0 t at.3.each at.3.stands (omega arith) image settles)

pub returns-clause-piece : goal.returns-clause-piece
returns-clause-piece g c t =
    let old = (g.S.Site.disk c.args.site.now).contents c.args.set in
    let same = piece_is c.args.body.now c.args.count c.min-end.result (omega (arith, c.requires.more))
    (omega (arith, c.min-end.ensures)) in
    c.in_ok-put.ensures.text t ∙ ap (λ piece. written old (1 + c.args.count) piece) same

pub returns-clause-no_longer : goal.returns-clause-no_longer
returns-clause-no_longer g c t =
    let body = c.args.body.now in
    let end = c.min-end.result in
    let long = length-take (end - c.args.count) (drop c.args.count body) in
    written_within body _ _ (take (end - c.args.count) (drop c.args.count body)) (1 + c.args.count)
    (omega (arith, c.min-end.ensures, c.requires.more, long, length-drop c.args.count body))
    (c.in_ok-put.ensures.text t)
