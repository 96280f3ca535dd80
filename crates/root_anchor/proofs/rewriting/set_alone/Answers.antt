use Rattle.std.proofs.Common.{sym, subst}
use Rattle.std.proofs.lemmas.Result.{err_from_is_err_and}
use Rattle.anchor_elements.specs.Elements.{HasSegment}
use Rattle.anchor_elements.specs.Puts.{PutsSegment}
use Rattle.root_anchor.specs.inside.Finding.{says_of}
use Rattle.root_anchor.proofs.AloneLemmas.{roots_differ_have}
use Rattle.root_anchor.proofs.FindingLemmas.{found_there}
use Rattle.root_anchor.proofs.rewriting.set_alone.Goals as goal

pub returns-in_err-put_found-in-Ok-Some-clause-sound : goal.returns-in_err-put_found-in-Ok-Some-clause-sound
returns-in_err-put_found-in-Ok-Some-clause-sound g c = λ told ci e.
    let p = err_from_is_err_and c.from_residual.result c.from_residual.ensures.1 in
    let found = c.in-Ok-Some.found in
    let h = roots_differ_have (found_there _ found _ c.in-Ok-Some.field-0-is (c.in-Ok-Some.ensures.found told)) in
    let has = subst (λ a. HasSegment c.args.segments.now a found.segment found.at h.0)
    (sym (c.find_change.ensures.look.same told)) h.1 in
    c.put_found.ensures.sound (c.find_change.ensures.look.goes_on.tells told) h.0 has ci
    (cc (p.1, p.2, c.in_err-put_found-in-Ok-Some.was))

pub returns-in_ok-put_found-in-Ok-Some-clause-set : goal.returns-in_ok-put_found-in-Ok-Some-clause-set
returns-in_ok-put_found-in-Ok-Some-clause-set g c = λ told yes.
    let found = c.in-Ok-Some.found in
    let same = c.find_change.ensures.look.same told in
    let there = found_there _ found _ c.in-Ok-Some.field-0-is (c.in-Ok-Some.ensures.found told) in
    let h = roots_differ_have there in
    let has = subst (λ a. HasSegment c.args.segments.now a found.segment found.at h.0) (sym same) h.1 in
    record {
      type = found.segment;
      place = found.at;
      says = says_of found;
      is_there = there;
      puts = subst (λ a. PutsSegment c.args.segments.now a (g.I.Intervals.intervals c.put_found.new.i) found.segment
          found.at (says_of found)) same
          (c.in_ok-put_found-in-Ok-Some.ensures.put (c.find_change.ensures.look.goes_on.tells told) h.0 has);
    }
