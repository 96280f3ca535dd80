use Rattle.std.proofs.Common.{refl}
use Rattle.std.proofs.lemmas.Result.{err_from_is_err_and}
use Rattle.root_anchor.proofs.FindingLemmas.{count_of}
use Rattle.root_anchor.proofs.TypeLemmas.{length-is}
use Rattle.root_anchor.proofs.gaps.gap_behind.Goals as goal

pub returns-in_err-at-clause-sound : goal.returns-in_err-at-clause-sound
returns-in_err-at-clause-sound g c = λ told place s twin ci e.
    let p = err_from_is_err_and c.from_residual.result c.from_residual.ensures.1 in
    c.twin_at.ensures.sound told place s twin ci (cc (p.1, p.2, c.in_err-at.was))

pub returns-clause-gap : goal.returns-clause-gap
returns-clause-gap g c = λ told. record {
  twin = c.in_ok-at.ensures.twin told;
  is_type = refl;
  is_link = refl;
  added_type = refl;
  added_next = refl;
  added_serial = refl;
  added_bytes = refl;
}

pub returns-clause-fits : goal.returns-clause-fits
returns-clause-fits g c = record {
  added = record { direct = c.requires.direct; bytes = c.requires.bytes; serial = c.requires.serial };
  holder = record {
    direct = c.requires.direct;
    firsts = count_of c.in_ok-at.field-0.said.firsts.items _ c.in_ok-at.ensures.types;
    bytes = length-is c.args.segments.now c.args.segment c.in_ok-at.field-0.said.bytes c.in_ok-at.ensures.long;
    serial = c.in_ok-at.ensures.serial;
  };
}
