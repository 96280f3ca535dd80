use Rattle.std.proofs.Common.{◌≡◌, ◌∙◌, ◌∷◌, List, ap, sym, subst, map, rules}
use Rattle.std.specs.List.{AllByRecursion}
use Rattle.fp_model.specs.Commit.{with_inserts}
use Rattle.fp_model.specs.State.{loaded}
use Rattle.fp_model.specs.declared.calls.SeqInsert.{SeqInsert}
use Rattle.fp_model.specs.declared.database.Db.{Db}
use Rattle.past_anchors.specs.Databases.{state_of}
use Rattle.past_anchors.proofs.Inserting.{beside, first_of, next_of}
use Rattle.state_laws.specs.Parts.{FitsSeqInsert}
use Rattle.state_laws.proofs.Numbering.{HasShapeAndRoom}
use Rattle.past_anchors.proofs.numbering.insert_all.Goals as goal

pub loop-one-init : goal.loop-one-init
loop-one-init c =
    let defs = c.args.defs.now in
    let dedbs = c.args.dedbs.now in
    let is : c.into_iter-one-iterator.result.rest.items ≡ c.args.inserts =
    c.into_iter-one-iterator.ensures.into_iter_gives.0 ∙ c.into_vec-one-items.ensures in
    record {
      inserted = λ msdbs. ap (λ (ones : List SeqInsert). with_inserts defs ones (state_of msdbs dedbs)) is;
      has =
          subst (λ (ones : List SeqInsert). HasShapeAndRoom defs ones (beside defs dedbs)) (sym is)
          (first_of defs dedbs c.args.inserts c.requires.good c.requires.shape c.requires.room);
      fits = subst (AllByRecursion (FitsSeqInsert defs)) (sym is) c.requires.fits;
    }

pub loop-one-preserved : goal.loop-one-preserved
loop-one-preserved c =
    let defs = c.args.defs.now in
    let dedbs = c.loop-one.dedbs in
    let one = c.in-Some.one in
    let rest = c.next.new.self.rest.items in
    let next : c.loop-one.one-iterator.rest.items ≡ one ∷ rest = search rules in
    let fits = subst (AllByRecursion (FitsSeqInsert defs)) next c.loop-one.invariant.fits in
    record {
      inserted = λ msdbs.
          ap (λ (db : Db). with_inserts defs rest db) (sym (c.in_ok-insert.ensures msdbs))
          ∙ ap (λ (ones : List SeqInsert). with_inserts defs ones (state_of msdbs dedbs)) (sym next)
          ∙ c.loop-one.invariant.inserted msdbs;
      has =
          next_of defs dedbs c.insert.new.dedbs one rest fits.0 (c.in_ok-insert.ensures (map loaded defs.msdbs))
          (subst (λ (ones : List SeqInsert). HasShapeAndRoom defs ones (beside defs dedbs)) next
          c.loop-one.invariant.has);
      fits = fits.1;
    }
