use Rattle.std.proofs.Common.{◌∙◌, List, ap, sym}
use Rattle.fp_model.specs.Commit.{with_anchors}
use Rattle.fp_model.specs.declared.database.Dedb.{Dedb}
use Rattle.past_anchors.specs.Databases.{state_of}
use Rattle.past_anchors.proofs.Inserting.{room_behind, shape_behind}
use Rattle.past_anchors.proofs.anchors.Anchors.commit.Goals as goal

pub insert_all-requires-clause-shape : goal.insert_all-requires-clause-shape
insert_all-requires-clause-shape c =
    shape_behind c.args.defs.now c.args.self.now c.change_anchors.new.dedbs c.args.changes c.args.inserts
    c.requires.good c.requires.shape c.requires.fits
    (λ msdbs. ap (λ (ds : List Dedb). with_anchors c.args.changes (state_of msdbs ds)) (sym c.self.view_is)
    ∙ c.change_anchors.ensures msdbs)

pub insert_all-requires-clause-room : goal.insert_all-requires-clause-room
insert_all-requires-clause-room c =
    room_behind c.args.defs.now c.args.self.now c.change_anchors.new.dedbs c.args.changes c.args.inserts
    c.requires.good c.requires.shape c.requires.fits
    (λ msdbs. ap (λ (ds : List Dedb). with_anchors c.args.changes (state_of msdbs ds)) (sym c.self.view_is)
    ∙ c.change_anchors.ensures msdbs) c.requires.room
