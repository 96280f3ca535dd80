use Rattle.std.proofs.Common.{◌∙◌, refl, ap}
use Rattle.std.specs.Option.{option_copied}
use Rattle.fp_model.specs.DedbCalls.{anchors_searched, begins_behind, lock_of, root_named, stays_below}
use Rattle.fp_model.specs.declared.calls.Resource.TheVariants.{Anchor}
use Rattle.fp_model.specs.Workspace.{DedbPosition}
use Rattle.dedb_calls.specs.Progress.{position_in}
use Rattle.dedb_calls.specs.inside.Searches.{numbers_in}
use Rattle.dedb_calls.proofs.SeenLemmas.{in_order}
use Rattle.dedb_calls.proofs.GetLemmas.{renamed}
use Rattle.dedb_calls.proofs.get.Database.look.Goals as goal
use Rattle.plain_laws.proofs.Results.{if_ok_then}

pub search-requires-clause-shapes : goal.search-requires-clause-shapes
search-requires-clause-shapes g c anchor a at =
    in_order c.args.self.def.now anchor a.roots (c.requires.fits.shapes anchor a at)

pub returns : goal.returns
returns g c =
    let def = c.args.self.def.now in
    let number = c.args.self.number in
    let p = c.position-position.ensures in
    if_ok_then c.search.result c.search.ensures (λ l h.
    renamed l (λ a. g.L.AnchorLocks.modes c.args.locks.now c.args.work.now (Anchor number a)) def.segments number
    c.args.work.now.anchors c.args.work.now.anchors c.lock_of.result (lock_of def number c.args.asked.hold)
    (option_copied c.quest_of-quest.result.behind)
    (begins_behind def number (position_in c.args.work.now number) c.args.asked.get)
    (option_copied c.quest_of-quest.result.within)
    (stays_below def number (position_in c.args.work.now number) c.args.asked.get)
    c.quest_of-quest.result.ssas.now c.args.asked.ssas.now (numbers_in c.stretch-stretch.result)
    (anchors_searched def number (position_in c.args.work.now number) c.args.asked.get
    (root_named def number c.args.asked.ssas.now)) refl (c.lock_of.ensures def number)
    (c.quest_of-quest.ensures.behind def number
    ∙ ap (λ (q : DedbPosition). begins_behind def number q c.args.asked.get) p)
    (c.quest_of-quest.ensures.within def number
    ∙ ap (λ (q : DedbPosition). stays_below def number q c.args.asked.get) p)
    c.quest_of-quest.ensures.ssas
    (c.stretch-stretch.ensures.anchors number (root_named def number c.args.asked.ssas.now) c.requires.root
    ∙ ap (λ (q : DedbPosition). anchors_searched def number q c.args.asked.get
    (root_named def number c.args.asked.ssas.now)) p)
    h)
