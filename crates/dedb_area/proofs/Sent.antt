-- The keys of an anchor's roots.
use Rattle.std.proofs.Common.{◌≡◌, ℕ, ◌+◌, sym, subst, arith}
use Rattle.std.specs.Prelude.{Some, slice_get}
use Rattle.std.proofs.lemmas.Bool.Decides.{nat_tests}
use Rattle.fp_model.specs.Shape.{IsDbOf}
use Rattle.fp_model.specs.State.{roots_at}
use Rattle.fp_model.specs.declared.database.Db.{Db}
use Rattle.fp_model.specs.declared.definitions.DedbDef.{DedbDef}
use Rattle.fp_model.specs.declared.definitions.Defs.{Defs}
use Rattle.area_states.specs.declared.place.Place.{Place}
use Rattle.area_states.specs.Places.{LiesIn, place_at, places_of}
use Rattle.area_laws.specs.Areas.{AreSentTo}
use Rattle.area_laws.proofs.OrderLemmas.{shaped_keys}

pub sent_here : (defs : Defs) (set : ℕ) (place : Place) (db : Db) (def : DedbDef) (dedb anchor number : ℕ)
    → IsDbOf defs db → place_at (places_of defs) set ≡ Some place → slice_get defs.dedbs dedb ≡ Some def
    → LiesIn place dedb anchor number → AreSentTo def anchor (roots_at db dedb anchor)
sent_here defs set place db def dedb anchor number shaped is defined lies =
    let own : place.dedb ≡ dedb = (let has = lies.has in grind (arith, nat_tests)) in
    let at : place.first_anchor + number ≡ anchor = sym lies.is_number in
    let sent = shaped_keys defs set place db def number shaped is
    (subst (λ d. slice_get defs.dedbs d ≡ Some def) (sym own) defined) lies.below in
    subst (λ d. AreSentTo def anchor (roots_at db d anchor)) own
    (subst (λ a. AreSentTo def a (roots_at db place.dedb a)) at sent)
