use Rattle.std.proofs.Common.{sym, subst}
use Rattle.area_states.specs.Places.{ArePlaces, IsPlace}
use Rattle.dedb_area.proofs.Defined.{places_more}
use Rattle.dedb_area.proofs.opening.add_place.Goals as goal
use Rattle.area_laws.proofs.DefLemmas.{is_place}

pub returns-clause-sized : goal.returns-clause-sized
returns-clause-sized c = λ all.
    let is = subst IsPlace (sym c.in_ok-place.ensures) (is_place c.args.def.now (record {
      dedb = c.args.dedb;
      number = c.args.number;
      first_anchor = c.args.first_anchor;
      def = c.args.area.now;
    }) c.requires.def c.requires.area) in
    subst ArePlaces (sym c.in_ok-push.ensures.items) (places_more c.args.places.now.items c.in_ok-place.place all is)
