-- What the bytes of areas stand for behind entries.
use Rattle.std.proofs.Common.{◌≡◌, ℕ, zero, suc, ◌<◌, ◌≤◌, List, [], ◌∷◌, ◌++◌, length, take, drop, refl, sym, ◌∙◌, ap, subst, arith}
use Rattle.fp_model.specs.declared.database.Db.{Db}
use Rattle.fp_model.specs.declared.log.Entry.{Entry}
use Rattle.held_intervals.specs.Holding.{listed}
use Rattle.area_redo.specs.Redo.{AreaBytes, count_in, redone}
use Rattle.area_redo.specs.Standing.{behind}
use Rattle.area_states.specs.declared.place.Place.{Place}
use Rattle.area_states.specs.Places.{layout_of}
use Rattle.area_states.specs.States.{HasState}
use Rattle.area_states.specs.Databases.{AreFor, ForStates, area_in, last_of, state_of}
use Rattle.held_intervals.proofs.Holds.{listed_same}

-- bytes that agree in the intervals that control counts are one area
pub same_area : (places : List Place) (a b : AreaBytes) (set : ℕ)
    → count_in (layout_of places) b set ≡ count_in (layout_of places) a set
    → ((ci : ℕ) → ci < count_in (layout_of places) a set → a set ci ≡ b set ci)
    → area_in (layout_of places) a set ≡ area_in (layout_of places) b set
same_area places a b set counts same =
    listed_same (count_in (layout_of places) a set) (a set) (b set) same ∙ ap (λ n. listed n (b set)) (sym counts)

-- and stand for the same databases
pub same_bytes : (places : List Place) (a b : AreaBytes) (db : Db)
    → ((set : ℕ) → count_in (layout_of places) b set ≡ count_in (layout_of places) a set)
    → ((set ci : ℕ) → ci < count_in (layout_of places) a set → a set ci ≡ b set ci)
    → AreFor places a db → AreFor places b db
same_bytes places a b db counts same are set place is =
    subst (λ area. HasState place area (state_of place db)) (same_area places a b set (counts set) (same set))
    (are set place is)

-- behind all entries the bytes stand for the last state
pub newest_for : (places : List Place) (entries : List Entry) (bytes : AreaBytes) (db : Db) (states : List Db)
    → ForStates places bytes entries (db ∷ states) → AreFor places (behind entries bytes) (last_of db states)
newest_for places [] bytes db states h = subst (λ l. AreFor places bytes (last_of db l)) (sym h.1) h.0
newest_for places (e ∷ entries) bytes db [] h = absurd h.1
newest_for places (e ∷ entries) bytes db (d ∷ states) h = newest_for places entries (redone e.items bytes) d states h.1

-- an entry more
pub one_more : (places : List Place) (entries : List Entry) (bytes : AreaBytes) (states : List Db) (e : Entry) (db : Db)
    → ForStates places bytes entries states → AreFor places (redone e.items (behind entries bytes)) db
    → ForStates places bytes (entries ++ e ∷ []) (states ++ db ∷ [])
one_more places entries bytes [] e db h next = absurd h
one_more places [] bytes (d ∷ states) e db h next =
    (h.0, subst (λ l. ForStates places (redone e.items bytes) [] (l ++ db ∷ [])) (sym h.1) (next, refl))
one_more places (f ∷ entries) bytes (d ∷ states) e db h next =
    (h.0, one_more places entries (redone f.items bytes) states e db h.1 next)

-- the oldest n entries sealed
pub some_sealed : (places : List Place) (n : ℕ) (entries : List Entry) (bytes : AreaBytes) (states : List Db)
    → n ≤ length entries → ForStates places bytes entries states
    → ForStates places (behind (take n entries) bytes) (drop n entries) (drop n states)
some_sealed places zero entries bytes states le h = h
some_sealed places (suc n) [] bytes states le h = absurd (omega arith)
some_sealed places (suc n) (e ∷ entries) bytes [] le h = absurd h
some_sealed places (suc n) (e ∷ entries) bytes (d ∷ states) le h =
    some_sealed places n entries (redone e.items bytes) states (omega arith) h.1
