-- What a transaction keeps to itself until it commits.
use Rattle.std.specs.Prelude.{ℕ, List, [], ◌∷◌, map, Bool, false, ◌&&◌, ◌||◌, ◌==◌, nat_lt, if◌then◌else◌, Option, None}
use Rattle.fp_model.specs.declared.definitions.Defs.{Defs}
use Rattle.fp_model.specs.declared.calls.AnchorChange.{AnchorChange}
use Rattle.fp_model.specs.declared.calls.Deferred.{Deferred}
use Rattle.fp_model.specs.declared.calls.SeqInsert.{SeqInsert}
use Rattle.fp_model.specs.Order.{Place}

-- Of a main storage database: the key of the segment found last, and whether the last call to the database was a hold
-- get that found it.
pub record MsdbPosition : Type 0 where
  pub key : Option (List ℕ)
  pub held : Bool

-- Of a data entry database: the place found or inserted last, the parent for gets below it, and whether the last call
-- to the database was a hold get that found.
pub record DedbPosition : Type 0 where
  pub place : Option Place
  pub parent : Option Place
  pub held : Bool

-- Positions, the anchors changed so far, ascending by database and anchor, and the deferred calls and the sequential
-- inserts, both in call order.
pub record Workspace : Type 0 where
  pub msdbs : List MsdbPosition
  pub dedbs : List DedbPosition
  pub changes : List AnchorChange
  pub deferred : List Deferred
  pub inserts : List SeqInsert

-- ---- changed anchors

-- a change stands before another: by database, then anchor
abbrev pub change_precedes : AnchorChange → AnchorChange → Bool
change_precedes c d = nat_lt c.dedb d.dedb || c.dedb == d.dedb && nat_lt c.anchor d.anchor

-- with one more, in place of that of its anchor
abbrev pub put_change : AnchorChange → List AnchorChange → List AnchorChange
put_change c [] = c ∷ []
put_change c (d ∷ others) =
    if change_precedes c d then c ∷ d ∷ others
    else (if change_precedes d c then d ∷ put_change c others else c ∷ others)

-- ---- the beginning

abbrev pub no_msdb_position : MsdbPosition
no_msdb_position = record { key = None; held = false }

abbrev pub no_dedb_position : DedbPosition
no_dedb_position = record { place = None; parent = None; held = false }

-- as a transaction begins
abbrev pub fresh : Defs → Workspace
fresh defs = record {
  msdbs = map (λ def. no_msdb_position) defs.msdbs;
  dedbs = map (λ def. no_dedb_position) defs.dedbs;
  changes = [];
  deferred = [];
  inserts = [];
}
