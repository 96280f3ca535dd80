-- What each step of a reading gave, where the whole has no fault.
use Rattle.std.proofs.Common.{◌≡◌, Option, Some, None, Result, Ok, Err, refl}
use Rattle.def_tables.specs.Readings.{or_fault}
use Rattle.fp_model.specs.Readings.{◌>>=◌}
use Rattle.def_tables.specs.declared.fault.DefsFault.{DefsFault}

-- a step that may have a fault
pub ok_step : {A B : Type 0} (r : Result A DefsFault) (step : A → Result B DefsFault) (y : B) → (r >>= step) ≡ Ok y
    → (x : A) × (r ≡ Ok x) × (step x ≡ Ok y)
ok_step (Err fault) step y e = absurd (cc)
ok_step (Ok x) step y e = (x, refl, e)

pub some_from_ok : {A : Type 0} (fault : DefsFault) (o : Option A) (x : A) → or_fault fault o ≡ Ok x → o ≡ Some x
some_from_ok fault None x e = absurd (cc)
some_from_ok fault (Some y) x e = cc

pub ok_same : {A : Type 0} (x y : A) (r : Result A DefsFault) → r ≡ Ok x → r ≡ Ok y → x ≡ y
ok_same x y r e f = cc
