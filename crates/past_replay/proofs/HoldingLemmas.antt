-- What a transaction keeps of calls that are answered on the roots of a state.
use Rattle.std.proofs.Common.{◌≡◌, refl, ap, subst, arith, ℕ, ◌+◌, ◌≤◌, List, [], length}
use Rattle.std.specs.Prelude.{IfOk, OnOk, Result, Ok, Err}
use Rattle.dedb_calls.specs.Anchors.{Sees}
use Rattle.fp_model.specs.declared.calls.Answer.{Answer}
use Rattle.fp_model.specs.declared.calls.Call.{Call}
use Rattle.fp_model.specs.declared.database.Db.{Db}
use Rattle.fp_model.specs.declared.definitions.Defs.{Defs}
use Rattle.fp_model.specs.Answers.{Replied}
use Rattle.fp_model.specs.Calls.{Target, OnMsdb, OnDedb, Nowhere, database_of, msdb_at, reply_on, reply_to, target_of}
use Rattle.past_calls.specs.Progress.{Progress}
use Rattle.past_calls.specs.Targets.{FitsWork, IfDedb, LeavesMsdbs}
use Rattle.past_replay.proofs.Keeping.{msdb_defers}

-- without anchors nothing is seen otherwise
pub sees_none : (db : Db) → Sees db []
sees_none db dedb anchor a e = absurd (cc)

defers_on : (t : Target) (now visible : Db) (old new : Progress) (c : Call) (answer : Answer) → FitsWork t old c
    → IfDedb t (LeavesMsdbs old new)
    → reply_on t now visible old.own c ≡ record { answer = answer; own = new.own }
    → length new.own.deferred ≤ length old.own.deferred + 1
defers_on (OnMsdb def msdb) now visible old new c answer fits leaves e =
    subst (λ (r : Replied). length r.own.deferred ≤ length old.own.deferred + 1) e
    (msdb_defers def msdb old.own (msdb_at now msdb) (msdb_at visible msdb) c)
defers_on (OnDedb def dedb) now visible old new c answer fits leaves e =
    let same : length new.own.deferred ≡ length old.own.deferred = ap length leaves.deferred in omega (arith, same)
defers_on Nowhere now visible old new c answer fits leaves e = absurd fits

reply_is : (defs : Defs) (now visible : Db) (old : Progress) (c : Call)
    → reply_to defs now visible old.own c ≡ reply_on (target_of defs (database_of c)) now visible old.own c
unfolding reply_to
reply_is defs now visible old c = refl

-- a call defers one more at most
pub defers_one : {E : Type 0} (r : Result Answer E) (defs : Defs) (now visible : Db) (old new : Progress) (c : Call)
    → FitsWork (target_of defs (database_of c)) old c
    → OnOk r (IfDedb (target_of defs (database_of c)) (LeavesMsdbs old new))
    → IfOk r (λ answer. reply_to defs now visible old.own c ≡ record { answer = answer; own = new.own })
    → OnOk r (length new.own.deferred ≤ length old.own.deferred + 1)
defers_one (Ok answer) defs now visible old new c fits leaves e =
    defers_on (target_of defs (database_of c)) now visible old new c answer fits leaves
    (subst (λ (x : Replied). x ≡ record { answer = answer; own = new.own }) (reply_is defs now visible old c) e)
defers_one (Err error) defs now visible old new c fits leaves e = tt
