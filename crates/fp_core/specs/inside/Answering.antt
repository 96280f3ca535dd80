-- What one transaction comes to, as it goes on to its next call.
use Rattle.std.specs.Prelude.{◌≡◌, ℕ, List, Option, Some, None, option_map}
use Rattle.fp_model.specs.declared.calls.Call.{Call}
use Rattle.fp_model.specs.declared.calls.Mode.{Mode}
use Rattle.fp_model.specs.declared.calls.Mode.TheVariants.{Exclusive}
use Rattle.fp_model.specs.declared.calls.Resource.{Resource}
use Rattle.fp_model.specs.declared.database.Db.{Db}
use Rattle.fp_model.specs.declared.definitions.Defs.{Defs}
use Rattle.fp_model.specs.declared.scripts.Script.{Script}
use Rattle.fp_model.specs.Answers.{Needed}
use Rattle.fp_model.specs.Asking.{Ask, Asks, Replies, Rolls}
use Rattle.fp_model.specs.Machine.{Transaction}
use Rattle.fp_model.specs.Product.{rules_of}
use Rattle.fp_model.specs.Rules.{Rules}
use Rattle.fp_model.specs.Serial.{after_call}
use Rattle.fp_model.specs.Settle.{resources}
use Rattle.fp_model.specs.Turns.{asks, noted}
use Rattle.fp_core.specs.declared.answering.Acted.{Acted}
use Rattle.fp_core.specs.declared.answering.Acted.TheVariants as acted
use Rattle.fp_core.specs.declared.engine.Active.{Active}
use Rattle.fp_core.specs.Relation.{IsCallAhead, IsSetup, IsTransaction}

-- the lock that is needed for what a transaction does next, where its region holds these resources
abbrev pub lock_for : Rules → (Resource → Option Mode) → Db → Transaction → Ask → Option Needed
lock_for rules held now t (Asks call) = rules.need now t.point.own held call
lock_for rules held now t (Replies reply) =
    option_map (λ resource. record { resource = resource; mode = Exclusive }) (rules.lack t.point.own held)
lock_for rules held now t (Rolls code) = None

-- what it does next, once that is taken from it, is this call
pub record IsCalling (defs : Defs) (scripts : List Script) (active : Active) (t : Transaction) (call : Call) : Type 0
  where
    pub setup : IsSetup defs scripts
    pub is : IsTransaction defs scripts active t
    pub ahead : IsCallAhead defs scripts active.program t call
    pub taken : active.ahead ≡ None

-- or this reply
pub record IsReplying (defs : Defs) (scripts : List Script) (active : Active) (t : Transaction) (text : List ℕ)
    (segments : List Resource) : Type 0 where
  pub is : IsTransaction defs scripts active t
  pub asked : asks (rules_of defs scripts) t ≡ Replies text
  pub needs : segments ≡ resources t.point.own.deferred

-- A transaction, whose region holds these resources, where this is the state now, behind so many entries.
module _ (defs : Defs) (scripts : List Script) (held : Resource → Option Mode) (now : Db) (count : ℕ) (t : Transaction)
    (active : Active) where
  -- Its call needed no lock, and was answered,
  pub record WasAnswered : Type 0 where
    pub call : Call
    pub asked : asks (rules_of defs scripts) t ≡ Asks call
    pub ready : (rules_of defs scripts).need now t.point.own held call ≡ None
    pub is : IsTransaction defs scripts active (record t {
      point = after_call (rules_of defs scripts) now now t.point call;
      notes = noted (rules_of defs scripts) ((rules_of defs scripts).looks t.point.own call) t.notes count;
    })

  -- or it needs this lock, and stays,
  pub record LacksLock (needed : Needed) : Type 0 where
    pub needs : lock_for (rules_of defs scripts) held now t (asks (rules_of defs scripts) t) ≡ Some needed
    pub is : IsTransaction defs scripts active t

  -- or its script is at this reply, and it stays, and lacks no lock,
  pub record HasReplied (reply : List ℕ) : Type 0 where
    pub asked : asks (rules_of defs scripts) t ≡ Replies reply
    pub lacks_none : (rules_of defs scripts).lack t.point.own held ≡ None
    pub is : IsTransaction defs scripts active t

  -- or at this rollback code, and it stays.
  pub record HasRolled (code : ℕ) : Type 0 where
    pub asked : asks (rules_of defs scripts) t ≡ Rolls code
    pub is : IsTransaction defs scripts active t

  abbrev pub IsActed : Acted → Type 0
  IsActed acted.Answered = WasAnswered
  IsActed (acted.Needs resource mode) = LacksLock (record { resource = resource; mode = mode })
  IsActed (acted.Replies reply) = HasReplied reply
  IsActed (acted.Rolls code) = HasRolled code
