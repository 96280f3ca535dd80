-- What a call comes to: its answer, or the lock that it needs first.
use Rattle.std.specs.Prelude.{◌≡◌, ⊤, ℕ, Option, Some, None}
use Rattle.fp_model.specs.declared.calls.Answer.{Answer}
use Rattle.fp_model.specs.declared.calls.Resource.TheVariants.{Anchor}
use Rattle.fp_model.specs.declared.database.Db.{Db}
use Rattle.fp_model.specs.Answers.{Needed, Replied}
use Rattle.fp_model.specs.Workspace.{Workspace}
use Rattle.dedb_calls.specs.Anchors.{Sees}
use Rattle.dedb_calls.specs.Progress.{DedbProgress, with_progress}
use Rattle.dedb_calls.specs.declared.ready.DedbReady.{DedbReady}
use Rattle.dedb_calls.specs.declared.ready.DedbReady.TheVariants as ready

-- the lock of an anchor of a database, if one is needed
abbrev pub needed_in : ℕ → DedbReady → Option Needed
needed_in dedb (ready.Answer answer) = None
needed_in dedb (ready.Need anchor mode) = Some (record { resource = Anchor dedb anchor; mode = mode })

-- of an answer
abbrev pub IfAnswer : DedbReady → (Answer → Type 0) → Type 0
IfAnswer (ready.Answer answer) P = P answer
IfAnswer (ready.Need anchor mode) P = ⊤

-- where a lock is needed
abbrev pub OnNeed : DedbReady → Type 0 → Type 0
OnNeed (ready.Answer answer) P = ⊤
OnNeed (ready.Need anchor mode) P = P

-- On any database whose roots the transaction has where it holds their anchors, a call comes to what it needs, or else
-- to its reply.
pub record ComesTo (dedb : ℕ) (needed : Db → Workspace → Option Needed) (replied : Db → Workspace → Replied)
    (old new : DedbProgress) (ready : DedbReady) : Type 0 where
  pub need : (db : Db) (own : Workspace) → Sees db old.anchors
      → needed_in dedb ready ≡ needed db (with_progress old own)
  pub answer : (db : Db) (own : Workspace) → Sees db old.anchors
      → IfAnswer ready (λ a. replied db (with_progress old own) ≡ record { answer = a; own = with_progress new own })
