-- What an active region does in its turn, step by step.
use Rattle.std.specs.Prelude.{◌≡◌, ℕ, ◌≤◌, List, ◌∷◌, length, Some, None}
use Rattle.ci_locks.specs.Cycles.{first_cycle}
use Rattle.fp_model.specs.declared.events.Event.TheVariants as event
use Rattle.fp_model.specs.Answers.{Needed}
use Rattle.fp_model.specs.Asking.{Ask, Replies, Rolls}
use Rattle.fp_model.specs.Machine.{Transaction, Active, Machine, region_at}
use Rattle.fp_model.specs.Turns.{ClosesCycle, asks, requests_with, wanted}
use Rattle.fp_model.specs.Waiting.{Lock, without_region}
use Rattle.fp_core.specs.declared.answering.Acted.{Acted}
use Rattle.fp_core.specs.declared.answering.Acted.TheVariants as acted
use Rattle.fp_core.specs.declared.did.Did.TheVariants as did
use Rattle.fp_core.specs.declared.engine.Engine.{Engine}
use Rattle.fp_core.specs.declared.locking.Asked.{Asked}
use Rattle.fp_core.specs.declared.locking.Asked.TheVariants as asked
use Rattle.fp_core.specs.Relation.{StandsFor, rules_in}
use Rattle.fp_core.specs.Turning.{Turned}

-- ---- a region at work

module _ (engine : Engine) (m : Machine) (region : ℕ) (t : Transaction) where
  -- The engine stands for the machine, and the region is at work on this transaction.
  pub record IsAtWork : Type 0 where
    pub stands : StandsFor engine m
    pub active : region_at m region ≡ Some (Active t)

  -- The same, but for the request that the region may have standing. It goes as the transaction ends or begins again.
  pub record MayEnd : Type 0 where
    pub requests : List Lock
    pub others : without_region region requests ≡ without_region region m.requests
    pub stands : StandsFor engine (record m { requests = requests })
    pub active : region_at m region ≡ Some (Active t)

  -- The region would close this cycle by the request for a lock that it needs. The request doesn't stand. Of the cycles
  -- that it would close this is the first in the order of words, and no region is in it twice.
  pub record HasClosed (list : List ℕ) : Type 0 where
    pub needed : Needed
    pub cycle : List ℕ
    pub is : list ≡ region ∷ cycle
    pub closes : ClosesCycle (rules_in engine) m region t needed cycle
    pub named : list ≡ first_cycle (length (rules_in engine).regions) (requests_with (rules_in engine) m region needed)
        m.locks region
    pub short : length list ≤ length (rules_in engine).regions
    pub may_end : MayEnd

  -- The region is at work and needs this lock,
  pub record NeedsLock (needed : Needed) : Type 0 where
    pub at_work : IsAtWork
    pub wants : wanted (rules_in engine) m region t (asks (rules_in engine) t) ≡ Some needed

  -- or its script is at this end,
  pub record IsAtEndOf (end : Ask) : Type 0 where
    pub at_work : IsAtWork
    pub asked : asks (rules_in engine) t ≡ end

  -- or at a reply, and it holds all that the sync point needs.
  pub record HoldsAll (reply : List ℕ) : Type 0 where
    pub at_end : IsAtEndOf (Replies reply)
    pub lacks_none : wanted (rules_in engine) m region t (asks (rules_in engine) t) ≡ None

  -- its call was answered; or what it does next is known
  abbrev pub HasActed : Acted → Type 0
  HasActed acted.Answered = Turned (event.Region region) m engine did.Answered
  HasActed (acted.Needs resource mode) = NeedsLock (record { resource = resource; mode = mode })
  HasActed (acted.Replies reply) = HoldsAll reply
  HasActed (acted.Rolls code) = IsAtEndOf (Rolls code)

  -- it asked for the lock that it needs
  abbrev pub HasAsked : Asked → Type 0
  HasAsked asked.Gained = Turned (event.Region region) m engine did.Gained
  HasAsked asked.Waits = Turned (event.Region region) m engine did.Waited
  HasAsked (asked.Closes list) = HasClosed list
