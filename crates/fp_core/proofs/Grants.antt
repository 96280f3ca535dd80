-- What becomes of a request for a lock.
use Rattle.std.proofs.Common.{◌≡◌, refl, sym, ◌∙◌, ap, subst, ℕ, ◌≤◌, List, [], ◌∷◌, Bool, true, false, not, ◌==◌, if◌then◌else◌, length, Option, Some, None}
use Rattle.std.specs.Prelude.{option_map}
use Rattle.std.proofs.lemmas.Slice.Zip.{AllZip-long}
use Rattle.ci_locks.specs.Cycles.{first_cycle}
use Rattle.ci_locks.specs.Standing.{IfCycle, IsGrant, Shows, Standing, gained_over, locks_after, requests_after}
use Rattle.ci_locks.specs.Table.{Row, standing}
use Rattle.ci_locks.specs.declared.locks.Grant.{Grant}
use Rattle.ci_locks.specs.declared.locks.Grant.TheVariants as grant
use Rattle.fp_model.specs.declared.calls.Mode.{Mode}
use Rattle.fp_model.specs.declared.calls.Mode.TheVariants.{Share, Exclusive}
use Rattle.fp_model.specs.declared.calls.Resource.{Resource}
use Rattle.fp_model.specs.Answers.{Needed}
use Rattle.fp_model.specs.Asking.{Ask, Asks, Replies, Rolls}
use Rattle.fp_model.specs.Machine.{Transaction, Machine}
use Rattle.fp_model.specs.Turns.{Gains, Waits, as_lock, asks, requests_with, wanted}
use Rattle.fp_model.specs.Waiting.{Lock, held_as, without_region}
use Rattle.serial_order.proofs.ProductLaws.{laws_of}
use Rattle.fp_core.specs.declared.engine.Engine.{Engine}
use Rattle.fp_core.specs.declared.locking.Asked.{Asked}
use Rattle.fp_core.specs.declared.locking.Asked.TheVariants as asked
use Rattle.fp_core.specs.inside.Acting.{HasAsked, IsAtWork, MayEnd, NeedsLock}
use Rattle.fp_core.specs.Relation.{IsRegion, StandsFor, rules_in}
use Rattle.fp_core.proofs.Turns.{acted}
use Rattle.std.proofs.lemmas.Option.{none-some, same_Some}

-- ---- what is wanted

-- is not held Exclusive
wanted_is_new : (engine : Engine) (m : Machine) (region : ℕ) (t : Transaction) (ask : Ask) (needed : Needed)
    → StandsFor engine m
    → wanted (rules_in engine) m region t ask ≡ Some needed
    → ¬ (held_as m.locks region needed.resource ≡ Some Exclusive)
wanted_is_new engine m region t (Asks call) needed s is =
    (laws_of engine.defs.now engine.scripts.now.scripts s.setup.defined.each_msdb).wants m.history.now t.point.own
    (held_as m.locks region) call needed is
wanted_is_new engine m region t (Replies reply) needed s is =
    by ((rules_in engine).lack t.point.own (held_as m.locks region)) refl is
  where
    by : (o : Option Resource) → (rules_in engine).lack t.point.own (held_as m.locks region) ≡ o
        → option_map (λ (resource : Resource). let n : Needed = record { resource = resource; mode = Exclusive } in n) o
        ≡ Some needed
        → ¬ (held_as m.locks region needed.resource ≡ Some Exclusive)
    by None lack e = absurd (none-some needed e)
    by (Some resource) lack e =
        subst (λ (r : Resource). ¬ (held_as m.locks region r ≡ Some Exclusive))
        (ap (λ (n : Needed). n.resource) (same_Some _ needed e))
        ((laws_of engine.defs.now engine.scripts.now.scripts s.setup.defined.each_msdb).lacks t.point.own
        (held_as m.locks region) resource lack)
wanted_is_new engine m region t (Rolls code) needed s is = absurd (none-some needed is)

-- a lock that isn't held Exclusive is gained in front
gained_is : (held : Option Mode) (l : Lock) (locks : List Lock) → ¬ (held ≡ Some Exclusive)
    → gained_over held l locks ≡ l ∷ locks
gained_is None l locks new = refl
gained_is (Some Share) l locks new = refl
gained_is (Some Exclusive) l locks new = absurd (new refl)

-- ---- without a region

without_more : (region : ℕ) (l : Lock) (locks : List Lock) (b : Bool) → not (l.region == region) ≡ b
    → without_region region (l ∷ locks)
    ≡ (if b then l ∷ without_region region locks else without_region region locks)
without_more region l locks b e =
    ap (λ (c : Bool). if c then l ∷ without_region region locks else without_region region locks) e

-- twice is once
without_twice : (region : ℕ) (locks : List Lock)
    → without_region region (without_region region locks) ≡ without_region region locks
without_twice region [] = refl
without_twice region (l ∷ locks) = by (without_twice region locks) (not (l.region == region)) refl
  where
    by : without_region region (without_region region locks) ≡ without_region region locks
        → (b : Bool) → not (l.region == region) ≡ b
        → without_region region (without_region region (l ∷ locks)) ≡ without_region region (l ∷ locks)
    by rest true e =
        ap (λ (ls : List Lock). without_region region ls) (without_more region l locks true e)
        ∙ without_more region l (without_region region locks) true e
        ∙ ap (λ (ls : List Lock). l ∷ ls) rest
        ∙ sym (without_more region l locks true e)
    by rest false e =
        ap (λ (ls : List Lock). without_region region ls) (without_more region l locks false e)
        ∙ rest
        ∙ sym (without_more region l locks false e)

-- ---- locks and requests change, and nothing else

pub locked_stands : (engine : Engine) (m : Machine) (rows : List Row) (locks requests : List Lock)
    → StandsFor engine m
    → Shows (standing rows) locks requests
    → length rows ≡ length engine.locks
    → StandsFor (record engine { locks = rows }) (record m { locks = locks; requests = requests })
locked_stands engine m rows locks requests s shows same_rows = record {
  setup = s.setup;
  held = s.held;
  held_short = s.held_short;
  queues = s.queues;
  groups = s.groups;
  takeable = s.takeable;
  busy = s.busy;
  regions = s.regions;
  numbers = s.numbers;
  locks = shows;
  rows = same_rows ∙ s.rows;
  of = s.of;
  msdbs = s.msdbs;
  past = s.past;
  format = s.format;
  read = s.read;
  lasts = s.lasts;
  places = s.places;
  count = s.count;
  sealed = s.sealed;
  unsealed = s.unsealed;
  owed = s.owed;
  made = s.made;
  room = s.room;
  spare = s.spare;
  slots = s.slots;
}

-- as many rows as regions
rows_long : (engine : Engine) (m : Machine) → StandsFor engine m
    → length engine.locks ≡ length engine.defs.now.regions
rows_long engine m s =
    s.rows ∙ sym (AllZip-long (IsRegion engine.defs.now engine.scripts.now.scripts) engine.regions m.regions s.regions)
    ∙ s.numbers

-- ---- the answer

-- what the region's request came to
abbrev pub asked_of : Grant → Asked
asked_of grant.Held = asked.Gained
asked_of (grant.Wait holders) = asked.Waits
asked_of (grant.Cycle list) = asked.Closes list

pub has_asked : (engine : Engine) (m : Machine) (region : ℕ) (t : Transaction) (needed : Needed) (regions : ℕ)
    → (rows : List Row) (g : Grant)
    → NeedsLock engine m region t needed
    → IsGrant regions m.locks m.requests (as_lock (rules_in engine) region needed) g
    → Shows (standing rows) (locks_after g (as_lock (rules_in engine) region needed) m.locks)
    (requests_after g (as_lock (rules_in engine) region needed) m.requests)
    → length rows ≡ length engine.locks
    → IfCycle g (λ list. list ≡ first_cycle regions (requests_with (rules_in engine) m region needed) m.locks region)
    → IfCycle g (λ list. length list ≤ regions)
    → regions ≡ length engine.locks
    → HasAsked (record engine { locks = rows }) m region t (asked_of g)
has_asked engine m region t needed regions rows grant.Held n granted shows same_rows named short many =
    let after : Engine = record engine { locks = rows } in
    let lock : Lock = as_lock (rules_in engine) region needed in
    let new = wanted_is_new engine m region t (asks (rules_in engine) t) needed n.at_work.stands n.wants in
    let in_front = gained_is (held_as m.locks region needed.resource) lock m.locks new in
    let m2 : Machine = record m { locks = lock ∷ m.locks; requests = without_region region m.requests } in
    acted after m region t (Gains needed) m2 n.at_work.active (n.wants, granted, refl) tt
    (locked_stands engine m rows (lock ∷ m.locks) (without_region region m.requests) n.at_work.stands
    (subst (λ (ls : List Lock). Shows (standing rows) ls (without_region region m.requests)) in_front shows) same_rows)
has_asked engine m region t needed regions rows (grant.Wait holders) n granted shows same_rows named short many =
    let after : Engine = record engine { locks = rows } in
    let lock : Lock = as_lock (rules_in engine) region needed in
    let waiting : List Lock = requests_after (grant.Wait holders) lock m.requests in
    let m2 : Machine = record m { requests = waiting } in
    acted after m region t (Waits needed) m2 n.at_work.active (n.wants, granted.0, granted.2, refl) tt
    (locked_stands engine m rows m.locks waiting n.at_work.stands shows same_rows)
has_asked engine m region t needed regions rows (grant.Cycle list) n granted shows same_rows named short many =
    let all : regions ≡ length (rules_in engine).regions = many ∙ rows_long engine m n.at_work.stands in
    let left : List Lock = without_region region m.requests in
    record {
      needed = needed;
      cycle = granted.0;
      is = granted.1;
      closes = record { wants = n.wants; closes = granted.2; distinct = granted.3 };
      named = named ∙ ap (λ (k : ℕ). first_cycle k (requests_with (rules_in engine) m region needed) m.locks region)
          all;
      short = subst (λ (k : ℕ). length list ≤ k) all short;
      may_end =
          record {
            requests = left;
            others = without_twice region m.requests;
            stands = locked_stands engine m rows m.locks left n.at_work.stands shows same_rows;
            active = n.at_work.active;
          };
    }

-- where locks and requests stand as they did, the transaction may end
pub unlocked : (engine : Engine) (m : Machine) (region : ℕ) (t : Transaction) (rows : List Row)
    → IsAtWork engine m region t
    → standing rows ≡ standing engine.locks
    → length rows ≡ length engine.locks
    → MayEnd (record engine { locks = rows }) m region t
unlocked engine m region t rows w same same_rows =
    let shows = subst (λ (s : Standing). Shows s m.locks m.requests) (sym same) w.stands.locks in
    record {
      requests = m.requests;
      others = refl;
      stands = locked_stands engine m rows m.locks m.requests w.stands shows same_rows;
      active = w.active;
    }
