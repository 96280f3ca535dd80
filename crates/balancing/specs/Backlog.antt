-- Messages that wait for a region, and terminals that wait for a reply.
use Rattle.std.specs.Int.{w64, to_be_bytes}
use Rattle.std.specs.Prelude.{ℕ, ◌-◌, ◌≡◌, List, [], length, unwrap_or, slice_get, filter, not}
use Rattle.fp_model.specs.declared.definitions.Kind.{Kind}
use Rattle.fp_model.specs.declared.calls.Message.{Message}
use Rattle.fp_model.specs.declared.name.Name.{Name}
use Rattle.fp_model.specs.Exits.{group_of}
use Rattle.fp_model.specs.Machine.{is_among, same_name}

-- The messages of each balancing group, oldest first, group g at place g - 1; and the terminals that wait, in no order.
pub record Backlog : Type 0 where
  pub queues : List (List Message)
  pub busy : List Name

-- the messages of a group, oldest first
abbrev pub queue_of : ℕ → Backlog → List Message
queue_of group b = unwrap_or (slice_get b.queues (group - 1)) []

-- the group of a message by a router of this kind
abbrev pub group_for : Kind → Message → Backlog → ℕ
group_for kind message b = group_of kind (length b.queues) message.tran

-- the same terminals wait, whatever their order
abbrev pub AreSame : List Name → List Name → Type 0
AreSame names others = (name : Name) → is_among names name ≡ is_among others name

-- without a name
abbrev pub without : Name → List Name → List Name
without name names = filter (λ other. not (same_name name other)) names

-- the name whose bytes spell a number
abbrev pub spelled : ℕ → Name
spelled n = record { 0 = to_be_bytes w64 n }
