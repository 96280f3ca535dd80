-- Checkpoints of the rows, and the turns that make one.
use Rattle.std.specs.Prelude.{ℕ, zero, suc, List, [], ◌∷◌, length, replicate, codes, Some}
use Rattle.fp_model.specs.declared.events.Event.TheVariants.{Out, Ckpt}
use Rattle.fp_model.specs.declared.log.Entry.{Entry}
use Rattle.fp_model.specs.declared.log.Item.TheVariants.{Image}
use Rattle.fp_model.specs.CheckpointText.{Checkpoint}
use Rattle.fp_model.specs.Lasts.{Last}
use Rattle.fp_model.specs.History.{beginning}
use Rattle.fp_model.specs.Machine.{Machine, at_rest}
use Rattle.fp_model.specs.Turns.{NoFault}
use Rattle.fp_model.specs.Runs.{RunStep}
use Rattle.fp_model.specs.Pending.{Pending, Lengths, UnderWay, Unwritten, lengths_of, unwritten_at, unwritten_after, after_out}
use Rattle.fp_rows.specs.Hex.{named}
use Rattle.fp_rows.specs.Sample.{sample_defs, accts_now, tellers_now, deposit}
use Rattle.fp_rows.specs.States.{sample_rules, at_start}

-- the first checkpoint, after the deposit, at a gate
abbrev pub deposit_checkpoint : ℕ → Checkpoint
deposit_checkpoint gate =
    record { number = 1; at = gate; count = 1; msdbs = accts_now ∷ tellers_now ∷ []; lasts = [] }

-- the last number of T1 is 1, and this is its reply
abbrev pub last_of_T1 : Last
last_of_T1 = record { lterm = named (codes "T1"); number = 1; line = codes "T1 OK NEW" }

-- the same checkpoint in format 2, where T1 gave its deposit that number
abbrev pub numbered_checkpoint : ℕ → Checkpoint
numbered_checkpoint gate = record (deposit_checkpoint gate) { lasts = last_of_T1 ∷ [] }

-- a machine of format 2 without entries and lines
abbrev pub at_rest_in_two : Machine
at_rest_in_two = at_rest sample_rules [] (beginning 2 at_start)

-- CKPT there, and so many OUTs
abbrev pub checkpoint_and_outs : ℕ → List RunStep
checkpoint_and_outs n =
    record { event = Ckpt; environment = NoFault; after = at_rest_in_two }
    ∷ replicate n (record { event = Out; environment = NoFault; after = at_rest_in_two })

-- a checkpoint with so many steps left
abbrev pub under_way : ℕ → ℕ → ℕ → UnderWay
under_way at count left = record { at = at; count = count; left = left }

-- what is unwritten of the sample in format 2 behind CKPT and so many OUTs, in a log with its gate at this place
abbrev pub sample_unwritten : ℕ → ℕ → Unwritten
sample_unwritten gate n =
    unwritten_after (lengths_of sample_defs gate) at_rest_in_two (unwritten_at 0 []) (checkpoint_and_outs n)

-- what waits, with a checkpoint under way
abbrev pub waiting_with : List Pending → UnderWay → Unwritten
waiting_with pending c = record { pending = pending; checkpoint = Some c }

-- an interval that waits for entries of these places
abbrev pub an_interval : ℕ → ℕ → Pending
an_interval oldest newest = record { set = 4; ci = 1; oldest = oldest; newest = newest }

-- what is unwritten behind so many OUTs, with so many entries sealed
abbrev pub after_outs : ℕ → ℕ → Unwritten → Unwritten
after_outs zero sealed u = u
after_outs (suc n) sealed u = after_outs n sealed (after_out sealed u)

-- the next one of its area
abbrev pub another_interval : ℕ → ℕ → Pending
another_interval oldest newest = record { set = 4; ci = 2; oldest = oldest; newest = newest }

-- an entry that writes an interval of that area
abbrev pub writing : ℕ → Entry
writing ci = record deposit { items = Image 4 ci [] ∷ [] }

-- three of them, of which the third changes the first one's interval again
abbrev pub three_images : List Entry
three_images = writing 1 ∷ writing 2 ∷ writing 1 ∷ []

-- the machine with such entries, none of them sealed
abbrev pub with_images : List Entry → Machine
with_images entries = record at_rest_in_two { history = record (beginning 2 at_start) { entries = entries } }

-- lengths that tell the groups sealed and the bytes sent
abbrev pub by_counts : Lengths
by_counts = record { gate = λ m. length m.groups; body = λ m. length m.sent }
