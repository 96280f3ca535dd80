-- What entries that are owed come to: their reply lines, and the terminals that these free.
use Rattle.std.specs.Prelude.{◌≡◌, ⊤, ℕ, List, [], ◌∷◌, ◌++◌, not, ◌&&◌}
use Rattle.std.specs.List.{flat_map}
use Rattle.std.specs.Option.{option_map_or}
use Rattle.fp_model.specs.declared.name.Name.{Name}
use Rattle.fp_model.specs.Machine.{is_among, terminal_in}
use Rattle.fp_model.specs.Messages.{terminal_of}
use Rattle.fp_model.specs.ReplyLine.{addressee, line_for, verdict}
use Rattle.fp_core.specs.declared.engine.Owed.{Owed}
use Rattle.fp_core.specs.declared.stop.Stop.{Stop}
use Rattle.fp_core.specs.declared.stop.Stop.TheVariants as stop

-- the reply line of an entry that is owed, with its newline; no bytes where nobody is told
abbrev pub reply_of : Owed → List ℕ
reply_of owed =
    option_map_or (λ text. text ++ 10 ∷ []) (line_for (addressee (terminal_of owed.line))
    (verdict owed.outcome owed.reply)) []

-- the reply lines of these, in order
abbrev pub replies_of : List Owed → List ℕ
replies_of owed = flat_map reply_of owed

-- the terminals that are told of them
abbrev pub terminals_of : List Owed → List Name
terminals_of owed = flat_map (λ o. terminal_in (terminal_of o.line)) owed

-- Of the terminals that waited, just those that aren't told wait on.
abbrev pub AreFreed : List Name → List Name → List Name → Type 0
AreFreed old new told = (name : Name) → is_among new name ≡ (not (is_among told name) && is_among old name)

-- sealing stops only with the site, and for want of memory
abbrev pub IsOfLog : Stop → Type 0
IsOfLog stop.LogFault = ⊤
IsOfLog stop.Memory = ⊤
IsOfLog _ = ⊥
