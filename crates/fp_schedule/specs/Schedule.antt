-- What a schedule says: its tokens, the events that they are, and its first fault.
use Rattle.std.specs.Prelude.{ℕ, ◌+◌, List, length, take, drop, filter, filter_map, position, codes, Bool, ◌&&◌, ◌||◌, ◌==◌, nat_le, nat_lt, if◌then◌else◌, slice_get, slice_index, Option, Some, None, Result, Ok, Err}
use Rattle.std.specs.List.{after_first, before_first, enumerate_from, slice_split}
use Rattle.std.specs.Option.{option_and_then, option_map, option_map_or}
use Rattle.fp_model.specs.declared.definitions.AreaDef.{AreaDef}
use Rattle.fp_model.specs.declared.definitions.Defs.{Defs}
use Rattle.fp_model.specs.declared.events.Event.{Event}
use Rattle.fp_model.specs.declared.events.Event.TheVariants as event
use Rattle.fp_model.specs.declared.name.Name.{Name}
use Rattle.fp_schedule.specs.declared.fault.ScheduleFault.{ScheduleFault}
use Rattle.fp_schedule.specs.declared.fault.ScheduleFault.TheVariants.{BadToken, TooLong, TooMany}
use Rattle.fp_model.specs.Messages.{is_separator}
use Rattle.fp_model.specs.Names.{name_in}
use Rattle.fp_model.specs.State.{areas_of, first_area_set}
use Rattle.fp_model.specs.Texts.{digits_number, same_text}

-- ---- tokens

-- what separates tokens: a blank, a tab, a newline or a byte 13
abbrev pub separates : ℕ → Bool
separates b = is_separator b || b == 10 || b == 13

-- the tokens of a schedule, in order: what stands between separators, where that isn't empty
abbrev pub tokens_of : List ℕ → List (List ℕ)
tokens_of bytes = filter (λ part. nat_lt 0 (length part)) (slice_split separates bytes)

-- ---- events

-- a number from 1 to the greatest that is allowed, without leading zeros
abbrev pub number_up_to : ℕ → List ℕ → Option ℕ
number_up_to greatest digits =
    if slice_index digits 0 == 48 then None else
    option_and_then (λ n. if nat_le n greatest then Some n else None) (digits_number digits)

-- the turn of the region of this number
abbrev pub region_event : Defs → List ℕ → Option Event
region_event defs digits = option_map event.Region (number_up_to (length defs.regions) digits)

-- whether an area has this name and a sequential part
abbrev pub can_be_purged : Name → AreaDef → Bool
can_be_purged name def = same_text def.name.0 name.0 && nat_lt 0 def.capacity

-- the data set of the area of this name, where it has a sequential part
abbrev pub purged_set : Defs → Name → Option ℕ
purged_set defs name =
    option_map (λ place. first_area_set + place) (position (λ area. can_be_purged name area.def) (areas_of defs))

-- the Purge of so many serials of the area of this name
abbrev pub purge_event : Defs → List ℕ → List ℕ → Option Event
purge_event defs area digits =
    option_and_then (λ set. option_map (event.Purge set) (number_up_to 1000000000 digits))
    (option_and_then (purged_set defs) (name_in area))

abbrev pub is_slash : ℕ → Bool
is_slash b = b == 47

-- the event that a token with a number is: `R` and a region, or `PURGE/`, an area, a slash and a count
abbrev pub numbered_event : Defs → List ℕ → Option Event
numbered_event defs token =
    if same_text (take 1 token) (codes "R") then region_event defs (drop 1 token) else
    if same_text (take 6 token) (codes "PURGE/")
    then purge_event defs (before_first is_slash (drop 6 token)) (after_first is_slash (drop 6 token))
    else None

-- the event that a token is
abbrev pub event_of : Defs → List ℕ → Option Event
event_of defs token =
    if same_text token (codes "IN") then Some event.In else
    if same_text token (codes "LOG") then Some event.Log else
    if same_text token (codes "OUT") then Some event.Out else
    if same_text token (codes "CKPT") then Some event.Ckpt else
    numbered_event defs token

-- ---- whole schedules

-- why the token at this place, counted from 1, isn't taken: it is behind the first 1,000,000, or is no event
abbrev pub fault_of_token : Defs → ℕ → List ℕ → Option ScheduleFault
fault_of_token defs place token =
    if nat_lt 1000000 place then Some TooMany else
    option_map_or (λ event. None) (event_of defs token) (Some (BadToken place))

-- the fault of the first token, from a place on, that isn't taken, if there is one
abbrev pub first_fault : Defs → ℕ → List (List ℕ) → Option ScheduleFault
first_fault defs place tokens =
    slice_get (filter_map (λ token. fault_of_token defs token.0 token.1) (enumerate_from place tokens)) 0

-- why the text is no schedule, if it is none: it has more than 32,000,000 bytes, or a token isn't taken
abbrev pub schedule_fault : Defs → List ℕ → Option ScheduleFault
schedule_fault defs bytes =
    if nat_lt 32000000 (length bytes) then Some TooLong else first_fault defs 1 (tokens_of bytes)

-- the events of a schedule, in order, or its first fault
abbrev pub events_of : Defs → List ℕ → Result (List Event) ScheduleFault
events_of defs bytes =
    option_map_or Err (schedule_fault defs bytes) (Ok (filter_map (event_of defs) (tokens_of bytes)))
