-- The rules of this system: what definitions and scripts make of lines, programs, calls and the sync point.
use Rattle.std.specs.Prelude.{ℕ, List, [], fold, max, Bool, false, ◌==◌, nat_lt, is_some, if◌then◌else◌, Option, Some, None, Result, Ok, Err}
use Rattle.std.specs.Option.{option_map_or}
use Rattle.fp_model.specs.declared.definitions.Defs.{Defs}
use Rattle.fp_model.specs.declared.calls.Answer.{Answer}
use Rattle.fp_model.specs.declared.calls.Message.{Message}
use Rattle.fp_model.specs.declared.calls.Resource.{Resource}
use Rattle.fp_model.specs.declared.calls.Resource.TheVariants.{Segment, Anchor}
use Rattle.fp_model.specs.declared.scripts.Script.{Script}
use Rattle.fp_model.specs.State.{start, has_anchor}
use Rattle.fp_model.specs.Exits.{group_of}
use Rattle.fp_model.specs.Messages.{MessageFault, message_of, terminal_of}
use Rattle.fp_model.specs.ReplyLine.{line_of}
use Rattle.fp_model.specs.declared.log.Outcome.TheVariants.{Unknown, Old, Repeat}
use Rattle.fp_model.specs.History.{History, Request, Accepts, Refuses}
use Rattle.fp_model.specs.Lasts.{Last, format_at, lasts_of, last_of}
use Rattle.fp_model.specs.Asking.{Ask, Replies, ask, full_cost, script_of}
use Rattle.fp_model.specs.Workspace.{fresh}
use Rattle.fp_model.specs.Calls.{reply_to, looks_unheld, need_of}
use Rattle.fp_model.specs.Commit.{settlement, lacking, purged, area_of_set}
use Rattle.fp_model.specs.Rules.{Rules}

-- a fresh message is accepted where it names a script
abbrev pub by_script : List Script → Message → Request
by_script scripts message =
    if is_some (script_of scripts message.tran) then Accepts message else Refuses Unknown

-- a number that isn't above the last one of its terminal starts nothing
abbrev pub by_last : List Script → Message → ℕ → Option Last → Request
by_last scripts message number None = by_script scripts message
by_last scripts message number (Some last) =
    if nat_lt number last.number then Refuses (Old last.number)
    else (if number == last.number then Refuses (Repeat last.line) else by_script scripts message)

-- a message, with the last numbers of the terminals
abbrev pub by_number : List Script → List Last → Message → Option ℕ → Request
by_number scripts lasts message None = by_script scripts message
by_number scripts lasts message (Some number) = by_last scripts message number (last_of message.lterm lasts)

abbrev pub by_message : List Script → List Last → Result Message MessageFault → Request
by_message scripts lasts (Err fault) = Refuses Unknown
by_message scripts lasts (Ok message) = by_number scripts lasts message message.number

-- what a line asks for behind a history, read in the format there
abbrev pub request_of : List Script → History → List ℕ → Request
request_of scripts h line =
    by_message scripts (lasts_of h.format h.entries) (message_of (format_at h.format h.entries) line)

-- what the script that the message names asks after these answers; a message that names none is no request
abbrev pub asked_by : Defs → List Script → Message → List Answer → Ask
asked_by defs scripts message answers =
    option_map_or (λ script. ask defs script.statements message answers) (script_of scripts message.tran) (Replies [])

-- what that script takes at most
abbrev pub cost_of : List Script → Message → ℕ
cost_of scripts message =
    option_map_or (λ script. full_cost script.statements) (script_of scripts message.tran) 0

abbrev pub is_anchor_of_set : Defs → ℕ → Resource → Bool
is_anchor_of_set defs set (Segment msdb key) = false
is_anchor_of_set defs set (Anchor dedb anchor) =
    option_map_or (λ area. has_anchor area dedb anchor) (area_of_set defs set) false

-- the balancing groups: as many as the greatest number of one
abbrev pub groups_defined : Defs → ℕ
groups_defined defs = fold max 0 defs.regions

abbrev pub rules_of : Defs → List Script → Rules
rules_of defs scripts = record {
  start = start defs;
  fresh = fresh defs;
  request_of = request_of scripts;
  terminal_of = terminal_of;
  line_of = line_of;
  ask = asked_by defs scripts;
  budget = cost_of scripts;
  reply_to = reply_to defs;
  looks = looks_unheld defs;
  need = need_of defs;
  lack = lacking;
  settle = settlement defs;
  purged = purged defs;
  is_in_area = is_anchor_of_set defs;
  regions = defs.regions;
  group_count = groups_defined defs;
  group_of = λ message. group_of defs.router (groups_defined defs) message.tran;
  log_group = defs.log_group;
  tries = defs.tries;
}
