-- What a site in memory has been through, as a history.
use Rattle.std.specs.Prelude.{ℕ, ◌+◌, ◌≤◌, vec_capacity, vec_len}
use Rattle.memory_site.specs.declared.past.Past.{Past}
use Rattle.memory_site.specs.History.{History}
use Rattle.memory_site.specs.Calls.{history_of}

-- the history of its calls
abbrev pub past_of : Past → History
past_of past = history_of past.start past.calls.items past.kept.items

-- so many calls with so many bytes in all can be noted without memory
pub record HasRoom (past : Past) (calls bytes : ℕ) : Type 0 where
  pub calls_fit : vec_len past.calls + calls ≤ vec_capacity past.calls
  pub bytes_fit : vec_len past.kept + bytes ≤ vec_capacity past.kept
