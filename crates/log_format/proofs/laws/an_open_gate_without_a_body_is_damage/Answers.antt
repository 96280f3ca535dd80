use Rattle.log_format.proofs.GroupLaws.{no_length, past_end, no_body, no_bytes}
use Rattle.log_format.proofs.laws.an_open_gate_without_a_body_is_damage.Goals as goal

pub returns : goal.returns
returns c = record { no_length = no_length; past_end = past_end; no_body = no_body; empty = no_bytes }
