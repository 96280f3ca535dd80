-- Which parts an entry of the log has, by its outcome.
use Rattle.std.specs.Prelude.{◌≡◌, ⊤, ℕ, []}
use Rattle.fp_model.specs.declared.log.Outcome.{Outcome}
use Rattle.fp_model.specs.declared.log.Outcome.TheVariants.{Done, Verify, Roll, SeqFull, Deadlock, Device, Memory, Unknown, Purge, Old, Repeat, Format}
use Rattle.fp_model.specs.declared.log.Entry.{Entry}

-- neither a reply nor notes
abbrev pub IsBare : Entry → Type 0
IsBare e = (e.reply ≡ []) × (e.notes ≡ [])

-- an entry that no region makes, at its own place
abbrev pub IsMadeAt : ℕ → Entry → Type 0
IsMadeAt place e = IsBare e × (e.from ≡ place)

-- What the outcome allows in an entry at this place, its items aside: only Done has a reply, only Done, Verify, Roll
-- and SeqFull have notes, those that no region makes begin at their own place, and Purge and Format have no line.
abbrev pub SuitsOutcome : ℕ → Entry → Outcome → Type 0
SuitsOutcome place e Done = ⊤
SuitsOutcome place e (Verify call fsa found) = e.reply ≡ []
SuitsOutcome place e (Roll code) = e.reply ≡ []
SuitsOutcome place e (SeqFull set begin end n) = e.reply ≡ []
SuitsOutcome place e (Deadlock cycle) = IsBare e
SuitsOutcome place e Device = IsBare e
SuitsOutcome place e Memory = IsBare e
SuitsOutcome place e Unknown = IsMadeAt place e
SuitsOutcome place e (Old last) = IsMadeAt place e
SuitsOutcome place e (Repeat line) = IsMadeAt place e
SuitsOutcome place e (Purge set n) = IsMadeAt place e × (e.line ≡ [])
SuitsOutcome place e Format = IsMadeAt place e × (e.line ≡ [])

-- an entry that may stand at this place
abbrev pub MayStandAt : ℕ → Entry → Type 0
MayStandAt place e = SuitsOutcome place e e.outcome
