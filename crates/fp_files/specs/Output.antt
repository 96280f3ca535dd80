-- The output, which gathers what is sent.
use Rattle.std.specs.Prelude.{◌≡◌, ℕ, List, [], Option, OnOk, Result}
use Rattle.std.specs.Io.Buffered.{writer_buffer, writer_contents}
use Rattle.std.specs.Io.KnownBytes.{Appends, Keeps}
use Rattle.std.specs.declared.io.buffered.BufWriter.{BufWriter}

-- What every call but a send does: after Ok nothing gathered is left to write, and whatever it answers, nothing sent is
-- lost.
pub record WritesOut {W A T E : Type 0} (contents : W → Option (List ℕ)) (old new : BufWriter W A) (result : Result T E)
    : Type 0 where
  pub written : OnOk result (writer_buffer new ≡ [])
  pub nothing_lost : Keeps (writer_contents contents old) (writer_contents contents new)

-- what a send does: after Ok the text comes behind what was sent
abbrev pub Gathers : {W A T E : Type 0} → (W → Option (List ℕ)) → BufWriter W A → BufWriter W A → Result T E → List ℕ
    → Type 0
Gathers contents old new result text = OnOk result (Appends (writer_contents contents old)
    (writer_contents contents new) text)
