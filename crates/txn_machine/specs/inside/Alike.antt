-- Two things that a script may know, and that make no difference to it.
use Rattle.std.specs.Prelude.{◌≡◌, ◌==◌, ℕ, List, find, slice_get}
use Rattle.fp_model.specs.Operands.{Env, ShownSegment, setting_of}
use Rattle.fp_model.specs.Asking.{Way, Goes, Leaves, Ends, Ask}

-- the newest, and the newest of each database, are the same
pub record ShowAlike (a b : List ShownSegment) : Type 0 where
  pub each : (db : ℕ) → find (λ s. s.db == db) a ≡ find (λ s. s.db == db) b
  pub first : slice_get a 0 ≡ slice_get b 0

-- each operand and each REPL finds the same
pub record AreAlike (a b : Env) : Type 0 where
  pub settings : (name : List ℕ) → setting_of name a ≡ setting_of name b
  pub status : a.status ≡ b.status
  pub letters : a.letters ≡ b.letters
  pub shown : ShowAlike a.shown b.shown

-- and the same answers are left
pub record AreTwins (a b : Env) : Type 0 where
  pub alike : AreAlike a b
  pub answers : a.answers ≡ b.answers

-- two parts of a script lead to the same
pub data LeadAlike : Way → Way → Type 0 where
  both_go : {a b : Env} → AreTwins a b → LeadAlike (Goes a) (Goes b)
  both_leave : {a b : Env} → AreTwins a b → LeadAlike (Leaves a) (Leaves b)
  both_end : (end : Ask) → LeadAlike (Ends end) (Ends end)
