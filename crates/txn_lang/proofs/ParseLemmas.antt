-- What the parts of reading a text say together.
use Rattle.std.proofs.Common.{ℕ, ◌≤◌, List, length, sym, subst, arith, length-append}
use Rattle.fp_model.specs.declared.definitions.Defs.{Defs}
use Rattle.fp_model.specs.declared.scripts.Script.{Script}
use Rattle.txn_lang.specs.declared.fault.ScriptFault.{ScriptFault}
use Rattle.txn_lang.specs.declared.fault.ScriptFault.TheVariants as fault
use Rattle.txn_lang.specs.declared.line.Line.{Line}
use Rattle.txn_lang.specs.declared.standing.Builder.{Builder}
use Rattle.txn_lang.specs.Blocks.{AreScripts, no_script, script}
use Rattle.txn_lang.specs.Grammar.{IsWritten, HasFault, is_open}
use Rattle.txn_lang.specs.Building.{Refuses}
use Rattle.txn_lang.specs.inside.Building.{ReadsText, Finishes, IsLeftOpen, context_of}

-- each script has a line
pub scripts_few : {said : List Line} {scripts : List Script} → AreScripts said scripts → length scripts ≤ length said
scripts_few no_script = omega arith
scripts_few (script name {a = a} {lines = lines} p more) = omega (arith, scripts_few more, length-append a lines)

-- a reason for a reason
pub because : (e : ScriptFault) {A B : Type 0} → (A → B) → Refuses e A → Refuses e B
because fault.Memory f h = tt
because (fault.Syntax number) f h = f h
because (fault.UnknownName number) f h = f h
because (fault.TooDear name cost) f h = f h
because (fault.Twice name) f h = f h
because fault.TooLong f h = f h

module _ (defs : Defs) (text : List ℕ) (short : length text ≤ 1000000) where
  pub left_open : (b : Builder) (e : ScriptFault) → ReadsText defs text b → IsLeftOpen b e → HasFault defs text e
  left_open b e read h = subst (HasFault defs text) (sym h.2) (is_open short read.reads h.1)

  pub written : (b : Builder) (scripts : List Script) (costs : List ℕ) → ReadsText defs text b
      → Finishes b scripts costs → IsWritten defs text scripts
  written b scripts costs read done = record {
    short = short;
    read = record { said = read.said; context = context_of b };
    lines = read.reads;
    closed = done.closed;
    shape = done.shape read.said read.built;
  }
