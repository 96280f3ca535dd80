-- A transaction begins again.
use Rattle.std.proofs.Common.{◌≡◌, refl, sym, ◌∙◌, ap, subst, arith, ℕ, zero, suc, ◌-◌, ◌+◌, List, [], length, Option, None, slice_set}
use Rattle.std.specs.Prelude.{option_map}
use Rattle.ci_locks.specs.Standing.{Shows}
use Rattle.ci_locks.specs.Table.{Row, standing}
use Rattle.dli_calls.specs.Progress.{Progress}
use Rattle.fp_model.specs.declared.calls.Message.{Message}
use Rattle.fp_model.specs.declared.definitions.Defs.{Defs}
use Rattle.fp_model.specs.declared.log.Outcome.TheVariants as outcome
use Rattle.fp_model.specs.declared.scripts.Script.{Script}
use Rattle.fp_model.specs.Machine as machine
use Rattle.fp_model.specs.Machine.{Transaction, Machine}
use Rattle.fp_model.specs.Product.{rules_of}
use Rattle.fp_model.specs.Serial.{begun}
use Rattle.fp_model.specs.Turns.{begun_in, tried_again}
use Rattle.fp_model.specs.Waiting.{Lock, without_region}
use Rattle.txn_machine.specs.declared.program.Program.{Program}
use Rattle.fp_core.specs.declared.engine.Active.{Active}
use Rattle.fp_core.specs.declared.engine.Engine.{Engine}
use Rattle.fp_core.specs.declared.numbering.Kept.{Kept}
use Rattle.fp_core.specs.declared.engine.Region.TheVariants as regions
use Rattle.fp_core.specs.inside.Acting.{MayEnd}
use Rattle.fp_core.specs.Numbering.{last_kept, last_told}
use Rattle.fp_core.specs.Relation.{IsTransaction, StandsFor, rules_in}
use Rattle.fp_core.proofs.Goings.{stands_with, with_active}
use Rattle.fp_core.proofs.Grants.{locked_stands}
use Rattle.std.proofs.lemmas.Option.{none-some}

-- ---- one transaction

module _ (defs : Defs) (scripts : List Script) (program : Program) (work : Progress) where
  -- the code's and the machine's at its beginning
  abbrev pub code_of : ℕ → Message → ℕ → Option Kept → Active
  code_of from message tries refusal = record {
    from = from;
    message = message;
    program = program;
    work = work;
    tries = tries;
    ahead = None;
    refusal = refusal;
  }

  abbrev pub begun_as : ℕ → Message → ℕ → Transaction
  begun_as from message tries =
      record { from = from; message = message; point = begun (rules_of defs scripts); notes = []; tries = tries }

  -- one that begins behind so many entries, and once more, is the machine's
  pub begins_again : (a c new : Active) (t : Transaction) (from place : ℕ)
      → from ≡ place
      → a.message ≡ t.message
      → c.message ≡ t.message
      → c.tries ≡ t.tries
      → option_map last_kept c.refusal ≡ last_told t.message outcome.Memory []
      → ((n tries : ℕ) (refusal : Option Kept)
      → option_map last_kept refusal ≡ last_told a.message outcome.Memory []
      → IsTransaction defs scripts (code_of n a.message tries refusal) (begun_as n a.message tries))
      → new ≡ code_of from c.message (c.tries + 1) c.refusal
      → IsTransaction defs scripts new (begun_as place t.message (t.tries + 1))
  begins_again a c new t from place at seen there tries kept is e =
      let made = subst (λ (x : Message). IsTransaction defs scripts (code_of place x (t.tries + 1) c.refusal)
      (begun_as place x (t.tries + 1))) seen (is place (t.tries + 1) c.refusal
      (kept ∙ ap (λ (x : Message). last_told x outcome.Memory []) (sym seen))) in
      let same : new ≡ code_of place t.message (t.tries + 1) c.refusal =
      e ∙ ap (λ (n : ℕ). code_of n c.message (c.tries + 1) c.refusal) at
      ∙ ap (λ (x : Message). code_of place x (c.tries + 1) c.refusal) there
      ∙ ap (λ (n : ℕ). code_of place t.message (n + 1) c.refusal) tries in
      subst (λ (x : Active). IsTransaction defs scripts x (begun_as place t.message (t.tries + 1))) (sym same) made

-- ---- its region

-- The region's locks and its request are gone, and its transaction is at its beginning.
pub tried_at : (engine : Engine) (m : Machine) (region : ℕ) (t : Transaction) (new : Active) (rows : List Row)
    → MayEnd engine m region t
    → IsTransaction engine.defs.now engine.scripts.now.scripts new
    (begun_in (rules_in engine) m t.message (t.tries + 1))
    → ((locks requests : List Lock) → Shows (standing engine.locks) locks requests
    → Shows (standing rows) (without_region region locks) (without_region region requests))
    → length rows ≡ length engine.locks
    → StandsFor (record engine { regions = slice_set engine.regions (region - 1) (regions.Active new); locks = rows })
    (tried_again (rules_in engine) region t m)
tried_at engine m zero t new rows u is frees same_rows = absurd (none-some (machine.Active t) u.active)
tried_at engine m (suc place) t new rows u is frees same_rows =
    let same : suc place - 1 ≡ place = omega arith in
    let again : Transaction = begun_in (rules_in engine) m t.message (t.tries + 1) in
    let m1 : Machine = record m { requests = u.requests } in
    let m2 : Machine = record m1 { regions = slice_set m.regions place (machine.Active again) } in
    let begun : StandsFor (with_active engine place new) m2 =
    stands_with engine m1 place t new u.stands u.active again refl is in
    let freed = locked_stands (with_active engine place new) m2 rows (without_region (suc place) m.locks)
    (without_region (suc place) u.requests) begun (frees m.locks u.requests u.stands.locks) same_rows in
    let after : List Lock → Machine = λ requests. record (tried_again (rules_in engine) (suc place) t m) {
      requests =
          requests;
    } in
    subst (λ n. StandsFor (record engine { regions = slice_set engine.regions n (regions.Active new); locks = rows })
    (tried_again (rules_in engine) (suc place) t m)) (sym same)
    (subst (λ (requests : List Lock). StandsFor (record engine
    { regions = slice_set engine.regions place (regions.Active new); locks = rows }) (after requests)) u.others
    freed)
