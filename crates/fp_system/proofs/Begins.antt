-- What a core begins with: a setup by which it can run, a history of any log that can be read, and a machine that turns
-- led to.
use Rattle.std.proofs.Common.{◌≡◌, refl, sym, ap, subst, ◌∙◌, ℕ, zero, suc, List, [], ◌++◌, length}
use Rattle.std.specs.Prelude.{replicate}
use Rattle.std.proofs.lemmas.List.{append-nil}
use Rattle.command_tasks.specs.Setups.{IsSetup}
use Rattle.command_tasks.specs.declared.parts.Setup.{Setup}
use Rattle.drain_laws.specs.Live.{IsReached}
use Rattle.drain_laws.specs.ProductGauge.{gauge_of}
use Rattle.drain_laws.proofs.InOrder.{rest_ordered}
use Rattle.drain_laws.proofs.Live.{rest_live}
use Rattle.fp_core.specs.Draining.{IsReachedBy}
use Rattle.fp_core.specs.Relation.{IsSetup as CanRun, StandsFor, rules_in}
use Rattle.fp_core.specs.Standing.{Origin, StandsBeside}
use Rattle.fp_core.specs.declared.engine.Engine.{Engine}
use Rattle.fp_model.specs.Messages.{lines_of}
use Rattle.fp_site.specs.Disk.{Disk}
use Rattle.message_lines.specs.Lines.{lines_ahead}
use Rattle.message_lines.specs.declared.lines.Lines.{Lines}
use Rattle.balancing.specs.Numbered.{Numbered}
use Rattle.log_groups.specs.Log.{LogState}
use Rattle.msdb_store.specs.Store.{Stored}
use Rattle.fp_system.specs.inside.Courses.{IsBegun}
use Rattle.fp_model.specs.declared.database.Db.{Db}
use Rattle.fp_model.specs.declared.database.Msdb.{Msdb}
use Rattle.fp_model.specs.declared.log.Entry.{Entry}
use Rattle.fp_model.specs.History.{History, place_of}
use Rattle.fp_model.specs.Machine.{Machine, at_rest}
use Rattle.fp_model.specs.Rules.{Rules}
use Rattle.log_groups.specs.Images.{IsAtRest}

-- ---- what the core runs by

pub can_run : (setup : Setup) → IsSetup setup → CanRun setup.defs setup.scripts.scripts
can_run setup is = record { defined = is.are; no_dedbs = is.no_dedbs; fit = is.fit; cheap = is.cheap }

-- ---- a history of some entries

length-same : {X : Type 0} (n : ℕ) (x : X) → length (replicate n x) ≡ n
length-same zero x = refl
length-same (suc n) x = ap suc (length-same n x)

abbrev plain_db : List Msdb → Db
plain_db msdbs = record { msdbs = msdbs; dedbs = [] }

-- a history of these entries, of whose states only the databases now are known
abbrev pub any_history : ℕ → List Entry → List Msdb → History
any_history format entries msdbs = record {
  format = format;
  entries = entries;
  past = replicate (length entries) (plain_db msdbs);
  now = plain_db msdbs;
}

pub any_states : (format : ℕ) (entries : List Entry) (msdbs : List Msdb)
    → length (any_history format entries msdbs).past ≡ place_of (any_history format entries msdbs)
any_states format entries msdbs = length-same (length entries) (plain_db msdbs)

-- ---- a machine at rest

pub reached_at_rest : (engine : Engine) (rules : Rules) (lines : List (List ℕ)) (h : History) → rules_in engine ≡ rules
    → StandsFor engine (at_rest rules lines h) → IsReachedBy engine (at_rest rules lines h)
reached_at_rest engine rules lines h same stands =
    let m : Machine = at_rest rules lines h in
    let reached : IsReached rules (gauge_of engine.defs.now) m = record {
      in_order = rest_ordered rules lines h;
      live = rest_live rules (gauge_of engine.defs.now) lines h;
    } in
    record {
      stands = stands;
      reached = subst (λ (r : Rules). IsReached r (gauge_of engine.defs.now) m) (sym same) reached;
    }

-- engine, site and source stand for it
pub stands_beside : (origin : Origin) (h : History) (store : Stored) (log : LogState) (lasts : Numbered) (disk : Disk)
    (engine : Engine) (rules : Rules) (lines : Lines) (left : List ℕ) → IsBegun origin h store log lasts disk
    → StandsFor engine (at_rest rules (lines_of left) h) → engine.log.gate ≡ log.gate
    → lines_ahead lines left ≡ lines_of left
    → StandsBeside origin disk lines left engine (at_rest rules (lines_of left) h)
stands_beside origin h store log lasts disk engine rules lines left is stands gate ahead = record {
  at = record {
    parts = stands;
    at_rest =
        subst (λ (g : ℕ). IsAtRest disk origin.front (origin.groups ++ []) g) (sym gate)
        (subst (λ (gs : List (List Entry)). IsAtRest disk origin.front gs log.gate) (sym (append-nil origin.groups))
        is.at_rest);
    sent = is.sent ∙ sym (append-nil origin.sent);
  };
  lines_are = sym ahead;
}
