-- A step, whichever event it takes.
use Rattle.std.proofs.Common.{◌≡◌, refl, sym, ◌∙◌, ap, subst, arith, ℕ, ◌+◌, List, [], ◌++◌, length}
use Rattle.std.proofs.lemmas.List.{append-nil}
use Rattle.std.proofs.lemmas.Slice.Zip.{AllZip-long}
use Rattle.fp_model.specs.declared.events.Event.{Event}
use Rattle.fp_model.specs.declared.events.Event.TheVariants as event
use Rattle.fp_model.specs.Machine.{Machine}
use Rattle.fp_model.specs.Rules.{Rules}
use Rattle.fp_model.specs.Turns.{NoFault}
use Rattle.fp_model.proofs.FrameLemmas.{turn_keeps}
use Rattle.fp_site.specs.Disk.{Disk, IsLawful}
use Rattle.fp_site.proofs.Images.{durable_settles}
use Rattle.fp_site.proofs.Runs.{started}
use Rattle.message_lines.specs.Lines.{lines_ahead, lines_given}
use Rattle.message_lines.specs.declared.lines.Lines.{Lines}
use Rattle.log_groups.specs.Images.{IsAtRest, IsLog}
use Rattle.fp_core.specs.declared.did.Did.{Did}
use Rattle.fp_core.specs.declared.did.Did.TheVariants as did
use Rattle.fp_core.specs.declared.engine.Engine.{Engine}
use Rattle.fp_core.specs.Relation.{IsRegion, StandsFor, rules_in}
use Rattle.fp_core.specs.Standing.{HasGroups, IsBetween, IsLeft, Leaves, Origin, StandsAt, StandsBeside, Stepped, SteppedBeside}
use Rattle.fp_core.specs.inside.Standing.{SteppedAt, SteppedBy}
use Rattle.fp_core.specs.Turning.{Turned}
use Rattle.fp_core.proofs.Turns.{is_device}

-- as many regions as are defined
pub regions_long : (engine : Engine) (m : Machine) → StandsFor engine m
    → length engine.regions ≡ length engine.defs.now.regions
regions_long engine m s =
    sym (AllZip-long (IsRegion engine.defs.now engine.scripts.now.scripts) engine.regions m.regions s.regions) ∙
    s.numbers

-- ---- turns

-- OUT does nothing
abbrev pub out_turned : (engine : Engine) (m : Machine) → StandsFor engine m → Turned event.Out m engine did.Nothing
out_turned engine m s = record {
  after = m;
  environment = NoFault;
  turn = refl;
  is_did = refl;
  no_device = λ e. subst is_device (sym e) tt;
  stands = s;
}

-- a turn that reads no line
abbrev pub stepped_with : (e : Event) (m : Machine) (lines : Lines) (engine : Engine) (given : Did)
    → (turned : Turned e m engine given) → turned.after.lines ≡ m.lines → Stepped e m lines lines engine given
stepped_with e m lines engine given turned same =
    record { turned = turned; given = ap (λ ls. lines_given lines + length ls) same }

pub region_stepped : (region : ℕ) (m : Machine) (lines : Lines) (engine : Engine) (given : Did)
    → Turned (event.Region region) m engine given → Stepped (event.Region region) m lines lines engine given
region_stepped region m lines engine given t =
    stepped_with (event.Region region) m lines engine given t
    (turn_keeps (rules_in engine) m (event.Region region) t.environment t.after t.turn).0.lines

pub log_stepped : (m : Machine) (lines : Lines) (engine : Engine) (given : Did)
    → Turned event.Log m engine given → Stepped event.Log m lines lines engine given
log_stepped m lines engine given t =
    stepped_with event.Log m lines engine given t (turn_keeps (rules_in engine) m event.Log t.environment t.after
    t.turn).0.lines

pub ckpt_stepped : (m : Machine) (lines : Lines) (engine : Engine) (given : Did)
    → Turned event.Ckpt m engine given → Stepped event.Ckpt m lines lines engine given
ckpt_stepped m lines engine given t =
    stepped_with event.Ckpt m lines engine given t (turn_keeps (rules_in engine) m event.Ckpt t.environment t.after
    t.turn).0.lines

-- ---- beside site and source

module _ (origin : Origin) (disk : Disk) (left : List ℕ) (m : Machine) where
  -- what is sealed and sent stays, and so does the gate
  pub still_at : (old new : Engine) (after : Machine) → StandsAt origin disk old m → StandsFor new after
      → new.log.gate ≡ old.log.gate → after.groups ≡ m.groups → after.sent ≡ m.sent → StandsAt origin disk new after
  still_at old new after at stands gate groups sent = record {
    parts = stands;
    at_rest =
        subst (λ g. IsAtRest disk origin.front (origin.groups ++ after.groups) g) (sym gate)
        (subst (λ gs. IsAtRest disk origin.front (origin.groups ++ gs) old.log.gate) (sym groups) at.at_rest);
    sent = at.sent ∙ ap (λ bytes. origin.sent ++ bytes) (sym sent);
  }

  pub region_beside : (region : ℕ) (lines : Lines) (old new : Engine) (given : Did)
      → new.log.gate ≡ old.log.gate
      → Turned (event.Region region) m new given
      → StandsBeside origin disk lines left old m
      → SteppedBeside origin (event.Region region) m disk lines lines left new given
  region_beside region lines old new given gate t beside =
      let keeps = turn_keeps (rules_in new) m (event.Region region) t.environment t.after t.turn in
      record {
        stepped = stepped_with (event.Region region) m lines new given t keeps.0.lines;
        beside = record {
          at = still_at old new t.after beside.at t.stands gate keeps.1.groups keeps.1.sent;
          lines_are = keeps.0.lines ∙ beside.lines_are;
        };
      }

  pub in_beside : (old_lines new_lines : Lines) (old new : Engine) (given : Did)
      → new.log.gate ≡ old.log.gate
      → SteppedBy event.In m old_lines new_lines left new given
      → StandsAt origin disk old m
      → SteppedBeside origin event.In m disk old_lines new_lines left new given
  in_beside old_lines new_lines old new given gate by at =
      let t = by.stepped.turned in
      let keeps = turn_keeps (rules_in new) m event.In t.environment t.after t.turn in
      record {
        stepped = by.stepped;
        beside = record {
          at = still_at old new t.after at t.stands gate keeps.0.groups keeps.0.sent;
          lines_are = by.lines_are;
        };
      }

  pub out_beside : (lines : Lines) (engine : Engine) → StandsBeside origin disk lines left engine m
      → SteppedBeside origin event.Out m disk lines lines left engine did.Nothing
  out_beside lines engine beside = record {
    stepped = stepped_with event.Out m lines engine did.Nothing (out_turned engine m beside.at.parts) refl;
    beside = beside;
  }

  pub log_beside : (lines : Lines) (engine : Engine) (given : Did) → m.lines ≡ lines_ahead lines left
      → SteppedAt origin event.Log m disk engine given
      → SteppedBeside origin event.Log m disk lines lines left engine given
  log_beside lines engine given ahead s =
      let t = s.turned in
      let same = (turn_keeps (rules_in engine) m event.Log t.environment t.after t.turn).0.lines in
      record {
        stepped = stepped_with event.Log m lines engine given t same;
        beside = record { at = s.at; lines_are = same ∙ ahead };
      }

  pub ckpt_beside : (lines : Lines) (engine : Engine) (given : Did) → m.lines ≡ lines_ahead lines left
      → SteppedAt origin event.Ckpt m disk engine given
      → SteppedBeside origin event.Ckpt m disk lines lines left engine given
  ckpt_beside lines engine given ahead s =
      let t = s.turned in
      let same = (turn_keeps (rules_in engine) m event.Ckpt t.environment t.after t.turn).0.lines in
      record {
        stepped = stepped_with event.Ckpt m lines engine given t same;
        beside = record { at = s.at; lines_are = same ∙ ahead };
      }

-- ---- a step that makes no call of the site

same_text_between : (text : List ℕ) → IsBetween text text text
same_text_between text = record { more = []; rest = []; from = sym (append-nil text); to = sym (append-nil text) }

pub left_alone : (origin : Origin) (rules : Rules) (m : Machine) (most : ℕ) (disk : Disk) (engine : Engine)
    → IsLawful disk → StandsAt origin disk engine m → Leaves origin rules m most disk disk
left_alone origin rules m most disk engine law at =
    let groups : (image : List ℕ) → image ≡ disk.contents 0 → HasGroups origin rules m most m.sent image =
    λ image same. record {
      times = 0;
      few = omega arith;
      gate = engine.log.gate;
      log = subst (λ bytes. IsLog origin.front bytes (origin.groups ++ m.groups) engine.log.gate) (sym same)
          at.at_rest.log;
      lines = same_text_between m.sent;
    } in
    record {
      moments = started (IsLeft origin rules m most disk) disk law (λ s left. record {
        text = m.sent;
        sent = λ told. law.sent_now told s left ∙ at.sent;
        groups = groups (s.images 0) (at.at_rest.durable s left);
        before = s;
        was_left = left;
        others = λ set other. refl;
      });
      within = record {
        text = m.sent;
        sent = at.sent;
        groups = λ image is. groups image (durable_settles disk 0 image at.at_rest.durable is);
        others = λ set other. refl;
      };
    }
