-- LOG beside a site: what it leaves, and what stands behind it.
use Rattle.std.proofs.Common.{◌≡◌, refl, ◌∙◌, ap, subst, arith, ℕ, ◌≤◌, List, [], ◌∷◌, ◌++◌, length, take}
use Rattle.std.specs.Prelude.{min}
use Rattle.std.specs.List.{flat_map}
use Rattle.fp_model.specs.declared.log.Entry.{Entry}
use Rattle.fp_model.specs.Machine.{Machine, sealed_once}
use Rattle.fp_model.specs.ReplyLine.{line_of}
use Rattle.fp_site.specs.Disk.{Disk, Elapses, IsLawful, Sends, Settles}
use Rattle.fp_site.specs.Moments.{OnlyOn, Through}
use Rattle.log_groups.specs.Images as images
use Rattle.log_groups.specs.Images.{IsAtRest, IsBeforeOrAfter, IsWithOrWithout}
use Rattle.fp_core.specs.declared.engine.Engine.{Engine}
use Rattle.fp_core.specs.Relation.{rules_in}
use Rattle.fp_core.specs.inside.Sealing.{replies_of}
use Rattle.fp_core.specs.Standing.{Leaves, Origin, StandsAt}
use Rattle.fp_core.proofs.Leavings.{all_sent, groups_are, leaves_sent, leaves_unsealed, rest_sent}
use Rattle.fp_core.proofs.Seals.{lines_group, once_is, some_group}

with_some : (gs : List (List Entry)) (g : List Entry) → 1 ≤ length g → images.with_group gs g ≡ gs ++ g ∷ []
with_some gs [] some = absurd (omega (arith, some))
with_some gs (e ∷ es) some = refl

module _ (origin : Origin) (engine : Engine) (m : Machine) (d0 : Disk) (at : StandsAt origin d0 engine m)
    (law0 : IsLawful d0)
    (some : 1 ≤ length engine.owed.items) where
  abbrev group : List Entry
  group = take engine.defs.now.log_group engine.log.unsealed

  abbrev lines : List ℕ
  lines = flat_map line_of group

  abbrev after : Machine
  after = sealed_once (rules_in engine) m

  groups_once : after.groups ≡ m.groups ++ group ∷ []
  groups_once = ap (λ (x : Machine). x.groups) (once_is engine m at.parts some)

  sent_once : after.sent ≡ m.sent ++ lines
  sent_once = ap (λ (x : Machine). x.sent) (once_is engine m at.parts some)

  module _ (d1 : Disk) (only : OnlyOn 0 d0 d1)
      (run : Through d0 d1 (IsBeforeOrAfter origin.front (origin.groups ++ m.groups) engine.log.gate group)) where
    -- the seal failed
    pub halts : ((image : List ℕ) → Settles d1 0 image
        → IsWithOrWithout origin.front (origin.groups ++ m.groups) engine.log.gate group image)
        → Leaves origin (rules_in engine) m 1 d0 d1
    halts settles =
        leaves_unsealed origin (rules_in engine) m group lines groups_once sent_once d0 engine.log.gate law0 at.at_rest
        at.sent d1 only run settles

    -- or lines were sent behind it
    module _ (law1 : IsLawful d1) (gate1 : ℕ)
        (rest : IsAtRest d1 origin.front (images.with_group (origin.groups ++ m.groups) group) gate1)
        (n : ℕ) (count : n ≡ min engine.defs.now.log_group (length engine.log.unsealed))
        (d2 : Disk) (law2 : IsLawful d2) (same : d2.contents ≡ d1.contents)
        (send : Elapses d1 d2 (Sends d1 (replies_of (take n engine.owed.items)))) where
      lines_are : replies_of (take n engine.owed.items) ≡ lines
      lines_are = lines_group engine m at.parts n count

      rest1 : IsAtRest d1 origin.front (origin.groups ++ after.groups) gate1
      rest1 =
          subst (λ (gs : List (List Entry)). IsAtRest d1 origin.front gs gate1)
          (with_some (origin.groups ++ m.groups) group (some_group engine m at.parts some)
          ∙ groups_are origin (rules_in engine) m group lines groups_once sent_once d0 engine.log.gate law0 at.at_rest
          at.sent)
          rest

      send1 : Elapses d1 d2 (Sends d1 lines)
      send1 = subst (λ (t : List ℕ). Elapses d1 d2 (Sends d1 t)) lines_are send

      pub tells : (j : ℕ) × (d2.sent ≡ d1.sent ++ take j (replies_of (take n engine.owed.items)))
          → Leaves origin (rules_in engine) m 1 d0 d2
      tells part =
          leaves_sent origin (rules_in engine) m group lines groups_once sent_once d0 engine.log.gate law0 at.at_rest
          at.sent d1 only run law1 gate1 rest1 d2 law2 same send1
          (part.0, part.1 ∙ ap (λ (t : List ℕ). d1.sent ++ take part.0 t) lines_are)

      pub rest_behind : IsAtRest d2 origin.front (origin.groups ++ after.groups) gate1
      rest_behind =
          rest_sent origin (rules_in engine) m group lines groups_once sent_once d0 engine.log.gate law0 at.at_rest
          at.sent d1 only run law1 gate1 rest1 d2 law2 same send1

      pub sent_behind : d2.sent ≡ d1.sent ++ replies_of (take n engine.owed.items) → d2.sent ≡ origin.sent ++ after.sent
      sent_behind is =
          all_sent origin (rules_in engine) m group lines groups_once sent_once d0 engine.log.gate law0 at.at_rest
          at.sent d1 only run law1 gate1 rest1 d2 law2 same send1
          (is ∙ ap (λ (t : List ℕ). d1.sent ++ t) lines_are)
