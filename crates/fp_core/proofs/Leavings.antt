-- What sealing leaves at every moment.
use Rattle.std.proofs.Common.{◌≡◌, refl, sym, ◌∙◌, ap, subst, arith, ℕ, ◌+◌, ◌≤◌, List, [], ◌∷◌, ◌++◌, take, drop, inl, inr}
use Rattle.std.proofs.lemmas.List.{append-nil, append_assoc, take-append-drop}
use Rattle.fp_model.specs.declared.log.Entry.{Entry}
use Rattle.fp_model.specs.Machine.{Machine, sealed_once, sealed_times}
use Rattle.fp_model.specs.Rules.{Rules}
use Rattle.fp_site.specs.Disk.{Differs, Disk, Elapses, IsLawful, Sends, Settles, Snapshot}
use Rattle.fp_site.specs.Moments.{OnlyOn, Through}
use Rattle.fp_site.proofs.Frames.{Anyhow, only_through}
use Rattle.fp_site.proofs.Images.{durable_sent, durable_settles}
use Rattle.fp_site.proofs.Runs.{both, goes_on, joined, weaker}
use Rattle.log_groups.specs.Images.{IsAtRest, IsBeforeOrAfter, IsLog, IsWithOrWithout, gate_behind}
use Rattle.fp_core.specs.Standing.{HasGroups, IsLeft, Leaves, Origin}
use Rattle.fp_core.proofs.Seals.{sent_times, times_more}

module _ (origin : Origin) (rules : Rules) (m : Machine) where
  -- ---- one group

  module _ (group : List Entry) (lines : List ℕ)
      (groups_once : (sealed_once rules m).groups ≡ m.groups ++ group ∷ [])
      (sent_once : (sealed_once rules m).sent ≡ m.sent ++ lines)
      (d0 : Disk) (gate : ℕ) (law0 : IsLawful d0)
      (rest0 : IsAtRest d0 origin.front (origin.groups ++ m.groups) gate)
      (sent0 : d0.sent ≡ origin.sent ++ m.sent) where
    abbrev Either : Snapshot → Type 0
    Either = IsBeforeOrAfter origin.front (origin.groups ++ m.groups) gate group

    -- the groups with the new one are the machine's
    pub groups_are : (origin.groups ++ m.groups) ++ group ∷ [] ≡ origin.groups ++ (sealed_once rules m).groups
    groups_are =
        append_assoc origin.groups m.groups (group ∷ [])
        ∙ ap (λ (gs : List (List Entry)). origin.groups ++ gs) (sym groups_once)

    -- an image with the new group, of whose lines some are sent
    with_one : (text image : List ℕ) (rest : List ℕ) (at : ℕ)
        → IsLog origin.front image (origin.groups ++ (sealed_once rules m).groups) at
        → (more : List ℕ) → text ≡ m.sent ++ more → lines ≡ more ++ rest → HasGroups origin rules m 1 text image
    with_one text image rest at log more from all = record {
      times = 1;
      few = omega arith;
      gate = at;
      log = log;
      lines = record {
        more = more;
        rest = rest;
        from = from;
        to =
            sent_once ∙ ap (λ (t : List ℕ). m.sent ++ t) all ∙ sym (append_assoc m.sent more rest)
            ∙ ap (λ (t : List ℕ). t ++ rest) (sym from);
      };
    }

    either : (image : List ℕ) → IsWithOrWithout origin.front (origin.groups ++ m.groups) gate group image
        → HasGroups origin rules m 1 m.sent image
    either image (inl log) = record {
      times = 0;
      few = omega arith;
      gate = gate;
      log = log;
      lines = record { more = []; rest = []; from = sym (append-nil m.sent); to = sym (append-nil m.sent) };
    }
    either image (inr log) =
        with_one m.sent image lines (gate_behind gate group)
        (subst (λ (gs : List (List Entry)). IsLog origin.front image gs (gate_behind gate group)) groups_are log)
        [] (sym (append-nil m.sent)) refl

    module _ (d1 : Disk) (only : OnlyOn 0 d0 d1) (run : Through d0 d1 Either) where
      after_seal : Through d0 d1 (IsLeft origin rules m 1 d0)
      after_seal =
          weaker (λ s. Either s × Differs d0 0 Anyhow s) (IsLeft origin rules m 1 d0) d0 d1
          (λ s x. record {
            text = m.sent;
            sent = λ told. x.1.sent told ∙ law0.sent_now told x.1.before x.1.left ∙ sent0;
            groups = either (s.images 0) x.0;
            before = x.1.before;
            was_left = x.1.left;
            others = x.1.others;
          })
          (both Either (Differs d0 0 Anyhow) d0 d1 run (only_through 0 d0 d1 law0 only))

      -- where the seal failed
      pub leaves_unsealed : ((image : List ℕ) → Settles d1 0 image
          → IsWithOrWithout origin.front (origin.groups ++ m.groups) gate group image)
          → Leaves origin rules m 1 d0 d1
      leaves_unsealed settles = record {
        moments = after_seal;
        within = record {
          text = m.sent;
          sent = only.now.sent ∙ sent0;
          groups = λ image is. either image (settles image is);
          others = only.now.contents;
        };
      }

      -- and where it didn't
      module _ (law1 : IsLawful d1) (gate1 : ℕ)
          (rest1 : IsAtRest d1 origin.front (origin.groups ++ (sealed_once rules m).groups) gate1)
          (d2 : Disk) (law2 : IsLawful d2) (same : d2.contents ≡ d1.contents) (send : Elapses d1 d2 (Sends d1 lines))
        where
          -- so many bytes of the lines are sent
          sent_part : (n : ℕ) (image : List ℕ) → image ≡ d1.contents 0
              → HasGroups origin rules m 1 (m.sent ++ take n lines) image
          sent_part n image is =
              with_one (m.sent ++ take n lines) image (drop n lines) gate1
              (subst (λ (bytes : List ℕ). IsLog origin.front bytes (origin.groups ++ (sealed_once rules m).groups)
              gate1)
              (sym is) rest1.log)
              (take n lines) refl (sym (take-append-drop n lines))

          left_sent : (s : Snapshot) → Sends d1 lines s → IsLeft origin rules m 1 d0 s
          left_sent s x =
              let old = after_seal.each x.before (law1.earlier d0.moment d1.moment x.before after_seal.later
              (law1.counts_now x.before x.left)) in
              record {
                text = m.sent ++ take x.count lines;
                sent = λ told.
                    let told1 = after_seal.tells_sent told in
                    x.sent told1
                    ∙ ap (λ (t : List ℕ). t ++ take x.count lines)
                    (law1.sent_now told1 x.before x.left ∙ only.now.sent ∙ sent0)
                    ∙ append_assoc origin.sent m.sent (take x.count lines);
                groups = sent_part x.count (s.images 0)
                    (ap (λ (f : ℕ → List ℕ). f 0) x.images ∙ rest1.durable x.before x.left);
                before = old.before;
                was_left = old.was_left;
                others = λ set other. ap (λ (f : ℕ → List ℕ). f set) x.images ∙ old.others set other;
              }

          pub rest_sent : IsAtRest d2 origin.front (origin.groups ++ (sealed_once rules m).groups) gate1
          rest_sent = record {
            durable = durable_sent d1 d2 0 lines law1 law2 same send rest1.durable;
            log = subst (λ (f : ℕ → List ℕ). IsLog origin.front (f 0) (origin.groups ++ (sealed_once rules m).groups)
                gate1) (sym same) rest1.log;
          }

          pub leaves_sent : (n : ℕ) × (d2.sent ≡ d1.sent ++ take n lines) → Leaves origin rules m 1 d0 d2
          leaves_sent part = record {
            moments = goes_on (IsLeft origin rules m 1 d0) d0 d1 d2 (Sends d1 lines) after_seal send left_sent;
            within = record {
              text = m.sent ++ take part.0 lines;
              sent =
                  part.1 ∙ ap (λ (t : List ℕ). t ++ take part.0 lines) (only.now.sent ∙ sent0)
                  ∙ append_assoc origin.sent m.sent (take part.0 lines);
              groups = λ image is. sent_part part.0 image
                  (durable_settles d2 0 image rest_sent.durable is ∙ ap (λ (f : ℕ → List ℕ). f 0) same);
              others = λ set other. ap (λ (f : ℕ → List ℕ). f set) same ∙ only.now.contents set other;
            };
          }

          pub all_sent : d2.sent ≡ d1.sent ++ lines → d2.sent ≡ origin.sent ++ (sealed_once rules m).sent
          all_sent is =
              is ∙ ap (λ (t : List ℕ). t ++ lines) (only.now.sent ∙ sent0) ∙ append_assoc origin.sent m.sent lines
              ∙ ap (λ (t : List ℕ). origin.sent ++ t) (sym sent_once)

  -- ---- one group more

  module _ (k most : ℕ) (few : k + 1 ≤ most) where
    further : (text image : List ℕ) → HasGroups origin rules (sealed_times k rules m) 1 text image
        → HasGroups origin rules m most text image
    further text image has =
        let before = sent_times k rules m in
        record {
          times = k + has.times;
          few = omega (arith, has.few, few);
          gate = has.gate;
          log =
              subst (λ (x : Machine). IsLog origin.front image (origin.groups ++ x.groups) has.gate)
              (times_more k has.times rules m) has.log;
          lines = record {
            more = before.0 ++ has.lines.more;
            rest = has.lines.rest;
            from =
                has.lines.from ∙ ap (λ (t : List ℕ). t ++ has.lines.more) before.1
                ∙ append_assoc m.sent before.0 has.lines.more;
            to = ap (λ (x : Machine). x.sent) (sym (times_more k has.times rules m)) ∙ has.lines.to;
          };
        }

    pub leaves_more : (d0 d1 d2 : Disk) → IsLawful d1 → Leaves origin rules m most d0 d1
        → Leaves origin rules (sealed_times k rules m) 1 d1 d2 → Leaves origin rules m most d0 d2
    leaves_more d0 d1 d2 law1 first second = record {
      moments =
          joined (IsLeft origin rules m most d0) d0 d1 d2 first.moments
          (weaker (IsLeft origin rules (sealed_times k rules m) 1 d1) (IsLeft origin rules m most d0) d1 d2 chain
          second.moments);
      within = record {
        text = second.within.text;
        sent = second.within.sent;
        groups = λ image is. further second.within.text image (second.within.groups image is);
        others = λ set other. second.within.others set other ∙ first.within.others set other;
      };
    }
      where
        chain : (s : Snapshot) → IsLeft origin rules (sealed_times k rules m) 1 d1 s → IsLeft origin rules m most d0 s
        chain s x =
            let old = first.moments.each x.before (law1.earlier d0.moment d1.moment x.before first.moments.later
            (law1.counts_now x.before x.was_left)) in
            record {
              text = x.text;
              sent = λ told. x.sent (first.moments.tells_sent told);
              groups = further x.text (s.images 0) x.groups;
              before = old.before;
              was_left = old.was_left;
              others = λ set other. x.others set other ∙ old.others set other;
            }
