-- Calls that leave other data sets, and runs of them.
use Rattle.std.proofs.Common.{◌≡◌, inl, inr, ⊎_elim, refl, ap, ◌∙◌, ℕ, List}
use Rattle.fp_site.specs.Disk.{Disk, Snapshot, Elapses, IsLawful, Sends, Syncs}
use Rattle.fp_site.specs.Moments.{OnlyOn, Through}
use Rattle.fp_site.proofs.Runs.{joined, of_call, started, weaker}
use Rattle.fp_core.specs.Sparing.{HasOthers, IsLogSet, Spares}

itself : (these : ℕ → Type 0) (h : Disk) (s : Snapshot) → h.may_leave s → HasOthers these h s
itself these h s left = record { before = s; left = left; same = λ set other. refl }

-- where no call is made
pub spares_none : (these : ℕ → Type 0) (h : Disk) → IsLawful h → Spares these h h
spares_none these h law =
    record { contents = λ set other. refl; moments = started (HasOthers these h) h law (itself these h) }

-- a call that changes the log alone
pub spares_only : (old new : Disk) → IsLawful old → OnlyOn 0 old new → Spares IsLogSet old new
spares_only old new law only = record {
  contents = λ set other. only.now.contents set other;
  moments =
      of_call old new (HasOthers IsLogSet old) law
      (record {
        later = only.crash.later;
        keeps = only.crash.keeps;
        nothing_else = λ t s le left.
            ⊎_elim (λ l. inl l) (λ d. inr (record { before = d.before; left = d.left; same = d.others }))
            (only.crash.nothing_else t s le left);
        tells_sent = only.crash.tells_sent;
      })
      (itself IsLogSet old);
}

-- a call that sends
pub spares_sends : (these : ℕ → Type 0) (old new : Disk) (text : List ℕ) → IsLawful old → new.contents ≡ old.contents
    → Elapses old new (Sends old text) → Spares these old new
spares_sends these old new text law same crash = record {
  contents = λ set other. ap (λ (contents : ℕ → List ℕ). contents set) same;
  moments =
      of_call old new (HasOthers these old) law
      (record {
        later = crash.later;
        keeps = crash.keeps;
        nothing_else = λ t s le left.
            ⊎_elim (λ l. inl l)
            (λ d. inr (record {
              before = d.before;
              left = d.left;
              same = λ set other. ap (λ (images : ℕ → List ℕ). images set) d.images;
            }))
            (crash.nothing_else t s le left);
        tells_sent = crash.tells_sent;
      })
      (itself these old);
}

-- a restart
pub spares_syncs : (old new : Disk) → ((set : ℕ) → new.contents set ≡ old.contents set) → Through old new (Syncs old 0)
    → Spares IsLogSet old new
spares_syncs old new same run = record {
  contents = λ set other. same set;
  moments =
      weaker (Syncs old 0) (HasOthers IsLogSet old) old new
      (λ s d. record { before = d.before; left = d.left; same = d.others }) run;
}

-- one run after another
pub spares_on : (these : ℕ → Type 0) (a b c : Disk) → IsLawful b → Spares these a b → Spares these b c
    → Spares these a c
spares_on these a b c law first second = record {
  contents = λ set other. second.contents set other ∙ first.contents set other;
  moments =
      joined (HasOthers these a) a b c first.moments
      (weaker (HasOthers these b) (HasOthers these a) b c
      (λ s d.
      let since = law.earlier a.moment b.moment d.before first.moments.later (law.counts_now d.before d.left) in
      let e = first.moments.each d.before since in
      record { before = e.before; left = e.left; same = λ set other. d.same set other ∙ e.same set other })
      second.moments);
}

-- the log changed, and then a text was sent
pub spares_sealed : (old mid new : Disk) (text : List ℕ) → IsLawful old → IsLawful mid → OnlyOn 0 old mid
    → new.contents ≡ mid.contents → Elapses mid new (Sends mid text) → Spares IsLogSet old new
spares_sealed old mid new text law law1 only same send =
    spares_on IsLogSet old mid new law1 (spares_only old mid law only)
    (spares_sends IsLogSet mid new text law1 same send)
