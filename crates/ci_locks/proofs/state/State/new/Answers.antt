use Rattle.std.proofs.Common.{refl, arith, ◌≡◌, ◌∙◌, ◌+◌, ◌++◌, ◌∷◌, [], ℕ, List, ap, sym, subst, length, length-append, None}
use Rattle.ci_locks.specs.Regions.{region_at}
use Rattle.ci_locks.specs.declared.state.Region.{Region}
use Rattle.ci_locks.proofs.Sounds.{IsIdle, idle_more, idle_sound}
use Rattle.ci_locks.proofs.state.State.new.Goals as goal

pub loop-preserved : goal.loop-preserved
loop-preserved c =
    let made : Region = record { held = c.new.result; request = None; ahead = c.empty.result } in
    let pushed : c.push.new.self.items ≡ c.loop.made.items ++ made ∷ [] = c.in_ok-push.ensures.items in
    let P : List Region → Type 0 = λ regions. (k : ℕ) → IsIdle (region_at regions k) in
    record {
      long = ap length pushed ∙ length-append c.loop.made.items (made ∷ []) ∙ ap (λ n. n + 1) c.loop.invariant.long;
      idle = subst P (sym pushed) (idle_more c.loop.made.items made c.loop.invariant.idle refl c.empty.ensures);
    }

pub returns-clause-sound : goal.returns-clause-sound
returns-clause-sound c =
    idle_sound (record { regions = c.loop.made; holdings = c.new-2.result })
    (let l = c.loop.invariant.long in omega (arith, l, c.requires, c.loop.auto.counter-end, c.from.ensures))
    c.loop.invariant.idle c.new-2.ensures
