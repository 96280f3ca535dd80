-- That a transaction has the roots of each anchor that its region holds: kept where a lock is gained and its anchor
-- held.
use Rattle.std.proofs.Common.{◌≡◌, ◌∙◌, ◌⊎◌, inl, inr, ℕ, List, ◌∷◌, Option, Some, None, refl, sym, ap, Bool, true, false, ◌&&◌, ◌==◌, arith}
use Rattle.std.specs.Prelude.{if◌then◌else◌, is_some}
use Rattle.ci_locks.specs.Standing.{Shows, Standing, gained_over, locks_after}
use Rattle.ci_locks.specs.declared.locks.Grant.{Grant}
use Rattle.ci_locks.specs.declared.locks.Grant.TheVariants as grant
use Rattle.fp_model.specs.declared.calls.Mode.{Mode}
use Rattle.fp_model.specs.declared.calls.Mode.TheVariants.{Share, Exclusive}
use Rattle.fp_model.specs.declared.calls.Resource.{Resource}
use Rattle.fp_model.specs.declared.calls.Resource.TheVariants.{Anchor}
use Rattle.fp_model.specs.Waiting.{Lock, held_as, same_resource}
use Rattle.dedb_calls.specs.Anchors.{held_at}
use Rattle.dedb_calls.specs.Progress.{Knows}
use Rattle.dedb_calls.specs.declared.anchors.HeldAnchor.{HeldAnchor}
use Rattle.plain_laws.proofs.Numbers.{both_numbers}

-- what is held behind a request was asked for, or was held
held_with : (wanted : Lock) (locks : List Lock) (region : ℕ) (resource : Resource)
    → is_some (held_as (wanted ∷ locks) region resource) ≡ true
    → (same_resource wanted.resource resource ≡ true) ⊎ (is_some (held_as locks region resource) ≡ true)
held_with wanted locks region resource e =
    by (wanted.region == region) (same_resource wanted.resource resource) refl e
  where
    by : (a b : Bool) → same_resource wanted.resource resource ≡ b
        → is_some (if a && b then Some wanted.mode else held_as locks region resource) ≡ true
        → (same_resource wanted.resource resource ≡ true) ⊎ (is_some (held_as locks region resource) ≡ true)
    by a true same f = inl same
    by true false same f = inr f
    by false false same f = inr f

held_behind : (o : Option Mode) (wanted : Lock) (locks : List Lock) (region : ℕ) (resource : Resource)
    → is_some (held_as (gained_over o wanted locks) region resource) ≡ true
    → (same_resource wanted.resource resource ≡ true) ⊎ (is_some (held_as locks region resource) ≡ true)
held_behind None wanted locks region resource e = held_with wanted locks region resource e
held_behind (Some Share) wanted locks region resource e = held_with wanted locks region resource e
held_behind (Some Exclusive) wanted locks region resource e = inr e

gained_held : (g : Grant) (wanted : Lock) (locks : List Lock) (region : ℕ) (resource : Resource)
    → is_some (held_as (locks_after g wanted locks) region resource) ≡ true
    → (same_resource wanted.resource resource ≡ true) ⊎ (is_some (held_as locks region resource) ≡ true)
gained_held grant.Held wanted locks region resource e =
    held_behind (held_as locks wanted.region wanted.resource) wanted locks region resource e
gained_held (grant.Wait holders) wanted locks region resource e = inr e
gained_held (grant.Cycle list) wanted locks region resource e = inr e

-- a region asks for an anchor, and the transaction is told of it
pub knows_more : (s s2 : Standing) (g : Grant) (locks requests requests2 : List Lock) (region dedb anchor : ℕ)
    → (mode : Mode) (old new : List HeldAnchor)
    → Shows s locks requests
    → Shows s2 (locks_after g (record { region = region; resource = Anchor dedb anchor; mode = mode }) locks) requests2
    → is_some (held_at new dedb anchor) ≡ true
    → ((d a : ℕ) → (d == dedb && a == anchor) ≡ false → held_at new d a ≡ held_at old d a)
    → Knows (s.holds region) old → Knows (s2.holds region) new
knows_more s s2 g locks requests requests2 region dedb anchor mode old new shows shows2 has others known d a held =
    by (d == dedb && a == anchor) refl
  where
    by : (b : Bool) → (d == dedb && a == anchor) ≡ b → is_some (held_at new d a) ≡ true
    by true same =
        let names = both_numbers d a dedb anchor same in
        ap (λ k. is_some (held_at new k a)) names.0 ∙ ap (λ k. is_some (held_at new dedb k)) names.1 ∙ has
    by false other =
        ap is_some (others d a other)
        ∙ known d a (ap is_some (sym (shows.held region (Anchor d a))) ∙ before)
      where
        turned : (w x y z : ℕ) → (w == x && y == z) ≡ false → (x == w && z == y) ≡ true → ⊥
        turned w x y z e f = grind arith

        before : is_some (held_as locks region (Anchor d a)) ≡ true
        before = split (gained_held g (record { region = region; resource = Anchor dedb anchor; mode = mode }) locks
            region (Anchor d a) (ap is_some (shows2.held region (Anchor d a)) ∙ held))
          where
            split : (same_resource (Anchor dedb anchor) (Anchor d a) ≡ true)
                ⊎ (is_some (held_as locks region (Anchor d a)) ≡ true)
                → is_some (held_as locks region (Anchor d a)) ≡ true
            split (inl same) = absurd (turned d dedb a anchor other same)
            split (inr was) = was
