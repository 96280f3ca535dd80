-- What a fault comes of.
use Rattle.std.proofs.Common.{◌≡◌, refl, subst, ℕ}
use Rattle.fp_lists.specs.Faults.{Rose}
use Rattle.command_tasks.specs.Causes.{IsCausedBySite, IsCausedBySource}
use Rattle.command_tasks.specs.declared.status.Status.{Status}
use Rattle.command_tasks.specs.declared.status.Status.TheVariants.{Done, Usage, Definitions, Scripts, Schedule, ReadFault, SiteFault, Foreign, Damaged, Line, NoMemory, NotBuilt, OldFormat, Illegal}

-- ---- by the answer

-- of the source, where that is told of a read fault and of any other answer
pub by_source : (before now : ℕ) (answer : Status) → (answer ≡ ReadFault → Rose before now)
    → (¬ (answer ≡ ReadFault) → now ≡ before) → IsCausedBySource before now answer
by_source before now ReadFault rose stayed = rose refl
by_source before now SiteFault rose stayed = stayed (λ e. cc)
by_source before now Done rose stayed = stayed (λ e. cc)
by_source before now Usage rose stayed = stayed (λ e. cc)
by_source before now (Definitions fault) rose stayed = stayed (λ e. cc)
by_source before now (Scripts fault) rose stayed = stayed (λ e. cc)
by_source before now (Schedule fault) rose stayed = stayed (λ e. cc)
by_source before now Foreign rose stayed = stayed (λ e. cc)
by_source before now (Damaged set at) rose stayed = stayed (λ e. cc)
by_source before now (Line number) rose stayed = stayed (λ e. cc)
by_source before now NoMemory rose stayed = stayed (λ e. cc)
by_source before now (NotBuilt p) rose stayed = stayed (λ e. cc)
by_source before now OldFormat rose stayed = stayed (λ e. cc)
by_source before now (Illegal entry) rose stayed = stayed (λ e. cc)

-- the same of the site
pub by_site : (before now : ℕ) (answer : Status) → (answer ≡ SiteFault → Rose before now)
    → (¬ (answer ≡ SiteFault) → now ≡ before) → IsCausedBySite before now answer
by_site before now SiteFault rose stayed = rose refl
by_site before now ReadFault rose stayed = stayed (λ e. cc)
by_site before now Done rose stayed = stayed (λ e. cc)
by_site before now Usage rose stayed = stayed (λ e. cc)
by_site before now (Definitions fault) rose stayed = stayed (λ e. cc)
by_site before now (Scripts fault) rose stayed = stayed (λ e. cc)
by_site before now (Schedule fault) rose stayed = stayed (λ e. cc)
by_site before now Foreign rose stayed = stayed (λ e. cc)
by_site before now (Damaged set at) rose stayed = stayed (λ e. cc)
by_site before now (Line number) rose stayed = stayed (λ e. cc)
by_site before now NoMemory rose stayed = stayed (λ e. cc)
by_site before now (NotBuilt p) rose stayed = stayed (λ e. cc)
by_site before now OldFormat rose stayed = stayed (λ e. cc)
by_site before now (Illegal entry) rose stayed = stayed (λ e. cc)

-- ---- one stretch behind another

-- where the count stayed before
pub source_since : (a b c : ℕ) (answer : Status) → b ≡ a → IsCausedBySource b c answer → IsCausedBySource a c answer
source_since a b c answer same is = subst (λ (n : ℕ). IsCausedBySource n c answer) same is

pub site_since : (a b c : ℕ) (answer : Status) → b ≡ a → IsCausedBySite b c answer → IsCausedBySite a c answer
site_since a b c answer same is = subst (λ (n : ℕ). IsCausedBySite n c answer) same is
