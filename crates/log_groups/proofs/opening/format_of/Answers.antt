use Rattle.std.proofs.Common.{◌≡◌, Err, refl, arith, take, rules}
use Rattle.std.proofs.lemmas.Result.{IfOk-from_err, err_from_is_err_and}
use Rattle.fp_lists.proofs.ContinuedLemmas.{continued_none}
use Rattle.fp_site.proofs.Runs.{elapses_none}
use Rattle.log_groups.specs.declared.fault.LogFault.TheVariants.{Damaged, Foreign}
use Rattle.log_groups.proofs.Errs.{is_never, memory_not_damaged, memory_not_failed, memory_not_foreign, rose_then, stayed_then}
use Rattle.fp_model.specs.LogText.{first_gate, front_text}
use Rattle.log_groups.specs.Images.{as_front, in_format}
use Rattle.log_groups.proofs.Fronts.{choice_begins, choice_is_format}
use Rattle.log_groups.proofs.opening.format_of.Goals as goal

pub returns-clause-some : goal.returns-clause-some
returns-clause-some g c t =
    let front = as_front c.args.front.now in
    let log = (g.S.Site.disk c.args.site.now).contents 0 in
    let taken : c.deref.result.now ≡ take (first_gate front) log = search rules in
    let first_is : c.as_slice.result.now ≡ front_text 1 (in_format 1 front) = search rules in
    let second_is : c.as_slice-2.result.now ≡ front_text 1 (in_format 2 front) = search rules in
    choice_begins front log _ _ _ taken first_is second_is c.which.result c.which.ensures.some

pub returns-clause-is_format : goal.returns-clause-is_format
returns-clause-is_format g c = choice_is_format _ _ _ c.which.result c.which.ensures.some

-- ---- no memory for the first text

pub returns-in_err-first-clause-some : goal.returns-in_err-first-clause-some
returns-in_err-first-clause-some g c t = IfOk-from_err c.from_residual.result _ c.from_residual.ensures.0

pub returns-in_err-first-clause-none : goal.returns-in_err-first-clause-none
returns-in_err-first-clause-none g c t = IfOk-from_err c.from_residual.result _ c.from_residual.ensures.0

pub returns-in_err-first-clause-exact : goal.returns-in_err-first-clause-exact
returns-in_err-first-clause-exact g c t = IfOk-from_err c.from_residual.result _ c.from_residual.ensures.0

pub returns-in_err-first-clause-is_format : goal.returns-in_err-first-clause-is_format
returns-in_err-first-clause-is_format g c = IfOk-from_err c.from_residual.result _ c.from_residual.ensures.0

pub returns-in_err-first-clause-cause : goal.returns-in_err-first-clause-cause
returns-in_err-first-clause-cause g c is = absurd (memory_not_failed c.from_residual.result c.from_residual.ensures.1 is)

pub returns-in_err-first-clause-stayed : goal.returns-in_err-first-clause-stayed
returns-in_err-first-clause-stayed g c other = refl

pub returns-in_err-first-clause-never : goal.returns-in_err-first-clause-never
returns-in_err-first-clause-never g c = (
  λ is. memory_not_foreign c.from_residual.result c.from_residual.ensures.1 is,
  λ place is. memory_not_damaged c.from_residual.result place c.from_residual.ensures.1 is,
)

pub returns-in_err-first-clause-count : goal.returns-in_err-first-clause-count
returns-in_err-first-clause-count g c t = omega arith

pub returns-in_err-first-clause-inside : goal.returns-in_err-first-clause-inside
returns-in_err-first-clause-inside g c t told = omega arith

pub returns-in_err-first-clause-stays : goal.returns-in_err-first-clause-stays
returns-in_err-first-clause-stays g c t = record { contents = refl; sent = refl; crash = elapses_none _ _ }

pub returns-in_err-first-clause-reads : goal.returns-in_err-first-clause-reads
returns-in_err-first-clause-reads g c k t = (t, λ other. refl)

pub returns-in_err-first-clause-site : goal.returns-in_err-first-clause-site
returns-in_err-first-clause-site g c = continued_none _ _ _ _ _

-- ---- no memory for the second text

pub returns-in_err-second-clause-some : goal.returns-in_err-second-clause-some
returns-in_err-second-clause-some g c t = IfOk-from_err c.from_residual-in_err-second.result _ c.from_residual-in_err-second.ensures.0

pub returns-in_err-second-clause-none : goal.returns-in_err-second-clause-none
returns-in_err-second-clause-none g c t = IfOk-from_err c.from_residual-in_err-second.result _ c.from_residual-in_err-second.ensures.0

pub returns-in_err-second-clause-exact : goal.returns-in_err-second-clause-exact
returns-in_err-second-clause-exact g c t = IfOk-from_err c.from_residual-in_err-second.result _ c.from_residual-in_err-second.ensures.0

pub returns-in_err-second-clause-is_format : goal.returns-in_err-second-clause-is_format
returns-in_err-second-clause-is_format g c = IfOk-from_err c.from_residual-in_err-second.result _ c.from_residual-in_err-second.ensures.0

pub returns-in_err-second-clause-cause : goal.returns-in_err-second-clause-cause
returns-in_err-second-clause-cause g c is = absurd (memory_not_failed c.from_residual-in_err-second.result c.from_residual-in_err-second.ensures.1 is)

pub returns-in_err-second-clause-stayed : goal.returns-in_err-second-clause-stayed
returns-in_err-second-clause-stayed g c other = refl

pub returns-in_err-second-clause-never : goal.returns-in_err-second-clause-never
returns-in_err-second-clause-never g c = (
  λ is. memory_not_foreign c.from_residual-in_err-second.result c.from_residual-in_err-second.ensures.1 is,
  λ place is. memory_not_damaged c.from_residual-in_err-second.result place c.from_residual-in_err-second.ensures.1 is,
)

pub returns-in_err-second-clause-count : goal.returns-in_err-second-clause-count
returns-in_err-second-clause-count g c t = omega arith

pub returns-in_err-second-clause-inside : goal.returns-in_err-second-clause-inside
returns-in_err-second-clause-inside g c t told = omega arith

pub returns-in_err-second-clause-stays : goal.returns-in_err-second-clause-stays
returns-in_err-second-clause-stays g c t = record { contents = refl; sent = refl; crash = elapses_none _ _ }

pub returns-in_err-second-clause-reads : goal.returns-in_err-second-clause-reads
returns-in_err-second-clause-reads g c k t = (t, λ other. refl)

pub returns-in_err-second-clause-site : goal.returns-in_err-second-clause-site
returns-in_err-second-clause-site g c = continued_none _ _ _ _ _

-- ---- the log's first bytes can't be read

pub returns-in_err-bytes-clause-some : goal.returns-in_err-bytes-clause-some
returns-in_err-bytes-clause-some g c t = IfOk-from_err c.from_residual-in_err-bytes.result _ c.from_residual-in_err-bytes.ensures.0

pub returns-in_err-bytes-clause-none : goal.returns-in_err-bytes-clause-none
returns-in_err-bytes-clause-none g c t = IfOk-from_err c.from_residual-in_err-bytes.result _ c.from_residual-in_err-bytes.ensures.0

pub returns-in_err-bytes-clause-exact : goal.returns-in_err-bytes-clause-exact
returns-in_err-bytes-clause-exact g c t = IfOk-from_err c.from_residual-in_err-bytes.result _ c.from_residual-in_err-bytes.ensures.0

pub returns-in_err-bytes-clause-is_format : goal.returns-in_err-bytes-clause-is_format
returns-in_err-bytes-clause-is_format g c = IfOk-from_err c.from_residual-in_err-bytes.result _ c.from_residual-in_err-bytes.ensures.0

pub returns-in_err-bytes-clause-cause : goal.returns-in_err-bytes-clause-cause
returns-in_err-bytes-clause-cause g c =
    let p = err_from_is_err_and c.from_residual-in_err-bytes.result c.from_residual-in_err-bytes.ensures.1 in
    let same : c.from_residual-in_err-bytes.result ≡ Err c.in_err-bytes.field-0.0 = cc (p.1, p.2) in
    rose_then c.from_residual-in_err-bytes.result c.in_err-bytes.field-0.0 same _ _ _ (omega arith) c.in_err-bytes.ensures.cause

pub returns-in_err-bytes-clause-stayed : goal.returns-in_err-bytes-clause-stayed
returns-in_err-bytes-clause-stayed g c =
    let p = err_from_is_err_and c.from_residual-in_err-bytes.result c.from_residual-in_err-bytes.ensures.1 in
    let same : c.from_residual-in_err-bytes.result ≡ Err c.in_err-bytes.field-0.0 = cc (p.1, p.2) in
    stayed_then c.from_residual-in_err-bytes.result c.in_err-bytes.field-0.0 same _ _ _ refl c.in_err-bytes.ensures.stayed

pub returns-in_err-bytes-clause-never : goal.returns-in_err-bytes-clause-never
returns-in_err-bytes-clause-never g c =
    let p = err_from_is_err_and c.from_residual-in_err-bytes.result c.from_residual-in_err-bytes.ensures.1 in
    let same : c.from_residual-in_err-bytes.result ≡ Err c.in_err-bytes.field-0.0 = cc (p.1, p.2) in (
      λ is. is_never c.from_residual-in_err-bytes.result c.in_err-bytes.field-0.0 same Foreign c.in_err-bytes.ensures.never.0 is,
      λ place is. is_never c.from_residual-in_err-bytes.result c.in_err-bytes.field-0.0 same (Damaged place) (c.in_err-bytes.ensures.never.1 place) is,
    )

pub returns-in_err-bytes-clause-count : goal.returns-in_err-bytes-clause-count
returns-in_err-bytes-clause-count g c t = omega (arith, c.first_bytes.ensures.count t, c.gate.ensures)

pub returns-in_err-bytes-clause-inside : goal.returns-in_err-bytes-clause-inside
returns-in_err-bytes-clause-inside g c = c.first_bytes.ensures.inside

pub returns-in_err-bytes-clause-stays : goal.returns-in_err-bytes-clause-stays
returns-in_err-bytes-clause-stays g c = c.first_bytes.ensures.stays

pub returns-in_err-bytes-clause-reads : goal.returns-in_err-bytes-clause-reads
returns-in_err-bytes-clause-reads g c = c.first_bytes.ensures.reads

pub returns-in_err-bytes-clause-site : goal.returns-in_err-bytes-clause-site
returns-in_err-bytes-clause-site g c = c.first_bytes.ensures.site

-- ---- the log is shorter

pub returns-in_default-clause-count : goal.returns-in_default-clause-count
returns-in_default-clause-count g c t = omega (arith, c.first_bytes.ensures.count t, c.gate.ensures)

pub returns-in_default-clause-inside : goal.returns-in_default-clause-inside
returns-in_default-clause-inside g c = c.first_bytes.ensures.inside

pub returns-in_default-clause-stays : goal.returns-in_default-clause-stays
returns-in_default-clause-stays g c = c.first_bytes.ensures.stays

pub returns-in_default-clause-reads : goal.returns-in_default-clause-reads
returns-in_default-clause-reads g c = c.first_bytes.ensures.reads

pub returns-in_default-clause-site : goal.returns-in_default-clause-site
returns-in_default-clause-site g c = c.first_bytes.ensures.site

-- ---- they are read

pub returns-clause-count : goal.returns-clause-count
returns-clause-count g c t = omega (arith, c.first_bytes.ensures.count t, c.gate.ensures)

pub returns-clause-inside : goal.returns-clause-inside
returns-clause-inside g c = c.first_bytes.ensures.inside

pub returns-clause-stays : goal.returns-clause-stays
returns-clause-stays g c = c.first_bytes.ensures.stays

pub returns-clause-reads : goal.returns-clause-reads
returns-clause-reads g c = c.first_bytes.ensures.reads

pub returns-clause-site : goal.returns-clause-site
returns-clause-site g c = c.first_bytes.ensures.site
