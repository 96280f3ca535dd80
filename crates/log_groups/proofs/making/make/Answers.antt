use Rattle.std.proofs.Common.{◌≡◌, [], ◌∷◌, ◌++◌, length, refl, subst, ◌∙◌, ap, arith}
use Rattle.std.proofs.lemmas.List.{length-append}
use Rattle.std.proofs.lemmas.Result.{IfOk-from_err}
use Rattle.fp_lists.proofs.ContinuedLemmas.{continued_both, continued_none}
use Rattle.fp_lists.proofs.FaultLemmas.{rose_behind}
use Rattle.fp_model.specs.LogText.{front_rest}
use Rattle.fp_site.specs.Moments.{Through}
use Rattle.fp_site.proofs.Frames.{only_joined, only_none}
use Rattle.gated_write.specs.Gates.{IsGatedImage}
use Rattle.gated_write.proofs.Shutting.{few_then, reads_then}
use Rattle.log_groups.specs.Images.{as_front}
use Rattle.log_groups.specs.inside.Images.{IsGated, IsOpened}
use Rattle.log_groups.proofs.Errs.{failed_is, failed_not_damaged, failed_not_foreign, failed_not_memory, memory_not_damaged, memory_not_failed, memory_not_foreign}
use Rattle.log_groups.proofs.Shutting.{length-front, once_made, made_image, made_log}
use Rattle.log_groups.proofs.FrontsKept.{new_length, new_text}
use Rattle.log_groups.proofs.making.make.Goals as goal

-- the front fits in a data set
pub write_gated-requires : goal.write_gated-requires
write_gated-requires g c =
    let front = as_front c.args.front.now in
    let is : c.as_slice.result.now ≡ front_rest front ++ 0 ∷ [] =
    c.as_slice.ensures ∙ c.in_ok-bytes.ensures in
    let fits = c.requires in
    let long = length-append (front_rest front) (0 ∷ []) in
    record { room = omega (arith, ap length is, long, length-front front, fits.defs_fit, fits.scripts_fit) }

pub returns-in_err-write_gated-clause-only : goal.returns-in_err-write_gated-clause-only
returns-in_err-write_gated-clause-only g c t =
    let t1 = c.shut.ensures.site.still_told t in
    only_joined 0 _ _ _ (g.met.S.Site.lawful c.args.site.now t) (g.met.S.Site.lawful c.shut.new.site t1)
    (c.shut.ensures.only t) (c.write_gated.ensures.only t1)

pub returns-in_err-write_gated-clause-crash : goal.returns-in_err-write_gated-clause-crash
returns-in_err-write_gated-clause-crash g c t =
    let t1 = c.shut.ensures.site.still_told t in
    let law = g.met.S.Site.lawful c.args.site.now t in
    let law1 = g.met.S.Site.lawful c.shut.new.site t1 in
    let shut = c.in_ok-shut.ensures.shut t in
    let front = as_front c.args.front.now in
    let h = g.S.Site.disk c.args.site.now in
    let a = g.S.Site.disk c.shut.new.site in
    let b = g.S.Site.disk c.write_gated.new.site in
    let is : c.as_slice.result.now ≡ front_rest front ++ 0 ∷ [] =
    c.as_slice.ensures ∙ c.in_ok-bytes.ensures in
    once_made front h a b law law1 (c.shut.ensures.crash t) shut
    (subst (λ l. Through a b (IsGated (a.contents 0) 0 l)) is
    (c.write_gated.ensures.crash t1 shut.durable shut.gate.some))

pub returns-in_err-write_gated-clause-settles : goal.returns-in_err-write_gated-clause-settles
returns-in_err-write_gated-clause-settles g c image t settles =
    let t1 = c.shut.ensures.site.still_told t in
    let shut = c.in_ok-shut.ensures.shut t in
    let front = as_front c.args.front.now in
    let a = g.S.Site.disk c.shut.new.site in
    let is : c.as_slice.result.now ≡ front_rest front ++ 0 ∷ [] =
    c.as_slice.ensures ∙ c.in_ok-bytes.ensures in
    made_image (g.S.Site.disk c.args.site.now) front (a.contents 0) image shut.gate
    (subst (λ l. IsGatedImage (a.contents 0) 0 l image) is
    (c.write_gated.ensures.settles image t1 shut.durable shut.gate.some settles))

pub returns-clause-only : goal.returns-clause-only
returns-clause-only g c t =
    let t1 = c.shut.ensures.site.still_told t in
    only_joined 0 _ _ _ (g.met.S.Site.lawful c.args.site.now t) (g.met.S.Site.lawful c.shut.new.site t1)
    (c.shut.ensures.only t) (c.write_gated.ensures.only t1)

pub returns-clause-crash : goal.returns-clause-crash
returns-clause-crash g c t =
    let t1 = c.shut.ensures.site.still_told t in
    let law = g.met.S.Site.lawful c.args.site.now t in
    let law1 = g.met.S.Site.lawful c.shut.new.site t1 in
    let shut = c.in_ok-shut.ensures.shut t in
    let front = as_front c.args.front.now in
    let h = g.S.Site.disk c.args.site.now in
    let a = g.S.Site.disk c.shut.new.site in
    let b = g.S.Site.disk c.write_gated.new.site in
    let is : c.as_slice.result.now ≡ front_rest front ++ 0 ∷ [] =
    c.as_slice.ensures ∙ c.in_ok-bytes.ensures in
    once_made front h a b law law1 (c.shut.ensures.crash t) shut
    (subst (λ l. Through a b (IsGated (a.contents 0) 0 l)) is
    (c.write_gated.ensures.crash t1 shut.durable shut.gate.some))

pub returns-clause-settles : goal.returns-clause-settles
returns-clause-settles g c image t settles =
    let t1 = c.shut.ensures.site.still_told t in
    let shut = c.in_ok-shut.ensures.shut t in
    let front = as_front c.args.front.now in
    let a = g.S.Site.disk c.shut.new.site in
    let is : c.as_slice.result.now ≡ front_rest front ++ 0 ∷ [] =
    c.as_slice.ensures ∙ c.in_ok-bytes.ensures in
    made_image (g.S.Site.disk c.args.site.now) front (a.contents 0) image shut.gate
    (subst (λ l. IsGatedImage (a.contents 0) 0 l image) is
    (c.write_gated.ensures.settles image t1 shut.durable shut.gate.some settles))

pub returns-clause-made : goal.returns-clause-made
returns-clause-made g c t =
    let t1 = c.shut.ensures.site.still_told t in
    let shut = c.in_ok-shut.ensures.shut t in
    let front = as_front c.args.front.now in
    let a = g.S.Site.disk c.shut.new.site in
    let b = g.S.Site.disk c.write_gated.new.site in
    let is : c.as_slice.result.now ≡ front_rest front ++ 0 ∷ [] =
    c.as_slice.ensures ∙ c.in_ok-bytes.ensures in
    made_log front (a.contents 0) b (subst (λ l. IsOpened (a.contents 0) 0 l b) is
    (c.in_ok-write_gated.ensures.opened t1 (omega arith)))

pub returns-clause-text : goal.returns-clause-text
returns-clause-text g c t =
    let t1 = c.shut.ensures.site.still_told t in
    let front = as_front c.args.front.now in
    let h = g.S.Site.disk c.args.site.now in
    let a = g.S.Site.disk c.shut.new.site in
    let b = g.S.Site.disk c.write_gated.new.site in
    let is : c.as_slice.result.now ≡ front_rest front ++ 0 ∷ [] =
    c.as_slice.ensures ∙ c.in_ok-bytes.ensures in
    new_text front (h.contents 0) (a.contents 0) b (c.in_ok-shut.ensures.rest t)
    (subst (λ l. IsOpened (a.contents 0) 0 l b) is (c.in_ok-write_gated.ensures.opened t1 (omega arith)))

pub returns-clause-long : goal.returns-clause-long
returns-clause-long g c t = new_length (as_front c.args.front.now) ((g.S.Site.disk c.args.site.now).contents 0)
    ((g.S.Site.disk c.write_gated.new.site).contents 0) (returns-clause-text g c t)

-- ---- no memory for what is written

pub returns-in_err-bytes-clause-made : goal.returns-in_err-bytes-clause-made
returns-in_err-bytes-clause-made g c t = IfOk-from_err c.from_residual.result _ c.from_residual.ensures.0

pub returns-in_err-bytes-clause-text : goal.returns-in_err-bytes-clause-text
returns-in_err-bytes-clause-text g c t = IfOk-from_err c.from_residual.result _ c.from_residual.ensures.0

pub returns-in_err-bytes-clause-long : goal.returns-in_err-bytes-clause-long
returns-in_err-bytes-clause-long g c t = IfOk-from_err c.from_residual.result _ c.from_residual.ensures.0

pub returns-in_err-bytes-clause-cause : goal.returns-in_err-bytes-clause-cause
returns-in_err-bytes-clause-cause g c is = absurd (memory_not_failed c.from_residual.result c.from_residual.ensures.1 is)

pub returns-in_err-bytes-clause-stayed : goal.returns-in_err-bytes-clause-stayed
returns-in_err-bytes-clause-stayed g c other = refl

pub returns-in_err-bytes-clause-never : goal.returns-in_err-bytes-clause-never
returns-in_err-bytes-clause-never g c = (
  λ is. memory_not_foreign c.from_residual.result c.from_residual.ensures.1 is,
  λ place is. memory_not_damaged c.from_residual.result place c.from_residual.ensures.1 is,
)

pub returns-in_err-bytes-clause-untouched : goal.returns-in_err-bytes-clause-untouched
returns-in_err-bytes-clause-untouched g c is = refl

pub returns-in_err-bytes-clause-only : goal.returns-in_err-bytes-clause-only
returns-in_err-bytes-clause-only g c t = only_none 0 _

pub returns-in_err-bytes-clause-few : goal.returns-in_err-bytes-clause-few
returns-in_err-bytes-clause-few g c t = omega arith

pub returns-in_err-bytes-clause-reads : goal.returns-in_err-bytes-clause-reads
returns-in_err-bytes-clause-reads g c k t = (t, λ other. refl)

pub returns-in_err-bytes-clause-site : goal.returns-in_err-bytes-clause-site
returns-in_err-bytes-clause-site g c = continued_none _ _ _ _ _

-- ---- the old log isn't shut

pub returns-in_err-shut-clause-made : goal.returns-in_err-shut-clause-made
returns-in_err-shut-clause-made g c t = IfOk-from_err c.from_residual-in_err-shut.result _ c.from_residual-in_err-shut.ensures.0

pub returns-in_err-shut-clause-text : goal.returns-in_err-shut-clause-text
returns-in_err-shut-clause-text g c t = IfOk-from_err c.from_residual-in_err-shut.result _ c.from_residual-in_err-shut.ensures.0

pub returns-in_err-shut-clause-long : goal.returns-in_err-shut-clause-long
returns-in_err-shut-clause-long g c t = IfOk-from_err c.from_residual-in_err-shut.result _ c.from_residual-in_err-shut.ensures.0

pub returns-in_err-shut-clause-cause : goal.returns-in_err-shut-clause-cause
returns-in_err-shut-clause-cause g c is = c.in_err-shut.ensures.cause.rose

pub returns-in_err-shut-clause-stayed : goal.returns-in_err-shut-clause-stayed
returns-in_err-shut-clause-stayed g c other = absurd (other (failed_is c.from_residual-in_err-shut.result c.from_residual-in_err-shut.ensures.1))

pub returns-in_err-shut-clause-never : goal.returns-in_err-shut-clause-never
returns-in_err-shut-clause-never g c = (
  λ is. failed_not_foreign c.from_residual-in_err-shut.result c.from_residual-in_err-shut.ensures.1 is,
  λ place is. failed_not_damaged c.from_residual-in_err-shut.result place c.from_residual-in_err-shut.ensures.1 is,
)

pub returns-in_err-shut-clause-untouched : goal.returns-in_err-shut-clause-untouched
returns-in_err-shut-clause-untouched g c is = absurd (failed_not_memory c.from_residual-in_err-shut.result c.from_residual-in_err-shut.ensures.1 is)

pub returns-in_err-shut-clause-only : goal.returns-in_err-shut-clause-only
returns-in_err-shut-clause-only g c = c.shut.ensures.only

pub returns-in_err-shut-clause-reads : goal.returns-in_err-shut-clause-reads
returns-in_err-shut-clause-reads g c = c.shut.ensures.reads

pub returns-in_err-shut-clause-few : goal.returns-in_err-shut-clause-few
returns-in_err-shut-clause-few g c = c.shut.ensures.few

pub returns-in_err-shut-clause-site : goal.returns-in_err-shut-clause-site
returns-in_err-shut-clause-site g c = c.shut.ensures.site

-- ---- the new one isn't written

pub returns-in_err-write_gated-clause-made : goal.returns-in_err-write_gated-clause-made
returns-in_err-write_gated-clause-made g c t = IfOk-from_err c.from_residual-in_err-write_gated.result _ c.from_residual-in_err-write_gated.ensures.0

pub returns-in_err-write_gated-clause-text : goal.returns-in_err-write_gated-clause-text
returns-in_err-write_gated-clause-text g c t = IfOk-from_err c.from_residual-in_err-write_gated.result _ c.from_residual-in_err-write_gated.ensures.0

pub returns-in_err-write_gated-clause-long : goal.returns-in_err-write_gated-clause-long
returns-in_err-write_gated-clause-long g c t = IfOk-from_err c.from_residual-in_err-write_gated.result _ c.from_residual-in_err-write_gated.ensures.0

pub returns-in_err-write_gated-clause-cause : goal.returns-in_err-write_gated-clause-cause
returns-in_err-write_gated-clause-cause g c is = rose_behind _ _ _
    (omega (arith, c.in_ok-shut.ensures.cause.stayed)) c.in_err-write_gated.ensures.cause.rose

pub returns-in_err-write_gated-clause-stayed : goal.returns-in_err-write_gated-clause-stayed
returns-in_err-write_gated-clause-stayed g c other = absurd (other (failed_is c.from_residual-in_err-write_gated.result c.from_residual-in_err-write_gated.ensures.1))

pub returns-in_err-write_gated-clause-never : goal.returns-in_err-write_gated-clause-never
returns-in_err-write_gated-clause-never g c = (
  λ is. failed_not_foreign c.from_residual-in_err-write_gated.result c.from_residual-in_err-write_gated.ensures.1 is,
  λ place is. failed_not_damaged c.from_residual-in_err-write_gated.result place c.from_residual-in_err-write_gated.ensures.1 is,
)

pub returns-in_err-write_gated-clause-untouched : goal.returns-in_err-write_gated-clause-untouched
returns-in_err-write_gated-clause-untouched g c is = absurd (failed_not_memory c.from_residual-in_err-write_gated.result c.from_residual-in_err-write_gated.ensures.1 is)

pub returns-in_err-write_gated-clause-reads : goal.returns-in_err-write_gated-clause-reads
returns-in_err-write_gated-clause-reads g c = reads_then 0 _ _ _ _ _ _ c.write_gated.ensures.reads c.shut.ensures.reads

pub returns-in_err-write_gated-clause-few : goal.returns-in_err-write_gated-clause-few
returns-in_err-write_gated-clause-few g c = few_then 0 _ _ _ _ c.write_gated.ensures.reads _ c.shut.ensures.few

pub returns-in_err-write_gated-clause-site : goal.returns-in_err-write_gated-clause-site
returns-in_err-write_gated-clause-site g c = continued_both _ _ _ _ _ _ _ c.shut.ensures.site c.write_gated.ensures.site

-- ---- it is made

pub returns-clause-reads : goal.returns-clause-reads
returns-clause-reads g c = reads_then 0 _ _ _ _ _ _ c.write_gated.ensures.reads c.shut.ensures.reads

pub returns-clause-few : goal.returns-clause-few
returns-clause-few g c = few_then 0 _ _ _ _ c.write_gated.ensures.reads _ c.shut.ensures.few

pub returns-clause-site : goal.returns-clause-site
returns-clause-site g c = continued_both _ _ _ _ _ _ _ c.shut.ensures.site c.write_gated.ensures.site
