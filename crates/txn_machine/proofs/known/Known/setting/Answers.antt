use Rattle.std.proofs.Common.{◌∙◌, ap, sym}
use Rattle.std.specs.Prelude.{unwrap_or, []}
use Rattle.txn_machine.proofs.SettingLemmas.{setting_is}
use Rattle.txn_machine.proofs.known.Known.setting.Goals as goal

pub returns-in-Some : goal.returns-in-Some
returns-in-Some c = c.as_slice.ensures ∙ ap (λ o. unwrap_or o []) c.in-Some.ensures.value ∙ sym
    (setting_is c.args.name.now.0 c.args.self.now [])

pub returns-in-None : goal.returns-in-None
returns-in-None c = ap (λ o. unwrap_or o []) c.in-None.ensures.value ∙ sym
    (setting_is c.args.name.now.0 c.args.self.now [])
