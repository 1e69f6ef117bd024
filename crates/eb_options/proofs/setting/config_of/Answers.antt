use Rattle.std.proofs.Common.{◌≡◌, ◌∙◌, sym, ap, cond, Some, None, Bool, Ok, Err}
use Rattle.eb_base.specs.Setting.{Setting}
use Rattle.eb_base.specs.declared.config.ConfigFault.{ConfigFault}
use Rattle.eb_options.proofs.SettingNumbers.{nothing_refused, something_refused}
use Rattle.eb_options.proofs.setting.config_of.Goals as goal

not_err : (σ : Setting) (f : ConfigFault) → Ok σ ≡ Err f → ⊥
not_err σ f h = cc

pub returns-in-Ok : goal.returns-in-Ok
returns-in-Ok c =
    let e = c.in-Ok.ensures in
    let config = c.in-Ok.config in
    let σ : Setting = record { segments = c.args.segments; docs = c.args.docs; terms = c.args.terms } in
    ap (λ (s : Setting). Some s) e.ok ∙ sym (ap (λ (b : Bool). cond b (Some σ) None)
    (nothing_refused σ (λ h. not_err config _ (e.segments.1 h)) (λ h. not_err config _ (e.docs.1 h)) (λ h. not_err config _ (e.terms.1 h)) (λ h. not_err config _ (e.words.1 h))))

pub returns-in-Err : goal.returns-in-Err
returns-in-Err c =
    let e = c.in-Err.ensures in
    let σ : Setting = record { segments = c.args.segments; docs = c.args.docs; terms = c.args.terms } in
    sym (ap (λ (b : Bool). cond b (Some σ) None)
    (something_refused σ c.in-Err.field-0 (λ h. e.segments.0 (ap Err h)) (λ h. e.docs.0 (ap Err h)) (λ h. e.terms.0 (ap Err h)) (λ h. e.words.0 (ap Err h))))
