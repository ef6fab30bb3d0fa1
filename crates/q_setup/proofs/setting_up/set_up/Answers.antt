use Rattle.std.proofs.Common.{◌≡◌, ◌∙◌, ℕ, IfOk, [], ap, ap₂, length, subst, sym, true}
use Rattle.q_model.specs.Settings.{DeviceSettings}
use Rattle.q_model.specs.Step.{counts_at}
use Rattle.q_script.specs.Script.{lines_of}
use Rattle.q_setup.specs.Anew.{IsTrial}
use Rattle.q_setup.specs.SetUp.{IsSetUp, wanted}
use Rattle.q_setup.specs.Tried.{Tried, tried}
use Rattle.q_setup.specs.Trying.{seen}
use Rattle.q_setup.proofs.ReportLemmas.{none_in, set_up_where}
use Rattle.q_setup.proofs.TriedLemmas.{is_trial, lines-all}
use Rattle.q_setup.proofs.setting_up.set_up.Goals as goal

pub returns-then-not-is_empty-clause-number : goal.returns-then-not-is_empty-clause-number
returns-then-not-is_empty-clause-number c =
    c.not_begun.ensures.lines ∙ ap (λ (t : Tried). t.lines) c.in_ok-trial.ensures ∙ lines-all c.settings.result c.args.text.now c.counted_at.result

pub returns-clause-number : goal.returns-clause-number
returns-clause-number c =
    let all : c.in_ok-trial.trial.lines ≡ length (lines_of c.args.text.now) =
    ap (λ (t : Tried). t.lines) c.in_ok-trial.ensures ∙ lines-all c.settings.result c.args.text.now c.counted_at.result in
    subst (λ (k : ℕ). IfOk c.made.result (λ r. r.lines ≡ k)) all c.made.ensures.lines

pub made-requires : goal.made-requires
made-requires c =
    let t = seen c.in_ok-trial.trial in
    record {
      trial = subst (λ (s : DeviceSettings). IsTrial s (counts_at c.args.now c.args.device.now.device) t) c.settings.ensures
          (subst (λ (at : ℕ). IsTrial c.settings.result at t) c.counted_at.ensures
          (subst (IsTrial c.settings.result c.counted_at.result) (sym c.in_ok-trial.ensures) (is_trial c.settings.result c.args.text.now c.counted_at.result)));
    }

pub returns-clause-set_up : goal.returns-clause-set_up
returns-clause-set_up c =
    let is : seen c.in_ok-trial.trial ≡ wanted c.args.device.now c.args.text.now c.args.now =
    c.in_ok-trial.ensures ∙ ap₂ (λ (s : DeviceSettings) (at : ℕ). tried s c.args.text.now at) c.settings.ensures c.counted_at.ensures in
    let all : c.in_ok-trial.trial.undone.items ≡ [] =
    sym c.as_slice.ensures.value ∙ none_in c.as_slice.result.now (sym c.is_empty.ensures ∙ c.if-not-is_empty.false) in
    subst (λ (t : Tried). IfOk c.made.result (λ r. r.is_set_up ≡ true → IsSetUp t r.refusal c.made.new.device)) is
    (set_up_where c.made.result (seen c.in_ok-trial.trial) c.made.new.device all c.made.ensures.told c.made.ensures.alike)
