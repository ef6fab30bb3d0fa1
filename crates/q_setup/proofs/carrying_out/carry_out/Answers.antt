use Rattle.std.proofs.Common.{◌≡◌, ◌∙◌, List, [], ap, sym, subst, take, not, arith}
use Rattle.std.proofs.lemmas.Bool.{false≢true}
use Rattle.std.proofs.lemmas.List.{take_all}
use Rattle.q_model.specs.declared.command.Command.{Command}
use Rattle.q_model.specs.Step.{DeviceState}
use Rattle.q_model.specs.Tally.{Counts}
use Rattle.q_device.specs.device.DeviceSeen.{DeviceSeen}
use Rattle.q_setup.specs.Alike.{AreAlike, entries}
use Rattle.q_setup.specs.Done.{AreAccepted, after_commands}
use Rattle.q_setup.specs.Trying.{seen}
use Rattle.q_setup.proofs.RebuiltLemmas.{accepted_both, after-both, trial_then}
use Rattle.q_setup.proofs.carrying_out.carry_out.Goals as goal

-- what was planned is done, as far as the list says
planned : (c : goal.After-rebuild) → c.do_commands-done.new.device ≡ record (after_commands c.args.now c.truncate.new.self.items c.args.device.now) { memory = c.do_commands-done.new.device.memory }
planned c =
    c.do_commands-done.ensures.after
    ∙ ap (λ (xs : List Command). record (after_commands c.args.now xs c.args.device.now) { memory = c.do_commands-done.new.device.memory })
    (ap (take c.do_commands-done.result.0) c.deref.ensures.value ∙ sym c.truncate.ensures.items)

pub rebuild-requires-clause-trial : goal.rebuild-requires-clause-trial
rebuild-requires-clause-trial c =
    trial_then c.args.now (take c.do_commands-done.result.0 c.deref.result.now) c.args.device.now c.do_commands-done.new.device
    (seen c.args.trial.now) c.do_commands-done.ensures.after c.requires.trial

pub returns-clause-commands : goal.returns-clause-commands
returns-clause-commands c =
    after-both c.args.now c.truncate.new.self.items c.rebuild.new.commands.items c.args.device.now c.do_commands-done.new.device c.rebuild.new.device (planned c) c.rebuild.ensures.commands

pub returns-clause-accepted : goal.returns-clause-accepted
returns-clause-accepted c =
    accepted_both c.args.now c.truncate.new.self.items c.rebuild.new.commands.items c.args.device.now c.do_commands-done.new.device c.rebuild.new.device (planned c) c.rebuild.ensures.commands
    (subst (λ (xs : List Command). AreAccepted c.args.now xs c.args.device.now)
    (ap (take c.do_commands-done.result.0) c.deref.ensures.value ∙ sym c.truncate.ensures.items) c.do_commands-done.ensures.accepted)

-- where nothing is planned nothing was done, and so a tree that was alike is alike
not_alike : (c : goal.After-rebuild)
    → AreAlike (not c.args.trial.now.names_chosen) (entries c.args.trial.now.device.device.tree) (entries c.args.device.now.device.tree)
    → c.args.commands.now.items ≡ [] → ⊥
not_alike c alike none =
    let nothing : take c.do_commands-done.result.0 [] ≡ [] = take_all c.do_commands-done.result.0 [] (omega arith) in
    let device : c.do_commands-done.new.device.device ≡ c.args.device.now.device =
    ap (λ (d : DeviceSeen). d.device) c.do_commands-done.ensures.after
    ∙ ap (λ (xs : List Command). (after_commands c.args.now xs c.args.device.now).device) (ap (take c.do_commands-done.result.0) (c.deref.ensures.value ∙ none) ∙ nothing) in
    false≢true (sym c.if-is_made.false ∙ c.is_made.ensures.told
    (subst (λ (d : DeviceState Counts). AreAlike (not c.args.trial.now.names_chosen) (entries c.args.trial.now.device.device.tree) (entries d.tree)) (sym device) alike))

pub returns-clause-nothing : goal.returns-clause-nothing
returns-clause-nothing c alike none = absurd (not_alike c alike none)

pub returns-clause-done : goal.returns-clause-done
returns-clause-done c alike none = absurd (not_alike c alike none)
