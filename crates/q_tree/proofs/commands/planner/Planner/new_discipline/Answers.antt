use Rattle.std.proofs.Common.{◌∙◌, sym, ap, subst, refl, replicate, None}
use Rattle.q_fqcodel.specs.FqState.{first_state}
use Rattle.q_model.specs.Make.{Device, implicit_pfifo, made, with_options}
use Rattle.q_model.specs.Node as spec
use Rattle.q_model.specs.Options.{PrioSettings}
use Rattle.q_invariants.proofs.tree.Forests.{nodes-side}
use Rattle.q_tree.specs.declared.node.Discipline.TheVariants.{Prio, FqCodel}
use Rattle.q_tree.specs.commands.Making.{AreNew, IsNewDiscipline}
use Rattle.q_tree.specs.commands.Planning.{device_of}
use Rattle.q_tree.proofs.commands.planner.Planner.new_discipline.Goals as goal

pub returns-in-Prio-clause-new : goal.returns-in-Prio-clause-new
returns-in-Prio-clause-new c =
    let d : Device = device_of c.args.self.now in
    let leaf = implicit_pfifo d in
    subst (λ k. IsNewDiscipline (Prio c.options.inside.priomap c.in_ok-bands-in-Prio.bands) (made d c.args.self.now.moment None k)) (sym c.in-Prio.is) (record {
      discipline = ap (λ (o : PrioSettings). spec.Prio o.priomap) c.options.view_is;
      places = refl;
      leaves = subst (λ xs. AreNew c.in_ok-bands-in-Prio.bands.items xs) (sym (nodes-side (replicate c.in-Prio.options.bands leaf)))
          (subst (λ k. AreNew c.in_ok-bands-in-Prio.bands.items (replicate k leaf)) (c.from.ensures ∙ ap (λ (o : PrioSettings). o.bands) c.options.view_is) c.in_ok-bands-in-Prio.ensures.new);
    })

pub returns-in-FqCodel-clause-new : goal.returns-in-FqCodel-clause-new
returns-in-FqCodel-clause-new c =
    let d : Device = device_of c.args.self.now in
    subst (λ k. IsNewDiscipline (FqCodel c.in_ok-new_queue-in-FqCodel.field-0) (made d c.args.self.now.moment None k)) (sym c.in-FqCodel.is) (record {
      discipline = ap spec.FqCodel (c.in_ok-new_queue-in-FqCodel.ensures.state ∙ ap first_state (c.with_options-settings.ensures ∙ ap (with_options c.in-FqCodel.options) c.defaults.ensures));
      places = c.in_ok-new_queue-in-FqCodel.ensures.places;
      leaves = refl;
    })
