use Rattle.std.proofs.Common.{◌∙◌, ◌-◌, ◌++◌, ◌∷◌, [], List, length, ap, ap₂, arith}
use Rattle.std.proofs.lemmas.List.{length-append, length-drop}
use Rattle.q_model.specs.declared.event.Event.{Event}
use Rattle.q_device.specs.log.LastNoted.{with_noted}
use Rattle.q_device.proofs.log.last_events.LastEvents.note.Goals as goal

pub push_last-requires-clause-within : goal.push_last-requires-clause-within
push_last-requires-clause-within c = omega (arith, c.self.invariant.length_is)

pub invariant_of-self : goal.invariant_of-self
invariant_of-self c =
    let a = c.self.inside in
    let k = c.self.invariant in
    let all = a.events.items ++ c.args.event ∷ [] in
    record {
      length_is = omega (
        arith,
        k.length_is,
        k.fits,
        c.saturating_add-self-inside.ensures,
        ap (λ (xs : List Event). length xs) c.push_last.ensures.items,
        length-append a.events.items (c.args.event ∷ []),
        length-drop (length all - a.places) all,
      );
      fits = k.fits;
      capacity = omega (arith, k.capacity, c.push_last.ensures.capacity);
    }

pub returns : goal.returns
returns c =
    let a = c.self.inside in
    ap₂ (λ n (xs : List Event). record { places = a.places; noted = n; events = xs }) c.saturating_add-self-inside.ensures c.push_last.ensures.items
    ∙ ap (with_noted c.args.event) c.self.view_is
