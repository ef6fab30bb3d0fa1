use Rattle.std.proofs.Common.{◌≡◌, ◌∙◌, ◌++◌, ◌∷◌, [], List, length, map, sym, ap, subst, arith}
use Rattle.std.proofs.lemmas.List.{append_assoc, nil_from_length}
use Rattle.std.proofs.lemmas.List.Elements.{All-cons}
use Rattle.std.proofs.lemmas.List.Sums.{sum_by-cons}
use Rattle.std.specs.Prelude.{All, sum_by}
use Rattle.std.specs.Vec.Iter.{into_iter_items}
use Rattle.q_ports.specs.declared.sender.Sent.{Sent}
use Rattle.q_ports.specs.Placed.{PortSeen}
use Rattle.q_ports.specs.Driven.{port_in, rest_of, HasRun}
use Rattle.q_ports.proofs.driving.give_back.Goals as goal

pub loop-sender-preserved : goal.loop-sender-preserved
loop-sender-preserved c =
    let inv = c.loop-sender.invariant in
    let one = c.in-Some.sender in
    let left = into_iter_items c.next.new.self in
    let steps = c.in-Some.ensures.steps.0 in
    let back = c.loop-sender.back.items in
    let more = ap (λ (senders : List Sent). sum_by rest_of senders) steps ∙ sum_by-cons rest_of one left in
    record {
      ports =
          ap (λ (ports : List PortSeen). ports ++ map port_in left) c.push_reserved.ensures.items
          ∙ (append_assoc back (one.port ∷ []) (map port_in left)
          ∙ (ap (λ (senders : List Sent). back ++ map port_in senders) (sym steps) ∙ inv.ports));
      rest = omega (arith, more, inv.rest, inv.small, c.saturating_add-given_up.ensures);
      ran =
          λ both rest.
          let ran = c.both-all_ran.ensures both in
          inv.ran ran.0 (subst (λ (senders : List Sent). All HasRun senders) (sym steps) (All-cons HasRun one left ran.1 rest));
      small = omega (arith, c.saturating_add-given_up.ensures);
      room = omega (arith, inv.room, ap (λ (senders : List Sent). length senders) steps, c.push_reserved.ensures.len, c.push_reserved.ensures.capacity);
    }

pub returns-clause-given_up : goal.returns-clause-given_up
returns-clause-given_up c =
    let inv = c.loop-sender.invariant in
    let left : into_iter_items c.loop-sender.sender-iterator ≡ [] = nil_from_length (into_iter_items c.loop-sender.sender-iterator) (omega (arith, c.in-None.ensures.steps.0)) in
    let none : sum_by rest_of (into_iter_items c.loop-sender.sender-iterator) ≡ 0 = ap (λ (senders : List Sent). sum_by rest_of senders) left in
    omega (arith, none, inv.rest, inv.small)
