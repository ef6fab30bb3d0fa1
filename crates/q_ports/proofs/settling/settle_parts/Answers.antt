use Rattle.std.proofs.Common.{◌≡◌, ◌∙◌, sym, ap, subst, map, List}
use Rattle.q_packet.specs.Descriptor.{Descriptor}
use Rattle.q_ports.specs.Placed.{placed_by, share_of}
use Rattle.q_ports.specs.Rings.{received_from}
use Rattle.q_ports.specs.Stopped.{Stops}
use Rattle.q_ports.specs.Turned.{DrainSeen}
use Rattle.q_ports.proofs.CollectLemmas.{collects-same}
use Rattle.q_ports.proofs.SettleLemmas.{received-all, received-begins}
use Rattle.q_ports.proofs.settling.settle_parts.Goals as goal

pub returns-in-Err-clause-beginnings : goal.returns-in-Err-clause-beginnings
returns-in-Err-clause-beginnings g c = received-begins c.empty_all.new.self (map placed_by c.args.ports.items) (c.empty_all.ensures.all ∙ c.look_all.ensures.all)

pub returns-clause-share : goal.returns-clause-share
returns-clause-share g c =
    let all : map received_from c.empty_all.new.self ≡ map placed_by c.args.ports.items =
    received-all c.empty_all.new.self c.in-Ok.ensures.empty ∙ (c.empty_all.ensures.all ∙ c.look_all.ensures.all) in
    c.settle.ensures.share ∙ ap (λ (ps : List (List Descriptor)). share_of ps) all

pub returns-clause-arrived : goal.returns-clause-arrived
returns-clause-arrived g c =
    let collected = c.empty_all.ensures.collected in
    let before : map received_from c.look_all.new.self ≡ map received_from c.args.drain.rings = c.look_all.ensures.received ∙ ap (λ (d : DrainSeen). map received_from d.rings) c.drain.view_is in
    let all : map received_from c.empty_all.new.self ≡ map placed_by c.args.ports.items =
    received-all c.empty_all.new.self c.in-Ok.ensures.empty ∙ (c.empty_all.ensures.all ∙ c.look_all.ensures.all) in (
      collected.0,
      collects-same c.args.now (map received_from c.look_all.new.self) (map received_from c.args.drain.rings)
          (map received_from c.empty_all.new.self) (map placed_by c.args.ports.items) c.args.booked.now c.empty_all.new.booked c.settle.new.booked
          collected.0 before all (sym c.settle.ensures.same) collected.1,
    )

pub returns-in-Err-clause-stopped : goal.returns-in-Err-clause-stopped
returns-in-Err-clause-stopped g c =
    let before : map received_from c.look_all.new.self ≡ map received_from c.args.drain.rings = c.look_all.ensures.received ∙ ap (λ (d : DrainSeen). map received_from d.rings) c.drain.view_is in
    let stopped = c.in-Err.ensures.stopped in
    (stopped.0, subst (λ (rs : List (List Descriptor)). Stops c.args.now rs c.empty_all.new.self c.args.booked.now c.empty_all.new.booked stopped.0) before stopped.1)
