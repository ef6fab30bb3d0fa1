use Rattle.std.proofs.Common.{◌∙◌, List, map, sym, ap, subst}
use Rattle.q_ports.specs.Driven.{packets_of, AreBack}
use Rattle.q_ports.specs.Placed.{PortSeen, ring_of_port}
use Rattle.q_ports.proofs.DriveTurnLemmas.{no-turns-at-all, shows-turns}
use Rattle.q_ports.proofs.DriveLemmas.{back-again, none-sent, sent-back}
use Rattle.q_ports.proofs.driving.drive.Goals as goal

pub returns-in_default-clause-back : goal.returns-in_default-clause-back
returns-in_default-clause-back g c =
    let before = c.args.ports.items in
    let loads = map packets_of c.args.loads.items in
    subst (λ (ps : List PortSeen). AreBack c.args.tries before loads ps) (sym c.unsettled.ensures.ports) (none-sent c.args.tries before loads)

pub returns-in_default-clause-turned : goal.returns-in_default-clause-turned
returns-in_default-clause-turned g c =
    shows-turns c.args.start c.args.step c.args.drain c.args.drain c.unsettled.result.drain.board
    (no-turns-at-all c.args.start c.args.step c.args.drain) c.unsettled.ensures.board

pub unsettled-requires-then-not-all_ran : goal.unsettled-requires-then-not-all_ran
unsettled-requires-then-not-all_ran g c =
    let ran = c.run-drain in
    let back = c.give_back-given_up in
    back-again c.args.tries c.args.ports.items (map packets_of c.args.loads.items) ran.result.1.items back.new.back.items c.args.drain.rings
    ran.result.0.rings ran.ensures.drove back.ensures.ports c.requires.ports ran.ensures.rings

pub returns-then-not-all_ran-clause-again : goal.returns-then-not-all_ran-clause-again
returns-then-not-all_ran-clause-again g c =
    let ran = c.run-drain in
    let back = c.give_back-given_up in
    ap (λ (ps : List PortSeen). map ring_of_port ps) c.unsettled-then-not-all_ran.ensures.ports
    ∙ (back-again c.args.tries c.args.ports.items (map packets_of c.args.loads.items) ran.result.1.items back.new.back.items c.args.drain.rings
    ran.result.0.rings ran.ensures.drove back.ensures.ports c.requires.ports ran.ensures.rings
    ∙ sym c.unsettled-then-not-all_ran.ensures.rings)

pub returns-then-not-all_ran-clause-back : goal.returns-then-not-all_ran-clause-back
returns-then-not-all_ran-clause-back g c =
    let before = c.args.ports.items in
    let loads = map packets_of c.args.loads.items in
    subst (λ (ps : List PortSeen). AreBack c.args.tries before loads ps) (sym c.unsettled-then-not-all_ran.ensures.ports)
    (sent-back c.args.tries before loads c.run-drain.result.1.items c.give_back-given_up.new.back.items c.run-drain.ensures.drove.each c.give_back-given_up.ensures.ports)

pub settle-requires-clause-ports : goal.settle-requires-clause-ports
settle-requires-clause-ports g c =
    let ran = c.run-drain in
    let back = c.give_back-given_up in
    back-again c.args.tries c.args.ports.items (map packets_of c.args.loads.items) ran.result.1.items back.new.back.items c.args.drain.rings
    ran.result.0.rings ran.ensures.drove back.ensures.ports c.requires.ports ran.ensures.rings

pub returns-in-Err-clause-again : goal.returns-in-Err-clause-again
returns-in-Err-clause-again g c =
    let ran = c.run-drain in
    let back = c.give_back-given_up in
    ap (λ (ps : List PortSeen). map ring_of_port ps) c.in-Err.ensures.ports
    ∙ (back-again c.args.tries c.args.ports.items (map packets_of c.args.loads.items) ran.result.1.items back.new.back.items c.args.drain.rings
    ran.result.0.rings ran.ensures.drove back.ensures.ports c.requires.ports ran.ensures.rings
    ∙ sym c.in-Err.ensures.rings)

pub returns-in-Err-clause-back : goal.returns-in-Err-clause-back
returns-in-Err-clause-back g c =
    let before = c.args.ports.items in
    let loads = map packets_of c.args.loads.items in
    subst (λ (ps : List PortSeen). AreBack c.args.tries before loads ps) (sym c.in-Err.ensures.ports)
    (sent-back c.args.tries before loads c.run-drain.result.1.items c.give_back-given_up.new.back.items c.run-drain.ensures.drove.each c.give_back-given_up.ensures.ports)
