use Rattle.std.proofs.Common.{◌∙◌, List, length, map, sym, ap, subst}
use Rattle.std.proofs.lemmas.List.{length-map}
use Rattle.q_packet.specs.Descriptor.{Descriptor}
use Rattle.q_ports.specs.Driven.{packets_of, promised_port, AllOffered}
use Rattle.q_ports.specs.Placed.{PortSeen}
use Rattle.q_ports.proofs.driving.in_scope.Goals as goal

pub returns-clause-drove : goal.returns-clause-drove
returns-clause-drove g c =
    let started = c.start_all-started in
    let sent = c.join_all-sent in
    record {
      count = sent.ensures.count ∙ (sym (length-map started.result.items promised_port) ∙ ap (λ (ps : List PortSeen). length ps) started.ensures.ports);
      each =
          subst (λ (ps : List PortSeen). AllOffered c.args.tries ps (map packets_of c.args.loads.items) sent.result.items) started.ensures.ports
          (subst (λ (ls : List (List Descriptor)). AllOffered c.args.tries (map promised_port started.result.items) ls sent.result.items)
          started.ensures.loads (sent.ensures.each c.args.tries started.ensures.kept));
    }
