use Rattle.std.proofs.Common.{◌∙◌, ◌++◌, ◌∷◌, List, [], map, sym, ap, rules}
use Rattle.std.proofs.lemmas.List.Elements.{All-push, All-same}
use Rattle.std.specs.Prelude.{Vec}
use Rattle.std.specs.Vec.Iter.{into_iter_items}
use Rattle.std.specs.declared.alloc.Global.{Global}
use Rattle.q_packet.specs.Descriptor.{Descriptor}
use Rattle.q_ports.specs.Driven.{packets_of, promised_load, promised_port, HasKept}
use Rattle.q_ports.specs.Placed.{PortSeen}
use Rattle.q_ports.proofs.DriveLemmas.{moved}
use Rattle.q_ports.proofs.driving.start_all.Goals as goal

pub loop-port-preserved : goal.loop-port-preserved
loop-port-preserved g c =
    let old = c.loop-port.started.items in
    let new = c.push_reserved.new.self.items in
    let one = c.start.result in
    let at = c.loop-port.invariant in
    let pushed = c.push_reserved.ensures in
    let ports = into_iter_items c.next.new.self in
    let loads = map packets_of (into_iter_items c.next-in-loop-port.new.self) in
    record {
      ports =
          moved promised_port old new one (into_iter_items c.loop-port.port-iterator) ports c.args.ports.items pushed.items
          (c.in-Some.ensures.steps.0 ∙ ap (λ (p : PortSeen). p ∷ ports) (sym c.start.ensures.port)) at.ports;
      loads =
          moved promised_load old new one (map packets_of (into_iter_items c.loop-port.loads)) loads (map packets_of c.args.loads.items) pushed.items
          (ap (λ (ls : List (Vec Descriptor Global)). map packets_of ls) c.in-Some-next.ensures.items ∙ ap (λ (l : List Descriptor). l ∷ loads) (sym c.start.ensures.load)) at.loads;
      kept = All-same (HasKept c.args.tries) new (old ++ one ∷ []) pushed.items (All-push (HasKept c.args.tries) old one at.kept c.start.ensures.kept);
      same = search rules;
      room = search rules;
    }
