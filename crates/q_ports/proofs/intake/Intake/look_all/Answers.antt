use Rattle.std.proofs.Common.{◌≡◌, ◌∙◌, ◌<◌, sym, ap, arith, length, get_or, map, set, List, []}
use Rattle.std.proofs.lemmas.List.{length-map, set-get_or, get_or-map}
use Rattle.q_ports.specs.Placed.{PortSeen, placed_by, ring_of_port}
use Rattle.q_ports.specs.Rings.{ring_id}
use Rattle.q_ports.proofs.SettleLemmas.{beside-ids, beside-more, beside-received, pair-at, pair-length}
use Rattle.q_ports.proofs.intake.Intake.look_all.Goals as goal

pub look_beside-requires : goal.look_beside-requires
look_beside-requires g c =
    let inv = c.loop-at.invariant in
    let ports = c.loop-at.ports.items in
    let same : map ring_of_port ports ≡ map ring_id c.loop-at.self = ap (λ (ps : List PortSeen). map ring_of_port ps) inv.ports ∙ (c.requires ∙ sym inv.rings) in
    let count = ap (λ (ps : List PortSeen). length ps) inv.ports in
    let h : c.loop-at.at < length ports = omega (arith, count, c.args.ports.now.ok.0) in
    record {
      at = omega (arith, h, pair-length ports c.loop-at.self same);
      port = pair-at ports c.loop-at.self c.loop-at.at c.index_mut.result.now same h c.index_mut.ensures.value;
    }

pub loop-at-preserved : goal.loop-at-preserved
loop-at-preserved g c =
    let inv = c.loop-at.invariant in
    let ports = c.loop-at.ports.items in
    let p = c.index_mut.result.now in
    let before = c.loop-at.self in
    let after = c.look_beside.new.self in
    let looked = c.look_beside.ensures.looked in
    let same : map ring_of_port ports ≡ map ring_id before = ap (λ (ps : List PortSeen). map ring_of_port ps) inv.ports ∙ (c.requires ∙ sym inv.rings) in
    let count = ap (λ (ps : List PortSeen). length ps) inv.ports in
    let h : c.loop-at.at < length ports = omega (arith, count, c.args.ports.now.ok.0) in
    let long : c.loop-at.at < length (map placed_by c.args.ports.now.items) = omega (arith, h, count, length-map c.args.ports.now.items placed_by) in
    let here : placed_by p ≡ get_or (map placed_by c.args.ports.now.items) c.loop-at.at [] =
    ap placed_by c.index_mut.ensures.value ∙ (sym (get_or-map placed_by ports c.loop-at.at p [] h) ∙ ap (λ (ps : List PortSeen). get_or (map placed_by ps) c.loop-at.at []) inv.ports) in
    record {
      rings = beside-ids c.loop-at.at before after (placed_by p) looked ∙ inv.rings;
      received = beside-received c.loop-at.at before after (placed_by p) looked ∙ inv.received;
      ports = ap (λ (q : PortSeen). set ports c.loop-at.at q) (c.look_beside.ensures.port ∙ c.index_mut.ensures.value) ∙ (set-get_or ports c.loop-at.at p ∙ inv.ports);
      all = beside-more c.loop-at.at before after (placed_by p) (map placed_by c.args.ports.now.items) looked (omega (arith, h, pair-length ports before same)) long here inv.all;
    }
