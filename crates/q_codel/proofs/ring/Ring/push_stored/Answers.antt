use Rattle.std.proofs.Common.{◌≡◌, ◌%◌, ℕ, List, [], ◌∷◌, ◌++◌, length, ap, ap₂, arith, length-set, subst, ◌∙◌}
use Rattle.q_packet.specs.declared.stamped.Stamped.{Stamped}
use Rattle.q_packet.specs.Descriptor.{Descriptor}
use Rattle.q_codel.specs.Ring.{RingState, IsPower}
use Rattle.q_codel.proofs.RingLemmas.{power, put_ring, put_packets, has_room}
use Rattle.q_codel.proofs.ring.Ring.push_stored.Goals as goal

pub cell_of-cell-requires : goal.cell_of-cell-requires
cell_of-cell-requires c =
    let r = c.self.inside in
    let room = has_room r.cells.items r.first r.next c.args.self.now c.self.view_is c.requires.place in
    let places : length r.cells.items ≡ c.len.result = omega (arith, c.len.ensures, r.cells.ok.0) in
    subst (λ (n : ℕ). IsPower n) places (power r.cells.items r.first r.next c.self.invariant (omega arith))

pub invariant_of-self : goal.invariant_of-self
invariant_of-self c =
    let r = c.self.inside in
    let room = has_room r.cells.items r.first r.next c.args.self.now c.self.view_is c.requires.place in
    let places : c.len.result ≡ length r.cells.items = omega (arith, c.len.ensures, r.cells.ok.0) in
    let cell : c.cell_of-cell.result ≡ r.next % length r.cells.items = c.cell_of-cell.ensures.value ∙ ap (λ (n : ℕ). r.next % n) places in
    put_ring r.cells.items r.first r.next c.self.invariant (omega arith) (omega arith) _ c.cell_of-cell.result room (omega (arith, r.cells.ok)) cell

pub returns : goal.returns
returns c =
    let r = c.self.inside in
    let room = has_room r.cells.items r.first r.next c.args.self.now c.self.view_is c.requires.place in
    let places : c.len.result ≡ length r.cells.items = omega (arith, c.len.ensures, r.cells.ok.0) in
    let cell : c.cell_of-cell.result ≡ r.next % length r.cells.items = c.cell_of-cell.ensures.value ∙ ap (λ (n : ℕ). r.next % n) places in
    let x : Stamped = record { packet = c.kept.result; at = c.args.at } in
    let packets = put_packets r.cells.items r.first r.next c.self.invariant (omega arith) (omega arith) x c.cell_of-cell.result room (omega (arith, r.cells.ok)) cell in
    ap₂ (λ (p : List Stamped) (n : ℕ). record { packets = p; places = n })
    (packets ∙ ap₂ (λ (l : List Stamped) (d : Descriptor). l ++ record { packet = d; at = c.args.at } ∷ []) (ap (λ (s : RingState). s.packets) c.self.view_is) c.kept.ensures)
    (length-set r.cells.items c.cell_of-cell.result x ∙ ap (λ (s : RingState). s.places) c.self.view_is)
