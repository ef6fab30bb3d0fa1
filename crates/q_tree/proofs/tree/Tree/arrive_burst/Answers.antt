use Rattle.std.proofs.Common.{◌≡◌, ◌≤◌, ◌∙◌, List, length, map, sym, ap, subst, arith}
use Rattle.std.specs.Prelude.{take}
use Rattle.std.proofs.lemmas.List.{length-map, length-take, length-take-le}
use Rattle.q_packet.specs.Descriptor.{Descriptor}
use Rattle.q_packet.specs.Stored.{descriptor}
use Rattle.q_model.specs.declared.totals.Totals.{Totals}
use Rattle.q_model.specs.Beneath.{totals_in}
use Rattle.q_model.specs.Step.{DeviceState}
use Rattle.q_tree.specs.Bursts.{AreKept, arrived_each, with_arrivals}
use Rattle.q_tree.specs.Kept.{Kept, kept}
use Rattle.q_tree.specs.declared.tree.Tree.TheInside.{Inside}
use Rattle.q_tree.proofs.arrival.BurstArrivals.{IsBurst, burst-came, bytes-bound, came-all, long-each}
use Rattle.q_tree.proofs.tree.Tree.arrive_burst.Goals as goal
use Rattle.q_tree.proofs.tree.Tree.arrive_burst.Goals.{After-book_arrivals}
use Rattle.q_tree.proofs.TreeLemmas.{top-row}

pub book_arrivals-requires-clause-balanced : goal.book_arrivals-requires-clause-balanced
book_arrivals-requires-clause-balanced c = (top-row c.self.inside c.self.invariant.device).balanced

pub book_arrivals-requires-clause-bytes : goal.book_arrivals-requires-clause-bytes
book_arrivals-requires-clause-bytes c =
    let n = c.keep_burst-kept.result.packets in
    omega (
      arith,
      c.requires.bytes,
      ap (λ (d : DeviceState Kept). d.tree.top.counts.arrived.bytes) c.self.view_is,
      ap (λ (t : Totals). t.bytes) c.keep_burst-kept.ensures.totals,
      bytes-bound (take n c.args.packets.now) c.keep_burst-kept.ensures.widths,
      length-take n c.args.packets.now,
    )

-- the packets that came
abbrev came : After-book_arrivals → List Descriptor
came c = map descriptor (take c.keep_burst-kept.result.packets c.args.packets.now)

abbrev after : After-book_arrivals → Inside
after c = record c.self.inside { clock = c.args.now; top = c.book_arrivals.new.row; root = c.keep_burst-kept.new.self }

burst : (c : After-book_arrivals) → IsBurst c.args.now (came c) c.self.inside (after c)
burst c =
    let a : Inside = c.self.inside in
    let now = c.args.now in
    let n = c.keep_burst-kept.result.packets in
    let cs = take n c.args.packets.now in
    let ps : List Descriptor = came c in
    let made = c.keep_burst-kept.ensures in
    let seen_packets = ap (λ (d : DeviceState Kept). d.tree.top.counts.arrived.packets) c.self.view_is in
    let seen_bytes = ap (λ (d : DeviceState Kept). d.tree.top.counts.arrived.bytes) c.self.view_is in
    let counted : length ps ≡ n = length-map cs descriptor ∙ length-take-le n c.args.packets.now made.most in
    let some : 1 ≤ length ps = omega (arith, counted, c.if-kept-eq0.false) in
    let each = burst-came now ps a c.self.invariant (omega (arith, ap (λ (d : DeviceState Kept). d.clock) c.self.view_is, c.requires.order)) (omega (arith, c.ns.ensures.in_range, c.ns.ensures.value))
    (long-each a.mtu cs made.taken) (omega (arith, c.requires.packets, seen_packets, counted, made.most))
    (omega (arith, c.requires.bytes, seen_bytes, bytes-bound cs made.widths, length-take n c.args.packets.now))
    (omega (arith, counted, made.room)) (made.alone (omega (arith, c.if-kept-eq0.false))) in
    let row : c.book_arrivals.new.row ≡ with_arrivals (totals_in ps) a.top = c.book_arrivals.ensures ∙ ap (λ (t : Totals). with_arrivals t a.top) made.totals in
    subst (IsBurst now ps a) (came-all now ps a some ∙ (λ i. record a { clock = now; top = sym row i; root = sym made.after i })) each

pub invariant_of-self-2 : goal.invariant_of-self-2
invariant_of-self-2 c = (burst (goal.at.invariant_of-self-2 c).After-book_arrivals).indexed

pub returns-clause-after : goal.returns-clause-after
returns-clause-after c =
    let d = (goal.at.returns-clause-after c).After-book_arrivals in
    (burst d).after ∙ ap (λ (x : DeviceState Kept). arrived_each kept c.args.now (came d) x) c.self.view_is

pub returns-clause-kept : goal.returns-clause-kept
returns-clause-kept c =
    let d = (goal.at.returns-clause-kept c).After-book_arrivals in
    subst (λ (x : DeviceState Kept). AreKept kept c.args.now (came d) x) c.self.view_is (burst d).each
