use Rattle.std.proofs.Common.{◌≡◌, ◌∙◌, ℕ, List, length, refl, sym, ap, ap₂, subst, arith}
use Rattle.std.specs.Prelude.{take}
use Rattle.std.proofs.lemmas.List.{length-take-le}
use Rattle.q_packet.specs.Descriptor.{Descriptor}
use Rattle.q_model.specs.declared.totals.Totals.{Totals}
use Rattle.q_model.specs.Beneath.{packets_in, totals_in}
use Rattle.q_model.specs.Step.{DeviceState}
use Rattle.q_tree.specs.Bursts.{AreGiven, polled_each, with_sends}
use Rattle.q_tree.specs.departure.GiveSteps.{CanGive}
use Rattle.q_tree.specs.Kept.{Kept, kept}
use Rattle.q_tree.specs.declared.tree.Tree.TheInside.{Inside}
use Rattle.q_tree.proofs.departure.BurstSends.{IsSentBurst, heads-sent, heads-within, went-all}
use Rattle.q_tree.proofs.tree.Tree.send_burst.Given.{Over}
use Rattle.q_tree.proofs.tree.Tree.send_burst.Goals as goal
use Rattle.q_tree.proofs.tree.Tree.send_burst.Goals.{After-book_sends, After-send_heads-sent}
use Rattle.q_tree.proofs.TreeLemmas.{top-row}

pub book_sends-requires-clause-balanced : goal.book_sends-requires-clause-balanced
book_sends-requires-clause-balanced g c = (top-row c.self.inside c.self.invariant.device).balanced

pub book_sends-requires-clause-packets : goal.book_sends-requires-clause-packets
book_sends-requires-clause-packets g c =
    omega (
      arith,
      (heads-within c.self.inside c.self.invariant c.send_heads-sent.result.packets
          (c.send_heads-sent.ensures.head (omega (arith, c.if-sent-eq0.false)))).packets,
      ap (λ (t : Totals). t.packets)
          c.send_heads-sent.ensures.totals,
    )

pub book_sends-requires-clause-bytes : goal.book_sends-requires-clause-bytes
book_sends-requires-clause-bytes g c =
    omega (
      arith,
      (heads-within c.self.inside c.self.invariant c.send_heads-sent.result.packets
          (c.send_heads-sent.ensures.head (omega (arith, c.if-sent-eq0.false)))).bytes,
      ap (λ (t : Totals). t.bytes) c.send_heads-sent.ensures.totals,
    )

pub book_sends-requires-clause-sent_packets : goal.book_sends-requires-clause-sent_packets
book_sends-requires-clause-sent_packets g c =
    let within = heads-within c.self.inside c.self.invariant c.send_heads-sent.result.packets (c.send_heads-sent.ensures.head (omega (arith, c.if-sent-eq0.false))) in
    omega (arith, within.packets, ap (λ (t : Totals). t.packets) c.send_heads-sent.ensures.totals, (top-row c.self.inside c.self.invariant.device).balanced.packets, c.fit.ensures.packets)

pub book_sends-requires-clause-sent_bytes : goal.book_sends-requires-clause-sent_bytes
book_sends-requires-clause-sent_bytes g c =
    let within = heads-within c.self.inside c.self.invariant c.send_heads-sent.result.packets (c.send_heads-sent.ensures.head (omega (arith, c.if-sent-eq0.false))) in
    omega (arith, within.bytes, ap (λ (t : Totals). t.bytes) c.send_heads-sent.ensures.totals, (top-row c.self.inside c.self.invariant.device).balanced.bytes, c.fit.ensures.bytes)

-- the packets that went
abbrev gone : (g : Over) → After-book_sends g → List Descriptor
gone g c = take c.send_heads-sent.result.packets (packets_in c.self.inside.root.own.discipline)

abbrev after : (g : Over) → After-book_sends g → Inside
after g c = record c.self.inside { clock = c.args.now; top = c.book_sends.new.row; root = c.send_heads-sent.new.self }

counted : (g : Over) (c : After-book_sends g) → length (gone g c) ≡ c.send_heads-sent.result.packets
counted g c = length-take-le c.send_heads-sent.result.packets (packets_in c.self.inside.root.own.discipline) c.send_heads-sent.ensures.queued

burst : (g : Over) (c : After-book_sends g) → IsSentBurst c.args.now (gone g c) c.self.inside (after g c)
burst g c =
    let a : Inside = c.self.inside in
    let now = c.args.now in
    let n = c.send_heads-sent.result.packets in
    let ps : List Descriptor = gone g c in
    let each = heads-sent now n a c.self.invariant (omega (arith, ap (λ (d : DeviceState Kept). d.clock) c.self.view_is, c.requires.order)) (omega (arith, c.ns.ensures.in_range, c.ns.ensures.value))
    (omega (arith, c.fit.ensures.packets)) (omega (arith, c.fit.ensures.bytes)) (c.send_heads-sent.ensures.head (omega (arith, c.if-sent-eq0.false))) in
    let row : c.book_sends.new.row ≡ with_sends (totals_in ps) a.top = c.book_sends.ensures ∙ ap (λ (t : Totals). with_sends t a.top) c.send_heads-sent.ensures.totals in
    subst (IsSentBurst now ps a) (went-all now ps a (omega (arith, counted g c, c.if-sent-eq0.false)) ∙
    (λ i. record a { clock = now; top = sym row i; root = sym c.send_heads-sent.ensures.after i })) each

pub invariant_of-self-2 : goal.invariant_of-self-2
invariant_of-self-2 g c = (burst g (goal.at.invariant_of-self-2 g c).After-book_sends).indexed

pub returns-clause-given : goal.returns-clause-given
returns-clause-given g c =
    let d = (goal.at.returns-clause-given g c).After-book_sends in
    record {
      packets = gone g d;
      counted = counted g d;
      places = c.send_heads-sent.ensures.told;
      given = subst (λ (x : DeviceState Kept). AreGiven kept c.args.now (gone g d) x) c.self.view_is (burst g d).each;
      polled = (burst g d).after ∙ ap₂ (λ (k : ℕ) (x : DeviceState Kept). polled_each kept c.args.now k x) (counted g d) c.self.view_is;
    }

pub returns-then-not-is_a_prio_or_tbf-clause-below : goal.returns-then-not-is_a_prio_or_tbf-clause-below
returns-then-not-is_a_prio_or_tbf-clause-below g c some other can =
    c.if-not-is_a_prio_or_tbf.ensures.others refl c.args.now (subst (λ (d : DeviceState Kept). CanGive c.args.now d.tree.root) (sym c.self.view_is) can)
