use Rattle.std.proofs.Common.{length, set, take, ◌≡◌, ◌∙◌, ℕ, suc, ◌+◌, ◌-◌, ◌++◌, ◌∷◌, [], List, sym, ap, arith, append_assoc, Some, None, ◌⊎◌, ⊎_elim}
use Rattle.std.proofs.lemmas.List.{append-nil}
use Rattle.q_packet.specs.Descriptor.{Descriptor}
use Rattle.q_model.specs.declared.reply.Reply.{Reply}
use Rattle.q_model.specs.declared.reply.Reply.TheVariants as reply
use Rattle.q_device.specs.declared.given.Given.{Given}
use Rattle.q_device.specs.declared.given.Given.TheVariants as given
use Rattle.q_device.specs.device.Giving.{polled_in}
use Rattle.q_device.specs.device.Polls.{given_at, given_by, polled_by}
use Rattle.q_device.specs.Laws.{given_in}
use Rattle.q_device.proofs.PollLemmas.{given-more, given-none, poll-is, polled-more, polled-none}
use Rattle.q_ports.proofs.SentPlaces.{cut-off, written-there}
use Rattle.q_ports.proofs.turn.poll_all.Goals as goal

-- a poll that gave no packet
none-given : (p : Descriptor) (v : Given) → (v ≡ given.Idle) ⊎ (v ≡ given.Later) → given_in (reply.Polled (polled_in p v)) ≡ None
none-given p v is =
    ⊎_elim (λ (e : v ≡ given.Idle). ap (λ (w : Given). given_in (reply.Polled (polled_in p w))) e)
    (λ (e : v ≡ given.Later). ap (λ (w : Given). given_in (reply.Polled (polled_in p w))) e) is

pub loop-poll-preserved : goal.loop-poll-preserved
loop-poll-preserved g c =
    let now = c.args.now in
    let d = c.loop-poll.booked in
    let d' = c.poll_into.new.self in
    let p = c.poll_into.new.out in
    let old = c.loop-poll.sent.items in
    let inv = c.loop-poll.invariant in
    let is = poll-is now d d' c.poll_into.ensures.event c.poll_into.ensures.memory in
    let push = c.push_reserved.ensures in
    let long : length old ≡ c.loop-poll.poll = omega (arith, inv.count, c.loop-poll.sent.ok.0) in
    let there : set c.push_reserved.new.self.items c.loop-poll.poll p ≡ old ++ p ∷ [] =
    ap (λ (xs : List Descriptor). set xs c.loop-poll.poll p) push.items ∙ written-there old _ p c.loop-poll.poll long in
    let n = c.args.most - (c.loop-poll.poll + 1) in
    let left : c.args.most - c.loop-poll.poll ≡ suc n = omega (arith, c.loop-poll-test.true) in
    let gives : given_at now d ≡ Some p = ap (λ (r : Reply). given_in r) (sym c.poll_into.ensures.reply) ∙ ap (λ (v : Given). given_in (reply.Polled (polled_in p v))) c.in-Packet.is in
    let more : given_by (c.args.most - c.loop-poll.poll) now d ≡ p ∷ given_by n now d' = ap (λ (k : ℕ). given_by k now d) left ∙ given-more n now d d' p gives is in
    record {
      sent = ap (λ (xs : List Descriptor). xs ++ given_by n now d') there ∙ (append_assoc old (p ∷ []) (given_by n now d') ∙ (ap (λ (xs : List Descriptor). old ++ xs) (sym more) ∙ inv.sent));
      polled = sym (ap (λ (k : ℕ). polled_by k now d) left ∙ polled-more n now d d' p gives is) ∙ inv.polled;
      count = omega (arith, push.len, inv.count);
      room = push.capacity ∙ inv.room;
    }

pub returns-in-Idle : goal.returns-in-Idle
returns-in-Idle g c =
    let now = c.args.now in
    let d = c.loop-poll.booked in
    let d' = c.poll_into.new.self in
    let items = c.loop-poll.sent.items in
    let inv = c.loop-poll.invariant in
    let long : length items ≡ c.loop-poll.poll = omega (arith, inv.count, c.loop-poll.sent.ok.0) in
    let n = c.args.most - (c.loop-poll.poll + 1) in
    let left : c.args.most - c.loop-poll.poll ≡ suc n = omega (arith, c.loop-poll-test.true) in
    let none : given_at now d ≡ None = ap (λ (r : Reply). given_in r) (sym c.poll_into.ensures.reply) ∙ none-given c.poll_into.new.out c.poll_into.result c.in-Idle.is in
    let last : polled_by (c.args.most - c.loop-poll.poll) now d ≡ _ = ap (λ (k : ℕ). polled_by k now d) left ∙ polled-none n now d none in
    record {
      sent =
          c.truncate.ensures.items ∙ ap (λ (xs : List Descriptor). take c.loop-poll.poll (set xs c.loop-poll.poll c.poll_into.new.out))
          c.push_reserved.ensures.items ∙ cut-off items _ c.poll_into.new.out c.loop-poll.poll long ∙ sym (append-nil items)
          ∙ (ap (λ (xs : List Descriptor). items ++ xs) (sym (ap (λ (k : ℕ). given_by k now d) left ∙ given-none n now d none)) ∙ inv.sent);
      few = omega (arith, inv.count, c.loop-poll.sent.ok.0, c.loop-poll-test.true);
      polled = poll-is now d d' c.poll_into.ensures.event c.poll_into.ensures.memory ∙ (sym last ∙ inv.polled);
    }
