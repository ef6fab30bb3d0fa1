use Rattle.std.proofs.Common.{◌≡◌, ◌≤◌, ℕ, Option, None, Some, refl, ap, arith}
use Rattle.std.specs.Option.{option_map_or}
use Rattle.q_packet.specs.Descriptor.{Descriptor}
use Rattle.q_codel.specs.declared.codel.Taken.{Taken}
use Rattle.q_fqcodel.specs.Take.{selected, sent_from}
use Rattle.q_fqcodel.proofs.fq_codel.FqCodel.take.Goals as goal

-- a packet has a byte, so that none was sent where the length is 0
none_sent : (o : Option Taken) (len : ℕ) (out place : Descriptor) → len ≡ option_map_or (λ (t : Taken). t.packet.len) o 0
    → out ≡ option_map_or (λ (t : Taken). t.packet) o place → 1 ≤ out.len → len ≡ 0 → None ≡ o
none_sent None len out place is given some zero = refl
none_sent (Some t) len out place is given some zero = absurd (omega (arith, is, ap (λ (p : Descriptor). p.len) given, some, zero))

pub returns-then-sent-eq0-clause-sent : goal.returns-then-sent-eq0-clause-sent
returns-then-sent-eq0-clause-sent g c =
    none_sent (sent_from c.args.now (selected c.args.self.now.state)) c.take_into-sent.result.len c.take_into-sent.new.out _ c.take_into-sent.ensures.len c.take_into-sent.ensures.packet
    (omega (arith, c.packet.invariant.len, ap (λ (p : Descriptor). p.len) c.packet.view_is)) c.if-sent-eq0.true
