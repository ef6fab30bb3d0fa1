-- The four numbers are written one after the other into a row of 38 bytes.
use Rattle.std.proofs.Common.{refl, rules, ◌∙◌}
use Rattle.q_packet.specs.Key.{key_bytes}
use Rattle.q_packet.proofs.KeyLemmas.{FitsBytes_key, key_from_bytes}
use Rattle.q_packet.proofs.flow_key.FlowKey.bytes.Goals as goal

pub returns-clause-value : goal.returns-clause-value
unfolding key_bytes
returns-clause-value c =
    rw (c.write_u16-2.ensures, c.write_u16.ensures, c.write_u128-2.ensures, c.write_u128.ensures, ← c.self.view_is) refl

pub returns-clause-in_range : goal.returns-clause-in_range
returns-clause-in_range c = rw (← c.self.view_is)
    (record {
      family = search rules;
      proto = search rules;
      src = search rules;
      dst = search rules;
      sport = search rules;
      dport = search rules;
    })

pub returns-clause-distinct : goal.returns-clause-distinct
returns-clause-distinct c =
    λ other fits same. key_from_bytes other c.args.self fits (FitsBytes_key _ (returns-clause-in_range c)) (same ∙ returns-clause-value c)
