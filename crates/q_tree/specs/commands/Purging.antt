-- What is lost where a node is removed with all that is below it (tc(8), `del`).
use Rattle.std.specs.Prelude.{List, map}
use Rattle.q_packet.specs.Descriptor.{Descriptor}
use Rattle.q_packet.specs.declared.cause.Cause.TheVariants.{Purged}
use Rattle.q_codel.specs.declared.loss.Loss.{Loss}

-- these packets, each removed with its queue
abbrev pub purged : List Descriptor → List Loss
purged packets = map (λ (p : Descriptor). record { packet = p; cause = Purged }) packets
