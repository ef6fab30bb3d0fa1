-- A packet that has arrived at a node goes down its route, and is queued or refused at its end.
-- tc-pfifo(8), tc-drr(8) and, for what an fq_codel over its limit drops, tc-fq_codel(8) and RFC 8290, section 4.1.
use Rattle.std.specs.Prelude.{ℕ, Bool, false, List, [], ◌∷◌, ◌++◌, Option, Some, None, map, set, slice_get}
use Rattle.std.specs.Option.{option_map_or}
use Rattle.q_packet.specs.Descriptor.{Descriptor}
use Rattle.q_packet.specs.declared.cause.Cause.{Cause}
use Rattle.q_packet.specs.declared.cause.Cause.TheVariants.{FatFlow}
use Rattle.q_fqcodel.specs.Put.{after_put, lost_by_put, is_lost_itself}
use Rattle.q_model.specs.Tally.{Note, Arrived, Lost}
use Rattle.q_model.specs.Node.{Discipline, Fifo, Prio, Tbf, Drr, FqCodel, Shape, children}
use Rattle.q_model.specs.Beneath.{packets_of, is_empty}
use Rattle.q_model.specs.Work.{Work, quiet, worked, losses_of, settled}

-- the packet at the end of the discipline's own list
abbrev pub queued_in : Descriptor → ℕ → Discipline → Discipline
queued_in p now (Fifo limit queue) = Fifo limit (queue ++ record { packet = p; at = now } ∷ [])
queued_in p now (FqCodel s) = FqCodel (after_put s p now)
queued_in p now (Prio priomap) = Prio priomap
queued_in p now (Tbf bucket limit) = Tbf bucket limit
queued_in p now (Drr s) = Drr s

-- what is lost by it: an fq_codel over its limit loses a batch of its fattest flow
abbrev pub lost_in : Descriptor → ℕ → Discipline → List Note
lost_in p now (FqCodel s) = losses_of FatFlow (packets_of (lost_by_put s p now))
lost_in p now (Fifo limit queue) = []
lost_in p now (Prio priomap) = []
lost_in p now (Tbf bucket limit) = []
lost_in p now (Drr s) = []

-- whether the packet that is put is itself among them
abbrev pub drops_itself : Descriptor → ℕ → Discipline → Bool
drops_itself p now (FqCodel s) = is_lost_itself s p now
drops_itself p now (Fifo limit queue) = false
drops_itself p now (Prio priomap) = false
drops_itself p now (Tbf bucket limit) = false
drops_itself p now (Drr s) = false

-- where the route ends
abbrev pub put_here : ℕ → Descriptor → Option Cause → Shape → Work
put_here now p (Some cause) s = record {
  node = worked s.own (Arrived p ∷ Lost p cause ∷ []) (map quiet (children s));
  rises = Lost p cause ∷ [];
}
put_here now p None s =
    let lost = lost_in p now s.own.discipline in
    record {
      node = worked (record s.own { discipline = queued_in p now s.own.discipline }) (Arrived p ∷ lost) (map quiet (children s));
      rises = lost;
    }

-- at a node on the path, once the packet was put into its child at place i
abbrev pub put_beneath : Descriptor → ℕ → Shape → Work → Work
put_beneath p i s below = record {
  node = worked (settled i (is_empty below.node) s.own) (Arrived p ∷ below.rises) (set (map quiet (children s)) i below.node);
  rises = below.rises;
}

-- along the whole route; each node that it reaches notes the arrival first
abbrev pub put_along : ℕ → Descriptor → Option Cause → List ℕ → Shape → Work
put_along now p refusal [] s = put_here now p refusal s
put_along now p refusal (i ∷ path) s =
    option_map_or (λ (child : Shape). put_beneath p i s (put_along now p refusal path child)) (slice_get (children s) i) (put_here now p refusal s)
