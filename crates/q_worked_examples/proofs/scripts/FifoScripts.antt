-- A worked script of a pfifo: what each line is answered, what is lost, and what is counted.
use Rattle.std.proofs.Common.{◌≡◌, List, [], ◌∷◌, refl}
use Rattle.std.specs.Prelude.{Some}
use Rattle.q_packet.specs.declared.cause.Cause.TheVariants.{OverLimit}
use Rattle.q_model.specs.declared.kind.Kind.TheVariants.{Pfifo}
use Rattle.q_model.specs.declared.place.Place.TheVariants.{Root}
use Rattle.q_model.specs.Tally.{no_totals}
use Rattle.q_model.specs.declared.event.Event.{Event}
use Rattle.q_worked_examples.proofs.scripts.Script.{run, seen, packet, arrives, polls, add_root, ok, kept, lost, sent, idle, loss, pb}

-- a pfifo of two packets, at which three arrive
two_of_three : List Event
two_of_three = add_root (Some 1) (Pfifo (Some 2)) ∷ arrives 0 (packet 1 100) ∷ arrives 0 (packet 2 200) ∷ arrives 0 (packet 3 300) ∷ polls 0 3

two_of_three_runs : seen (Root ∷ []) (run two_of_three) ≡ record {
  replies = ok ∷ kept ∷ kept ∷ lost OverLimit ∷ sent (packet 1 100) ∷ sent (packet 2 200) ∷ idle ∷ [];
  losses = loss (packet 3 300) OverLimit ∷ [];
  rows = Some (record { arrived = pb 3 600; sent = pb 2 300; refused = pb 1 300; dropped = no_totals; queued = no_totals; marked = no_totals }) ∷ [];
}
unfolding two_of_three
two_of_three_runs = refl
