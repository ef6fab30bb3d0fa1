-- A device that had room for a packet has room for another one once its queue is as short again, and no more wait in all.
use Rattle.std.proofs.Common.{◌≡◌, ℕ, ◌<◌, ◌≤◌, List, refl, sym, subst, Option, Some, None, arith}
use Rattle.std.specs.Prelude.{IfSome, length}
use Rattle.std.specs.Option.{option_map_or}
use Rattle.std.proofs.lemmas.Option.{none-some, same_Some}
use Rattle.q_packet.specs.Descriptor.{Descriptor}
use Rattle.q_model.specs.Find.{node_at}
use Rattle.q_model.specs.Node.{Discipline, Fifo, Prio, Tbf, Drr, FqCodel, Node}
use Rattle.q_model.specs.Route.{Route}
use Rattle.q_tree.specs.arrival.Arrivals.{CanCount, HasPlace, HasPlaceIn}
use Rattle.q_tree.specs.Kept.{Kept}
use Rattle.q_device.specs.device.DeviceSeen.{DeviceSeen, HasRoomFor}
use Rattle.q_device.specs.DeviceLaws.{TellsItsLosses}
use Rattle.q_laws.specs.Memory.{queued_in, GoesTo, HasNotFilled, RoomIsThereAgain}

-- a queue has a place where fewer are in it than it has places for
place-free : (d : Discipline) (places n : ℕ) → queued_in d ≡ Some n → HasPlaceIn places d → n < places
place-free (Fifo limit queue) places n e h = subst (λ k. k < places) (same_Some (length queue) n e) h
place-free (FqCodel s) places n e h = subst (λ k. k < places) (same_Some _ n e) h
place-free (Prio priomap) places n e h = absurd (none-some n e)
place-free (Tbf bucket limit) places n e h = absurd (none-some n e)
place-free (Drr s) places n e h = absurd (none-some n e)

free-place : (d : Discipline) (places n : ℕ) → queued_in d ≡ Some n → n < places → HasPlaceIn places d
free-place (Fifo limit queue) places n e h = subst (λ k. k < places) (sym (same_Some (length queue) n e)) h
free-place (FqCodel s) places n e h = subst (λ k. k < places) (sym (same_Some _ n e)) h
free-place (Prio priomap) places n e h = tt
free-place (Tbf bucket limit) places n e h = tt
free-place (Drr s) places n e h = tt

abbrev places_of : Option (Node Kept) → ℕ
places_of o = option_map_or (λ (end : Node Kept). end.memory.places) o 0

abbrev IsPlaceAt : Option (Node Kept) → Type 0
IsPlaceAt o = IfSome o (λ (end : Node Kept). HasPlaceIn end.memory.places end.own.discipline)

abbrev CanGo : DeviceSeen → Option Route → Type 0
CanGo d o = IfSome o (λ (way : Route). way.refusal ≡ None → HasPlace way.path d.memory.tree.tree.root)

pub room-again : (before after : DeviceSeen) → TellsItsLosses before → TellsItsLosses after → RoomIsThereAgain before after
room-again before after told_before told_after p q path first last room goes comes fewer still counts =
    let there : HasPlace path before.memory.tree.tree.root = subst (CanGo before) goes.way room.tree.place refl in
    let free : first < goes.end.memory.places = place-free goes.end.own.discipline goes.end.memory.places first goes.packets (subst IsPlaceAt goes.there there) in
    let more : goes.end.memory.places ≤ comes.end.memory.places =
    subst (λ o. places_of o ≤ comes.end.memory.places) goes.there
    (subst (λ o. places_of (node_at path before.memory.tree.tree.root) ≤ places_of o) comes.there (still.queues path)) in
    let place : HasPlaceIn comes.end.memory.places comes.end.own.discipline =
    free-place comes.end.own.discipline comes.end.memory.places last comes.packets (omega (arith, free, more, fewer)) in
    record {
      tree = record {
        place = subst (CanGo after) (sym comes.way) (λ _. subst IsPlaceAt (sym comes.there) place);
        packets = counts.packets;
        bytes = counts.bytes;
      };
      losses = omega (arith, room.losses, told_before.arrived, told_after.arrived, still.losses, still.handed_out, still.sent);
    }
