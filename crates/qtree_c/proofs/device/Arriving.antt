-- Packets that arrive in order, with the numbers that C has.
use Rattle.std.proofs.Common.{◌≡◌, ℕ, zero, suc, ◌<◌, ◌≤◌, List, [], ◌∷◌, ◌++◌, refl, ap, ◌∙◌, arith, None, Some, Option}
use Rattle.std.specs.Prelude.{All, IfSome, drop, length, map, max, slice_get, slice_index_or, take}
use Rattle.std.proofs.lemmas.List.Elements.{All-weaker}
use Rattle.q_packet.specs.Stored.{IsStored}
use Rattle.q_packet.specs.declared.stored_packet.StoredPacket.{StoredPacket}
use Rattle.q_model.specs.Step.{counts_at}
use Rattle.q_device.specs.device.Answers.{fate_number}
use Rattle.q_device.specs.device.Bursts as bursts
use Rattle.q_device.specs.device.Bursts.{arrival, arrived_by, fate_in}
use Rattle.q_device.specs.device.DeviceSeen.{DeviceSeen}
use Rattle.q_device.specs.Events.{after_event, reply_to}
use Rattle.q_device.specs.declared.bursts.Stopped.TheVariants.{Memory, OutOfRange}
use Rattle.qtree_c.specs.abi.Structs.{IsPacket, zero_packet}
use Rattle.qtree_c.specs.device.Folds.{IsArrivals, fates_by}

fates-numbers : (now : ℕ) (cs : List StoredPacket) (d : DeviceSeen) → map fate_number (bursts.fates_by now cs d) ≡ fates_by now cs d
unfolding reply_to
fates-numbers now [] d = refl
fates-numbers now (c ∷ cs) d = ap (λ ns. fate_number (fate_in (reply_to (arrival now c) d)) ∷ ns) (fates-numbers now cs (after_event (arrival now c) d))

packets-of : (cs : List StoredPacket) → All IsStored cs → All IsPacket cs
packets-of cs h = All-weaker IsStored IsPacket (λ (c : StoredPacket) s. record { key = s.key; len = s.len; prio = s.prio; ecn = s.ecn }) cs h

-- what is true of the item in a place is true of what is read there
pub at-place : {A : Type 0} (P : A → Type 0) (xs : List A) (i : ℕ) (d : A) → i < length xs → IfSome (slice_get xs i) P → P (slice_index_or xs i d)
at-place P [] i d lt h = absurd (omega (arith, lt))
at-place P (x ∷ xs) zero d lt h = h
at-place P (x ∷ xs) (suc i) d lt h = at-place P xs i d (omega (arith, lt)) h

module _ (now : ℕ) (packets : List StoredPacket) (done : ℕ) (before after : List ℕ) (d n : DeviceSeen) where
  -- all of them arrived
  pub all-arrived : bursts.IsArrivals fate_number now packets None done before after d n → IsArrivals now packets 0 done before after d n
  all-arrived h = record {
    arrived = h.arrived;
    fates = h.fates ∙ ap (λ ns. ns ++ drop done before) (fates-numbers now (take done packets) d);
    in_range = packets-of (take done packets) h.in_range;
    most = h.most;
    all = λ e. h.all refl;
    stopped = λ ne. absurd (ne refl);
    out_of_range = λ ne. absurd (ne refl);
    next = λ e. absurd (omega (arith, e));
    next_in_range = λ e. absurd (omega (arith, e));
    full = λ e. absurd (omega (arith, e));
    places = h.places;
  }

  -- the next one is out of its range
  pub bad-next : bursts.IsArrivals fate_number now packets (Some OutOfRange) done before after d n → (IsPacket (slice_index_or packets done zero_packet) → ⊥)
      → (code : ℕ) → code ≡ 42 → IsArrivals now packets code done before after d n
  bad-next h not_packet code is = record {
    arrived = h.arrived;
    fates = h.fates ∙ ap (λ ns. ns ++ drop done before) (fates-numbers now (take done packets) d);
    in_range = packets-of (take done packets) h.in_range;
    most = h.most;
    all = λ e. absurd (omega (arith, e, is));
    stopped = λ ne. h.next;
    out_of_range = λ ne no_code. absurd (no_code is);
    next = λ e. not_packet;
    next_in_range = λ e. absurd (omega (arith, e, is));
    full = λ e. absurd (omega (arith, e, is));
    places = h.places;
  }

  -- memory was refused for the next one
  pub no_room-next : bursts.IsArrivals fate_number now packets (Some Memory) done before after d n → IsArrivals now packets 90 done before after d n
  no_room-next h =
      let stop = at-place (λ (c : StoredPacket). bursts.IsStoppedAt now (take done packets) c Memory d n) packets done zero_packet h.next h.stopped in
      record {
        arrived = h.arrived;
        fates = h.fates ∙ ap (λ ns. ns ++ drop done before) (fates-numbers now (take done packets) d);
        in_range = packets-of (take done packets) h.in_range;
        most = h.most;
        all = λ e. absurd (omega (arith, e));
        stopped = λ ne. h.next;
        out_of_range = λ ne no_code. refl;
        next = λ e. absurd (omega (arith, e));
        next_in_range = λ e. record { key = stop.0.key; len = stop.0.len; prio = stop.0.prio; ecn = stop.0.ecn };
        full = λ e. stop.1;
        places = h.places;
      }

-- the time at which one counts, and the last of several
arrival-clock : (now : ℕ) (c : StoredPacket) (d : DeviceSeen) → (after_event (arrival now c) d).device.clock ≡ max d.device.clock now
unfolding after_event
arrival-clock now c d = refl

pub arrived-clock : (now : ℕ) (c : StoredPacket) (cs : List StoredPacket) (d : DeviceSeen) → (arrived_by now (c ∷ cs) d).device.clock ≡ counts_at now d.device
arrived-clock now c [] d = arrival-clock now c d
arrived-clock now c (x ∷ cs) d = arrived-clock now x cs (after_event (arrival now c) d) ∙ omega (arith, arrival-clock now c d)
