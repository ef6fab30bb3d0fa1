-- What is noted in the ring beside a device, where there is one, of calls that make several events.
use Rattle.std.proofs.Common.{◌≡◌, ◌∙◌, ℕ, zero, suc, ◌+◌, ◌≤◌, List, [], ◌∷◌, ◌++◌, map, refl, sym, ap, arith}
use Rattle.std.specs.Prelude.{Option, replicate}
use Rattle.q_device.specs.device.Bursts.{arrived_by}
use Rattle.q_device.specs.device.DeviceSeen.{DeviceSeen, as_counted}
use Rattle.q_device.specs.Events.{with_memory}
use Rattle.q_device.specs.log.LastNoted.{LastNoted, all_noted, with_noted}
use Rattle.q_model.specs.Step.{counts_at}
use Rattle.q_model.specs.declared.event.Event.{Event}
use Rattle.q_model.specs.declared.event.Event.TheVariants.{Arrive, Poll}
use Rattle.q_packet.specs.Descriptor.{Descriptor}
use Rattle.q_packet.specs.Stored.{descriptor}
use Rattle.q_packet.specs.declared.stored_packet.StoredPacket.{StoredPacket}
use Rattle.q_device.proofs.PlaceLemmas.{map-more}
use Rattle.q_ports.proofs.NotedLemmas.{all_noted-push}
use Rattle.qtree_c.specs.events.Noting.{arrival_events, noting}
use Rattle.qtree_c.proofs.device.Arriving.{arrived-clock}

-- ---- one event more

pub arrival-more : (clock : ℕ) (cs cs2 : List StoredPacket) (c : StoredPacket) (l l1 l2 : LastNoted) → l1 ≡ all_noted (map (λ (p : Descriptor). Arrive p clock) (map descriptor cs)) l
    → cs2 ≡ cs ++ c ∷ [] → l2 ≡ with_noted (Arrive (descriptor c) clock) l1 → l2 ≡ all_noted (map (λ (p : Descriptor). Arrive p clock) (map descriptor cs2)) l
arrival-more clock cs cs2 c l l1 l2 had more one =
    let event : Descriptor → Event = λ p. Arrive p clock in
    one
    ∙ ap (λ (x : LastNoted). with_noted (event (descriptor c)) x) had
    ∙ sym (all_noted-push (map event (map descriptor cs)) (event (descriptor c)) l)
    ∙ ap (λ (es : List Event). all_noted es l)
    (sym (ap (λ (xs : List StoredPacket). map event (map descriptor xs)) more ∙ ap (λ (ps : List Descriptor). map event ps)
    (map-more descriptor cs c) ∙ map-more event (map descriptor cs) (descriptor c)))

replicate-push : {A : Type 0} (i : ℕ) (e : A) → replicate i e ++ e ∷ [] ≡ replicate (i + 1) e
replicate-push i e = by i ∙ (let next : suc i ≡ i + 1 = omega arith in ap (λ (k : ℕ). replicate k e) next)
  where
    by : (n : ℕ) → replicate n e ++ e ∷ [] ≡ replicate (suc n) e
    by zero = refl
    by (suc n) = ap (λ es. e ∷ es) (by n)

pub poll-more : (i : ℕ) (e : Event) (l l1 l2 : LastNoted) → l1 ≡ all_noted (replicate i e) l → l2 ≡ with_noted e l1 → l2 ≡ all_noted (replicate (i + 1) e) l
poll-more i e l l1 l2 had one =
    one ∙ ap (λ (x : LastNoted). with_noted e x) had ∙ sym (all_noted-push (replicate i e) e l) ∙ ap (λ (es : List Event). all_noted es l) (replicate-push i e)

-- ---- all of them, at the time at which the last one counted

pub noted-arrivals : (now : ℕ) (cs : List StoredPacket) (d n : DeviceSeen) (l l' : Option LastNoted) → n ≡ with_memory n.memory (arrived_by now cs d)
    → l' ≡ noting (map (λ (p : Descriptor). Arrive p n.device.clock) (map descriptor cs)) l → l' ≡ noting (arrival_events now (map descriptor cs) d) l
noted-arrivals now [] d n l l' is noted = noted
noted-arrivals now (c ∷ cs) d n l l' is noted =
    let clock : n.device.clock ≡ counts_at now d.device = ap (λ (x : DeviceSeen). x.device.clock) is ∙ arrived-clock now c cs d in
    noted ∙ ap (λ (m : ℕ). noting (map (λ (p : Descriptor). Arrive p m) (map descriptor (c ∷ cs))) l) clock

pub noted-polls : (now k : ℕ) (d n : DeviceSeen) (l l' : Option LastNoted) → (1 ≤ k → n.device.clock ≡ counts_at now d.device) → l' ≡ noting (replicate k (Poll n.device.clock)) l
    → l' ≡ noting (replicate k (as_counted d.device (Poll now))) l
noted-polls now zero d n l l' clock noted = noted
noted-polls now (suc k) d n l l' clock noted = noted ∙ ap (λ (m : ℕ). noting (replicate (suc k) (Poll m)) l) (clock (omega arith))
