-- What is noted of packets that arrive one after the other at one moment.
use Rattle.std.proofs.Common.{◌≡◌, ◌∙◌, ℕ, List, [], ◌∷◌, ◌++◌, drop, length, map, refl, sym, ap, arith}
use Rattle.std.proofs.Math.Seq.{drop-append_seam}
use Rattle.std.proofs.lemmas.List.{append_assoc, drop_all, map-append}
use Rattle.q_packet.specs.Descriptor.{Descriptor}
use Rattle.q_device.specs.device.DeviceSeen.{DeviceSeen, as_counted}
use Rattle.q_device.specs.log.LastNoted.{LastNoted, all_noted, with_noted}
use Rattle.q_model.specs.Step.{DeviceState, counts_at}
use Rattle.q_model.specs.Tally.{Counts}
use Rattle.q_model.specs.declared.event.Event.{Event}
use Rattle.q_model.specs.declared.event.Event.TheVariants.{Arrive}
use Rattle.q_ports.specs.NotedIn.{arrivals_between}
use Rattle.q_ports.specs.Rings.{RingSeen, popped, with_known}
use Rattle.q_ports.specs.TakenIn.{TakesIn}

-- one event more
pub all_noted-push : (es : List Event) (e : Event) (l : LastNoted) → all_noted (es ++ e ∷ []) l ≡ with_noted e (all_noted es l)
all_noted-push [] e l = refl
all_noted-push (x ∷ es) e l = all_noted-push es e (with_noted x l)

-- once an event at a moment has counted, a later one at this moment counts as it did
pub counts_again : (now : ℕ) (d d' : DeviceState Counts) → d'.clock ≡ counts_at now d → counts_at now d' ≡ counts_at now d
counts_again now d d' e = omega (arith, e)

-- nothing was received yet
pub between-same : (now : ℕ) (d : DeviceSeen) (o : RingSeen) (l : LastNoted) → l ≡ all_noted (arrivals_between now d o o) l
between-same now d o l = ap (λ (ps : List Descriptor). all_noted (map (λ p. as_counted d.device (Arrive p now)) ps) l) (sym (drop_all (length o.received) o.received (omega arith)))

-- a look at the ring receives nothing
pub between-look : (now : ℕ) (d : DeviceSeen) (o o1 o2 : RingSeen) (l0 l : LastNoted) → o2 ≡ with_known o2.known o1
    → l ≡ all_noted (arrivals_between now d o o1) l0 → l ≡ all_noted (arrivals_between now d o o2) l0
between-look now d o o1 o2 l0 l looked noted = noted
    ∙ ap (λ (ps : List Descriptor). all_noted (map (λ p. as_counted d.device (Arrive p now)) (drop (length o.received) ps)) l0) (sym (ap (λ (r : RingSeen). r.received) looked))

-- a packet more
pub between-push : (now n : ℕ) (d d1 : DeviceSeen) (o o1 o2 : RingSeen) (p : Descriptor) (l0 l1 l2 : LastNoted) → TakesIn now o o1 d d1 n → o2 ≡ popped p o1
    → counts_at now d1.device ≡ counts_at now d.device → l1 ≡ all_noted (arrivals_between now d o o1) l0 → l2 ≡ with_noted (Arrive p (counts_at now d1.device)) l1
    → l2 ≡ all_noted (arrivals_between now d o o2) l0
between-push now n d d1 o o1 o2 p l0 l1 l2 takes pops clock noted one =
    let event : Descriptor → Event = λ p. as_counted d.device (Arrive p now) in
    let had = length o.received in
    let before : drop had o1.received ≡ takes.packets = ap (λ (ps : List Descriptor). drop had ps) takes.received ∙ drop-append_seam o.received takes.packets in
    let after : drop had o2.received ≡ takes.packets ++ p ∷ [] =
    ap (λ (r : RingSeen). drop had r.received) pops
    ∙ (ap (λ (ps : List Descriptor). drop had (ps ++ p ∷ [])) takes.received
    ∙ (ap (λ (ps : List Descriptor). drop had ps) (append_assoc o.received takes.packets (p ∷ []))
    ∙ drop-append_seam o.received (takes.packets ++ p ∷ []))) in
    one
    ∙ ap (λ (m : ℕ). with_noted (Arrive p m) l1) clock
    ∙ ap (λ (l : LastNoted). with_noted (event p) l) (noted ∙ ap (λ (ps : List Descriptor). all_noted (map event ps) l0) before)
    ∙ sym (all_noted-push (map event takes.packets) (event p) l0)
    ∙ ap (λ (es : List Event). all_noted es l0) (sym (map-append event takes.packets (p ∷ [])))
    ∙ ap (λ (ps : List Descriptor). all_noted (map event ps) l0) (sym after)
