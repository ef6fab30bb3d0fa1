-- What a device notes of packets is what its caller sees of them.
use Rattle.std.proofs.Common.{◌≡◌, ℕ, ◌^◌, max, List, [], ◌∷◌, ◌++◌, map, refl, sym, ap, ap₂, subst, Option, Some, None, Result, Ok, Err, option_to_list, arith, ◌∙◌}
use Rattle.std.specs.Prelude.{Bool, true, false, All, slice_get}
use Rattle.std.specs.List.{filter_map}
use Rattle.std.specs.Option.{option_map_or}
use Rattle.std.proofs.lemmas.List.{append-nil, append_assoc, nil_from_length}
use Rattle.std.proofs.lemmas.List.Elements.{All-head, All-tail, filter_map-append}
use Rattle.q_packet.specs.Descriptor.{Descriptor}
use Rattle.q_packet.specs.declared.cause.Cause.{Cause}
use Rattle.q_model.specs.declared.event.Event.{Event}
use Rattle.q_model.specs.declared.event.Event.TheVariants as event
use Rattle.q_model.specs.declared.refusal.Refusal.{Refusal}
use Rattle.q_model.specs.declared.reply.Reply.TheVariants as reply
use Rattle.q_packet.specs.declared.cause.Cause.TheVariants.{FatFlow, Purged}
use Rattle.q_fqcodel.specs.Put.{lost_by_put}
use Rattle.q_model.specs.Beneath.{packets_of, is_empty}
use Rattle.q_model.specs.Conserved.{arrival_in, sent_in}
use Rattle.q_model.specs.Edit.{Edit, lost_by, packets_removed}
use Rattle.q_model.specs.Events.{IsEvent}
use Rattle.q_model.specs.Node.{Discipline, Fifo, Prio, Tbf, Drr, FqCodel, Shape, children, shape}
use Rattle.q_model.specs.Put.{put_here, put_beneath, put_along, lost_in}
use Rattle.q_model.specs.Replay.{Replay, with_step, replay_from, replay, nothing_yet}
use Rattle.q_model.specs.Route.{Route, device_route}
use Rattle.q_model.specs.Settings.{DeviceSettings, IsInRange}
use Rattle.q_model.specs.Step.{DeviceState, Step, loss_in, losses_in, polled_of, answered, step}
use Rattle.q_model.specs.Tally.{Note, Arrived, Sent, history}
use Rattle.q_model.specs.TreeState.{put_on, put_work, asked, take_packet, plan}
use Rattle.q_model.specs.Work.{losses_of}
use Rattle.q_invariants.proofs.ask.Asks.{ask-quiet}
use Rattle.q_invariants.proofs.Replays.{IsKept, not-after, step-kept, new-kept-device}
use Rattle.q_invariants.proofs.sums.Shuffled.{weigh-arrivals, weigh-sent}
use Rattle.q_invariants.proofs.sums.Told.{noted-history}
use Rattle.q_invariants.proofs.sums.Weights.{IsQuiet, weigh-count}
use Rattle.q_device.specs.Laws.{brought, given_in, TellsAll}

-- notes of losses and marks alone
pub record AreLosses (notes : List Note) : Type 0 where
  pub none_arrived : filter_map arrival_in notes ≡ []
  pub none_sent : filter_map sent_in notes ≡ []

pub losses-are : (cause : Cause) (ps : List Descriptor) → AreLosses (losses_of cause ps)
losses-are cause [] = record { none_arrived = refl; none_sent = refl }
losses-are cause (p ∷ ps) = let rest = losses-are cause ps in record { none_arrived = rest.none_arrived; none_sent = rest.none_sent }

lost_in-are : (p : Descriptor) (now : ℕ) (d : Discipline) → AreLosses (lost_in p now d)
lost_in-are p now (Fifo limit queue) = record { none_arrived = refl; none_sent = refl }
lost_in-are p now (Prio priomap) = record { none_arrived = refl; none_sent = refl }
lost_in-are p now (Tbf b limit) = record { none_arrived = refl; none_sent = refl }
lost_in-are p now (Drr s) = record { none_arrived = refl; none_sent = refl }
lost_in-are p now (FqCodel s) = losses-are FatFlow (packets_of (lost_by_put s p now))

here-are : (now : ℕ) (p : Descriptor) (o : Option Cause) (s : Shape) → AreLosses (put_here now p o s).rises
here-are now p None s = lost_in-are p now s.own.discipline
here-are now p (Some cause) s = record { none_arrived = refl; none_sent = refl }

along-are : (now : ℕ) (p : Descriptor) (o : Option Cause) (path : List ℕ) (s : Shape) → AreLosses (put_along now p o path s).rises
along-are now p o [] s = here-are now p o s
along-are now p o (i ∷ path) s = by (slice_get (children s) i) (λ c. along-are now p o path c)
  where
    by : (x : Option Shape) → ((c : Shape) → AreLosses (put_along now p o path c).rises)
        → AreLosses (option_map_or (λ (child : Shape). put_beneath p i s (put_along now p o path child)) x (put_here now p o s)).rises
    by None h = here-are now p o s
    by (Some c) h = h c

pub on-are : (now : ℕ) (p : Descriptor) (r : Option Route) (s : Shape) → AreLosses (put_on now p r s).rises
on-are now p None s = record { none_arrived = refl; none_sent = refl }
on-are now p (Some r) s = along-are now p r.refusal r.path s

-- what a poll hands up holds no arrival and nothing sent
pub quiet-are : (notes : List Note) → IsQuiet notes → AreLosses notes
quiet-are notes h = record {
  none_arrived = nil_from_length (filter_map arrival_in notes) (omega (arith, weigh-count (filter_map arrival_in notes), weigh-arrivals (λ p. 1) notes, h.no_arrival (λ p. 1)));
  none_sent = nil_from_length (filter_map sent_in notes) (omega (arith, weigh-count (filter_map sent_in notes), weigh-sent (λ p. 1) notes, h.nothing_sent (λ p. 1)));
}

-- one event more, of which these notes, this reply and these losses came
record TellsStep (e : Event) (notes : List Note) (s : Step (List Note)) : Type 0 where
  arrived : filter_map arrival_in notes ≡ filter_map brought (e ∷ [])
  sent : filter_map sent_in notes ≡ filter_map given_in (s.reply ∷ [])
  lost : losses_in notes ≡ s.losses

tells-more : (events : List Event) (r : Replay (List Note)) (e : Event) (notes : List Note) (s : Step (List Note))
    → s.device.tree.top ≡ r.device.tree.top ++ notes → TellsAll events r → TellsStep e notes s → TellsAll (events ++ e ∷ []) (with_step r s)
tells-more events r e notes s top h more = record {
  arrived = ap (filter_map arrival_in) top ∙ filter_map-append arrival_in r.device.tree.top notes ∙ ap₂ (λ a b. a ++ b) h.arrived more.arrived ∙ sym (filter_map-append brought events (e ∷ []));
  sent = ap (filter_map sent_in) top ∙ filter_map-append sent_in r.device.tree.top notes ∙ ap₂ (λ a b. a ++ b) h.sent more.sent ∙ sym (filter_map-append given_in r.replies (s.reply ∷ []));
  lost = ap losses_in top ∙ filter_map-append loss_in r.device.tree.top notes ∙ ap₂ (λ a b. a ++ b) h.lost more.lost;
}

-- each kind of event
polled-tells : (rises : List Note) (o : Option Descriptor) (empty : Bool) → AreLosses rises → (s : Step (List Note)) (moment : ℕ)
    → s.reply ≡ reply.Polled (polled_of o empty) → s.losses ≡ losses_in rises
    → TellsStep (event.Poll moment) (rises ++ map Sent (option_to_list o)) s
polled-tells rises None empty h s moment answer losses = record {
  arrived = ap (filter_map arrival_in) (append-nil rises) ∙ h.none_arrived;
  sent = ap (filter_map sent_in) (append-nil rises) ∙ h.none_sent ∙ by empty ∙ ap (λ x. filter_map given_in (x ∷ [])) (sym answer);
  lost = ap losses_in (append-nil rises) ∙ sym losses;
}
  where
    by : (b : Bool) → ◌≡◌ {A = List Descriptor} [] (filter_map given_in (reply.Polled (polled_of None b) ∷ []))
    by true = refl
    by false = refl
polled-tells rises (Some p) empty h s moment answer losses = record {
  arrived = filter_map-append arrival_in rises (Sent p ∷ []) ∙ ap (λ xs. xs ++ []) h.none_arrived;
  sent = filter_map-append sent_in rises (Sent p ∷ []) ∙ ap (λ xs. xs ++ p ∷ []) h.none_sent ∙ ap (λ x. filter_map given_in (x ∷ [])) (sym answer);
  lost = filter_map-append loss_in rises (Sent p ∷ []) ∙ append-nil (losses_in rises) ∙ sym losses;
}

step-tells : (events : List Event) (r : Replay (List Note)) (e : Event) → IsKept r.device → IsEvent e → TellsAll events r → TellsAll (events ++ e ∷ []) (with_step r (step history r.device e))
step-tells events r (event.Arrive p moment) kept range h =
    let now : ℕ = max r.device.clock moment in
    let d = r.device in
    let w = put_work now p d.tree.device (shape d.tree.root) in
    let none = on-are now p (device_route p d.tree.device.mtu (shape d.tree.root)) (shape d.tree.root) in
    tells-more events r (event.Arrive p moment) (Arrived p ∷ w.rises) (step history d (event.Arrive p moment)) (noted-history d.tree.top (Arrived p ∷ w.rises)) h (record {
      arrived = ap (λ xs. p ∷ xs) none.none_arrived;
      sent = none.none_sent;
      lost = refl;
    })
step-tells events r (event.Poll moment) kept range h =
    let now : ℕ = max r.device.clock moment in
    let d = r.device in
    let a = asked now d.tree in
    let quiet = ask-quiet d.clock now d.tree kept (omega arith) (not-after d.clock moment (2 ^ 62) kept.moment range) in
    tells-more events r (event.Poll moment) (a.rises ++ map Sent (option_to_list a.shown)) (step history d (event.Poll moment))
    (noted-history d.tree.top (a.rises ++ map Sent (option_to_list a.shown))) h
    (polled-tells a.rises a.shown (is_empty (shape (take_packet history now d.tree).root)) (quiet-are a.rises quiet) (step history d (event.Poll moment)) moment refl refl)
step-tells events r (event.Command c moment) kept range h = by (plan d.tree.device now c (shape d.tree.root))
  where
    d : DeviceState (List Note)
    d = r.device

    now : ℕ
    now = max r.device.clock moment

    by : (answer : Result Edit Refusal) → TellsAll (events ++ event.Command c moment ∷ []) (with_step r (answered history answer (max r.device.clock moment) r.device))
    by (Ok edit) =
        let none = losses-are Purged (packets_removed edit (shape r.device.tree.root)) in
        tells-more events r (event.Command c moment) (lost_by edit (shape r.device.tree.root))
        (answered history (Ok edit) (max r.device.clock moment) r.device)
        (noted-history r.device.tree.top (lost_by edit (shape r.device.tree.root))) h (record {
          arrived = none.none_arrived;
          sent = none.none_sent;
          lost = refl;
        })
    by (Err refusal) =
        tells-more events r (event.Command c moment) [] (answered history (Err refusal) (max r.device.clock moment) r.device)
        (sym (append-nil r.device.tree.top)) h (record { arrived = refl; sent = refl; lost = refl })

replay_from-tells : (before : List Event) (r : Replay (List Note)) (events : List Event) → IsKept r.device → All IsEvent events → TellsAll before r
    → TellsAll (before ++ events) (replay_from history r events)
replay_from-tells before r [] kept all h = subst (λ es. TellsAll es r) (sym (append-nil before)) h
replay_from-tells before r (e ∷ events) kept all h =
    let first = All-head IsEvent e events all in
    subst (λ es. TellsAll es (replay_from history (with_step r (step history r.device e)) events)) (append_assoc before (e ∷ []) events)
    (replay_from-tells (before ++ e ∷ []) (with_step r (step history r.device e)) events (step-kept r.device e kept first) (All-tail IsEvent e events all) (step-tells before r e kept first h))

pub replay-tells : (settings : DeviceSettings) (events : List Event) → IsInRange settings → All IsEvent events → TellsAll events (replay history settings events)
replay-tells settings events range all = replay_from-tells [] (nothing_yet history settings) events (new-kept-device settings range) all (record { arrived = refl; sent = refl; lost = refl })
