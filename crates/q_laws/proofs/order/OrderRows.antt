-- Which packets of a flow arrive over an interval and which are given, computed from the definitions for worked lists of events.
use Rattle.std.proofs.Common.{◌≡◌, ℕ, List, [], ◌∷◌, map, inl, inr, refl, arith}
use Rattle.std.specs.Prelude.{Some, None}
use Rattle.std.specs.List.{filter_map}
use Rattle.q_packet.specs.Descriptor.{Descriptor}
use Rattle.q_packet.specs.declared.ecn.Ecn.TheVariants.{NotEct}
use Rattle.q_codel.specs.Gap.{gap_of}
use Rattle.q_fqcodel.specs.Cleared.{adjust, clear}
use Rattle.q_fqcodel.specs.FqState.{packets_of, bytes_of, rested_flow, retuned, all_packets}
use Rattle.q_fqcodel.specs.Put.{appended, fattest, shed_count, overflow, shed, cut_back, is_lost_itself}
use Rattle.q_fqcodel.specs.Quanta.{need, given, stay, leave}
use Rattle.q_fqcodel.specs.QuantaGiven.{quanta_in, visits, quanta_turned, passed_over, old_list, quanta_old, quanta_given, grants}
use Rattle.q_fqcodel.specs.Selection.{chosen, turned, first_ready, moved, with_rest, arranged}
use Rattle.q_fqcodel.specs.Take.{selected, packet_sent, packets_dropped, flow_after, front, sender, sent_from, dropped_from, paid, with_sent, after_sending}
use Rattle.q_model.specs.declared.command.Command.TheVariants.{QdiscAdd, FilterAdd}
use Rattle.q_model.specs.declared.event.Event.{Event}
use Rattle.q_model.specs.declared.event.Event.TheVariants.{Arrive, Poll, Command}
use Rattle.q_model.specs.declared.kind.Kind.TheVariants.{Prio, FqCodel}
use Rattle.q_model.specs.declared.place.Place.TheVariants.{Root}
use Rattle.q_model.specs.declared.protocol.Protocol.TheVariants as protocol
use Rattle.q_model.specs.Settings.{DeviceSettings}
use Rattle.q_device.specs.Laws.{brought, given_in}
use Rattle.q_device.specs.Sharing.{device_after}
use Rattle.q_laws.specs.order.Order.{flow_among, IsPartOf, answers}

settings : DeviceSettings
settings = record { mtu = 1514; txqueuelen = 1000; recorder = 4096 }

-- the n-th packet, of the flow with this port
packet : ℕ → ℕ → Descriptor
packet port n = record { port = 0; number = n; buf = n; len = 100; key = record { family = 0; proto = 0; src = 0; dst = 0; sport = port; dport = 0 }; hash = port; prio = 0; ecn = NotEct }

arrives : ℕ → ℕ → Event
arrives port n = Arrive (packet port n) 0

poll : Event
poll = Poll 0

unfoldable all_rules : ℕ
unfolding gap_of adjust clear packets_of bytes_of rested_flow retuned all_packets appended fattest shed_count overflow shed cut_back is_lost_itself
    need given stay leave chosen turned first_ready moved with_rest arranged selected packet_sent packets_dropped flow_after front sender sent_from
    dropped_from paid with_sent after_sending quanta_in visits quanta_turned passed_over old_list quanta_old quanta_given grants settings packet
    arrives poll
all_rules = 0

numbers : List Descriptor → List ℕ
numbers packets = map (λ (p : Descriptor). p.number) packets

-- the numbers of the packets of the flow with this port that arrive in the interval, and of those that its polls give
came : ℕ → List Event → List ℕ
came port during = numbers (flow_among (packet port 0) (filter_map brought during))

gave : ℕ → List Event → List Event → List ℕ
gave port before during = numbers (flow_among (packet port 0) (filter_map given_in (answers (device_after settings before) during)))

-- ---- an fq_codel with room for two packets: the fat flow loses its first one

two_places : List Event
two_places =
    Command (QdiscAdd Root (Some 1) (FqCodel (record { limit = Some 2; flows = Some 4; quantum = None; target = None; interval = None; ecn = None; drop_batch = None }))) 0 ∷ []

three_of_one : List Event
three_of_one = arrives 1 1 ∷ arrives 2 2 ∷ arrives 1 3 ∷ arrives 1 4 ∷ poll ∷ poll ∷ poll ∷ []

first_came : came 1 three_of_one ≡ 1 ∷ 3 ∷ 4 ∷ []
unfolding came numbers three_of_one all_rules
first_came = refl

first_gave : gave 1 two_places three_of_one ≡ 4 ∷ []
unfolding gave numbers two_places three_of_one all_rules
first_gave = refl

second_gave : gave 2 two_places three_of_one ≡ 2 ∷ []
unfolding gave numbers two_places three_of_one all_rules
second_gave = refl

-- ---- a prio: a filter that comes between sends the second packet of a flow before its first one

bands : List Event
bands = Command (QdiscAdd Root (Some 1) (Prio (record { bands = 3; priomap = 1 ∷ 2 ∷ 2 ∷ 2 ∷ 1 ∷ 2 ∷ 0 ∷ 0 ∷ 1 ∷ 1 ∷ 1 ∷ 1 ∷ 1 ∷ 1 ∷ 1 ∷ 1 ∷ [] }))) 0 ∷ []

filter_first : Event
filter_first =
    Command (FilterAdd 1 1 (record { prio = 1; protocol = protocol.All; keys = record { ip_proto = None; src_ip = None; dst_ip = None; src_port = Some 1; dst_port = None }; minor = 1 })) 0

undisturbed : gave 1 bands (arrives 1 1 ∷ arrives 2 2 ∷ arrives 1 3 ∷ poll ∷ poll ∷ poll ∷ []) ≡ 1 ∷ 3 ∷ []
unfolding gave numbers bands all_rules
undisturbed = refl

overtaken : gave 1 bands (arrives 1 1 ∷ filter_first ∷ arrives 1 2 ∷ poll ∷ poll ∷ []) ≡ 2 ∷ 1 ∷ []
unfolding gave numbers bands filter_first all_rules
overtaken = refl

-- ---- parts

middle_left_out : IsPartOf {A = ℕ} (1 ∷ 3 ∷ []) (1 ∷ 2 ∷ 3 ∷ [])
middle_left_out = inl (refl, inr (inl (refl, tt)))

never_turned : IsPartOf {A = ℕ} (2 ∷ 1 ∷ []) (1 ∷ 2 ∷ []) → ⊥
never_turned (inl h) = omega (arith, h.0)
never_turned (inr (inl h)) = h.1
never_turned (inr (inr h)) = h
