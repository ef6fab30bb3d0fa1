-- The laws of specs/Laws.antt.
use Rattle.std.proofs.Common.{◌≡◌, ℕ, zero, suc, ◌+◌, ◌<◌, ◌≤◌, List, [], ◌∷◌, ◌++◌, length, take, drop, sum_by, flat_map, Option, Some, None, option_map, option_and_then, option_to_list, unwrap_or, refl, sym, ap, ap₂, ◌∙◌, arith, ⊎_elim}
use Rattle.std.specs.Prelude.{slice_get}
use Rattle.std.proofs.lemmas.Bool.{cases_lt}
use Rattle.std.proofs.lemmas.List.Sums.{sum_by-cons, sum_by-append, sum_by_push, sum_by-take-drop}
use Rattle.q_packet.specs.Descriptor.{Descriptor}
use Rattle.q_packet.specs.declared.stamped.Stamped.{Stamped}
use Rattle.q_codel.specs.Codel.{drops, sent, leaving, marks}
use Rattle.q_codel.specs.declared.codel.Taken.{Taken}
use Rattle.q_fqcodel.specs.Cleared.{adjust, clear}
use Rattle.q_fqcodel.specs.Selection.{arranged}
use Rattle.q_fqcodel.specs.FqState.{Flow, FqState, queues, queue_of, is_idle, packets_of, all_packets, rested_flow}
use Rattle.q_fqcodel.specs.Put.{flow_of, joined, appended, shortened, fattest, shed_count, overflow, cut_back, shed, after_put, lost_by_put}
use Rattle.q_fqcodel.specs.Take.{selected, packet_sent, packets_dropped, flow_after, sender, sent_from, dropped_from, with_sent, after_sending}
use Rattle.q_fqcodel.specs.Laws.{head_sent, PutKeepsAll, TakeKeepsAll, GivesTheHead, PutLeavesOne}
use Rattle.q_fqcodel.specs.Entry.{Entry}
use Rattle.q_fqcodel.proofs.FlowLemmas.{queues-rested_flow}
use Rattle.q_fqcodel.proofs.PutLemmas.{packets_of-joined, packets_of-shortened, cut_none, cut_some, shed_within}
use Rattle.q_fqcodel.proofs.SentLemmas.{sender_found, sender_none, dropped_none}

pub all_packets-cons : (f : Flow) (fs : List Flow) → all_packets (f ∷ fs) ≡ f.queue ++ all_packets fs
unfolding all_packets
all_packets-cons f fs = refl

all_packets_none : all_packets [] ≡ []
unfolding all_packets
all_packets_none = refl

module _ (w : Stamped → ℕ) where
  total : List Flow → ℕ
  total fs = sum_by w (all_packets fs)

  total-cons : (f : Flow) (fs : List Flow) → total (f ∷ fs) ≡ sum_by w f.queue + total fs
  unfolding total
  total-cons f fs = ap (sum_by w) (all_packets-cons f fs) ∙ sum_by-append w f.queue (all_packets fs)

  -- one flow loses some of its packets
  total_lost : (g : Flow → Flow) (lost : Flow → List Stamped) → ((f : Flow) → sum_by w (g f).queue + sum_by w (lost f) ≡ sum_by w f.queue)
      → (n : ℕ) (fs : List Flow) → total (adjust g n fs) + sum_by w (unwrap_or (option_map lost (slice_get fs n)) []) ≡ total fs
  unfolding adjust
  total_lost g lost split n [] = omega arith
  total_lost g lost split zero (f ∷ fs) = omega (arith, total-cons f fs, total-cons (g f) fs, split f)
  total_lost g lost split (suc n) (f ∷ fs) = omega (arith, total-cons f fs, total-cons f (adjust g n fs), total_lost g lost split n fs)

  -- one flow gets a packet more
  total-joined : (p : Stamped) (n : ℕ) (fs : List Flow) → n < length fs → total (adjust (joined p) n fs) ≡ total fs + w p
  unfolding adjust
  total-joined p n [] h = absurd (omega arith)
  total-joined p zero (f ∷ fs) h = omega (arith, total-cons f fs, total-cons (joined p f) fs, sum_by_push w f.queue p)
  total-joined p (suc n) (f ∷ fs) h = omega (arith, total-cons f fs, total-cons f (adjust (joined p) n fs), total-joined p n fs (omega arith))

  front_part : (k n : ℕ) (fs : List Flow) → unwrap_or (option_map (λ (f : Flow). take k f.queue) (slice_get fs n)) [] ≡ take k (queue_of fs n)
  front_part zero n [] = refl
  front_part (suc k) n [] = refl
  front_part k zero (f ∷ fs) = refl
  front_part k (suc n) (f ∷ fs) = front_part k n fs

  total-cut_back : (a : FqState) → total (cut_back a).flows + sum_by w (shed a) ≡ total a.flows
  unfolding cut_back shed
  total-cut_back a =
      let k : ℕ = overflow a in
      let n : ℕ = fattest a.flows in
      ap (λ (l : List Stamped). total (adjust (shortened k) n a.flows) + sum_by w l) (sym (front_part k n a.flows))
      ∙ total_lost (shortened k) (λ (f : Flow). take k f.queue) (λ f. omega (arith, sum_by-take-drop w f.queue k)) n a.flows

  total-appended : (s : FqState) (packet : Descriptor) (now : ℕ) → flow_of s packet < length s.flows → total (appended s packet now).flows ≡ total s.flows + w (record { packet = packet; at = now })
  unfolding appended
  total-appended s packet now within = total-joined (record { packet = packet; at = now }) (flow_of s packet) s.flows within

  put_keeps : (s : FqState) (packet : Descriptor) (now : ℕ) → flow_of s packet < length s.flows
      → sum_by w (all_packets (after_put s packet now).flows) + sum_by w (lost_by_put s packet now) ≡ sum_by w (all_packets s.flows) + w (record { packet = packet; at = now })
  unfolding total
  put_keeps s packet now within = total-cut_back (appended s packet now) ∙ total-appended s packet now within

  -- a queue is what stands before a packet, the packet, and what stands behind it
  split_at : (q : List Stamped) (j : ℕ) → sum_by w (drop (suc j) q) + sum_by w (take j q ++ option_to_list (slice_get q j)) ≡ sum_by w q
  split_at [] zero = omega arith
  split_at [] (suc j) = omega arith
  split_at (x ∷ xs) zero = omega (arith, sum_by-cons w x xs, sum_by-cons w x [])
  split_at (x ∷ xs) (suc j) = omega (arith, sum_by-cons w x xs, sum_by-cons w x (take j xs ++ option_to_list (slice_get xs j)), split_at xs j)

  -- what a flow that sends loses in all
  gone_from : ℕ → Flow → List Stamped
  gone_from now f = packets_dropped now f ++ option_to_list (sent f.codel now f.queue)

  gone_split : (now : ℕ) (f : Flow) → sum_by w (flow_after now f).queue + sum_by w (gone_from now f) ≡ sum_by w f.queue
  unfolding gone_from flow_after packets_dropped
  gone_split now f = split_at f.queue (drops f.codel now f.queue)

  gone_parts : (now : ℕ) (o : Option Flow) → sum_by w (unwrap_or (option_map (gone_from now) o) [])
      ≡ sum_by w (unwrap_or (option_map (packets_dropped now) o) []) + sum_by w (option_to_list (option_and_then (λ (f : Flow). sent f.codel now f.queue) o))
  unfolding gone_from
  gone_parts now None = omega arith
  gone_parts now (Some f) = sum_by-append w (packets_dropped now f) (option_to_list (sent f.codel now f.queue))

  -- the flow in front sends
  total_sent : (s : FqState) (e : Entry) (rest : List Entry) (now : ℕ) → s.new_flows ++ s.old_flows ≡ e ∷ rest
      → total (adjust (flow_after now) e.flow s.flows) + sum_by w (dropped_from now s) + sum_by w (option_to_list (head_sent now s)) ≡ total s.flows
  unfolding dropped_from
  total_sent s e rest now at_front =
      let o : Option Flow = slice_get s.flows e.flow in
      let d = ap (λ (x : Option Flow). sum_by w (unwrap_or (option_map (packets_dropped now) x) [])) (sender_found s e rest at_front) in
      let h = ap (λ (x : Option Flow). sum_by w (option_to_list (option_and_then (λ (f : Flow). sent f.codel now f.queue) x))) (sender_found s e rest at_front) in
      omega (arith, d, h, gone_parts now o, total_lost (flow_after now) (gone_from now) (gone_split now) e.flow s.flows)

  sends_keep : (s : FqState) (new_flows old_flows : List Entry) (now : ℕ) → s.new_flows ≡ new_flows → s.old_flows ≡ old_flows
      → total (with_sent now s new_flows old_flows).flows + sum_by w (dropped_from now s) + sum_by w (option_to_list (head_sent now s)) ≡ total s.flows
  unfolding with_sent
  sends_keep s (e ∷ es) old_flows now f l = total_sent s e (es ++ old_flows) now (ap₂ (λ (a b : List Entry). a ++ b) f l)
  sends_keep s [] (e ∷ es) now f l = total_sent s e es now (ap₂ (λ (a b : List Entry). a ++ b) f l)
  sends_keep s [] [] now f l =
      omega (
        arith,
        ap (sum_by w) (dropped_none s now f l),
        ap (λ (o : Option Flow). sum_by w (option_to_list (option_and_then (λ (f : Flow). sent f.codel now f.queue) o))) (sender_none s f l),
      )

  pub queues-clear : (ns : List ℕ) (fs : List Flow) → queues (clear rested_flow ns fs) ≡ queues fs
  unfolding clear
  queues-clear [] fs = refl
  queues-clear (n ∷ ns) fs = queues-clear ns (adjust rested_flow n fs) ∙ queues-rested_flow n fs

  all_packets_by_queues : (fs : List Flow) → all_packets fs ≡ flat_map (λ (q : List Stamped). q) (queues fs)
  all_packets_by_queues [] = all_packets_none
  all_packets_by_queues (f ∷ fs) = all_packets-cons f fs ∙ ap (λ (l : List Stamped). f.queue ++ l) (all_packets_by_queues fs)

  total-selected : (s : FqState) → total (selected s).flows ≡ total s.flows
  unfolding selected total
  total-selected s =
      let gone : List ℕ = (arranged s.settings.quantum (is_idle s.flows) s.new_flows s.old_flows).gone in
      ap (sum_by w) (all_packets_by_queues (clear rested_flow gone s.flows) ∙ ap (flat_map (λ (q : List Stamped). q)) (queues-clear gone s.flows) ∙ sym (all_packets_by_queues s.flows))

  take_keeps : (s : FqState) (now : ℕ)
      → sum_by w (all_packets (after_sending now (selected s)).flows) + sum_by w (dropped_from now (selected s))
      + sum_by w (option_to_list (head_sent now (selected s))) ≡ sum_by w (all_packets s.flows)
  unfolding after_sending total
  take_keeps s now = sends_keep (selected s) (selected s).new_flows (selected s).old_flows now refl refl ∙ total-selected s

pub put_keeps_all : PutKeepsAll
put_keeps_all w s packet now within = put_keeps w s packet now within

pub take_keeps_all : TakeKeepsAll
take_keeps_all w s now = take_keeps w s now

-- what a take gives, by the head of a flow
given_head : (f : Flow) (now : ℕ) (o : Option Stamped) (given : Taken) (head : Stamped)
    → option_map (λ (h : Stamped). record { packet = leaving (marks f.codel now f.queue) h.packet; marked = marks f.codel now f.queue }) o
    ≡ Some given
    → o ≡ Some head
    → given.packet ≡ leaving given.marked head.packet
given_head f now None given head g h = cc
given_head f now (Some x) given head g h =
    let same : x ≡ head = cc in
    let is : record { packet = leaving (marks f.codel now f.queue) x.packet; marked = marks f.codel now f.queue } ≡ given = cc in
    ap (λ (t : Taken). t.packet) (sym is) ∙ ap₂ (λ (m : _) (y : Stamped). leaving m y.packet) (ap (λ (t : Taken). t.marked) is) same

given_from : (o : Option Flow) (now : ℕ) (given : Taken) (head : Stamped) → option_and_then (packet_sent now) o ≡ Some given → option_and_then (λ (f : Flow). sent f.codel now f.queue) o ≡ Some head
    → given.packet ≡ leaving given.marked head.packet
unfolding packet_sent
given_from None now given head g h = cc
given_from (Some f) now given head g h = given_head f now (sent f.codel now f.queue) given head g h

pub gives_the_head : GivesTheHead
unfolding sent_from
gives_the_head s now given head g h = given_from (sender s) now given head g h

shed_leaves : (flows : List Flow) (batch : ℕ) → 0 < packets_of flows → shed_count flows batch < packets_of flows
unfolding shed_count
shed_leaves flows batch some = omega arith

pub packets_of-appended : (s : FqState) (packet : Descriptor) (now : ℕ) → flow_of s packet < length s.flows → packets_of (appended s packet now).flows ≡ packets_of s.flows + 1
unfolding appended
packets_of-appended s packet now within = packets_of-joined (record { packet = packet; at = now }) (flow_of s packet) s.flows within

pub put_leaves_one : PutLeavesOne
put_leaves_one s packet now within =
    let a : FqState = appended s packet now in
    let more = packets_of-appended s packet now within in
    ⊎_elim
    (λ (over : a.settings.limit < packets_of a.flows).
    let n : ℕ = shed_count a.flows a.settings.drop_batch in
    omega (
      arith,
      ap (λ (x : FqState). packets_of x.flows) (cut_some a (fattest a.flows) n over refl refl),
      packets_of-shortened n (fattest a.flows) a.flows (shed_within a.flows a.settings.drop_batch),
      shed_leaves a.flows a.settings.drop_batch (omega (arith, more)),
    ))
    (λ (in_limit : packets_of a.flows ≤ a.settings.limit). omega (arith, ap (λ (x : FqState). packets_of x.flows) (cut_none a in_limit), more))
    (cases_lt a.settings.limit (packets_of a.flows))
