-- The packets of one flow in a fifo and in an fq_codel: what a take gives, and what an arrival leaves.
use Rattle.std.proofs.Common.{◌≡◌, ℕ, zero, suc, inl, inr, refl, sym, ap, subst, ◌∙◌, List, [], ◌∷◌, ◌++◌, map, set, drop, Option, Some, None, option_map, option_and_then, option_to_list}
use Rattle.std.specs.Prelude.{Bool, true, false, slice_get, filter, if◌then◌else◌}
use Rattle.std.proofs.lemmas.List.{map-append}
use Rattle.std.proofs.lemmas.Option.{none-some, same_Some}
use Rattle.q_packet.specs.Descriptor.{Descriptor}
use Rattle.q_packet.specs.declared.ecn.Ecn.TheVariants.{Ce, NotEct}
use Rattle.q_packet.specs.declared.stamped.Stamped.{Stamped}
use Rattle.q_codel.specs.Codel.{drops, marks, leaving}
use Rattle.q_codel.specs.declared.codel.Taken.{Taken}
use Rattle.q_fqcodel.specs.Cleared.{adjust}
use Rattle.q_fqcodel.specs.Entry.{Entry}
use Rattle.q_fqcodel.specs.FqState.{Flow, FqState, queues, is_idle, all_packets}
use Rattle.q_fqcodel.specs.Put.{flow_of, joined, appended, fattest, overflow, shortened, cut_back, after_put}
use Rattle.q_fqcodel.specs.Selection.{arranged}
use Rattle.q_fqcodel.specs.Take.{selected, packet_sent, flow_after, front, sender, sent_from, after_sending}
use Rattle.q_fqcodel.proofs.LawLemmas.{queues-clear}
use Rattle.q_fqcodel.proofs.SentLemmas.{sender_found, after_none, sent_none, front_is, front_none, after_sending_written}
use Rattle.q_model.specs.Beneath.{packets_of}
use Rattle.q_laws.specs.order.Order.{is_alike, flow_among, IsPartOf}
use Rattle.q_laws.proofs.order.OrderParts.{flat, flow-append, IsLess, OnlyAt, AreLess, are-less-refl, less-flat, less-only, Gives, less-gives, skip-rest, only-set, flat-set}
use Rattle.q_laws.proofs.order.PartLemmas.{part-refl, part-trans, part-behind, part-front}

-- ---- one queue

module _ (c : Descriptor) where
  pub alike-none : (p : Descriptor) → is_alike c p ≡ false → flow_among c (p ∷ []) ≡ []
  alike-none p e = ap (λ (b : Bool). map (λ (q : Descriptor). record q { ecn = NotEct }) (if b then p ∷ [] else [])) e

  -- a mark changes neither which flow a packet is of nor what is compared of it
  pub marked-same : (m : Bool) (p : Descriptor) (ps : List Descriptor) → flow_among c (leaving m p ∷ ps) ≡ flow_among c (p ∷ ps)
  marked-same false p ps = refl
  marked-same true p ps = by (is_alike c p)
    where
      by : (b : Bool) → map (λ (q : Descriptor). record q { ecn = NotEct }) (if b then record p { ecn = Ce } ∷ filter (is_alike c) ps else filter (is_alike c) ps)
          ≡ map (λ (q : Descriptor). record q { ecn = NotEct }) (if b then p ∷ filter (is_alike c) ps else filter (is_alike c) ps)
      by true = refl
      by false = refl

  pub less-trans : (a b d : List Descriptor) → IsLess c a b → IsLess c b d → IsLess c a d
  less-trans a b d h k = part-trans (flow_among c a) (flow_among c b) (flow_among c d) h k

  -- more in front, or behind
  pub less-before : (more a b : List Descriptor) → IsLess c a b → IsLess c a (more ++ b)
  less-before more a b h =
      subst (IsPartOf (flow_among c a)) (sym (flow-append c more b))
      (part-trans (flow_among c a) (flow_among c b) (flow_among c more ++ flow_among c b) h (part-behind (flow_among c more) (flow_among c b)))

  pub less-after : (more a b : List Descriptor) → IsLess c a b → IsLess c a (b ++ more)
  less-after more a b h =
      subst (IsPartOf (flow_among c a)) (sym (flow-append c b more))
      (part-trans (flow_among c a) (flow_among c b) (flow_among c b ++ flow_among c more) h (part-front (flow_among c b) (flow_among c more)))

  -- the packet that CoDel sends stands before those that it leaves
  abbrev leaves : Bool → Option Stamped → List Descriptor
  leaves m o = option_to_list (option_map (λ (t : Taken). t.packet) (option_map (λ (head : Stamped). record { packet = leaving m head.packet; marked = m }) o))

  head-first : (m : Bool) (queue : List Stamped) (n : ℕ) → IsLess c (leaves m (slice_get queue n) ++ packets_of (drop (suc n) queue)) (packets_of queue)
  head-first m [] n = tt
  head-first m (x ∷ queue) zero =
      subst (λ xs. IsPartOf xs (flow_among c (x.packet ∷ packets_of queue))) (sym (marked-same m x.packet (packets_of queue))) (part-refl (flow_among c (x.packet ∷ packets_of queue)))
  head-first m (x ∷ queue) (suc n) = less-before (x.packet ∷ []) (leaves m (slice_get queue n) ++ packets_of (drop (suc n) queue)) (packets_of queue) (head-first m queue n)

  pub queue-drops : (n : ℕ) (queue : List Stamped) → IsLess c (packets_of (drop n queue)) (packets_of queue)
  queue-drops zero queue = part-refl (flow_among c (packets_of queue))
  queue-drops (suc n) [] = tt
  queue-drops (suc n) (x ∷ queue) = less-before (x.packet ∷ []) (packets_of (drop n queue)) (packets_of queue) (queue-drops n queue)

  -- a fifo gives its head
  pub fifo-gives : (queue : List Stamped) → IsLess c (option_to_list (slice_get (packets_of queue) 0) ++ packets_of (drop 1 queue)) (packets_of queue)
  fifo-gives [] = tt
  fifo-gives (x ∷ queue) = part-refl (flow_among c (x.packet ∷ packets_of queue))

-- ---- the flows of an fq_codel

abbrev pub flow_queues : List Flow → List (List Descriptor)
flow_queues flows = map (λ (q : List Stamped). packets_of q) (queues flows)

pub all-flat : (flows : List Flow) → packets_of (all_packets flows) ≡ flat (flow_queues flows)
unfolding all_packets
all-flat [] = refl
all-flat (f ∷ flows) = map-append (λ (x : Stamped). x.packet) f.queue (all_packets flows) ∙ ap (λ (ps : List Descriptor). packets_of f.queue ++ ps) (all-flat flows)

module _ (c : Descriptor) where
  less-adjust : (g : Flow → Flow) → ((f : Flow) → IsLess c (packets_of (g f).queue) (packets_of f.queue)) → (n : ℕ) (flows : List Flow) → AreLess c (flow_queues (adjust g n flows)) (flow_queues flows)
  unfolding adjust
  less-adjust g h n [] = tt
  less-adjust g h zero (f ∷ flows) = (h f, are-less-refl c (flow_queues flows))
  less-adjust g h (suc n) (f ∷ flows) = (part-refl (flow_among c (packets_of f.queue)), less-adjust g h n flows)

  gives-adjust : (g : Flow → Flow) (given : List Descriptor) (n : ℕ) (flows : List Flow) (f : Flow) → slice_get flows n ≡ Some f → IsLess c (given ++ packets_of (g f).queue) (packets_of f.queue)
      → Gives c given (flow_queues (adjust g n flows)) (flow_queues flows)
  unfolding adjust
  gives-adjust g given n [] f e h = absurd (none-some f e)
  gives-adjust g given zero (d ∷ flows) f e h =
      inl (subst (λ (x : Flow). IsLess c (given ++ packets_of (g x).queue) (packets_of x.queue)) (sym (same_Some d f e)) h, are-less-refl c (flow_queues flows))
  gives-adjust g given (suc n) (d ∷ flows) f e h = inr (part-refl (flow_among c (packets_of d.queue)), gives-adjust g given n flows f e h)

  set-adjust : (g : Flow → Flow) (n : ℕ) (flows : List Flow) (f : Flow) → slice_get flows n ≡ Some f → flow_queues (adjust g n flows) ≡ set (flow_queues flows) n (packets_of (g f).queue)
  unfolding adjust
  set-adjust g n [] f e = absurd (none-some f e)
  set-adjust g zero (d ∷ flows) f e = ap (λ (x : Flow). packets_of (g x).queue ∷ flow_queues flows) (same_Some d f e)
  set-adjust g (suc n) (d ∷ flows) f e = ap (λ (qs : List (List Descriptor)). packets_of d.queue ∷ qs) (set-adjust g n flows f e)

  still-adjust : (g : Flow → Flow) (n : ℕ) (flows : List Flow) → slice_get flows n ≡ None → adjust g n flows ≡ flows
  unfolding adjust
  still-adjust g n [] e = refl
  still-adjust g zero (f ∷ flows) e = absurd (none-some f (sym e))
  still-adjust g (suc n) (f ∷ flows) e = ap (λ (fs : List Flow). f ∷ fs) (still-adjust g n flows e)

  queue-at : (flows : List Flow) (n : ℕ) (f : Flow) → slice_get flows n ≡ Some f → slice_get (flow_queues flows) n ≡ Some (packets_of f.queue)
  queue-at [] n f e = absurd (none-some f e)
  queue-at (d ∷ flows) zero f e = ap (λ (x : Flow). Some (packets_of x.queue)) (same_Some d f e)
  queue-at (d ∷ flows) (suc n) f e = queue-at flows n f e

  -- ---- a take

  after-less : (now : ℕ) (f : Flow) → IsLess c (packets_of (flow_after now f).queue) (packets_of f.queue)
  unfolding flow_after
  after-less now f = queue-drops c (suc (drops f.codel now f.queue)) f.queue

  abbrev gives : Option Taken → List Descriptor
  gives o = option_to_list (option_map (λ (t : Taken). t.packet) o)

  flow-sends : (now : ℕ) (f : Flow) → IsLess c (gives (packet_sent now f) ++ packets_of (flow_after now f).queue) (packets_of f.queue)
  unfolding packet_sent flow_after
  flow-sends now f = head-first c (marks f.codel now f.queue) f.queue (drops f.codel now f.queue)

  front-sends : (now : ℕ) (n : ℕ) (flows : List Flow) (o : Option Flow) → slice_get flows n ≡ o
      → Gives c (gives (option_and_then (packet_sent now) o)) (flow_queues (adjust (flow_after now) n flows)) (flow_queues flows)
  front-sends now n flows None e = less-gives c [] (flow_queues (adjust (flow_after now) n flows)) (flow_queues flows) refl (less-adjust (flow_after now) (after-less now) n flows)
  front-sends now n flows (Some f) e = gives-adjust (flow_after now) (gives (packet_sent now f)) n flows f e (flow-sends now f)

  chosen-sends : (now : ℕ) (s : FqState) → Gives c (gives (sent_from now s)) (flow_queues (after_sending now s).flows) (flow_queues s.flows)
  unfolding sent_from
  chosen-sends now s = by (front s) refl
    where
      by : (o : Option Entry) → front s ≡ o → Gives c (gives (option_and_then (packet_sent now) (sender s))) (flow_queues (after_sending now s).flows) (flow_queues s.flows)
      by None e =
          let none = front_none s e in
          let nothing : gives (option_and_then (packet_sent now) (sender s)) ≡ [] = ap gives (sent_none s now none.0 none.1) in
          subst (λ (ps : List Descriptor). Gives c ps (flow_queues (after_sending now s).flows) (flow_queues s.flows)) (sym nothing)
          (subst (λ (t : FqState). Gives c [] (flow_queues t.flows) (flow_queues s.flows)) (sym (after_none s now none.0 none.1))
          (less-gives c [] (flow_queues s.flows) (flow_queues s.flows) refl (are-less-refl c (flow_queues s.flows))))
      by (Some e) at =
          let flows_are : (after_sending now s).flows ≡ adjust (flow_after now) e.flow s.flows = ap (λ (t : FqState). t.flows) (after_sending_written s e now at) in
          let sender_is : sender s ≡ slice_get s.flows e.flow = sender_found s e (drop 1 (s.new_flows ++ s.old_flows)) (front_is s e at) in
          subst (λ (o : Option Flow). Gives c (gives (option_and_then (packet_sent now) o)) (flow_queues (after_sending now s).flows) (flow_queues s.flows)) (sym sender_is)
          (subst (λ (fs : List Flow). Gives c (gives (option_and_then (packet_sent now) (slice_get s.flows e.flow))) (flow_queues fs) (flow_queues s.flows)) (sym flows_are)
          (front-sends now e.flow s.flows (slice_get s.flows e.flow) refl))

  selected-same : (s : FqState) → flow_queues (selected s).flows ≡ flow_queues s.flows
  unfolding selected
  selected-same s =
      ap (map (λ (q : List Stamped). packets_of q)) (queues-clear (λ (x : Stamped). 0) (arranged s.settings.quantum (is_idle s.flows) s.new_flows s.old_flows).gone s.flows)

  pub take-gives : (now : ℕ) (s : FqState) → Gives c (gives (sent_from now (selected s))) (flow_queues (after_sending now (selected s)).flows) (flow_queues s.flows)
  take-gives now s = subst (Gives c (gives (sent_from now (selected s))) (flow_queues (after_sending now (selected s)).flows)) (selected-same s) (chosen-sends now (selected s))

  -- ---- an arrival

  abbrev stamped : Descriptor → ℕ → Stamped
  stamped p now = record { packet = p; at = now }

  join-is : (p : Descriptor) (now : ℕ) (f : Flow) → packets_of (joined (stamped p now) f).queue ≡ packets_of f.queue ++ p ∷ []
  join-is p now f = map-append (λ (x : Stamped). x.packet) f.queue (stamped p now ∷ [])

  -- of another flow
  other-joins : (p : Descriptor) (now : ℕ) → is_alike c p ≡ false → (f : Flow) → IsLess c (packets_of (joined (stamped p now) f).queue) (packets_of f.queue)
  other-joins p now e f =
      let same : flow_among c (packets_of (joined (stamped p now) f).queue) ≡ flow_among c (packets_of f.queue) =
      ap (flow_among c) (join-is p now f) ∙ skip-rest c (packets_of f.queue) (p ∷ []) (alike-none c p e) in
      subst (λ xs. IsPartOf xs (flow_among c (packets_of f.queue))) (sym same) (part-refl (flow_among c (packets_of f.queue)))

  abbrev Joins : Descriptor → ℕ → List Flow → List Flow → Type 0
  Joins p k flows after = IsLess c (flat (flow_queues after)) (flat (flow_queues flows) ++ p ∷ []) × OnlyAt c k (flow_queues after)

  less-joins : (p : Descriptor) (k : ℕ) (flows after : List Flow) → OnlyAt c k (flow_queues flows) → AreLess c (flow_queues after) (flow_queues flows) → Joins p k flows after
  less-joins p k flows after o h =
      (less-after c (p ∷ []) (flat (flow_queues after)) (flat (flow_queues flows)) (less-flat c (flow_queues after) (flow_queues flows) h), less-only c k (flow_queues after) (flow_queues flows) h o)

  own-joins : (p : Descriptor) (now k : ℕ) (flows : List Flow) (o : Option Flow) → slice_get flows k ≡ o → OnlyAt c k (flow_queues flows) → Joins p k flows (adjust (joined (stamped p now)) k flows)
  own-joins p now k flows None e o =
      less-joins p k flows (adjust (joined (stamped p now)) k flows) o
      (subst (λ (fs : List Flow). AreLess c (flow_queues fs) (flow_queues flows)) (sym (still-adjust (joined (stamped p now)) k flows e)) (are-less-refl c (flow_queues flows)))
  own-joins p now k flows (Some f) e o =
      let qs : List Descriptor = packets_of (joined (stamped p now) f).queue in
      let same : flow_queues (adjust (joined (stamped p now)) k flows) ≡ set (flow_queues flows) k qs = set-adjust (joined (stamped p now)) k flows f e in
      let here : IsLess c qs (packets_of f.queue ++ p ∷ []) = subst (IsLess c qs) (join-is p now f) (part-refl (flow_among c qs)) in (
        subst (λ (bs : List (List Descriptor)). IsLess c (flat bs) (flat (flow_queues flows) ++ p ∷ [])) (sym same)
            (flat-set c (flow_queues flows) k (packets_of f.queue) qs (p ∷ []) (queue-at flows k f e) o here),
        subst (OnlyAt c k) (sym same) (only-set c (flow_queues flows) k qs o),
      )

  joins : (p : Descriptor) (now k n : ℕ) (flows : List Flow) → OnlyAt c k (flow_queues flows) → (is_alike c p ≡ true → n ≡ k) → Joins p k flows (adjust (joined (stamped p now)) n flows)
  joins p now k n flows o same = by (is_alike c p) refl
    where
      by : (b : Bool) → is_alike c p ≡ b → Joins p k flows (adjust (joined (stamped p now)) n flows)
      by false e = less-joins p k flows (adjust (joined (stamped p now)) n flows) o (less-adjust (joined (stamped p now)) (other-joins p now e) n flows)
      by true e = subst (λ i. Joins p k flows (adjust (joined (stamped p now)) i flows)) (sym (same e)) (own-joins p now k flows (slice_get flows k) refl o)

  cut-joins : (p : Descriptor) (k m n : ℕ) (flows after : List Flow) → Joins p k flows after → Joins p k flows (adjust (shortened m) n after)
  cut-joins p k m n flows after h =
      let less : AreLess c (flow_queues (adjust (shortened m) n after)) (flow_queues after) = less-adjust (shortened m) (λ f. queue-drops c m f.queue) n after in (
        less-trans c (flat (flow_queues (adjust (shortened m) n after))) (flat (flow_queues after)) (flat (flow_queues flows) ++ p ∷ [])
            (less-flat c (flow_queues (adjust (shortened m) n after)) (flow_queues after) less) h.0,
        less-only c k (flow_queues (adjust (shortened m) n after)) (flow_queues after) less h.1,
      )

  pub put-joins : (s : FqState) (p : Descriptor) (now k : ℕ) → OnlyAt c k (flow_queues s.flows) → (is_alike c p ≡ true → flow_of s p ≡ k) → Joins p k s.flows (after_put s p now).flows
  unfolding cut_back appended
  put-joins s p now k o same =
      let a : FqState = appended s p now in
      cut-joins p k (overflow a) (fattest a.flows) s.flows a.flows (joins p now k (flow_of s p) s.flows o same)

-- ---- what an arrival leaves of the settings

pub put-settings : (s : FqState) (p : Descriptor) (now : ℕ) → (after_put s p now).settings ≡ s.settings
unfolding cut_back appended
put-settings s p now = refl
