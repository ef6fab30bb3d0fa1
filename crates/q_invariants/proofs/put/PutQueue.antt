-- A packet that is queued where its way ends: at the end of a fifo, or in a flow of an fq_codel, which may lose packets for it.
use Rattle.std.proofs.Common.{◌≡◌, ℕ, ◌+◌, ◌≤◌, List, [], ◌∷◌, ◌++◌, map, refl, sym, ap, subst, Option, None, arith, ◌∙◌}
use Rattle.std.specs.Prelude.{true, All, length, is_some, ◌<◌}
use Rattle.std.proofs.lemmas.Nat.{mod_below}
use Rattle.std.proofs.lemmas.List.Elements.{All-nil, All-cons, All-head, All-tail, All-drop, All-push}
use Rattle.std.proofs.lemmas.List.Sums.{sum_by_push}
use Rattle.q_packet.specs.Descriptor.{Descriptor}
use Rattle.q_packet.specs.declared.cause.Cause.TheVariants.{FatFlow}
use Rattle.q_packet.specs.declared.stamped.Stamped.{Stamped}
use Rattle.q_codel.specs.declared.limit.Limit.{Limit}
use Rattle.q_fqcodel.specs.FqState.{FqSettings, Flow, FqState, all_packets}
use Rattle.q_fqcodel.specs.Laws.{HasBytes}
use Rattle.q_fqcodel.specs.Put.{flow_of, joined, appended, fattest, overflow, shortened, cut_back, after_put, lost_by_put}
use Rattle.q_fqcodel.specs.Ranges.{IsInRange}
use Rattle.q_fqcodel.proofs.KeptLemmas.{put_keeps_lawful}
use Rattle.q_fqcodel.proofs.LawLemmas.{all_packets-cons, put_keeps_all}
use Rattle.q_model.specs.declared.filter.Filter.{Filter}
use Rattle.q_model.specs.Find.{class_in}
use Rattle.q_model.specs.Numbers.{IsWithin}
use Rattle.q_model.specs.Node.{Fifo, FqCodel, Own, Forest, Shape, children}
use Rattle.q_model.specs.Beneath.{packets_of, beneath}
use Rattle.q_model.specs.Lawful.{IsLawfulFlow, IsLawfulFqCodel}
use Rattle.q_model.specs.Work.{losses_of}
use Rattle.q_model.specs.Put.{put_here}
use Rattle.q_invariants.specs.Kept.{IsLawfulRoot}
use Rattle.q_invariants.specs.Weights.{plain, weigh}
use Rattle.q_invariants.proofs.ask.Answer.{waiting}
use Rattle.q_invariants.proofs.ask.AskFqCodel.{All-adjust}
use Rattle.q_invariants.proofs.flow.FlowNotes.{stamped_weight, weigh-packets}
use Rattle.q_invariants.proofs.put.PutHere.{IsPut, put-parts}
use Rattle.q_invariants.proofs.sums.Lengths.{HasLength, lengths-among}
use Rattle.q_invariants.proofs.sums.Sums.{weigh-waiting, weigh-holds}
use Rattle.q_invariants.proofs.sums.Weights.{weigh-cons, arrived-nil, sent-nil, marked-nil, lost-nil, arrived-losses, sent-losses, lost-losses, marked-losses}
use Rattle.q_invariants.proofs.tree.Quiet.{quiets, waiting-quiet, beneath-quiets, quiets-told, quiets-lawful}
use Rattle.q_invariants.proofs.tree.Stamps.{stamped-push, stamped-drop}

-- the lengths of what was there, and of the packet that is put
pub longer-lengths : (mtu : ℕ) (p : Descriptor) (before after : List Descriptor) → IsWithin 1 mtu p.len
    → ((w : Descriptor → ℕ) → weigh w after ≤ w (plain p) + weigh w before) → All (HasLength mtu) before → All (HasLength mtu) after
longer-lengths mtu p before after fits fewer h =
    lengths-among mtu (p ∷ before) after (λ w. omega (arith, fewer w, weigh-cons w p before)) (All-cons (HasLength mtu) p before fits h)

module _ (mtu now : ℕ) (p : Descriptor) (fits : IsWithin 1 mtu p.len) (handle : Option ℕ) (held : Option Descriptor) (filters : List Filter) (since : ℕ) (below : Forest (Unit {0})) where
  abbrev stamped : Stamped
  stamped = record { packet = p; at = now }

  abbrev fifo_shape : Limit → List Stamped → Shape
  fifo_shape limit queue = record { own = record { handle = handle; discipline = Fifo limit queue; held = held; since = since; filters = filters }; memory = tt; below = below }

  pub fifo-put : (limit : Limit) (queue : List Stamped) → IsLawfulRoot mtu now (fifo_shape limit queue) → IsPut mtu now p (fifo_shape limit queue) (put_here now p None (fifo_shape limit queue))
  fifo-put limit queue h =
      let s : Shape = fifo_shape limit queue in
      let own : Own = record s.own { discipline = Fifo limit (queue ++ stamped ∷ []) } in
      let more : (w : Descriptor → ℕ) → w (plain p) + weigh w (waiting s.own (quiets s)) ≡ weigh w (waiting own (quiets s)) =
      λ w. omega (
        arith,
        weigh-waiting w s.own (quiets s),
        weigh-waiting w own (quiets s),
        weigh-packets w queue,
        weigh-packets w
            (queue ++ stamped ∷ []),
        sum_by_push (stamped_weight w) queue stamped,
      ) in
      put-parts mtu now p s own [] (quiets s) (record {
        handle = refl;
        lawful = record {
          discipline = record {
            stamps = stamped-push stamped queue h.0.discipline.stamps;
            none = beneath-quiets s ∙ h.0.discipline.none;
          };
          lengths = longer-lengths mtu p (waiting s.own (quiets s)) (waiting own (quiets s)) fits (λ w. omega (arith, more w)) (subst (All (HasLength mtu)) (sym (waiting-quiet s)) h.0.lengths);
          held = h.0.held;
          filters = h.0.filters;
          in_order = h.0.in_order;
          named = subst (λ (bs : List (List Descriptor)). All (λ (f : Filter). is_some (class_in (length bs) f.minor own.discipline) ≡ true) filters) (sym (beneath-quiets s)) h.0.named;
        };
        all = quiets-lawful mtu now below h.1;
        told = quiets-told (children s);
        no_arrival = arrived-nil;
        nothing_sent = sent-nil;
        nothing_marked = marked-nil;
        conserved = λ w. omega (arith, more w, lost-nil w);
        held = λ w. omega (arith, weigh-holds w s.own (quiets s), weigh-holds w own (quiets s));
      })

-- every packet of a flow has a byte
queue-bytes : (mtu : ℕ) (queue : List Stamped) (rest : List Stamped) → All (HasLength mtu) (packets_of (queue ++ rest))
    → All (λ (x : Stamped). 1 ≤ x.packet.len) queue × All (HasLength mtu) (packets_of rest)
queue-bytes mtu [] rest h = (All-nil (λ (x : Stamped). 1 ≤ x.packet.len), h)
queue-bytes mtu (x ∷ queue) rest h =
    let more = queue-bytes mtu queue rest (All-tail (HasLength mtu) x.packet (packets_of (queue ++ rest)) h) in
    (All-cons (λ (x : Stamped). 1 ≤ x.packet.len) x queue (All-head (HasLength mtu) x.packet (packets_of (queue ++ rest)) h).0 more.0, more.1)

flows-bytes : (mtu : ℕ) (flows : List Flow) → All (HasLength mtu) (packets_of (all_packets flows)) → All HasBytes flows
flows-bytes mtu [] h = All-nil HasBytes
flows-bytes mtu (f ∷ flows) h =
    let parts = queue-bytes mtu f.queue (all_packets flows) (subst (λ (q : List Stamped). All (HasLength mtu) (packets_of q)) (all_packets-cons f flows) h) in
    All-cons HasBytes f flows parts.0 (flows-bytes mtu flows parts.1)

-- the state after a put
put-settings : (s : FqState) (p : Descriptor) (now : ℕ) → (after_put s p now).settings ≡ s.settings
unfolding cut_back appended
put-settings s p now = refl

joined-lawful : (now : ℕ) (settings : FqSettings) (p : Descriptor) (f : Flow) → IsLawfulFlow now settings f → IsLawfulFlow now settings (joined (record { packet = p; at = now }) f)
joined-lawful now settings p f h = record {
  settings = h.settings;
  state = h.state;
  agrees = h.agrees;
  stamps = stamped-push (record { packet = p; at = now }) f.queue h.stamps;
}

shortened-lawful : (now : ℕ) (settings : FqSettings) (n : ℕ) (f : Flow) → IsLawfulFlow now settings f → IsLawfulFlow now settings (shortened n f)
shortened-lawful now settings n f h = record { settings = h.settings; state = h.state; agrees = h.agrees; stamps = stamped-drop now n f.queue h.stamps }

put-flows : (now : ℕ) (settings : FqSettings) (s : FqState) (p : Descriptor) → All (IsLawfulFlow now settings) s.flows → All (IsLawfulFlow now settings) (after_put s p now).flows
unfolding cut_back appended
put-flows now settings s p h =
    All-adjust (IsLawfulFlow now settings) (shortened (overflow (appended s p now))) (shortened-lawful now settings (overflow (appended s p now)))
    (fattest (appended s p now).flows) (appended s p now).flows
    (All-adjust (IsLawfulFlow now settings) (joined (record { packet = p; at = now })) (joined-lawful now settings p) (flow_of s p) s.flows h)

put-lawful : (mtu now : ℕ) (s : FqState) (p : Descriptor) (below : List (List Descriptor)) → 1 ≤ p.len → All HasBytes s.flows
    → IsLawfulFqCodel mtu now s below → IsLawfulFqCodel mtu now (after_put s p now) below
put-lawful mtu now s p below byte bytes h =
    let same = sym (put-settings s p now) in
    record {
      settings = subst IsInRange same h.settings;
      longest = ap (λ (x : FqSettings). x.mtu) (put-settings s p now) ∙ h.longest;
      lists = put_keeps_lawful s p now h.lists h.settings bytes byte;
      flows = subst (λ (x : FqSettings). All (IsLawfulFlow now x) (after_put s p now).flows) same (put-flows now s.settings s p h.flows);
      none = h.none;
    }

module _ (mtu now : ℕ) (p : Descriptor) (fits : IsWithin 1 mtu p.len) (handle : Option ℕ) (held : Option Descriptor) (filters : List Filter) (since : ℕ) (below : Forest (Unit {0})) where
  abbrev fq_shape : FqState → Shape
  fq_shape q = record { own = record { handle = handle; discipline = FqCodel q; held = held; since = since; filters = filters }; memory = tt; below = below }

  pub fq-put : (q : FqState) → IsLawfulRoot mtu now (fq_shape q) → IsPut mtu now p (fq_shape q) (put_here now p None (fq_shape q))
  fq-put q h =
      let s : Shape = fq_shape q in
      let own : Own = record s.own { discipline = FqCodel (after_put q p now) } in
      let gone : List Descriptor = packets_of (lost_by_put q p now) in
      let law = h.0.discipline in
      let in_flow : flow_of q p < length q.flows = subst (λ n. flow_of q p < n) (sym law.lists.each_flow) (mod_below p.hash q.settings.flows (omega (arith, law.settings.flows_low))) in
      let more : (w : Descriptor → ℕ) → w (plain p) + weigh w (waiting s.own (quiets s)) ≡ weigh w gone + weigh w (waiting own (quiets s)) =
      λ w. omega (
        arith,
        weigh-waiting w s.own (quiets s),
        weigh-waiting w own (quiets s),
        put_keeps_all (stamped_weight w) q p now in_flow,
        weigh-packets w (all_packets q.flows),
        weigh-packets w (all_packets (after_put q p now).flows),
        weigh-packets w (lost_by_put q p now),
      ) in
      let lengths : All (HasLength mtu) (waiting s.own (quiets s)) = subst (All (HasLength mtu)) (sym (waiting-quiet s)) h.0.lengths in
      let own_lengths : All (HasLength mtu) (packets_of (all_packets q.flows)) =
      lengths-among mtu (waiting s.own (quiets s)) (packets_of (all_packets q.flows)) (λ w. omega (arith, weigh-waiting w s.own (quiets s))) lengths in
      put-parts mtu now p s own (losses_of FatFlow gone) (quiets s) (record {
        handle = refl;
        lawful = record {
          discipline = put-lawful mtu now q p (map beneath (quiets s)) fits.0 (flows-bytes mtu q.flows own_lengths) (record {
            settings = law.settings;
            longest = law.longest;
            lists = law.lists;
            flows = law.flows;
            none = beneath-quiets s ∙ law.none;
          });
          lengths = longer-lengths mtu p (waiting s.own (quiets s)) (waiting own (quiets s)) fits (λ w. omega (arith, more w)) lengths;
          held = h.0.held;
          filters = h.0.filters;
          in_order = h.0.in_order;
          named = subst (λ (bs : List (List Descriptor)). All (λ (f : Filter). is_some (class_in (length bs) f.minor own.discipline) ≡ true) filters) (sym (beneath-quiets s)) h.0.named;
        };
        all = quiets-lawful mtu now below h.1;
        told = quiets-told (children s);
        no_arrival = λ w. arrived-losses w FatFlow gone;
        nothing_sent = λ w. sent-losses w FatFlow gone;
        nothing_marked = λ w. marked-losses w FatFlow gone;
        conserved = λ w. omega (arith, more w, lost-losses w FatFlow gone);
        held = λ w. omega (arith, weigh-holds w s.own (quiets s), weigh-holds w own (quiets s));
      })
