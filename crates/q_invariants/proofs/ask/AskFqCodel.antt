-- An fq_codel: CoDel takes a packet from the flow that is chosen, and may drop others before it.
use Rattle.std.proofs.Common.{◌≡◌, ℕ, zero, suc, ◌+◌, ◌≤◌, ◌^◌, List, [], ◌∷◌, ◌++◌, map, refl, sym, ap, subst, Option, Some, None, option_map, option_to_list, ◌∙◌, arith}
use Rattle.std.specs.Prelude.{All}
use Rattle.std.proofs.lemmas.List.Elements.{All-nil, All-cons, All-head, All-tail, All-drop}
use Rattle.q_packet.specs.Descriptor.{Descriptor}
use Rattle.q_packet.specs.declared.cause.Cause.TheVariants.{CoDel}
use Rattle.q_packet.specs.declared.stamped.Stamped.{Stamped}
use Rattle.q_codel.specs.Codel.{CodelState, CodelParams, IsCodelParams, params_of, drops}
use Rattle.q_codel.specs.declared.codel.Taken.{Taken}
use Rattle.q_codel.proofs.RangeLaw.{states_stay_in_range_holds}
use Rattle.q_fqcodel.specs.Cleared.{adjust, clear}
use Rattle.q_fqcodel.specs.Entry.{Entry}
use Rattle.q_fqcodel.specs.FqState.{FqSettings, Flow, FqState, is_idle, all_packets, rested_flow}
use Rattle.q_fqcodel.specs.Ranges.{IsInRange}
use Rattle.q_fqcodel.specs.Selection.{arranged}
use Rattle.q_fqcodel.specs.Take.{selected, flow_after, sent_from, dropped_from, with_sent, after_sending, head_sent}
use Rattle.q_fqcodel.proofs.KeptLemmas.{take_keeps_lawful}
use Rattle.q_model.specs.declared.filter.Filter.{Filter}
use Rattle.q_model.specs.Node.{FqCodel, Own}
use Rattle.q_model.specs.Beneath.{packets_of, beneath}
use Rattle.q_model.specs.Lawful.{AgreesWith, IsLawfulFlow, IsLawfulFqCodel, IsLawfulOwn}
use Rattle.q_model.specs.Work.{losses_of}
use Rattle.q_model.specs.Ask.{Asked, befores, marks_of, ask_fq_codel}
use Rattle.q_model.specs.Quanta.{flow_notes}
use Rattle.q_invariants.specs.Weights.{lost, weigh}
use Rattle.q_invariants.proofs.ask.Answer.{one, IsAnswer, AreAnswers, waiting, is-dequeued}
use Rattle.q_invariants.proofs.flow.FlowNotes.{take-weighs, nothing-dropped, marks-weigh, lost-marks, quiet-marks, flow-silent}
use Rattle.q_invariants.proofs.sums.Lengths.{lengths-among}
use Rattle.q_invariants.proofs.sums.Sums.{in_children, weigh-waiting, weigh-holds, befores-lawful, befores-told}
use Rattle.q_invariants.proofs.sums.Weights.{weigh-nil, weigh-one, quiet-append, quiet-losses, lost-append, lost-losses, marked-append, marked-losses}
use Rattle.std.specs.Option.{option_map_or}
use Rattle.q_model.specs.Since.{since_of}
use Rattle.q_invariants.proofs.tree.Stamps.{stamped-drop}

-- flows that are changed one by one
pub All-adjust : {F : Type 0} (P : F → Type 0) (r : F → F) → ((f : F) → P f → P (r f)) → (n : ℕ) (fs : List F) → All P fs → All P (adjust r n fs)
unfolding adjust
All-adjust P r keeps n [] h = All-nil P
All-adjust P r keeps zero (f ∷ fs) h = All-cons P (r f) fs (keeps f (All-head P f fs h)) (All-tail P f fs h)
All-adjust P r keeps (suc n) (f ∷ fs) h = All-cons P f (adjust r n fs) (All-head P f fs h) (All-adjust P r keeps n fs (All-tail P f fs h))

pub All-clear : {F : Type 0} (P : F → Type 0) (r : F → F) → ((f : F) → P f → P (r f)) → (ns : List ℕ) (fs : List F) → All P fs → All P (clear r ns fs)
unfolding clear
All-clear P r keeps [] fs h = h
All-clear P r keeps (n ∷ ns) fs h = All-clear P r keeps ns (adjust r n fs) (All-adjust P r keeps n fs h)

-- settings that are equal agree alike
agrees-by : (s : FqSettings) (c d : CodelState) → params_of d ≡ params_of c → AgreesWith s c → AgreesWith s d
agrees-by s c d e h = record {
  target = ap (λ (p : CodelParams). p.target) e ∙ h.target;
  interval = ap (λ (p : CodelParams). p.interval) e ∙ h.interval;
  ecn = ap (λ (p : CodelParams). p.ecn) e ∙ h.ecn;
  mtu = ap (λ (p : CodelParams). p.mtu) e ∙ h.mtu;
}

rested-lawful : (clock : ℕ) (s : FqSettings) (f : Flow) → IsLawfulFlow clock s f → IsLawfulFlow clock s (rested_flow f)
unfolding rested_flow
rested-lawful clock s f h = record {
  settings = h.settings;
  state = record { first_above_time = omega arith; drop_next = h.state.drop_next; count = h.state.count; lastcount = h.state.lastcount };
  agrees = record { target = h.agrees.target; interval = h.agrees.interval; ecn = h.agrees.ecn; mtu = h.agrees.mtu };
  stamps = h.stamps;
}

after-lawful : (now : ℕ) (s : FqSettings) → now ≤ 2 ^ 62 → (f : Flow) → IsLawfulFlow now s f → IsLawfulFlow now s (flow_after now f)
unfolding flow_after
after-lawful now s low f h =
    let kept = states_stay_in_range_holds f.codel now f.queue h.settings h.state low in
    record {
      settings = subst IsCodelParams (sym kept.settings) h.settings;
      state = kept.state;
      agrees = agrees-by s f.codel (flow_after now f).codel kept.settings h.agrees;
      stamps = stamped-drop now (suc (drops f.codel now f.queue)) f.queue h.stamps;
    }

sent-lawful : (now : ℕ) (s : FqState) → now ≤ 2 ^ 62 → (es fs : List Entry) → All (IsLawfulFlow now s.settings) s.flows → All (IsLawfulFlow now s.settings) (with_sent now s es fs).flows
unfolding with_sent
sent-lawful now s low [] [] h = h
sent-lawful now s low [] (e ∷ fs) h = All-adjust (IsLawfulFlow now s.settings) (flow_after now) (after-lawful now s.settings low) e.flow s.flows h
sent-lawful now s low (e ∷ es) fs h = All-adjust (IsLawfulFlow now s.settings) (flow_after now) (after-lawful now s.settings low) e.flow s.flows h

sent-settings : (now : ℕ) (s : FqState) (es fs : List Entry) → (with_sent now s es fs).settings ≡ s.settings
unfolding with_sent
sent-settings now s [] [] = refl
sent-settings now s [] (e ∷ fs) = refl
sent-settings now s (e ∷ es) fs = refl

-- the state after a take
pub take-settings : (now : ℕ) (s : FqState) → (after_sending now (selected s)).settings ≡ s.settings
unfolding after_sending selected
take-settings now s = sent-settings now (selected s) (selected s).new_flows (selected s).old_flows

take-flows : (now : ℕ) (s : FqState) → now ≤ 2 ^ 62 → All (IsLawfulFlow now s.settings) s.flows → All (IsLawfulFlow now s.settings) (after_sending now (selected s)).flows
unfolding after_sending selected
take-flows now s low h =
    sent-lawful now (selected s) low (selected s).new_flows (selected s).old_flows (All-clear (IsLawfulFlow now s.settings) rested_flow (rested-lawful now s.settings)
    (arranged s.settings.quantum (is_idle s.flows) s.new_flows s.old_flows).gone s.flows h)

take-lawful : (mtu now : ℕ) (s : FqState) (below : List (List Descriptor)) → now ≤ 2 ^ 62 → IsLawfulFqCodel mtu now s below → IsLawfulFqCodel mtu now (after_sending now (selected s)) below
take-lawful mtu now s below low h =
    let same = sym (take-settings now s) in
    record {
      settings = subst IsInRange same h.settings;
      longest = ap (λ (x : FqSettings). x.mtu) (take-settings now s) ∙ h.longest;
      lists = (take_keeps_lawful s now h.lists h.settings.quantum_low).1;
      flows = subst (λ (x : FqSettings). All (IsLawfulFlow now x) (after_sending now (selected s)).flows) same (take-flows now s low h.flows);
      none = h.none;
    }

module _ (mtu now : ℕ) (low : now ≤ 2 ^ 62) (handle : Option ℕ) (filters : List Filter) (since : ℕ) where
  abbrev fq_codel : FqState → Option Descriptor → ℕ → Own
  fq_codel s held at = record { handle = handle; discipline = FqCodel s; held = held; since = at; filters = filters }

  pub fq_codel-answers : (s : FqState) (below : List Asked) → IsLawfulOwn mtu now (fq_codel s None since) (map beneath (befores below))
      → AreAnswers mtu now below → IsAnswer mtu now (ask_fq_codel now (fq_codel s None since) below s)
  fq_codel-answers s below h all =
      let after : FqState = after_sending now (selected s) in
      let sent : Option Taken = sent_from now (selected s) in
      let packet : Option Descriptor = option_map (λ (t : Taken). t.packet) sent in
      let at : ℕ = option_map_or (λ (p : Stamped). p.at) (head_sent now (selected s)) 0 in
      let gone : List Descriptor = packets_of (dropped_from now (selected s)) in
      let before_is : (w : Descriptor → ℕ) → weigh w (waiting (fq_codel s None since) (befores below)) ≡ weigh w [] + weigh w (packets_of (all_packets s.flows)) + in_children w (befores below) =
      λ w. weigh-waiting w (fq_codel s None since) (befores below) in
      let peeked_is : (w : Descriptor → ℕ)
      → weigh w (waiting (fq_codel after packet (since_of packet at)) (befores below)) ≡ weigh w (option_to_list packet)
      + weigh w (packets_of (all_packets after.flows)) + in_children w (befores below) =
      λ w. weigh-waiting w (fq_codel after packet (since_of packet at)) (befores below) in
      let taken_is : (w : Descriptor → ℕ) → weigh w (waiting (fq_codel after None 0) (befores below)) ≡ weigh w [] + weigh w (packets_of (all_packets after.flows)) + in_children w (befores below) =
      λ w. weigh-waiting w (fq_codel after None 0) (befores below) in
      let losses : (w : Descriptor → ℕ) → lost w (losses_of CoDel gone ++ marks_of sent) ≡ weigh w gone =
      λ w. omega (arith, lost-append w (losses_of CoDel gone) (marks_of sent), lost-losses w CoDel gone, lost-marks w sent) in
      let peeks : (w : Descriptor → ℕ)
      → weigh w (waiting (fq_codel s None since) (befores below)) ≡ lost w (losses_of CoDel gone ++ marks_of sent)
      + weigh w (waiting (fq_codel after packet (since_of packet at)) (befores below)) =
      λ w. omega (arith, take-weighs w now s, before_is w, peeked_is w, losses w, weigh-nil w) in
      let gives : (w : Descriptor → ℕ)
      → weigh w (waiting (fq_codel after packet (since_of packet at)) (befores below)) ≡ weigh w (option_to_list packet)
      + weigh w (waiting (fq_codel after None 0) (befores below)) =
      λ w. omega (arith, peeked_is w, taken_is w, weigh-nil w) in
      let lawful = take-lawful mtu now s (map beneath (befores below)) low h.discipline in
      is-dequeued mtu now (fq_codel s None since) below (record {
        after = fq_codel after None since;
        children = befores below;
        rises = losses_of CoDel gone ++ marks_of sent;
        mine = flow_notes s (selected s) sent;
        packet = packet;
        since = at;
      }) (record {
        handle_peeked = refl;
        handle_taken = refl;
        lawful = h;
        lawful_peeked = record {
          discipline = lawful;
          lengths = lengths-among mtu (waiting (fq_codel s None since) (befores below)) (waiting (fq_codel after packet (since_of packet at)) (befores below)) (λ w. omega (arith, peeks w)) h.lengths;
          held = λ some. tt;
          filters = h.filters;
          in_order = h.in_order;
          named = h.named;
        };
        lawful_taken = record {
          discipline = lawful;
          lengths = lengths-among mtu (waiting (fq_codel s None since) (befores below)) (waiting (fq_codel after None 0) (befores below)) (λ w. omega (arith, peeks w, gives w)) h.lengths;
          held = λ some. tt;
          filters = h.filters;
          in_order = h.in_order;
          named = h.named;
        };
        all_before = befores-lawful mtu now below all;
        all_peeked = befores-lawful mtu now below all;
        all_taken = befores-lawful mtu now below all;
        told_before = befores-told mtu now below all;
        told_peeked = befores-told mtu now below all;
        told_taken = befores-told mtu now below all;
        quiet = quiet-append (losses_of CoDel gone) (marks_of sent) (quiet-losses CoDel gone refl) (quiet-marks sent);
        peeks = peeks;
        gives = gives;
        marks = λ w. omega (
          arith,
          losses w,
          marked-append w (losses_of CoDel gone) (marks_of sent),
          marked-losses w CoDel gone,
          marks-weigh w sent,
          weigh-nil w,
          weigh-holds w (fq_codel s None since) (befores below),
          weigh-holds w (fq_codel after packet (since_of packet at)) (befores below),
        );
        marks_given = λ w. omega (arith, weigh-nil w, weigh-holds w (fq_codel after packet (since_of packet at)) (befores below), weigh-holds w (fq_codel after None 0) (befores below));
        stays = stays packet refl (losses one) (peeks one) (peeked_is one);
      }) (flow-silent s (selected s) sent)
    where
      stays : (o : Option Descriptor) → option_map (λ (t : Taken). t.packet) (sent_from now (selected s)) ≡ o
          → lost one (losses_of CoDel (packets_of (dropped_from now (selected s))) ++ marks_of (sent_from now (selected s))) ≡ weigh one (packets_of (dropped_from now (selected s)))
          → weigh one (waiting (fq_codel s None since) (befores below)) ≡ lost one
          (losses_of CoDel (packets_of (dropped_from now (selected s))) ++ marks_of (sent_from now (selected s)))
          + weigh one (waiting (fq_codel (after_sending now (selected s)) (option_map (λ (t : Taken). t.packet) (sent_from now (selected s))) 0)
          (befores below))
          → weigh one (waiting (fq_codel (after_sending now (selected s)) (option_map (λ (t : Taken). t.packet) (sent_from now (selected s))) 0)
          (befores below)) ≡ weigh one (option_to_list (option_map (λ (t : Taken). t.packet) (sent_from now (selected s))))
          + weigh one (packets_of (all_packets (after_sending now (selected s)).flows)) + in_children one (befores below)
          → weigh one (waiting (fq_codel (after_sending now (selected s)) (option_map (λ (t : Taken). t.packet) (sent_from now (selected s))) 0)
          (befores below)) ≡ 0
          → weigh one (waiting (fq_codel s None since) (befores below)) ≡ 0
      stays None e losses peeks peeked none =
          let nothing : weigh one (packets_of (dropped_from now (selected s))) ≡ 0 = ap (λ (q : List Stamped). weigh one (packets_of q)) (nothing-dropped now (selected s) e) ∙ weigh-nil one in
          omega (arith, losses, peeks, none, nothing)
      stays (Some p) e losses peeks peeked none =
          let some : weigh one (option_to_list (option_map (λ (t : Taken). t.packet) (sent_from now (selected s)))) ≡ 1 =
          ap (λ (o : Option Descriptor). weigh one (option_to_list o)) e ∙ weigh-one one p in
          absurd (omega (arith, some, peeked, none))
