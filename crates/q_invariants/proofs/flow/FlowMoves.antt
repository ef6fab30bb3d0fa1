-- What one event, and then a stretch of events, comes to at a flow of an fq_codel.
use Rattle.std.proofs.Common.{◌≡◌, ℕ, ◌+◌, ◌*◌, ◌≤◌, ℤ, pos, ◌+ℤ◌, false, ◌⊎◌, inl, inr, List, [], ◌∷◌, ◌++◌, refl, sym, ap, subst, ◌∙◌, Option, Some, None, option_map, option_to_list, arith}
use Rattle.std.specs.Prelude.{All, IfSome, nat_eq}
use Rattle.std.specs.List.{flat_map}
use Rattle.std.proofs.Math.Nat.{add-mul}
use Rattle.std.proofs.lemmas.Int.{ints}
use Rattle.std.proofs.lemmas.List.{append-nil, append_assoc}
use Rattle.std.proofs.lemmas.List.Elements.{All-head}
use Rattle.std.proofs.lemmas.List.Sums.{sum_by-append}
use Rattle.std.proofs.lemmas.Option.{none-some, same_Some, option_and_then_some}
use Rattle.q_packet.specs.Descriptor.{Descriptor}
use Rattle.q_packet.specs.Totals.{count}
use Rattle.q_packet.specs.declared.stamped.Stamped.{Stamped}
use Rattle.q_codel.specs.declared.codel.Taken.{Taken}
use Rattle.q_fqcodel.specs.FqState.{FqState, is_idle, all_packets}
use Rattle.q_fqcodel.specs.Lawful.{IsLawful}
use Rattle.q_fqcodel.specs.Laws.{credits_of}
use Rattle.q_fqcodel.specs.Put.{after_put}
use Rattle.q_fqcodel.specs.QuantaGiven.{quanta_given}
use Rattle.q_fqcodel.specs.Take.{selected, sent_from}
use Rattle.q_fqcodel.proofs.GivenLemmas.{credits_by_quanta}
use Rattle.q_fqcodel.proofs.KeptLemmas.{selection_keeps_packets, take_keeps_lawful}
use Rattle.q_model.specs.declared.event.Event.{Event}
use Rattle.q_model.specs.Events.{IsEvent}
use Rattle.q_model.specs.Tally.{Note, history}
use Rattle.q_model.specs.Node.{Discipline, Fifo, Prio, Tbf, Drr, FqCodel, Node, each}
use Rattle.q_model.specs.Beneath.{packets_in, packets_of, beneath_own}
use Rattle.q_model.specs.Lawful.{IsLawfulDiscipline, IsLawfulFqCodel}
use Rattle.q_model.specs.Step.{DeviceState, step}
use Rattle.q_model.specs.Stretches.{flow_granted_by, given_by, flow_grants_to, bytes_given, qdisc, FqAt, fq_of, fq_in}
use Rattle.q_invariants.specs.Weights.{weigh}
use Rattle.q_invariants.proofs.flow.FlowLists.{listed-credits, credits-put, credits-sent, quanta-noted}
use Rattle.q_invariants.proofs.flow.FlowNotes.{take-weighs}
use Rattle.q_invariants.proofs.flow.FlowSteps.{lists_of, SameLists, same-whole, Takes, Changes, FqStep, event-step}
use Rattle.q_invariants.proofs.Replays.{IsKept}
use Rattle.q_invariants.proofs.sums.Lengths.{HasLength, lengths-among}
use Rattle.q_invariants.proofs.sums.Weights.{weigh-append}
use Rattle.q_invariants.proofs.tree.StepNodes.{becomes}
use Rattle.q_invariants.proofs.tree.Within.{found, lawful-of}

-- the credits of a flow after some notes, from those before
pub record FlowBooks (n quantum : ℕ) (notes : List Note) (t : FqState) (z : ℤ) : Type 0 where
  pub after : ℤ
  pub is : credits_of n (lists_of t) ≡ Some after
  pub books : after +ℤ pos (bytes_given n notes) ≡ z +ℤ pos (flow_grants_to n notes * quantum)

quiet-books : (n quantum : ℕ) (notes : List Note) (t : FqState) (z : ℤ) → credits_of n (lists_of t) ≡ Some z → bytes_given n notes ≡ 0 → flow_grants_to n notes ≡ 0 → FlowBooks n quantum notes t z
quiet-books n quantum notes t z is gave granted =
    let product : flow_grants_to n notes * quantum ≡ 0 = ap (λ k. k * quantum) granted ∙ omega arith in
    record { after = z; is = is; books = ap (λ k. z +ℤ pos k) gave ∙ ap (λ k. z +ℤ pos k) (sym product) }

-- what an event comes to for a flow with packets
module _ (n now : ℕ) (s : FqState) (z : ℤ) (is_z : credits_of n (lists_of s) ≡ Some z) (law : IsLawful s) (positive : 1 ≤ s.settings.quantum) (busy : is_idle s.flows n ≡ false) where
  take-books : (t : FqState) (notes : List Note) → Takes now s t notes → FlowBooks n s.settings.quantum notes t z
  take-books t notes take =
      let o : Option Taken = sent_from now (selected s) in
      let busy_then : is_idle (selected s).flows n ≡ false = ap (λ (queue : List Stamped). nat_eq (count queue) 0) (selection_keeps_packets s n).0 ∙ busy in
      let there = listed-credits n (lists_of (selected s)) ((take_keeps_lawful s now law positive).0.busy n busy_then) in
      let quanta = credits_by_quanta s n z there.0 law is_z there.1 in
      let sends = credits-sent n now (selected s) o refl there.0 there.1 in
      let granted : flow_grants_to n notes ≡ quanta_given s n = take.granted n ∙ quanta-noted n s law (law.busy n busy) in
      record {
        after = sends.0;
        is = ap (λ (x : FqState). credits_of n (lists_of x)) take.is ∙ sends.1.is;
        books = ap (λ k. sends.0 +ℤ pos k) (take.bytes n) ∙ sends.1.pays ∙ quanta ∙ ap (λ k. z +ℤ pos (k * s.settings.quantum)) (sym granted);
      }

  step-books : (t : FqState) (notes : List Note) → Changes now s t notes → FlowBooks n s.settings.quantum notes t z
  step-books t notes (inr take) = take-books t notes take
  step-books t notes (inl quiet) = quiet-books n s.settings.quantum notes t z (by quiet.lists) (quiet.no_bytes n) (quiet.no_grants n)
    where
      by : SameLists s t ⊎ ((p : Descriptor) × (at : ℕ) × (t ≡ after_put s p at)) → credits_of n (lists_of t) ≡ Some z
      by (inl same) = ap (credits_of n) (same-whole s t same) ∙ is_z
      by (inr put) = ap (λ (x : FqState). credits_of n (lists_of x)) put.2 ∙ credits-put n s put.0 put.1 z is_z

-- ---- what stands in a device

pub record FqNode (major : ℕ) (d : DeviceState (List Note)) (x : FqAt) : Type 0 where
  pub node : Node (List Note)
  pub there : qdisc major d ≡ Some node
  pub discipline : node.own.discipline ≡ FqCodel x.state
  pub noted : node.memory ≡ x.noted

pub fq-node : (major : ℕ) (d : DeviceState (List Note)) (x : FqAt) → fq_in major d ≡ Some x → FqNode major d x
fq-node major d x e = option_and_then_some (λ (n : Node (List Note)). fq_of n n.own.discipline) (qdisc major d) x e (λ n there at. by n n.own.discipline refl there at)
  where
    by : (n : Node (List Note)) (k : Discipline) → n.own.discipline ≡ k → qdisc major d ≡ Some n → fq_of n k ≡ Some x → FqNode major d x
    by n (FqCodel s) is there at =
        let same : record { state = s; noted = n.memory } ≡ x = same_Some (record { state = s; noted = n.memory }) x at in
        subst (FqNode major d) same (record { node = n; there = there; discipline = is; noted = refl })
    by n (Fifo limit queue) is there at = absurd (none-some x at)
    by n (Prio priomap) is there at = absurd (none-some x at)
    by n (Tbf bucket limit) is there at = absurd (none-some x at)
    by n (Drr s) is there at = absurd (none-some x at)

pub fq-lawful : (major : ℕ) (d : DeviceState (List Note)) (x : FqAt) → IsKept d → (at : FqNode major d x) → IsLawfulFqCodel d.tree.device.mtu d.clock x.state (each beneath_own at.node.below)
fq-lawful major d x kept at =
    let f = found major d at.node at.there in
    subst (IsLawfulDiscipline d.tree.device.mtu d.clock (each beneath_own at.node.below)) at.discipline (lawful-of d.tree.device.mtu d.clock at.node d.tree.root kept.lawful f.there).0.discipline

-- a packet that is sent was queued there, so it has a byte, and is no longer than the mtu
pub sent_has_length : (major now : ℕ) (d : DeviceState (List Note)) (x : FqAt) → IsKept d → fq_in major d ≡ Some x
    → IfSome (sent_from now (selected x.state)) (λ t. 1 ≤ t.packet.len) × IfSome (sent_from now (selected x.state)) (λ t. t.packet.len ≤ d.tree.device.mtu)
sent_has_length major now d x kept is = by (sent_from now (selected x.state)) refl
  where
    at : FqNode major d x
    at = fq-node major d x is

    queued : List Descriptor
    queued = beneath_own at.node.own (each beneath_own at.node.below)

    lengths : All (HasLength d.tree.device.mtu) queued
    lengths = let f = found major d at.node at.there in (lawful-of d.tree.device.mtu d.clock at.node d.tree.root kept.lawful f.there).0.lengths

    by : (o : Option Taken) → sent_from now (selected x.state) ≡ o → IfSome o (λ t. 1 ≤ t.packet.len) × IfSome o (λ t. t.packet.len ≤ d.tree.device.mtu)
    by None e = (tt, tt)
    by (Some t) e =
        let fewer : (w : Descriptor → ℕ) → weigh w (t.packet ∷ []) ≤ weigh w queued =
        λ w.
        let own : weigh w (packets_in at.node.own.discipline) ≡ weigh w (packets_of (all_packets x.state.flows)) = ap (λ (k : Discipline). weigh w (packets_in k)) at.discipline in
        let taken : weigh w (option_to_list (option_map (λ (t : Taken). t.packet) (sent_from now (selected x.state)))) ≡ weigh w (t.packet ∷ []) =
        ap (λ (o : Option Taken). weigh w (option_to_list (option_map (λ (t : Taken). t.packet) o))) e in
        let rest : List Descriptor = flat_map (λ packets. packets) (each beneath_own at.node.below) in
        omega (
          arith,
          weigh-append w (option_to_list at.node.own.held ++ packets_in at.node.own.discipline) rest,
          weigh-append w (option_to_list at.node.own.held) (packets_in at.node.own.discipline),
          own,
          take-weighs w now x.state,
          taken,
        ) in
        All-head (HasLength d.tree.device.mtu) t.packet [] (lengths-among d.tree.device.mtu queued (t.packet ∷ []) fewer lengths)

-- a flow with packets is listed
pub backlogged-credits : (major n : ℕ) (d : DeviceState (List Note)) (x : FqAt) → IsKept d → fq_in major d ≡ Some x → is_idle x.state.flows n ≡ false
    → (z : ℤ) × (credits_of n (lists_of x.state) ≡ Some z)
backlogged-credits major n d x kept is busy =
    listed-credits n (lists_of x.state) ((fq-lawful major d x kept (fq-node major d x is)).lists.busy n busy)

pub fq-step : (major : ℕ) (d : DeviceState (List Note)) (e : Event) (x y : FqAt) → IsKept d → IsEvent e → fq_in major d ≡ Some x → fq_in major (step history d e).device ≡ Some y
    → FqStep (step history d e).device.clock x.state y.state x.noted y.noted
fq-step major d e x y kept range is at =
    let now : ℕ = (step history d e).device.clock in
    let a = fq-node major d x is in
    let b = fq-node major (step history d e).device y at in
    let s = event-step now a.node x.state a.discipline e b.node y.state b.discipline (becomes major d e a.node b.node kept range a.there b.there) in
    subst (λ ns. FqStep now x.state y.state ns y.noted) a.noted (subst (FqStep now x.state y.state a.node.memory) b.noted s)

-- ---- several events

pub record FlowMoves (n : ℕ) (x y : FqAt) : Type 0 where
  pub notes : List Note
  pub is : y.noted ≡ x.noted ++ notes
  pub books : (z : ℤ) → credits_of n (lists_of x.state) ≡ Some z → FlowBooks n x.state.settings.quantum notes y.state z

pub no-flow-moves : (n : ℕ) (x : FqAt) → FlowMoves n x x
no-flow-moves n x = record { notes = []; is = sym (append-nil x.noted); books = λ z h. quiet-books n x.state.settings.quantum [] x.state z h refl refl }

pub flow-moves : (major n : ℕ) (d : DeviceState (List Note)) (e : Event) (x y : FqAt) → IsKept d → IsEvent e → fq_in major d ≡ Some x → fq_in major (step history d e).device ≡ Some y
    → is_idle x.state.flows n ≡ false → FlowMoves n x y
flow-moves major n d e x y kept range is at busy =
    let law = fq-lawful major d x kept (fq-node major d x is) in
    let s = fq-step major d e x y kept range is at in
    record {
      notes = s.notes;
      is = s.is;
      books = λ z h. step-books n (step history d e).device.clock x.state z h law.lists law.settings.quantum_low busy y.state s.notes s.by;
    }

pub more-flow-moves : (n : ℕ) (x y z : FqAt) → y.state.settings.quantum ≡ x.state.settings.quantum → FlowMoves n x y → FlowMoves n y z → FlowMoves n x z
more-flow-moves n x y z same a b = record {
  notes = a.notes ++ b.notes;
  is = b.is ∙ ap (λ ns. ns ++ b.notes) a.is ∙ append_assoc x.noted a.notes b.notes;
  books = λ c h. both c (a.books c h);
}
  where
    both : (c : ℤ) → FlowBooks n x.state.settings.quantum a.notes y.state c → FlowBooks n x.state.settings.quantum (a.notes ++ b.notes) z.state c
    both c first =
        let second = b.books first.after first.is in
        let q : ℕ = x.state.settings.quantum in
        let gave = sum_by-append (given_by n) a.notes b.notes in
        let grants = sum_by-append (flow_granted_by n) a.notes b.notes in
        let product : flow_grants_to n (a.notes ++ b.notes) * q ≡ flow_grants_to n a.notes * q + flow_grants_to n b.notes * q =
        ap (λ k. k * q) grants ∙ add-mul (flow_grants_to n a.notes) (flow_grants_to n b.notes) q in
        let quantum = ap (λ k. flow_grants_to n b.notes * k) same in
        record {
          after = second.after;
          is = second.is;
          books = let one = first.books in let two = second.books in omega (arith, ints, gave, product, quantum, one, two);
        }
