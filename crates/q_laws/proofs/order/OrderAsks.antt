-- A poll keeps the order of a flow: what a node shows stands before all that waits beneath it then.
use Rattle.std.proofs.Common.{◌≡◌, ℕ, zero, suc, inl, inr, refl, sym, ap, subst, ◌∙◌, List, [], ◌∷◌, ◌++◌, map, take, drop, length, set, Option, Some, None, option_map, option_and_then, option_to_list, arith}
use Rattle.std.specs.Prelude.{Bool, true, false, ◌==◌, ◌%◌, slice_get, is_some, if◌then◌else◌}
use Rattle.std.specs.List.{flat_map, position, position_or_len}
use Rattle.std.specs.Option.{option_map_or}
use Rattle.std.proofs.lemmas.List.{append_assoc}
use Rattle.std.proofs.lemmas.Option.{none-some, same_Some}
use Rattle.q_packet.specs.Descriptor.{Descriptor}
use Rattle.q_codel.specs.declared.limit.Limit.{Limit}
use Rattle.q_packet.specs.declared.stamped.Stamped.{Stamped}
use Rattle.q_codel.specs.declared.codel.Taken.{Taken}
use Rattle.q_bucket.specs.Level.{TokenBucket, allows, after_spend}
use Rattle.q_drr.specs.Schedule.{Class, Schedule}
use Rattle.q_drr.specs.Take.{choice_of}
use Rattle.q_fqcodel.specs.FqState.{FqSettings, FqState, all_packets}
use Rattle.q_fqcodel.specs.Put.{flow_of}
use Rattle.q_fqcodel.specs.Take.{selected, sent_from, after_sending, head_sent}
use Rattle.q_model.specs.declared.filter.Filter.{Filter}
use Rattle.q_model.specs.Filters.{named_class}
use Rattle.q_model.specs.Route.{band_of}
use Rattle.q_model.specs.Tally.{Note, Sent, Spent}
use Rattle.q_model.specs.Node.{Discipline, Fifo, Prio, Tbf, Drr, FqCodel, Own, Forest, none, more, Shape, each}
use Rattle.q_model.specs.Beneath.{packets_of, packets_in, beneath_own, beneath, is_empty}
use Rattle.q_model.specs.Grants.{asked_entries}
use Rattle.q_model.specs.Lawful.{IsLawfulOwn}
use Rattle.q_model.specs.Quanta.{flow_notes}
use Rattle.q_model.specs.Work.{Worked, worked, settled_class}
use Rattle.q_model.specs.Ask.{Asked, befores, holding, Dequeue, dequeued, waits, spends, ask_tbf, is_among, head_of, service_of, place_met, gives_nothing, class_gives, class_serves, ask_drr, ask_discipline, ask_own, ask, since_shown}
use Rattle.q_invariants.specs.Kept.{AllLawful, IsLawfulRoot}
use Rattle.q_invariants.proofs.ask.Answer.{beneath-worked}
use Rattle.q_invariants.proofs.ask.AskFqCodel.{take-settings}
use Rattle.q_invariants.proofs.ask.AskPrio.{peeked_to, taken_at, packet_at}
use Rattle.q_invariants.proofs.ask.Asks.{beneath-befores}
use Rattle.q_invariants.proofs.ask.AskStages.{IsStageOf, AreStagesOf, unasked, looked-staged, set-staged, HasSoMany, so-many, each-length}
use Rattle.q_invariants.proofs.class.Exact.{classes-served}
use Rattle.q_invariants.proofs.put.DrrSettled.{class-settled}
use Rattle.q_laws.specs.order.Order.{flow_among}
use Rattle.q_laws.proofs.order.OrderFlows.{less-before, fifo-gives, flow_queues, all-flat, take-gives}
use Rattle.q_laws.proofs.order.OrderParts.{flat, IsLess, less-append, less-behind, OnlyAt, AreLess, are-less-refl, less-only, less-flat, Gives, gives-less, gives-flat}
use Rattle.q_laws.proofs.order.OrderWays.{HasWay, less-way, way-only, IsOnWay, AllOnWay, IsRootOnWay, AreOnWay, way-worked}
use Rattle.q_laws.proofs.order.PartLemmas.{part-refl}
use Rattle.q_model.specs.Since.{since_of}

module _ (c : Descriptor) where
  pub record Keeps (a : Asked) : Type 0 where
    pub before : IsRootOnWay c a.before
    pub peeked : IsRootOnWay c a.peeked
    pub taken : IsRootOnWay c a.taken
    pub peeks : IsLess c (beneath a.peeked) (beneath a.before)
    pub gives : IsLess c (option_to_list a.shown ++ beneath a.taken) (beneath a.before)

  abbrev pub AreKept : List Asked → Type 0
  AreKept [] = Unit {0}
  AreKept (a ∷ below) = Keeps a × AreKept below

  abbrev waiting : List Worked → List (List Descriptor)
  waiting ws = map beneath ws

  -- ---- the children, each as it was, peeked, or with its packet taken

  stage-way : (a : Asked) (w : Worked) → Keeps a → IsStageOf a w → IsRootOnWay c w
  stage-way a w h (inl e) = subst (IsRootOnWay c) (sym e) h.before
  stage-way a w h (inr (inl e)) = subst (IsRootOnWay c) (sym e) h.peeked
  stage-way a w h (inr (inr e)) = subst (IsRootOnWay c) (sym e) h.taken

  stage-less : (a : Asked) (w : Worked) → Keeps a → IsStageOf a w → IsLess c (beneath w) (beneath a.before)
  stage-less a w h (inl e) = subst (λ (x : Worked). IsLess c (beneath x) (beneath a.before)) (sym e) (part-refl (flow_among c (beneath a.before)))
  stage-less a w h (inr (inl e)) = subst (λ (x : Worked). IsLess c (beneath x) (beneath a.before)) (sym e) h.peeks
  stage-less a w h (inr (inr e)) = subst (λ (x : Worked). IsLess c (beneath x) (beneath a.before)) (sym e) (less-behind c (option_to_list a.shown) (beneath a.taken) (beneath a.before) h.gives)

  stages-way : (below : List Asked) (ws : List Worked) → AreKept below → AreStagesOf below ws → AreOnWay c ws
  stages-way [] [] h s = tt
  stages-way [] (w ∷ ws) h s = absurd s
  stages-way (a ∷ below) [] h s = absurd s
  stages-way (a ∷ below) (w ∷ ws) h s = (stage-way a w h.0 s.0, stages-way below ws h.1 s.1)

  stages-less : (below : List Asked) (ws : List Worked) → AreKept below → AreStagesOf below ws → AreLess c (waiting ws) (waiting (befores below))
  stages-less [] [] h s = tt
  stages-less [] (w ∷ ws) h s = absurd s
  stages-less (a ∷ below) [] h s = absurd s
  stages-less (a ∷ below) (w ∷ ws) h s = (stage-less a w h.0 s.0, stages-less below ws h.1 s.1)

  set-gives : (below : List Asked) (ws : List Worked) (i : ℕ) (a : Asked) → AreKept below → AreStagesOf below ws → slice_get below i ≡ Some a
      → Gives c (option_to_list a.shown) (waiting (set ws i a.taken)) (waiting (befores below))
  set-gives [] ws i a h s e = absurd (none-some a e)
  set-gives (b ∷ below) [] i a h s e = absurd s
  set-gives (b ∷ below) (w ∷ ws) zero a h s e =
      inl (subst (λ (x : Asked). IsLess c (option_to_list x.shown ++ beneath x.taken) (beneath b.before)) (same_Some b a e) h.0.gives, stages-less below ws h.1 s.1)
  set-gives (b ∷ below) (w ∷ ws) (suc i) a h s e = inr (stage-less b w h.0 s.0, set-gives below ws i a h.1 s.1 e)

  -- ---- a node that dequeues a packet, or nothing

  abbrev Dequeues : Own → List Asked → Dequeue → Type 0
  Dequeues own below d = IsLess c (option_to_list d.packet ++ (packets_in d.after.discipline ++ flat (waiting d.children))) (packets_in own.discipline ++ flat (waiting (befores below)))

  -- what waits at a node: the packet that it holds, and then the others
  beneath-is : (own : Own) (notes : List Note) (ws : List Worked) → beneath (worked own notes ws) ≡ option_to_list own.held ++ (packets_in own.discipline ++ flat (waiting ws))
  beneath-is own notes ws = beneath-worked own notes ws ∙ append_assoc (option_to_list own.held) (packets_in own.discipline) (flat (waiting ws))

  dequeued-keeps : (own : Own) (below : List Asked) (d : Dequeue) → IsOnWay c own own.discipline (waiting (befores below)) → AreOnWay c (befores below)
      → IsOnWay c d.after d.after.discipline (waiting d.children) → AreOnWay c d.children → Dequeues own below d → Keeps (dequeued own below d)
  dequeued-keeps own below d way all way_after all_after h =
      let before : List Descriptor = packets_in own.discipline ++ flat (waiting (befores below)) in
      let after : List Descriptor = option_to_list d.packet ++ (packets_in d.after.discipline ++ flat (waiting d.children)) in
      let less : IsLess c after (beneath (worked own [] (befores below))) =
      subst (IsLess c after) (sym (beneath-is own [] (befores below))) (less-before c (option_to_list own.held) after before h) in
      record {
        before = way-worked c own [] (befores below) way all;
        peeked = way-worked c (record d.after { held = d.packet; since = since_of d.packet d.since }) (d.rises ++ d.mine) d.children way_after all_after;
        taken = way-worked c (record d.after { held = None; since = 0 }) (d.rises ++ d.mine ++ map Sent (option_to_list d.packet)) d.children way_after all_after;
        peeks =
            subst (λ (ps : List Descriptor). IsLess c ps (beneath (worked own [] (befores below))))
            (sym (beneath-is (record d.after { held = d.packet; since = since_of d.packet d.since }) (d.rises ++ d.mine) d.children)) less;
        gives = subst (λ (ps : List Descriptor). IsLess c (option_to_list d.packet ++ ps) (beneath (worked own [] (befores below))))
            (sym (beneath-is (record d.after { held = None; since = 0 }) (d.rises ++ d.mine ++ map Sent (option_to_list d.packet)) d.children)) less;
      }

  -- ---- each kind of node

  prio-peeked : (k : ℕ) (below : List Asked) → AreStagesOf below (peeked_to k below)
  prio-peeked zero [] = tt
  prio-peeked (suc k) [] = tt
  prio-peeked zero (a ∷ below) = (inr (inl refl), unasked below)
  prio-peeked (suc k) (a ∷ below) = (inr (inl refl), prio-peeked k below)

  prio-taken : (k : ℕ) (below : List Asked) → AreStagesOf below (taken_at k below)
  prio-taken zero [] = tt
  prio-taken (suc k) [] = tt
  prio-taken zero (a ∷ below) = (inr (inr refl), unasked below)
  prio-taken (suc k) (a ∷ below) = (inr (inl refl), prio-taken k below)

  prio-gives : (k : ℕ) (below : List Asked) → AreKept below → Gives c (option_to_list (packet_at k below)) (waiting (taken_at k below)) (waiting (befores below))
  prio-gives zero [] h = refl
  prio-gives (suc k) [] h = refl
  prio-gives zero (a ∷ below) h = inl (h.0.gives, are-less-refl c (waiting (befores below)))
  prio-gives (suc k) (a ∷ below) h = inr (h.0.peeks, prio-gives k below h.1)

  module _ (now : ℕ) (handle : Option ℕ) (filters : List Filter) (since : ℕ) where
    abbrev node : Discipline → Option Descriptor → Own
    node d held = record { handle = handle; discipline = d; held = held; since = since; filters = filters }

    holding-keeps : (d : Discipline) (p : Descriptor) (below : List Asked) → AreKept below → IsOnWay c (node d (Some p)) d (waiting (befores below)) → Keeps (holding (node d (Some p)) below p)
    holding-keeps d p below h way =
        let own : Own = node d (Some p) in
        let all : AreOnWay c (befores below) = stages-way below (befores below) h (unasked below) in
        let left : Own = node d None in
        let same : p ∷ beneath (worked left (map Sent (p ∷ [])) (befores below)) ≡ beneath (worked own [] (befores below)) =
        ap (λ (ps : List Descriptor). p ∷ ps) (beneath-worked left (map Sent (p ∷ [])) (befores below)) ∙ sym (beneath-worked own [] (befores below)) in
        record {
          before = way-worked c own [] (befores below) way all;
          peeked = way-worked c own [] (befores below) way all;
          taken = way-worked c left (map Sent (p ∷ [])) (befores below) way all;
          peeks = part-refl (flow_among c (beneath (worked own [] (befores below))));
          gives = subst (IsLess c (p ∷ beneath (worked left (map Sent (p ∷ [])) (befores below)))) same (part-refl (flow_among c (p ∷ beneath (worked left (map Sent (p ∷ [])) (befores below)))));
        }

    fifo-keeps : (limit : Limit) (queue : List Stamped) (below : List Asked) → AreKept below → Keeps (ask_discipline now (node (Fifo limit queue) None) below (Fifo limit queue))
    fifo-keeps limit queue below h =
        let own : Own = node (Fifo limit queue) None in
        let left : Own = node (Fifo limit (drop 1 queue)) None in
        let all : AreOnWay c (befores below) = stages-way below (befores below) h (unasked below) in
        let rest : List Descriptor = flat (waiting (befores below)) in
        let head : List Descriptor = option_to_list (slice_get (packets_of queue) 0) in
        let sends : List Note = map Sent head in
        let less : IsLess c ((head ++ packets_of (drop 1 queue)) ++ rest) (packets_of queue ++ rest) =
        less-append c (head ++ packets_of (drop 1 queue)) (packets_of queue) rest rest (fifo-gives c queue) (part-refl (flow_among c rest)) in
        record {
          before = way-worked c own [] (befores below) tt all;
          peeked = way-worked c own [] (befores below) tt all;
          taken = way-worked c left sends (befores below) tt all;
          peeks = part-refl (flow_among c (beneath (worked own [] (befores below))));
          gives = subst (λ (ps : List Descriptor). IsLess c (head ++ beneath (worked left sends (befores below))) ps) (sym (beneath-worked own [] (befores below)))
              (subst (λ (ps : List Descriptor). IsLess c (head ++ ps) (packets_of queue ++ rest)) (sym (beneath-worked left sends (befores below)))
              (subst (λ (ps : List Descriptor). IsLess c ps (packets_of queue ++ rest)) (append_assoc head (packets_of (drop 1 queue)) rest) less));
        }

    -- a prio gives what its first band that shows a packet gives
    prio-keeps : (priomap : List ℕ) (below : List Asked) → AreKept below
        → IsOnWay c (node (Prio priomap) None) (Prio priomap) (waiting (befores below))
        → Keeps (ask_discipline now (node (Prio priomap) None) below (Prio priomap))
    prio-keeps priomap below h way =
        let own : Own = node (Prio priomap) None in
        let k : ℕ = position_or_len (λ (a : Asked). is_some a.shown) below in
        let band : ℕ = band_of own priomap c in
        let head : List Descriptor = option_to_list (packet_at k below) in
        let rises : List Note = flat_map (λ (a : Asked). a.rises) (take (suc k) below) in
        let notes : List Note = rises ++ map Sent head in
        let peeked : AreLess c (waiting (peeked_to k below)) (waiting (befores below)) = stages-less below (peeked_to k below) h (prio-peeked k below) in
        let taken : AreLess c (waiting (taken_at k below)) (waiting (befores below)) = stages-less below (taken_at k below) h (prio-taken k below) in
        let given : IsLess c (head ++ flat (waiting (taken_at k below))) (flat (waiting (befores below))) =
        gives-flat c head band (waiting (taken_at k below)) (waiting (befores below)) way (prio-gives k below h) in
        record {
          before = way-worked c own [] (befores below) way (stages-way below (befores below) h (unasked below));
          peeked =
              way-worked c own rises (peeked_to k below) (less-only c band (waiting (peeked_to k below)) (waiting (befores below)) peeked way)
              (stages-way below (peeked_to k below) h (prio-peeked k below));
          taken =
              way-worked c own notes (taken_at k below) (less-only c band (waiting (taken_at k below)) (waiting (befores below)) taken way)
              (stages-way below (taken_at k below) h (prio-taken k below));
          peeks = subst (λ (ps : List Descriptor). IsLess c ps (beneath (worked own [] (befores below)))) (sym (beneath-worked own rises (peeked_to k below)))
              (subst (IsLess c (flat (waiting (peeked_to k below)))) (sym (beneath-worked own [] (befores below))) (less-flat c (waiting (peeked_to k below)) (waiting (befores below)) peeked));
          gives = subst (λ (ps : List Descriptor). IsLess c (head ++ ps) (beneath (worked own [] (befores below)))) (sym (beneath-worked own notes (taken_at k below)))
              (subst (IsLess c (head ++ flat (waiting (taken_at k below)))) (sym (beneath-worked own [] (befores below))) given);
        }

    -- a tbf gives what its child gives
    module _ (b : TokenBucket) (limit : ℕ) (a : Asked) (h : Keeps a) where
      abbrev tbf : Own
      tbf = node (Tbf b limit) None

      waits-keeps : Keeps (waits tbf (a ∷ []) a)
      waits-keeps =
          dequeued-keeps tbf (a ∷ []) (record { after = tbf; children = a.peeked ∷ []; rises = a.rises; mine = []; packet = None; since = 0 }) refl (h.before, tt) refl (h.peeked, tt)
          (less-flat c (beneath a.peeked ∷ []) (beneath a.before ∷ []) (h.peeks, tt))

      spends-keeps : (p : Descriptor) → a.shown ≡ Some p → Keeps (spends tbf (a ∷ []) b limit now a p)
      spends-keeps p e =
          dequeued-keeps tbf (a ∷ []) (record {
            after = record tbf { discipline = Tbf (after_spend b now p.len) limit };
            children = a.taken ∷ [];
            rises = a.rises;
            mine = Spent p.len ∷ [];
            packet = Some p;
            since = since_shown a;
          }) refl (h.before, tt) refl (h.taken, tt)
          (gives-flat c (p ∷ []) 0 (beneath a.taken ∷ []) (beneath a.before ∷ []) refl
          (inl (subst (λ (o : Option Descriptor). IsLess c (option_to_list o ++ beneath a.taken) (beneath a.before)) e h.gives, tt)))

      child-keeps : (o : Option Descriptor) → a.shown ≡ o
          → Keeps (option_map_or (λ (p : Descriptor). if allows b now p.len then spends tbf (a ∷ []) b limit now a p else waits tbf (a ∷ []) a) o
          (waits tbf (a ∷ []) a))
      child-keeps None e = waits-keeps
      child-keeps (Some p) e = by (allows b now p.len)
        where
          by : (may : Bool) → Keeps (if may then spends tbf (a ∷ []) b limit now a p else waits tbf (a ∷ []) a)
          by true = spends-keeps p e
          by false = waits-keeps

    tbf-keeps : (b : TokenBucket) (limit : ℕ) (below : List Asked) → length below ≡ 1 → AreKept below → Keeps (ask_tbf now (node (Tbf b limit) None) below b limit)
    tbf-keeps b limit [] e h = absurd (omega (arith, e))
    tbf-keeps b limit (a ∷ []) e h = child-keeps b limit a h.0 a.shown refl
    tbf-keeps b limit (a ∷ d ∷ below) e h = absurd (omega (arith, e))

    -- a drr gives what the class gives that is met
    class-way : (s t : Schedule) (after below : List (List Descriptor)) → t.classes ≡ s.classes → AreLess c after below
        → IsOnWay c (node (Drr s) None) (Drr s) below → IsOnWay c (node (Drr t) None) (Drr t) after
    class-way s t after below e h way =
        subst (λ (cs : List Class). HasWay c (option_and_then (λ minor. position (λ (x : Class). minor == x.name) cs) (named_class filters c)) after) (sym e)
        (less-way c (option_and_then (λ minor. position (λ (x : Class). minor == x.name) s.classes) (named_class filters c)) after below h way)

    module _ (s : Schedule) (below : List Asked) (same : length s.classes ≡ length below) (h : AreKept below) (way : IsOnWay c (node (Drr s) None) (Drr s) (waiting (befores below))) where
      abbrev drr : Own
      drr = node (Drr s) None

      abbrev looked : List Worked
      looked = (service_of s below).below

      all : AreOnWay c (befores below)
      all = stages-way below (befores below) h (unasked below)

      staged : AreStagesOf below looked
      staged = looked-staged (is_among (asked_entries (choice_of (head_of s below) s) s.active)) s.classes below same

      in-place : (i : ℕ) × OnlyAt c i (waiting (befores below))
      in-place = way-only c (option_and_then (λ minor. position (λ (x : Class). minor == x.name) s.classes) (named_class filters c)) (waiting (befores below)) way

      nothing-keeps : Keeps (gives_nothing drr below (service_of s below))
      nothing-keeps =
          let less : AreLess c (waiting looked) (waiting (befores below)) = stages-less below looked h staged in
          dequeued-keeps drr below (record {
            after = record drr { discipline = Drr (service_of s below).schedule };
            children = looked;
            rises = (service_of s below).rises;
            mine = (service_of s below).grants;
            packet = None;
            since = 0;
          }) way all (class-way s (service_of s below).schedule (waiting looked) (waiting (befores below)) (classes-served (head_of s below) s) less way) (stages-way below looked h staged)
          (less-flat c (waiting looked) (waiting (befores below)) less)

      serves-keeps : (i : ℕ) (a : Asked) (o : Option Descriptor) → slice_get below i ≡ Some a → a.shown ≡ o
          → Keeps (option_map_or (class_gives drr below (service_of s below) i a) o (gives_nothing drr below (service_of s below)))
      serves-keeps i a None e shows = nothing-keeps
      serves-keeps i a (Some p) e shows =
          let left : Schedule = settled_class i (is_empty a.taken) (service_of s below).schedule in
          let children : List Worked = set looked i a.taken in
          let stages : AreStagesOf below children = set-staged below looked i a staged e in
          let less : AreLess c (waiting children) (waiting (befores below)) = stages-less below children h stages in
          let given : Gives c (p ∷ []) (waiting children) (waiting (befores below)) =
          subst (λ (o : Option Descriptor). Gives c (option_to_list o) (waiting children) (waiting (befores below))) shows (set-gives below looked i a h staged e) in
          dequeued-keeps drr below (record {
            after = record drr { discipline = Drr left };
            children = children;
            rises = (service_of s below).rises;
            mine = (service_of s below).grants;
            packet = Some p;
            since = since_shown a;
          }) way all (class-way s left (waiting children) (waiting (befores below)) (class-settled i (is_empty a.taken) (service_of s below).schedule ∙ classes-served (head_of s below) s) less way)
          (stages-way below children h stages) (gives-flat c (p ∷ []) in-place.0 (waiting children) (waiting (befores below)) in-place.1 given)

      drr-keeps : Keeps (ask_drr drr below s)
      drr-keeps = by (place_met s below)
        where
          child : (i : ℕ) (o : Option Asked) → slice_get below i ≡ o → Keeps (option_map_or (class_serves drr below (service_of s below) i) o (gives_nothing drr below (service_of s below)))
          child i None e = nothing-keeps
          child i (Some a) e = serves-keeps i a a.shown e refl

          by : (o : Option ℕ)
              → Keeps (option_map_or (λ i. option_map_or (class_serves drr below (service_of s below) i) (slice_get below i)
              (gives_nothing drr below (service_of s below))) o (gives_nothing drr below (service_of s below)))
          by None = nothing-keeps
          by (Some i) = child i (slice_get below i) refl

    -- an fq_codel gives what the flow gives that is chosen
    fq-keeps : (s : FqState) (below : List Asked) → AreKept below → IsOnWay c (node (FqCodel s) None) (FqCodel s) (waiting (befores below))
        → Keeps (ask_discipline now (node (FqCodel s) None) below (FqCodel s))
    fq-keeps s below h way =
        let own : Own = node (FqCodel s) None in
        let after : FqState = after_sending now (selected s) in
        let all : AreOnWay c (befores below) = stages-way below (befores below) h (unasked below) in
        let rest : List Descriptor = flat (waiting (befores below)) in
        let packet : Option Descriptor = option_map (λ (t : Taken). t.packet) (sent_from now (selected s)) in
        let head : List Descriptor = option_to_list packet in
        let given : Gives c head (flow_queues after.flows) (flow_queues s.flows) = take-gives c now s in
        let flows : IsLess c (head ++ flat (flow_queues after.flows)) (flat (flow_queues s.flows)) = gives-flat c head (flow_of s c) (flow_queues after.flows) (flow_queues s.flows) way given in
        let queues : IsLess c (head ++ packets_of (all_packets after.flows)) (packets_of (all_packets s.flows)) =
        subst (λ (ps : List Descriptor). IsLess c (head ++ ps) (packets_of (all_packets s.flows))) (sym (all-flat after.flows))
        (subst (IsLess c (head ++ flat (flow_queues after.flows))) (sym (all-flat s.flows)) flows) in
        let whole : IsLess c (head ++ (packets_of (all_packets after.flows) ++ rest)) (packets_of (all_packets s.flows) ++ rest) =
        subst (λ (ps : List Descriptor). IsLess c ps (packets_of (all_packets s.flows) ++ rest)) (append_assoc head (packets_of (all_packets after.flows)) rest)
        (less-append c (head ++ packets_of (all_packets after.flows)) (packets_of (all_packets s.flows)) rest rest queues (part-refl (flow_among c rest))) in
        let only : OnlyAt c (flow_of s c) (flow_queues after.flows) =
        less-only c (flow_of s c) (flow_queues after.flows) (flow_queues s.flows)
        (gives-less c head (flow_queues after.flows) (flow_queues s.flows) given) way in
        let left : OnlyAt c (flow_of after c) (flow_queues after.flows) = subst (λ (x : FqSettings). OnlyAt c (c.hash % x.flows) (flow_queues after.flows)) (sym (take-settings now s)) only in
        dequeued-keeps own below (record {
          after = record own { discipline = FqCodel after };
          children = befores below;
          rises = (ask_discipline now own below (FqCodel s)).rises;
          mine = flow_notes s (selected s) (sent_from now (selected s));
          packet = packet;
          since = option_map_or (λ (p : Stamped). p.at) (head_sent now (selected s)) 0;
        }) way all left all whole

    node-keeps : (held : Option Descriptor) (d : Discipline) (below : List Asked) → HasSoMany d (length below) → AreKept below
        → IsOnWay c (node d held) d (waiting (befores below)) → Keeps (ask_own now (node d held) below)
    node-keeps (Some p) d below many h way = holding-keeps d p below h way
    node-keeps None (Fifo limit queue) below many h way = fifo-keeps limit queue below h
    node-keeps None (Prio priomap) below many h way = prio-keeps priomap below h way
    node-keeps None (Tbf b limit) below many h way = tbf-keeps b limit below many h
    node-keeps None (Drr s) below many h way = drr-keeps s below many h way
    node-keeps None (FqCodel s) below many h way = fq-keeps s below h way

  -- ---- every node

  module _ (mtu now : ℕ) where
    own-keeps : (own : Own) (x : Forest (Unit {0})) → IsLawfulOwn mtu now own (each beneath_own x) → IsOnWay c own own.discipline (each beneath_own x)
        → AreKept (each (ask_own now) x) → Keeps (ask_own now own (each (ask_own now) x))
    own-keeps own x lawful way h =
        let many = so-many mtu now (each beneath_own x) own.discipline lawful.discipline in
        node-keeps now own.handle own.filters own.since own.held own.discipline (each (ask_own now) x) (subst (HasSoMany own.discipline) (each-length beneath_own (ask_own now) x) many) h
        (subst (IsOnWay c own own.discipline) (sym (beneath-befores now x)) way)

    forest-keeps : (x : Forest (Unit {0})) → AllLawful mtu now x → AllOnWay c x → AreKept (each (ask_own now) x)
    forest-keeps none lawful way = tt
    forest-keeps (more own m below others) lawful way =
        (own-keeps own below lawful.0 way.0 (forest-keeps below lawful.1 way.1), forest-keeps others lawful.2 way.2)

    pub ask-keeps : (s : Shape) → IsLawfulRoot mtu now s → IsRootOnWay c s → Keeps (ask now s)
    ask-keeps s lawful way = own-keeps s.own s.below lawful.0 way.0 (forest-keeps s.below lawful.1 way.1)
