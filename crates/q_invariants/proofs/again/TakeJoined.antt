-- What a take makes of a node right after a peek: it has then noted the same in all as after a take alone.
use Rattle.std.proofs.Common.{◌≡◌, ℕ, List, [], ◌∷◌, ◌++◌, map, refl, sym, ap, subst, ◌∙◌, Option, Some, None}
use Rattle.std.specs.Prelude.{Bool, true, false, slice_get, set, option_map, if◌then◌else◌}
use Rattle.std.specs.Option.{option_map_or}
use Rattle.std.proofs.lemmas.List.{append-nil}
use Rattle.std.proofs.lemmas.Option.{none-some}
use Rattle.q_packet.specs.Descriptor.{Descriptor}
use Rattle.q_packet.specs.declared.cause.Cause.TheVariants.{CoDel}
use Rattle.q_codel.specs.declared.codel.Taken.{Taken}
use Rattle.q_bucket.specs.Level.{TokenBucket, allows, after_spend}
use Rattle.q_drr.specs.Schedule.{Schedule}
use Rattle.q_fqcodel.specs.FqState.{FqState}
use Rattle.q_fqcodel.specs.Take.{selected, sent_from, dropped_from, after_sending, head_sent}
use Rattle.q_model.specs.declared.filter.Filter.{Filter}
use Rattle.q_model.specs.Tally.{Note, Spent}
use Rattle.q_model.specs.Node.{Discipline, Tbf, Drr, FqCodel, Own, Forest, none, more, side_by_side, each_memory, shape}
use Rattle.q_model.specs.Beneath.{packets_of, is_empty}
use Rattle.q_model.specs.Quanta.{flow_notes}
use Rattle.q_model.specs.Work.{Worked, worked, losses_of, settled_class}
use Rattle.q_model.specs.Ask.{Asked, befores, dequeued, spends, waits, ask_child, ask_tbf, marks_of, Service, service_of, place_met, gives_nothing, class_gives, class_serves, ask_drr, ask_fq_codel, since_shown}
use Rattle.q_invariants.proofs.again.SecondPeek.{again, AreStable, again-worked, again-befores, node, held_since}
use Rattle.q_invariants.proofs.again.SecondPeeks.{asked-shape}
use Rattle.q_invariants.proofs.ask.Asks.{before-root}
use Rattle.q_packet.specs.declared.stamped.Stamped.{Stamped}

-- ---- notes put together

-- the last is as the second, and has noted what the first has and then what the second has
abbrev pub AllJoined : Forest (List Note) → Forest (List Note) → Forest (List Note) → Type 0
AllJoined none none none = Unit {0}
AllJoined (more o m x xs) (more p n y ys) (more q notes z zs) = (p ≡ q) × (m ++ n ≡ notes) × AllJoined x y z × AllJoined xs ys zs
AllJoined x y z = ⊥

abbrev pub IsJoined : Worked → Worked → Worked → Type 0
IsJoined p q r = (q.own ≡ r.own) × (p.memory ++ q.memory ≡ r.memory) × AllJoined p.below q.below r.below

abbrev pub AreJoined : List Worked → List Worked → List Worked → Type 0
AreJoined [] [] [] = Unit {0}
AreJoined (p ∷ ps) (q ∷ qs) (r ∷ rs) = IsJoined p q r × AreJoined ps qs rs
AreJoined ps qs rs = ⊥

pub joined-side : (ps qs rs : List Worked) → AreJoined ps qs rs
    → AllJoined (side_by_side ps) (side_by_side qs) (side_by_side rs)
joined-side [] [] [] h = tt
joined-side (p ∷ ps) (q ∷ qs) (r ∷ rs) h = (h.0.0, h.0.1, h.0.2, joined-side ps qs rs h.1)
joined-side ps qs rs h = absurd h

-- nothing noted after it
forest-quiet : (x : Forest (List Note)) → AllJoined x (each_memory (λ u. []) (each_memory {N = Unit {0}} (λ m. tt) x)) x
forest-quiet none = tt
forest-quiet (more own m below others) = (refl, append-nil m, forest-quiet below, forest-quiet others)

module _ (now : ℕ) where
  pub before-joined : (w : Worked) → IsJoined w (again now w).before w
  before-joined w =
      subst (λ (q : Worked). IsJoined w q w) (sym (ap (λ (a : Asked). a.before) (sym (asked-shape now w)) ∙ before-root now (shape w))) (refl, append-nil w.memory, forest-quiet w.below)

  pub all-before : (ws : List Worked) → AreJoined ws (befores (map (again now) ws)) ws
  all-before [] = tt
  all-before (w ∷ ws) = (before-joined w, all-before ws)

  not-asked : (below : List Asked) → AreStable now below → AreJoined (befores below) (befores below) (befores below)
  not-asked below h = subst (λ (bs : List Asked). AreJoined (befores below) (befores bs) (befores below)) (again-befores now below h) (all-before (befores below))

  -- ---- a node that shows a packet

  -- what a take then makes of it, after a peek and alone
  abbrev pub TakesSo : Asked → Type 0
  TakesSo a = (p : Descriptor) → a.shown ≡ Some p → IsJoined a.peeked (again now a.peeked).taken a.taken

  abbrev pub TakeSo : List Asked → Type 0
  TakeSo [] = Unit {0}
  TakeSo (a ∷ below) = TakesSo a × TakeSo below

  module _ (handle : Option ℕ) (filters : List Filter) (since : ℕ) where
    -- one that holds a packet, and a fifo: asked once more they answer the same
    pub shown-so : (a : Asked) (below : List Asked) (own after : Own) (sent : List Note) → again now a.peeked ≡ a
        → a.peeked ≡ worked own [] (befores below) → a.taken ≡ worked after sent (befores below)
        → AreStable now below → TakesSo a
    shown-so a below own after sent same peeked taken h p e =
        subst (λ (b : Asked). IsJoined a.peeked b.taken a.taken) (sym same)
        (subst (λ (x : Worked). IsJoined x a.taken a.taken) (sym peeked)
        (subst (λ (x : Worked). IsJoined (worked own [] (befores below)) x x) (sym taken)
        (refl, refl, joined-side (befores below) (befores below) (befores below) (not-asked below h))))

    -- one that has dequeued what it shows
    pub dequeued-so : (own : Own) (below : List Asked) (d : Discipline) (children : List Worked) (rises mine : List Note) (packet : Option Descriptor) (at : ℕ)
        → TakesSo (dequeued own below (record { after = node now handle filters since d None; children = children; rises = rises; mine = mine; packet = packet; since = at }))
    dequeued-so own below d children rises mine None at p e = absurd (none-some p e)
    dequeued-so own below d children rises mine (Some q) at p e =
        let a : Asked = dequeued own below (record { after = node now handle filters since d None; children = children; rises = rises; mine = mine; packet = Some q; since = at }) in
        subst (λ (b : Asked). IsJoined a.peeked b.taken a.taken) (sym (again-worked now (held_since now handle filters since d (Some q) at) (rises ++ mine) children))
        (refl, refl, joined-side children (befores (map (again now) children)) children (all-before children))

    -- a tbf, a drr and an fq_codel dequeue
    module _ (below : List Asked) where
      pub tbf-so : (b : TokenBucket) (limit : ℕ)
          → TakesSo (ask_tbf now (node now handle filters since (Tbf b limit) None) below b limit)
      tbf-so b limit = child (slice_get below 0)
        where
          own : Own
          own = node now handle filters since (Tbf b limit) None

          waiting : (a : Asked) → TakesSo (waits own below a)
          waiting a = dequeued-so own below (Tbf b limit) (a.peeked ∷ []) a.rises [] None 0

          may : (a : Asked) (p : Descriptor) (t : Bool)
              → TakesSo (if t then spends own below b limit now a p else waits own below a)
          may a p true = dequeued-so own below (Tbf (after_spend b now p.len) limit) (a.taken ∷ []) a.rises (Spent p.len ∷ []) (Some p) (since_shown a)
          may a p false = waiting a

          shows : (a : Asked) (o : Option Descriptor)
              → TakesSo (option_map_or (λ (p : Descriptor). if allows b now p.len then spends own below b limit now a p else waits own below a) o (waits own below a))
          shows a None = waiting a
          shows a (Some p) = may a p (allows b now p.len)

          child : (o : Option Asked)
              → TakesSo (option_map_or (ask_child now own below b limit) o (dequeued own below (record { after = own; children = []; rises = []; mine = []; packet = None; since = 0 })))
          child None = dequeued-so own below (Tbf b limit) [] [] [] None 0
          child (Some a) = shows a a.shown

      pub drr-so : (s : Schedule) → TakesSo (ask_drr (node now handle filters since (Drr s) None) below s)
      drr-so s = by (place_met s below)
        where
          own : Own
          own = node now handle filters since (Drr s) None

          v : Service
          v = service_of s below

          nothing : TakesSo (gives_nothing own below v)
          nothing = dequeued-so own below (Drr v.schedule) v.below v.rises v.grants None 0

          shows : (i : ℕ) (a : Asked) (o : Option Descriptor)
              → TakesSo (option_map_or (class_gives own below v i a) o (gives_nothing own below v))
          shows i a None = nothing
          shows i a (Some p) = dequeued-so own below (Drr (settled_class i (is_empty a.taken) v.schedule)) (set v.below i a.taken) v.rises v.grants (Some p) (since_shown a)

          child : (i : ℕ) (o : Option Asked)
              → TakesSo (option_map_or (class_serves own below v i) o (gives_nothing own below v))
          child i None = nothing
          child i (Some a) = shows i a a.shown

          by : (o : Option ℕ)
              → TakesSo (option_map_or (λ i. option_map_or (class_serves own below v i) (slice_get below i) (gives_nothing own below v)) o (gives_nothing own below v))
          by None = nothing
          by (Some i) = child i (slice_get below i)

      pub fq_codel-so : (s : FqState) → TakesSo (ask_fq_codel now (node now handle filters since (FqCodel s) None) below s)
      fq_codel-so s =
          dequeued-so (node now handle filters since (FqCodel s) None) below (FqCodel (after_sending now (selected s))) (befores below)
          (losses_of CoDel (packets_of (dropped_from now (selected s))) ++ marks_of (sent_from now (selected s)))
          (flow_notes s (selected s) (sent_from now (selected s))) (option_map (λ (t : Taken). t.packet) (sent_from now (selected s)))
          (option_map_or (λ (p : Stamped). p.at) (head_sent now (selected s)) 0)
