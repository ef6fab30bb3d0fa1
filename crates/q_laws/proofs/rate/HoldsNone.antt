-- The root of a device holds no packet between events: a poll takes what it shows.
use Rattle.std.proofs.Common.{◌≡◌, ℕ, max, refl, sym, ap, ◌∙◌, List, [], ◌∷◌, ◌++◌, Option, Some, None, Result, Ok, Err, option_map}
use Rattle.std.specs.Prelude.{Bool, true, false, is_some, All, slice_get, if◌then◌else◌}
use Rattle.std.specs.Option.{option_map_or}
use Rattle.std.proofs.lemmas.List.Elements.{All-nil}
use Rattle.std.proofs.lemmas.Option.{none-some}
use Rattle.q_packet.specs.Descriptor.{Descriptor}
use Rattle.q_packet.specs.declared.cause.Cause.{Cause}
use Rattle.q_packet.specs.declared.cause.Cause.TheVariants.{CoDel}
use Rattle.q_packet.specs.declared.stamped.Stamped.{Stamped}
use Rattle.q_bucket.specs.Level.{TokenBucket, allows}
use Rattle.q_codel.specs.declared.codel.Taken.{Taken}
use Rattle.q_drr.specs.Schedule.{Schedule}
use Rattle.q_fqcodel.specs.Take.{selected, head_sent, sent_from, dropped_from, after_sending}
use Rattle.q_model.specs.declared.event.Event.{Event}
use Rattle.q_model.specs.declared.event.Event.TheVariants as event
use Rattle.q_model.specs.declared.filter.Filter.{Filter}
use Rattle.q_model.specs.declared.refusal.Refusal.{Refusal}
use Rattle.q_model.specs.Ask.{Asked, dequeued, spends, waits, ask_child, ask_tbf, service_of, place_met, gives_nothing, class_gives, class_serves, befores, marks_of, ask_drr, ask_own}
use Rattle.q_model.specs.Edit.{Edit, Graft, Remake, above, edited_at, edited, remade, lost_by}
use Rattle.q_model.specs.Events.{IsEvent}
use Rattle.q_model.specs.Find.{node_at}
use Rattle.q_model.specs.Node.{Discipline, Fifo, Prio, Tbf, Drr, FqCodel, Own, Node, Shape, blank, children, each, shape}
use Rattle.q_model.specs.Put.{put_here, put_beneath, put_along}
use Rattle.q_model.specs.Route.{Route, device_route}
use Rattle.q_model.specs.Settings.{DeviceSettings, IsInRange}
use Rattle.q_model.specs.Step.{DeviceState, answered, step}
use Rattle.q_model.specs.Tally.{Note, history}
use Rattle.q_model.specs.TreeState.{put_on, plan}
use Rattle.q_model.specs.Quanta.{flow_notes}
use Rattle.q_model.specs.Work.{Worked, losses_of}
use Rattle.q_model.specs.Beneath.{packets_of}
use Rattle.q_invariants.specs.Kept.{IsCountedRoot, IsLawfulRoot}
use Rattle.q_invariants.proofs.Along.{moves}
use Rattle.q_invariants.proofs.edit.EditHandles.{once-apart}
use Rattle.q_invariants.proofs.edit.EditLater.{root-later}
use Rattle.q_invariants.proofs.edit.EditRetuned.{Planned}
use Rattle.q_invariants.proofs.edit.Edits.{plan_checked, planned}
use Rattle.q_invariants.proofs.Replays.{IsKept, not-before}
use Rattle.q_device.specs.Sharing.{device_after}

-- ---- a poll

-- once it was polled
abbrev IsFree : Asked → Type 0
IsFree a = (if is_some a.shown then a.taken else a.peeked).own.held ≡ None

free-dequeued : (own : Own) (below : List Asked) (after : Own) (left : List Worked) (rises mine : List Note) (o : Option Descriptor) (at : ℕ)
    → IsFree (dequeued own below (record { after = after; children = left; rises = rises; mine = mine; packet = o; since = at }))
free-dequeued own below after left rises mine None at = refl
free-dequeued own below after left rises mine (Some p) at = refl

-- whether it gives its packet or keeps it, a node that shows what stays where it is holds none
free-shown : (t : Bool) (a : Asked) → a.taken.own.held ≡ None → a.peeked.own.held ≡ None → (if t then a.taken else a.peeked).own.held ≡ None
free-shown true a taken peeked = taken
free-shown false a taken peeked = peeked

module _ (now : ℕ) (handle : Option ℕ) (filters : List Filter) (since : ℕ) (below : List Asked) where
  abbrev node : Discipline → Option Descriptor → Own
  node d held = record { handle = handle; discipline = d; held = held; since = since; filters = filters }

  free-tbf : (b : TokenBucket) (limit : ℕ) → IsFree (ask_tbf now (node (Tbf b limit) None) below b limit)
  free-tbf b limit = by (slice_get below 0)
    where
      own : Own
      own = node (Tbf b limit) None

      may : (a : Asked) (p : Descriptor) (t : Bool) → IsFree (if t then spends own below b limit now a p else waits own below a)
      may a p true = refl
      may a p false = refl

      child : (a : Asked) (o : Option Descriptor)
          → IsFree (option_map_or (λ (p : Descriptor). if allows b now p.len then spends own below b limit now a p else waits own below a) o
          (waits own below a))
      child a None = refl
      child a (Some p) = may a p (allows b now p.len)

      by : (o : Option Asked) → IsFree (option_map_or (ask_child now own below b limit) o (dequeued own below (record { after = own; children = []; rises = []; mine = []; packet = None; since = 0 })))
      by None = refl
      by (Some a) = child a a.shown

  free-drr : (s : Schedule) → IsFree (ask_drr (node (Drr s) None) below s)
  free-drr s = met (place_met s below)
    where
      own : Own
      own = node (Drr s) None

      nothing : Asked
      nothing = gives_nothing own below (service_of s below)

      serves : (i : ℕ) (a : Asked) → IsFree (class_serves own below (service_of s below) i a)
      serves i a = shows a.shown
        where
          shows : (o : Option Descriptor) → IsFree (option_map_or (class_gives own below (service_of s below) i a) o nothing)
          shows None = refl
          shows (Some p) = refl

      child : (i : ℕ) (o : Option Asked) → IsFree (option_map_or (class_serves own below (service_of s below) i) o nothing)
      child i None = refl
      child i (Some a) = serves i a

      met : (o : Option ℕ) → IsFree (option_map_or (λ i. option_map_or (class_serves own below (service_of s below) i) (slice_get below i) nothing) o nothing)
      met None = refl
      met (Some i) = child i (slice_get below i)

  free-own : (held : Option Descriptor) (d : Discipline) → held ≡ None → IsFree (ask_own now (node d held) below)
  free-own (Some p) d e = absurd (none-some p (sym e))
  free-own None (Fifo limit queue) e = free-shown (is_some (ask_own now (node (Fifo limit queue) None) below).shown) (ask_own now (node (Fifo limit queue) None) below) refl refl
  free-own None (Prio priomap) e = free-shown (is_some (ask_own now (node (Prio priomap) None) below).shown) (ask_own now (node (Prio priomap) None) below) refl refl
  free-own None (Tbf b limit) e = free-tbf b limit
  free-own None (Drr s) e = free-drr s
  free-own None (FqCodel s) e =
      let chosen = selected s in
      let sent = sent_from now chosen in
      let own : Own = node (FqCodel s) None in
      free-dequeued own below (record own { discipline = FqCodel (after_sending now chosen) }) (befores below)
      (losses_of CoDel (packets_of (dropped_from now chosen)) ++ marks_of sent) (flow_notes s chosen sent)
      (option_map (λ (t : Taken). t.packet) sent) (option_map_or (λ (p : Stamped). p.at) (head_sent now chosen) 0)

-- ---- an arrival

put-held : (now : ℕ) (p : Descriptor) (path : List ℕ) (refusal : Option Cause) (s : Shape) → (put_along now p refusal path s).node.own.held ≡ s.own.held
put-held now p path refusal s = along path
  where
    here : (refusal : Option Cause) → (put_here now p refusal s).node.own.held ≡ s.own.held
    here None = refl
    here (Some cause) = refl

    along : (path : List ℕ) → (put_along now p refusal path s).node.own.held ≡ s.own.held
    along [] = here refusal
    along (i ∷ path) = by (slice_get (children s) i)
      where
        by : (o : Option Shape) → (option_map_or (λ (child : Shape). put_beneath p i s (put_along now p refusal path child)) o (put_here now p refusal s)).node.own.held ≡ s.own.held
        by None = here refusal
        by (Some c) = refl

puts-held : (now : ℕ) (p : Descriptor) (r : Option Route) (s : Shape) → (put_on now p r s).node.own.held ≡ s.own.held
puts-held now p None s = refl
puts-held now p (Some r) s = put-held now p r.path r.refusal s

-- ---- a command

edit-held : (notes : List Note) (f : Node (List Note) → Node (List Note)) (path : List ℕ) (n : Node (List Note)) → (path ≡ [] → (f n).own.held ≡ None)
    → n.own.held ≡ None → (edited_at history notes f path n).own.held ≡ None
edit-held notes f [] n here e = here refl
edit-held notes f (i ∷ path) n here e = by (slice_get (children n) i)
  where
    by : (o : Option (Node (List Note))) → (option_map_or (λ (child : Node (List Note)). above history notes i (edited_at history notes f path child) n) o n).own.held ≡ None
    by None = e
    by (Some c) = e

module _ (mtu now : ℕ) (root : Node (List Note)) (lawful : IsLawfulRoot mtu now root) (all : IsCountedRoot root) (e : root.own.held ≡ None) where
  planned-held : (notes : List Note) (edit : Edit) → Planned mtu now root edit → (edited history notes edit root).own.held ≡ None
  planned-held notes (Graft path new) plan = edit-held notes (λ old. blank history new) path root (λ is. plan.suits.idle.0) e
  planned-held notes (Remake path own below) plan =
      edit-held notes (remade history own below notes) path root (λ is. (plan.suits root (ap (λ xs. node_at xs root) is) lawful all).held ∙ e) e

-- ---- all events

abbrev HoldsNone : DeviceState (List Note) → Type 0
HoldsNone d = d.tree.root.own.held ≡ None

step-holds : (d : DeviceState (List Note)) (e : Event) → IsKept d → IsEvent e → HoldsNone d → HoldsNone (step history d e).device
step-holds d (event.Arrive p moment) kept range h = puts-held (max d.clock moment) p (device_route p d.tree.device.mtu (shape d.tree.root)) (shape d.tree.root) ∙ h
step-holds d (event.Poll moment) kept range h =
    let own : Own = d.tree.root.own in
    free-own (max d.clock moment) own.handle own.filters own.since (each (ask_own (max d.clock moment)) (shape d.tree.root).below) own.held own.discipline h
step-holds d (event.Command c moment) kept range h = by (plan d.tree.device (max d.clock moment) c (shape d.tree.root)) refl
  where
    by : (answer : Result Edit Refusal) → plan d.tree.device (max d.clock moment) c (shape d.tree.root) ≡ answer → HoldsNone (answered history answer (max d.clock moment) d).device
    by (Err refusal) e = h
    by (Ok edit) e =
        let now : ℕ = max d.clock moment in
        let root : Node (List Note) = d.tree.root in
        let ok = plan_checked d.tree.device now c (shape root) edit e in
        planned-held d.tree.device.mtu now root (root-later d.clock now (not-before d.clock moment) d.tree.device.mtu root kept.lawful) kept.counted h (lost_by edit (shape root)) edit
        (planned d.tree.device now root (λ k. once-apart root k kept.handles) kept.least_mtu kept.most_mtu c edit range.0 ok.asked)

pub holds-none : (settings : DeviceSettings) (events : List Event) → IsInRange settings → All IsEvent events → (device_after settings events).tree.root.own.held ≡ None
holds-none settings events range all =
    moves (λ d. Unit {0}) (λ a b. HoldsNone a → HoldsNone b) (λ d kept s h. h) (λ d e kept event s t h. step-holds d e kept event h) (λ a b c s t f g h. g (f h))
    settings [] events range (All-nil IsEvent) all (λ seen later is. tt) refl
