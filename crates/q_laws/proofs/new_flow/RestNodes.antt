-- What an event makes of every fq_codel of a tree: each flow is in one of the lists or at rest, if it was so before.
use Rattle.std.proofs.Common.{◌≡◌, ℕ, ◌⊎◌, inl, inr, Bool, true, false, List, [], Option, Some, None, refl, sym, ap, subst, ◌∙◌}
use Rattle.std.specs.Prelude.{slice_get, if◌then◌else◌}
use Rattle.std.specs.Option.{option_map_or}
use Rattle.std.proofs.lemmas.Bool.{cases_Bool}
use Rattle.q_packet.specs.Descriptor.{Descriptor}
use Rattle.q_packet.specs.declared.cause.Cause.{Cause}
use Rattle.q_bucket.specs.Level.{TokenBucket, allows}
use Rattle.q_drr.specs.Schedule.{Schedule}
use Rattle.q_fqcodel.specs.FqState.{FqState}
use Rattle.q_fqcodel.specs.Put.{is_listed}
use Rattle.q_fqcodel.specs.Take.{selected, after_sending}
use Rattle.q_model.specs.Tally.{Note, history}
use Rattle.q_model.specs.Node.{Discipline, Fifo, Prio, Tbf, Drr, FqCodel, Own, Node, Shape, shape, each}
use Rattle.q_model.specs.Work.{Worked, settled_in, booked}
use Rattle.q_model.specs.Put.{queued_in}
use Rattle.q_model.specs.Ask.{Asked, holding, dequeued, service_of, spends, waits, ask_child, ask_tbf, place_met, gives_nothing, class_gives, class_serves, ask_drr, ask_discipline, ask_own, ask}
use Rattle.q_invariants.proofs.ask.AskStages.{IsStageOf, IsAskOf}
use Rattle.q_invariants.proofs.flow.FlowSteps.{lists_of}
use Rattle.q_invariants.proofs.put.PutKinds.{put-stage}
use Rattle.q_invariants.proofs.put.PutStages.{IsPutOf}
use Rattle.q_invariants.proofs.tree.Related.{IsRelated, comes-of}
use Rattle.q_invariants.proofs.tree.Within.{IsOf, HasHandle}
use Rattle.q_laws.specs.new_flow.Rest.{FlowRests}
use Rattle.q_laws.proofs.new_flow.RestLemmas.{In, put-listed, selected-keeps, sent-rests, take-rests}
use Rattle.q_laws.proofs.new_flow.RestSteps.{put-rests}

-- every flow is in one of the lists, or at rest
abbrev pub Rests : Discipline → Type 0
Rests (FqCodel s) = (j : ℕ) → In j (lists_of s) ⊎ FlowRests j s.flows
Rests (Fifo limit queue) = Unit {0}
Rests (Prio priomap) = Unit {0}
Rests (Tbf bucket limit) = Unit {0}
Rests (Drr s) = Unit {0}

-- ---- an arrival

queued-rests : (p : Descriptor) (now : ℕ) (d : Discipline) → Rests d → Rests (queued_in p now d)
queued-rests p now (FqCodel s) h = λ j. elim (h j) [
  | inl listed ↦ inl (put-listed j s p now listed)
  | inr rest ↦ inr (put-rests j s p now rest)
]
queued-rests p now (Fifo limit queue) h = tt
queued-rests p now (Prio priomap) h = tt
queued-rests p now (Tbf bucket limit) h = tt
queued-rests p now (Drr s) h = tt

pub settled-rests : (i : ℕ) (emptied : Bool) (d : Discipline) → Rests d → Rests (settled_in i emptied d)
settled-rests i emptied (FqCodel s) h = h
settled-rests i emptied (Fifo limit queue) h = tt
settled-rests i emptied (Prio priomap) h = tt
settled-rests i emptied (Tbf bucket limit) h = tt
settled-rests i emptied (Drr s) h = tt

pub put-keeps : (now : ℕ) (p : Descriptor) (refusal : Option Cause) (s : Shape) (w : Worked) → IsPutOf now p refusal s w → Rests s.own.discipline → Rests w.own.discipline
put-keeps now p refusal s w way h = by (put-stage now p refusal s w way).discipline
  where
    by : (w.own.discipline ≡ s.own.discipline) ⊎ (w.own.discipline ≡ queued_in p now s.own.discipline) ⊎ ((i : ℕ) × (emptied : Bool) × (w.own.discipline ≡ settled_in i emptied s.own.discipline))
        → Rests w.own.discipline
    by (inl e) = subst Rests (sym e) h
    by (inr (inl e)) = subst Rests (sym e) (queued-rests p now s.own.discipline h)
    by (inr (inr e)) = subst Rests (sym e.2) (settled-rests e.0 e.1 s.own.discipline h)

-- ---- a poll

turned-rests : (now : ℕ) (s : FqState) → Rests (FqCodel s) → Rests (FqCodel (after_sending now (selected s)))
turned-rests now s h = λ j. by j (h j) (cases_Bool (is_listed j (lists_of (after_sending now (selected s)))))
  where
    by : (j : ℕ) → In j (lists_of s) ⊎ FlowRests j s.flows
        → (is_listed j (lists_of (after_sending now (selected s))) ≡ true) ⊎ (is_listed j (lists_of (after_sending now (selected s))) ≡ false)
        → In j (lists_of (after_sending now (selected s))) ⊎ FlowRests j (after_sending now (selected s)).flows
    by j was (inl listed) = inl listed
    by j (inl there) (inr absent) = inr (take-rests j now s there absent)
    by j (inr rest) (inr absent) = inr (sent-rests j now (selected s) absent (λ none. selected-keeps j s rest))

-- at each stage of a node that is asked
record AllRests (a : Asked) : Type 0 where
  before : Rests a.before.own.discipline
  peeked : Rests a.peeked.own.discipline
  taken : Rests a.taken.own.discipline

module _ (now : ℕ) (own : Own) (below : List Asked) (h : Rests own.discipline) where
  module _ (b : TokenBucket) (limit : ℕ) where
    waiting : (a : Asked) → AllRests (waits own below a)
    waiting a = record { before = h; peeked = h; taken = h }

    child-rests : (a : Asked) (o : Option Descriptor)
        → AllRests (option_map_or (λ (p : Descriptor). if allows b now p.len then spends own below b limit now a p else waits own below a) o (waits own below a))
    child-rests a None = waiting a
    child-rests a (Some p) = by (allows b now p.len)
      where
        by : (may : Bool) → AllRests (if may then spends own below b limit now a p else waits own below a)
        by true = record { before = h; peeked = tt; taken = tt }
        by false = waiting a

    tbf-rests : AllRests (ask_tbf now own below b limit)
    tbf-rests = by (slice_get below 0)
      where
        by : (o : Option Asked)
            → AllRests (option_map_or (ask_child now own below b limit) o
            (dequeued own below (record { after = own; children = []; rises = []; mine = []; packet = None; since = 0 })))
        by None = record { before = h; peeked = h; taken = h }
        by (Some a) = child-rests a a.shown

  drr-rests : (s : Schedule) → AllRests (ask_drr own below s)
  drr-rests s = by (place_met s below)
    where
      nothing : AllRests (gives_nothing own below (service_of s below))
      nothing = record { before = h; peeked = tt; taken = tt }

      serves : (i : ℕ) (a : Asked) (o : Option Descriptor) → AllRests (option_map_or (class_gives own below (service_of s below) i a) o (gives_nothing own below (service_of s below)))
      serves i a None = nothing
      serves i a (Some p) = record { before = h; peeked = tt; taken = tt }

      child : (i : ℕ) (o : Option Asked) → AllRests (option_map_or (class_serves own below (service_of s below) i) o (gives_nothing own below (service_of s below)))
      child i None = nothing
      child i (Some a) = serves i a a.shown

      by : (o : Option ℕ)
          → AllRests (option_map_or (λ i. option_map_or (class_serves own below (service_of s below) i) (slice_get below i)
          (gives_nothing own below (service_of s below))) o (gives_nothing own below (service_of s below)))
      by None = nothing
      by (Some i) = child i (slice_get below i)

  discipline-rests : (d : Discipline) → own.discipline ≡ d → AllRests (ask_discipline now own below d)
  discipline-rests (Fifo limit queue) is = record { before = h; peeked = h; taken = tt }
  discipline-rests (Prio priomap) is = record { before = h; peeked = h; taken = h }
  discipline-rests (Tbf b limit) is = tbf-rests b limit
  discipline-rests (Drr s) is = drr-rests s
  discipline-rests (FqCodel s) is =
      let turned : Rests (FqCodel (after_sending now (selected s))) = turned-rests now s (subst Rests is h) in
      record { before = h; peeked = turned; taken = turned }

  own-rests : AllRests (ask_own now own below)
  own-rests = by own.held
    where
      by : (o : Option Descriptor) → AllRests (option_map_or (holding own below) o (ask_discipline now own below own.discipline))
      by None = discipline-rests own.discipline refl
      by (Some p) = record { before = h; peeked = h; taken = h }

pub ask-keeps : (now : ℕ) (s : Shape) (w : Worked) → IsAskOf now s w → Rests s.own.discipline → Rests w.own.discipline
ask-keeps now s w stage h = by stage
  where
    all : AllRests (ask now s)
    all = own-rests now s.own (each (ask_own now) s.below) h

    by : IsStageOf (ask now s) w → Rests w.own.discipline
    by (inl e) = subst (λ (k : Worked). Rests k.own.discipline) (sym e) all.before
    by (inr (inl e)) = subst (λ (k : Worked). Rests k.own.discipline) (sym e) all.peeked
    by (inr (inr e)) = subst (λ (k : Worked). Rests k.own.discipline) (sym e) all.taken

-- ---- a whole tree

-- at every qdisc: implicit leaves have no handle
abbrev pub AllRest : Node (List Note) → Type 0
AllRest root = (h : ℕ) (n : Node (List Note)) → IsOf n root → HasHandle h n → Rests n.own.discipline

-- a step that keeps the form of the tree
pub form-rests : (R : Shape → Worked → Type 0) (root : Node (List Note)) (w : Worked) → ((s : Shape) (v : Worked) → R s v → Rests s.own.discipline → Rests v.own.discipline)
    → IsRelated R (shape root) w → AllRest root → AllRest (booked history root w)
form-rests R root w keeps related all h n there handle =
    let c = comes-of R root w n related there in
    subst (λ (k : Node (List Note)). Rests k.own.discipline) c.is
    (keeps (shape c.before) c.worked c.by (all h c.before c.there (sym c.handle ∙ ap (λ (k : Node (List Note)). k.own.handle) c.is ∙ handle)))
