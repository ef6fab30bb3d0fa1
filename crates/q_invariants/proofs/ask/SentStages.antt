-- What a node notes as sent when it is asked: nothing until its packet is taken, and then that packet.
use Rattle.std.proofs.Common.{◌≡◌, ℕ, suc, Bool, true, false, List, [], ◌∷◌, ◌++◌, map, take, drop, set, refl, Option, Some, None, option_to_list, arith}
use Rattle.std.specs.Prelude.{◌==◌, sum_by, slice_get, if◌then◌else◌}
use Rattle.std.specs.Option.{option_map_or}
use Rattle.std.proofs.lemmas.List.Sums.{sum_by-cons, sum_by-append}
use Rattle.q_packet.specs.Choice.{Choice}
use Rattle.q_packet.specs.Descriptor.{Descriptor}
use Rattle.q_codel.specs.declared.codel.Taken.{Taken}
use Rattle.q_bucket.specs.Level.{TokenBucket, allows, after_spend}
use Rattle.q_drr.specs.Schedule.{Entry, Schedule}
use Rattle.q_drr.specs.Take.{choice_of}
use Rattle.q_fqcodel.specs.Entry as flow
use Rattle.q_fqcodel.specs.FqState.{FqState}
use Rattle.q_fqcodel.specs.QuantaGiven.{Grant, grants}
use Rattle.q_fqcodel.specs.Take.{selected, front, sent_from}
use Rattle.q_model.specs.Tally.{Note, Sent, Granted, Spent, FlowGranted}
use Rattle.q_model.specs.Node.{Discipline, Fifo, Prio, Tbf, Drr, FqCodel, Own, Shape, each}
use Rattle.q_model.specs.Grants.{grant_notes, granted_notes}
use Rattle.q_model.specs.Beneath.{is_empty, packets_of}
use Rattle.q_model.specs.Work.{settled_class}
use Rattle.q_model.specs.Quanta.{flows_granted, flow_gave, flow_notes}
use Rattle.q_model.specs.Ask.{Asked, holding, Dequeue, dequeued, waits, spends, ask_tbf, head_of, service_of, place_met, gives_nothing, class_gives, class_serves, ask_drr, ask_discipline, ask_own, ask, since_shown}
use Rattle.q_model.specs.Stretches.{sent_by, bytes_sent, length_held}
use Rattle.q_invariants.proofs.bucket.BucketSteps.{given-bytes}
use Rattle.q_invariants.proofs.sums.NoteSums.{AreRisen, sum-risen, past-sent}
use Rattle.q_invariants.proofs.sums.Risen.{AllRise, rise-service, discipline-rises, all-rise}

pub record Gives (a : Asked) : Type 0 where
  pub before : bytes_sent a.before.memory ≡ 0
  pub peeked : bytes_sent a.peeked.memory ≡ 0
  pub taken : bytes_sent a.taken.memory ≡ length_held a.shown

dequeued-gives : (own : Own) (below : List Asked) (d : Dequeue) → AreRisen d.rises → bytes_sent d.mine ≡ 0 → Gives (dequeued own below d)
dequeued-gives own below d rises mine =
    let none = sum-risen sent_by past-sent d.rises rises in
    let given = given-bytes d.packet in
    let both = sum_by-append sent_by d.rises d.mine in
    record {
      before = refl;
      peeked = omega (arith, none, mine, both);
      taken = omega (arith, none, mine, both, given.0, sum_by-append sent_by (d.rises ++ d.mine) (map Sent (option_to_list d.packet)));
    }

-- ---- notes of one kind

pub sum-each : {X : Type 0} (f : Note → ℕ) (g : X → Note) → ((x : X) → f (g x) ≡ 0) → (xs : List X) → sum_by f (map g xs) ≡ 0
sum-each f g zero_at [] = refl
sum-each f g zero_at (x ∷ xs) = omega (arith, sum_by-cons f (g x) (map g xs), zero_at x, sum-each f g zero_at xs)

grants-alone : (f : Note → ℕ) → ((n k : ℕ) → f (Granted n k) ≡ 0) → (k : ℕ) (es : List Entry) → sum_by f (grant_notes k es) ≡ 0
grants-alone f zero_at k es = by (k == 0)
  where
    by : (t : Bool) → sum_by f (if t then [] else map (λ (e : Entry). Granted e.class k) es) ≡ 0
    by true = refl
    by false = sum-each f (λ (e : Entry). Granted e.class k) (λ e. zero_at e.class k) es

pub all-grants : (f : Note → ℕ) → ((n k : ℕ) → f (Granted n k) ≡ 0) → (o : Option Choice) (es : List Entry) → sum_by f (granted_notes o es) ≡ 0
all-grants f zero_at None es = refl
all-grants f zero_at (Some c) es =
    omega (
      arith,
      sum_by-append f (grant_notes (suc c.rounds) (take c.place es)) (grant_notes c.rounds (drop c.place es)),
      grants-alone f zero_at (suc c.rounds) (take c.place es),
      grants-alone f zero_at c.rounds (drop c.place es),
    )

flow-sends : (s t : FqState) (o : Option Taken) → bytes_sent (flow_notes s t o) ≡ 0
flow-sends s t o = omega (arith, sum_by-append sent_by (flows_granted s) (flow_gave (front t) o), sum-each sent_by (λ (g : Grant). FlowGranted g.flow g.quanta) (λ g. refl) (grants s), by (front t) o)
  where
    by : (e : Option flow.Entry) (o : Option Taken) → bytes_sent (flow_gave e o) ≡ 0
    by None o = refl
    by (Some e) None = refl
    by (Some e) (Some x) = refl

-- ---- each kind of node

tbf-gives : (now : ℕ) (own : Own) (below : List Asked) (b : TokenBucket) (limit : ℕ) → AllRise below → Gives (ask_tbf now own below b limit)
tbf-gives now own [] b limit h = dequeued-gives own [] (record { after = own; children = []; rises = []; mine = []; packet = None; since = 0 }) tt refl
tbf-gives now own (a ∷ below) b limit h = child a.shown
  where
    waiting : Gives (waits own (a ∷ below) a)
    waiting = dequeued-gives own (a ∷ below) (record { after = own; children = a.peeked ∷ []; rises = a.rises; mine = []; packet = None; since = 0 }) h.0 refl

    child : (o : Option Descriptor)
        → Gives (option_map_or (λ (p : Descriptor). if allows b now p.len then spends own (a ∷ below) b limit now a p else waits own (a ∷ below) a) o
        (waits own (a ∷ below) a))
    child None = waiting
    child (Some p) = by (allows b now p.len)
      where
        by : (may : Bool) → Gives (if may then spends own (a ∷ below) b limit now a p else waits own (a ∷ below) a)
        by true =
            dequeued-gives own (a ∷ below) (record {
              after = record own { discipline = Tbf (after_spend b now p.len) limit };
              children = a.taken ∷ [];
              rises = a.rises;
              mine = Spent p.len ∷ [];
              packet = Some p;
              since = since_shown a;
            }) h.0 refl
        by false = waiting

drr-gives : (own : Own) (below : List Asked) (s : Schedule) → AllRise below → Gives (ask_drr own below s)
drr-gives own below s h = by (place_met s below)
  where
    silent : bytes_sent (service_of s below).grants ≡ 0
    silent = all-grants sent_by (λ n k. refl) (choice_of (head_of s below) s) s.active

    nothing : Gives (gives_nothing own below (service_of s below))
    nothing =
        dequeued-gives own below (record {
          after = record own { discipline = Drr (service_of s below).schedule };
          children = (service_of s below).below;
          rises = (service_of s below).rises;
          mine = (service_of s below).grants;
          packet = None;
          since = 0;
        }) (rise-service s below h) silent

    serves : (i : ℕ) (a : Asked) (o : Option Descriptor) → Gives (option_map_or (class_gives own below (service_of s below) i a) o (gives_nothing own below (service_of s below)))
    serves i a None = nothing
    serves i a (Some p) =
        dequeued-gives own below (record {
          after = record own { discipline = Drr (settled_class i (is_empty a.taken) (service_of s below).schedule) };
          children = set (service_of s below).below i a.taken;
          rises = (service_of s below).rises;
          mine = (service_of s below).grants;
          packet = Some p;
          since = since_shown a;
        }) (rise-service s below h) silent

    child : (i : ℕ) (o : Option Asked) → Gives (option_map_or (class_serves own below (service_of s below) i) o (gives_nothing own below (service_of s below)))
    child i None = nothing
    child i (Some a) = serves i a a.shown

    by : (o : Option ℕ)
        → Gives (option_map_or (λ i. option_map_or (class_serves own below (service_of s below) i) (slice_get below i)
        (gives_nothing own below (service_of s below))) o (gives_nothing own below (service_of s below)))
    by None = nothing
    by (Some i) = child i (slice_get below i)

own-gives : (now : ℕ) (own : Own) (below : List Asked) → AllRise below → Gives (ask_own now own below)
own-gives now own below h = by own.held own.discipline
  where
    discipline : (d : Discipline) → Gives (ask_discipline now own below d)
    discipline (Fifo limit queue) = record { before = refl; peeked = refl; taken = (given-bytes (slice_get (packets_of queue) 0)).0 }
    discipline (Prio priomap) =
        let a : Asked = ask_discipline now own below (Prio priomap) in
        let none = sum-risen sent_by past-sent a.rises (discipline-rises now own below h (Prio priomap)) in
        let given = given-bytes a.shown in
        record { before = refl; peeked = none; taken = omega (arith, none, given.0, sum_by-append sent_by a.rises (map Sent (option_to_list a.shown))) }
    discipline (Tbf b limit) = tbf-gives now own below b limit h
    discipline (Drr s) = drr-gives own below s h
    discipline (FqCodel s) =
        let a : Asked = ask_discipline now own below (FqCodel s) in
        let none = sum-risen sent_by past-sent a.rises (discipline-rises now own below h (FqCodel s)) in
        let mine = flow-sends s (selected s) (sent_from now (selected s)) in
        let notes : List Note = flow_notes s (selected s) (sent_from now (selected s)) in
        let both = sum_by-append sent_by a.rises notes in
        let given = given-bytes a.shown in
        record {
          before = refl;
          peeked = omega (arith, none, mine, both);
          taken = omega (arith, none, mine, both, given.0, sum_by-append sent_by (a.rises ++ notes) (map Sent (option_to_list a.shown)));
        }

    by : (o : Option Descriptor) (d : Discipline) → Gives (option_map_or (holding own below) o (ask_discipline now own below d))
    by None d = discipline d
    by (Some p) d = record { before = refl; peeked = refl; taken = (given-bytes (Some p)).0 }

pub ask-gives : (now : ℕ) (s : Shape) → Gives (ask now s)
ask-gives now s = own-gives now s.own (each (ask_own now) s.below) (all-rise now s.below)
