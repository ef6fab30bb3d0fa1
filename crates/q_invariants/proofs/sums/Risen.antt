-- What rises from a node, whoever asks it, are losses and marks alone.
use Rattle.std.proofs.Common.{ℕ, zero, suc, List, [], ◌∷◌, take, flat_map, Option, Some, None, option_and_then}
use Rattle.std.specs.Prelude.{Bool, true, false, slice_get, if◌then◌else◌, is_some}
use Rattle.std.specs.List.{position_or_len}
use Rattle.std.specs.Option.{option_map_or}
use Rattle.q_packet.specs.Descriptor.{Descriptor}
use Rattle.q_packet.specs.declared.cause.Cause.{Cause}
use Rattle.q_packet.specs.declared.cause.Cause.TheVariants.{CoDel, FatFlow}
use Rattle.q_codel.specs.declared.codel.Taken.{Taken}
use Rattle.q_bucket.specs.Level.{TokenBucket, allows}
use Rattle.q_drr.specs.Schedule.{Entry, Schedule}
use Rattle.q_drr.specs.Take.{choice_of}
use Rattle.q_fqcodel.specs.Put.{lost_by_put}
use Rattle.q_fqcodel.specs.Take.{selected, dropped_from, sent_from}
use Rattle.q_model.specs.Tally.{Marked}
use Rattle.q_model.specs.Node.{Discipline, Fifo, Prio, Tbf, Drr, FqCodel, Own, Forest, none, more, Shape, children, each}
use Rattle.q_model.specs.Beneath.{packets_of}
use Rattle.q_model.specs.Grants.{asked_entries}
use Rattle.q_model.specs.Route.{class_at}
use Rattle.q_model.specs.Ask.{Asked, holding, waits, spends, ask_tbf, class_answer, head_of, service_of, place_met, gives_nothing, class_gives, class_serves, ask_drr, marks_of, ask_discipline, ask_own}
use Rattle.q_model.specs.Work.{losses_of}
use Rattle.q_model.specs.Put.{lost_in, put_here, put_beneath, put_along}
use Rattle.q_invariants.proofs.sums.NoteSums.{AreRisen, risen-append, risen-losses}

abbrev pub AllRise : List Asked → Type 0
AllRise [] = Unit {0}
AllRise (a ∷ below) = AreRisen a.rises × AllRise below

rise-taken : (k : ℕ) (below : List Asked) → AllRise below → AreRisen (flat_map (λ (a : Asked). a.rises) (take k below))
rise-taken zero below h = tt
rise-taken (suc k) [] h = tt
rise-taken (suc k) (a ∷ below) h = risen-append a.rises (flat_map (λ (a : Asked). a.rises) (take k below)) h.0 (rise-taken k below h.1)

rise-at : (below : List Asked) (i : ℕ) → AllRise below → AreRisen (option_map_or (λ (a : Asked). a.rises) (slice_get below i) [])
rise-at [] i h = tt
rise-at (a ∷ below) zero h = h.0
rise-at (a ∷ below) (suc i) h = rise-at below i h.1

rise-class : (below : List Asked) (o : Option ℕ) → AllRise below → AreRisen (option_map_or (λ (a : Asked). a.rises) (option_and_then (slice_get below) o) [])
rise-class below None h = tt
rise-class below (Some i) h = rise-at below i h

rise-entries : (s : Schedule) (below : List Asked) (entries : List Entry) → AllRise below
    → AreRisen (flat_map (λ (e : Entry). option_map_or (λ (a : Asked). a.rises) (class_answer s below e.class) []) entries)
rise-entries s below [] h = tt
rise-entries s below (e ∷ entries) h =
    risen-append (option_map_or (λ (a : Asked). a.rises) (class_answer s below e.class) []) (flat_map (λ (e : Entry). option_map_or (λ (a : Asked). a.rises) (class_answer s below e.class) []) entries)
    (rise-class below (class_at e.class s) h) (rise-entries s below entries h)

pub rise-service : (s : Schedule) (below : List Asked) → AllRise below → AreRisen (service_of s below).rises
rise-service s below h = rise-entries s below (asked_entries (choice_of (head_of s below) s) s.active) h

rise-marks : (o : Option Taken) → AreRisen (marks_of o)
rise-marks None = tt
rise-marks (Some t) = by t.marked
  where
    by : (b : Bool) → AreRisen (if b then Marked t.packet ∷ [] else [])
    by true = (tt, tt)
    by false = tt

rise-child : (now : ℕ) (own : Own) (below : List Asked) (b : TokenBucket) (limit : ℕ) (a : Asked) (o : Option Descriptor) → AreRisen a.rises
    → AreRisen (option_map_or (λ (p : Descriptor). if allows b now p.len then spends own below b limit now a p else waits own below a) o (waits own below a)).rises
rise-child now own below b limit a None h = h
rise-child now own below b limit a (Some p) h = by (allows b now p.len)
  where
    by : (may : Bool) → AreRisen (if may then spends own below b limit now a p else waits own below a).rises
    by true = h
    by false = h

rise-tbf : (now : ℕ) (own : Own) (below : List Asked) (b : TokenBucket) (limit : ℕ) → AllRise below → AreRisen (ask_tbf now own below b limit).rises
rise-tbf now own [] b limit h = tt
rise-tbf now own (a ∷ below) b limit h = rise-child now own (a ∷ below) b limit a a.shown h.0

rise-drr : (own : Own) (below : List Asked) (s : Schedule) → AllRise below → AreRisen (ask_drr own below s).rises
rise-drr own below s h = by (place_met s below)
  where
    serves : (i : ℕ) (a : Asked) (o : Option Descriptor) → AreRisen (option_map_or (class_gives own below (service_of s below) i a) o (gives_nothing own below (service_of s below))).rises
    serves i a None = rise-service s below h
    serves i a (Some p) = rise-service s below h

    child : (i : ℕ) (o : Option Asked) → AreRisen (option_map_or (class_serves own below (service_of s below) i) o (gives_nothing own below (service_of s below))).rises
    child i None = rise-service s below h
    child i (Some a) = serves i a a.shown

    by : (o : Option ℕ)
        → AreRisen (option_map_or (λ i. option_map_or (class_serves own below (service_of s below) i) (slice_get below i)
        (gives_nothing own below (service_of s below))) o (gives_nothing own below (service_of s below))).rises
    by None = rise-service s below h
    by (Some i) = child i (slice_get below i)

module _ (now : ℕ) (own : Own) (below : List Asked) (h : AllRise below) where
  pub discipline-rises : (d : Discipline) → AreRisen (ask_discipline now own below d).rises
  discipline-rises (Fifo limit queue) = tt
  discipline-rises (Prio priomap) = rise-taken (suc (position_or_len (λ (a : Asked). is_some a.shown) below)) below h
  discipline-rises (Tbf b limit) = rise-tbf now own below b limit h
  discipline-rises (Drr s) = rise-drr own below s h
  discipline-rises (FqCodel s) =
      risen-append (losses_of CoDel (packets_of (dropped_from now (selected s)))) (marks_of (sent_from now (selected s)))
      (risen-losses CoDel (packets_of (dropped_from now (selected s)))) (rise-marks (sent_from now (selected s)))

pub own-rises : (now : ℕ) (own : Own) (below : List Asked) → AllRise below → AreRisen (ask_own now own below).rises
own-rises now own below h = by own.held own.discipline
  where
    by : (o : Option Descriptor) (d : Discipline) → AreRisen (option_map_or (holding own below) o (ask_discipline now own below d)).rises
    by None d = discipline-rises now own below h d
    by (Some p) d = tt

pub all-rise : (now : ℕ) (x : Forest (Unit {0})) → AllRise (each (ask_own now) x)
all-rise now none = tt
all-rise now (more own m below others) = (own-rises now own (each (ask_own now) below) (all-rise now below), all-rise now others)

-- what rises from a node where a packet is put
rise-lost : (p : Descriptor) (now : ℕ) (d : Discipline) → AreRisen (lost_in p now d)
rise-lost p now (Fifo limit queue) = tt
rise-lost p now (Prio priomap) = tt
rise-lost p now (Tbf b limit) = tt
rise-lost p now (Drr s) = tt
rise-lost p now (FqCodel s) = risen-losses FatFlow (packets_of (lost_by_put s p now))

pub rise-here : (now : ℕ) (p : Descriptor) (o : Option Cause) (s : Shape) → AreRisen (put_here now p o s).rises
rise-here now p None s = rise-lost p now s.own.discipline
rise-here now p (Some cause) s = (tt, tt)

pub rise-along : (now : ℕ) (p : Descriptor) (o : Option Cause) (path : List ℕ) (s : Shape) → AreRisen (put_along now p o path s).rises
rise-along now p o [] s = rise-here now p o s
rise-along now p o (i ∷ path) s = by (slice_get (children s) i) (rise-along now p o path)
  where
    by : (x : Option Shape) → ((c : Shape) → AreRisen (put_along now p o path c).rises)
        → AreRisen (option_map_or (λ (child : Shape). put_beneath p i s (put_along now p o path child)) x (put_here now p o s)).rises
    by None rec = rise-here now p o s
    by (Some c) rec = rec c
