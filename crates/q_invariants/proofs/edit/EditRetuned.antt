-- A node whose children all stay, with other settings or filters.
use Rattle.std.proofs.Common.{◌≡◌, ℕ, ◌+◌, ◌≤◌, Bool, true, List, [], ◌∷◌, ◌++◌, length, map, refl, sym, ap, subst, ◌∙◌, Option, Some, None, arith}
use Rattle.std.specs.Prelude.{is_some}
use Rattle.std.specs.List.{All, AllPairs, list_any}
use Rattle.std.proofs.lemmas.Option.{same_Some}
use Rattle.std.proofs.lemmas.List.{length-map}
use Rattle.std.proofs.lemmas.List.Elements.{All-weaker, All-map}
use Rattle.q_packet.specs.Descriptor.{Descriptor}
use Rattle.q_fqcodel.specs.FqState.{FqSettings, FqState, Flow, all_packets, retuned, after_change}
use Rattle.q_fqcodel.specs.Ranges as settings
use Rattle.q_fqcodel.proofs.LawfulLemmas.{lawful_changed}
use Rattle.q_model.specs.declared.filter.Filter.{Filter}
use Rattle.q_model.specs.Refusals.{most_filters}
use Rattle.q_model.specs.Tally.{Note, history}
use Rattle.q_model.specs.Node.{Discipline, FqCodel, Own, Node, children, each, shape}
use Rattle.q_model.specs.Beneath.{packets_in, packets_of, beneath_own, beneath}
use Rattle.q_model.specs.Find.{class_in, node_at}
use Rattle.q_model.specs.Edit.{Child, Edit, Remake, keeps}
use Rattle.q_model.specs.QdiscCommands.{all_kept}
use Rattle.q_model.specs.Lawful.{IsLawfulDiscipline, IsLawfulFlow, IsLawfulOwn, CanHold}
use Rattle.q_invariants.specs.Kept.{IsCountedRoot, IsLawfulRoot}
use Rattle.q_invariants.specs.Weights.{weigh}
use Rattle.q_invariants.proofs.edit.EditChildren.{kids, kids_all, kept_there, gone_none}
use Rattle.q_invariants.proofs.edit.EditHandles.{one, times}
use Rattle.q_invariants.proofs.edit.EditRemade.{Remakes, own_changed}
use Rattle.q_invariants.proofs.edit.EditSuits.{length-shape, gone_from, Suits}
use Rattle.q_invariants.proofs.sums.Weights.{weigh-nil}
use Rattle.q_invariants.proofs.tree.Forests.{each-nodes, lawful-nodes, counted-nodes}

-- what a planned edit has to be: it suits the tree, and its new handle is none that the tree has
pub record Planned (mtu now : ℕ) (root : Node (List Note)) (edit : Edit) : Type 0 where
  pub fresh : Option ℕ
  pub free : (h : ℕ) → times h root + one h fresh ≤ 1
  pub suits : Suits mtu now fresh root edit

-- a node made anew gets no handle more
pub planned_remake : (mtu now : ℕ) (root : Node (List Note)) (path : List ℕ) (own : Own) (below : List Child) (old : Node (List Note)) → ((h : ℕ) → times h root ≤ 1)
    → node_at path root ≡ Some old
    → (IsLawfulRoot mtu now old → IsCountedRoot old → Remakes mtu now (gone_from below old) old own (kids history (children old) below))
    → Planned mtu now root (Remake path own below)
planned_remake mtu now root path own below old once at h = record {
  fresh = None;
  free = λ k. omega (arith, once k);
  suits = λ other e. subst (λ (n : Node (List Note)). IsLawfulRoot mtu now n → IsCountedRoot n → Remakes mtu now (gone_from below n) n own (kids history (children n) below))
      (same_Some old other (sym at ∙ e)) h;
}

module _ (mtu now : ℕ) (old : Node (List Note)) (lawful : IsLawfulRoot mtu now old) (counted : IsCountedRoot old) where
  pub below_is : each beneath_own old.below ≡ map beneath (children old)
  below_is = each-nodes beneath_own old.below

  pub own_lawful : IsLawfulOwn mtu now old.own (map beneath (children old))
  own_lawful = subst (IsLawfulOwn mtu now old.own) below_is lawful.0

  pub children_lawful : All (IsLawfulRoot mtu now) (children old)
  children_lawful = lawful-nodes mtu now old.below lawful.1

  pub children_counted : All IsCountedRoot (children old)
  children_counted = counted-nodes old.below counted.1

  -- all children stay
  pub remakes_all : (own : Own) → own.handle ≡ old.own.handle → own.held ≡ old.own.held → packets_in own.discipline ≡ packets_in old.own.discipline
      → IsLawfulOwn mtu now own (map beneath (children old)) → Remakes mtu now (gone_from (all_kept (shape old)) old) old own (kids history (children old) (all_kept (shape old)))
  remakes_all own handle held packets own_is =
      let k : ℕ = length (children (shape old)) in
      let same : kids history (children old) (all_kept (shape old)) ≡ children old = kids_all history (children old) k (length-shape old) in
      let none : gone_from (all_kept (shape old)) old ≡ [] =
      gone_none (λ j. list_any (keeps j) (all_kept (shape old))) 0 (map beneath (children old))
      (λ j le lt. kept_there j 0 k le (omega (arith, lt, length-shape old, length-map (children old) beneath))) in
      subst (Remakes mtu now (gone_from (all_kept (shape old)) old) old own) (sym same) (record {
        handle = handle;
        held = held;
        packets = packets;
        lawful = own_is;
        lawful_below = children_lawful;
        counted_below = children_counted;
        waiting = λ w. omega (arith, ap (weigh w) none, weigh-nil w);
        held_below = λ w. omega arith;
        handles_below = λ h. omega arith;
      })

  -- another discipline with the same packets
  pub own_retuned : (d : Discipline) → packets_in d ≡ packets_in old.own.discipline → IsLawfulDiscipline mtu now (map beneath (children old)) d
      → (CanHold old.own.discipline → CanHold d)
      → All (λ (f : Filter). is_some (class_in (length (map beneath (children old))) f.minor d) ≡ true) old.own.filters
      → IsLawfulOwn mtu now (record old.own { discipline = d }) (map beneath (children old))
  own_retuned d packets h can named =
      own_changed mtu now old.own (record old.own { discipline = d }) (map beneath (children old)) (map beneath (children old)) own_lawful refl packets
      (λ w. omega arith) h can own_lawful.filters own_lawful.in_order named

  pub remakes_retuned : (d : Discipline) → packets_in d ≡ packets_in old.own.discipline → IsLawfulDiscipline mtu now (map beneath (children old)) d
      → (CanHold old.own.discipline → CanHold d)
      → All (λ (f : Filter). is_some (class_in (length (map beneath (children old))) f.minor d) ≡ true) old.own.filters
      → Remakes mtu now (gone_from (all_kept (shape old)) old) old (record old.own { discipline = d }) (kids history (children old) (all_kept (shape old)))
  remakes_retuned d packets h can named = remakes_all (record old.own { discipline = d }) refl refl packets (own_retuned d packets h can named)

  -- other filters
  pub remakes_filters : (filters : List Filter) → length filters ≤ most_filters → AllPairs (λ (f g : Filter). f.prio ≤ g.prio) filters
      → All (λ (f : Filter). is_some (class_in (length (map beneath (children old))) f.minor old.own.discipline) ≡ true) filters
      → Remakes mtu now (gone_from (all_kept (shape old)) old) old (record old.own { filters = filters }) (kids history (children old) (all_kept (shape old)))
  remakes_filters filters few order named =
      remakes_all (record old.own { filters = filters }) refl refl refl
      (own_changed mtu now old.own (record old.own { filters = filters }) (map beneath (children old)) (map beneath (children old)) own_lawful refl refl
      (λ w. omega arith) own_lawful.discipline (λ c. c) few order named)

-- ---- an fq_codel with other settings

flow_retuned : (now : ℕ) (s new : FqSettings) (f : Flow) → settings.IsInRange new → new.mtu ≡ s.mtu → IsLawfulFlow now s f → IsLawfulFlow now new (retuned new.target new.interval new.ecn f)
unfolding retuned
flow_retuned now s new f r mtu h = record {
  settings = record { target = r.target_high; interval_low = r.interval_low; interval_high = r.interval_high; mtu = h.settings.mtu };
  state = h.state;
  agrees = record { target = refl; interval = refl; ecn = refl; mtu = h.agrees.mtu ∙ sym mtu };
  stamps = h.stamps;
}

retuned_packets : (target interval : ℕ) (ecn : Bool) (flows : List Flow) → all_packets (map (retuned target interval ecn) flows) ≡ all_packets flows
unfolding all_packets retuned
retuned_packets target interval ecn [] = refl
retuned_packets target interval ecn (f ∷ flows) = ap (λ o. f.queue ++ o) (retuned_packets target interval ecn flows)

pub changed_packets : (s : FqState) (new : FqSettings) → packets_in (FqCodel (after_change s new)) ≡ packets_in (FqCodel s)
changed_packets s new = ap packets_of (retuned_packets new.target new.interval new.ecn s.flows)

pub changed_lawful : (mtu now : ℕ) (below : List (List Descriptor)) (s : FqState) (new : FqSettings) → IsLawfulDiscipline mtu now below (FqCodel s)
    → settings.IsInRange new → new.mtu ≡ s.settings.mtu → new.flows ≡ s.settings.flows → IsLawfulDiscipline mtu now below (FqCodel (after_change s new))
changed_lawful mtu now below s new h r same flows = record {
  settings = r;
  longest = same ∙ h.longest;
  lists = lawful_changed s new h.lists flows;
  flows = All-map (IsLawfulFlow now new) (retuned new.target new.interval new.ecn) s.flows
      (All-weaker (IsLawfulFlow now s.settings) (λ f. IsLawfulFlow now new (retuned new.target new.interval new.ecn f)) (λ f. flow_retuned now s.settings new f r same) s.flows h.flows);
  none = h.none;
}
