-- One poll at a drr: which of its classes gives, and that a class which does not give keeps its place and what is queued in it.
use Rattle.std.proofs.Common.{◌≡◌, ℕ, ◌+◌, ◌≤◌, ◌⊎◌, inl, inr, List, [], ◌∷◌, ◌++◌, set, refl, sym, ap, subst, ◌∙◌, arith}
use Rattle.std.proofs.Common.{Option, Some, None, option_and_then}
use Rattle.std.specs.Prelude.{Bool, true, false, slice_get, is_some, if◌then◌else◌}
use Rattle.std.specs.Option.{option_map_or}
use Rattle.std.proofs.lemmas.Bool.{cases_eq}
use Rattle.std.proofs.lemmas.List.Sums.{sum_by-append}
use Rattle.std.proofs.lemmas.Option.{none-some, same_Some}
use Rattle.q_packet.specs.Descriptor.{Descriptor}
use Rattle.q_codel.specs.declared.limit.Limit.{Limit}
use Rattle.q_bucket.specs.Level.{TokenBucket, allows}
use Rattle.q_drr.specs.Schedule.{Class, Schedule}
use Rattle.q_drr.specs.Take.{choice_of}
use Rattle.q_model.specs.Ask.{Asked, ask, ask_discipline, ask_own, class_gives, class_serves, gives_nothing, head_of, holding, is_among, place_met, service_of}
use Rattle.q_model.specs.Ask.{spends, waits}
use Rattle.q_model.specs.Beneath.{is_empty}
use Rattle.q_model.specs.Grants.{asked_entries}
use Rattle.q_model.specs.Node.{Discipline, Fifo, Prio, Tbf, Drr, FqCodel, Own, Node, children, each, nodes_in, shape, side_by_side}
use Rattle.q_model.specs.Step.{DeviceState}
use Rattle.q_model.specs.Stretches.{sent_by, bytes_sent, length_held, ClassAt, class_in, qdisc}
use Rattle.q_model.specs.Tally.{Note, history}
use Rattle.q_model.specs.Work.{Worked, booked, settled_class}
use Rattle.q_invariants.specs.Kept.{IsLawfulRoot}
use Rattle.q_invariants.proofs.ask.AskStages.{IsAskOf, IsStageOf, asked-related}
use Rattle.q_invariants.proofs.class.ClassChildren.{child_for, child-at, child-set, place_in}
use Rattle.q_invariants.proofs.class.ClassLooks.{answer-for, booked-child, gives-for, looked-at}
use Rattle.q_invariants.proofs.class.ClassMoves.{class-node}
use Rattle.q_invariants.proofs.class.Exact.{classes-served}
use Rattle.q_invariants.proofs.edit.EditLater.{root-later}
use Rattle.q_invariants.proofs.put.DrrSettled.{class-settled}
use Rattle.q_invariants.proofs.Replays.{IsKept}
use Rattle.q_invariants.proofs.sums.Told.{noted-history}
use Rattle.q_invariants.proofs.tree.Forests.{lawful-with_memory, nodes-side}
use Rattle.q_invariants.proofs.tree.Within.{found, lawful-of}
use Rattle.q_tree.specs.answers.Lanes.{limit_of}
use Rattle.q_laws.specs.share.Service.{HasClasses}
use Rattle.q_laws.specs.turn.Turn.{shown_by}
use Rattle.q_laws.proofs.rate.LinkAsks.{GaveAt, Leaves, drr-takes, held-takes}
use Rattle.q_laws.proofs.share.LeastShare.{drr-node}
use Rattle.q_laws.proofs.share.PassedStretches.{leaves-stage, same-classes}

-- ---- which class gives

module _ (major i : ℕ) (classes : List Class) (d : DeviceState (List Note)) (now : ℕ) (kept : IsKept d) (later : d.clock ≤ now)
    (h : HasClasses major classes d) (n : Node (List Note)) (is : qdisc major d ≡ Some n) (x : ClassAt) (there : class_in major i d ≡ Some x) where
  lawful : IsLawfulRoot d.tree.device.mtu now (shape n)
  lawful =
      lawful-with_memory d.tree.device.mtu now (λ u. tt) n
      (lawful-of d.tree.device.mtu now n d.tree.root (root-later d.clock now later d.tree.device.mtu d.tree.root kept.lawful) (found major d n is).there)

  abbrev below : List Asked
  below = each (ask_own now) (shape n).below

  pub child-is : child_for i classes (children n) ≡ Some x.child
  child-is =
      let nx = class-node major i d x there in
      let mine : nx.node ≡ n = same_Some nx.node n (sym nx.there ∙ is) in
      ap (λ (cs : List Class). child_for i cs (children n)) (sym (same-classes major classes d i x h there))
      ∙ ap (λ (q : Node (List Note)). child_for i x.schedule.classes (children q)) (sym mine) ∙ nx.child

  answer-is : child_for i classes below ≡ Some (ask now (shape x.child))
  answer-is = answer-for now n.below classes i x.child child-is

  -- the class gives nothing
  abbrev pub Silent : Worked → Type 0
  Silent w = (c : Node (List Note)) → child_for i classes (children (booked history n w)) ≡ Some c → bytes_sent c.memory ≡ bytes_sent x.child.memory

  -- The drr hands out no more than it held, or than the class shows, or the class gives nothing.
  abbrev pub Serves : Worked → ℕ → Type 0
  Serves w taken = (taken + length_held w.own.held ≤ length_held n.own.held) ⊎ (taken + length_held w.own.held ≤ shown_by now x) ⊎ Silent w

  module _ (w : Worked) (taken : ℕ) (leaves : Leaves (ask now (shape n)) w taken) where
    silent-at : (s : Schedule) → s.classes ≡ classes → (gave : GaveAt s below w taken) → (place_in i classes ≡ Some gave.place → ⊥) → Silent w
    silent-at s own gave apart c at =
        let b = booked-child (IsAskOf now) classes n.below w.below i c
        (asked-related d.tree.device.mtu now (shape n) w lawful (leaves-stage (ask now (shape n)) w taken leaves)).2 at in
        let same : b.child ≡ x.child = same_Some b.child x.child (sym b.there ∙ child-is) in
        let listed : child_for i classes (set (service_of s below).below gave.place gave.answer.taken) ≡ Some b.worked =
        sym (ap (child_for i classes) (ap nodes_in gave.below_is ∙ nodes-side (set (service_of s below).below gave.place gave.answer.taken)))
        ∙ b.becomes in
        let none = by b.worked (child-set i classes (service_of s below).below gave.place gave.answer.taken b.worked listed).which in
        let memory : c.memory ≡ x.child.memory ++ b.worked.memory =
        ap (λ (q : Node (List Note)). q.memory) (sym b.is) ∙ noted-history b.child.memory b.worked.memory
        ∙ ap (λ (q : Node (List Note)). q.memory ++ b.worked.memory) same in
        omega (arith, none, ap bytes_sent memory, sum_by-append sent_by x.child.memory b.worked.memory)
      where
        looked : (v : Worked) (a : Asked) → child_for i s.classes below ≡ Some a → (v ≡ a.peeked) ⊎ (v ≡ a.before) → bytes_sent v.memory ≡ 0
        looked v a at (inl e) = ap (λ (u : Worked). bytes_sent u.memory) e ∙ (gives-for now (shape n).below s.classes i a at).peeked
        looked v a at (inr e) = ap (λ (u : Worked). bytes_sent u.memory) e ∙ (gives-for now (shape n).below s.classes i a at).before

        by : (v : Worked) → ((place_in i classes ≡ Some gave.place) × (v ≡ gave.answer.taken))
            ⊎ ((child_for i classes (service_of s below).below ≡ Some v) × (place_in i classes ≡ Some gave.place → ⊥)) → bytes_sent v.memory ≡ 0
        by v (inl o) = absurd (apart o.0)
        by v (inr o) =
            let l = looked-at (is_among (asked_entries (choice_of (head_of s below) s) s.active)) s.classes below i v
            (ap (λ (cs : List Class). child_for i cs (service_of s below).below) own ∙ o.0) in
            looked v l.answer l.there l.which

    pub serves : Serves w taken
    serves =
        let at_drr = drr-node major classes d h in
        let mine : at_drr.node ≡ n = same_Some at_drr.node n (sym at_drr.there ∙ is) in
        by at_drr.schedule (ap (λ (q : Node (List Note)). q.own.discipline) (sym mine) ∙ at_drr.discipline) at_drr.same
      where
        placed : (s : Schedule) → s.classes ≡ classes → (gave : GaveAt s below w taken) → (o : Option ℕ) → place_in i classes ≡ o → Serves w taken
        placed s own gave None e = inr (inr (silent-at s own gave (λ at. none-some gave.place (sym e ∙ at))))
        placed s own gave (Some k) e = elim (cases_eq k gave.place) [
          | inl here ↦
              let got : child_for i classes below ≡ Some gave.answer =
              sym (child-at i classes below) ∙ ap (option_and_then (slice_get below)) e ∙ ap (slice_get below) here ∙ gave.there in
              let answer : gave.answer ≡ ask now (shape x.child) = same_Some gave.answer (ask now (shape x.child)) (sym got ∙ answer-is) in
              let shown = ap (λ (a : Asked). length_held a.shown) answer in
              let gives = gave.gives in
              inr (inl (omega (arith, gives, shown)))
          | inr apart ↦ inr (inr (silent-at s own gave (λ at. apart (same_Some k gave.place (sym e ∙ at)))))
        ]

        how : (s : Schedule) → s.classes ≡ classes → (taken + length_held w.own.held ≤ length_held n.own.held) ⊎ GaveAt s below w taken → Serves w taken
        how s own (inl held) = inl held
        how s own (inr gave) = placed s own gave (place_in i classes) refl

        by : (s : Schedule) → n.own.discipline ≡ Drr s → s.classes ≡ classes → Serves w taken
        by s disc own = how s own (drr-takes now n.own below s disc w taken leaves)

    -- what it holds it gives first
    pub holds : (p : Descriptor) → n.own.held ≡ Some p → taken + length_held w.own.held ≤ length_held n.own.held
    holds p e =
        let at_drr = drr-node major classes d h in
        let mine : at_drr.node ≡ n = same_Some at_drr.node n (sym at_drr.there ∙ is) in
        held-takes now n.own below at_drr.schedule (ap (λ (q : Node (List Note)). q.own.discipline) (sym mine) ∙ at_drr.discipline) p e w taken
        (subst (λ (o : Option Descriptor). Leaves (option_map_or (holding n.own below) o (ask_discipline now n.own below n.own.discipline)) w taken) e leaves)

-- ---- what a poll leaves

-- a drr stays one with its classes
pub record IsDrrOf (s : Schedule) (w : Worked) : Type 0 where
  pub schedule : Schedule
  pub is : w.own.discipline ≡ Drr schedule
  pub classes : schedule.classes ≡ s.classes

module _ (now : ℕ) (own : Own) (below : List Asked) (s : Schedule) (is : own.discipline ≡ Drr s) where
  abbrev AllDrrs : Asked → Type 0
  AllDrrs a = IsDrrOf s a.before × IsDrrOf s a.peeked × IsDrrOf s a.taken

  was : (w : Worked) → w.own.discipline ≡ own.discipline → IsDrrOf s w
  was w e = record { schedule = s; is = e ∙ is; classes = refl }

  nothing-drrs : AllDrrs (gives_nothing own below (service_of s below))
  nothing-drrs =
      let a : Asked = gives_nothing own below (service_of s below) in
      let t : Schedule = (service_of s below).schedule in
      let same : t.classes ≡ s.classes = classes-served (head_of s below) s in
      (was a.before refl, record { schedule = t; is = refl; classes = same }, record { schedule = t; is = refl; classes = same })

  gives-drrs : (i : ℕ) (b : Asked) (p : Descriptor) → AllDrrs (class_gives own below (service_of s below) i b p)
  gives-drrs i b p =
      let a : Asked = class_gives own below (service_of s below) i b p in
      let t : Schedule = settled_class i (is_empty b.taken) (service_of s below).schedule in
      let same : t.classes ≡ s.classes = class-settled i (is_empty b.taken) (service_of s below).schedule ∙ classes-served (head_of s below) s in
      (was a.before refl, record { schedule = t; is = refl; classes = same }, record { schedule = t; is = refl; classes = same })

  all-drrs : AllDrrs (ask_own now own below)
  all-drrs = by own.held
    where
      nothing : Asked
      nothing = gives_nothing own below (service_of s below)

      shows : (i : ℕ) (b : Asked) (o : Option Descriptor) → AllDrrs (option_map_or (class_gives own below (service_of s below) i b) o nothing)
      shows i b None = nothing-drrs
      shows i b (Some p) = gives-drrs i b p

      child : (i : ℕ) (o : Option Asked) → AllDrrs (option_map_or (class_serves own below (service_of s below) i) o nothing)
      child i None = nothing-drrs
      child i (Some b) = shows i b b.shown

      met : (o : Option ℕ)
          → AllDrrs (option_map_or (λ i. option_map_or (class_serves own below (service_of s below) i) (slice_get below i) nothing) o nothing)
      met None = nothing-drrs
      met (Some i) = child i (slice_get below i)

      by : (o : Option Descriptor) → AllDrrs (option_map_or (holding own below) o (ask_discipline now own below own.discipline))
      by None = subst (λ (k : Discipline). AllDrrs (ask_discipline now own below k)) (sym is) (met (place_met s below))
      by (Some p) =
          let a : Asked = holding own below p in
          (was a.before refl, was a.peeked refl, was a.taken refl)

  -- it hands out what it shows, or holds it
  abbrev pub AllHand : Asked → Type 0
  AllHand a = (a.peeked.own.held ≡ a.shown) × (a.taken.own.held ≡ None)

  pub all-hand : AllHand (ask_own now own below)
  all-hand = held own.held refl
    where
      nothing : Asked
      nothing = gives_nothing own below (service_of s below)

      shows : (i : ℕ) (b : Asked) (o : Option Descriptor) → AllHand (option_map_or (class_gives own below (service_of s below) i b) o nothing)
      shows i b None = (refl, refl)
      shows i b (Some p) = (refl, refl)

      child : (i : ℕ) (o : Option Asked) → AllHand (option_map_or (class_serves own below (service_of s below) i) o nothing)
      child i None = (refl, refl)
      child i (Some b) = shows i b b.shown

      met : (o : Option ℕ)
          → AllHand (option_map_or (λ i. option_map_or (class_serves own below (service_of s below) i) (slice_get below i) nothing) o nothing)
      met None = (refl, refl)
      met (Some i) = child i (slice_get below i)

      held : (o : Option Descriptor) → own.held ≡ o → AllHand (option_map_or (holding own below) o (ask_discipline now own below own.discipline))
      held None e = subst (λ (k : Discipline). AllHand (ask_discipline now own below k)) (sym is) (met (place_met s below))
      held (Some p) e = (e, refl)

  pub drr-stage : (w : Worked) → IsStageOf (ask_own now own below) w → IsDrrOf s w
  drr-stage w (inl e) = subst (IsDrrOf s) (sym e) all-drrs.0
  drr-stage w (inr (inl e)) = subst (IsDrrOf s) (sym e) all-drrs.1
  drr-stage w (inr (inr e)) = subst (IsDrrOf s) (sym e) all-drrs.2

-- a fifo stays one with its limit
module _ (now : ℕ) (own : Own) (below : List Asked) (limit : Limit) (is : limit_of own.discipline ≡ Some limit) where
  abbrev AllFifos : Asked → Type 0
  AllFifos a = (limit_of a.before.own.discipline ≡ Some limit) × (limit_of a.peeked.own.discipline ≡ Some limit) × (limit_of a.taken.own.discipline ≡ Some limit)

  all-fifos : AllFifos (ask_own now own below)
  all-fifos = by own.held
    where
      asked : (k : Discipline) → own.discipline ≡ k → limit_of k ≡ Some limit → AllFifos (ask_discipline now own below k)
      asked (Fifo most queue) e at = (ap limit_of e ∙ at, ap limit_of e ∙ at, at)
      asked (Prio priomap) e at = absurd (none-some limit at)
      asked (Tbf b most) e at = absurd (none-some limit at)
      asked (Drr s) e at = absurd (none-some limit at)
      asked (FqCodel s) e at = absurd (none-some limit at)

      by : (o : Option Descriptor) → AllFifos (option_map_or (holding own below) o (ask_discipline now own below own.discipline))
      by None = asked own.discipline refl is
      by (Some p) = (is, is, is)

  pub fifo-stage : (w : Worked) → IsStageOf (ask_own now own below) w → limit_of w.own.discipline ≡ Some limit
  fifo-stage w (inl e) = ap (λ (u : Worked). limit_of u.own.discipline) e ∙ all-fifos.0
  fifo-stage w (inr (inl e)) = ap (λ (u : Worked). limit_of u.own.discipline) e ∙ all-fifos.1
  fifo-stage w (inr (inr e)) = ap (λ (u : Worked). limit_of u.own.discipline) e ∙ all-fifos.2

-- what a tbf that holds no packet leaves of its child: it asked it
module _ (now : ℕ) (own : Own) (a : Asked) (b : TokenBucket) (limit : ℕ) (is : own.discipline ≡ Tbf b limit) (none : own.held ≡ None) where
  pub record AskedChild (w : Worked) : Type 0 where
    pub child : Worked
    pub stage : (child ≡ a.peeked) ⊎ (child ≡ a.taken)
    pub below_is : w.below ≡ side_by_side (child ∷ [])

  abbrev Both : Asked → Type 0
  Both x = AskedChild x.peeked × AskedChild x.taken

  waits-both : Both (waits own (a ∷ []) a)
  waits-both = (record { child = a.peeked; stage = inl refl; below_is = refl }, record { child = a.peeked; stage = inl refl; below_is = refl })

  spends-both : (p : Descriptor) → Both (spends own (a ∷ []) b limit now a p)
  spends-both p = (record { child = a.taken; stage = inr refl; below_is = refl }, record { child = a.taken; stage = inr refl; below_is = refl })

  asks-both : Both (ask_own now own (a ∷ []))
  asks-both =
      subst (λ (o : Option Descriptor). Both (option_map_or (holding own (a ∷ [])) o (ask_discipline now own (a ∷ []) own.discipline))) (sym none)
      (subst (λ (k : Discipline). Both (ask_discipline now own (a ∷ []) k)) (sym is) (by a.shown))
    where
      may : (p : Descriptor) (t : Bool) → Both (if t then spends own (a ∷ []) b limit now a p else waits own (a ∷ []) a)
      may p true = spends-both p
      may p false = waits-both

      by : (o : Option Descriptor)
          → Both (option_map_or (λ (p : Descriptor). if allows b now p.len then spends own (a ∷ []) b limit now a p else waits own (a ∷ []) a) o
          (waits own (a ∷ []) a))
      by None = waits-both
      by (Some p) = may p (allows b now p.len)

  pub asks-child : AskedChild (let x = ask_own now own (a ∷ []) in if is_some x.shown then x.taken else x.peeked)
  asks-child = by (is_some (ask_own now own (a ∷ [])).shown)
    where
      by : (t : Bool) → AskedChild (if t then (ask_own now own (a ∷ [])).taken else (ask_own now own (a ∷ [])).peeked)
      by true = asks-both.1
      by false = asks-both.0
