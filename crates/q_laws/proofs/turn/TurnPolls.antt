-- A poll that comes next: a drr that it asks keeps its classes, and the fifo that is one of them its place.
use Rattle.std.proofs.Common.{◌≡◌, ℕ, ◌≤◌, ◌^◌, max, ◌⊎◌, inl, inr, List, [], ◌∷◌, refl, sym, ap, subst, ◌∙◌, Option, Some, None, option_and_then, arith}
use Rattle.std.specs.Prelude.{Bool, true, false, is_some, slice_get, if◌then◌else◌}
use Rattle.std.proofs.lemmas.Option.{same_Some, option_and_then_some}
use Rattle.q_drr.specs.Schedule.{Class, quantum_of}
use Rattle.q_model.specs.declared.event.Event.TheVariants as event
use Rattle.q_model.specs.Ask.{Asked, ask, ask_own, take_from}
use Rattle.q_model.specs.Node.{Node, children, each, more, none, nodes_in, shape}
use Rattle.q_model.specs.Step.{DeviceState, step}
use Rattle.q_model.specs.Stretches.{ClassAt, class_in, qdisc}
use Rattle.q_model.specs.Tally.{Note, history}
use Rattle.q_model.specs.Work.{Worked, booked, each_booked}
use Rattle.q_invariants.specs.Kept.{IsLawfulRoot}
use Rattle.q_invariants.proofs.ask.AskStages.{IsAskOf, asked-related}
use Rattle.q_invariants.proofs.class.ClassChildren.{child-at, child-has, place_in}
use Rattle.q_invariants.proofs.class.ClassLooks.{booked-child}
use Rattle.q_invariants.proofs.edit.EditLater.{root-later}
use Rattle.q_invariants.proofs.Replays.{IsKept, not-before, step-kept}
use Rattle.q_invariants.proofs.tree.Forests.{lawful-with_memory}
use Rattle.q_invariants.proofs.tree.Related.{forget}
use Rattle.q_invariants.proofs.tree.Within.{IsOf, found, lawful-of}
use Rattle.q_tree.specs.declared.answers.ways.Link.{Link}
use Rattle.q_tree.specs.answers.Lanes.{limit_of}
use Rattle.q_laws.specs.line.Line.{IsLink}
use Rattle.q_laws.specs.share.Service.{HasClasses, IsClass, classes_of}
use Rattle.q_laws.specs.turn.FifoTurn.{IsFifoClass}
use Rattle.q_laws.proofs.line.LineInTime.{root-is}
use Rattle.q_laws.proofs.rate.LinkStretches.{root-at}
use Rattle.q_laws.proofs.share.LeastShare.{drr-node, is-class}
use Rattle.q_laws.proofs.share.PassedStretches.{only-child, same-classes}
use Rattle.q_laws.proofs.share.PromiseWays.{of-child, qdisc-of}
use Rattle.q_laws.proofs.turn.TurnAsks.{AskedChild, asks-child, child-is, drr-stage, fifo-stage}

-- ---- what is above the drr

-- the root is the drr, or a tbf over it alone
abbrev pub IsOver : Option Link → ℕ → DeviceState (List Note) → Type 0
IsOver None major d = d.tree.root.own.handle ≡ Some major
IsOver (Some link) major d =
    IsLink link.handle link.rate link.burst d × (drr : Node (List Note)) × (qdisc major d ≡ Some drr) × (children d.tree.root ≡ drr ∷ [])

-- ---- the poll

module _ (major : ℕ) (d : DeviceState (List Note)) (moment : ℕ) where
  abbrev pub now : ℕ
  now = max d.clock moment

  abbrev pub next : DeviceState (List Note)
  next = (step history d (event.Poll moment)).device

  -- the drr was asked, and what that leaves stands in its place
  pub record IsAskedNext (n : Node (List Note)) : Type 0 where
    pub worked : Worked
    pub stage : (worked ≡ (ask now (shape n)).peeked) ⊎ (worked ≡ (ask now (shape n)).taken)
    pub there : IsOf (booked history n worked) next.tree.root

  -- it was asked or not
  pub record IsStagedNext (n : Node (List Note)) : Type 0 where
    pub worked : Worked
    pub stage : IsAskOf now (shape n) worked
    pub there : IsOf (booked history n worked) next.tree.root

  abbrev pub staged : (n : Node (List Note)) → IsAskedNext n → IsStagedNext n
  staged n asked = record { worked = asked.worked; stage = inr asked.stage; there = asked.there }

  -- a drr at the root, and one below a tbf there that holds no packet
  pub asked-next : (link : Option Link) (n : Node (List Note)) → IsOver link major d → d.tree.root.own.held ≡ None → qdisc major d ≡ Some n → IsAskedNext n
  asked-next None n over free is =
      let root : Node (List Note) = d.tree.root in
      let same : n ≡ root = same_Some n root (sym is ∙ root-at major d over) in
      subst IsAskedNext (sym same) (record {
        worked = (take_from now (shape root)).node;
        stage = by (ask now (shape root)) (is_some (ask now (shape root)).shown);
        there = inl refl;
      })
    where
      by : (a : Asked) (t : Bool) → ((if t then a.taken else a.peeked) ≡ a.peeked) ⊎ ((if t then a.taken else a.peeked) ≡ a.taken)
      by a true = inr refl
      by a false = inl refl
  asked-next (Some link) n over free is =
      let root : Node (List Note) = d.tree.root in
      let top = root-is link.handle link.rate link.burst d over.0 in
      let w : Worked = (take_from now (shape root)).node in
      let a : Asked = ask now (shape n) in
      let only : root.below ≡ more n.own n.memory n.below none =
      only-child root n (over.3 ∙ ap (λ (q : Node (List Note)). q ∷ []) (same_Some over.1 n (sym over.2 ∙ is))) in
      let alone : each (ask_own now) (shape root).below ≡ a ∷ [] = ap (λ x. each (ask_own now) (forget x)) only in
      let asks = subst (λ (xs : List Asked). AskedChild now root.own a top.bucket top.limit top.is free
      (let x = ask_own now root.own xs in if is_some x.shown then x.taken else x.peeked)) (sym alone)
      (asks-child now root.own a top.bucket top.limit top.is free) in
      let after : nodes_in (booked history root w).below ≡ booked history n asks.child ∷ [] =
      ap (λ x. nodes_in (each_booked history x w.below)) only ∙ ap (λ y. nodes_in (each_booked history (more n.own n.memory n.below none) y)) asks.below_is in
      record {
        worked = asks.child;
        stage = asks.stage;
        there = of-child (booked history n asks.child) next.tree.root next.tree.root 0
            (ap (λ (ns : List (Node (List Note))). slice_get ns 0) after) (inl refl);
      }

  -- ---- what stays

  module _ (classes : List Class) (kept : IsKept d) (low : moment ≤ 2 ^ 62) (h : HasClasses major classes d) (n : Node (List Note))
      (is : qdisc major d ≡ Some n) (asked : IsStagedNext n) where
    abbrev pub after : Node (List Note)
    after = booked history n asked.worked

    kept-next : IsKept next
    kept-next = step-kept d (event.Poll moment) kept low

    lawful : (c : Node (List Note)) → IsOf c d.tree.root → IsLawfulRoot d.tree.device.mtu now (shape c)
    lawful c there =
        lawful-with_memory d.tree.device.mtu now (λ u. tt) c
        (lawful-of d.tree.device.mtu now c d.tree.root (root-later d.clock now (not-before d.clock moment) d.tree.device.mtu d.tree.root kept.lawful) there)

    pub drr-next : qdisc major next ≡ Some after
    drr-next =
        let f = found major d n is in
        let handle = (asked-related d.tree.device.mtu now (shape n) asked.worked (lawful n f.there) asked.stage).1 in
        qdisc-of major next after kept-next (handle ∙ f.handle) asked.there

    pub has-next : HasClasses major classes next
    has-next =
        let at = drr-node major classes d h in
        let mine : at.node ≡ n = same_Some at.node n (sym at.there ∙ is) in
        let stays = drr-stage now n.own (each (ask_own now) (shape n).below) at.schedule
        (ap (λ (q : Node (List Note)). q.own.discipline) (sym mine) ∙ at.discipline) asked.worked asked.stage in
        ap (option_and_then (λ (m : Node (List Note)). classes_of m.own.discipline)) drr-next ∙ ap classes_of stays.is
        ∙ ap Some (stays.classes ∙ at.same)

    module _ (i : ℕ) (x : ClassAt) (there : class_in major i d ≡ Some x) where
      -- the class stands there still
      pub class-next : IsClass major i (quantum_of i classes) next
      class-next =
          let child = child-is major i classes d now kept (not-before d.clock moment) h n is x there in
          is-class major classes next kept-next has-next i (quantum_of i classes) (child-has i classes (children n) x.child child) refl

      -- and its child was asked or not
      pub record ChildNext : Type 0 where
        pub staged_child : IsStagedNext x.child
        pub becomes_is : booked history x.child staged_child.worked ≡ class-next.class.child

      pub child-next : ChildNext
      child-next =
          let y = class-next in
          let child = child-is major i classes d now kept (not-before d.clock moment) h n is x there in
          let at = child-is major i classes next next.clock kept-next (let always : next.clock ≤ next.clock = omega arith in always) has-next after drr-next
          y.class y.there in
          let b = booked-child (IsAskOf now) classes n.below asked.worked.below i y.class.child
          (asked-related d.tree.device.mtu now (shape n) asked.worked (lawful n (found major d n is).there) asked.stage).2 at in
          let mine : b.child ≡ x.child = same_Some b.child x.child (sym b.there ∙ child) in
          let becomes_so : booked history x.child b.worked ≡ y.class.child = ap (λ (c : Node (List Note)). booked history c b.worked) (sym mine) ∙ b.is in
          let stands : IsOf y.class.child next.tree.root =
          option_and_then_some (slice_get (children after)) (place_in i classes) y.class.child (child-at i classes (children after) ∙ at)
          (λ k placed here. of-child y.class.child after next.tree.root k here asked.there) in
          record {
            staged_child = record {
              worked = b.worked;
              stage = subst (λ (c : Node (List Note)). IsAskOf now (shape c) b.worked) mine b.by;
              there = subst (λ (c : Node (List Note)). IsOf c next.tree.root) (sym becomes_so) stands;
            };
            becomes_is = becomes_so;
          }

    module _ (i quantum : ℕ) (f : IsFifoClass major i quantum d) where
      pub fifo-next : IsFifoClass major i quantum next
      fifo-next =
          let y = class-next i f.class f.there in
          let c = child-next i f.class f.there in
          let same : quantum_of i classes ≡ quantum = ap (quantum_of i) (sym (same-classes major classes d i f.class h f.there)) ∙ f.same_quantum in
          record {
            class = y.class;
            there = y.there;
            same_quantum = y.same_quantum ∙ same;
            limit = f.limit;
            fifo = ap (λ (c : Node (List Note)). limit_of c.own.discipline) (sym c.becomes_is)
                ∙ fifo-stage now (shape f.class.child).own (each (ask_own now) (shape f.class.child).below) f.limit f.fifo c.staged_child.worked
                c.staged_child.stage;
          }
