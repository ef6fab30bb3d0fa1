-- A fifo that is a class of a drr, over a stretch: what the class sends, and then what is queued, begins with what was queued at first.
use Rattle.std.proofs.Common.{◌≡◌, ℕ, ◌+◌, ◌-◌, ◌*◌, ◌^◌, ◌<◌, ◌≤◌, inl, inr, refl, sym, ap, subst, ◌∙◌, arith}
use Rattle.std.proofs.Common.{List, [], ◌∷◌, ◌++◌, length, Option, Some, None, option_to_list}
use Rattle.std.specs.Prelude.{All, slice_get}
use Rattle.std.specs.Int.{div_ceil}
use Rattle.std.specs.Option.{option_map_or}
use Rattle.std.proofs.Math.Nat.{mul-le-mul_right}
use Rattle.std.proofs.lemmas.Bool.{ne_eqb}
use Rattle.std.proofs.lemmas.List.{append-nil, append_assoc}
use Rattle.std.proofs.lemmas.List.Elements.{All-append, All-tail}
use Rattle.std.proofs.lemmas.List.Sums.{sum_by-append, sum_by-cons}
use Rattle.std.proofs.lemmas.Option.{none-some, same_Some, option_and_then_some}
use Rattle.q_packet.specs.Descriptor.{Descriptor}
use Rattle.q_codel.specs.declared.limit.Limit.{Limit}
use Rattle.q_drr.specs.Schedule.{Class}
use Rattle.q_drr.specs.Waiting.{bytes_of_turn}
use Rattle.q_model.specs.declared.event.Event.{Event}
use Rattle.q_model.specs.declared.event.Event.TheVariants as event
use Rattle.q_model.specs.Ask.{Asked, ask}
use Rattle.q_model.specs.Beneath.{beneath_own, beneath}
use Rattle.q_model.specs.Events.{IsEvent}
use Rattle.q_model.specs.Lawful.{IsLawfulDiscipline}
use Rattle.q_model.specs.Node.{Discipline, Fifo, Prio, Tbf, Drr, FqCodel, Own, Forest, none, more, Node, children, each, shape}
use Rattle.q_model.specs.Replay.{Replay, nothing_yet, replay, replay_from, with_step}
use Rattle.q_model.specs.Settings.{DeviceSettings, IsInRange}
use Rattle.q_model.specs.Step.{DeviceState, step}
use Rattle.q_model.specs.Stretches.{sent_by, bytes_sent, length_held, ClassAt, class_in, qdisc, IsBackloggedClass, Throughout}
use Rattle.q_model.specs.Tally.{Note, history}
use Rattle.q_model.specs.Work.{Worked, booked}
use Rattle.q_invariants.proofs.Along.{counted, replay-twice}
use Rattle.q_invariants.proofs.ask.AskStages.{IsAskOf, IsStageOf, asked-related}
use Rattle.q_invariants.proofs.ask.SentStages.{ask-gives}
use Rattle.q_invariants.proofs.class.ClassChildren.{child_for, child-at, place_in}
use Rattle.q_invariants.proofs.class.ClassLooks.{booked-child}
use Rattle.q_invariants.proofs.class.ClassMoves.{class-node}
use Rattle.q_invariants.proofs.edit.EditLater.{root-later}
use Rattle.q_invariants.proofs.put.PutKinds.{put-stage}
use Rattle.q_invariants.proofs.put.PutStages.{IsPutOf, along-related, quiet-related}
use Rattle.q_invariants.proofs.Replays.{IsKept, step-kept}
use Rattle.q_invariants.proofs.sums.NoteSums.{past-sent}
use Rattle.q_invariants.proofs.sums.Told.{noted-history}
use Rattle.q_invariants.proofs.tree.Forests.{lawful-with_memory}
use Rattle.q_invariants.proofs.tree.Members.{All-front}
use Rattle.q_invariants.proofs.tree.Related.{IsRelated, forget}
use Rattle.q_invariants.proofs.tree.StepNodes.{Becomes, IsAsked, IsPut, becomes, clock-rises}
use Rattle.q_invariants.proofs.tree.Within.{IsOf, found, lawful-of}
use Rattle.q_tree.specs.answers.Lanes.{limit_of}
use Rattle.q_tree.specs.declared.answers.ways.Share.{Share}
use Rattle.q_tree.specs.answers.Ways.{share_among}
use Rattle.q_device.specs.promises.Worst.{most_of_turn}
use Rattle.q_device.specs.Sharing.{device_after}
use Rattle.q_device.proofs.ClassStretches.{at-start}
use Rattle.q_laws.specs.line.Line.{bytes_in, line_in, line_own, line, BeginsWith}
use Rattle.q_laws.specs.share.Service.{all_sent, given_so_far, HasClasses}
use Rattle.q_laws.specs.turn.FifoTurn.{class_line, IsFifoClass, IsInFifo, KeepFifo, KeepsFifo, FifosWaitAtMost}
use Rattle.q_laws.specs.turn.Turn.{IsClassLeft, StaysLeft, shown_by}
use Rattle.q_laws.proofs.line.LineAsks.{begins-refl, IsLined, root-lined}
use Rattle.q_laws.proofs.line.LineDelay.{line-within}
use Rattle.q_laws.proofs.line.LinePuts.{line-quiet, along-line}
use Rattle.q_laws.proofs.line.LineStretches.{begins-on}
use Rattle.q_laws.proofs.share.LeastShare.{drr-node}
use Rattle.q_laws.proofs.share.PromiseWays.{of-child}
use Rattle.q_laws.proofs.share.ServiceStretches.{given-at}
use Rattle.q_laws.proofs.turn.MostTurns.{grants-most, quantum-some, classes-wait-at-most}
use Rattle.q_laws.proofs.turn.TurnAsks.{child-is}
use Rattle.q_laws.proofs.turn.TurnSums.{classes-wait}
use Rattle.q_laws.proofs.work.WorkTrees.{NoTbfs}

-- ---- lists

pub bytes-one : (o : Option Descriptor) → bytes_in (option_to_list o) ≡ length_held o
bytes-one None = refl
bytes-one (Some p) = omega arith

one-head : (x y : Descriptor) (xs ys : List Descriptor) → x ∷ xs ≡ y ∷ ys → x ≡ y
one-head x y xs ys e = cc

one-tail : (x y : Descriptor) (xs ys : List Descriptor) → x ∷ xs ≡ y ∷ ys → xs ≡ ys
one-tail x y xs ys e = cc

-- a packet behind fewer bytes than a list has is one of the list
front-within : (xs given zs : List Descriptor) (q : Descriptor) → BeginsWith xs (given ++ q ∷ zs) → bytes_in given < bytes_in xs
    → bytes_in given + q.len ≤ bytes_in xs
front-within [] given zs q h less = absurd (omega (arith, less))
front-within (x ∷ xs) [] zs q h less =
    let same : q ≡ x = one-head q x zs (xs ++ h.0) h.1 in
    omega (arith, sum_by-cons (λ (p : Descriptor). p.len) x xs, ap (λ (p : Descriptor). p.len) same)
front-within (x ∷ xs) (g ∷ given) zs q h less =
    let same : g ≡ x = one-head g x (given ++ q ∷ zs) (xs ++ h.0) h.1 in
    let first = ap (λ (p : Descriptor). p.len) same in
    let mine = sum_by-cons (λ (p : Descriptor). p.len) x xs in
    let theirs = sum_by-cons (λ (p : Descriptor). p.len) g given in
    let rest = front-within xs given zs q (h.0, one-tail g x (given ++ q ∷ zs) (xs ++ h.0) h.1) (omega (arith, less, first, mine, theirs)) in
    omega (arith, rest, first, mine, theirs)

-- ---- a fifo

pub fifo-line : (own : Own) (limit : Limit) → limit_of own.discipline ≡ Some limit → (bs cs : List (List Descriptor)) → line_own own bs ≡ line_own own cs
fifo-line own limit is bs cs = by own.discipline is
  where
    by : (d : Discipline) → limit_of d ≡ Some limit → option_to_list own.held ++ line_in d bs ≡ option_to_list own.held ++ line_in d cs
    by (Fifo most queue) e = refl
    by (Prio priomap) e = absurd (none-some limit e)
    by (Tbf b most) e = absurd (none-some limit e)
    by (Drr s) e = absurd (none-some limit e)
    by (FqCodel s) e = absurd (none-some limit e)

nothing-below : (x : Forest (List Note)) → each beneath_own x ≡ [] → NoTbfs (forget x)
nothing-below none e = tt
nothing-below (more own m below others) e = absurd (omega (arith, ap length e))

-- a class stands in the tree
pub class-within : (major i : ℕ) (d : DeviceState (List Note)) (x : ClassAt) → class_in major i d ≡ Some x → IsOf x.child d.tree.root
class-within major i d x there =
    let n = class-node major i d x there in
    let f = found major d n.node n.there in
    option_and_then_some (slice_get (children n.node)) (place_in i x.schedule.classes) x.child (child-at i x.schedule.classes (children n.node) ∙ n.child)
    (λ k placed here. of-child x.child n.node d.tree.root k here f.there)

fifo-below : (d : DeviceState (List Note)) (c : Node (List Note)) (limit : Limit) → IsKept d → IsOf c d.tree.root
    → limit_of c.own.discipline ≡ Some limit → NoTbfs (forget c.below)
fifo-below d c limit kept there is =
    by c.own.discipline is (lawful-of d.tree.device.mtu d.clock c d.tree.root kept.lawful there).0.discipline
  where
    by : (k : Discipline) → limit_of k ≡ Some limit → IsLawfulDiscipline d.tree.device.mtu d.clock (each beneath_own c.below) k
        → NoTbfs (forget c.below)
    by (Fifo most queue) e law = nothing-below c.below law.none
    by (Prio priomap) e law = absurd (none-some limit e)
    by (Tbf b most) e law = absurd (none-some limit e)
    by (Drr s) e law = absurd (none-some limit e)
    by (FqCodel s) e law = absurd (none-some limit e)

-- what a fifo gave, and then what is queued, begins with what was queued
record LineMoves (x y : Node (List Note)) : Type 0 where
  given : List Descriptor
  sent : bytes_sent y.memory ≡ bytes_sent x.memory + bytes_in given
  begins : BeginsWith (line x) (given ++ line y)

module _ (x y : Node (List Note)) (limit_x limit_y : Limit) (is_x : limit_of x.own.discipline ≡ Some limit_x)
    (is_y : limit_of y.own.discipline ≡ Some limit_y) where
  bare-line : line (shape x) ≡ line x
  bare-line = fifo-line x.own limit_x is_x (each line_own (forget x.below)) (each line_own x.below)

  worked-moves : (w : Worked) (given : List Descriptor) → booked history x w ≡ y → bytes_sent w.memory ≡ bytes_in given
      → BeginsWith (line (shape x)) (given ++ line w) → LineMoves x y
  worked-moves w given is sent begins =
      let own : w.own ≡ y.own = ap (λ (n : Node (List Note)). n.own) is in
      let fifo : limit_of w.own.discipline ≡ Some limit_y = ap (λ (o : Own). limit_of o.discipline) own ∙ is_y in
      let after : line w ≡ line y =
      fifo-line w.own limit_y fifo (each line_own w.below) (each line_own (booked history x w).below) ∙ ap (λ (n : Node (List Note)). line n) is in
      let memory = ap (λ (n : Node (List Note)). bytes_sent n.memory) (sym is) ∙ ap bytes_sent (noted-history x.memory w.memory)
      ∙ sum_by-append sent_by x.memory w.memory in
      record {
        given = given;
        sent = omega (arith, memory, sent);
        begins = subst (λ (xs : List Descriptor). BeginsWith (line x) (given ++ xs)) after
            (subst (λ (xs : List Descriptor). BeginsWith xs (given ++ line w)) bare-line begins);
      }

  put-moves : (now : ℕ) (p : Descriptor) → Becomes now (event.Arrive p now) x y → LineMoves x y
  put-moves now p put =
      worked-moves put.worked [] put.is ((put-stage now p put.refusal (shape x) put.worked put.way).notes sent_by past-sent (λ q. refl)) (by put.way)
    where
      by : IsPutOf now p put.refusal (shape x) put.worked → BeginsWith (line (shape x)) (line put.worked)
      by (inl e) = subst (BeginsWith (line (shape x))) (sym (ap (λ (w : Worked). line w) e ∙ line-quiet (shape x))) (begins-refl (line (shape x)))
      by (inr e) = subst (λ (w : Worked). BeginsWith (line (shape x)) (line w)) (sym e.1) (along-line now p e.0 put.refusal (shape x))

  asked-moves : (now : ℕ) → NoTbfs (forget x.below) → Becomes now (event.Poll now) x y → LineMoves x y
  asked-moves now other asked = by asked.stage
    where
      a : Asked
      a = ask now (shape x)

      lined : IsLined (line (shape x)) (ask now (shape x))
      lined = root-lined now (shape x) other

      by : IsStageOf (ask now (shape x)) asked.worked → LineMoves x y
      by (inl e) =
          worked-moves asked.worked [] asked.is (ap (λ (w : Worked). bytes_sent w.memory) e ∙ (ask-gives now (shape x)).before)
          (subst (BeginsWith (line (shape x))) (sym (ap (λ (w : Worked). line w) e ∙ lined.before)) (begins-refl (line (shape x))))
      by (inr (inl e)) =
          worked-moves asked.worked [] asked.is (ap (λ (w : Worked). bytes_sent w.memory) e ∙ (ask-gives now (shape x)).peeked)
          (subst (λ (w : Worked). BeginsWith (line (shape x)) (line w)) (sym e) lined.peeked)
      by (inr (inr e)) =
          worked-moves asked.worked (option_to_list (ask now (shape x)).shown) asked.is
          (ap (λ (w : Worked). bytes_sent w.memory) e ∙ (ask-gives now (shape x)).taken ∙ sym (bytes-one (ask now (shape x)).shown))
          (subst (λ (w : Worked). BeginsWith (line (shape x)) (option_to_list (ask now (shape x)).shown ++ line w)) (sym e) lined.taken)

-- ---- one event

pub record Passed (major i : ℕ) (d next : DeviceState (List Note)) : Type 0 where
  pub given : List Descriptor
  pub sent : given_so_far major i next ≡ given_so_far major i d + bytes_in given
  pub begins : BeginsWith (class_line major i d) (given ++ class_line major i next)

pub line-at : (major i : ℕ) (d : DeviceState (List Note)) (x : ClassAt) → class_in major i d ≡ Some x → class_line major i d ≡ line x.child
line-at major i d x there = ap (λ (o : Option ClassAt). option_map_or (λ (class : ClassAt). line class.child) o []) there

module _ (major i quantum : ℕ) (classes : List Class) where
  abbrev pub IsHere : DeviceState (List Note) → Type 0
  IsHere d = HasClasses major classes d × IsFifoClass major i quantum d

  passed-by : (d next : DeviceState (List Note)) (x y : ClassAt) → class_in major i d ≡ Some x → class_in major i next ≡ Some y
      → LineMoves x.child y.child → Passed major i d next
  passed-by d next x y is at m =
      let sent = m.sent in
      record {
        given = m.given;
        sent = omega (arith, sent, given-at major i d x is, given-at major i next y at);
        begins = subst (λ (xs : List Descriptor). BeginsWith xs (m.given ++ class_line major i next)) (sym (line-at major i d x is))
            (subst (λ (xs : List Descriptor). BeginsWith (line x.child) (m.given ++ xs)) (sym (line-at major i next y at)) m.begins);
      }

  -- what became of the child of a class, where its drr keeps its classes
  module _ (d next : DeviceState (List Note)) (kept : IsKept d) (kept_next : IsKept next) (h : IsHere d) (k : IsHere next)
      (n m : Node (List Note)) (is : qdisc major d ≡ Some n) (at : qdisc major next ≡ Some m) where
    abbrev x : Node (List Note)
    x = h.1.class.child

    abbrev y : Node (List Note)
    y = k.1.class.child

    first-child : child_for i classes (children n) ≡ Some x
    first-child =
        let always : d.clock ≤ d.clock = omega arith in
        child-is major i classes d d.clock kept always h.0 n is h.1.class h.1.there

    last-child : child_for i classes (children m) ≡ Some y
    last-child =
        let always : next.clock ≤ next.clock = omega arith in
        child-is major i classes next next.clock kept_next always k.0 m at k.1.class k.1.there

    pub child-put : (now : ℕ) (p : Descriptor) → IsPut now p n m → IsPut now p x y
    child-put now p b =
        let c = booked-child (IsPutOf now p b.refusal) classes n.below b.worked.below i y (related b.way).2
        (ap (λ (q : Node (List Note)). child_for i classes (children q)) b.is ∙ last-child) in
        let mine : c.child ≡ x = same_Some c.child x (sym c.there ∙ first-child) in
        record {
          worked = c.worked;
          refusal = b.refusal;
          way = subst (λ (q : Node (List Note)). IsPutOf now p b.refusal (shape q) c.worked) mine c.by;
          is = subst (λ (q : Node (List Note)). booked history q c.worked ≡ y) mine c.is;
        }
      where
        related : IsPutOf now p b.refusal (shape n) b.worked → IsRelated (IsPutOf now p b.refusal) (shape n) b.worked
        related (inl e) = subst (IsRelated (IsPutOf now p b.refusal) (shape n)) (sym e) (quiet-related now p b.refusal (shape n))
        related (inr e) = subst (IsRelated (IsPutOf now p b.refusal) (shape n)) (sym e.1) (along-related now p b.refusal e.0 (shape n))

    child-asked : (now : ℕ) → d.clock ≤ now → IsAsked now n m → IsAsked now x y
    child-asked now later b =
        let mtu : ℕ = d.tree.device.mtu in
        let lawful = lawful-with_memory mtu now (λ u. tt) n
        (lawful-of mtu now n d.tree.root (root-later d.clock now later mtu d.tree.root kept.lawful) (found major d n is).there) in
        let c = booked-child (IsAskOf now) classes n.below b.worked.below i y (asked-related mtu now (shape n) b.worked lawful b.stage).2
        (ap (λ (q : Node (List Note)). child_for i classes (children q)) b.is ∙ last-child) in
        let mine : c.child ≡ x = same_Some c.child x (sym c.there ∙ first-child) in
        record {
          worked = c.worked;
          stage = subst (λ (q : Node (List Note)). IsAskOf now (shape q) c.worked) mine c.by;
          is = subst (λ (q : Node (List Note)). booked history q c.worked ≡ y) mine c.is;
        }

  step-passed : (d : DeviceState (List Note)) (e : Event) → IsKept d → IsEvent e → IsHere d → IsHere (step history d e).device
      → KeepsFifo major i d e → Passed major i d (step history d e).device
  step-passed d e kept happens h k keeps =
      let next : DeviceState (List Note) = (step history d e).device in
      let n = drr-node major classes d h.0 in
      let m = drr-node major classes next k.0 in
      by e happens k keeps m.node m.there (becomes major d e n.node m.node kept happens n.there m.there)
    where
      first-is : qdisc major d ≡ Some (drr-node major classes d h.0).node
      first-is = (drr-node major classes d h.0).there

      by : (e : Event) → IsEvent e → (k : IsHere (step history d e).device) → KeepsFifo major i d e → (m : Node (List Note))
          → qdisc major (step history d e).device ≡ Some m
          → Becomes (step history d e).device.clock e (drr-node major classes d h.0).node m → Passed major i d (step history d e).device
      by (event.Arrive p moment) happens k keeps m at b =
          let next : DeviceState (List Note) = (step history d (event.Arrive p moment)).device in
          passed-by d next h.1.class k.1.class h.1.there k.1.there
          (put-moves h.1.class.child k.1.class.child h.1.limit k.1.limit h.1.fifo k.1.fifo next.clock p
          (child-put d next kept (step-kept d (event.Arrive p moment) kept happens) h k (drr-node major classes d h.0).node m first-is at next.clock p b))
      by (event.Poll moment) happens k keeps m at b =
          let next : DeviceState (List Note) = (step history d (event.Poll moment)).device in
          passed-by d next h.1.class k.1.class h.1.there k.1.there
          (asked-moves h.1.class.child k.1.class.child h.1.limit k.1.limit h.1.fifo k.1.fifo next.clock
          (fifo-below d h.1.class.child h.1.limit kept (class-within major i d h.1.class h.1.there) h.1.fifo)
          (child-asked d next kept (step-kept d (event.Poll moment) kept happens) h k (drr-node major classes d h.0).node m first-is at next.clock
          (clock-rises d (event.Poll moment)) b))
      by (event.Command c moment) happens k keeps m at b =
          let same = keeps.1 in
          record { given = []; sent = omega (arith, same); begins = keeps.0 }

  -- ---- a stretch

  abbrev Gave : DeviceState (List Note) → List Event → DeviceState (List Note) → Type 0
  Gave d during end = KeepFifo major i d during → Passed major i d end

  gave-nothing : (d : DeviceState (List Note)) → IsKept d → IsHere d → Gave d [] d
  gave-nothing d kept h keep = record { given = []; sent = omega arith; begins = begins-refl (class_line major i d) }

  gave-more : (d : DeviceState (List Note)) (e : Event) (during : List Event) (end : DeviceState (List Note)) → IsKept d → IsEvent e
      → IsHere d → IsHere (step history d e).device → Gave (step history d e).device during end
      → Gave d (e ∷ during) end
  gave-more d e during end kept happens h k on keep =
      let next : DeviceState (List Note) = (step history d e).device in
      let p = step-passed d e kept happens h k keep.0 in
      let rest = on keep.1 in
      let first = p.sent in
      let later = rest.sent in
      record {
        given = p.given ++ rest.given;
        sent = omega (arith, first, later, sum_by-append (λ (q : Descriptor). q.len) p.given rest.given);
        begins = subst (BeginsWith (class_line major i d)) (sym (append_assoc p.given rest.given (class_line major i end)))
            (begins-on (class_line major i d) p.given (class_line major i next) (rest.given ++ class_line major i end) p.begins rest.begins);
      }

  module _ (first : List Descriptor) (begin : ℕ) where
    abbrev Stays : DeviceState (List Note) → Type 0
    Stays d = IsHere d × (given_so_far major i d < begin + bytes_in first)

    abbrev Moves : DeviceState (List Note) → List Event → DeviceState (List Note) → Type 0
    Moves d during end =
        (given : List Descriptor) → KeepFifo major i d during → given_so_far major i d ≡ begin + bytes_in given
        → BeginsWith first (given ++ class_line major i d) → StaysLeft major i (bytes_in first) (bytes_in given) d during

    left-at : (d : DeviceState (List Note)) → IsKept d → Stays d → (given : List Descriptor) → given_so_far major i d ≡ begin + bytes_in given
        → BeginsWith first (given ++ class_line major i d) → IsClassLeft major i (bytes_in first) (bytes_in given) d
    left-at d kept h given is begins class t there later low = by (ask t (shape class.child)).shown refl
      where
        same : h.0.1.class ≡ class
        same = same_Some h.0.1.class class (sym h.0.1.there ∙ there)

        fifo : limit_of class.child.own.discipline ≡ Some h.0.1.limit
        fifo = ap (λ (c : ClassAt). limit_of c.child.own.discipline) (sym same) ∙ h.0.1.fifo

        lined : IsLined (line (shape class.child)) (ask t (shape class.child))
        lined = root-lined t (shape class.child) (fifo-below d class.child h.0.1.limit kept (class-within major i d class there) fifo)

        line_is : class_line major i d ≡ line (shape class.child)
        line_is = line-at major i d class there ∙ sym (bare-line class.child class.child h.0.1.limit h.0.1.limit fifo fifo)

        by : (o : Option Descriptor) → (ask t (shape class.child)).shown ≡ o → bytes_in given + length_held o ≤ bytes_in first
        by None e = let less = h.1 in omega (arith, less, is)
        by (Some q) e =
            let shows : BeginsWith (class_line major i d) (q ∷ line (ask t (shape class.child)).taken) =
            subst (λ (xs : List Descriptor). BeginsWith xs (q ∷ line (ask t (shape class.child)).taken)) (sym line_is)
            (subst (λ (o : Option Descriptor). BeginsWith (line (shape class.child)) (option_to_list o ++ line (ask t (shape class.child)).taken))
            e lined.taken) in
            let less = h.1 in
            front-within first given (line (ask t (shape class.child)).taken) q
            (begins-on first given (class_line major i d) (q ∷ line (ask t (shape class.child)).taken) begins shows) (omega (arith, less, is))

    still : (d : DeviceState (List Note)) → IsKept d → Stays d → Moves d [] d
    still d kept h given keep is begins = left-at d kept h given is begins

    goes-on : (d : DeviceState (List Note)) (e : Event) (during : List Event) (end : DeviceState (List Note)) → IsKept d → IsEvent e → Stays d
        → Stays (step history d e).device → Moves (step history d e).device during end → Moves d (e ∷ during) end
    goes-on d e during end kept happens h k on given keep is begins =
        let next : DeviceState (List Note) = (step history d e).device in
        let p = step-passed d e kept happens h.0 k.0 keep.0 in
        let sent = p.sent in
        let all = sum_by-append (λ (q : Descriptor). q.len) given p.given in
        let rest = on (given ++ p.given) keep.1 (omega (arith, sent, is, all))
        (subst (BeginsWith first) (sym (append_assoc given p.given (class_line major i next)))
        (begins-on first given (class_line major i d) (p.given ++ class_line major i next) begins p.begins)) in
        let so_far : bytes_in (given ++ p.given) ≡ bytes_in given + (given_so_far major i next - given_so_far major i d) = omega (arith, sent, all) in
        (left-at d kept h given is begins, subst (λ n. StaysLeft major i (bytes_in first) n next during) so_far rest)

-- ---- the most of a turn

-- fewer bytes have no longer turn
pub most-rises : (mtu bytes most : ℕ) (s : Share) → 1 ≤ s.quantum → bytes ≤ most → most_of_turn mtu bytes s ≤ most_of_turn mtu most s
most-rises mtu bytes most s some h =
    let fewer : most - (most - bytes) ≡ bytes = omega (arith, h) in
    let grants : div_ceil bytes s.quantum ≤ div_ceil most s.quantum =
    subst (λ n. div_ceil n s.quantum ≤ div_ceil most s.quantum) fewer (grants-most most (most - bytes) s.quantum some) in
    let quanta : div_ceil bytes s.quantum * (s.quanta - s.quantum) ≤ div_ceil most s.quantum * (s.quanta - s.quantum) =
    mul-le-mul_right (s.quanta - s.quantum) grants in
    omega (arith, h, quanta)

-- ---- while a packet is left

-- a line of fewer bytes than were taken has a packet left
some-left : (first given left : List Descriptor) → BeginsWith first (given ++ left) → bytes_in given < bytes_in first → 1 ≤ length left
some-left first given (q ∷ left) h less = omega arith
some-left first given [] h less =
    let all = ap bytes_in (sym (append-nil given) ∙ h.1) in
    absurd (omega (arith, all, sum_by-append (λ (p : Descriptor). p.len) first h.0, less))

-- to a state of the stretch, and from there on
pub keep-fifo : (major i : ℕ) (d : DeviceState (List Note)) (seen later : List Event) → KeepFifo major i d (seen ++ later) → KeepFifo major i d seen
keep-fifo major i d [] later h = tt
keep-fifo major i d (e ∷ seen) later h = (h.0, keep-fifo major i (step history d e).device seen later h.1)

pub keep-rest : (major i : ℕ) (r : Replay (List Note)) (seen later : List Event) → KeepFifo major i r.device (seen ++ later)
    → KeepFifo major i (replay_from history r seen).device later
keep-rest major i r [] later h = h
keep-rest major i r (e ∷ seen) later h = keep-rest major i (with_step r (step history r.device e)) seen later h.1

module _ (settings : DeviceSettings) (range : IsInRange settings) (before during : List Event) (major i quantum : ℕ) (classes : List Class)
    (earlier : All IsEvent before) (happen : All IsEvent during) (stays : Throughout (IsHere major i quantum classes) settings before during)
    (keep : KeepFifo major i (device_after settings before) during) where
  -- what it gave up to a state of the stretch
  pub passed-so-far : (seen later : List Event) → seen ++ later ≡ during
      → Passed major i (device_after settings before) (device_after settings (before ++ seen))
  passed-so-far seen later e =
      counted (IsHere major i quantum classes) (Gave major i quantum classes) (gave-nothing major i quantum classes) (gave-more major i quantum classes)
      settings before seen range earlier (All-front IsEvent seen later (subst (All IsEvent) (sym e) happen))
      (λ xs ys join. stays xs (ys ++ later) (sym (append_assoc xs ys later) ∙ ap (λ zs. zs ++ later) join ∙ e))
      (keep-fifo major i (device_after settings before) seen later (subst (KeepFifo major i (device_after settings before)) (sym e) keep))

  -- and from there on
  passed-since : (seen later : List Event) → seen ++ later ≡ during
      → Passed major i (device_after settings (before ++ seen)) (device_after settings (before ++ (seen ++ later)))
  passed-since seen later e =
      subst (λ (xs : List Event). Passed major i (device_after settings (before ++ seen)) (device_after settings xs)) (append_assoc before seen later)
      (counted (IsHere major i quantum classes) (Gave major i quantum classes) (gave-nothing major i quantum classes)
      (gave-more major i quantum classes) settings (before ++ seen) later range
      (All-append IsEvent before seen earlier (All-front IsEvent seen later (subst (All IsEvent) (sym e) happen)))
      (All-rest seen later (subst (All IsEvent) (sym e) happen))
      (λ xs ys join. subst (λ (zs : List Event). IsHere major i quantum classes (device_after settings zs)) (sym (append_assoc before seen xs))
      (stays (seen ++ xs) ys (append_assoc seen xs ys ∙ ap (λ zs. seen ++ zs) join ∙ e)))
      (subst (λ (r : Replay (List Note)). KeepFifo major i r.device later) (sym (replay-twice (nothing_yet history settings) before seen))
      (keep-rest major i (replay history settings before) seen later (subst (KeepFifo major i (device_after settings before)) (sym e) keep))))
    where
      All-rest : (xs ys : List Event) → All IsEvent (xs ++ ys) → All IsEvent ys
      All-rest [] ys h = h
      All-rest (x ∷ xs) ys h = All-rest xs ys (All-tail IsEvent x (xs ++ ys) h)

  module _ (waits : IsInFifo major i (device_after settings before) (device_after settings (before ++ during))) where
    -- so it was there before
    pub waits-before : (seen later : List Event) → seen ++ later ≡ during → IsInFifo major i (device_after settings before) (device_after settings (before ++ seen))
    waits-before seen later e =
        let sent = (passed-since seen later e).sent in
        let end = ap (λ (xs : List Event). given_so_far major i (device_after settings (before ++ xs))) e in
        omega (arith, sent, waits, end)

    pub backlogged-so-far : (seen later : List Event) → seen ++ later ≡ during → IsBackloggedClass major i quantum (device_after settings (before ++ seen))
    backlogged-so-far seen later e =
        let d : DeviceState (List Note) = device_after settings (before ++ seen) in
        let h = (stays seen later e).1 in
        let p = passed-so-far seen later e in
        let sent = p.sent in
        let less = waits-before seen later e in
        let some = some-left (class_line major i (device_after settings before)) p.given (class_line major i d) p.begins (omega (arith, sent, less)) in
        let same = ap length (line-at major i d h.class h.there) in
        let within = line-within h.class.child in
        record {
          class = h.class;
          there = h.there;
          same_quantum = h.same_quantum;
          queued = ne_eqb (length (beneath h.class.child)) 0 (λ none. absurd (omega (arith, none, some, same, within)));
        }

-- so the packet that was queued last is left in each state
fifo-left : (settings : DeviceSettings) → IsInRange settings → (before during : List Event) (major i quantum : ℕ) (classes : List Class)
    → All IsEvent before → All IsEvent during → Throughout (IsHere major i quantum classes) settings before during
    → KeepFifo major i (device_after settings before) during → IsInFifo major i (device_after settings before) (device_after settings (before ++ during))
    → StaysLeft major i (bytes_in (class_line major i (device_after settings before))) 0 (device_after settings before) during
fifo-left settings range before during major i quantum classes earlier happen stays keep waits =
    let d : DeviceState (List Note) = device_after settings before in
    let first : List Descriptor = class_line major i d in
    let begin : ℕ = given_so_far major i d in
    let nothing : bytes_in [] ≡ 0 = refl in
    subst (λ n. StaysLeft major i (bytes_in first) n d during) nothing
    (counted (Stays major i quantum classes first begin) (Moves major i quantum classes first begin)
    (still major i quantum classes first begin) (goes-on major i quantum classes first begin) settings before during range earlier happen
    (λ seen later e. (stays seen later e, waits-before settings range before during major i quantum classes earlier happen stays keep waits seen later e))
    [] keep (omega (arith, nothing)) (begins-refl first))

pub fifos-wait-at-most : (settings : DeviceSettings) → IsInRange settings → FifosWaitAtMost settings
fifos-wait-at-most settings range before during major i quantum bytes classes last t earlier happen there fifo keep waits few at order low =
    let first : List Descriptor = class_line major i (device_after settings before) in
    let stays : Throughout (IsHere major i quantum classes) settings before during = λ seen later e. (there seen later e, fifo seen later e) in
    let here = at-start (IsFifoClass major i quantum) settings before during fifo in
    let sent = classes-wait-at-most settings range before during major i quantum (bytes_in first) classes last t earlier happen there
    (backlogged-so-far settings range before during major i quantum classes earlier happen stays keep waits)
    (fifo-left settings range before during major i quantum classes earlier happen stays keep waits) at order low in
    let some : 1 ≤ quantum = subst (λ q. 1 ≤ q) here.same_quantum
    (quantum-some settings range before earlier major i here.class here.there) in
    let rises = most-rises settings.mtu (bytes_in first) bytes (share_among (record { name = i; quantum = quantum }) classes) some few in
    omega (arith, sent, rises)

-- from the state at first
pub fifos-wait-their-turn : (settings : DeviceSettings) → IsInRange settings → (before during : List Event) (major i quantum : ℕ) (classes : List Class)
    (first last : ClassAt) (t : ℕ) → All IsEvent before → All IsEvent during → Throughout (HasClasses major classes) settings before during
    → Throughout (IsFifoClass major i quantum) settings before during → KeepFifo major i (device_after settings before) during
    → IsInFifo major i (device_after settings before) (device_after settings (before ++ during))
    → class_in major i (device_after settings before) ≡ Some first → class_in major i (device_after settings (before ++ during)) ≡ Some last
    → (device_after settings (before ++ during)).clock ≤ t → t ≤ 2 ^ 62
    → all_sent major classes (device_after settings before) during + shown_by t last
    ≤ bytes_of_turn i quantum classes first.schedule.active (bytes_in (class_line major i (device_after settings before)))
fifos-wait-their-turn settings range before during major i quantum classes first last t earlier happen there fifo keep waits is at order low =
    let stays : Throughout (IsHere major i quantum classes) settings before during = λ seen later e. (there seen later e, fifo seen later e) in
    classes-wait settings range before during major i quantum (bytes_in (class_line major i (device_after settings before))) classes first last t
    earlier happen there (backlogged-so-far settings range before during major i quantum classes earlier happen stays keep waits)
    (fifo-left settings range before during major i quantum classes earlier happen stays keep waits) is at order low
