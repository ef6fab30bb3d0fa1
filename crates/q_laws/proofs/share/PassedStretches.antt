-- What a tbf at the root pays over a stretch is what the classes of the drr beneath it send, but for a packet that the drr holds.
use Rattle.std.proofs.Common.{◌≡◌, ℕ, ◌+◌, ◌-◌, ◌≤◌, ◌⊎◌, inl, inr, true, List, [], ◌∷◌, ◌++◌, set, refl, sym, ap, subst, ◌∙◌, Some, option_and_then, arith}
use Rattle.std.specs.Prelude.{sum_by, slice_get, ◌==◌, ◌||◌}
use Rattle.std.proofs.lemmas.Bool.{cases_Bool, eqb-true, false≢true}
use Rattle.std.proofs.lemmas.List.{append-nil, append_assoc}
use Rattle.std.proofs.lemmas.List.Sums.{sum_by-cons, sum_by-append}
use Rattle.std.proofs.lemmas.Option.{same_Some, option_and_then_some}
use Rattle.q_packet.specs.Descriptor.{Descriptor}
use Rattle.q_packet.specs.declared.cause.Cause.TheVariants.{Purged}
use Rattle.q_drr.specs.Schedule.{Class, Schedule, has_class, quantum_of}
use Rattle.q_drr.specs.Take.{met}
use Rattle.q_drr.specs.declared.take.Met.{Met}
use Rattle.q_model.specs.declared.event.Event.{Event}
use Rattle.q_model.specs.declared.event.Event.TheVariants as event
use Rattle.q_model.specs.Ask.{Asked, head_of, service_of, ask_own, ask}
use Rattle.q_model.specs.Events.{IsEvent}
use Rattle.q_model.specs.Node.{Tbf, Drr, none, more, Node, nodes_in, side_by_side, children, each, shape}
use Rattle.q_model.specs.Route.{class_at}
use Rattle.q_model.specs.Step.{DeviceState, step}
use Rattle.q_model.specs.Stretches.{sent_by, spent_by, granted_by, bytes_sent, bytes_spent, grants_to, length_held, qdisc, ClassAt, class_in, TbfAt, tbf_in}
use Rattle.q_model.specs.Tally.{Note, history}
use Rattle.q_model.specs.Work.{Worked, booked, each_booked, losses_of}
use Rattle.q_invariants.specs.Kept.{IsLawfulRoot}
use Rattle.q_invariants.proofs.ask.AskStages.{IsStageOf, IsAskOf, asked-related}
use Rattle.q_invariants.proofs.ask.SentStages.{Gives, ask-gives}
use Rattle.q_invariants.proofs.bucket.BucketMoves.{tbf-node}
use Rattle.q_invariants.proofs.class.ClassChildren.{place_in, child_for, child-at, child-has, child-set}
use Rattle.q_invariants.proofs.class.ClassLooks.{gives-for, booked-child}
use Rattle.q_invariants.proofs.class.ClassMoves.{class-node}
use Rattle.q_invariants.proofs.edit.EditComes.{IsAbove}
use Rattle.q_invariants.proofs.edit.EditLater.{root-later}
use Rattle.q_invariants.proofs.put.PutKinds.{put-stage}
use Rattle.q_invariants.proofs.Replays.{IsKept, step-kept}
use Rattle.q_invariants.proofs.sums.NoteSums.{AreRisen, sum-risen, risen-losses, past-sent, past-spent, past-granted}
use Rattle.q_invariants.proofs.sums.Risen.{all-rise}
use Rattle.q_invariants.proofs.sums.Told.{noted-history}
use Rattle.q_invariants.proofs.tree.Forests.{lawful-with_memory, nodes-side, side-nodes}
use Rattle.q_invariants.proofs.tree.Related.{forget}
use Rattle.q_invariants.proofs.tree.StepNodes.{IsAsked, IsPut, IsRemadeSo, IsEdited, Becomes, becomes, clock-rises}
use Rattle.q_invariants.proofs.tree.Within.{found, lawful-of}
use Rattle.q_laws.specs.share.InTime.{IsLinkOver}
use Rattle.q_laws.specs.share.Service.{given_so_far, class_sent, IsClass, classes_of, HasClasses, all_sent}
use Rattle.q_laws.proofs.rate.LinkAsks.{Leaves, TakesOf, root-takes, GaveAt, drr-takes}
use Rattle.q_laws.proofs.rate.LinkStretches.{at-root}
use Rattle.q_laws.proofs.share.LeastShare.{drr-node, is-class}
use Rattle.q_laws.proofs.share.ServiceStretches.{given-at}

-- ---- sums over classes

pub sum-both : {X : Type 0} (f g : X → ℕ) (xs : List X) → sum_by (λ x. f x + g x) xs ≡ sum_by f xs + sum_by g xs
sum-both f g [] = refl
sum-both f g (x ∷ xs) = omega (arith, sum_by-cons (λ x. f x + g x) x xs, sum_by-cons f x xs, sum_by-cons g x xs, sum-both f g xs)

sum-has : (f : ℕ → ℕ) (c : ℕ) (classes : List Class) → has_class c classes ≡ true → f c ≤ sum_by (λ (k : Class). f k.name) classes
sum-has f c [] has = absurd (false≢true has)
sum-has f c (k ∷ classes) has = elim (cases_Bool (c == k.name)) [
  | inl here ↦ omega (arith, sum_by-cons (λ (k : Class). f k.name) k classes, ap f (eqb-true c k.name here))
  | inr there ↦ omega (arith, sum_by-cons (λ (k : Class). f k.name) k classes, sum-has f c classes (sym (ap (λ t. t || has_class c classes) there) ∙ has))
]

-- ---- arrivals and commands take nothing

pub record IsQuiet (n after : Node (List Note)) : Type 0 where
  pub notes : List Note
  pub memory : after.memory ≡ n.memory ++ notes
  pub spent : bytes_spent notes ≡ 0
  pub sent : bytes_sent notes ≡ 0
  pub granted : (c : ℕ) → grants_to c notes ≡ 0
  pub held : length_held after.own.held ≡ length_held n.own.held

pub put-quiet : (now : ℕ) (p : Descriptor) (n after : Node (List Note)) → IsPut now p n after → IsQuiet n after
put-quiet now p n after put =
    let st = put-stage now p put.refusal (shape n) put.worked put.way in
    record {
      notes = put.worked.memory;
      memory = ap (λ (k : Node (List Note)). k.memory) (sym put.is) ∙ noted-history n.memory put.worked.memory;
      spent = st.notes spent_by past-spent (λ q. refl);
      sent = st.notes sent_by past-sent (λ q. refl);
      granted = λ c. st.notes (granted_by c) (past-granted c) (λ q. refl);
      held = ap (λ (k : Node (List Note)). length_held k.own.held) (sym put.is) ∙ ap length_held st.held;
    }

same-quiet : (n after : Node (List Note)) → after ≡ n → IsQuiet n after
same-quiet n after e = record {
  notes = [];
  memory = ap (λ (k : Node (List Note)). k.memory) e ∙ sym (append-nil n.memory);
  spent = refl;
  sent = refl;
  granted = λ c. refl;
  held = ap (λ (k : Node (List Note)). length_held k.own.held) e;
}

pub command-quiet : (now : ℕ) (n after : Node (List Note)) → (after ≡ n) ⊎ IsEdited now n after → IsQuiet n after
command-quiet now n after (inl e) = same-quiet n after e
command-quiet now n after (inr edit) = by edit.by
  where
    notes : List Note
    notes = losses_of Purged edit.purged

    spent : bytes_spent (losses_of Purged edit.purged) ≡ 0
    spent = sum-risen spent_by past-spent (losses_of Purged edit.purged) (risen-losses Purged edit.purged)

    sent : bytes_sent (losses_of Purged edit.purged) ≡ 0
    sent = sum-risen sent_by past-sent (losses_of Purged edit.purged) (risen-losses Purged edit.purged)

    granted : (c : ℕ) → grants_to c (losses_of Purged edit.purged) ≡ 0
    granted c = sum-risen (granted_by c) (past-granted c) (losses_of Purged edit.purged) (risen-losses Purged edit.purged)

    by : (after ≡ n) ⊎ IsRemadeSo now (losses_of Purged edit.purged) n after ⊎ IsAbove (losses_of Purged edit.purged) edit.f n after → IsQuiet n after
    by (inl e) = same-quiet n after e
    by (inr (inl r)) = record {
      notes = losses_of Purged edit.purged;
      memory = ap (λ (k : Node (List Note)). k.memory) r.is ∙ noted-history n.memory (losses_of Purged edit.purged);
      spent = spent;
      sent = sent;
      granted = granted;
      held = ap (λ (k : Node (List Note)). length_held k.own.held) r.is ∙ ap length_held r.form.held;
    }
    by (inr (inr a)) = record {
      notes = losses_of Purged edit.purged;
      memory = ap (λ (k : Node (List Note)). k.memory) a.is ∙ noted-history n.memory (losses_of Purged edit.purged);
      spent = spent;
      sent = sent;
      granted = granted;
      held = ap (λ (k : Node (List Note)). length_held k.own.held) a.is;
    }

-- ---- one event

pub leaves-stage : (a : Asked) (w : Worked) (taken : ℕ) → Leaves a w taken → IsStageOf a w
leaves-stage a w taken (inl h) = inl h.0
leaves-stage a w taken (inr (inl h)) = inr (inl h.0)
leaves-stage a w taken (inr (inr h)) = inr (inr h.0)

pub only-child : (root n : Node (List Note)) → children root ≡ n ∷ [] → root.below ≡ more n.own n.memory n.below none
only-child root n e = sym (side-nodes root.below) ∙ ap side_by_side e

pub same-head : (n m : Node (List Note)) → n ∷ [] ≡ m ∷ [] → n ≡ m
same-head n m e = same_Some n m (ap (λ xs. slice_get xs 0) e)

module _ (major : ℕ) (classes : List Class) where
  -- what the classes send in one event
  abbrev pub gain : DeviceState (List Note) → DeviceState (List Note) → ℕ
  gain d next = sum_by (λ (c : Class). given_so_far major c.name next - given_so_far major c.name d) classes

  -- the classes are those of the drr at which a class stands
  pub same-classes : (d : DeviceState (List Note)) (c : ℕ) (x : ClassAt) → HasClasses major classes d → class_in major c d ≡ Some x → x.schedule.classes ≡ classes
  same-classes d c x has is =
      let n = class-node major c d x is in
      same_Some x.schedule.classes classes (sym (ap (option_and_then (λ (k : Node (List Note)). classes_of k.own.discipline)) n.there ∙ ap classes_of n.discipline) ∙ has)

  -- the drr beneath the root, in a poll
  module _ (d next : DeviceState (List Note)) (now : ℕ) (kept : IsKept d) (later : d.clock ≤ now) (kept_next : IsKept next)
      (h : HasClasses major classes d) (k : HasClasses major classes next) (n m : Node (List Note)) (is : qdisc major d ≡ Some n)
      (at : qdisc major next ≡ Some m) where
    lawful : IsLawfulRoot d.tree.device.mtu now (shape n)
    lawful =
        lawful-with_memory d.tree.device.mtu now (λ u. tt) n
        (lawful-of d.tree.device.mtu now n d.tree.root (root-later d.clock now later d.tree.device.mtu d.tree.root kept.lawful) (found major d n is).there)

    abbrev below : List Asked
    below = each (ask_own now) (shape n).below

    module _ (w : Worked) (taken : ℕ) (leaves : Leaves (ask now (shape n)) w taken) (becomes_is : booked history n w ≡ m) where
      held-after : length_held w.own.held ≡ length_held m.own.held
      held-after = ap (λ (x : Node (List Note)). length_held x.own.held) becomes_is

      module _ (s : Schedule) (disc : n.own.discipline ≡ Drr s) (own_classes : s.classes ≡ classes) (gave : GaveAt s below w taken) (c : ℕ) (named : class_at c s ≡ Some gave.place) where
        answered : child_for c classes below ≡ Some gave.answer
        answered =
            ap (λ cs. child_for c cs below) (sym own_classes) ∙ sym (child-at c s.classes below)
            ∙ ap (option_and_then (slice_get below)) named ∙ gave.there

        has : has_class c classes ≡ true
        has = child-has c classes below gave.answer answered

        -- it stands there before and after
        x : IsClass major c (quantum_of c classes) d
        x = is-class major classes d kept h c (quantum_of c classes) has refl

        y : IsClass major c (quantum_of c classes) next
        y = is-class major classes next kept_next k c (quantum_of c classes) has refl

        gives-what : (given_so_far major c next - given_so_far major c d) ≡ length_held gave.answer.shown
        gives-what =
            let nx = class-node major c d x.class x.there in
            let ny = class-node major c next y.class y.there in
            let mine : nx.node ≡ n = same_Some nx.node n (sym nx.there ∙ is) in
            let theirs : ny.node ≡ m = same_Some ny.node m (sym ny.there ∙ at) in
            let child_x : child_for c classes (children n) ≡ Some x.class.child =
            ap (λ cs. child_for c cs (children n)) (sym (same-classes d c x.class h x.there))
            ∙ ap (λ (q : Node (List Note)). child_for c x.class.schedule.classes (children q)) (sym mine) ∙ nx.child in
            let child_y : child_for c classes (nodes_in (booked history n w).below) ≡ Some y.class.child =
            ap (λ (q : Node (List Note)). child_for c classes (children q)) becomes_is
            ∙ ap (λ cs. child_for c cs (children m)) (sym (same-classes next c y.class k y.there))
            ∙ ap (λ (q : Node (List Note)). child_for c y.class.schedule.classes (children q)) (sym theirs) ∙ ny.child in
            let b =
            booked-child (IsAskOf now) classes n.below w.below c y.class.child
            (asked-related d.tree.device.mtu now (shape n) w lawful (leaves-stage (ask now (shape n)) w taken leaves)).2 child_y in
            let same : b.child ≡ x.class.child = same_Some b.child x.class.child (sym b.there ∙ child_x) in
            let listed : child_for c classes (set (service_of s below).below gave.place gave.answer.taken) ≡ Some b.worked =
            sym (ap (child_for c classes) (ap nodes_in gave.below_is ∙ nodes-side (set (service_of s below).below gave.place gave.answer.taken))) ∙ b.becomes in
            let worked : b.worked ≡ gave.answer.taken = which b.worked listed in
            let memory : y.class.child.memory ≡ x.class.child.memory ++ gave.answer.taken.memory =
            ap (λ (q : Node (List Note)). q.memory) (sym b.is) ∙ noted-history b.child.memory b.worked.memory
            ∙ ap (λ (q : Node (List Note)). q.memory ++ b.worked.memory) same ∙ ap (λ (v : Worked). x.class.child.memory ++ v.memory) worked in
            let sent : bytes_sent y.class.child.memory ≡ bytes_sent x.class.child.memory + bytes_sent gave.answer.taken.memory =
            ap bytes_sent memory ∙ sum_by-append sent_by x.class.child.memory gave.answer.taken.memory in
            let gives = gives-for now (shape n).below classes c gave.answer answered in
            omega (arith, sent, gives.taken, given-at major c d x.class x.there, given-at major c next y.class y.there)
          where
            which : (v : Worked) → child_for c classes (set (service_of s below).below gave.place gave.answer.taken) ≡ Some v → v ≡ gave.answer.taken
            which v e = by (child-set c classes (service_of s below).below gave.place gave.answer.taken v e).which
              where
                by : ((place_in c classes ≡ Some gave.place) × (v ≡ gave.answer.taken)) ⊎
                    ((child_for c classes (service_of s below).below ≡ Some v) × (place_in c classes ≡ Some gave.place → ⊥))
                    → v ≡ gave.answer.taken
                by (inl o) = o.1
                by (inr o) = absurd (o.1 (ap (place_in c) (sym own_classes) ∙ named))

        gains : taken + length_held w.own.held ≤ gain d next
        gains = let most = sum-has (λ b. given_so_far major b next - given_so_far major b d) c classes has in let gives = gave.gives in omega (arith, most, gives, gives-what)

      pub passes : taken + length_held m.own.held ≤ gain d next + length_held n.own.held
      passes =
          let at_drr = drr-node major classes d h in
          let mine : at_drr.node ≡ n = same_Some at_drr.node n (sym at_drr.there ∙ is) in
          by at_drr.schedule (ap (λ (q : Node (List Note)). q.own.discipline) (sym mine) ∙ at_drr.discipline) at_drr.same
        where
          how : (s : Schedule) (disc : n.own.discipline ≡ Drr s) → s.classes ≡ classes
              → (taken + length_held w.own.held ≤ length_held n.own.held) ⊎ GaveAt s below w taken
              → taken + length_held m.own.held ≤ gain d next + length_held n.own.held
          how s disc same (inl held) = omega (arith, held, held-after)
          how s disc same (inr gave) =
              option_and_then_some (λ (q : Met). class_at q.class s) (met (head_of s below) s) gave.place gave.placed
              (λ q there named. let more = gains s disc same gave q.class named in omega (arith, more, held-after))

          by : (s : Schedule) (disc : n.own.discipline ≡ Drr s) → s.classes ≡ classes → taken + length_held m.own.held ≤ gain d next + length_held n.own.held
          by s disc same = how s disc same (drr-takes now n.own below s disc w taken leaves)

  -- what a drr sends in one event its classes send, but for a packet that it holds
  pub record DrrPasses (d next : DeviceState (List Note)) (n m : Node (List Note)) : Type 0 where
    pub notes : List Note
    pub memory : m.memory ≡ n.memory ++ notes
    pub passed : bytes_sent notes + length_held m.own.held ≤ gain d next + length_held n.own.held

  quiet-drr : (d next : DeviceState (List Note)) (n m : Node (List Note)) → IsQuiet n m → DrrPasses d next n m
  quiet-drr d next n m q = record { notes = q.notes; memory = q.memory; passed = omega (arith, q.sent, q.held) }

  asked-drr : (d next : DeviceState (List Note)) (now : ℕ) → IsKept d → d.clock ≤ now → IsKept next → HasClasses major classes d
      → HasClasses major classes next → (n m : Node (List Note)) → qdisc major d ≡ Some n → qdisc major next ≡ Some m
      → IsAsked now n m → DrrPasses d next n m
  asked-drr d next now kept later kept_next h k n m is at asked =
      let w : Worked = asked.worked in
      record {
        notes = w.memory;
        memory = ap (λ (q : Node (List Note)). q.memory) (sym asked.is) ∙ noted-history n.memory w.memory;
        passed = passes d next now kept later kept_next h k n m is at w (bytes_sent w.memory) (gave (ask-gives now (shape n)) asked.stage) asked.is;
      }
    where
      gave : Gives (ask now (shape n)) → IsStageOf (ask now (shape n)) asked.worked → Leaves (ask now (shape n)) asked.worked (bytes_sent asked.worked.memory)
      gave g (inl e) = inl (e, ap (λ (x : Worked). bytes_sent x.memory) e ∙ g.before)
      gave g (inr (inl e)) = inr (inl (e, ap (λ (x : Worked). bytes_sent x.memory) e ∙ g.peeked))
      gave g (inr (inr e)) = inr (inr (e, ap (λ (x : Worked). bytes_sent x.memory) e ∙ g.taken))

  pub drr-passes : (d : DeviceState (List Note)) (e : Event) → IsKept d → IsEvent e → HasClasses major classes d
      → HasClasses major classes (step history d e).device → (n m : Node (List Note)) → qdisc major d ≡ Some n
      → qdisc major (step history d e).device ≡ Some m
      → DrrPasses d (step history d e).device n m
  drr-passes d e kept happens h k n m is at = by e happens k at (becomes major d e n m kept happens is at)
    where
      by : (e : Event) → IsEvent e → HasClasses major classes (step history d e).device → qdisc major (step history d e).device ≡ Some m
          → Becomes (step history d e).device.clock e n m → DrrPasses d (step history d e).device n m
      by (event.Arrive p moment) range k at b = let next : DeviceState (List Note) = (step history d (event.Arrive p moment)).device in quiet-drr d next n m (put-quiet next.clock p n m b)
      by (event.Command c moment) range k at b = let next : DeviceState (List Note) = (step history d (event.Command c moment)).device in quiet-drr d next n m (command-quiet next.clock n m b)
      by (event.Poll moment) range k at b =
          let e : Event = event.Poll moment in
          let next : DeviceState (List Note) = (step history d e).device in
          asked-drr d next next.clock kept (clock-rises d e) (step-kept d e kept range) h k n m is at b

module _ (link rate burst major : ℕ) (classes : List Class) where
  abbrev pub Stays : DeviceState (List Note) → Type 0
  Stays d = IsLinkOver link rate burst major d × HasClasses major classes d

  record EventPasses (d next : DeviceState (List Note)) (root after n m : Node (List Note)) : Type 0 where
    notes : List Note
    memory : after.memory ≡ root.memory ++ notes
    passed : bytes_spent notes + length_held m.own.held ≤ gain major classes d next + length_held n.own.held

  quiet-passes : (d next : DeviceState (List Note)) (root after n m : Node (List Note)) → IsQuiet root after → IsQuiet n m → EventPasses d next root after n m
  quiet-passes d next root after n m a b = record { notes = a.notes; memory = a.memory; passed = omega (arith, a.spent, b.held) }

  -- the root in a poll
  poll-passes : (d next : DeviceState (List Note)) (now : ℕ) → IsKept d → d.clock ≤ now → IsKept next → Stays d → Stays next
      → (n m : Node (List Note)) → qdisc major d ≡ Some n → qdisc major next ≡ Some m
      → IsAsked now d.tree.root next.tree.root → EventPasses d next d.tree.root next.tree.root n m
  poll-passes d next now kept later kept_next h k n m is at asked =
      let root : Node (List Note) = d.tree.root in
      let w : Worked = asked.worked in
      let t = tbf-node link d h.0.rated.tbf.tbf h.0.rated.tbf.there in
      let here : t.node ≡ root = same_Some t.node root (sym t.there ∙ at-root link rate burst d h.0.rated) in
      let tbf : root.own.discipline ≡ Tbf h.0.rated.tbf.tbf.bucket t.limit = ap (λ (q : Node (List Note)). q.own.discipline) (sym here) ∙ t.discipline in
      let only : root.below ≡ more n.own n.memory n.below none = only-child root n (h.0.child ∙ ap (λ (q : Node (List Note)). q ∷ []) (same_Some h.0.drr n (sym h.0.there ∙ is))) in
      let last : children next.tree.root ≡ m ∷ [] = k.0.child ∙ ap (λ (q : Node (List Note)). q ∷ []) (same_Some k.0.drr m (sym k.0.there ∙ at)) in
      let a : Asked = ask now (shape n) in
      let alone : each (ask_own now) (shape root).below ≡ a ∷ [] = ap (λ x. each (ask_own now) (forget x)) only in
      let risen : AreRisen a.rises = (all-rise now (more n.own tt (shape n).below none)).0 in
      let takes : TakesOf a w = root-takes now root.own a risen h.0.rated.tbf.tbf.bucket t.limit tbf w (subst (λ xs. IsStageOf (ask_own now root.own xs) w) alone asked.stage) in
      let after : nodes_in (booked history root w).below ≡ booked history n takes.child ∷ [] =
      ap (λ x. nodes_in (each_booked history x w.below)) only ∙ ap (λ y. nodes_in (each_booked history (more n.own n.memory n.below none) y)) takes.below_is in
      let child : booked history n takes.child ≡ m = same-head (booked history n takes.child) m (sym after ∙ ap children asked.is ∙ last) in
      record {
        notes = w.memory;
        memory = ap (λ (q : Node (List Note)). q.memory) (sym asked.is) ∙ noted-history root.memory w.memory;
        passed = passes major classes d next now kept later kept_next h.1 k.1 n m is at takes.child (bytes_spent w.memory) takes.leaves child;
      }

  event-passes : (d : DeviceState (List Note)) (e : Event) → IsKept d → IsEvent e → Stays d → Stays (step history d e).device
      → (n m : Node (List Note)) → qdisc major d ≡ Some n → qdisc major (step history d e).device ≡ Some m
      → EventPasses d (step history d e).device d.tree.root (step history d e).device.tree.root n m
  event-passes d e kept happens h k n m is at =
      by e happens h k at (becomes link d e d.tree.root (step history d e).device.tree.root kept happens (at-root link rate burst d h.0.rated)
      (at-root link rate burst (step history d e).device k.0.rated)) (becomes major d e n m kept happens is at)
    where
      by : (e : Event) → IsEvent e → Stays d → Stays (step history d e).device → qdisc major (step history d e).device ≡ Some m
          → Becomes (step history d e).device.clock e d.tree.root (step history d e).device.tree.root → Becomes (step history d e).device.clock e n m
          → EventPasses d (step history d e).device d.tree.root (step history d e).device.tree.root n m
      by (event.Arrive p moment) range h k at a b =
          let next : DeviceState (List Note) = (step history d (event.Arrive p moment)).device in
          quiet-passes d next d.tree.root next.tree.root n m (put-quiet next.clock p d.tree.root next.tree.root a) (put-quiet next.clock p n m b)
      by (event.Command c moment) range h k at a b =
          let next : DeviceState (List Note) = (step history d (event.Command c moment)).device in
          quiet-passes d next d.tree.root next.tree.root n m (command-quiet next.clock d.tree.root next.tree.root a) (command-quiet next.clock n m b)
      by (event.Poll moment) range h k at a b =
          let e : Event = event.Poll moment in
          let next : DeviceState (List Note) = (step history d e).device in
          poll-passes d next next.clock kept (clock-rises d e) (step-kept d e kept range) h k n m is at a

  -- ---- a stretch

  pub record Passes (d : DeviceState (List Note)) (during : List Event) (x y : TbfAt) (n m : Node (List Note)) : Type 0 where
    pub notes : List Note
    pub is : y.noted ≡ x.noted ++ notes
    pub passed : bytes_spent notes + length_held m.own.held ≤ all_sent major classes d during + length_held n.own.held

  abbrev pub Moves : DeviceState (List Note) → List Event → DeviceState (List Note) → Type 0
  Moves d during end =
      (x y : TbfAt) (n m : Node (List Note)) → tbf_in link d ≡ Some x → tbf_in link end ≡ Some y → qdisc major d ≡ Some n → qdisc major end ≡ Some m → Passes d during x y n m

  none-sent : (d : DeviceState (List Note)) (cs : List Class) → sum_by (λ (c : Class). class_sent major c.name d []) cs ≡ 0
  none-sent d [] = refl
  none-sent d (c ∷ cs) = omega (arith, sum_by-cons (λ (c : Class). class_sent major c.name d []) c cs, none-sent d cs)

  pub still : (d : DeviceState (List Note)) → IsKept d → Stays d → Moves d [] d
  still d kept h x y n m is at here there =
      subst (λ (z : TbfAt). Passes d [] x z n m) (same_Some x y (sym is ∙ at))
      (subst (λ (z : Node (List Note)). Passes d [] x x n z) (same_Some n m (sym here ∙ there)) (record { notes = []; is = sym (append-nil x.noted); passed = omega (arith, none-sent d classes) }))

  -- what the tbf at the root has noted
  noted-root : (d : DeviceState (List Note)) (x : TbfAt) → Stays d → tbf_in link d ≡ Some x → d.tree.root.memory ≡ x.noted
  noted-root d x h is =
      let t = tbf-node link d x is in
      let here : t.node ≡ d.tree.root = same_Some t.node d.tree.root (sym t.there ∙ at-root link rate burst d h.0.rated) in
      ap (λ (q : Node (List Note)). q.memory) (sym here) ∙ ap (λ (z : TbfAt). z.noted) t.is

  pub more-passes : (d : DeviceState (List Note)) (e : Event) (during : List Event) (end : DeviceState (List Note)) → IsKept d → IsEvent e → Stays d → Stays (step history d e).device
      → Moves (step history d e).device during end → Moves d (e ∷ during) end
  more-passes d e during end kept happens h k on x z n o is at here there =
      let next : DeviceState (List Note) = (step history d e).device in
      let y : TbfAt = k.0.rated.tbf.tbf in
      let m : Node (List Note) = k.0.drr in
      let p = event-passes d e kept happens h k n m here k.0.there in
      let rest = on y z m o k.0.rated.tbf.there at k.0.there there in
      let noted : y.noted ≡ x.noted ++ p.notes = sym (noted-root next y k k.0.rated.tbf.there) ∙ p.memory ∙ ap (λ ns. ns ++ p.notes) (noted-root d x h is) in
      let spent : bytes_spent (p.notes ++ rest.notes) ≡ bytes_spent p.notes + bytes_spent rest.notes = sum_by-append spent_by p.notes rest.notes in
      let sent = sum-both (λ (c : Class). given_so_far major c.name next - given_so_far major c.name d) (λ (c : Class). class_sent major c.name next during) classes in
      record {
        notes = p.notes ++ rest.notes;
        is = rest.is ∙ ap (λ ns. ns ++ rest.notes) noted ∙ append_assoc x.noted p.notes rest.notes;
        passed = let first = p.passed in let later = rest.passed in omega (arith, spent, sent, first, later);
      }
