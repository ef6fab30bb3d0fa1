-- What one event leaves of a drr that is the child of a class of another: it hands up what it shows, or nothing. Where the class is granted the
-- child was asked, so that it hands up what it shows, or holds it.
use Rattle.std.proofs.Common.{◌≡◌, ℕ, zero, suc, ◌+◌, ◌≤◌, ◌^◌, ◌⊎◌, inl, inr, List, [], ◌∷◌, ◌++◌, map, take, drop, refl, sym, ap, ◌∙◌, Some, None, option_and_then, eq-eqb, arith}
use Rattle.std.proofs.Common.{Bool, true, false, eqb, ◌||◌, Option}
use Rattle.std.specs.Prelude.{◌==◌, slice_get, if◌then◌else◌}
use Rattle.std.specs.List.{zip}
use Rattle.std.proofs.lemmas.Bool.{cases_Bool, eqb-true, false≢true, or_left, or_parts, or_right}
use Rattle.std.proofs.lemmas.List.Sums.{sum_by-append, sum_by-cons}
use Rattle.std.proofs.lemmas.Option.{none-some, same_Some}
use Rattle.q_packet.specs.Choice.{Choice}
use Rattle.q_drr.specs.Schedule.{Class, Entry, is_active}
use Rattle.q_drr.specs.Take.{choice_of}
use Rattle.q_drr.proofs.DifferLemmas.{EntriesDiffer, entries_apart}
use Rattle.q_model.specs.declared.event.Event.{Event}
use Rattle.q_model.specs.declared.event.Event.TheVariants as event
use Rattle.q_model.specs.Ask.{Asked, ask, ask_own, head_of, is_among, service_of}
use Rattle.q_model.specs.Events.{IsEvent}
use Rattle.q_model.specs.Grants.{asked_entries, grant_notes, granted_notes}
use Rattle.q_model.specs.Node.{Node, children, each, nodes_in, shape}
use Rattle.q_model.specs.Step.{DeviceState, step}
use Rattle.q_model.specs.Stretches.{sent_by, granted_by, bytes_sent, grants_to, length_held, ClassAt, class_in, qdisc}
use Rattle.q_model.specs.Tally.{Granted, Note, history}
use Rattle.q_model.specs.Work.{Worked, booked}
use Rattle.q_invariants.specs.Kept.{IsLawfulRoot}
use Rattle.q_invariants.proofs.ask.AskStages.{IsAskOf, IsStageOf, asked-related}
use Rattle.q_invariants.proofs.ask.SentStages.{ask-gives}
use Rattle.q_invariants.proofs.class.ClassAsks.{AsWas, DrrStage, Gave, Nothing, Served, own-stage}
use Rattle.q_invariants.proofs.class.ClassChildren.{child_for, child-at, child-set, here-is, place_in, there-is}
use Rattle.q_invariants.proofs.class.ClassLooks.{BookedChild, answer-for, booked-child}
use Rattle.q_invariants.proofs.class.ClassMoves.{class-node, drr-lawful}
use Rattle.q_invariants.proofs.class.TakeTurns.{absent-noted}
use Rattle.q_invariants.proofs.edit.EditLater.{root-later}
use Rattle.q_invariants.proofs.Replays.{IsKept, step-kept}
use Rattle.q_invariants.proofs.sums.Told.{noted-history}
use Rattle.q_invariants.proofs.tree.Forests.{lawful-with_memory, nodes-side}
use Rattle.q_invariants.proofs.tree.StepNodes.{Becomes, IsAsked, becomes, clock-rises}
use Rattle.q_invariants.proofs.tree.Within.{found, lawful-of}
use Rattle.q_laws.specs.share.Service.{HasClasses}
use Rattle.q_laws.specs.turn.Turn.{shown_by}
use Rattle.q_laws.proofs.share.LeastShare.{DrrNode, drr-node}
use Rattle.q_laws.proofs.share.PassedStretches.{IsQuiet, command-quiet, put-quiet}
use Rattle.q_laws.proofs.turn.TurnAsks.{child-is}
use Rattle.q_laws.proofs.turn.TurnBounds.{DrrShape, handed}
use Rattle.q_laws.proofs.turn.TurnWaits.{booked-sent, reached}

-- ---- a class that is granted is asked

module _ (c : ℕ) where
  none-noted : (k : ℕ) (es : List Entry) → is_active c es ≡ false → grants_to c (grant_notes k es) ≡ 0
  none-noted k es none = by (k == 0)
    where
      each-none : (xs : List Entry) → is_active c xs ≡ false → grants_to c (map (λ (e : Entry). Granted e.class k) xs) ≡ 0
      each-none [] h = refl
      each-none (e ∷ xs) h =
          let parts = or_parts (eqb c e.class) (is_active c xs) h in
          let first : granted_by c (Granted e.class k) ≡ 0 = ap (λ (t : Bool). if t then k else 0) parts.0 in
          omega (arith, sum_by-cons (granted_by c) (Granted e.class k) (map (λ (e : Entry). Granted e.class k) xs), first, each-none xs parts.1)

      by : (t : Bool) → grants_to c (if t then [] else map (λ (e : Entry). Granted e.class k) es) ≡ 0
      by true = refl
      by false = each-none es none

  front-inactive : (place : ℕ) (es : List Entry) → is_active c (take (suc place) es) ≡ false → is_active c (take place es) ≡ false
  front-inactive zero [] h = refl
  front-inactive zero (e ∷ es) h = refl
  front-inactive (suc place) [] h = refl
  front-inactive (suc place) (e ∷ es) h =
      let parts = or_parts (eqb c e.class) (is_active c (take (suc place) es)) h in
      ap (λ t. t || is_active c (take place es)) parts.0 ∙ front-inactive place es parts.1

  unasked-none : (o : Option Choice) (es : List Entry) → is_active c (asked_entries o es) ≡ false → grants_to c (granted_notes o es) ≡ 0
  unasked-none None es h = refl
  unasked-none (Some ch) es h = by (ch.rounds == 0) refl h
    where
      by : (t : Bool) → (ch.rounds == 0) ≡ t → is_active c (if t then take (suc ch.place) es else es) ≡ false
          → grants_to c (granted_notes (Some ch) es) ≡ 0
      by true e none =
          let first = none-noted (suc ch.rounds) (take ch.place es) (front-inactive ch.place es none) in
          let second : grants_to c (grant_notes ch.rounds (drop ch.place es)) ≡ 0 =
          ap (λ k. grants_to c (grant_notes k (drop ch.place es))) (eqb-true ch.rounds 0 e) in
          omega (
            arith,
            first,
            second,
            sum_by-append (granted_by c) (grant_notes (suc ch.rounds) (take ch.place es)) (grant_notes ch.rounds (drop ch.place es)),
          )
      by false e none = absent-noted c es (Some ch) none

  granted-asked : (k : ℕ) (o : Option Choice) (es : List Entry) → grants_to c (granted_notes o es) ≡ suc k → is_active c (asked_entries o es) ≡ true
  granted-asked k o es h = elim (cases_Bool (is_active c (asked_entries o es))) [
    | inl among ↦ among
    | inr apart ↦ let none = unasked-none o es apart in absurd (omega (arith, none, h))
  ]

  among-asked : (k : Class) (es : List Entry) → c ≡ k.name → is_active c es ≡ true → is_among es k ≡ true
  among-asked k [] same h = absurd (false≢true h)
  among-asked k (e ∷ es) same h = elim (cases_Bool (eqb c e.class)) [
    | inl here ↦ or_left (eqb e.class k.name) (is_among es k) (eq-eqb e.class k.name (sym (eqb-true c e.class here) ∙ same))
    | inr there ↦ or_right (eqb e.class k.name) (is_among es k) (among-asked k es same (sym (ap (λ t. t || is_active c es) there) ∙ h))
  ]

  -- a class that passes was peeked
  looked-peeked : (test : Class → Bool) (classes : List Class) (below : List Asked) (v : Worked) (a : Asked)
      → ((k : Class) → eqb c k.name ≡ true → test k ≡ true)
      → child_for c classes (map (λ pair. if test pair.0 then pair.1.peeked else pair.1.before) (zip classes below)) ≡ Some v
      → child_for c classes below ≡ Some a → v ≡ a.peeked
  looked-peeked test [] below v a passes e there = absurd (none-some v e)
  looked-peeked test (k ∷ classes) [] v a passes e there = absurd (none-some v e)
  looked-peeked test (k ∷ classes) (b ∷ below) v a passes e there =
      let first : Worked = if test k then b.peeked else b.before in
      let rest : List Worked = map (λ pair. if test pair.0 then pair.1.peeked else pair.1.before) (zip classes below) in
      elim (cases_Bool (eqb c k.name)) [
        | inl here ↦
            let mine : first ≡ v = same_Some first v (sym (here-is c k classes first rest here) ∙ e) in
            let same : b ≡ a = same_Some b a (sym (here-is c k classes b below here) ∙ there) in
            sym mine ∙ ap (λ (t : Bool). if t then b.peeked else b.before) (passes k here) ∙ ap (λ (x : Asked). x.peeked) same
        | inr other ↦ looked-peeked test classes below v a passes (sym (there-is c k classes first rest other) ∙ e)
            (sym (there-is c k classes b below other) ∙ there)
      ]

-- ---- in a poll

module _ (major i : ℕ) (classes : List Class) (d : DeviceState (List Note)) (moment : ℕ) (kept : IsKept d) (low : moment ≤ 2 ^ 62)
    (h : HasClasses major classes d) (k : HasClasses major classes (step history d (event.Poll moment)).device) (x y : ClassAt)
    (is : class_in major i d ≡ Some x) (at : class_in major i (step history d (event.Poll moment)).device ≡ Some y) where
  abbrev next : DeviceState (List Note)
  next = (step history d (event.Poll moment)).device

  abbrev now : ℕ
  now = (step history d (event.Poll moment)).device.clock

  pub drr : DrrNode major classes d
  drr = drr-node major classes d h

  pub after : DrrNode major classes (step history d (event.Poll moment)).device
  after = drr-node major classes next k

  pub asks : IsAsked (step history d (event.Poll moment)).device.clock drr.node after.node
  asks = becomes major d (event.Poll moment) drr.node after.node kept low drr.there after.there

  differ : EntriesDiffer drr.schedule.active
  differ = entries_apart drr.schedule.active (drr-lawful major d drr.node drr.schedule kept drr.there drr.discipline).schedule.entries_differ

  abbrev below : List Asked
  below = each (ask_own now) (shape drr.node).below

  abbrev answer : Asked
  answer = ask now (shape x.child)

  stage : DrrStage (step history d (event.Poll moment)).device.clock (shape drr.node).below drr.schedule differ asks.worked
  stage = own-stage now (shape drr.node).below drr.schedule differ drr.node.own drr.discipline asks.worked asks.stage

  pub first-child : child_for i classes (children drr.node) ≡ Some x.child
  first-child =
      let always : d.clock ≤ d.clock = omega arith in
      child-is major i classes d d.clock kept always h drr.node drr.there x is

  answers : child_for i classes (each (ask_own (step history d (event.Poll moment)).device.clock) (shape drr.node).below)
      ≡ Some (ask (step history d (event.Poll moment)).device.clock (shape x.child))
  answers = answer-for now drr.node.below classes i x.child first-child

  pub becomes-so : BookedChild (IsAskOf (step history d (event.Poll moment)).device.clock) classes drr.node.below asks.worked.below i y.child
  becomes-so =
      let kept_next : IsKept next = step-kept d (event.Poll moment) kept low in
      let always : next.clock ≤ next.clock = omega arith in
      let lawful : IsLawfulRoot d.tree.device.mtu now (shape drr.node) =
      lawful-with_memory d.tree.device.mtu now (λ u. tt) drr.node
      (lawful-of d.tree.device.mtu now drr.node d.tree.root
      (root-later d.clock now (clock-rises d (event.Poll moment)) d.tree.device.mtu d.tree.root kept.lawful) (found major d drr.node drr.there).there) in
      booked-child (IsAskOf now) classes drr.node.below asks.worked.below i y.child
      (asked-related d.tree.device.mtu now (shape drr.node) asks.worked lawful asks.stage).2
      (ap (λ (q : Node (List Note)). child_for i classes (children q)) asks.is
      ∙ child-is major i classes next next.clock kept_next always k after.node after.there y at)

  -- what was asked, and what became of it
  record AsksChild : Type 0 where
    worked : Worked
    stage_is : (worked ≡ (ask now (shape x.child)).peeked) ⊎ (worked ≡ (ask now (shape x.child)).taken)
    becomes_is : booked history x.child worked ≡ y.child

  module _ (j : ℕ) (granted : grants_to i y.noted ≡ grants_to i x.noted + suc j) where
    noted-grants : grants_to i asks.worked.memory ≡ suc j
    noted-grants =
        let cx = class-node major i d x is in
        let cy = class-node major i next y at in
        let noted_x : drr.node.memory ≡ x.noted =
        ap (λ (q : Node (List Note)). q.memory) (same_Some drr.node cx.node (sym drr.there ∙ cx.there)) ∙ cx.noted in
        let noted_y : after.node.memory ≡ y.noted =
        ap (λ (q : Node (List Note)). q.memory) (same_Some after.node cy.node (sym after.there ∙ cy.there)) ∙ cy.noted in
        let memory : after.node.memory ≡ drr.node.memory ++ asks.worked.memory =
        ap (λ (q : Node (List Note)). q.memory) (sym asks.is) ∙ noted-history drr.node.memory asks.worked.memory in
        omega (
          arith,
          granted,
          ap (grants_to i) memory,
          sum_by-append (granted_by i) drr.node.memory asks.worked.memory,
          ap (grants_to i) noted_x,
          ap (grants_to i) noted_y,
        )

    asks-child : AsksChild
    asks-child = by stage.how
      where
        b : BookedChild (IsAskOf (step history d (event.Poll moment)).device.clock) classes drr.node.below asks.worked.below i y.child
        b = becomes-so

        mine : b.child ≡ x.child
        mine = same_Some b.child x.child (sym b.there ∙ first-child)

        listed : child_for i classes stage.children ≡ Some b.worked
        listed = ap (child_for i classes) (sym (nodes-side stage.children) ∙ ap nodes_in stage.below_is) ∙ b.becomes

        so : (b.worked ≡ (ask (step history d (event.Poll moment)).device.clock (shape x.child)).peeked)
            ⊎ (b.worked ≡ (ask (step history d (event.Poll moment)).device.clock (shape x.child)).taken) → AsksChild
        so which = record {
          worked = b.worked;
          stage_is = which;
          becomes_is = ap (λ (q : Node (List Note)). booked history q b.worked) (sym mine) ∙ b.is;
        }

        looked : is_active i (asked_entries (choice_of
            (head_of drr.schedule (each (ask_own (step history d (event.Poll moment)).device.clock) (shape drr.node).below)) drr.schedule)
            drr.schedule.active) ≡ true
            → child_for i classes (service_of drr.schedule (each (ask_own (step history d (event.Poll moment)).device.clock) (shape drr.node).below)).below ≡ Some b.worked
            → b.worked ≡ (ask (step history d (event.Poll moment)).device.clock (shape x.child)).peeked
        looked active e =
            let entries : List Entry = asked_entries (choice_of (head_of drr.schedule below) drr.schedule) drr.schedule.active in
            looked-peeked i (is_among entries) drr.schedule.classes below b.worked answer
            (λ c here. among-asked i c entries (eqb-true i c.name here) active)
            (ap (λ (cs : List Class). child_for i cs (service_of drr.schedule below).below) drr.same ∙ e)
            (ap (λ (cs : List Class). child_for i cs below) drr.same ∙ answers)

        how : is_active i (asked_entries (choice_of
            (head_of drr.schedule (each (ask_own (step history d (event.Poll moment)).device.clock) (shape drr.node).below)) drr.schedule)
            drr.schedule.active) ≡ true
            → Nothing (step history d (event.Poll moment)).device.clock (shape drr.node).below drr.schedule differ stage.schedule stage.children
            ⊎ Gave (step history d (event.Poll moment)).device.clock (shape drr.node).below drr.schedule differ stage.schedule stage.children → AsksChild
        how active (inl nothing) = so (inl (looked active (ap (child_for i classes) (sym nothing.children) ∙ listed)))
        how active (inr gave) =
            set-so (child-set i classes (service_of drr.schedule below).below gave.place gave.answer.taken b.worked
            (ap (child_for i classes) (sym gave.children) ∙ listed)).which
          where
            set-so : ((place_in i classes ≡ Some gave.place) × (b.worked ≡ gave.answer.taken))
                ⊎ ((child_for i classes (service_of drr.schedule
                (each (ask_own (step history d (event.Poll moment)).device.clock) (shape drr.node).below)).below ≡ Some b.worked)
                × (place_in i classes ≡ Some gave.place → ⊥))
                → AsksChild
            set-so (inl o) =
                let got : child_for i classes below ≡ Some gave.answer =
                sym (child-at i classes below) ∙ ap (option_and_then (slice_get below)) o.0 ∙ gave.there in
                let same : gave.answer ≡ answer = same_Some gave.answer answer (sym got ∙ answers) in
                so (inr (o.1 ∙ ap (λ (a : Asked). a.taken) same))
            set-so (inr o) = so (inl (looked active o.0))

        by : AsWas (step history d (event.Poll moment)).device.clock (shape drr.node).below drr.schedule differ stage.schedule asks.worked stage.children
            ⊎ Served (step history d (event.Poll moment)).device.clock (shape drr.node).below drr.schedule differ stage.schedule asks.worked stage.children → AsksChild
        by (inl as_was) = absurd (omega (arith, as_was.granted i, noted-grants))
        by (inr served) =
            how (granted-asked i j (choice_of (head_of drr.schedule below) drr.schedule) drr.schedule.active (sym (served.granted i) ∙ noted-grants)) served.how

    poll-reaches : DrrShape x.child → reached y.child ≡ bytes_sent x.child.memory + shown_by (step history d (event.Poll moment)).device.clock x
    poll-reaches drr_child =
        let hands = handed now x.child drr_child asks-child.worked asks-child.stage_is in
        omega (arith, ap reached (sym asks-child.becomes_is), booked-sent x.child asks-child.worked, hands)

-- ---- at each event

-- where a class is granted, the drr that is its child hands up what it shows, or holds it
pub grant-reaches : (major i : ℕ) (classes : List Class) (d : DeviceState (List Note)) (e : Event) → IsKept d → IsEvent e → HasClasses major classes d
    → HasClasses major classes (step history d e).device → (x y : ClassAt) → class_in major i d ≡ Some x
    → class_in major i (step history d e).device ≡ Some y → DrrShape x.child → (j : ℕ) → grants_to i y.noted ≡ grants_to i x.noted + suc j
    → reached y.child ≡ bytes_sent x.child.memory + shown_by (step history d e).device.clock x
grant-reaches major i classes d e kept happens h k x y is at drr_child j granted = by e happens k at granted
  where
    quiet : (next : DeviceState (List Note)) → class_in major i next ≡ Some y → (n m : Node (List Note)) → qdisc major d ≡ Some n → qdisc major next ≡ Some m
        → IsQuiet n m → grants_to i y.noted ≡ grants_to i x.noted + suc j → ⊥
    quiet next at n m there here q more =
        let cx = class-node major i d x is in
        let cy = class-node major i next y at in
        let noted_x : n.memory ≡ x.noted = ap (λ (q : Node (List Note)). q.memory) (same_Some n cx.node (sym there ∙ cx.there)) ∙ cx.noted in
        let noted_y : m.memory ≡ y.noted = ap (λ (q : Node (List Note)). q.memory) (same_Some m cy.node (sym here ∙ cy.there)) ∙ cy.noted in
        let none = q.granted i in
        omega (
          arith,
          more,
          none,
          ap (grants_to i) q.memory,
          sum_by-append (granted_by i) n.memory q.notes,
          ap (grants_to i) noted_x,
          ap (grants_to i) noted_y,
        )

    by : (e : Event) → IsEvent e → HasClasses major classes (step history d e).device → class_in major i (step history d e).device ≡ Some y
        → grants_to i y.noted ≡ grants_to i x.noted + suc j → reached y.child ≡ bytes_sent x.child.memory + shown_by (step history d e).device.clock x
    by (event.Poll moment) low k at more = poll-reaches major i classes d moment kept low h k x y is at j more drr_child
    by (event.Arrive p moment) range k at more =
        let next : DeviceState (List Note) = (step history d (event.Arrive p moment)).device in
        let n = drr-node major classes d h in
        let m = drr-node major classes next k in
        absurd (quiet next at n.node m.node n.there m.there
        (put-quiet next.clock p n.node m.node (becomes major d (event.Arrive p moment) n.node m.node kept range n.there m.there)) more)
    by (event.Command c moment) range k at more =
        let next : DeviceState (List Note) = (step history d (event.Command c moment)).device in
        let n = drr-node major classes d h in
        let m = drr-node major classes next k in
        absurd (quiet next at n.node m.node n.there m.there
        (command-quiet next.clock n.node m.node (becomes major d (event.Command c moment) n.node m.node kept range n.there m.there)) more)

-- a qdisc hands up nothing, or what it shows
pub gives-shown : (major : ℕ) (d : DeviceState (List Note)) (e : Event) → IsKept d → IsEvent e → (n m : Node (List Note)) → qdisc major d ≡ Some n
    → qdisc major (step history d e).device ≡ Some m → (bytes_sent m.memory ≡ bytes_sent n.memory)
    ⊎ (bytes_sent m.memory ≡ bytes_sent n.memory + length_held (ask (step history d e).device.clock (shape n)).shown)
gives-shown major d e kept happens n m is at = by e (becomes major d e n m kept happens is at)
  where
    quiet : IsQuiet n m → bytes_sent m.memory ≡ bytes_sent n.memory
    quiet q = let none = q.sent in omega (arith, none, ap bytes_sent q.memory, sum_by-append sent_by n.memory q.notes)

    by : (e : Event) → Becomes (step history d e).device.clock e n m → (bytes_sent m.memory ≡ bytes_sent n.memory)
        ⊎ (bytes_sent m.memory ≡ bytes_sent n.memory + length_held (ask (step history d e).device.clock (shape n)).shown)
    by (event.Arrive p moment) b = inl (quiet (put-quiet (step history d (event.Arrive p moment)).device.clock p n m b))
    by (event.Command c moment) b = inl (quiet (command-quiet (step history d (event.Command c moment)).device.clock n m b))
    by (event.Poll moment) b = staged b.stage
      where
        all : bytes_sent m.memory ≡ bytes_sent n.memory + bytes_sent b.worked.memory
        all = ap (λ (q : Node (List Note)). bytes_sent q.memory) (sym b.is) ∙ ap bytes_sent (noted-history n.memory b.worked.memory)
            ∙ sum_by-append sent_by n.memory b.worked.memory

        staged : IsStageOf (ask (step history d (event.Poll moment)).device.clock (shape n)) b.worked → (bytes_sent m.memory ≡ bytes_sent n.memory)
            ⊎ (bytes_sent m.memory ≡ bytes_sent n.memory + length_held (ask (step history d (event.Poll moment)).device.clock (shape n)).shown)
        staged (inl w) =
            let none = ap (λ (v : Worked). bytes_sent v.memory) w ∙ (ask-gives (step history d (event.Poll moment)).device.clock (shape n)).before in
            inl (omega (arith, all, none))
        staged (inr (inl w)) =
            let none = ap (λ (v : Worked). bytes_sent v.memory) w ∙ (ask-gives (step history d (event.Poll moment)).device.clock (shape n)).peeked in
            inl (omega (arith, all, none))
        staged (inr (inr w)) =
            let given = ap (λ (v : Worked). bytes_sent v.memory) w ∙ (ask-gives (step history d (event.Poll moment)).device.clock (shape n)).taken in
            inr (omega (arith, all, given))
