-- A drr that gave nothing meets the same class again, which shows nothing still.
use Rattle.std.proofs.Common.{◌≡◌, ℕ, List, [], ◌∷◌, ◌++◌, length, refl, sym, ap, ap₂, subst, ◌∙◌, Option, Some, None, option_map, option_and_then, flat_map}
use Rattle.std.specs.Prelude.{Bool, true, false, slice_get, unwrap_or, All, set, ◌==◌, ◌||◌}
use Rattle.std.specs.List.{list_any, position}
use Rattle.std.specs.Option.{option_map_or}
use Rattle.std.proofs.lemmas.Bool.{eqb-true, false≢true}
use Rattle.std.proofs.lemmas.Option.{none-some, get_or_from_slice_get}
use Rattle.std.proofs.lemmas.List.Elements.{All-head}
use Rattle.std.proofs.lemmas.List.Quantifiers.{position-Some}
use Rattle.q_packet.specs.Choice.{Choice, choose}
use Rattle.q_packet.specs.Descriptor.{Descriptor}
use Rattle.q_drr.specs.Schedule.{Class, Entry, Schedule, IsEntry, IsLawful, quantum_of}
use Rattle.q_drr.specs.Take.{choice_of, need, needs, prepared, served, met_in}
use Rattle.q_drr.specs.declared.take.Met.{Met}
use Rattle.q_drr.proofs.ServedLemmas.{chosen_is_met}
use Rattle.q_drr.proofs.TakeLemmas.{Front, choice_ready, prepared_ready, prepared_empty, need_at, served_nothing, served_nobody, met_nobody}
use Rattle.q_model.specs.declared.filter.Filter.{Filter}
use Rattle.q_model.specs.Tally.{Note}
use Rattle.q_model.specs.Node.{Drr, Own}
use Rattle.q_model.specs.Beneath.{is_empty}
use Rattle.q_model.specs.Grants.{asked_entries, granted_notes}
use Rattle.q_model.specs.Route.{class_at}
use Rattle.q_model.specs.Work.{Worked, settled_class}
use Rattle.q_model.specs.Ask.{Asked, befores, class_answer, is_among, peeked_classes, length_of, head_of, Service, service_of, place_met, gives_nothing, class_gives, class_serves, ask_drr, since_shown}
use Rattle.q_invariants.proofs.again.SecondClasses.{rises_of, once_more, heads-again, rises-again, looked-again}
use Rattle.q_invariants.proofs.again.SecondPeek.{Repeats, again, AreStable, again-worked, second-by, node, second-dequeued, held_since}
use Rattle.q_invariants.proofs.ask.AskClasses.{peeked_by}
use Rattle.q_invariants.proofs.ask.DrrService.{IsMetAt, met-asked}
use Rattle.q_invariants.proofs.class.Exact.{classes-served}
use Rattle.q_invariants.proofs.edit.EditClasses.{class_known}
use Rattle.q_invariants.proofs.edit.EditClassPlans.{position_of}

-- the length of what the class that is met shows
abbrev head_met : Schedule → List Asked → Option ℕ
head_met s below = option_and_then length_of (option_and_then (slice_get below) (place_met s below))

-- where it shows nothing, nothing is given
nothing-given : (own : Own) (s : Schedule) (below : List Asked) → head_met s below ≡ None
    → ask_drr own below s ≡ gives_nothing own below (service_of s below)
nothing-given own s below e = by (place_met s below) e
  where
    v : Service
    v = service_of s below

    nothing : Asked
    nothing = gives_nothing own below v

    shows : (i : ℕ) (a : Asked) (o : Option Descriptor) → option_map (λ (p : Descriptor). p.len) o ≡ None
        → option_map_or (class_gives own below v i a) o nothing ≡ nothing
    shows i a None e = refl
    shows i a (Some p) e = absurd (none-some p.len (sym e))

    child : (i : ℕ) (o : Option Asked) → option_and_then length_of o ≡ None
        → option_map_or (class_serves own below v i) o nothing ≡ nothing
    child i None e = refl
    child i (Some a) e = shows i a a.shown e

    by : (o : Option ℕ) → option_and_then length_of (option_and_then (slice_get below) o) ≡ None
        → option_map_or (λ i. option_map_or (class_serves own below v i) (slice_get below i) nothing) o nothing ≡ nothing
    by None e = refl
    by (Some i) e = child i (slice_get below i) e

-- the class in front once the schedule is ready
place-front : (s : Schedule) (below : List Asked) (e : Entry) (rest : List Entry)
    → (prepared (head_of s below) s).active ≡ e ∷ rest → place_met s below ≡ class_at e.class s
place-front s below e rest front = ap (λ (es : List Entry). option_and_then (λ (m : Met). class_at m.class s) (met_in (head_of s below) es)) front

module _ (now : ℕ) (handle : Option ℕ) (filters : List Filter) (since : ℕ) (s : Schedule) (below : List Asked) (stable : AreStable now below) (same : length s.classes ≡ length below)
    (lawful : IsLawful (served (head_of s below) s)) where
  abbrev heads : ℕ → Option ℕ
  heads = head_of s below

  -- the schedule that was left, and the entries that were asked
  abbrev left : Schedule
  left = served heads s

  abbrev entries : List Entry
  entries = asked_entries (choice_of heads s) s.active

  -- the children once more, and the heads that they show
  abbrev children : List Asked
  children = once_more now (is_among entries) s.classes below

  abbrev heads_now : ℕ → Option ℕ
  heads_now = head_of left children

  place-left : (n : ℕ) → class_at n left ≡ class_at n s
  place-left n = ap (position (λ (c : Class). n == c.name)) (classes-served heads s)

  heads-same : (n : ℕ) → heads_now n ≡ heads n
  heads-same n = ap (λ (o : Option ℕ). option_and_then length_of (option_and_then (slice_get children) o)) (place-left n) ∙ by (class_at n s)
    where
      by : (o : Option ℕ)
          → option_and_then length_of (option_and_then (slice_get children) o) ≡ option_and_then length_of (option_and_then (slice_get below) o)
      by None = refl
      by (Some i) = heads-again now (is_among entries) s.classes below i same stable

  -- ---- what the second asking comes to

  abbrev serviced : Option Choice → List Entry → Schedule → Service
  serviced o es u = record {
    schedule = u;
    below = peeked_classes left (asked_entries o es) children;
    rises = flat_map (λ (e : Entry). rises_of (class_answer left children e.class)) (asked_entries o es);
    grants = granted_notes o es;
  }

  abbrev quiet_service : Service
  quiet_service = record { schedule = left; below = befores children; rises = []; grants = [] }

  -- nothing at all
  record IsIdle : Type 0 where
    service : service_of left children ≡ quiet_service
    head : head_met left children ≡ None

  looked : (es : List Entry) → ((c : Class) → is_among es c ≡ true → is_among entries c ≡ true)
      → peeked_classes left es children ≡ befores children
  looked es only =
      ap (λ (cs : List Class). peeked_by (is_among es) cs children) (classes-served heads s)
      ∙ looked-again now (is_among entries) (is_among es) only s.classes below same stable

  -- ---- no class is active

  idle-empty : (prepared heads s).active ≡ [] → IsIdle
  idle-empty none =
      let none_left : left.active ≡ [] = ap (λ (t : Schedule). t.active) (sym (served_nobody heads s (prepared heads s) none refl)) ∙ none in
      let ready : prepared heads_now left ≡ left = prepared_empty heads_now left lawful none_left in
      let choice : choice_of heads_now left ≡ None = ap (λ (es : List Entry). choose (needs (λ (n : ℕ). quantum_of n left.classes) heads_now es)) none_left in
      record {
        service =
            ap (λ (o : Option Choice). serviced o left.active (served heads_now left)) choice
            ∙ ap (serviced None left.active) (sym (served_nobody heads_now left left none_left ready))
            ∙ ap (λ (ws : List Worked). record { schedule = left; below = ws; rises = []; grants = [] }) (looked [] (λ c e. absurd (false≢true e)));
        head = ap (λ (o : Option Met). option_and_then length_of (option_and_then (slice_get children) (option_and_then (λ (m : Met). class_at m.class left) o)))
            (sym (met_nobody heads_now left left none_left ready));
      }

  -- ---- a class is met that shows nothing

  module _ (e : Entry) (rest : List Entry) (first : (prepared heads s).active ≡ e ∷ rest) (hidden : heads e.class ≡ None) where
    abbrev front_then : Front e.class (prepared heads s)
    front_then = record { first = e; rest = rest; is = first; class = refl }

    left-ready : left ≡ prepared heads s
    left-ready = sym (served_nothing heads s (prepared heads s) e.class front_then hidden refl)

    list-now : left.active ≡ e ∷ rest
    list-now = ap (λ (t : Schedule). t.active) left-ready ∙ first

    abbrev front_now : Front e.class left
    front_now = record { first = e; rest = rest; is = list-now; class = refl }

    hidden-now : heads_now e.class ≡ None
    hidden-now = heads-same e.class ∙ hidden

    no-need : need (λ (n : ℕ). quantum_of n left.classes) heads_now e ≡ 0
    no-need = need_at heads_now left e.class front_now None hidden-now (λ len some. absurd (none-some len some))

    -- where its class stands among the classes
    abbrev place : ℕ
    place = unwrap_or (class_at e.class left) 0

    class-now : class_at e.class left ≡ Some place
    class-now =
        let entry : IsEntry left.max_len left.classes e =
        All-head (IsEntry left.max_len left.classes) e rest
        (subst (λ (es : List Entry). All (IsEntry left.max_len left.classes) es) list-now lawful.entries) in
        position_of (class_at e.class left) (class_known 0 e.class left ∙ entry.there)

    class-then : class_at e.class s ≡ Some place
    class-then = sym (place-left e.class) ∙ class-now

    was-met : IsMetAt s entries place
    was-met = met-asked s heads (choice_of heads s) place
        (sym (ap (option_and_then (λ (m : Met). class_at m.class s)) (chosen_is_met s heads)) ∙ place-front s below e rest first ∙ class-then)

    own-name : e.class ≡ was-met.class.name
    own-name =
        let d : Class = record { name = 0; quantum = 0 } in
        eqb-true e.class was-met.class.name
        (ap (λ (c : Class). e.class == c.name) (sym (get_or_from_slice_get s.classes place was-met.class d was-met.there))
        ∙ (position-Some (λ (c : Class). e.class == c.name) s.classes place d class-then).1)

    -- its child was asked, as those of that name
    only : (c : Class) → is_among (e ∷ []) c ≡ true → is_among entries c ≡ true
    only c h =
        let name : e.class ≡ c.name = eqb-true e.class c.name (alone (e.class == c.name) h) in
        ap (λ n. list_any (λ (x : Entry). x.class == n) entries) (sym name ∙ own-name) ∙ was-met.asked
      where
        alone : (t : Bool) → (t || false) ≡ true → t ≡ true
        alone true h = refl
        alone false h = h

    idle-hidden : IsIdle
    idle-hidden =
        let ready : prepared heads_now left ≡ left = prepared_ready heads_now left e.class front_now lawful no-need in
        let quiet : rises_of (class_answer left children e.class) ≡ [] =
        ap (λ (o : Option ℕ). rises_of (option_and_then (slice_get children) o)) class-now
        ∙ rises-again now (is_among entries) s.classes below place was-met.class stable was-met.there was-met.asked in
        record {
          service =
              ap (λ (o : Option Choice). serviced o left.active (served heads_now left)) (choice_ready heads_now left e.class front_now no-need)
              ∙ ap (serviced (Some (record { rounds = 0; place = 0 })) left.active) (sym (served_nothing heads_now left left e.class front_now hidden-now ready))
              ∙ ap (λ (es : List Entry). serviced (Some (record { rounds = 0; place = 0 })) es left) list-now
              ∙ ap₂ (λ (ws : List Worked) (notes : List Note). record { schedule = left; below = ws; rises = notes ++ []; grants = [] }) (looked (e ∷ []) only) quiet;
          head =
              ap (λ (o : Option ℕ). option_and_then length_of (option_and_then (slice_get children) o))
              (place-front left children e rest (ap (λ (t : Schedule). t.active) ready ∙ list-now)) ∙ hidden-now;
        }

  -- ---- asked once more

  idle : head_met s below ≡ None → IsIdle
  idle e = by (prepared heads s).active refl
    where
      by : (es : List Entry) → (prepared heads s).active ≡ es → IsIdle
      by [] front = idle-empty front
      by (x ∷ rest) front = idle-hidden x rest front
          (ap (λ (o : Option ℕ). option_and_then length_of (option_and_then (slice_get below) o)) (sym (place-front s below x rest front)) ∙ e)

  abbrev drr : Schedule → Own
  drr t = node now handle filters since (Drr t) None

  -- the same, where it has nothing to hold
  abbrev still : Schedule → Own
  still t = held_since now handle filters since (Drr t) None 0

  second-nothing : head_met s below ≡ None
      → Repeats now (gives_nothing (drr s) below (service_of s below))
  second-nothing e =
      let a : Asked = gives_nothing (drr s) below (service_of s below) in
      let h : IsIdle = idle e in
      second-by now a (again now a.peeked) (gives_nothing (still left) children quiet_service)
      (again-worked now (still left) ((service_of s below).rises ++ (service_of s below).grants) (service_of s below).below
      ∙ nothing-given (still left) left children h.head ∙ ap (gives_nothing (still left) children) h.service)
      (record { shown = refl; rises = refl; peeked = refl })

  pub second-drr : Repeats now (ask_drr (drr s) below s)
  second-drr = by (place_met s below) refl
    where
      v : Service
      v = service_of s below

      P : Asked → Type 0
      P a = Repeats now a

      nothing : Asked
      nothing = gives_nothing (drr s) below v

      head : (o : Option ℕ) → place_met s below ≡ o
          → option_and_then length_of (option_and_then (slice_get below) o) ≡ None → P nothing
      head o e none = second-nothing (ap (λ (x : Option ℕ). option_and_then length_of (option_and_then (slice_get below) x)) e ∙ none)

      shows : (i : ℕ) (a : Asked) → place_met s below ≡ Some i → slice_get below i ≡ Some a → (o : Option Descriptor)
          → a.shown ≡ o → P (option_map_or (class_gives (drr s) below v i a) o nothing)
      shows i a e at None is = head (Some i) e (ap (option_and_then length_of) at ∙ ap (option_map (λ (p : Descriptor). p.len)) is)
      shows i a e at (Some p) is =
          second-dequeued now handle filters since (drr s) below (Drr (settled_class i (is_empty a.taken) v.schedule)) (set v.below i a.taken)
          v.rises v.grants p (since_shown a)

      child : (i : ℕ) → place_met s below ≡ Some i → (o : Option Asked) → slice_get below i ≡ o
          → P (option_map_or (class_serves (drr s) below v i) o nothing)
      child i e None at = head (Some i) e (ap (option_and_then length_of) at)
      child i e (Some a) at = shows i a e at a.shown refl

      by : (o : Option ℕ) → place_met s below ≡ o
          → P (option_map_or (λ i. option_map_or (class_serves (drr s) below v i) (slice_get below i) nothing) o nothing)
      by None e = head None e refl
      by (Some i) e = child i e (slice_get below i) refl
