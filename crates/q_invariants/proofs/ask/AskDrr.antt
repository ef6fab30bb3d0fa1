-- A drr: it asks the classes of its active list in turn, and gives the packet of the one that is met.
use Rattle.std.proofs.Common.{◌≡◌, ℕ, ◌+◌, ◌≤◌, List, map, length, set, refl, sym, ap, subst, Option, Some, None, option_and_then, option_to_list, ◌∙◌, arith}
use Rattle.std.specs.Prelude.{true, ◌==◌, All, is_some, slice_get}
use Rattle.std.specs.List.{position}
use Rattle.std.specs.Option.{option_map_or}
use Rattle.std.proofs.lemmas.List.{map-set, length-map}
use Rattle.q_packet.specs.Descriptor.{Descriptor}
use Rattle.q_drr.specs.Schedule.{Class, Entry, Schedule, is_active}
use Rattle.q_drr.specs.Changes.{HeadsFit}
use Rattle.q_drr.specs.declared.take.Met.{Met}
use Rattle.q_drr.specs.Take.{choice_of}
use Rattle.q_drr.proofs.ServedLemmas.{served_lawful, chosen_is_met}
use Rattle.q_drr.proofs.DifferLemmas.{ClassesDiffer, EntriesDiffer, entries_apart, differ_from_pairs}
use Rattle.q_model.specs.declared.filter.Filter.{Filter}
use Rattle.q_model.specs.Node.{Drr, Own}
use Rattle.q_model.specs.Beneath.{beneath, is_empty}
use Rattle.q_model.specs.Route.{class_at}
use Rattle.q_model.specs.Lawful.{IsLawfulOwn}
use Rattle.q_model.specs.Work.{Worked, settled_class}
use Rattle.q_model.specs.Numbers.{IsMinor}
use Rattle.q_model.specs.Grants.{asked_entries}
use Rattle.q_model.specs.Ask.{Asked, befores, dequeued, is_among, head_of, Service, service_of, place_met, gives_nothing, class_gives, class_serves, ask_drr, since_shown}
use Rattle.q_invariants.specs.Weights.{lost, marked, weigh}
use Rattle.q_invariants.proofs.ask.Answer.{one, IsAnswer, AreAnswers, waiting, is-dequeued}
use Rattle.q_invariants.proofs.ask.AskClasses.{are-looked, exact-looked, taken-at}
use Rattle.q_invariants.proofs.ask.DrrService.{notes-silent, lost-all, marked-all, answer-at, quiet-all, heads-fit, IsMetAt, met-asked, differ-asked}
use Rattle.q_invariants.proofs.class.ClassSums.{picked, picked-entries}
use Rattle.q_invariants.proofs.class.Exact.{AreExact, exact-length, active-served, classes-served, longest-served, settled_schedule, exact-same, exact-settled, settled-at}
use Rattle.q_invariants.proofs.put.DrrSettled.{IsNext, next-settled}
use Rattle.q_invariants.proofs.sums.Lengths.{lengths-among}
use Rattle.q_invariants.proofs.sums.Sums.{in_children, weigh-waiting, weigh-holds, befores-lawful, befores-told}
use Rattle.q_invariants.proofs.sums.Weights.{weigh-nil, weigh-one}

module _ (mtu now : ℕ) (least_mtu : 1 ≤ mtu) (handle : Option ℕ) (filters : List Filter) (since : ℕ) where
  abbrev drr_node : Schedule → Option Descriptor → ℕ → Own
  drr_node s held at = record { handle = handle; discipline = Drr s; held = held; since = at; filters = filters }

  drr-lawful : (s t : Schedule) (held : Option Descriptor) (at : ℕ) (before after : List Worked) → IsNext mtu s t → AreExact (λ n. is_active n t.active) s.classes (map beneath after)
      → ((w : Descriptor → ℕ) → weigh w (option_to_list held) + in_children w after ≤ in_children w before)
      → IsLawfulOwn mtu now (drr_node s None since) (map beneath before) → IsLawfulOwn mtu now (drr_node t held at) (map beneath after)
  drr-lawful s t held at before after next exact fewer h = record {
    discipline = record {
      schedule = next.lawful;
      longest = next.longest;
      minors = subst (All (λ (c : Class). IsMinor c.name)) (sym next.classes) h.discipline.minors;
      exact = subst (λ cs. AreExact (λ n. is_active n t.active) cs (map beneath after)) (sym next.classes) exact;
    };
    lengths = lengths-among mtu (waiting (drr_node s None since) before) (waiting (drr_node t held at) after)
        (λ w. omega (arith, fewer w, weigh-waiting w (drr_node s None since) before, weigh-waiting w (drr_node t held at) after, weigh-nil w)) h.lengths;
    held = λ some. tt;
    filters = h.filters;
    in_order = h.in_order;
    named = subst (λ (cs : List Class). All (λ (f : Filter). is_some (position (λ (c : Class). f.minor == c.name) cs) ≡ true) filters) (sym next.classes) h.named;
  }

  module _ (s : Schedule) (below : List Asked) (h : IsLawfulOwn mtu now (drr_node s None since) (map beneath (befores below))) (all : AreAnswers mtu now below) where
    abbrev heads : ℕ → Option ℕ
    heads = head_of s below

    abbrev entries : List Entry
    entries = asked_entries (choice_of heads s) s.active

    abbrev service : Service
    service = service_of s below

    same : length s.classes ≡ length below
    same =
        omega (
          arith,
          exact-length (λ n. is_active n s.active) s.classes (map beneath (befores below)) h.discipline.exact,
          length-map (befores below)
              beneath,
          length-map below (λ (a : Asked). a.before),
        )

    classes_apart : ClassesDiffer s.classes
    classes_apart = differ_from_pairs (λ (c : Class). c.name) s.classes h.discipline.schedule.classes_differ

    apart : EntriesDiffer entries
    apart = differ-asked (choice_of heads s) s.active (entries_apart s.active h.discipline.schedule.entries_differ)

    next : IsNext mtu s service.schedule
    next = record {
      classes = classes-served heads s;
      lawful = served_lawful s heads h.discipline.schedule (subst (λ n. HeadsFit heads n) (sym h.discipline.longest) (heads-fit mtu now s below all));
      longest = longest-served heads s ∙ h.discipline.longest;
    }

    exact : AreExact (λ n. is_active n service.schedule.active) s.classes (map beneath service.below)
    exact = exact-same (λ n. is_active n s.active) (λ n. is_active n service.schedule.active) s.classes (map beneath service.below) (λ n. active-served n heads s)
        (exact-looked mtu now (is_among entries) (λ n. is_active n s.active) s.classes below all h.discipline.exact)

    losses : (w : Descriptor → ℕ) → lost w service.rises ≡ picked (λ a. lost w a.rises) (is_among entries) s.classes below
    losses w = lost-all w s.classes below entries ∙ sym (picked-entries (λ a. lost w a.rises) entries s.classes below apart classes_apart same)

    marked_by : (w : Descriptor → ℕ) → marked w service.rises ≡ picked (λ a. marked w a.rises) (is_among entries) s.classes below
    marked_by w = marked-all w s.classes below entries ∙ sym (picked-entries (λ a. marked w a.rises) entries s.classes below apart classes_apart same)

    nothing-answers : IsAnswer mtu now (gives_nothing (drr_node s None since) below service)
    nothing-answers =
        let looked = are-looked mtu now (is_among entries) s.classes below same all in
        let after = drr-lawful s service.schedule None 0 (befores below) service.below next exact (λ w. omega (arith, looked.weighs w, weigh-nil w)) h in
        let before_is = λ (w : Descriptor → ℕ). weigh-waiting w (drr_node s None since) (befores below) in
        let after_is = λ (w : Descriptor → ℕ). weigh-waiting w (drr_node service.schedule None 0) service.below in
        is-dequeued mtu now (drr_node s None since) below (record {
          after = drr_node service.schedule None since;
          children = service.below;
          rises = service.rises;
          mine = service.grants;
          packet = None;
          since = 0;
        }) (record {
          handle_peeked = refl;
          handle_taken = refl;
          lawful = h;
          lawful_peeked = after;
          lawful_taken = after;
          all_before = befores-lawful mtu now below all;
          all_peeked = looked.lawful;
          all_taken = looked.lawful;
          told_before = befores-told mtu now below all;
          told_peeked = looked.told;
          told_taken = looked.told;
          quiet = quiet-all mtu now s.classes below entries all;
          peeks = λ w. omega (arith, looked.weighs w, losses w, before_is w, after_is w);
          gives = λ w. omega (arith, weigh-nil w);
          marks = λ w. omega (arith, looked.holds w, losses w, marked_by w, weigh-holds w (drr_node s None since) (befores below), weigh-holds w (drr_node service.schedule None 0) service.below);
          marks_given = λ w. omega (arith, weigh-nil w);
          stays = λ none. omega (arith, before_is one, weigh-nil one, looked.stays (omega (arith, none, after_is one)));
        }) (notes-silent (choice_of heads s) s.active)

    -- the schedule once the class that is met has given its packet
    given-answers : (i : ℕ) (a : Asked) (p : Descriptor) (t : Schedule) (m : IsMetAt s entries i) → slice_get below i ≡ Some a → a.shown ≡ Some p
        → t ≡ settled_schedule (is_empty a.taken) m.class service.schedule
        → IsAnswer mtu now (dequeued (drr_node s None since) below (record {
          after = drr_node t None since;
          children = set service.below i a.taken;
          rises = service.rises;
          mine = service.grants;
          packet = Some p;
          since = since_shown a;
        }))
    given-answers i a p t m at e is =
        let looked = are-looked mtu now (is_among entries) s.classes below same all in
        let taken = taken-at mtu now (is_among entries) s.classes below i a m.class same all m.there at m.asked in
        let answer = answer-at mtu now below i a all at in
        let children : List Worked = set service.below i a.taken in
        let shown : (w : Descriptor → ℕ) → weigh w (option_to_list a.shown) ≡ weigh w (option_to_list (Some p)) = λ w. ap (λ (o : Option Descriptor). weigh w (option_to_list o)) e in
        let fewer : (w : Descriptor → ℕ) → in_children w (befores below) ≡ lost w service.rises + weigh w (option_to_list (Some p)) + in_children w children =
        λ w. omega (arith, looked.weighs w, losses w, taken.weighs w, answer.gives w, shown w) in
        let then : IsNext mtu s t = subst (IsNext mtu s) (sym is) (next-settled mtu s service.schedule (is_empty a.taken) i m.class least_mtu next m.there) in
        let exactly : AreExact (λ n. is_active n t.active) s.classes (map beneath children) =
        subst (λ (x : Schedule). AreExact (λ n. is_active n x.active) s.classes (map beneath children)) (sym is)
        (subst (λ bs. AreExact (λ n. is_active n (settled_schedule (is_empty a.taken) m.class service.schedule).active) s.classes bs) (sym (map-set beneath service.below i a.taken))
        (exact-settled service.schedule s.classes (map beneath service.below) i m.class (beneath a.taken) m.there classes_apart exact)) in
        let before_is = λ (w : Descriptor → ℕ). weigh-waiting w (drr_node s None since) (befores below) in
        let peeked_is = λ (w : Descriptor → ℕ). weigh-waiting w (drr_node t (Some p) (since_shown a)) children in
        let taken_is = λ (w : Descriptor → ℕ). weigh-waiting w (drr_node t None 0) children in
        is-dequeued mtu now (drr_node s None since) below (record {
          after = drr_node t None since;
          children = children;
          rises = service.rises;
          mine = service.grants;
          packet = Some p;
          since = since_shown a;
        }) (record {
          handle_peeked = refl;
          handle_taken = refl;
          lawful = h;
          lawful_peeked = drr-lawful s t (Some p) (since_shown a) (befores below) children then exactly (λ w. omega (arith, fewer w)) h;
          lawful_taken = drr-lawful s t None 0 (befores below) children then exactly (λ w. omega (arith, fewer w, weigh-nil w)) h;
          all_before = befores-lawful mtu now below all;
          all_peeked = taken.lawful;
          all_taken = taken.lawful;
          told_before = befores-told mtu now below all;
          told_peeked = taken.told;
          told_taken = taken.told;
          quiet = quiet-all mtu now s.classes below entries all;
          peeks = λ w. omega (arith, fewer w, before_is w, peeked_is w, weigh-nil w);
          gives = λ w. omega (arith, peeked_is w, taken_is w, weigh-nil w);
          marks = λ w. omega (
            arith,
            looked.holds w,
            losses w,
            marked_by w,
            taken.holds w,
            answer.marks_given w,
            shown w,
            weigh-nil w,
            weigh-holds w (drr_node s None since) (befores below),
            weigh-holds w (drr_node t (Some p) (since_shown a)) children,
          );
          marks_given = λ w. omega (arith, weigh-nil w, weigh-holds w (drr_node t (Some p) (since_shown a)) children, weigh-holds w (drr_node t None 0) children);
          stays = λ none. absurd (omega (arith, none, weigh-one one p, peeked_is one));
        }) (notes-silent (choice_of heads s) s.active)

    serves-answers : (i : ℕ) (a : Asked) (o : Option Descriptor) → IsMetAt s entries i → slice_get below i ≡ Some a → a.shown ≡ o
        → IsAnswer mtu now (option_map_or (class_gives (drr_node s None since) below service i a) o (gives_nothing (drr_node s None since) below service))
    serves-answers i a None m at e = nothing-answers
    serves-answers i a (Some p) m at e =
        given-answers i a p (settled_class i (is_empty a.taken) service.schedule) m at e
        (settled-at i (is_empty a.taken) service.schedule m.class (ap (λ cs. slice_get cs i) next.classes ∙ m.there))

    child-answers : (i : ℕ) (o : Option Asked) → IsMetAt s entries i → slice_get below i ≡ o
        → IsAnswer mtu now (option_map_or (class_serves (drr_node s None since) below service i) o (gives_nothing (drr_node s None since) below service))
    child-answers i None m at = nothing-answers
    child-answers i (Some a) m at = serves-answers i a a.shown m at refl

    place-answers : (o : Option ℕ) → place_met s below ≡ o
        → IsAnswer mtu now (option_map_or (λ i. option_map_or (class_serves (drr_node s None since) below service i) (slice_get below i)
        (gives_nothing (drr_node s None since) below service)) o (gives_nothing (drr_node s None since) below service))
    place-answers None e = nothing-answers
    place-answers (Some i) e =
        child-answers i (slice_get below i)
        (met-asked s heads (choice_of heads s) i
        (sym (ap (option_and_then (λ (m : Met). class_at m.class s)) (chosen_is_met s heads)) ∙ e))
        refl

    pub drr-answers : IsAnswer mtu now (ask_drr (drr_node s None since) below s)
    drr-answers = place-answers (place_met s below) refl
