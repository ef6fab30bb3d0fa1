use Rattle.std.proofs.Common.{◌≡◌, ℕ, ◌<◌, ◌-◌, ◌∙◌, ◌∷◌, List, [], length, refl, sym, ap, subst, arith, rules, Option, Some, option_and_then}
use Rattle.std.specs.Prelude.{if◌then◌else◌, IfOk, OnErr, nat_lt, slice_get, slice_index, true}
use Rattle.std.proofs.lemmas.Option.{slice_get_past, slice_get_read}
use Rattle.std.proofs.lemmas.List.{get_or-set_same}
use Rattle.std.proofs.lemmas.Bool.{false≢true}
use Rattle.std.specs.Option.{option_map_or}
use Rattle.std.specs.Box.{with_value}
use Rattle.std.specs.Vec.{with_item}
use Rattle.q_packet.specs.Cause.{is_refusal}
use Rattle.q_packet.specs.declared.cause.Cause.{Cause}
use Rattle.q_packet.specs.declared.cause.Cause.TheVariants.{NoClass, TooLong}
use Rattle.q_drr.specs.Schedule as drr
use Rattle.q_fqcodel.specs.FqState.{FqView}
use Rattle.q_model.specs.Beneath.{is_empty}
use Rattle.q_model.specs.Filters.{named_class}
use Rattle.q_model.specs.Node as spec
use Rattle.q_model.specs.Node.{Node, shape, side_by_side}
use Rattle.q_model.specs.Put.{put_along}
use Rattle.q_model.specs.Route.{refused, route, through}
use Rattle.q_model.specs.Work.{settled_class, settled_in}
use Rattle.q_tree.specs.arrival.Arrivals.{CanCount}
use Rattle.q_tree.specs.arrival.ArriveSteps.{HasComeIn, IsPlacedIn, way_in}
use Rattle.q_tree.specs.Kept.{Kept}
use Rattle.q_tree.specs.NodeCode.{forest_size}
use Rattle.q_tree.specs.route.Ahead.{ways}
use Rattle.q_tree.specs.Seen.{children_seen, places_seen, discipline_seen}
use Rattle.q_tree.specs.declared.node.Discipline.{Discipline}
use Rattle.q_tree.specs.declared.node.Discipline.TheVariants as code
use Rattle.q_tree.specs.declared.arrival.outcome.Outcome.{Outcome}
use Rattle.q_tree.proofs.arrival.ArrivedNodes.{can-come-in, come-after, come-kept, come-lost, come-told, place-within, placed-after, placed-kept, within-room}
use Rattle.q_tree.proofs.arrival.Arriving.{arrived-as, drr-way, fifo-place, flows-after, flows-place, gone-arrived, gone-in, nobody, on-err, place-below, placed-at, prio-way, refused-in, tbf-way, through-past}
use Rattle.q_tree.proofs.arrival.Puts.{child-packets, is-empty-put}
use Rattle.q_tree.proofs.departure.Peeks.{own-room, room-of}
use Rattle.q_tree.proofs.disciplines.HereLemmas.{flow-packets}
use Rattle.q_tree.proofs.route.ChoosingLemmas.{child-missing, child-there, drr-child, drr-refused, tbf-child, tbf-refused}
use Rattle.q_tree.proofs.route.RouteLemmas.{child-size, children-size}
use Rattle.q_tree.proofs.node.+enqueue.Goals as goal

pub Discipline::enqueue-enqueue_in_fifo-requires-clause-sink : goal.Discipline::enqueue-enqueue_in_fifo-requires-clause-sink
Discipline::enqueue-enqueue_in_fifo-requires-clause-sink g t c = omega (arith, c.requires.sink)

pub Discipline::enqueue-returns-in-Fifo-clause-arrives : goal.Discipline::enqueue-returns-in-Fifo-clause-arrives
Discipline::enqueue-returns-in-Fifo-clause-arrives g t c =
    let e = c.enqueue_in_fifo.ensures.arrives c.args.filters.now in
    record {
      after =
          subst (λ (d : Discipline). IfOk c.enqueue_in_fifo.result
          (λ (o : Outcome). HasComeIn c.args.now c.args.packet.now c.args.filters.now d (code.Fifo c.enqueue_in_fifo.new.fifo) o
          (g.S.Sink.state c.args.sink.now) (g.S.Sink.state c.enqueue_in_fifo.new.sink))) (sym c.in-Fifo.is) e.after;
      same = subst (λ (d : Discipline). OnErr c.enqueue_in_fifo.result (IsPlacedIn d (code.Fifo c.enqueue_in_fifo.new.fifo))) (sym c.in-Fifo.is) e.same;
      not_lost = e.not_lost;
      succeeds = λ h. e.succeeds (fifo-place c.args.packet.now c.args.filters.now c.args.self.now c.in-Fifo.fifo c.in-Fifo.is h);
      lost_is = e.lost_is;
    }

pub Discipline::enqueue-enqueue_in_flows-requires-clause-flow : goal.Discipline::enqueue-enqueue_in_flows-requires-clause-flow
Discipline::enqueue-enqueue_in_flows-requires-clause-flow g t c =
    c.requires.ready.flow c.deref_mut.result.now.state
    (ap discipline_seen c.in-FqCodel.is ∙ ap (λ (q : FqView). spec.FqCodel q.state) (sym c.deref_mut.ensures.value))

pub Discipline::enqueue-enqueue_in_flows-requires-clause-sink : goal.Discipline::enqueue-enqueue_in_flows-requires-clause-sink
Discipline::enqueue-enqueue_in_flows-requires-clause-sink g t c =
    omega (
      arith,
      c.requires.sink,
      flow-packets c.args.self.now c.deref_mut.result.now.state
          (ap discipline_seen c.in-FqCodel.is ∙ ap (λ (q : FqView). spec.FqCodel q.state) (sym c.deref_mut.ensures.value)),
      own-room c.args.self.now,
    )

pub Discipline::enqueue-returns-in-FqCodel-clause-arrives : goal.Discipline::enqueue-returns-in-FqCodel-clause-arrives
Discipline::enqueue-returns-in-FqCodel-clause-arrives g t c =
    let e = c.enqueue_in_flows.ensures in
    let is : discipline_seen c.args.self.now ≡ spec.FqCodel c.deref_mut.result.now.state =
    ap discipline_seen c.in-FqCodel.is ∙ ap (λ (q : FqView). spec.FqCodel q.state) (sym c.deref_mut.ensures.value) in
    let places : places_seen c.args.self.now ≡ c.deref_mut.result.now.places = (ap places_seen c.in-FqCodel.is ∙ ap (λ (q : FqView). q.places) (sym c.deref_mut.ensures.value)) in
    record {
      after =
          flows-after c.args.now c.args.packet.now c.args.filters.now c.args.self.now
          (code.FqCodel (with_value c.in-FqCodel.queue
          (record { state = c.deref_mut.result.now.state; places = c.enqueue_in_flows.new.queue.places })))
          (code.FqCodel (with_value c.in-FqCodel.queue c.enqueue_in_flows.new.queue))
          c.deref_mut.result.now.state c.enqueue_in_flows.new.queue.state c.enqueue_in_flows.new.queue.places c.enqueue_in_flows.result
          (g.S.Sink.state c.args.sink.now) (g.S.Sink.state c.enqueue_in_flows.new.sink)
          is (ap children_seen c.in-FqCodel.is) (omega (arith, places, e.grows)) refl refl refl refl refl refl e.place (λ there. e.stays (omega (arith, there, places)) ∙ sym places) e.put;
      same = search rules;
      not_lost = e.not_lost;
      succeeds = λ h. e.succeeds (flows-place c.args.packet.now c.args.filters.now c.args.self.now c.deref_mut.result.now.state c.deref_mut.result.now.places is places h);
      lost_is = e.lost_is;
    }

pub Discipline::enqueue-enqueue-requires : goal.Discipline::enqueue-enqueue-requires
Discipline::enqueue-enqueue-requires g t c κs within =
    let same : c.args.self.now ≡ code.Prio c.in-Prio-self-2.priomap c.in-Prio-self-2.bands = c.in-Prio.is ∙ c.in-Prio-self-2.is in
    let all : c.len.result ≡ length c.in-Prio-self-2.bands.items =
    omega (
      arith,
      c.len.ensures,
      c.in-Prio-self.bands.ok,
      ap (λ (d : Discipline). length (children_seen d)) (sym c.in-Prio-self.is ∙
          c.in-Prio-self-2.is),
    ) in
    let chosen = child-there c.len.result (option_map_or (λ minor. minor - 1) (named_class c.args.filters.now c.args.packet.now) (slice_index
    c.in-Prio-self.priomap c.args.packet.now.prio)) c.in-Child.place (sym c.in-Child.is ∙ c.choose-choice.ensures) in
    let inside : c.in-Child.place < length c.in-Prio-self-2.bands.items = omega (arith, chosen.1, all) in
    let on : slice_get c.in-Prio-self-2.bands.items c.in-Child.place ≡ Some c.index_mut.result.now = slice_get_read c.in-Prio-self-2.bands.items
    (length c.in-Prio-self-2.bands.items) c.in-Child.place c.index_mut.result.now refl inside c.index_mut.ensures.value in
    let there : slice_get (children_seen c.args.self.now) c.in-Child.place ≡ Some c.index_mut.result.now = ap (λ (d : Discipline). slice_get
    (children_seen d) c.in-Child.place) same ∙ on in (
      omega (
        arith,
        child-size c.in-Prio-self-2.bands.items c.in-Child.place c.index_mut.result.now on,
        ap (λ (d : Discipline). forest_size
            (side_by_side (children_seen d))) same,
        c.decreases,
      ),
      (
        within,
        (
          c.requires.ready.child c.in-Child.place c.index_mut.result.now there,
          (
            omega (
              arith,
              c.requires.sink,
              child-packets (children_seen c.args.self.now) c.in-Child.place c.index_mut.result.now there,
              room-of
                  c.args.self.now (children_seen c.args.self.now) refl,
            ),
            c.requires.clean,
          ),
        ),
      ),
    )

pub Discipline::enqueue-returns-in-Child-clause-arrives : goal.Discipline::enqueue-returns-in-Child-clause-arrives
Discipline::enqueue-returns-in-Child-clause-arrives g t c =
    let same : c.args.self.now ≡ code.Prio c.in-Prio-self-2.priomap c.in-Prio-self-2.bands = c.in-Prio.is ∙ c.in-Prio-self-2.is in
    let all : c.len.result ≡ length c.in-Prio-self-2.bands.items =
    omega (
      arith,
      c.len.ensures,
      c.in-Prio-self.bands.ok,
      ap (λ (d : Discipline). length (children_seen d)) (sym c.in-Prio-self.is ∙
          c.in-Prio-self-2.is),
    ) in
    let chosen = child-there c.len.result (option_map_or (λ minor. minor - 1) (named_class c.args.filters.now c.args.packet.now) (slice_index
    c.in-Prio-self.priomap c.args.packet.now.prio)) c.in-Child.place (sym c.in-Child.is ∙ c.choose-choice.ensures) in
    let inside : c.in-Child.place < length c.in-Prio-self-2.bands.items = omega (arith, chosen.1, all) in
    let to : way_in c.args.packet.now c.args.filters.now c.args.self.now ≡ through (ways c.args.packet.now c.in-Prio-self-2.bands.items)
    c.in-Child.place =
    prio-way c.args.packet.now c.args.filters.now c.args.self.now c.in-Prio-self.priomap c.in-Prio-self-2.bands.items c.in-Child.place (ap
    discipline_seen (c.in-Prio.is ∙ c.in-Prio-self.is)) (ap children_seen same) chosen.0 in
    gone-arrived c.args.now c.args.packet.now c.args.filters.now c.args.self.now c.in-Prio-self-2.bands.items c.in-Child.place c.index_mut.result.now
    c.enqueue.new.self (ap children_seen same) inside c.index_mut.ensures.value to
    (λ m. code.Prio c.in-Prio-self-2.priomap (with_item c.in-Prio-self-2.bands c.in-Child.place m)) (λ m. refl) (λ m. sym (ap discipline_seen same))
    (λ m. sym (ap places_seen same)) (λ b. sym (ap (λ (d : Discipline). settled_in c.in-Child.place b (discipline_seen d)) same)) c.enqueue.result
    c.enqueue.new.lost (g.S.Sink.state c.args.sink.now) (g.S.Sink.state c.enqueue.new.sink) c.enqueue.ensures.arrives c.enqueue.ensures.told

pub Discipline::enqueue-returns-in-Refused-clause-arrives : goal.Discipline::enqueue-returns-in-Refused-clause-arrives
Discipline::enqueue-returns-in-Refused-clause-arrives g t c =
    let same : c.args.self.now ≡ code.Prio c.in-Prio-self-2.priomap c.in-Prio-self-2.bands = c.in-Prio.is ∙ c.in-Prio-self-2.is in
    let all : c.len.result ≡ length c.in-Prio-self-2.bands.items =
    omega (
      arith,
      c.len.ensures,
      c.in-Prio-self.bands.ok,
      ap (λ (d : Discipline). length (children_seen d)) (sym c.in-Prio-self.is ∙
          c.in-Prio-self-2.is),
    ) in
    let why = child-missing c.len.result (option_map_or (λ minor. minor - 1) (named_class c.args.filters.now c.args.packet.now) (slice_index
    c.in-Prio-self.priomap c.args.packet.now.prio)) c.in-Refused.cause (sym c.in-Refused.is ∙ c.choose-choice.ensures) in
    let to : way_in c.args.packet.now c.args.filters.now c.args.self.now ≡ refused c.in-Refused.cause =
    prio-way c.args.packet.now c.args.filters.now c.args.self.now c.in-Prio-self.priomap c.in-Prio-self-2.bands.items (option_map_or (λ minor.
    minor - 1) (named_class c.args.filters.now c.args.packet.now) (slice_index c.in-Prio-self.priomap c.args.packet.now.prio)) (ap
    discipline_seen (c.in-Prio.is ∙ c.in-Prio-self.is)) (ap children_seen same) refl
    ∙ through-past c.args.packet.now c.in-Prio-self-2.bands.items (option_map_or (λ minor. minor - 1) (named_class c.args.filters.now
    c.args.packet.now) (slice_index c.in-Prio-self.priomap c.args.packet.now.prio)) (slice_get_past c.in-Prio-self-2.bands.items (option_map_or
    (λ minor. minor - 1) (named_class c.args.filters.now c.args.packet.now) (slice_index c.in-Prio-self.priomap c.args.packet.now.prio)) (omega
    (arith, why.1, all))) ∙ ap refused (sym why.0) in
    arrived-as c.refuse.result
    (subst (λ (d : Discipline). HasComeIn c.args.now c.args.packet.now c.args.filters.now c.args.self.now d c.refuse.result (g.S.Sink.state c.args.sink.now) (g.S.Sink.state c.refuse.new.sink)) same
    (refused-in c.args.now c.args.packet.now c.in-Refused.cause c.args.filters.now c.args.self.now c.refuse.result (g.S.Sink.state c.args.sink.now)
    (g.S.Sink.state c.refuse.new.sink) (subst (λ (x : Cause). is_refusal x ≡
    true) (sym why.0) refl) to _ refl c.refuse.ensures.outcome c.refuse.ensures.told)) c.refuse.ensures.lost_is

pub Discipline::enqueue-enqueue-requires-in-Child-choose : goal.Discipline::enqueue-enqueue-requires-in-Child-choose
Discipline::enqueue-enqueue-requires-in-Child-choose g t c κs within =
    let kids : children_seen c.args.self.now ≡ c.deref_mut-in-Child-choose.result.now ∷ [] = ap children_seen c.in-Tbf.is ∙ ap (λ (x : Node Kept). x
    ∷ []) (sym c.deref_mut-in-Child-choose.ensures.value) in
    let on : slice_get (c.deref_mut-in-Child-choose.result.now ∷ []) 0 ≡ Some c.deref_mut-in-Child-choose.result.now = slice_get_read
    (c.deref_mut-in-Child-choose.result.now ∷ []) (length (c.deref_mut-in-Child-choose.result.now ∷ [])) 0 c.deref_mut-in-Child-choose.result.now
    refl (omega arith) refl in
    let there : slice_get (children_seen c.args.self.now) 0 ≡ Some c.deref_mut-in-Child-choose.result.now = ap (λ xs. slice_get xs 0) kids ∙ on in (
      omega (
        arith,
        child-size (c.deref_mut-in-Child-choose.result.now ∷ []) 0 c.deref_mut-in-Child-choose.result.now on,
        ap (λ (ns : List (Node
            Kept)). forest_size (side_by_side ns)) kids,
        c.decreases,
      ),
      (
        within,
        (
          c.requires.ready.child 0 c.deref_mut-in-Child-choose.result.now there,
          (
            omega (
              arith,
              c.requires.sink,
              child-packets (children_seen c.args.self.now) 0 c.deref_mut-in-Child-choose.result.now there,
              room-of
                  c.args.self.now (children_seen c.args.self.now) refl,
            ),
            c.requires.clean,
          ),
        ),
      ),
    )

pub Discipline::enqueue-returns-in-Child-choose-clause-arrives : goal.Discipline::enqueue-returns-in-Child-choose-clause-arrives
Discipline::enqueue-returns-in-Child-choose-clause-arrives g t c =
    let kids : children_seen c.args.self.now ≡ c.deref_mut-in-Child-choose.result.now ∷ [] = ap children_seen c.in-Tbf.is ∙ ap (λ (x : Node Kept). x
    ∷ []) (sym c.deref_mut-in-Child-choose.ensures.value) in
    let to : way_in c.args.packet.now c.args.filters.now c.args.self.now ≡ through (ways c.args.packet.now (c.deref_mut-in-Child-choose.result.now ∷
    [])) 0 =
    tbf-way c.args.packet.now c.args.filters.now c.args.self.now c.in-Tbf.bucket c.in-Tbf.limit (c.deref_mut-in-Child-choose.result.now ∷ [])
    (ap discipline_seen c.in-Tbf.is) kids
    ∙ ap (λ b. if b then refused TooLong else through (ways c.args.packet.now (c.deref_mut-in-Child-choose.result.now ∷ [])) 0) (tbf-child
    (nat_lt c.in-Tbf.bucket.burst c.args.packet.now.len) c.in-Child-choose.field-0 (sym c.in-Child-choose.is ∙ c.choose.ensures)) in
    gone-arrived c.args.now c.args.packet.now c.args.filters.now c.args.self.now (c.deref_mut-in-Child-choose.result.now ∷ []) 0
    c.deref_mut-in-Child-choose.result.now c.enqueue-in-Child-choose.new.self kids (omega arith) refl to
    (λ m. code.Tbf c.in-Tbf.bucket c.in-Tbf.limit (with_value c.in-Tbf.child m)) (λ m. refl) (λ m. sym (ap discipline_seen c.in-Tbf.is))
    (λ m. sym (ap places_seen c.in-Tbf.is)) (λ b. sym (ap (λ (d : Discipline). settled_in 0 b (discipline_seen d)) c.in-Tbf.is))
    c.enqueue-in-Child-choose.result c.enqueue-in-Child-choose.new.lost (g.S.Sink.state c.args.sink.now)
    (g.S.Sink.state c.enqueue-in-Child-choose.new.sink) c.enqueue-in-Child-choose.ensures.arrives c.enqueue-in-Child-choose.ensures.told

pub Discipline::enqueue-returns-in-Refused-choose-clause-arrives : goal.Discipline::enqueue-returns-in-Refused-choose-clause-arrives
Discipline::enqueue-returns-in-Refused-choose-clause-arrives g t c =
    let why = tbf-refused (nat_lt c.in-Tbf.bucket.burst c.args.packet.now.len) c.in-Refused-choose.cause (sym c.in-Refused-choose.is ∙
    c.choose.ensures) in
    let to : way_in c.args.packet.now c.args.filters.now c.args.self.now ≡ refused c.in-Refused-choose.cause =
    tbf-way c.args.packet.now c.args.filters.now c.args.self.now c.in-Tbf.bucket c.in-Tbf.limit (children_seen c.args.self.now) (ap
    discipline_seen c.in-Tbf.is) refl
    ∙ ap (λ b. if b then refused TooLong else through (ways c.args.packet.now (children_seen c.args.self.now)) 0) why.0 ∙ ap refused (sym why.1)
    in
    arrived-as c.refuse-in-Refused-choose.result
    (subst (λ (d : Discipline). HasComeIn c.args.now c.args.packet.now c.args.filters.now c.args.self.now d c.refuse-in-Refused-choose.result
    (g.S.Sink.state c.args.sink.now) (g.S.Sink.state c.refuse-in-Refused-choose.new.sink)) c.in-Tbf.is
    (refused-in c.args.now c.args.packet.now c.in-Refused-choose.cause c.args.filters.now c.args.self.now c.refuse-in-Refused-choose.result
    (g.S.Sink.state c.args.sink.now) (g.S.Sink.state c.refuse-in-Refused-choose.new.sink) (subst (λ (x : Cause). is_refusal x ≡ true) (sym why.1) refl) to _ refl
    c.refuse-in-Refused-choose.ensures.outcome c.refuse-in-Refused-choose.ensures.told)) c.refuse-in-Refused-choose.ensures.lost_is

pub Discipline::enqueue-enqueue-requires-in-Child-choose-2 : goal.Discipline::enqueue-enqueue-requires-in-Child-choose-2
Discipline::enqueue-enqueue-requires-in-Child-choose-2 g t c κs within =
    let all : c.len-in-Drr.result ≡ length c.in-Drr.classes.items = omega (arith, c.len-in-Drr.ensures, c.in-Drr.classes.ok) in
    let chosen = drr-child c.len-in-Drr.result c.in-Child-choose-2.place (option_and_then (λ minor. drr.place_of minor c.in-Drr.active.classes)
    (named_class c.args.filters.now c.args.packet.now)) (sym c.in-Child-choose-2.is ∙ c.choose-in-Drr.ensures) in
    let inside : c.in-Child-choose-2.place < length c.in-Drr.classes.items = omega (arith, chosen.1, all) in
    let on : slice_get c.in-Drr.classes.items c.in-Child-choose-2.place ≡ Some c.index_mut-in-Child-choose-2.result.now = slice_get_read
    c.in-Drr.classes.items (length c.in-Drr.classes.items) c.in-Child-choose-2.place c.index_mut-in-Child-choose-2.result.now refl inside
    c.index_mut-in-Child-choose-2.ensures.value in
    let there : slice_get (children_seen c.args.self.now) c.in-Child-choose-2.place ≡ Some c.index_mut-in-Child-choose-2.result.now = ap (λ xs.
    slice_get xs c.in-Child-choose-2.place) (ap children_seen c.in-Drr.is) ∙ on in (
      omega (
        arith,
        child-size c.in-Drr.classes.items c.in-Child-choose-2.place c.index_mut-in-Child-choose-2.result.now on,
        ap (λ (ns : List (Node
            Kept)). forest_size (side_by_side ns)) (ap children_seen c.in-Drr.is),
        c.decreases,
      ),
      (
        within,
        (
          c.requires.ready.child c.in-Child-choose-2.place c.index_mut-in-Child-choose-2.result.now there,
          (
            omega (
              arith,
              c.requires.sink,
              child-packets (children_seen c.args.self.now) c.in-Child-choose-2.place
                  c.index_mut-in-Child-choose-2.result.now there,
              room-of c.args.self.now (children_seen c.args.self.now) refl,
            ),
            c.requires.clean,
          ),
        ),
      ),
    )

pub Discipline::enqueue-returns-in_err-outcome-in-Child-choose-2-clause-arrives : goal.Discipline::enqueue-returns-in_err-outcome-in-Child-choose-2-clause-arrives
Discipline::enqueue-returns-in_err-outcome-in-Child-choose-2-clause-arrives g t c =
    let all : c.len-in-Drr.result ≡ length c.in-Drr.classes.items = omega (arith, c.len-in-Drr.ensures, c.in-Drr.classes.ok) in
    let chosen = drr-child c.len-in-Drr.result c.in-Child-choose-2.place (option_and_then (λ minor. drr.place_of minor c.in-Drr.active.classes)
    (named_class c.args.filters.now c.args.packet.now)) (sym c.in-Child-choose-2.is ∙ c.choose-in-Drr.ensures) in
    let inside : c.in-Child-choose-2.place < length c.in-Drr.classes.items = omega (arith, chosen.1, all) in
    let to : way_in c.args.packet.now c.args.filters.now c.args.self.now ≡ through (ways c.args.packet.now c.in-Drr.classes.items)
    c.in-Child-choose-2.place =
    drr-way c.args.packet.now c.args.filters.now c.args.self.now c.in-Drr.active c.in-Drr.classes.items (option_and_then (λ minor. drr.place_of
    minor c.in-Drr.active.classes) (named_class c.args.filters.now c.args.packet.now)) (ap discipline_seen c.in-Drr.is) (ap children_seen
    c.in-Drr.is) refl
    ∙ ap (λ (o : Option ℕ). option_map_or (through (ways c.args.packet.now c.in-Drr.classes.items)) o (refused NoClass)) chosen.0 in
    record {
      after = search rules;
      same =
          on-err c.from_residual.result (placed-at c.args.self.now (code.Drr c.in-Drr.active (with_item c.in-Drr.classes c.in-Child-choose-2.place
          c.enqueue-in-Child-choose-2.new.self)) c.in-Drr.classes.items c.in-Child-choose-2.place c.index_mut-in-Child-choose-2.result.now
          c.enqueue-in-Child-choose-2.new.self (ap children_seen c.in-Drr.is) c.index_mut-in-Child-choose-2.ensures.value
          c.in_err-outcome-in-Child-choose-2.ensures.arrives.same refl (sym (ap discipline_seen c.in-Drr.is)) (sym (ap places_seen c.in-Drr.is)));
      not_lost = search rules;
      succeeds =
          λ h. absurd (false≢true (c.in_err-outcome-in-Child-choose-2.ensures.arrives.succeeds (place-below c.args.now c.args.packet.now c.args.filters.now
          c.args.self.now c.args.self.now (code.Drr c.in-Drr.active (with_item c.in-Drr.classes c.in-Child-choose-2.place
          c.enqueue-in-Child-choose-2.new.self)) c.in-Drr.classes.items c.in-Child-choose-2.place c.index_mut-in-Child-choose-2.result.now
          c.enqueue-in-Child-choose-2.new.self nobody (ap children_seen c.in-Drr.is) inside c.index_mut-in-Child-choose-2.ensures.value to h)));
      lost_is = search rules;
    }

pub Discipline::enqueue-returns-in-Child-choose-2-clause-arrives : goal.Discipline::enqueue-returns-in-Child-choose-2-clause-arrives
Discipline::enqueue-returns-in-Child-choose-2-clause-arrives g t c =
    let all : c.len-in-Drr.result ≡ length c.in-Drr.classes.items = omega (arith, c.len-in-Drr.ensures, c.in-Drr.classes.ok) in
    let chosen = drr-child c.len-in-Drr.result c.in-Child-choose-2.place (option_and_then (λ minor. drr.place_of minor c.in-Drr.active.classes)
    (named_class c.args.filters.now c.args.packet.now)) (sym c.in-Child-choose-2.is ∙ c.choose-in-Drr.ensures) in
    let inside : c.in-Child-choose-2.place < length c.in-Drr.classes.items = omega (arith, chosen.1, all) in
    let to : way_in c.args.packet.now c.args.filters.now c.args.self.now ≡ through (ways c.args.packet.now c.in-Drr.classes.items)
    c.in-Child-choose-2.place =
    drr-way c.args.packet.now c.args.filters.now c.args.self.now c.in-Drr.active c.in-Drr.classes.items (option_and_then (λ minor. drr.place_of
    minor c.in-Drr.active.classes) (named_class c.args.filters.now c.args.packet.now)) (ap discipline_seen c.in-Drr.is) (ap children_seen
    c.in-Drr.is) refl
    ∙ ap (λ (o : Option ℕ). option_map_or (through (ways c.args.packet.now c.in-Drr.classes.items)) o (refused NoClass)) chosen.0 in
    let h = c.in_ok-outcome-in-Child-choose-2.ensures.arrives.after in
    let stored : c.index.result.now ≡ c.enqueue-in-Child-choose-2.new.self = c.index.ensures ∙ get_or-set_same c.in-Drr.classes.items
    c.in-Child-choose-2.place c.enqueue-in-Child-choose-2.new.self c.index.result.now inside in
    let emptied = c.is_empty.ensures ∙ ap (λ (n : Node Kept). is_empty n) (stored ∙ h.becomes) ∙ is-empty-put c.args.now c.args.packet.now (route
    c.args.packet.now c.index_mut-in-Child-choose-2.result.now).path (route c.args.packet.now c.index_mut-in-Child-choose-2.result.now).refusal
    h.placed h.can in
    arrived-as c.in_ok-outcome-in-Child-choose-2.outcome
    (gone-in c.args.now c.args.packet.now c.args.filters.now c.args.self.now (code.Drr c.in-Drr.active (with_item c.in-Drr.classes
    c.in-Child-choose-2.place h.placed)) (code.Drr c.settle.new.active (with_item c.in-Drr.classes c.in-Child-choose-2.place
    c.enqueue-in-Child-choose-2.new.self)) c.in-Drr.classes.items c.in-Child-choose-2.place c.index_mut-in-Child-choose-2.result.now
    c.enqueue-in-Child-choose-2.new.self c.in_ok-outcome-in-Child-choose-2.outcome
    (ap children_seen c.in-Drr.is) inside c.index_mut-in-Child-choose-2.ensures.value to h refl (sym (ap discipline_seen c.in-Drr.is)) (sym (ap
    places_seen c.in-Drr.is)) refl (sym (ap places_seen c.in-Drr.is))
    (ap spec.Drr (c.settle.ensures ∙ ap (λ b. settled_class c.in-Child-choose-2.place b c.in-Drr.active) emptied) ∙ sym (ap (λ (d : Discipline).
    settled_in c.in-Child-choose-2.place (is_empty (put_along c.args.now c.args.packet.now (route c.args.packet.now
    c.index_mut-in-Child-choose-2.result.now).refusal (route c.args.packet.now c.index_mut-in-Child-choose-2.result.now).path (shape
    h.placed)).node) (discipline_seen d)) c.in-Drr.is))
    (g.S.Sink.state c.args.sink.now) (g.S.Sink.state c.enqueue-in-Child-choose-2.new.sink) c.in_ok-outcome-in-Child-choose-2.ensures.told)
    c.in_ok-outcome-in-Child-choose-2.ensures.arrives.lost_is

pub Discipline::enqueue-returns-in-Refused-choose-2-clause-arrives : goal.Discipline::enqueue-returns-in-Refused-choose-2-clause-arrives
Discipline::enqueue-returns-in-Refused-choose-2-clause-arrives g t c =
    let all : c.len-in-Drr.result ≡ length c.in-Drr.classes.items = omega (arith, c.len-in-Drr.ensures, c.in-Drr.classes.ok) in
    let why = drr-refused c.args.packet.now c.in-Drr.classes.items c.len-in-Drr.result c.in-Refused-choose-2.cause (option_and_then (λ minor.
    drr.place_of minor c.in-Drr.active.classes) (named_class c.args.filters.now c.args.packet.now)) all (sym c.in-Refused-choose-2.is ∙
    c.choose-in-Drr.ensures) in
    let to : way_in c.args.packet.now c.args.filters.now c.args.self.now ≡ refused c.in-Refused-choose-2.cause =
    drr-way c.args.packet.now c.args.filters.now c.args.self.now c.in-Drr.active c.in-Drr.classes.items (option_and_then (λ minor. drr.place_of
    minor c.in-Drr.active.classes) (named_class c.args.filters.now c.args.packet.now)) (ap discipline_seen c.in-Drr.is) (ap children_seen
    c.in-Drr.is) refl
    ∙ why.1 ∙ ap refused (sym why.0) in
    arrived-as c.refuse-in-Refused-choose-2.result
    (subst (λ (d : Discipline). HasComeIn c.args.now c.args.packet.now c.args.filters.now c.args.self.now d c.refuse-in-Refused-choose-2.result
    (g.S.Sink.state c.args.sink.now) (g.S.Sink.state c.refuse-in-Refused-choose-2.new.sink)) c.in-Drr.is
    (refused-in c.args.now c.args.packet.now c.in-Refused-choose-2.cause c.args.filters.now c.args.self.now c.refuse-in-Refused-choose-2.result
    (g.S.Sink.state c.args.sink.now) (g.S.Sink.state c.refuse-in-Refused-choose-2.new.sink) (subst (λ (x : Cause). is_refusal x ≡ true) (sym why.0) refl) to _ refl
    c.refuse-in-Refused-choose-2.ensures.outcome c.refuse-in-Refused-choose-2.ensures.told)) c.refuse-in-Refused-choose-2.ensures.lost_is

pub Node::enqueue_further-enqueue-requires : goal.Node::enqueue_further-enqueue-requires
Node::enqueue_further-enqueue-requires g t c κs within = (
  omega (arith, children-size c.self.inside c.args.self.now (children_seen c.self.inside.discipline) c.self.view_is refl, c.decreases),
  (
    within,
    (
      can-come-in c.args.now c.args.packet.now c.self.inside c.args.self.now c.self.invariant c.self.view_is c.requires.ready,
      (omega (arith, c.requires.sink, within-room c.self.inside c.args.self.now c.self.view_is), c.requires.clean),
    ),
  ),
)

pub Node::enqueue_further-invariant_of-self : goal.Node::enqueue_further-invariant_of-self
Node::enqueue_further-invariant_of-self g t c = placed-kept c.self.inside c.args.self.now c.self.invariant c.self.view_is c.enqueue.new.self c.in_err-outcome.ensures.arrives.same

pub Node::enqueue_further-returns-in_err-outcome-clause-arrives : goal.Node::enqueue_further-returns-in_err-outcome-clause-arrives
Node::enqueue_further-returns-in_err-outcome-clause-arrives g t c =
    let e = c.in_err-outcome.ensures.arrives in
    record {
      after = search rules;
      same = on-err c.from_residual.result (placed-after c.self.inside c.args.self.now c.self.invariant c.self.view_is c.enqueue.new.self e.same);
      not_lost = search rules;
      succeeds =
          λ h. absurd (false≢true (e.succeeds
          (place-within c.args.now c.args.packet.now c.self.inside c.args.self.now c.self.invariant c.self.view_is c.requires.ready c.self.inside.filters
          refl h)));
      lost_is = search rules;
    }

pub Node::enqueue_further-book_arrival-requires-clause-room : goal.Node::enqueue_further-book_arrival-requires-clause-room
Node::enqueue_further-book_arrival-requires-clause-room g t c = subst (λ (m : Node Kept). CanCount m.memory.counts.arrived c.args.packet.now) (sym c.self.view_is) c.requires.ready.counts

pub Node::enqueue_further-book_arrival-requires-clause-lost : goal.Node::enqueue_further-book_arrival-requires-clause-lost
Node::enqueue_further-book_arrival-requires-clause-lost g t c =
    come-lost c.args.now c.args.packet.now c.self.inside c.args.self.now c.self.invariant c.self.view_is c.requires.ready c.self.inside.filters refl
    c.enqueue.new.self c.in_ok-outcome.outcome (g.S.Sink.state c.args.sink.now) (g.S.Sink.state c.enqueue.new.sink) c.in_ok-outcome.ensures.arrives.after

pub Node::enqueue_further-invariant_of-self-2 : goal.Node::enqueue_further-invariant_of-self-2
Node::enqueue_further-invariant_of-self-2 g t c =
    come-kept c.args.now c.args.packet.now c.self.inside c.args.self.now c.self.invariant c.self.view_is c.requires.ready c.self.inside.filters refl
    c.enqueue.new.self c.in_ok-outcome.outcome (g.S.Sink.state c.args.sink.now) (g.S.Sink.state c.enqueue.new.sink) c.in_ok-outcome.ensures.arrives.after
    c.book_arrival.new.row c.book_arrival.ensures

pub Node::enqueue_further-returns-clause-arrives : goal.Node::enqueue_further-returns-clause-arrives
Node::enqueue_further-returns-clause-arrives g t c =
    arrived-as c.in_ok-outcome.outcome
    (come-after c.args.now c.args.packet.now c.self.inside c.args.self.now c.self.invariant c.self.view_is c.requires.ready c.self.inside.filters refl
    c.enqueue.new.self c.in_ok-outcome.outcome (g.S.Sink.state c.args.sink.now) (g.S.Sink.state c.enqueue.new.sink) c.in_ok-outcome.ensures.arrives.after
    c.book_arrival.new.row c.book_arrival.ensures)
    (search rules)

pub Node::enqueue_further-returns-clause-told : goal.Node::enqueue_further-returns-clause-told
Node::enqueue_further-returns-clause-told g t c =
    come-told c.args.now c.args.packet.now c.self.inside c.args.self.now c.self.invariant c.self.view_is c.requires.ready c.self.inside.filters refl
    c.enqueue.new.self c.in_ok-outcome.outcome (g.S.Sink.state c.args.sink.now) (g.S.Sink.state c.enqueue.new.sink) c.in_ok-outcome.ensures.arrives.after
