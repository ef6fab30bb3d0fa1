use Rattle.std.proofs.Common.{◌∙◌, [], ◌∷◌, length, refl, sym, ap, subst, arith}
use Rattle.std.proofs.lemmas.Option.{slice_get-map}
use Rattle.std.specs.Box.{with_value}
use Rattle.std.specs.Vec.{with_items}
use Rattle.q_packet.specs.declared.stamped.Stamped.{Stamped}
use Rattle.q_codel.specs.FifoState.{FifoState}
use Rattle.q_fqcodel.specs.FqState.{FqView}
use Rattle.q_model.specs.Lawful.{CanHold}
use Rattle.q_model.specs.Node as spec
use Rattle.q_tree.specs.departure.AskSteps.{answers, own_of}
use Rattle.q_tree.specs.Seen.{children_seen, discipline_seen, places_seen}
use Rattle.q_tree.specs.declared.node.Discipline.TheVariants as code
use Rattle.q_tree.proofs.counters.Quiet.{signals-nothing}
use Rattle.q_tree.proofs.departure.Peeks.{asked-in, each-of, room-of, own-room, items-are, serve-of}
use Rattle.q_tree.proofs.departure.SendForms.{asked-sent-in, sent-in, prio-left, fifo-sent}
use Rattle.q_tree.proofs.disciplines.HereLemmas.{flow-packets}
use Rattle.q_tree.proofs.disciplines.TakeCounts.{flow-told}
use Rattle.q_tree.proofs.node.Discipline.dequeue.Goals as goal

pub returns-in-Fifo-clause-after : goal.returns-in-Fifo-clause-after
returns-in-Fifo-clause-after g c =
    λ handle filters.
    let left = c.dequeue_head.ensures.rest in
    fifo-sent c.args.now handle filters c.args.self.now (code.Fifo c.dequeue_head.new.fifo) c.in-Fifo.fifo.limit c.in-Fifo.fifo.packets
    c.dequeue_head.result (ap discipline_seen c.in-Fifo.is) (ap children_seen c.in-Fifo.is)
    (ap (λ (f : FifoState). spec.Fifo f.limit f.packets) left) refl (ap (λ (f : FifoState). f.places) left ∙ sym (ap places_seen c.in-Fifo.is))
    (c.dequeue_head.ensures.shown ∙ sym (slice_get-map (λ (s : Stamped). s.packet) c.in-Fifo.fifo.packets 0))
    c.dequeue_head.ensures.dropped c.dequeue_head.ensures.marked

pub returns-in-Fifo-clause-signals : goal.returns-in-Fifo-clause-signals
returns-in-Fifo-clause-signals g c =
    c.requires.clean ∙ sym (signals-nothing c.dequeue_head.result c.dequeue_head.ensures.dropped c.dequeue_head.ensures.marked)

pub dequeue_bands-requires : goal.dequeue_bands-requires
dequeue_bands-requires g c =
    let kids = c.deref_mut.ensures.value ∙ sym (ap children_seen c.in-Prio.is) in
    record {
      ready = each-of c.args.now c.args.self.now c.deref_mut.result.now c.requires.ready kids;
      sink = omega (arith, c.requires.sink, room-of c.args.self.now c.deref_mut.result.now kids);
      clean = c.requires.clean;
    }

pub returns-in-Prio-clause-after : goal.returns-in-Prio-clause-after
returns-in-Prio-clause-after g c =
    λ handle filters.
    let kids = sym (c.deref_mut.ensures.value ∙ sym (ap children_seen c.in-Prio.is)) in
    let bands = c.dequeue_bands.ensures.after (own_of handle filters (spec.Prio c.in-Prio.priomap)) in
    sent-in c.args.now handle filters c.args.self.now (code.Prio c.in-Prio.priomap (with_items c.in-Prio.bands c.dequeue_bands.new.bands))
    (spec.Prio c.in-Prio.priomap) (spec.Prio c.in-Prio.priomap) c.deref_mut.result.now c.dequeue_bands.new.bands c.dequeue_bands.result
    (ap discipline_seen c.in-Prio.is) kids refl
    (items-are c.in-Prio.bands.items c.dequeue_bands.new.bands c.in-Prio.bands.len (sym c.in-Prio.bands.ok.0)
    (bands.long ∙ ap (λ xs. length xs) c.deref_mut.ensures.value))
    (sym (ap places_seen c.in-Prio.is)) (prio-left c.args.now handle filters (answers c.args.now c.deref_mut.result.now) c.in-Prio.priomap) bands

pub returns-in-Tbf-clause-after :
    goal.returns-in-Tbf-clause-after
returns-in-Tbf-clause-after g c = λ handle filters.
    let own = own_of handle filters (spec.Tbf c.in-Tbf.bucket c.in-Tbf.limit) in
    let kids = ap children_seen c.in-Tbf.is ∙ ap (λ x. x ∷ []) (sym c.deref_mut-in-Tbf.ensures.value) in
    asked-sent-in c.args.now handle filters c.args.self.now
    (code.Tbf c.dequeue_child.new.bucket c.in-Tbf.limit (with_value c.in-Tbf.child c.dequeue_child.new.child)) c.dequeue_child.result
    (subst CanHold (sym (ap discipline_seen c.in-Tbf.is)) tt)
    (asked-in c.args.now handle filters c.args.self.now
    (code.Tbf c.dequeue_child.new.bucket c.in-Tbf.limit (with_value c.in-Tbf.child c.dequeue_child.new.child))
    (spec.Tbf c.in-Tbf.bucket c.in-Tbf.limit) (spec.Tbf c.dequeue_child.new.bucket c.in-Tbf.limit) (c.deref_mut-in-Tbf.result.now ∷ [])
    (c.dequeue_child.new.child ∷ []) c.dequeue_child.result
    (ap discipline_seen c.in-Tbf.is) kids refl refl (sym (ap places_seen c.in-Tbf.is)) (c.dequeue_child.ensures.bucket own c.in-Tbf.limit refl) (c.dequeue_child.ensures.after own c.in-Tbf.limit))

pub dequeue_class-requires : goal.dequeue_class-requires
dequeue_class-requires g c =
    let kids = c.deref_mut-in-Drr.ensures.value ∙ sym (ap children_seen c.in-Drr.is) in
    (record {
      ready = serve-of c.args.now c.args.self.now c.in-Drr.active c.deref_mut-in-Drr.result.now c.requires.ready
          (ap discipline_seen c.in-Drr.is) kids;
      sink = omega (arith, c.requires.sink, room-of c.args.self.now c.deref_mut-in-Drr.result.now kids);
      clean = c.requires.clean;
    })

pub returns-in-Drr-clause-after :
    goal.returns-in-Drr-clause-after
returns-in-Drr-clause-after g c = λ handle filters.
    let own = own_of handle filters (spec.Drr c.in-Drr.active) in
    let kids = sym (c.deref_mut-in-Drr.ensures.value ∙ sym (ap children_seen c.in-Drr.is)) in
    asked-sent-in c.args.now handle filters c.args.self.now
    (code.Drr c.dequeue_class.new.active (with_items c.in-Drr.classes c.dequeue_class.new.classes)) c.dequeue_class.result
    (subst CanHold (sym (ap discipline_seen c.in-Drr.is)) tt)
    (asked-in c.args.now handle filters c.args.self.now
    (code.Drr c.dequeue_class.new.active (with_items c.in-Drr.classes c.dequeue_class.new.classes)) (spec.Drr c.in-Drr.active)
    (spec.Drr c.dequeue_class.new.active) c.deref_mut-in-Drr.result.now c.dequeue_class.new.classes c.dequeue_class.result
    (ap discipline_seen c.in-Drr.is) kids refl
    (items-are c.in-Drr.classes.items c.dequeue_class.new.classes c.in-Drr.classes.len (sym c.in-Drr.classes.ok.0)
    ((c.dequeue_class.ensures.served own).asked.long ∙ ap (λ xs. length xs) c.deref_mut-in-Drr.ensures.value))
    (sym (ap places_seen c.in-Drr.is)) (c.dequeue_class.ensures.served own).schedule (c.dequeue_class.ensures.served own).asked)

pub dequeue_flow-requires :
    goal.dequeue_flow-requires
dequeue_flow-requires g c =
    let is = ap discipline_seen c.in-FqCodel.is ∙ ap (λ (q : FqView). spec.FqCodel q.state) (sym c.deref_mut-in-FqCodel.ensures.value) in
    record { sink = omega (arith, c.requires.sink, own-room c.args.self.now, flow-packets c.args.self.now c.deref_mut-in-FqCodel.result.now.state is); clean = c.requires.clean }

pub returns-in-FqCodel-clause-after :
    goal.returns-in-FqCodel-clause-after
returns-in-FqCodel-clause-after g c = λ handle filters.
    let e = c.dequeue_flow.ensures in
    let state = c.deref_mut-in-FqCodel.result.now.state in
    let own = own_of handle filters (spec.FqCodel state) in
    let is = ap discipline_seen c.in-FqCodel.is ∙ ap (λ (q : FqView). spec.FqCodel q.state) (sym c.deref_mut-in-FqCodel.ensures.value) in
    let places = e.places ∙ ap (λ (q : FqView). q.places) c.deref_mut-in-FqCodel.ensures.value ∙ sym (ap places_seen c.in-FqCodel.is) in
    asked-sent-in c.args.now handle filters c.args.self.now (code.FqCodel (with_value c.in-FqCodel.queue c.dequeue_flow.new.queue))
    c.dequeue_flow.result (subst CanHold (sym (ap discipline_seen c.in-FqCodel.is)) tt)
    (asked-in c.args.now handle filters c.args.self.now (code.FqCodel (with_value c.in-FqCodel.queue c.dequeue_flow.new.queue)) (spec.FqCodel state)
    (spec.FqCodel c.dequeue_flow.new.queue.state) [] [] c.dequeue_flow.result
    is (ap children_seen c.in-FqCodel.is) refl refl places (ap spec.FqCodel e.after)
    (record {
      long = refl;
      nodes = refl;
      within = λ t h. h;
      shown = e.shown own [];
      told = flow-told c.args.now state own [] (g.S.Sink.state c.args.sink.now) (g.S.Sink.state c.dequeue_flow.new.sink) e.told;
    }))
