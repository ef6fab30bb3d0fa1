use Rattle.std.proofs.Common.{◌≡◌, ℕ, ◌<◌, ◌-◌, ◌∙◌, ◌∷◌, List, [], length, refl, sym, ap, arith, Option, Some, option_and_then}
use Rattle.std.specs.Prelude.{slice_get, slice_index}
use Rattle.std.proofs.lemmas.Option.{slice_get_read}
use Rattle.std.proofs.lemmas.List.{get_or-set_same}
use Rattle.std.specs.Option.{option_map_or}
use Rattle.std.specs.Vec.{with_item}
use Rattle.q_packet.specs.declared.cause.Cause.TheVariants.{NoClass}
use Rattle.q_drr.specs.Schedule as drr
use Rattle.q_model.specs.Beneath.{is_empty}
use Rattle.q_model.specs.Filters.{named_class}
use Rattle.q_model.specs.Node as spec
use Rattle.q_model.specs.Node.{Node, shape, side_by_side}
use Rattle.q_model.specs.Put.{put_along}
use Rattle.q_model.specs.Route.{refused, route, through}
use Rattle.q_model.specs.Work.{settled_class, settled_in}
use Rattle.q_tree.specs.arrival.ArriveSteps.{way_in}
use Rattle.q_tree.specs.Kept.{Kept}
use Rattle.q_tree.specs.NodeCode.{forest_size}
use Rattle.q_tree.specs.route.Ahead.{ways}
use Rattle.q_tree.specs.Seen.{children_seen, discipline_seen, places_seen}
use Rattle.q_tree.specs.declared.node.Discipline.{Discipline}
use Rattle.q_tree.specs.declared.node.Discipline.TheVariants as code
use Rattle.q_tree.proofs.arrival.ArrivedNodes.{can-come-in}
use Rattle.q_tree.proofs.arrival.Arriving.{drr-way, prio-way}
use Rattle.q_tree.proofs.arrival.Keeping.{kept-below, kept-node, kept-up}
use Rattle.q_tree.proofs.arrival.KeepingComes.{below-can, child-can, nowhere}
use Rattle.q_tree.proofs.arrival.Puts.{is-empty-put}
use Rattle.q_tree.proofs.route.ChoosingLemmas.{child-there, drr-child, drr-refused}
use Rattle.q_tree.proofs.route.RouteLemmas.{child-size, children-size}
use Rattle.q_tree.proofs.node.+keep_one.Goals as goal

pub Discipline::keep_one-keep_one-requires : goal.Discipline::keep_one-keep_one-requires
Discipline::keep_one-keep_one-requires t c =
    let same : c.args.self.now ≡ code.Prio c.in-Prio-self-2.priomap c.in-Prio-self-2.bands = c.in-Prio.is ∙ c.in-Prio-self-2.is in
    let all : c.len.result ≡ length c.in-Prio-self-2.bands.items =
    omega (
      arith,
      c.len.ensures,
      c.in-Prio-self.bands.ok,
      ap (λ (d : Discipline). length (children_seen d)) (sym c.in-Prio-self.is ∙ c.in-Prio-self-2.is),
    ) in
    let chosen = child-there c.len.result (option_map_or (λ minor. minor - 1) (named_class c.args.filters.now c.args.packet.now) (slice_index
    c.in-Prio-self.priomap c.args.packet.now.prio)) c.in-Child.place (sym c.in-Child.is ∙ c.choose-choice.ensures) in
    let inside : c.in-Child.place < length c.in-Prio-self-2.bands.items = omega (arith, chosen.1, all) in
    let on : slice_get c.in-Prio-self-2.bands.items c.in-Child.place ≡ Some c.index_mut.result.now = slice_get_read c.in-Prio-self-2.bands.items
    (length c.in-Prio-self-2.bands.items) c.in-Child.place c.index_mut.result.now refl inside c.index_mut.ensures.value in
    let there : slice_get (children_seen c.args.self.now) c.in-Child.place ≡ Some c.index_mut.result.now = ap (λ (d : Discipline). slice_get
    (children_seen d) c.in-Child.place) same ∙ on in (
      omega (
        arith,
        child-size c.in-Prio-self-2.bands.items c.in-Child.place c.index_mut.result.now on,
        ap (λ (d : Discipline). forest_size (side_by_side (children_seen d))) same,
        c.decreases,
      ),
      c.requires.ready.child c.in-Child.place c.index_mut.result.now there,
    )

pub Discipline::keep_one-returns-in-Child-clause-kept : goal.Discipline::keep_one-returns-in-Child-clause-kept
Discipline::keep_one-returns-in-Child-clause-kept t c so =
    let same : c.args.self.now ≡ code.Prio c.in-Prio-self-2.priomap c.in-Prio-self-2.bands = c.in-Prio.is ∙ c.in-Prio-self-2.is in
    let all : c.len.result ≡ length c.in-Prio-self-2.bands.items =
    omega (
      arith,
      c.len.ensures,
      c.in-Prio-self.bands.ok,
      ap (λ (d : Discipline). length (children_seen d)) (sym c.in-Prio-self.is ∙ c.in-Prio-self-2.is),
    ) in
    let chosen = child-there c.len.result (option_map_or (λ minor. minor - 1) (named_class c.args.filters.now c.args.packet.now) (slice_index
    c.in-Prio-self.priomap c.args.packet.now.prio)) c.in-Child.place (sym c.in-Child.is ∙ c.choose-choice.ensures) in
    let inside : c.in-Child.place < length c.in-Prio-self-2.bands.items = omega (arith, chosen.1, all) in
    let to : way_in c.args.packet.now c.args.filters.now c.args.self.now ≡ through (ways c.args.packet.now c.in-Prio-self-2.bands.items)
    c.in-Child.place =
    prio-way c.args.packet.now c.args.filters.now c.args.self.now c.in-Prio-self.priomap c.in-Prio-self-2.bands.items c.in-Child.place (ap
    discipline_seen (c.in-Prio.is ∙ c.in-Prio-self.is)) (ap children_seen same) chosen.0 in
    let put = λ (m : Node Kept). code.Prio c.in-Prio-self-2.priomap (with_item c.in-Prio-self-2.bands c.in-Child.place m) in
    let h = c.keep_one.ensures.kept so in
    kept-below c.args.now c.args.packet.now c.args.filters.now c.args.self.now (put c.keep_one.new.self) c.in-Prio-self-2.bands.items c.in-Child.place
    c.index_mut.result.now c.keep_one.new.self (ap children_seen same) inside c.index_mut.ensures.value to h put (λ m. refl)
    (λ m. sym (ap discipline_seen same)) (λ m. sym (ap places_seen same)) refl (sym (ap places_seen same))
    (sym (ap (λ (d : Discipline). settled_in c.in-Child.place (is_empty (put_along c.args.now c.args.packet.now (route c.args.packet.now c.index_mut.result.now).refusal
    (route c.args.packet.now c.index_mut.result.now).path (shape h.come.placed)).node) (discipline_seen d)) same))

pub Discipline::keep_one-keep_one-requires-in-Child-choose : goal.Discipline::keep_one-keep_one-requires-in-Child-choose
Discipline::keep_one-keep_one-requires-in-Child-choose t c =
    let kids : children_seen c.args.self.now ≡ c.deref_mut.result.now ∷ [] = ap children_seen c.in-Tbf.is ∙ ap (λ (x : Node Kept). x ∷ []) (sym c.deref_mut.ensures.value) in
    let on : slice_get (c.deref_mut.result.now ∷ []) 0 ≡ Some c.deref_mut.result.now = slice_get_read
    (c.deref_mut.result.now ∷ []) (length (c.deref_mut.result.now ∷ [])) 0 c.deref_mut.result.now refl (omega arith) refl in
    let there : slice_get (children_seen c.args.self.now) 0 ≡ Some c.deref_mut.result.now = ap (λ xs. slice_get xs 0) kids ∙ on in (
      omega (
        arith,
        child-size (c.deref_mut.result.now ∷ []) 0 c.deref_mut.result.now on,
        ap (λ (ns : List (Node Kept)). forest_size (side_by_side ns)) kids,
        c.decreases,
      ),
      c.requires.ready.child 0 c.deref_mut.result.now there,
    )

pub Discipline::keep_one-keep_one-requires-in-Child-choose-2 : goal.Discipline::keep_one-keep_one-requires-in-Child-choose-2
Discipline::keep_one-keep_one-requires-in-Child-choose-2 t c =
    let all : c.len-in-Drr.result ≡ length c.in-Drr.classes.items = omega (arith, c.len-in-Drr.ensures, c.in-Drr.classes.ok) in
    let chosen = drr-child c.len-in-Drr.result c.in-Child-choose-2.place (option_and_then (λ minor. drr.place_of minor c.in-Drr.active.classes)
    (named_class c.args.filters.now c.args.packet.now)) (sym c.in-Child-choose-2.is ∙ c.choose-in-Drr.ensures) in
    let inside : c.in-Child-choose-2.place < length c.in-Drr.classes.items = omega (arith, chosen.1, all) in
    let on : slice_get c.in-Drr.classes.items c.in-Child-choose-2.place ≡ Some c.index_mut-in-Child-choose-2.result.now = slice_get_read
    c.in-Drr.classes.items (length c.in-Drr.classes.items) c.in-Child-choose-2.place c.index_mut-in-Child-choose-2.result.now refl inside
    c.index_mut-in-Child-choose-2.ensures.value in
    let there : slice_get (children_seen c.args.self.now) c.in-Child-choose-2.place ≡ Some c.index_mut-in-Child-choose-2.result.now = ap (λ xs.
    slice_get xs c.in-Child-choose-2.place) (ap children_seen c.in-Drr.is) ∙ on in (
      omega (
        arith,
        child-size c.in-Drr.classes.items c.in-Child-choose-2.place c.index_mut-in-Child-choose-2.result.now on,
        ap (λ (ns : List (Node Kept)). forest_size (side_by_side ns)) (ap children_seen c.in-Drr.is),
        c.decreases,
      ),
      c.requires.ready.child c.in-Child-choose-2.place c.index_mut-in-Child-choose-2.result.now there,
    )

pub Discipline::keep_one-returns-in-Child-choose-2-clause-kept : goal.Discipline::keep_one-returns-in-Child-choose-2-clause-kept
Discipline::keep_one-returns-in-Child-choose-2-clause-kept t c so =
    let all : c.len-in-Drr.result ≡ length c.in-Drr.classes.items = omega (arith, c.len-in-Drr.ensures, c.in-Drr.classes.ok) in
    let chosen = drr-child c.len-in-Drr.result c.in-Child-choose-2.place (option_and_then (λ minor. drr.place_of minor c.in-Drr.active.classes)
    (named_class c.args.filters.now c.args.packet.now)) (sym c.in-Child-choose-2.is ∙ c.choose-in-Drr.ensures) in
    let inside : c.in-Child-choose-2.place < length c.in-Drr.classes.items = omega (arith, chosen.1, all) in
    let to : way_in c.args.packet.now c.args.filters.now c.args.self.now ≡ through (ways c.args.packet.now c.in-Drr.classes.items)
    c.in-Child-choose-2.place =
    drr-way c.args.packet.now c.args.filters.now c.args.self.now c.in-Drr.active c.in-Drr.classes.items (option_and_then (λ minor. drr.place_of
    minor c.in-Drr.active.classes) (named_class c.args.filters.now c.args.packet.now)) (ap discipline_seen c.in-Drr.is) (ap children_seen
    c.in-Drr.is) refl
    ∙ ap (λ (o : Option ℕ). option_map_or (through (ways c.args.packet.now c.in-Drr.classes.items)) o (refused NoClass)) chosen.0 in
    let h = c.if-not-keep_one.ensures.kept refl in
    let x = c.index_mut-in-Child-choose-2.result.now in
    let put = λ (m : Node Kept). code.Drr c.in-Drr.active (with_item c.in-Drr.classes c.in-Child-choose-2.place m) in
    let stored : c.index.result.now ≡ c.keep_one-in-Child-choose-2.new.self = c.index.ensures ∙ get_or-set_same c.in-Drr.classes.items
    c.in-Child-choose-2.place c.keep_one-in-Child-choose-2.new.self c.index.result.now inside in
    let emptied = c.is_empty.ensures ∙ ap (λ (n : Node Kept). is_empty n) (stored ∙ h.come.becomes) ∙ is-empty-put c.args.now c.args.packet.now (route
    c.args.packet.now x).path (route c.args.packet.now x).refusal h.come.placed h.come.can in
    kept-below c.args.now c.args.packet.now c.args.filters.now c.args.self.now (code.Drr c.settle.new.active (with_item c.in-Drr.classes
    c.in-Child-choose-2.place c.keep_one-in-Child-choose-2.new.self)) c.in-Drr.classes.items c.in-Child-choose-2.place
    x c.keep_one-in-Child-choose-2.new.self (ap children_seen c.in-Drr.is) inside c.index_mut-in-Child-choose-2.ensures.value to h put (λ m. refl)
    (λ m. sym (ap discipline_seen c.in-Drr.is)) (λ m. sym (ap places_seen c.in-Drr.is)) refl (sym (ap places_seen c.in-Drr.is))
    (ap spec.Drr (c.settle.ensures ∙ ap (λ b. settled_class c.in-Child-choose-2.place b c.in-Drr.active) emptied) ∙ sym (ap (λ (d : Discipline).
    settled_in c.in-Child-choose-2.place (is_empty (put_along c.args.now c.args.packet.now (route c.args.packet.now
    x).refusal (route c.args.packet.now x).path (shape h.come.placed)).node) (discipline_seen d)) c.in-Drr.is))

pub Discipline::keep_one-returns-then-not-keep_one-clause-comes : goal.Discipline::keep_one-returns-then-not-keep_one-clause-comes
Discipline::keep_one-returns-then-not-keep_one-clause-comes t c can =
    let all : c.len-in-Drr.result ≡ length c.in-Drr.classes.items = omega (arith, c.len-in-Drr.ensures, c.in-Drr.classes.ok) in
    let chosen = drr-child c.len-in-Drr.result c.in-Child-choose-2.place (option_and_then (λ minor. drr.place_of minor c.in-Drr.active.classes)
    (named_class c.args.filters.now c.args.packet.now)) (sym c.in-Child-choose-2.is ∙ c.choose-in-Drr.ensures) in
    let to : way_in c.args.packet.now c.args.filters.now c.args.self.now ≡ through (ways c.args.packet.now c.in-Drr.classes.items)
    c.in-Child-choose-2.place =
    drr-way c.args.packet.now c.args.filters.now c.args.self.now c.in-Drr.active c.in-Drr.classes.items (option_and_then (λ minor. drr.place_of
    minor c.in-Drr.active.classes) (named_class c.args.filters.now c.args.packet.now)) (ap discipline_seen c.in-Drr.is) (ap children_seen
    c.in-Drr.is) refl
    ∙ ap (λ (o : Option ℕ). option_map_or (through (ways c.args.packet.now c.in-Drr.classes.items)) o (refused NoClass)) chosen.0 in
    c.if-not-keep_one.ensures.comes (child-can c.args.packet.now c.args.filters.now c.args.self.now c.in-Drr.classes.items c.in-Child-choose-2.place
    c.index_mut-in-Child-choose-2.result.now (ap children_seen c.in-Drr.is) (omega (arith, chosen.1, all)) c.index_mut-in-Child-choose-2.ensures.value to can)

pub Discipline::keep_one-returns-in-Refused-choose-2-clause-comes : goal.Discipline::keep_one-returns-in-Refused-choose-2-clause-comes
Discipline::keep_one-returns-in-Refused-choose-2-clause-comes t c can =
    let all : c.len-in-Drr.result ≡ length c.in-Drr.classes.items = omega (arith, c.len-in-Drr.ensures, c.in-Drr.classes.ok) in
    let named = option_and_then (λ minor. drr.place_of minor c.in-Drr.active.classes) (named_class c.args.filters.now c.args.packet.now) in
    let not = drr-refused c.args.packet.now c.in-Drr.classes.items c.len-in-Drr.result c.in-Refused-choose-2.field-0 named all
    (sym c.in-Refused-choose-2.is ∙ c.choose-in-Drr.ensures) in
    let to : way_in c.args.packet.now c.args.filters.now c.args.self.now ≡ refused NoClass =
    drr-way c.args.packet.now c.args.filters.now c.args.self.now c.in-Drr.active c.in-Drr.classes.items named (ap discipline_seen c.in-Drr.is)
    (ap children_seen c.in-Drr.is) refl
    ∙ not.1 in
    absurd (nowhere c.args.packet.now c.args.filters.now c.args.self.now (refused NoClass) to refl can)

pub Node::keep_one_further-returns-then-not-keep_one-clause-comes : goal.Node::keep_one_further-returns-then-not-keep_one-clause-comes
Node::keep_one_further-returns-then-not-keep_one-clause-comes t c can =
    c.if-not-keep_one.ensures.comes (below-can c.args.packet.now c.self.inside c.args.self.now c.self.view_is c.self.inside.filters refl can)

pub Node::keep_one_further-keep_one-requires : goal.Node::keep_one_further-keep_one-requires
Node::keep_one_further-keep_one-requires t c = (
  omega (arith, children-size c.self.inside c.args.self.now (children_seen c.self.inside.discipline) c.self.view_is refl, c.decreases),
  can-come-in c.args.now c.args.packet.now c.self.inside c.args.self.now c.self.invariant c.self.view_is c.requires.ready,
)

pub Node::keep_one_further-invariant_of-self-2 : goal.Node::keep_one_further-invariant_of-self-2
Node::keep_one_further-invariant_of-self-2 t c =
    kept-node c.args.now c.args.packet.now c.self.inside c.args.self.now c.self.invariant c.self.view_is c.requires.ready c.self.inside.filters refl
    c.keep_one.new.self (c.if-not-keep_one.ensures.kept refl) c.book_kept.new.row c.book_kept.ensures

pub Node::keep_one_further-returns-clause-kept : goal.Node::keep_one_further-returns-clause-kept
Node::keep_one_further-returns-clause-kept t c so =
    kept-up c.args.now c.args.packet.now c.self.inside c.args.self.now c.self.invariant c.self.view_is c.requires.ready c.self.inside.filters refl
    c.keep_one.new.self (c.if-not-keep_one.ensures.kept refl) c.book_kept.new.row c.book_kept.ensures
