use Rattle.std.proofs.Common.{◌≡◌, ◌∙◌, set, refl, sym, ap, subst, Some}
use Rattle.std.specs.Prelude.{All, option_map, slice_index_or}
use Rattle.std.proofs.lemmas.List.Elements.{All-set}
use Rattle.std.proofs.lemmas.Option.{same_Some}
use Rattle.q_packet.specs.Descriptor.{Descriptor}
use Rattle.q_model.specs.Node.{Node}
use Rattle.q_model.specs.Pop.{pop}
use Rattle.q_tree.specs.arrival.KeepSteps.{no_sink}
use Rattle.q_tree.specs.departure.GiveSteps.{IsFreeFifo, alone, nothing_shown}
use Rattle.q_tree.specs.disciplines.Meeting as meeting
use Rattle.q_tree.specs.Kept.{Kept}
use Rattle.q_tree.proofs.disciplines.IdleClasses.{idle, idle-schedule_same}
use Rattle.q_tree.proofs.disciplines.RoundsServed.{can-go, fewer-needed, round-goes-on, round-starts, rounds-go-on}
use Rattle.q_tree.proofs.disciplines.ServeLemmas.{class-given, class-sends, classes-start, front-met, short-enough}
use Rattle.q_tree.proofs.disciplines.ServingHeads.{fifo-after, front-back, front-head, front-is, front-passed, front-shows, shown-of}
use Rattle.q_tree.proofs.departure.giving.give_from_classes.Goals as goal

pub loop-place-init : goal.loop-place-init
loop-place-init c = (
  classes-start c.args.now c.args.active.now c.args.classes.now c.active_count-unasked.result nothing_shown no_sink c.requires.serves.serves c.active_count-unasked.ensures
      (record { dropped = refl; marked = refl }),
  round-starts c.args.now c.args.active.now c.args.active.now c.args.classes.now c.active_count-unasked.result c.new-round.result c.new-round.ensures,
  refl,
  refl,
)

pub head_len-len-requires : goal.head_len-len-requires
head_len-len-requires c =
    let met = front-met c.requires.serves.serves c.loop-place.invariant.0 c.front_place.ensures.lawful c.in-Some.place (sym c.in-Some.is ∙ c.front_place.ensures.place) in
    front-head c.loop-place.invariant.2 c.requires.serves met c.index-classes-place.result

pub turn_class-requires-clause-in_range : goal.turn_class-requires-clause-in_range
turn_class-requires-clause-in_range c =
    let met = front-met c.requires.serves.serves c.loop-place.invariant.0 c.front_place.ensures.lawful c.in-Some.place (sym c.in-Some.is ∙ c.front_place.ensures.place) in
    let head = shown-of _ c.head_len-len.result c.head_len-len.ensures in
    short-enough met (front-shows c.loop-place.invariant.2 c.requires.serves met c.index-classes-place.result head.0 head.1) (head.0, refl, head.2)

pub turn_class-requires-clause-round : goal.turn_class-requires-clause-round
turn_class-requires-clause-round c =
    let met = front-met c.requires.serves.serves c.loop-place.invariant.0 c.front_place.ensures.lawful c.in-Some.place (sym c.in-Some.is ∙ c.front_place.ensures.place) in
    let head = shown-of _ c.head_len-len.result c.head_len-len.ensures in
    λ _. can-go met (front-shows c.loop-place.invariant.2 c.requires.serves met c.index-classes-place.result head.0 head.1) (head.0, refl, head.2) c.loop-place.invariant.1

pub returns-in-Send-clause-given : goal.returns-in-Send-clause-given
returns-in-Send-clause-given c so own =
    let met = front-met c.requires.serves.serves c.loop-place.invariant.0 c.front_place.ensures.lawful c.in-Some.place (sym c.in-Some.is ∙ c.front_place.ensures.place) in
    let unchanged = c.loop-place.invariant.2 in
    let d = c.index-classes-place.result in
    let e = c.index-classes-place-in-Send.result in
    let alike = front-is unchanged c.requires.serves met e ∙ sym (front-is unchanged c.requires.serves met d) in
    let shown : Some c.send_head.new.out ≡ (pop (slice_index_or c.loop-place.classes c.in-Some.place d)).shown = c.send_head.ensures.packet ∙ ap (λ (n : Node Kept). (pop n).shown) alike in
    let len : c.send_head.new.out.len ≡ c.head_len-len.result = same_Some c.send_head.new.out.len c.head_len-len.result (ap (option_map (λ (p : Descriptor). p.len)) shown ∙ c.head_len-len.ensures) in
    let shows = front-shows unchanged c.requires.serves met d c.send_head.new.out shown in
    let back = front-back unchanged c.requires.serves met d in
    let sends = class-sends met shows (c.send_head.new.out, refl, len) (sym c.in-Send.is ∙ c.turn_class.ensures.answer) (c.turn_class.ensures.sends c.in-Send.is) in
    let served = subst (λ xs. meeting.IsMet c.args.now c.in-Some.place c.args.active.now c.turn_class.new.active c.args.classes.now xs (alone c.send_head.new.out) no_sink no_sink) back sends in
    served.served c.settle.new.active (set c.loop-place.classes c.in-Some.place c.send_head.new.self)
    (λ class at. class-given c.loop-place.classes c.in-Some.place class e c.send_head.new.self c.index-classes-place-in-Send-2.result c.turn_class.new.active c.settle.new.active c.is_empty.result
    at c.send_head.ensures.after c.send_head.ensures.arrived c.is_empty.ensures c.settle.ensures) own

pub returns-in-Send-clause-fifos : goal.returns-in-Send-clause-fifos
returns-in-Send-clause-fifos c so =
    let met = front-met c.requires.serves.serves c.loop-place.invariant.0 c.front_place.ensures.lawful c.in-Some.place (sym c.in-Some.is ∙ c.front_place.ensures.place) in
    let e = c.index-classes-place-in-Send.result in
    All-set IsFreeFifo c.loop-place.classes c.in-Some.place c.send_head.new.self
    (subst IsFreeFifo (sym c.send_head.ensures.after) (fifo-after _ (front-head c.loop-place.invariant.2 c.requires.serves met e)))
    (subst (λ xs. All IsFreeFifo xs) (sym c.loop-place.invariant.2) c.requires.serves.fifos)

pub loop-place-smaller : goal.loop-place-smaller
loop-place-smaller c =
    let met = front-met c.requires.serves.serves c.loop-place.invariant.0 c.front_place.ensures.lawful c.in-Some.place (sym c.in-Some.is ∙ c.front_place.ensures.place) in
    let head = shown-of _ c.head_len-len.result c.head_len-len.ensures in
    fewer-needed met (front-shows c.loop-place.invariant.2 c.requires.serves met c.index-classes-place.result head.0 head.1) (head.0, refl, head.2) c.loop-place.invariant.1
    (sym c.in-Granted.is ∙ c.turn_class.ensures.answer) c.turn_class.ensures.asks (λ none go. c.turn_class.ensures.goes c.in-Granted.is none go)

pub loop-place-preserved : goal.loop-place-preserved
loop-place-preserved c =
    let met = front-met c.requires.serves.serves c.loop-place.invariant.0 c.front_place.ensures.lawful c.in-Some.place (sym c.in-Some.is ∙ c.front_place.ensures.place) in
    let head = shown-of _ c.head_len-len.result c.head_len-len.ensures in
    let d = c.index-classes-place.result in
    let shows = front-shows c.loop-place.invariant.2 c.requires.serves met d head.0 head.1 in (
      front-passed c.loop-place.invariant.2 c.requires.serves met d head.0
          (rounds-go-on met shows (head.0, refl, head.2) c.loop-place.invariant.1 (sym c.in-Granted.is ∙ c.turn_class.ensures.answer) c.turn_class.ensures.asks
          (λ none go. c.turn_class.ensures.goes c.in-Granted.is none go) c.saturating_sub-unasked.ensures),
      round-goes-on met shows (head.0, refl, head.2) c.loop-place.invariant.1 (sym c.in-Granted.is ∙ c.turn_class.ensures.answer) c.turn_class.ensures.asks
          (λ none go. c.turn_class.ensures.goes c.in-Granted.is none go) c.saturating_sub-unasked.ensures,
      c.loop-place.invariant.2,
      c.loop-place.invariant.3,
    )

pub returns-clause-same : goal.returns-clause-same
returns-clause-same c so = (
  idle-schedule_same c.requires.serves.serves c.loop-place.invariant.0 c.front_place.ensures.lawful _ c.in_default.is c.front_place.ensures.found,
  c.loop-place.invariant.2,
)

pub returns-clause-idle : goal.returns-clause-idle
returns-clause-idle c so = (idle c.requires.serves.serves c.loop-place.invariant.0 c.front_place.ensures.lawful _ c.in_default.is c.front_place.ensures.found).0
