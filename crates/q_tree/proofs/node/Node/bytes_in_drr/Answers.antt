use Rattle.std.proofs.Common.{◌≡◌, ◌+◌, ◌∙◌, sym, ap, Some, option_map, arith}
use Rattle.std.proofs.lemmas.Option.{same_Some}
use Rattle.q_drr.specs.Schedule.{Class}
use Rattle.q_drr.specs.Waiting.{turn_now}
use Rattle.q_drr.proofs.DifferLemmas.{differ_from_pairs}
use Rattle.q_model.specs.Beneath.{beneath, totals_in}
use Rattle.q_model.specs.Node.{Node}
use Rattle.q_model.specs.Stretches.{length_held}
use Rattle.q_tree.specs.answers.TurnNow.{bytes_in_drr}
use Rattle.q_tree.specs.answers.Ways.{share_among}
use Rattle.q_tree.specs.Kept.{Kept}
use Rattle.q_tree.specs.Seen.{discipline_seen}
use Rattle.q_tree.proofs.answers.TurnNowLemmas.{turn-is}
use Rattle.q_tree.proofs.answers.WayLemmas.{IsAt, IsNamed, is-at, is-named, named-has}
use Rattle.q_tree.proofs.node.Node.bytes_in_drr.Goals as goal

pub deficits_ahead-ahead-requires : goal.deficits_ahead-ahead-requires
deficits_ahead-ahead-requires c =
    let classes = c.in-Drr.active.classes in
    named-has classes c.args.place c.in_ok-class-in-Drr.class (differ_from_pairs (λ (k : Class). k.name) classes c.class_at.ensures.lawful.classes_differ)
    (sym c.class_at.ensures.value ∙ c.in_ok-class-in-Drr.was)

pub deficit_at_turn-requires : goal.deficit_at_turn-requires
deficit_at_turn-requires c =
    let classes = c.in-Drr.active.classes in
    named-has classes c.args.place c.in_ok-class-in-Drr.class (differ_from_pairs (λ (k : Class). k.name) classes c.class_at.ensures.lawful.classes_differ)
    (sym c.class_at.ensures.value ∙ c.in_ok-class-in-Drr.was)

pub returns-in-Drr : goal.returns-in-Drr
returns-in-Drr c =
    let s = c.in-Drr.active in
    let class = c.in_ok-class-in-Drr.class in
    let own = c.args.self.now.own in
    let child = c.args.child.now in
    let n : IsNamed s.classes c.args.place class = is-named s.classes c.args.place class (sym c.class_at.ensures.value ∙ c.in_ok-class-in-Drr.was) in
    let at : IsAt s.classes c.args.place n.class =
    is-at s.classes c.args.place n.class (differ_from_pairs (λ (k : Class). k.name) s.classes c.class_at.ensures.lawful.classes_differ) n.there in
    let share = same_Some c.in_ok-share-in-Drr.share (share_among n.class s.classes)
    (sym c.in_ok-share-in-Drr.was ∙ c.share_in.ensures.value ∙ ap (option_map (λ (k : Class). share_among k s.classes)) n.there) in
    let bytes : c.from.result + c.from-in-Drr.result ≡ (totals_in (beneath child)).bytes + c.args.len =
    omega (arith, c.from.ensures, ap (λ t. t.bytes) c.queued.ensures, c.from-in-Drr.ensures) in
    let turn = c.turn_now-turn.ensures.value
    ∙ turn-is n.class.name class s c.in_ok-share-in-Drr.share (c.from.result + c.from-in-Drr.result) c.deficit_at_turn.result c.deficits_ahead-ahead.result n.class
    n.named share at.quantum c.deficit_at_turn.ensures c.deficits_ahead-ahead.ensures.value
    ∙ ap (λ b. turn_now n.class.name b s) bytes in
    ap (λ m. Some (m + c.turn_now-turn.result)) (c.from-in-Drr-2.ensures ∙ c.held_len.ensures)
    ∙ ap (λ m. Some (length_held own.held + m)) turn
    ∙ sym (ap (option_map (λ (k : Class). length_held own.held + turn_now k.name ((totals_in (beneath child)).bytes + c.args.len) s)) n.there)
    ∙ sym (ap (λ d. bytes_in_drr c.args.place c.args.len own child (discipline_seen d)) c.in-Drr.is)
    ∙ ap (λ (m : Node Kept). bytes_in_drr c.args.place c.args.len own child m.own.discipline) c.self.view_is
