use Rattle.std.proofs.Common.{◌≡◌, ℕ, List, [], get_or, set, drop, Option, Some, IsSome, refl, sym, ap, ◌∙◌, arith, subst, take, add-one, drop-drop}
use Rattle.std.specs.Prelude.{slice_get}
use Rattle.std.proofs.lemmas.List.{get_or-set_same, set-set, set-get_or, length-drop, length-take}
use Rattle.q_packet.specs.declared.stamped.Stamped.{Stamped}
use Rattle.q_codel.specs.Losses.{AreLost}
use Rattle.q_codel.proofs.SinkLemmas.{lost_next, room_lost, told_nothing}
use Rattle.q_fqcodel.proofs.PooledLemmas.{flow_with}
use Rattle.q_fqcodel.proofs.SentLemmas.{slice_there}
use Rattle.q_fqcodel.proofs.flows.lose_from.Goals as goal
use Rattle.q_fqcodel.proofs.flows.lose_from.Goals.{After-take_of}

pub loop-i-init : goal.loop-i-init
loop-i-init g c = record {
  queues = sym (set-get_or c.args.pool.now.queues c.args.flow []);
  places = refl;
  lost = told_nothing (g.S.Sink.state c.args.sink.now);
  kept = g.met.S.Sink.keeps_same c.args.sink.now;
}

-- what is left of the flow in the loop
left_now : (g : _) (c : After-take_of g) → get_or c.loop-i.pool.queues c.args.flow [] ≡ drop c.loop-i._i (get_or c.args.pool.now.queues c.args.flow [])
left_now g c =
    let qs : List (List Stamped) = c.args.pool.now.queues in
    let n : ℕ = c.args.flow in
    ap (λ (l : List (List Stamped)). get_or l n []) c.loop-i.invariant.queues
    ∙ get_or-set_same qs n (drop c.loop-i._i (get_or qs n [])) [] (flow_with qs n (omega (arith, c.loop-i-test.true, c.requires.held)))

pub unwrap-stamped-requires : goal.unwrap-stamped-requires
unwrap-stamped-requires g c =
    let d = (goal.at.unwrap-stamped-requires g c).After-take_of in
    let q : List Stamped = get_or c.args.pool.now.queues c.args.flow [] in
    let i : ℕ = c.loop-i._i in
    subst (λ (o : Option Stamped). IsSome o) (sym (c.take_of.ensures.front ∙ ap (λ (l : List Stamped). slice_get l 0) (left_now g d)))
    (slice_there (drop i q) 0 (omega (arith, length-drop i q, c.loop-i-test.true, c.requires.held)))

pub lost-requires : goal.lost-requires
lost-requires g c =
    let q : List Stamped = take c.loop-i._i (get_or c.args.pool.now.queues c.args.flow []) in
    omega (
      arith,
      room_lost c.args.cause q (g.S.Sink.state c.args.sink.now) (g.S.Sink.state c.loop-i.sink) c.loop-i.invariant.lost,
      length-take c.loop-i._i (get_or c.args.pool.now.queues c.args.flow []),
      c.requires.room,
      c.loop-i-test.true,
    )

pub loop-i-preserved : goal.loop-i-preserved
loop-i-preserved g c =
    let d = (goal.at.loop-i-preserved g c).After-take_of in
    let qs : List (List Stamped) = c.args.pool.now.queues in
    let n : ℕ = c.args.flow in
    let i : ℕ = c.loop-i._i in
    let q : List Stamped = get_or qs n [] in
    let read : slice_get (drop i q) 0 ≡ Some c.unwrap-stamped.result =
    ap (λ (l : List Stamped). slice_get l 0) (sym (left_now g d)) ∙ sym c.take_of.ensures.front ∙ c.unwrap-stamped.ensures in
    record {
      queues =
          c.take_of.ensures.queues
          ∙ ap (λ (l : List Stamped). set c.loop-i.pool.queues n (drop 1 l)) (left_now g d)
          ∙ ap (λ (l : List (List Stamped)). set l n (drop 1 (drop i q))) c.loop-i.invariant.queues
          ∙ set-set qs n (drop i q) (drop 1 (drop i q))
          ∙ ap (λ (l : List Stamped). set qs n l) (drop-drop 1 i q);
      places = c.take_of.ensures.places ∙ c.loop-i.invariant.places;
      lost = subst (λ (k : ℕ). AreLost c.args.cause (take k q) (g.S.Sink.state c.args.sink.now) (g.S.Sink.state c.lost.new.self)) (sym (add-one i))
          (lost_next c.args.cause q i c.unwrap-stamped.result (g.S.Sink.state c.args.sink.now) (g.S.Sink.state c.loop-i.sink)
          (g.S.Sink.state c.lost.new.self) read c.loop-i.invariant.lost c.lost.ensures.told);
      kept = g.met.S.Sink.keeps_on c.args.sink.now c.loop-i.sink c.lost.new.self c.loop-i.invariant.kept c.lost.ensures.kept;
    }
