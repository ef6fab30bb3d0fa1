use Rattle.std.proofs.Common.{◌≡◌, List, suc, ◌&&◌, ◌<◌, ◌≤◌, ◌∙◌, ap, sym, arith}
use Rattle.q_packet.specs.Totals.{count}
use Rattle.q_packet.specs.declared.stamped.Stamped.{Stamped}
use Rattle.q_codel.specs.Gap.{gap_of}
use Rattle.q_codel.specs.Codel.{CodelParams, joined, is_capable}
use Rattle.q_codel.specs.declared.front.Front.{Front}
use Rattle.q_codel.proofs.FrontLemmas.{split, next, head_lost, chosen_at, behind_is, len_within, way_from}
use Rattle.q_codel.proofs.Law.{turn_waits, turn_marks, turn_ends, turn_goes_on, losses_more}
use Rattle.q_codel.proofs.SinkLemmas.{told_nothing}
use Rattle.q_codel.proofs.control_state.ControlState.go_on.Goals as goal

pub loop-self-init : goal.loop-self-init
loop-self-init g c =
    let s = split _ _ c.requires.front in (
      0,
      s.head,
      s.rest,
      record {
        packets = s.is;
        front = s.front_is;
        way = way_from _ _ _ _ _ s.is c.requires.counted c.requires.late;
        lost = told_nothing (g.S.Sink.state c.args.sink.now);
        enough = c.requires.room;
        kept = g.met.Q.Queue.keeps_same _;
        sink_kept = g.met.S.Sink.keeps_same _;
      },
    )

-- the moment of the next drop or mark is yet to come
pub returns : goal.returns
returns g c =
    let i = c.loop-self.invariant in
    let waits : c.args.now < c.self.inside.drop_next = let t = c.loop-self-test.false in let n = c.ns.ensures.value in omega arith in
    let ends = turn_waits _ _ _ i.0 _ _ _ _ _ c.requires.dropping i.3.way (ap (joined c.args.parameters.now) c.self.view_is) waits in
    chosen_at _ _ _ _ _ _ _ _ _ _ _ _ _ ends i.3.packets i.3.lost i.3.kept i.3.sink_kept

-- the head is marked
pub returns-then-marks : goal.returns-then-marks
returns-then-marks g c =
    let i = c.loop-self.invariant in
    let due : c.self.inside.drop_next ≤ c.args.now = let t = c.loop-self-test.true in let n = c.ns.ensures.value in omega arith in
    let length : c.gap.result ≡ gap_of c.args.parameters.now.interval c.saturating_add-self-inside.result =
    c.gap.ensures.value ∙ ap (λ (p : CodelParams). gap_of p.interval c.saturating_add-self-inside.result) c.parameters.view_is in
    let markable = sym (c.if-marks.ensures ∙ ap (λ (f : Front). c.args.parameters.now.ecn && is_capable f.ecn) i.3.front) in
    let ends = turn_marks _ _ _ i.0 _ i.1 _ _ _ _ i.3.way (ap (joined c.args.parameters.now) c.self.view_is) due c.saturating_add-self-inside.ensures _ c.requires.dropping markable length in
    chosen_at _ _ _ _ _ _ _ _ _ _ _ _ _ ends i.3.packets i.3.lost i.3.kept i.3.sink_kept

pub overflow_sub-behind : goal.overflow_sub-behind
overflow_sub-behind g c =
    let i = c.loop-self.invariant in
    let n = next _ _ _ _ _ i.3.packets c.drop_head-front.ensures.rest c.drop_head-front.ensures.front in
    len_within _ _ _ _ _ c.bytes.ensures n.here (ap (λ (f : Front). f.len) n.front_is)

-- the head is dropped, and the next one is not late
pub returns-then-not-should_drop : goal.returns-then-not-should_drop
returns-then-not-should_drop g c =
    let i = c.loop-self.invariant in
    let due : c.self.inside.drop_next ≤ c.args.now = let t = c.loop-self-test.true in let n = c.ns.ensures.value in omega arith in
    let n = next _ _ _ _ _ i.3.packets c.drop_head-front.ensures.rest c.drop_head-front.ensures.front in
    let behind = behind_is _ _ _ _ _ c.bytes.ensures n.here (ap (λ (f : Front). f.len) n.front_is) in
    let plain = sym (c.if-marks.ensures ∙ ap (λ (f : Front). c.args.parameters.now.ecn && is_capable f.ecn) i.3.front) in
    let ends =
    turn_ends _ _ _ i.0 _ i.1 _ _ _ _ i.3.way (ap (joined c.args.parameters.now) c.self.view_is) due c.saturating_add-self-inside.ensures _ _ _
    plain n.rest_is (c.self-in-loop-self.view_is ∙ c.if-not-should_drop.ensures.noted n.head n.behind n.front_is behind) c.requires.dropping
    (sym (c.if-not-should_drop.ensures.late n.head n.behind n.front_is behind)) in
    let lost = losses_more _ _ i.0 _ _ _ _ _ i.3.way.place i.3.lost (head_lost _ _ _ _ _ _ i.3.packets c.drop_head-front.ensures.lost) in
    chosen_at _ _ _ _ _ _ _ _ _ _ _ _ _ ends n.here lost
    (g.met.Q.Queue.keeps_on _ _ _ i.3.kept c.drop_head-front.ensures.kept) (g.met.S.Sink.keeps_on _ _ _ i.3.sink_kept c.drop_head-front.ensures.sink_kept)

-- the head is dropped, and the next one is late too
pub loop-self-preserved : goal.loop-self-preserved
loop-self-preserved g c =
    let i = c.loop-self.invariant in
    let due : c.self.inside.drop_next ≤ c.args.now = let t = c.loop-self-test.true in let n = c.ns.ensures.value in omega arith in
    let n = next _ _ _ _ _ i.3.packets c.drop_head-front.ensures.rest c.drop_head-front.ensures.front in
    let behind = behind_is _ _ _ _ _ c.bytes.ensures n.here (ap (λ (f : Front). f.len) n.front_is) in
    let plain = sym (c.if-marks.ensures ∙ ap (λ (f : Front). c.args.parameters.now.ecn && is_capable f.ecn) i.3.front) in
    let length : c.gap-in-loop-self.result ≡ gap_of c.args.parameters.now.interval c.self-in-loop-self.inside.count =
    c.gap-in-loop-self.ensures.value ∙ ap (λ (p : CodelParams). gap_of p.interval c.self-in-loop-self.inside.count) c.parameters.view_is in
    let way =
    turn_goes_on _ _ _ i.0 _ i.1 _ _ _ _ i.3.way (ap (joined c.args.parameters.now) c.self.view_is) due c.saturating_add-self-inside.ensures _ _
    _ plain n.rest_is (c.self-in-loop-self.view_is ∙ c.if-not-should_drop.ensures.noted n.head n.behind n.front_is behind) _ length
    (sym (c.if-not-should_drop.ensures.late n.head n.behind n.front_is behind)) in (
      suc i.0,
      n.head,
      n.behind,
      record {
        packets = n.here;
        front = n.front_is;
        way = way;
        lost = losses_more _ _ i.0 _ _ _ _ _ i.3.way.place i.3.lost (head_lost _ _ _ _ _ _ i.3.packets c.drop_head-front.ensures.lost);
        enough =
            let a = ap (λ (q : List Stamped). count q) i.3.packets in let b = ap (λ (q : List Stamped). count q) n.here in let d = ap
            (λ (q : List Stamped). count q) n.rest_is in let k = (head_lost _ _ _ _ _ _ i.3.packets c.drop_head-front.ensures.lost).room in let e =
            i.3.enough in omega arith;
        kept = g.met.Q.Queue.keeps_on _ _ _ i.3.kept c.drop_head-front.ensures.kept;
        sink_kept = g.met.S.Sink.keeps_on _ _ _ i.3.sink_kept c.drop_head-front.ensures.sink_kept;
      },
    )
