use Rattle.std.proofs.Common.{List, ◌&&◌, ◌∙◌, refl, ap, sym, arith}
use Rattle.q_packet.specs.Totals.{count}
use Rattle.q_packet.specs.declared.stamped.Stamped.{Stamped}
use Rattle.q_codel.specs.Codel.{CodelVars, joined, is_capable, is_late}
use Rattle.q_codel.specs.declared.front.Front.{Front}
use Rattle.q_codel.proofs.FrontLemmas.{split, next, chosen_at, behind_is, len_within}
use Rattle.q_codel.proofs.ChooseLemmas.{late_has_two, chosen_behind, chosen_in}
use Rattle.q_codel.proofs.control_state.ControlState.drop_or_mark.Goals as goal

pub drop_head-next-requires-clause-some : goal.drop_head-next-requires-clause-some
drop_head-next-requires-clause-some g c =
    let s = split _ _ c.requires.front in
    let more =
    late_has_two (joined c.args.parameters.now c.args.self.now) c.args.now s.head s.rest
    (sym (ap (is_late (joined c.args.parameters.now c.args.self.now) c.args.now) s.is) ∙ c.requires.late) in
    let n = ap (λ (q : List Stamped). count q) s.is in
    omega arith

pub overflow_sub-behind : goal.overflow_sub-behind
overflow_sub-behind g c =
    let s = split _ _ c.requires.front in
    let n = next _ _ _ _ _ s.is c.drop_head-next.ensures.rest c.drop_head-next.ensures.front in
    len_within _ _ _ _ _ c.bytes.ensures n.here (ap (λ (f : Front). f.len) n.front_is)

-- one is dropped, and the next one goes
pub returns : goal.returns
returns g c =
    let s = split _ _ c.requires.front in
    let late = sym (ap (is_late (joined c.args.parameters.now c.args.self.now) c.args.now) s.is) ∙ c.requires.late in
    let n = next _ _ _ _ _ s.is c.drop_head-next.ensures.rest c.drop_head-next.ensures.front in
    let further = behind_is _ _ _ _ _ c.bytes.ensures n.here (ap (λ (f : Front). f.len) n.front_is) in
    let plain = sym (c.if-marks.ensures ∙ ap (λ (f : Front). c.args.parameters.now.ecn && is_capable f.ecn) s.front_is) in
    chosen_at _ _ _ _ _ _ _ _ _ _ _ _ _
    (chosen_in _ _ _ _ _ _ _ _ _ s.is
    (chosen_behind c.args.parameters.now c.args.self.now c.args.self.now _ _ c.args.now s.head s.rest n.head n.behind
    (sym (ap (λ (v : CodelVars). v.dropping) c.self.view_is) ∙ c.if-self.false) late refl plain c.begin.ensures
    n.rest_is (c.should_drop-is_late.ensures.noted n.head n.behind n.front_is further)))
    n.here c.drop_head-next.ensures.lost c.drop_head-next.ensures.kept c.drop_head-next.ensures.sink_kept
