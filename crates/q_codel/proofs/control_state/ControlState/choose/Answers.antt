use Rattle.std.proofs.Common.{◌∙◌, ap, sym, arith}
use Rattle.q_codel.specs.Codel.{CodelVars}
use Rattle.q_codel.specs.declared.front.Front.{Front}
use Rattle.q_codel.proofs.FrontLemmas.{split, chosen_at, behind_is, len_within}
use Rattle.q_codel.proofs.ChooseLemmas.{unmoved, chosen_early, chosen_in, chosen_from}
use Rattle.q_codel.proofs.SinkLemmas.{told_nothing}
use Rattle.q_codel.proofs.control_state.ControlState.choose.Goals as goal

pub overflow_sub-behind : goal.overflow_sub-behind
overflow_sub-behind g c = let s = split _ _ c.requires.front in len_within _ _ _ _ _ c.bytes.ensures s.is (ap (λ (f : Front). f.len) s.front_is)

-- the head is not late
pub returns-then-not-should_drop : goal.returns-then-not-should_drop
returns-then-not-should_drop g c =
    let s = split _ _ c.requires.front in
    let behind = behind_is _ _ _ _ _ c.bytes.ensures s.is (ap (λ (f : Front). f.len) s.front_is) in
    let looked = c.if-not-should_drop.ensures in
    chosen_at _ _ _ _ _ _ _ _ _ _ _ _ _
    (chosen_in _ _ _ _ _ _ _ _ _ s.is
    (chosen_early c.args.parameters.now c.args.self.now _ c.args.now s.head s.rest (omega (arith, c.self.invariant.count, ap (λ (v : CodelVars). v.count) (c.self.view_is ∙ looked.kept)))
    (sym (looked.late s.head s.rest s.front_is behind)) (c.self.view_is ∙ looked.noted s.head s.rest s.front_is behind)))
    s.is (told_nothing (g.S.Sink.state c.args.sink.now)) (g.met.Q.Queue.keeps_same _) (g.met.S.Sink.keeps_same _)

-- the head is late
pub returns : goal.returns
returns g c =
    let s = split _ _ c.requires.front in
    let behind = behind_is _ _ _ _ _ c.bytes.ensures s.is (ap (λ (f : Front). f.len) s.front_is) in
    let looked = c.if-not-should_drop.ensures in
    let same =
    unmoved c.args.parameters.now c.args.self.now c.should_drop.new.self c.args.now s.head s.rest
    (sym (looked.late s.head s.rest s.front_is behind)) (looked.noted s.head s.rest s.front_is behind) in
    chosen_from _ _ _ _ _ _ _ _ _ _ _ _ same c.choose_late.ensures
