use Rattle.std.proofs.Common.{◌≡◌, ◌≤◌, ℕ, All, IfSome, length, Some, None, refl, sym, ap, ◌∙◌, subst, arith}
use Rattle.q_drr.specs.Changes.{HeadsFit}
use Rattle.q_drr.specs.Rounds.{CanGo, IsRound}
use Rattle.q_drr.specs.Take.{prepared, head_at}
use Rattle.q_drr.proofs.RoundLemmas.{prepared_gone, measure_gone, named_gone, none_needed, heads_fit, can_go}
use Rattle.q_drr.proofs.TakeLemmas.{Front, front_is, front_named, covers, falls_short, nothing_shown, come_to, met_at, served_nothing, served_head, empty_front, prepared_empty, met_nobody, served_nobody}
use Rattle.q_drr.proofs.take.take_by_turns.Goals.{In-Some}
use Rattle.q_drr.proofs.take.take_by_turns.Goals as goal

front : (c : In-Some) → Front c.in-Some.class c.loop-class.active
front c = front_is c.in-Some.class c.loop-class.active c.in-Some.ensures.front

pub bounds : goal.bounds
bounds c = front_named (length c.args.heads.now) c.loop-class.active c.in-Some.class (front c) c.loop-class.invariant.named

pub returns-in_default-heads-clause-met : goal.returns-in_default-heads-clause-met
returns-in_default-heads-clause-met c =
    let f = front (goal.at.returns-in_default-heads-clause-met c).In-Some in
    let shows = nothing_shown _ c.in_default-heads.not-Some in
    met_at (head_at c.args.heads.now) c.args.active.now c.loop-class.active c.in-Some.class f None shows
    (come_to (head_at c.args.heads.now) c.args.active.now c.loop-class.active c.in-Some.class f None shows (λ len e. cc) c.in-Some.ensures.lawful c.loop-class.invariant.same)

pub returns-in_default-heads-clause-after : goal.returns-in_default-heads-clause-after
returns-in_default-heads-clause-after c =
    let f = front (goal.at.returns-in_default-heads-clause-after c).In-Some in
    let shows = nothing_shown _ c.in_default-heads.not-Some in
    served_nothing (head_at c.args.heads.now) c.args.active.now c.loop-class.active c.in-Some.class f shows
    (come_to (head_at c.args.heads.now) c.args.active.now c.loop-class.active c.in-Some.class f None shows (λ len e. cc) c.in-Some.ensures.lawful c.loop-class.invariant.same)

pub returns-in-Send-clause-met : goal.returns-in-Send-clause-met
returns-in-Send-clause-met c =
    let f = front (goal.at.returns-in-Send-clause-met c).In-Some in
    let long = covers c.loop-class.active c.in-Some.class c.in-Some-heads.len f c.in-Send.ensures.answer in
    met_at (head_at c.args.heads.now) c.args.active.now c.loop-class.active c.in-Some.class f (Some c.in-Some-heads.len) c.in-Some-heads.is
    (come_to (head_at c.args.heads.now) c.args.active.now c.loop-class.active c.in-Some.class f (Some c.in-Some-heads.len) c.in-Some-heads.is
    (λ len e. let same : c.in-Some-heads.len ≡ len = cc in omega (arith, long, same)) c.in-Some.ensures.lawful c.loop-class.invariant.same)

pub returns-in-Send-clause-after : goal.returns-in-Send-clause-after
returns-in-Send-clause-after c =
    let f = front (goal.at.returns-in-Send-clause-after c).In-Some in
    let long = covers c.loop-class.active c.in-Some.class c.in-Some-heads.len f c.in-Send.ensures.answer in
    c.turn.ensures.sends c.in-Send.is ∙ served_head (head_at c.args.heads.now) c.args.active.now c.loop-class.active c.in-Some.class c.in-Some-heads.len f c.in-Some-heads.is long
    (come_to (head_at c.args.heads.now) c.args.active.now c.loop-class.active c.in-Some.class f (Some c.in-Some-heads.len) c.in-Some-heads.is
    (λ len e. let same : c.in-Some-heads.len ≡ len = cc in omega (arith, long, same)) c.in-Some.ensures.lawful c.loop-class.invariant.same)

fit : (c : In-Some) → HeadsFit (head_at c.args.heads.now) c.loop-class.active.max_len
fit c = heads_fit c.args.heads.now c.loop-class.active.max_len
    (subst (λ m. All (λ head. IfSome head (λ len. len ≤ m)) c.args.heads.now) (sym c.loop-class.invariant.max_len) c.requires.in_range)

abbrev goes : (c : In-Some) (len : ℕ) → head_at c.args.heads.now c.in-Some.class ≡ Some len → CanGo len c.loop-class.round c.loop-class.active
goes c len is = can_go (head_at c.args.heads.now) c.loop-class.active c.in-Some.class len c.loop-class.round c.in-Some.ensures.front is (fit c) c.loop-class.invariant.round

pub turn-requires-clause-round : goal.turn-requires-clause-round
turn-requires-clause-round c = goes (goal.at.turn-requires-clause-round c).In-Some c.in-Some-heads.len c.in-Some-heads.is

pub loop-class-smaller : goal.loop-class-smaller
loop-class-smaller c =
    let some = (goal.at.loop-class-smaller c).In-Some in
    let f = front some in
    let s = c.loop-class.active in
    let heads = head_at c.args.heads.now in
    let short = falls_short s c.in-Some.class c.in-Some-heads.len f c.in-Granted.ensures.answer in
    let gone = c.turn.ensures.goes c.in-Granted.is (goes some c.in-Some-heads.len c.in-Some-heads.is) in
    measure_gone heads s c.turn.new.active c.in-Some.class c.in-Some-heads.len c.turn.new.self c.in-Some.ensures.lawful f c.in-Some-heads.is short
    (fit some c.in-Some.class c.in-Some-heads.len c.in-Some-heads.is) gone

pub loop-class-preserved : goal.loop-class-preserved
loop-class-preserved c =
    let some = (goal.at.loop-class-preserved c).In-Some in
    let f = front some in
    let s = c.loop-class.active in
    let heads = head_at c.args.heads.now in
    let short = falls_short s c.in-Some.class c.in-Some-heads.len f c.in-Granted.ensures.answer in
    let gone = c.turn.ensures.goes c.in-Granted.is (goes some c.in-Some-heads.len c.in-Some-heads.is) in
    let fits = fit some c.in-Some.class c.in-Some-heads.len c.in-Some-heads.is in
    record {
      same = prepared_gone heads s c.turn.new.active c.in-Some.class c.in-Some-heads.len c.turn.new.self c.in-Some.ensures.lawful f c.in-Some-heads.is short fits gone
          ∙ c.loop-class.invariant.same;
      named = named_gone heads s c.turn.new.active c.in-Some.class c.in-Some-heads.len c.turn.new.self c.in-Some.ensures.lawful f c.in-Some-heads.is short fits gone
          (length c.args.heads.now) c.loop-class.invariant.named;
      max_len = ap (λ v. v.max_len) gone.after ∙ c.loop-class.invariant.max_len;
      round = gone.round;
    }

pub loop-class-init : goal.loop-class-init
loop-class-init c = record {
  same = refl;
  named = c.requires.named;
  max_len = refl;
  round = subst (λ r. IsRound (head_at c.args.heads.now) r c.args.active.now) (sym c.new-round.ensures) (none_needed (head_at c.args.heads.now) c.args.active.now.classes c.args.active.now.active);
}

ready : (c : goal.In_default) → prepared (head_at c.args.heads.now) c.args.active.now ≡ c.loop-class.active
ready c = sym c.loop-class.invariant.same ∙ prepared_empty (head_at c.args.heads.now) c.loop-class.active c.front.ensures.lawful (empty_front c.loop-class.active c.in_default.ensures.front)

pub returns-clause-met : goal.returns-clause-met
returns-clause-met c = met_nobody (head_at c.args.heads.now) c.args.active.now c.loop-class.active (empty_front c.loop-class.active c.in_default.ensures.front) (ready c)

pub returns-clause-after : goal.returns-clause-after
returns-clause-after c = served_nobody (head_at c.args.heads.now) c.args.active.now c.loop-class.active (empty_front c.loop-class.active c.in_default.ensures.front) (ready c)
