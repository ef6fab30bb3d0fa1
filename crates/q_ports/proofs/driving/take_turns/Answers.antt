use Rattle.std.proofs.Common.{◌∙◌, ℕ, ◌+◌, ◌*◌, ◌^◌, min, ap, arith}
use Rattle.q_ports.proofs.DriveTurnLemmas.{turn-more}
use Rattle.q_ports.proofs.driving.take_turns.Goals as goal

pub loop-turn-preserved-else-count-senders : goal.loop-turn-preserved-else-count-senders
loop-turn-preserved-else-count-senders g c =
    let turn = c.turn-turn in
    let inv = c.loop-turn.invariant in
    record {
      rings = turn.ensures.rings ∙ inv.rings;
      book = turn.ensures.book ∙ inv.book;
      turned = (
        inv.turned.0 + 1,
        omega (arith, inv.turned.1, c.saturating_add-nth.ensures),
        turn-more c.ns-start.result c.args.pace.step inv.turned.0 c.moment_of.result c.args.drain.now c.loop-turn.drain turn.new.self turn.result
            (c.moment_of.ensures ∙ ap (λ (n : ℕ). min (c.ns-start.result + n * c.args.pace.step) (2 ^ 62)) inv.turned.1) inv.turned.2 turn.ensures.turned turn.ensures.same,
      );
    }

-- the same where the turn told nothing
pub loop-turn-preserved-else-count-senders-2 : goal.loop-turn-preserved-else-count-senders-2
loop-turn-preserved-else-count-senders-2 g c =
    let turn = c.turn-turn in
    let inv = c.loop-turn.invariant in
    record {
      rings = turn.ensures.rings ∙ inv.rings;
      book = turn.ensures.book ∙ inv.book;
      turned = (
        inv.turned.0 + 1,
        omega (arith, inv.turned.1, c.saturating_add-nth.ensures),
        turn-more c.ns-start.result c.args.pace.step inv.turned.0 c.moment_of.result c.args.drain.now c.loop-turn.drain turn.new.self turn.result
            (c.moment_of.ensures ∙ ap (λ (n : ℕ). min (c.ns-start.result + n * c.args.pace.step) (2 ^ 62)) inv.turned.1) inv.turned.2 turn.ensures.turned turn.ensures.same,
      );
    }

-- the same where the turn was refused
pub loop-turn-preserved : goal.loop-turn-preserved
loop-turn-preserved g c =
    let turn = c.turn-turn in
    let inv = c.loop-turn.invariant in
    record {
      rings = turn.ensures.rings ∙ inv.rings;
      book = turn.ensures.book ∙ inv.book;
      turned = (
        inv.turned.0 + 1,
        omega (arith, inv.turned.1, c.saturating_add-nth.ensures),
        turn-more c.ns-start.result c.args.pace.step inv.turned.0 c.moment_of.result c.args.drain.now c.loop-turn.drain turn.new.self turn.result
            (c.moment_of.ensures ∙ ap (λ (n : ℕ). min (c.ns-start.result + n * c.args.pace.step) (2 ^ 62)) inv.turned.1) inv.turned.2 turn.ensures.turned turn.ensures.same,
      );
    }
