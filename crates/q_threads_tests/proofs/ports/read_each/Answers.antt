use Rattle.std.proofs.Common.{◌≡◌, ◌∙◌}
use Rattle.std.proofs.lemmas.List.Elements.{All-rest}
use Rattle.std.specs.Vec.Iter.{into_iter_items}
use Rattle.q_ports.specs.Rows.{new_gauge, shown_on, GaugeSeen}
use Rattle.q_threads_tests.proofs.ports.read_each.Goals as goal

pub loop-gauge-preserved : goal.loop-gauge-preserved
loop-gauge-preserved g c =
    let at = c.loop-gauge.invariant in
    record {
      book = c.read_and_learn.ensures.book ∙ at.book;
      gauges =
          All-rest (λ (s : GaugeSeen). s ≡ new_gauge (shown_on c.args.drain.now.board)) c.in-Some.gauge (into_iter_items c.next.new.self)
          (into_iter_items c.loop-gauge.gauge-iterator) c.in-Some.ensures.steps.0 at.gauges;
    }
