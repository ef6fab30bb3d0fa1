use Rattle.std.proofs.Common.{◌≡◌, ◌∙◌, ◌++◌, ◌∷◌, [], sym, ap, arith}
use Rattle.std.proofs.lemmas.List.Elements.{All-push, All-same}
use Rattle.q_ports.specs.Rows.{gauge_seen, GaugeSeen}
use Rattle.q_ports.specs.Views.{WriterSeen}
use Rattle.q_ports.proofs.board_writer.BoardWriter.gauges.Goals as goal

pub gauge-requires : goal.gauge-requires
gauge-requires c = c.requires ∙ ap (λ (w : WriterSeen). w.shown.book) (sym c.loop-gauge.invariant.same)

pub loop-gauge-preserved : goal.loop-gauge-preserved
loop-gauge-preserved c =
    let h = c.push_reserved.ensures in
    let inv = c.loop-gauge.invariant in
    let old = c.loop-gauge.all.items in
    let new : c.in_ok-gauge.gauge ≡ gauge_seen c.args.self.now.shown c.args.note.now.rows 0 =
    c.in_ok-gauge.ensures.gauge ∙ ap (λ (w : WriterSeen). gauge_seen w.shown c.args.note.now.rows 0) inv.same in
    record {
      count = omega (arith, h.len, inv.count);
      room = h.capacity ∙ inv.room;
      same = c.gauge.ensures.same ∙ inv.same;
      gauges =
          All-same (λ (g : GaugeSeen). g ≡ gauge_seen c.args.self.now.shown c.args.note.now.rows 0) c.push_reserved.new.self.items (old ++ c.in_ok-gauge.gauge ∷ []) h.items
          (All-push (λ (g : GaugeSeen). g ≡ gauge_seen c.args.self.now.shown c.args.note.now.rows 0) old c.in_ok-gauge.gauge inv.gauges new);
    }
