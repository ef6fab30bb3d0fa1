use Rattle.std.proofs.Common.{◌∙◌, sym}
use Rattle.std.proofs.lemmas.Option.{slice_get-map}
use Rattle.q_packet.specs.declared.stamped.Stamped.{Stamped}
use Rattle.q_tree.proofs.disciplines.fifo.first_packet.Goals as goal

pub returns : goal.returns
returns c = c.first.ensures ∙ sym (slice_get-map (λ (s : Stamped). s.packet) c.args.fifo.now.packets 0)
