use Rattle.std.proofs.Common.{◌≡◌, List, arith, rules}
use Rattle.q_packet.specs.declared.stamped.Stamped.{Stamped}
use Rattle.q_fqcodel.specs.Put.{lost_by_put}
use Rattle.q_model.specs.Beneath as beneath
use Rattle.q_model.specs.Beneath.{totals_in}
use Rattle.q_tree.proofs.disciplines.FlowCounts.{count-sum, packets-bare, bytes-bare}
use Rattle.q_tree.proofs.disciplines.fq_codel.put_in_flow.Goals as goal

pub returns-clause-put : goal.returns-clause-put
returns-clause-put g c =
    let lost : List Stamped = lost_by_put c.args.queue.now.state c.args.packet.now c.args.now in
    let packets : c.put_counted-dropped.result.packets ≡ (totals_in (beneath.packets_of lost)).packets = omega (arith, c.put_counted-dropped.ensures.packets, packets-bare lost, count-sum lost) in
    let bytes : c.put_counted-dropped.result.bytes ≡ (totals_in (beneath.packets_of lost)).bytes = omega (arith, c.put_counted-dropped.ensures.bytes, bytes-bare lost) in
    record {
      after = search rules;
      loss = search rules;
      refused = search rules;
      dropped = λ i. record { packets = packets i; bytes = bytes i };
      told = c.put_counted-dropped.ensures.lost;
    }
