-- The definitions that are unfolded where a replay is computed: a premise names `all_rules`, and with it unfolds them all.
use Rattle.std.proofs.Common.{ℕ}
use Rattle.q_codel.specs.Gap.{gap_of}
use Rattle.q_drr.specs.Take.{grants_for}
use Rattle.q_fqcodel.specs.Cleared.{adjust, clear}
use Rattle.q_fqcodel.specs.FqState.{packets_of, bytes_of, rested_flow, retuned, all_packets}
use Rattle.q_fqcodel.specs.Put.{appended, fattest, shed_count, overflow, shed, cut_back, is_lost_itself}
use Rattle.q_fqcodel.specs.Quanta.{need, given, stay, leave}
use Rattle.q_fqcodel.specs.QuantaGiven.{quanta_in, visits, quanta_turned, passed_over, old_list, quanta_old, quanta_given, grants}
use Rattle.q_fqcodel.specs.Selection.{chosen, turned, first_ready, moved, with_rest, arranged}
use Rattle.q_fqcodel.specs.Take.{selected, packet_sent, packets_dropped, flow_after, front, sender, sent_from, dropped_from, paid, with_sent, after_sending}
use Rattle.q_law_examples.specs.Replays.{line_before, line_during, line_at_times, bands_tree, bands_before, bands_second, bands_during, bands_flow, flows_before, flows_during, flows_then}

unfoldable pub all_rules : ℕ
unfolding gap_of grants_for adjust clear packets_of bytes_of rested_flow retuned all_packets appended fattest shed_count overflow shed cut_back
    is_lost_itself need given stay leave chosen turned first_ready moved with_rest arranged selected packet_sent packets_dropped flow_after front
    sender sent_from dropped_from paid with_sent after_sending quanta_in visits quanta_turned passed_over old_list quanta_old quanta_given grants
    line_before line_during line_at_times bands_tree bands_before bands_second bands_during bands_flow flows_before flows_during flows_then
all_rules = 0
