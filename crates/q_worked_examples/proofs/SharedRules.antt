-- The definitions that a computed row unfolds: a row names one of the words below, and with it unfolds them all.
-- `value_rules` has those of words, `line_rules` those of heads as well, `shared_rules` those of drr and fq_codel, and
-- `report_rules` all of them with those of texts.
use Rattle.std.proofs.Common.{ℕ}
use Rattle.std.specs.Str.{is_utf8, chars}
use Rattle.std.specs.Fmt.{digits}
use Rattle.q_packet.specs.Key.{key_bytes}
use Rattle.q_packet.specs.Head.{head, ipv4_head, ipv6_head}
use Rattle.q_packet.specs.OneAtATime.{one_at_a_time, mixed, finished}
use Rattle.q_codel.specs.Gap.{gap_of}
use Rattle.q_drr.specs.Take.{grants_for}
use Rattle.q_fqcodel.specs.Cleared.{adjust, clear}
use Rattle.q_fqcodel.specs.FqState.{packets_of, bytes_of, rested_flow, retuned, all_packets}
use Rattle.q_fqcodel.specs.Put.{appended, fattest, shed_count, overflow, shed, cut_back, is_lost_itself}
use Rattle.q_fqcodel.specs.Quanta.{need, given, stay, leave}
use Rattle.q_fqcodel.specs.QuantaGiven.{quanta_in, visits, quanta_turned, passed_over, old_list, quanta_old, quanta_given, grants}
use Rattle.q_fqcodel.specs.Selection.{chosen, turned, first_ready, moved, with_rest, arranged}
use Rattle.q_fqcodel.specs.Take.{selected, packet_sent, packets_dropped, flow_after, front, sender, sent_from, dropped_from, paid, with_sent, after_sending}

unfoldable pub shared_rules : ℕ
unfolding gap_of grants_for adjust clear packets_of bytes_of rested_flow retuned all_packets appended fattest shed_count overflow shed cut_back
    is_lost_itself need given stay leave chosen turned first_ready moved with_rest arranged selected packet_sent packets_dropped flow_after front
    sender sent_from dropped_from paid with_sent after_sending quanta_in visits quanta_turned passed_over old_list quanta_old quanta_given grants
shared_rules = 0

unfoldable pub value_rules : ℕ
unfolding is_utf8 chars lib.Utf8.encode
value_rules = 0

unfoldable pub line_rules : ℕ
unfolding value_rules head ipv4_head ipv6_head
line_rules = 0

unfoldable pub report_rules : ℕ
unfolding shared_rules line_rules digits key_bytes one_at_a_time mixed finished
report_rules = 0
