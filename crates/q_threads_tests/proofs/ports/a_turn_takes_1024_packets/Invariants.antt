use Rattle.q_threads_tests.proofs.ports.a_turn_takes_1024_packets.Given as goal

-- the two ledgers of the book that is made there
abbrev pub ghosts-long_turns-P-Ledger : goal.ghosts-long_turns-P-Ledger
ghosts-long_turns-P-Ledger g a = record { name = a.unbooked.packets.name; parts = a.unbooked.packets.parts }

abbrev pub ghosts-long_turns-B-Ledger : goal.ghosts-long_turns-B-Ledger
ghosts-long_turns-B-Ledger g a = record { name = a.unbooked.bytes.name; parts = a.unbooked.bytes.parts }
