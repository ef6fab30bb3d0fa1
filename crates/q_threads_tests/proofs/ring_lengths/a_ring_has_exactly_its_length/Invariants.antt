use Rattle.q_threads_tests.proofs.ring_lengths.a_ring_has_exactly_its_length.Given as goal

-- the two ledgers of each book that is made there
abbrev pub ghosts-filled-P-Ledger : goal.ghosts-filled-P-Ledger
ghosts-filled-P-Ledger g a = record { name = a.unbooked.packets.name; parts = a.unbooked.packets.parts }

abbrev pub ghosts-filled-B-Ledger : goal.ghosts-filled-B-Ledger
ghosts-filled-B-Ledger g a = record { name = a.unbooked.bytes.name; parts = a.unbooked.bytes.parts }
