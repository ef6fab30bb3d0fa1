use Rattle.q_threads_tests.proofs.ports.ports_on_one_thread.Given as goal

-- the two ledgers of each book that is made there
abbrev pub ghosts-ring_of_one-P-Ledger : goal.ghosts-ring_of_one-P-Ledger
ghosts-ring_of_one-P-Ledger g a = record { name = a.unbooked.packets.name; parts = a.unbooked.packets.parts }

abbrev pub ghosts-ring_of_one-B-Ledger : goal.ghosts-ring_of_one-B-Ledger
ghosts-ring_of_one-B-Ledger g a = record { name = a.unbooked.bytes.name; parts = a.unbooked.bytes.parts }

abbrev pub ghosts-going_round-P-Ledger : goal.ghosts-going_round-P-Ledger
ghosts-going_round-P-Ledger g a = record { name = a.unbooked.packets.name; parts = a.unbooked.packets.parts }

abbrev pub ghosts-going_round-B-Ledger : goal.ghosts-going_round-B-Ledger
ghosts-going_round-B-Ledger g a = record { name = a.unbooked.bytes.name; parts = a.unbooked.bytes.parts }
