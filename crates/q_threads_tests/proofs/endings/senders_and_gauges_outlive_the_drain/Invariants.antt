use Rattle.q_threads_tests.proofs.endings.senders_and_gauges_outlive_the_drain.Given as goal

-- the two ledgers of each book that is made there
abbrev pub ghosts-outlived-P-Ledger : goal.ghosts-outlived-P-Ledger
ghosts-outlived-P-Ledger g a = record { name = a.unbooked.packets.name; parts = a.unbooked.packets.parts }

abbrev pub ghosts-outlived-B-Ledger : goal.ghosts-outlived-B-Ledger
ghosts-outlived-B-Ledger g a = record { name = a.unbooked.bytes.name; parts = a.unbooked.bytes.parts }
