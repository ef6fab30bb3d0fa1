use Rattle.q_threads_tests.proofs.refused.what_was_refused_succeeds_later.Given as goal

-- the two ledgers of each book that is made there
abbrev pub ghosts-refused-P-Ledger : goal.ghosts-refused-P-Ledger
ghosts-refused-P-Ledger g a = record { name = a.unbooked.packets.name; parts = a.unbooked.packets.parts }

abbrev pub ghosts-refused-B-Ledger : goal.ghosts-refused-B-Ledger
ghosts-refused-B-Ledger g a = record { name = a.unbooked.bytes.name; parts = a.unbooked.bytes.parts }
