use Rattle.q_threads_tests.proofs.permits.permits_are_split_and_joined.Given as goal

-- the two ledgers of the book that is made there
abbrev pub ghosts-split_and_joined-P-Ledger : goal.ghosts-split_and_joined-P-Ledger
ghosts-split_and_joined-P-Ledger g a = record { name = a.unbooked.packets.name; parts = a.unbooked.packets.parts }

abbrev pub ghosts-split_and_joined-B-Ledger : goal.ghosts-split_and_joined-B-Ledger
ghosts-split_and_joined-B-Ledger g a = record { name = a.unbooked.bytes.name; parts = a.unbooked.bytes.parts }
