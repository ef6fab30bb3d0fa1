use Rattle.q_threads_tests.proofs.senders.senders_place_all.Given as goal

-- the two ledgers of each book that is made there
abbrev pub ghosts-driven-P-Ledger : goal.ghosts-driven-P-Ledger
ghosts-driven-P-Ledger g a = record { name = a.unbooked.packets.name; parts = a.unbooked.packets.parts }

abbrev pub ghosts-driven-B-Ledger : goal.ghosts-driven-B-Ledger
ghosts-driven-B-Ledger g a = record { name = a.unbooked.bytes.name; parts = a.unbooked.bytes.parts }
