use Rattle.q_threads_tests.proofs.published.what_settles_is_not_shown.Given as goal

-- the two ledgers of each book that is made there
abbrev pub ghosts-settled-P-Ledger : goal.ghosts-settled-P-Ledger
ghosts-settled-P-Ledger g a = record { name = a.unbooked.packets.name; parts = a.unbooked.packets.parts }

abbrev pub ghosts-settled-B-Ledger : goal.ghosts-settled-B-Ledger
ghosts-settled-B-Ledger g a = record { name = a.unbooked.bytes.name; parts = a.unbooked.bytes.parts }
