use Rattle.q_threads_tests.proofs.under_lock.turns_and_settling_do_nothing_else.Given as goal

-- the two ledgers of the book that is made there
abbrev pub ghosts-turned_and_settled-P-Ledger : goal.ghosts-turned_and_settled-P-Ledger
ghosts-turned_and_settled-P-Ledger g a = record { name = a.unbooked.packets.name; parts = a.unbooked.packets.parts }

abbrev pub ghosts-turned_and_settled-B-Ledger : goal.ghosts-turned_and_settled-B-Ledger
ghosts-turned_and_settled-B-Ledger g a = record { name = a.unbooked.bytes.name; parts = a.unbooked.bytes.parts }
