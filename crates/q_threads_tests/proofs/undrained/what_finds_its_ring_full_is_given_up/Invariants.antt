use Rattle.q_threads_tests.proofs.undrained.what_finds_its_ring_full_is_given_up.Given as goal

-- the two ledgers of each book that is made there
abbrev pub ghosts-undrained-P-Ledger : goal.ghosts-undrained-P-Ledger
ghosts-undrained-P-Ledger g a = record { name = a.unbooked.packets.name; parts = a.unbooked.packets.parts }

abbrev pub ghosts-undrained-B-Ledger : goal.ghosts-undrained-B-Ledger
ghosts-undrained-B-Ledger g a = record { name = a.unbooked.bytes.name; parts = a.unbooked.bytes.parts }
