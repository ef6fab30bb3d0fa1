use Rattle.q_threads_tests.proofs.senders.four_senders_settle_on_a_device_with_defaults.Given as goal

-- the two ledgers of each book that is made there
abbrev pub ghosts-tried-P-Ledger : goal.ghosts-tried-P-Ledger
ghosts-tried-P-Ledger g a = record { name = a.unbooked.packets.name; parts = a.unbooked.packets.parts }

abbrev pub ghosts-tried-B-Ledger : goal.ghosts-tried-B-Ledger
ghosts-tried-B-Ledger g a = record { name = a.unbooked.bytes.name; parts = a.unbooked.bytes.parts }
