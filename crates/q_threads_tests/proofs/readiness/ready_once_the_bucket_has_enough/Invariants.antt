use Rattle.q_threads_tests.proofs.readiness.ready_once_the_bucket_has_enough.Given as goal

abbrev pub ghosts-booked-P-Ledger : goal.ghosts-booked-P-Ledger
ghosts-booked-P-Ledger g a = record { name = a.unbooked.packets.name; parts = a.unbooked.packets.parts }

abbrev pub ghosts-booked-B-Ledger : goal.ghosts-booked-B-Ledger
ghosts-booked-B-Ledger g a = record { name = a.unbooked.bytes.name; parts = a.unbooked.bytes.parts }
