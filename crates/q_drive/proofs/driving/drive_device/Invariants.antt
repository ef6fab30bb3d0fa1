use Rattle.q_drive.proofs.driving.drive_device.Given as goal

abbrev pub ghosts-drive_booked-P-Ledger : goal.ghosts-drive_booked-P-Ledger
ghosts-drive_booked-P-Ledger g a = record { name = a.packets.name; parts = a.packets.parts }

abbrev pub ghosts-drive_booked-B-Ledger : goal.ghosts-drive_booked-B-Ledger
ghosts-drive_booked-B-Ledger g a = record { name = a.bytes.name; parts = a.bytes.parts }
