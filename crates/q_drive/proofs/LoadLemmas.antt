-- The loads of ports, one after another.
use Rattle.std.proofs.Common.{◌≡◌, ◌∙◌, ℕ, ◌+◌, ◌<◌, ◌≤◌, List, [], ◌∷◌, ◌++◌, refl, ap, arith, ⊎_elim}
use Rattle.std.proofs.lemmas.Bool.{cases_lt}
use Rattle.std.proofs.lemmas.List.{get_or_append_left, get_or_push, length_push}
use Rattle.q_packet.specs.Descriptor.{Descriptor}
use Rattle.q_drive.specs.Drive.{Drive}
use Rattle.q_drive.specs.Loads.{AreLoads, load_of}
