-- What a poll answers that writes its packet to a place.
-- q_model's specs/Step.antt says which packet it gives; nothing here is of a standard.
use Rattle.std.specs.Prelude.{Bool, if◌then◌else◌}
use Rattle.q_packet.specs.Descriptor.{Descriptor}
use Rattle.q_model.specs.declared.polled.Polled.{Polled}
use Rattle.q_model.specs.declared.polled.Polled.TheVariants as polled
use Rattle.q_device.specs.declared.given.Given.{Given}
use Rattle.q_device.specs.declared.given.Given.TheVariants as given

-- by whether a packet was sent, and whether nothing is queued then
abbrev pub given_of : Bool → Bool → Given
given_of sent empty = if sent then given.Packet else if empty then given.Idle else given.Later

-- what it says of a poll, where this packet is in the place
abbrev pub polled_in : Descriptor → Given → Polled
polled_in p given.Packet = polled.Packet p
polled_in p given.Idle = polled.Idle
polled_in p given.Later = polled.Later
