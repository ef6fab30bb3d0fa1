-- What a poll answers: the place and what is returned say together what the reply says, and the packet of the reply is the one that the tree gives.
use Rattle.std.proofs.Common.{◌≡◌, Bool, true, false, Option, Some, None, refl}
use Rattle.std.specs.Prelude.{is_some, unwrap_or}
use Rattle.q_packet.specs.Descriptor.{Descriptor}
use Rattle.q_model.specs.declared.reply.Reply.TheVariants as reply
use Rattle.q_model.specs.Step.{polled_of}
use Rattle.q_device.specs.device.Giving.{given_of, polled_in}
use Rattle.q_device.specs.Laws.{given_in}

pub told-poll : (g : Option Descriptor) (before : Descriptor) (empty : Bool) → polled_in (unwrap_or g before) (given_of (is_some g) empty) ≡ polled_of g empty
told-poll (Some p) before empty = refl
told-poll None before true = refl
told-poll None before false = refl

pub polled-gives : (g : Option Descriptor) (empty : Bool) → given_in (reply.Polled (polled_of g empty)) ≡ g
polled-gives (Some p) empty = refl
polled-gives None true = refl
polled-gives None false = refl
