use Rattle.q_laws.proofs.RoomAgain.{room-again}
use Rattle.q_laws.proofs.memory.room_is_there_again.Goals as goal

pub returns : goal.returns
returns c = room-again c.args.before.now c.args.after.now c.device_tells_its_losses.ensures c.device_tells_its_losses-2.ensures
