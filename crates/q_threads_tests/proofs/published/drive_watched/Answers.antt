use denote.Param.Send.{sendable}
use Rattle.std.proofs.Crossing as crossing
use Rattle.std.proofs.sync.Mutex.TheSendSync as lock
use Rattle.q_ports.proofs.gauge.Gauge.TheSendSync as gauge
use Rattle.q_threads_tests.proofs.Sharing.{lock_sync}
use Rattle.q_threads_tests.proofs.published.drive_watched.Goals as goal

-- the senders share the gate, which has the lock and the gauge
pub driven_all-given_up-requires-sync-G : goal.driven_all-given_up-requires-sync-G
driven_all-given_up-requires-sync-G g c κs within = let handle = c.type_bounds.sync-R in search (lock_sync, lock.the_sync, gauge.the_send, crossing.crosses, sendable) depth 60 fits 20000
