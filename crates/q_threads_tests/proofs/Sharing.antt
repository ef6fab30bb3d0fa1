use denote.RattleType.{RattleType}
use denote.Param.Send.{IsSend, IsSync, view_send, recorded_send, struct_send, sendable}
use denote.Struct.Declared.{shape}
use Rattle.std.proofs.Crossing as crossing
use Rattle.std.proofs.sync.Mutex.TheSendSync as lock
use Rattle.std.proofs.sync.ledger.Book.TheSendSync as book
use Rattle.std.specs.contracts.sync.Mutex as Mutex
use Rattle.std.specs.declared.sync.ledger.Ledger.{Ghosts}
use Rattle.q_packet.proofs.moment.Moment.TheSendSync as moment
use Rattle.q_packet.proofs.packet.Packet.TheSendSync as packet
use Rattle.q_codel.proofs.fifo.Fifo.TheSendSync as fifo
use Rattle.q_codel.proofs.losses.Losses.TheSendSync as losses
use Rattle.q_fqcodel.proofs.fq_codel.FqCodel.TheSendSync as flows
use Rattle.q_bucket.proofs.bucket.Bucket.TheSendSync as bucket
use Rattle.q_drr.proofs.active.Active.TheSendSync as active
use Rattle.q_model.proofs.event.Event.TheSendSync as event
use Rattle.q_model.proofs.filter.Filter.TheSendSync as filter
use Rattle.q_model.proofs.handle.Handle.TheSendSync as handle
use Rattle.q_model.proofs.row.Row.TheSendSync as row
use Rattle.q_model.proofs.settings.Settings.TheSendSync as settings
use Rattle.q_tree.proofs.commands.handles.Handles.TheSendSync as handles
use Rattle.q_tree.proofs.filters.index_of_filters.IndexOfFilters.TheSendSync as index_of_filters
use Rattle.q_tree.proofs.filters.masked_filter.MaskedFilter.TheSendSync as masked_filter
use Rattle.q_tree.proofs.node.Node.TheLaws.TheKnot as knot
use Rattle.q_device.specs.contracts.device.Device as Device
use Rattle.q_ports.specs.contracts.booked.Booked as Booked
use Rattle.q_ports.specs.contracts.booked.Booked.TheInside as Inside

-- a device may go to another thread: all that it owns may
device_send : IsSend Device.the_row
device_send =
    search (
      settings.the_send,
      moment.the_send,
      losses.the_send,
      event.the_send,
      row.the_send,
      handles.the_send,
      handle.the_send,
      packet.the_send,
      filter.the_send,
      masked_filter.the_send,
      index_of_filters.the_send,
      fifo.the_send,
      bucket.the_send,
      active.the_send,
      flows.the_send,
      crossing.crosses,
      knot.crosses,
      sendable,
    ) depth 60 fits 20000

-- so may a device with its books
booked_send : (T U : RattleType) (g : Ghosts T.Denot) (h : Ghosts U.Denot) → IsSend (Booked.the_row T U g h)
booked_send T U g h =
    view_send (Inside.the_row T U g h) _ _ _ _
    (recorded_send (Inside.the_field T U g h).row _ _ (Inside.the_type T U g h).to_one
    (struct_send (shape (Inside.the_type T U g h)) (device_send, (book.the_send T g, (book.the_send U h, tt)))))

-- and threads may share the lock of one
pub lock_sync : (T U : RattleType) (g : Ghosts T.Denot) (h : Ghosts U.Denot) → IsSync (Mutex.the_row (Booked.the_row T U g h))
lock_sync T U g h = lock.the_sync _ (booked_send T U g h)
