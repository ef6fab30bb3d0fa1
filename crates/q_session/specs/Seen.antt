-- What the code keeps of a session, as a contract sees it: the device without its memory.
use Rattle.q_session.specs.Session.{SessionSeen}
use Rattle.q_session.specs.declared.device_session.DeviceSession.TheInside.{Inside}

abbrev pub session_seen : Inside → SessionSeen
session_seen a = record {
  seed = a.seed;
  settings = a.device.settings;
  state = record { device = a.device.device; waiting = a.device.waiting; moment = a.moment; packets = a.packets; not_done = a.not_done };
}
