-- What a place of C holds once a lent device, port or outlet is back.
-- The places are this project's own.
use Rattle.std.specs.Prelude.{Some}
use Rattle.std.specs.Borrow.{Lends, MutBor, Fml}
use Rattle.q_ports.specs.Placed.{PortSeen}
use Rattle.q_ports.specs.Rings.{RingSeen}
use Rattle.q_ports.specs.contracts.Outlet.{the_row as outlet_row}
use Rattle.q_ports.specs.contracts.Port.{the_row as port_row}
use Rattle.qtree_c.specs.contracts.abi.held_device.HeldDevice.{the_row as held_device_row}
use Rattle.qtree_c.specs.contracts.abi.held_outlet.HeldOutlet.{the_row as held_outlet_row}
use Rattle.qtree_c.specs.contracts.abi.held_port.HeldPort.{the_row as held_port_row}
use Rattle.qtree_c.specs.contracts.device.opened.Opened.{the_row as opened_row}
use Rattle.qtree_c.specs.declared.abi.held_device.HeldDevice.{HeldDevice}
use Rattle.qtree_c.specs.declared.abi.held_outlet.HeldOutlet.{HeldOutlet}
use Rattle.qtree_c.specs.declared.abi.held_port.HeldPort.{HeldPort}
use Rattle.qtree_c.specs.declared.device.opened.Opened.{Opened}

-- the place with this device, port or outlet, at the same address
abbrev pub with_device : HeldDevice → Opened → HeldDevice
with_device h o = record h { device = Some o.device; last = o.last }

abbrev pub with_port : HeldPort → PortSeen → HeldPort
with_port h p = record h { port = Some p }

abbrev pub with_outlet : HeldOutlet → RingSeen → HeldOutlet
with_outlet h o = record h { outlet = Some o }

-- what is lent is written back as it is left: the place ends with the last value behind the borrow
abbrev pub LendsDevice : MutBor HeldDevice → MutBor Opened → Fml
LendsDevice h o = Lends held_device_row opened_row h o (with_device h.now)

abbrev pub LendsPort : MutBor HeldPort → MutBor PortSeen → Fml
LendsPort h p = Lends held_port_row port_row h p (with_port h.now)

abbrev pub LendsOutlet : MutBor HeldOutlet → MutBor RingSeen → Fml
LendsOutlet h o = Lends held_outlet_row outlet_row h o (with_outlet h.now)
