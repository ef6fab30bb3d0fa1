-- What C owns with a boxed device, port or outlet.
use Rattle.std.specs.Prelude.{◌≡◌, ℕ, Option, Some, None}
use Rattle.std.specs.Coded.{Coded, coded_option}
use mathlib.Core.HLevel.{Π_prop}
use denote.Struct.Props.{≡_prop}
use base.Fml.{Fml, ftrue}
use denote.RattleType.{RattleType}
use denote.RawPtr.{Ptr}
use mir.Syntax.{Ty}
use Rattle.std.specs.declared.alloc.Global.{Global}
use Rattle.std.specs.contracts.impls.GlobalAllocator.TheImpl.{ghosts}
use Rattle.std.specs.Box.Ownership.{box_owns}
use Rattle.q_device.specs.device.DeviceSeen.{DeviceSeen}
use Rattle.q_device.specs.log.LastNoted.{LastNoted}
use Rattle.qtree_c.specs.declared.device.opened.Opened.{Opened}

-- the one handle of the C library's heap
abbrev heap : Global
heap = record { memory = record { seal = record {} } }

-- the right to free a block of that heap
abbrev pub token : Ty → Ptr → Fml
token = ghosts.dealloc_token heap

-- A value in memory and the right to free its block; nothing where there is none.
abbrev pub held_owns : (R : RattleType) → Ptr → Option R.Denot → Fml
held_owns R p None = ftrue
held_owns R p (Some x) = box_owns token R p x

-- a device with its ring, in one box; nothing where there is no device
abbrev pub opened_of : Option DeviceSeen → Option LastNoted → Option Opened
opened_of None l = None
opened_of (Some d) l = Some (record { device = d; last = l })

-- how a proof tells two of these apart
abbrev pub held_code : (R : RattleType) → Coded (Option R.Denot)
held_code R = coded_option R.coded

-- a place in this state is closed only where it holds nothing
abbrev pub IsClosed : {A : Type 0} → ℕ → Option A → Type 0
IsClosed state m = state ≡ 0 → m ≡ None

pub IsClosed-prop : (R : RattleType) (state : ℕ) (m : Option R.Denot) → IsProp (IsClosed state m)
IsClosed-prop R state m = Π_prop (λ _. ≡_prop (held_code R) m None)
