use Rattle.std.proofs.Common.{◌≡◌, ◌+◌, ◌-◌, ◌<◌, ◌≤◌, ◌∙◌, ℕ, List, length, refl, sym, ap, subst, arith}
use Rattle.std.specs.Prelude.{◌/◌, ◌^◌, IfSome, min, replicate, slice_get, take}
use Rattle.std.proofs.lemmas.List.{length-take, length-take-le, take-take}
use Rattle.q_packet.specs.Descriptor.{Descriptor}
use Rattle.q_packet.specs.Stored.{descriptor}
use Rattle.q_packet.specs.declared.stored_packet.StoredPacket.{StoredPacket}
use Rattle.q_model.specs.declared.fate.Fate.TheVariants.{Kept}
use Rattle.q_model.specs.Beneath.{beneath}
use Rattle.q_model.specs.Step.{DeviceState}
use Rattle.q_codel.specs.Bursts.{IsShort}
use Rattle.q_tree.specs.arrival.KeepSteps.{CanBeKeptBelow}
use Rattle.q_tree.specs.Bursts.{room_at}
use Rattle.q_tree.specs.departure.GiveSteps.{IsNoFifo}
use Rattle.q_tree.specs.Kept as code
use Rattle.q_device.specs.declared.device.Device.TheInside.{Inside}
use Rattle.q_device.specs.device.Bursts.{arrived_by, budget_at, fates_by}
use Rattle.q_device.specs.device.DeviceSeen.{DeviceSeen, longest}
use Rattle.q_device.specs.device.Keeping.{IsKeptDevice, device_seen}
use Rattle.q_device.specs.device.Room.{KeepsPlaces}
use Rattle.q_device.specs.Events.{with_memory}
use Rattle.q_device.proofs.device.BurstEvents.{ArriveHere, arrive-here, budget-of, burst-fields, next-of}
use Rattle.q_device.proofs.device.Device.arrive_burst.Goals as goal
use Rattle.q_device.proofs.device.Device.arrive_burst.Goals.{After-arrive_burst-kept}
use Rattle.q_device.proofs.device.EventLemmas.{waits-numbers}
use Rattle.q_device.proofs.device.KeptLemmas.{spared-kept}

-- the packets that came, which are the first ones
abbrev came : After-arrive_burst-kept → List StoredPacket
came c = take c.arrive_burst-kept.result c.args.packets.now

-- the device with what is left of the budget, or a new one
abbrev renewed : After-arrive_burst-kept → Inside
renewed c = record c.self.inside { spare = c.renewed-spare.result }

abbrev after : After-arrive_burst-kept → Inside
after c = record c.self.inside { tree = c.arrive_burst-kept.new.self; spare = c.renewed-spare.result - c.arrive_burst-kept.result }

few : (c : After-arrive_burst-kept) → c.arrive_burst-kept.result ≤ c.min-most.result
few c = omega (arith, c.arrive_burst-kept.ensures.most, length-take c.min-most.result c.args.packets.now)

counted : (c : After-arrive_burst-kept) → length (came c) ≡ c.arrive_burst-kept.result
counted c = length-take-le c.arrive_burst-kept.result c.args.packets.now (omega (arith, few c, c.min-most.ensures))

here : (c : After-arrive_burst-kept) → ArriveHere c.args.now (came c) c.self.inside (after c)
here c =
    let a : Inside = renewed c in
    let k = c.arrive_burst-kept.result in
    let budget = c.renewed-spare.ensures in
    let keeps : IsKeptDevice a = spared-kept c.self.inside c.self.invariant c.renewed-spare.result budget.room budget.packets budget.bytes budget.full in
    let cs : List StoredPacket = take k (take c.min-most.result c.args.packets.now) in
    let same : cs ≡ came c = take-take k c.min-most.result c.args.packets.now (few c) in
    let made = c.arrive_burst-kept.ensures in
    let all : (a.spare - k) + length cs ≡ a.spare = omega (arith, counted c, ap (λ (xs : List StoredPacket). length xs) same, few c, c.min-most.ensures) in
    let each =
    arrive-here c.args.now c.later-at.result cs a (a.spare - k) keeps c.later-at.ensures c.moment_range.ensures all
    (burst-fields a.tree.tree.device.mtu cs made.taken made.widths) made.kept in
    let found = subst (λ (xs : List StoredPacket). ArriveHere c.args.now xs a (after c)) same
    (subst (λ (x : DeviceState code.Kept). ArriveHere c.args.now cs a (record a { tree = x; spare = a.spare - k })) (sym made.after) each) in
    record { keeps = found.keeps; seen = found.seen; fates = found.fates; places = found.places }

pub invariant_of-self : goal.invariant_of-self
invariant_of-self c = (here (goal.at.invariant_of-self c).After-arrive_burst-kept).keeps

pub returns-clause-arrived : goal.returns-clause-arrived
returns-clause-arrived c =
    let d = (goal.at.returns-clause-arrived c).After-arrive_burst-kept in
    (here d).seen ∙ ap (λ (x : DeviceSeen). with_memory (device_seen (after d)).memory (arrived_by c.args.now (came d) x)) c.self.view_is

pub returns-clause-fates : goal.returns-clause-fates
returns-clause-fates c =
    let d = (goal.at.returns-clause-fates c).After-arrive_burst-kept in
    sym (ap (λ (x : DeviceSeen). fates_by c.args.now (came d) x) c.self.view_is) ∙ (here d).fates ∙ ap (λ (n : ℕ). replicate n Kept) (counted d)

pub returns-clause-places : goal.returns-clause-places
returns-clause-places c =
    let d = (goal.at.returns-clause-places c).After-arrive_burst-kept in
    subst (λ (x : DeviceSeen). KeepsPlaces x (device_seen (after d))) c.self.view_is (record { queues = (here d).places; losses = omega arith; events = refl })

-- a burst that ended before all packets, and before the budget, ended before those that were given to the fifo
within-budget : (k all most spare budget : ℕ) → k ≤ most → most ≡ min all spare → k < budget → (spare < all → spare ≡ budget) → k < all → k < most
within-budget k all most spare budget few is low least lt = grind (arith, few, is, low, least, lt)

-- it ended for no want of a budget
within-here : (c : After-arrive_burst-kept) → c.arrive_burst-kept.result < budget_at (device_seen c.self.inside) → c.arrive_burst-kept.result < length c.args.packets.now → c.arrive_burst-kept.result < c.min-most.result
within-here c budget =
    let a : Inside = c.self.inside in
    let k = c.arrive_burst-kept.result in
    let some = budget-of k (device_seen a) budget in
    let low =
    subst (λ n. k < min (min (a.losses.places - length a.losses.waiting - n) (2 ^ 64 - 1 - a.tree.tree.top.counts.arrived.packets))
    ((2 ^ 64 - 1 - a.tree.tree.top.counts.arrived.bytes) / longest))
    (ap (λ (ps : List Descriptor). length ps) (waits-numbers a.tree)) some.1 in
    within-budget k (length c.args.packets.now) c.min-most.result c.renewed-spare.result
    (min (min (a.losses.places - length a.losses.waiting - length (beneath a.tree.tree.root)) (2 ^ 64 - 1 - a.tree.tree.top.counts.arrived.packets))
    ((2 ^ 64 - 1 - a.tree.tree.top.counts.arrived.bytes) / longest))
    (few c) c.min-most.ensures low (c.renewed-spare.ensures.least some.0)

next-here : (c : After-arrive_burst-kept) → c.arrive_burst-kept.result < budget_at (device_seen c.self.inside) → c.arrive_burst-kept.result < room_at c.self.inside.tree.tree.root
    → IfSome (slice_get c.args.packets.now c.arrive_burst-kept.result) (λ (p : StoredPacket). IsShort c.self.inside.tree.tree.device.mtu p → ⊥)
next-here c budget room =
    next-of (λ (p : StoredPacket). IsShort c.self.inside.tree.tree.device.mtu p → ⊥) c.args.packets.now c.min-most.result c.arrive_burst-kept.result (within-here c budget)
    (c.arrive_burst-kept.ensures.next room)

pub returns-clause-next : goal.returns-clause-next
returns-clause-next c =
    let d = (goal.at.returns-clause-next c).After-arrive_burst-kept in
    let k = c.arrive_burst-kept.result in
    subst (λ (x : DeviceSeen). k < budget_at x → k < room_at x.memory.tree.tree.root
    → IfSome (slice_get c.args.packets.now k) (λ (p : StoredPacket). IsShort x.memory.tree.tree.device.mtu p → ⊥)) c.self.view_is (next-here d)

-- nor below another root
below-here : (c : After-arrive_burst-kept) → c.arrive_burst-kept.result < budget_at (device_seen c.self.inside) → IsNoFifo c.self.inside.tree.tree.root.own.discipline
    → IfSome (slice_get c.args.packets.now c.arrive_burst-kept.result)
    (λ (p : StoredPacket). IsShort c.self.inside.tree.tree.device.mtu p → CanBeKeptBelow (descriptor p) c.arrive_burst-kept.new.self.tree.root → ⊥)
below-here c budget other =
    let a : Inside = c.self.inside in
    let k = c.arrive_burst-kept.result in
    next-of (λ (p : StoredPacket). IsShort a.tree.tree.device.mtu p → CanBeKeptBelow (descriptor p) c.arrive_burst-kept.new.self.tree.root → ⊥) c.args.packets.now c.min-most.result k
    (within-here c budget) (c.arrive_burst-kept.ensures.below other)

pub returns-clause-below : goal.returns-clause-below
returns-clause-below c =
    let d = (goal.at.returns-clause-below c).After-arrive_burst-kept in
    let k = c.arrive_burst-kept.result in
    subst (λ (x : DeviceSeen). k < budget_at x → IsNoFifo x.memory.tree.tree.root.own.discipline
    → IfSome (slice_get c.args.packets.now k) (λ (p : StoredPacket). IsShort x.memory.tree.tree.device.mtu p → CanBeKeptBelow (descriptor p) c.arrive_burst-kept.new.self.tree.root → ⊥))
    c.self.view_is (below-here d)
