-- Packets that come to a tree, or leave it, one after another, all at the same time.
-- What a single one does is in q_model's specs/Step.antt; that some need nothing to be asked is this project's own.
use Rattle.std.specs.Prelude.{◌≡◌, ℕ, zero, suc, List, [], ◌∷◌, ◌++◌, drop, length, map, Some}
use Rattle.q_packet.specs.Descriptor.{Descriptor}
use Rattle.q_codel.specs.Bursts.{room_of, stamped_at}
use Rattle.q_model.specs.declared.fate.Fate.TheVariants.{Kept}
use Rattle.q_model.specs.declared.reply.Reply.TheVariants.{Fate}
use Rattle.q_model.specs.declared.row.Row.{Row}
use Rattle.q_model.specs.declared.totals.Totals.{Totals}
use Rattle.q_model.specs.Beneath.{totals_in}
use Rattle.q_model.specs.Node as spec
use Rattle.q_model.specs.Step.{DeviceState, arrive, poll}
use Rattle.q_model.specs.Tally.{Tally}
use Rattle.q_model.specs.TreeState.{given}
use Rattle.q_tree.specs.arrival.Arrivals.{minus, plus}
use Rattle.q_tree.specs.Kept as code
use Rattle.q_tree.specs.Kept.{kept}

-- ---- so many single calls

-- the device after these packets arrived
abbrev pub arrived_each : {M : Type 0} → Tally M → ℕ → List Descriptor → DeviceState M → DeviceState M
arrived_each t now [] d = d
arrived_each t now (p ∷ ps) d = arrived_each t now ps (arrive t p now d).device

-- each of them is kept, and nothing is lost for any of them
pub record IsKeptAlone {M : Type 0} (t : Tally M) (now : ℕ) (p : Descriptor) (d : DeviceState M) : Type 0 where
  pub fate : (arrive t p now d).reply ≡ Fate Kept
  pub losses : (arrive t p now d).losses ≡ []

abbrev pub AreKept : {M : Type 0} → Tally M → ℕ → List Descriptor → DeviceState M → Type 0
AreKept t now [] d = Unit {0}
AreKept t now (p ∷ ps) d = IsKeptAlone t now p d × AreKept t now ps (arrive t p now d).device

-- the device after so many polls
abbrev pub polled_each : {M : Type 0} → Tally M → ℕ → ℕ → DeviceState M → DeviceState M
polled_each t now zero d = d
polled_each t now (suc n) d = polled_each t now n (poll t now d).device

-- each of them gives one of these packets, and nothing is lost for any of them
pub record IsGivenAlone {M : Type 0} (t : Tally M) (now : ℕ) (p : Descriptor) (d : DeviceState M) : Type 0 where
  pub packet : given now d.tree ≡ Some p
  pub losses : (poll t now d).losses ≡ []

abbrev pub AreGiven : {M : Type 0} → Tally M → ℕ → List Descriptor → DeviceState M → Type 0
AreGiven t now [] d = Unit {0}
AreGiven t now (p ∷ ps) d = IsGivenAlone t now p d × AreGiven t now ps (poll t now d).device

-- So many packets were given, and the first places tell of them. What is behind those stays.
pub record IsGivenOut {A : Type 0} (told : Descriptor → A) (now count : ℕ) (before after : List A) (d n : DeviceState code.Kept) : Type 0 where
  pub packets : List Descriptor
  pub counted : length packets ≡ count
  pub places : after ≡ map told packets ++ drop count before
  pub given : AreGiven kept now packets d
  pub polled : n ≡ polled_each kept now count d

-- ---- at one node

-- How many packets more are kept with nothing asked: a fifo under a limit in packets keeps as many as that allows and it has places for.
abbrev pub room_in : ℕ → spec.Discipline → ℕ
room_in places (spec.Fifo limit queue) = room_of (record { packets = queue; limit = limit; places = places })
room_in places (spec.FqCodel s) = 0
room_in places (spec.Prio priomap) = 0
room_in places (spec.Tbf bucket limit) = 0
room_in places (spec.Drr s) = 0

abbrev pub room_at : spec.Node code.Kept → ℕ
room_at n = room_in n.memory.places n.own.discipline

-- a discipline that has queued these packets behind its own
abbrev pub queued_all : ℕ → List Descriptor → spec.Discipline → spec.Discipline
queued_all now ps (spec.Fifo limit queue) = spec.Fifo limit (queue ++ stamped_at now ps)
queued_all now ps (spec.FqCodel s) = spec.FqCodel s
queued_all now ps (spec.Prio priomap) = spec.Prio priomap
queued_all now ps (spec.Tbf bucket limit) = spec.Tbf bucket limit
queued_all now ps (spec.Drr s) = spec.Drr s

-- and the node, which has counted them
abbrev pub with_queued : ℕ → List Descriptor → spec.Node code.Kept → spec.Node code.Kept
with_queued now ps n = record n {
  own = record n.own { discipline = queued_all now ps n.own.discipline };
  memory = record n.memory { counts = record n.memory.counts { arrived = plus n.memory.counts.arrived (totals_in ps) } };
}

-- a row once packets of these totals have arrived and are queued
abbrev pub with_arrivals : Totals → Row → Row
with_arrivals t r = record r { arrived = plus r.arrived t; queued = plus r.queued t }

-- a fifo without its first packets, which the node has counted as sent
abbrev pub taken_all : ℕ → spec.Discipline → spec.Discipline
taken_all count (spec.Fifo limit queue) = spec.Fifo limit (drop count queue)
taken_all count (spec.FqCodel s) = spec.FqCodel s
taken_all count (spec.Prio priomap) = spec.Prio priomap
taken_all count (spec.Tbf bucket limit) = spec.Tbf bucket limit
taken_all count (spec.Drr s) = spec.Drr s

abbrev pub with_taken : List Descriptor → spec.Node code.Kept → spec.Node code.Kept
with_taken ps n = record n {
  own = record n.own { discipline = taken_all (length ps) n.own.discipline };
  memory = record n.memory { counts = record n.memory.counts { sent = plus n.memory.counts.sent (totals_in ps) } };
}

-- a row once packets of these totals were sent
abbrev pub with_sends : Totals → Row → Row
with_sends t r = record r { sent = plus r.sent t; queued = minus r.queued t }
