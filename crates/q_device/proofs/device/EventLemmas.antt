-- What an event makes of the fields of a device.
use Rattle.std.proofs.Common.{◌≡◌, ◌∙◌, ℕ, ◌+◌, ◌++◌, length, max, min, List, [], Result, Ok, Err, refl, sym, ap, subst}
use Rattle.std.specs.Prelude.{Bool, Option, if◌then◌else◌, is_some, vec_capacity}
use Rattle.q_codel.specs.declared.loss.Loss.{Loss}
use Rattle.q_packet.specs.Descriptor.{Descriptor}
use Rattle.q_model.specs.Beneath.{beneath, beneath_own}
use Rattle.q_model.specs.declared.command.Command.{Command}
use Rattle.q_model.specs.declared.command.Command.TheVariants as command
use Rattle.q_model.specs.declared.kind.Kind.TheVariants as kind
use Rattle.q_model.specs.declared.event.Event.{Event}
use Rattle.q_model.specs.declared.event.Event.TheVariants as event
use Rattle.q_model.specs.declared.refusal.Refusal.{Refusal}
use Rattle.q_model.specs.declared.reply.Reply.TheVariants as reply
use Rattle.q_model.specs.Edit.{Edit, lost_by}
use Rattle.q_model.specs.Node.{Shape, shape}
use Rattle.q_model.specs.Step.{DeviceState, Step, answered, losses_in, step}
use Rattle.q_model.specs.Tally.{Counts, totals}
use Rattle.q_model.specs.TreeState.{TreeState, given, noted_by_put, noted_by_take, plan, put, take_packet}
use Rattle.q_model.proofs.ShrinkLemmas.{each-each_memory, shape-with_memory}
use Rattle.q_tree.specs.commands.Commanding.{MayTakeMemory, WantsMemory}
use Rattle.q_tree.specs.commands.Commands.{IsDone, IsRefused, plan_of, told}
use Rattle.q_tree.specs.Kept.{Kept, kept}
use Rattle.q_tree.specs.TreeSeen.{numbers, tree_numbers}
use Rattle.q_tree.proofs.Plans.{done-numbers}
use Rattle.q_tree.proofs.TreeLemmas.{stands}
use Rattle.q_device.specs.declared.device.Device.TheInside.{Inside}
use Rattle.q_device.specs.Counters.{HasNotFallen}
use Rattle.q_device.specs.device.DeviceSeen.{DeviceSeen, IsRefusal, as_counted, most_events, with_event, with_recorded}
use Rattle.q_device.specs.device.Keeping.{device_seen, events_of, others_after}
use Rattle.q_device.proofs.device.StepStands.{Stands, step-stands}
use Rattle.q_device.proofs.laws.CountLemmas.{step-rises}
use Rattle.q_device.proofs.waiting.ReadyNumbers.{given-numbers}

-- what waits in a tree, by its numbers
pub waits-numbers : (x : DeviceState Kept) → beneath (numbers x).tree.root ≡ beneath x.tree.root
waits-numbers x = ap (beneath_own x.tree.root.own) (each-each_memory beneath_own (λ (k : Kept). k.counts) x.tree.root.below)

pub waits-same : (x y : DeviceState Kept) → numbers x ≡ numbers y → length (beneath x.tree.root) ≡ length (beneath y.tree.root)
waits-same x y same = ap (λ (ps : List Descriptor). length ps) (sym (waits-numbers x) ∙ ap (λ (d : DeviceState Counts). beneath d.tree.root) same ∙ waits-numbers y)

-- The step of a tree of the code is that of its numbers, also where places were made in it before.
module _ (d : DeviceState Counts) (x : DeviceState Kept) (same : numbers x ≡ d) (e : Event) where
  stood : Stands (λ (k : Kept). k.counts) (step kept x e) (step totals (numbers x) e)
  stood = step-stands kept totals (λ (k : Kept). k.counts) stands x e

  pub numbers-step : numbers (step kept x e).device ≡ (step totals d e).device
  numbers-step = stood.device ∙ ap (λ y. (step totals y e).device) same

  pub reply-step : (step kept x e).reply ≡ (step totals d e).reply
  reply-step = stood.reply ∙ ap (λ y. (step totals y e).reply) same

  pub losses-step : (step kept x e).losses ≡ (step totals d e).losses
  losses-step = stood.losses ∙ ap (λ y. (step totals y e).losses) same

-- An event changed the fields of a device so.
pub record Happened (a : Inside) (e : Event) (b : Inside) : Type 0 where
  pub settings : b.settings ≡ a.settings
  pub device : numbers b.tree ≡ (step totals (numbers a.tree) e).device
  pub waiting : b.losses.waiting ≡ a.losses.waiting ++ (step totals (numbers a.tree) e).losses
  pub handed_out : b.handed_out ≡ a.handed_out
  pub recorded : b.recorded.items ≡ with_recorded a.settings.recorder (as_counted (numbers a.tree) e) a.recorded.items
  pub capacity : vec_capacity b.recorded ≡ vec_capacity a.recorded
  pub events : events_of b ≡ min (events_of a + 1) most_events

module _ (a : Inside) (e : Event) (b : Inside) (h : Happened a e b) where
  pub event-seen : device_seen b ≡ record (with_event e (device_seen a)) { memory = (device_seen b).memory }
  event-seen =
      λ i. record {
        settings = h.settings i;
        device = h.device i;
        waiting = h.waiting i;
        handed_out = h.handed_out i;
        recorded = h.recorded i;
        events = h.events i;
        memory = (device_seen b).memory;
      }

  pub event-rises : HasNotFallen (device_seen a).device.tree.top (device_seen b).device.tree.top
  event-rises = subst (λ (d : DeviceSeen). HasNotFallen (device_seen a).device.tree.top d.device.tree.top) (sym event-seen) (step-rises (numbers a.tree) e)

-- a poll, at the moment at which it counts
pub polled-device : (a b : Inside) (now at : ℕ) → at ≡ max a.tree.clock now → b.tree ≡ record { clock = at; tree = take_packet kept at a.tree.tree }
    → numbers b.tree ≡ (step totals (numbers a.tree) (event.Poll now)).device
polled-device a b now at is tree =
    ap numbers tree ∙ ap (λ t. numbers (record { clock = t; tree = take_packet kept t a.tree.tree })) is ∙ numbers-step (numbers a.tree) a.tree refl (event.Poll now)

-- it is counted by itself where it sends none
pub polled-others : (a : Inside) (now at others : ℕ) (sent : Bool) → at ≡ max a.tree.clock now → sent ≡ is_some (given at a.tree.tree)
    → others ≡ (if sent then a.others else min (a.others + 1) most_events) → others ≡ others_after (event.Poll now) (numbers a.tree) a.others
polled-others a now at others sent is sends counted =
    counted
    ∙ ap (λ b. if b then a.others else min (a.others + 1) most_events)
    (sends ∙ ap (λ t. is_some (given t a.tree.tree)) is ∙ ap (λ (o : Option Descriptor). is_some o)
    (sym (given-numbers (max a.tree.clock now) a.tree.tree)))

pub polled : (a b : Inside) (now at : ℕ) → at ≡ max a.tree.clock now → b.settings ≡ a.settings → b.tree ≡ record { clock = at; tree = take_packet kept at a.tree.tree }
    → b.losses.waiting ≡ a.losses.waiting ++ losses_in (noted_by_take at a.tree.tree) → b.handed_out ≡ a.handed_out
    → b.recorded.items ≡ with_recorded a.settings.recorder (event.Poll at) a.recorded.items
    → vec_capacity b.recorded ≡ vec_capacity a.recorded → events_of b ≡ min (events_of a + 1) most_events → Happened a (event.Poll now) b
polled a b now at is settings tree waiting handed_out recorded capacity events =
    let d = numbers a.tree in
    let e = event.Poll now in
    record {
      settings = settings;
      device = polled-device a b now at is tree;
      waiting = waiting ∙ ap (λ t. a.losses.waiting ++ losses_in (noted_by_take t a.tree.tree)) is ∙ ap (λ (ls : List Loss). a.losses.waiting ++ ls) (losses-step d a.tree refl e);
      handed_out = handed_out;
      recorded = recorded ∙ ap (λ t. with_recorded a.settings.recorder (event.Poll t) a.recorded.items) is;
      capacity = capacity;
      events = events;
    }

abbrev at_clock : ℕ → TreeState Counts → DeviceState Counts
at_clock clock tree = record { clock = clock; tree = tree }

-- an arrival, by what it made of the numbers of the tree
pub arrived-device : (a b : Inside) (p : Descriptor) (now at : ℕ) → at ≡ max a.tree.clock now
    → numbers b.tree ≡ record { clock = at; tree = put totals at p (tree_numbers a.tree.tree) }
    → numbers b.tree ≡ (step totals (numbers a.tree) (event.Arrive p now)).device
arrived-device a b p now at is tree = tree ∙ ap (λ t. at_clock t (put totals t p (tree_numbers a.tree.tree))) is

pub arrived : (a b : Inside) (p : Descriptor) (now at : ℕ) → at ≡ max a.tree.clock now → b.settings ≡ a.settings
    → numbers b.tree ≡ record { clock = at; tree = put totals at p (tree_numbers a.tree.tree) }
    → b.losses.waiting ≡ a.losses.waiting ++ losses_in (noted_by_put at p a.tree.tree) → b.handed_out ≡ a.handed_out
    → b.recorded.items ≡ with_recorded a.settings.recorder (event.Arrive p at) a.recorded.items
    → vec_capacity b.recorded ≡ vec_capacity a.recorded → events_of b ≡ min (events_of a + 1) most_events → Happened a (event.Arrive p now) b
arrived a b p now at is settings tree waiting handed_out recorded capacity events =
    let e = event.Arrive p now in
    record {
      settings = settings;
      device = arrived-device a b p now at is tree;
      waiting = waiting ∙ ap (λ t. a.losses.waiting ++ losses_in (noted_by_put t p a.tree.tree)) is ∙ ap (λ (ls : List Loss). a.losses.waiting ++ ls) (losses-step (numbers a.tree) a.tree refl e);
      handed_out = handed_out;
      recorded = recorded ∙ ap (λ t. with_recorded a.settings.recorder (event.Arrive p t) a.recorded.items) is;
      capacity = capacity;
      events = events;
    }

-- ---- a command, at the moment at which it counts

module _ (x : DeviceState Kept) (now at : ℕ) (is : at ≡ max x.clock now) (c : Command) where
  abbrev seen : DeviceState Counts
  seen = numbers x

  same-shape : shape (tree_numbers x.tree).root ≡ shape x.tree.root
  same-shape = shape-with_memory (λ (k : Kept). k.counts) x.tree.root

  step-is : step totals seen (event.Command c now) ≡ answered totals (plan_of c at x) at seen
  step-is =
      ap (λ t. answered totals (plan x.tree.device t c (shape (tree_numbers x.tree).root)) t seen) (sym is)
      ∙ ap (λ (s : Shape). answered totals (plan x.tree.device at c s) at seen) same-shape

  module _ (y : DeviceState Kept) (done_is : IsDone at (plan_of c at x) x y) where
    pub done-device : numbers y ≡ (step totals seen (event.Command c now)).device
    done-device = by (plan_of c at x) done_is ∙ sym (ap (λ (s : Step Counts). s.device) step-is) where
      by : (p : Result Edit Refusal) → IsDone at p x y → numbers y ≡ (answered totals p at seen).device
      by (Ok edit) h = done-numbers at edit x y h
      by (Err refusal) h = absurd h

    pub done-reply : reply.Done (Ok tt) ≡ (step totals seen (event.Command c now)).reply
    done-reply = by (plan_of c at x) done_is ∙ sym (ap (λ (s : Step Counts). s.reply) step-is) where
      by : (p : Result Edit Refusal) → IsDone at p x y → reply.Done (Ok tt) ≡ (answered totals p at seen).reply
      by (Ok edit) h = refl
      by (Err refusal) h = absurd h

    pub done-losses : told (plan_of c at x) (shape x.tree.root) (Ok tt) ≡ (step totals seen (event.Command c now)).losses
    done-losses = by (plan_of c at x) done_is ∙ sym (ap (λ (s : Step Counts). s.losses) step-is) where
      by : (p : Result Edit Refusal) → IsDone at p x y → told p (shape x.tree.root) (Ok tt) ≡ (answered totals p at seen).losses
      by (Ok edit) h = ap (λ (s : Shape). losses_in (lost_by edit s)) (sym same-shape)
      by (Err refusal) h = absurd h

  pub refused-reply : (memory : Type 0) (refusal : Refusal) → IsRefused memory (plan_of c at x) refusal → IsRefusal memory (step totals seen (event.Command c now)).reply refusal
  refused-reply memory refusal h = subst (λ (s : Step Counts). IsRefusal memory s.reply refusal) (sym step-is) (by (plan_of c at x) h) where
    by : (p : Result Edit Refusal) → IsRefused memory p refusal → IsRefusal memory (answered totals p at seen).reply refusal
    by (Ok edit) e = (e.0, e.1)
    by (Err first) e = e

-- a plan that wants memory is of a command that may take some
may-want : (c : Command) (p : Result Edit Refusal) → WantsMemory c p → MayTakeMemory c
may-want (command.QdiscAdd place handle k) p h = h
may-want (command.QdiscChange place handle (kind.Pfifo limit)) p h = h
may-want (command.QdiscChange place handle (kind.Bfifo limit)) p h = h
may-want (command.QdiscChange place handle (kind.Prio options)) p h = tt
may-want (command.QdiscChange place handle (kind.Tbf rate burst limit)) p h = h
may-want (command.QdiscChange place handle kind.Drr) p h = h
may-want (command.QdiscChange place handle (kind.FqCodel options)) p h = h
may-want (command.QdiscDel place handle) p h = h
may-want (command.ClassAdd parent class quantum) p h = h
may-want (command.ClassChange parent class quantum) p h = h
may-want (command.ClassDel parent class) p h = h
may-want (command.FilterAdd parent major filter) p h = h
may-want (command.FilterDel parent prio) p h = h

pub may-be-refused : (c : Command) (p : Result Edit Refusal) (refusal : Refusal) → IsRefused (WantsMemory c p) p refusal → IsRefused (MayTakeMemory c) p refusal
may-be-refused c (Ok edit) refusal h = (h.0, may-want c (Ok edit) h.1)
may-be-refused c (Err first) refusal h = h

-- a refused command tells of no loss
pub told-nothing : (p : Result Edit Refusal) (root : Shape) (refusal : Refusal) → told p root (Err refusal) ≡ []
told-nothing (Ok edit) root refusal = refl
told-nothing (Err first) root refusal = refl

pub commanded-device : (a b : Inside) (c : Command) (now at : ℕ) → at ≡ max a.tree.clock now → IsDone at (plan_of c at a.tree) a.tree b.tree
    → numbers b.tree ≡ (step totals (numbers a.tree) (event.Command c now)).device
commanded-device a b c now at is done_is = done-device a.tree now at is c b.tree done_is

pub commanded : (a b : Inside) (c : Command) (now at : ℕ) → at ≡ max a.tree.clock now → b.settings ≡ a.settings → IsDone at (plan_of c at a.tree) a.tree b.tree
    → b.losses.waiting ≡ a.losses.waiting ++ told (plan_of c at a.tree) (shape a.tree.tree.root) (Ok tt) → b.handed_out ≡ a.handed_out
    → b.recorded.items ≡ with_recorded a.settings.recorder (event.Command c at) a.recorded.items
    → vec_capacity b.recorded ≡ vec_capacity a.recorded → events_of b ≡ min (events_of a + 1) most_events → Happened a (event.Command c now) b
commanded a b c now at is settings done_is waiting handed_out recorded capacity events = record {
  settings = settings;
  device = commanded-device a b c now at is done_is;
  waiting = waiting ∙ ap (λ (ls : List Loss). a.losses.waiting ++ ls) (done-losses a.tree now at is c b.tree done_is);
  handed_out = handed_out;
  recorded = recorded ∙ ap (λ t. with_recorded a.settings.recorder (event.Command c t) a.recorded.items) is;
  capacity = capacity;
  events = events;
}
