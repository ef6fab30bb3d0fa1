-- What a node shows when it is peeked, what is left of it then, and what is left once that packet is taken from it.
-- tc-prio(8), tc-tbf(8), tc-drr(8), tc-fq_codel(8); that tbf, drr and fq_codel hold what they show is this project's choice.
use Rattle.std.specs.Prelude.{ℕ, suc, Bool, ◌==◌, if◌then◌else◌, List, [], ◌∷◌, ◌++◌, map, take, drop, Option, Some, None, is_some, option_map, option_and_then, slice_get, set, unwrap_or}
use Rattle.std.specs.List.{flat_map, list_any, position_or_len, zip}
use Rattle.std.specs.Option.{option_map_or, option_to_list}
use Rattle.q_packet.specs.Descriptor.{Descriptor}
use Rattle.q_packet.specs.declared.stamped.Stamped.{Stamped}
use Rattle.q_packet.specs.declared.cause.Cause.TheVariants.{CoDel}
use Rattle.q_codel.specs.declared.limit.Limit.{Limit}
use Rattle.q_codel.specs.declared.codel.Taken.{Taken}
use Rattle.q_fqcodel.specs.FqState.{FqState}
use Rattle.q_fqcodel.specs.Take.{selected, head_sent, sent_from, dropped_from, after_sending}
use Rattle.q_bucket.specs.Level.{TokenBucket, allows, after_spend}
use Rattle.q_drr.specs.Schedule.{Class, Entry, Schedule}
use Rattle.q_drr.specs.Take.{choice_of, met, served}
use Rattle.q_drr.specs.declared.take.Met.{Met}
use Rattle.q_model.specs.Tally.{Note, Sent, Marked, Spent}
use Rattle.q_model.specs.Node.{Discipline, Fifo, Prio, Tbf, Drr, FqCodel, Own, Shape, from_below}
use Rattle.q_model.specs.Since.{at_hand_since, since_of}
use Rattle.q_model.specs.Beneath.{packets_of, is_empty}
use Rattle.q_model.specs.Route.{class_at}
use Rattle.q_model.specs.Work.{Work, Worked, worked, losses_of, settled_class}
use Rattle.q_model.specs.Grants.{asked_entries, granted_notes}
use Rattle.q_model.specs.Quanta.{flow_notes}

-- What asking a node comes to. `before`: it was not asked. `peeked`: it was asked for its packet, and shows it. `taken`: it
-- was asked, and the packet was taken from it. `rises`: what each node above has to note once it was asked.
pub record Asked : Type 0 where
  pub before : Worked
  pub peeked : Worked
  pub shown : Option Descriptor
  pub taken : Worked
  pub rises : List Note

abbrev pub befores : List Asked → List Worked
befores asked = map (λ (a : Asked). a.before) asked

-- A node that shows what it has at hand: `own` is what it is until the packet is taken, and `own_taken` what it is then;
-- `peeked` and `taken` are its children, and `notes` is what they have to report to the nodes above them.
pub record Showing : Type 0 where
  pub own : Own
  pub own_taken : Own
  pub peeked : List Worked
  pub taken : List Worked
  pub notes : List Note
  pub packet : Option Descriptor

-- where its children were this before they were asked
abbrev pub showing : List Asked → Showing → Asked
showing below s = record {
  before = worked s.own [] (befores below);
  peeked = worked s.own s.notes s.peeked;
  shown = s.packet;
  taken = worked s.own_taken (s.notes ++ map Sent (option_to_list s.packet)) s.taken;
  rises = s.notes;
}

-- a node that holds a packet shows that one, and no node below it is asked
abbrev pub holding : Own → List Asked → Descriptor → Asked
holding own below p = showing below (record {
  own = own;
  own_taken = record own { held = None; since = 0 };
  peeked = befores below;
  taken = befores below;
  notes = [];
  packet = Some p;
})

-- a fifo shows its head
abbrev pub ask_fifo : Own → List Asked → Limit → List Stamped → Asked
ask_fifo own below limit queue = showing below (record {
  own = own;
  own_taken = record own { discipline = Fifo limit (drop 1 queue) };
  peeked = befores below;
  taken = befores below;
  notes = [];
  packet = slice_get (packets_of queue) 0;
})

-- A prio asks its bands in order, up to the first that shows a packet, and shows that one.
abbrev pub ask_prio : Own → List Asked → Asked
ask_prio own below =
    let k = position_or_len (λ (a : Asked). is_some a.shown) below in
    let asked = take (suc k) below in
    let others = befores (drop (suc k) below) in
    let passed = map (λ (a : Asked). a.peeked) (take k below) in
    let band = drop k asked in
    showing below (record {
      own = own;
      own_taken = own;
      peeked = passed ++ map (λ (a : Asked). a.peeked) band ++ others;
      taken = passed ++ map (λ (a : Asked). a.taken) band ++ others;
      notes = flat_map (λ (a : Asked). a.rises) asked;
      packet = option_and_then (λ (a : Asked). a.shown) (slice_get below k);
    })

-- A node that has dequeued a packet, or nothing, and holds it until it is taken: what it is then, but for the packet that it
-- holds; its children; what they and it have to report to the nodes above; what it notes for itself alone; and when the
-- packet arrived, if it has one.
pub record Dequeue : Type 0 where
  pub after : Own
  pub children : List Worked
  pub rises : List Note
  pub mine : List Note
  pub packet : Option Descriptor
  pub since : ℕ

-- where it was `own`, and its children were these
abbrev pub dequeued : Own → List Asked → Dequeue → Asked
dequeued own below d = record {
  before = worked own [] (befores below);
  peeked = worked (record d.after { held = d.packet; since = since_of d.packet d.since }) (d.rises ++ d.mine) d.children;
  shown = d.packet;
  taken = worked (record d.after { held = None; since = 0 }) (d.rises ++ d.mine ++ map Sent (option_to_list d.packet)) d.children;
  rises = d.rises;
}

-- when the packet arrived that a node shows, once it was asked; 0 where it shows none
abbrev pub since_shown : Asked → ℕ
since_shown a = unwrap_or (at_hand_since a.peeked) 0

-- A tbf asks its child; where the bucket allows the packet that is shown, it spends its length and takes the packet.
abbrev pub spends : Own → List Asked → TokenBucket → ℕ → ℕ → Asked → Descriptor → Asked
spends own below bucket limit now child p = dequeued own below (record {
  after = record own { discipline = Tbf (after_spend bucket now p.len) limit };
  children = child.taken ∷ [];
  rises = child.rises;
  mine = Spent p.len ∷ [];
  packet = Some p;
  since = since_shown child;
})

abbrev pub waits : Own → List Asked → Asked → Asked
waits own below child =
    dequeued own below (record { after = own; children = child.peeked ∷ []; rises = child.rises; mine = []; packet = None; since = 0 })

abbrev pub ask_child : ℕ → Own → List Asked → TokenBucket → ℕ → Asked → Asked
ask_child now own below bucket limit child =
    option_map_or (λ (p : Descriptor). if allows bucket now p.len then spends own below bucket limit now child p else waits own below child)
    child.shown (waits own below child)

abbrev pub ask_tbf : ℕ → Own → List Asked → TokenBucket → ℕ → Asked
ask_tbf now own below bucket limit =
    option_map_or (ask_child now own below bucket limit) (slice_get below 0)
    (dequeued own below (record { after = own; children = []; rises = []; mine = []; packet = None; since = 0 }))

-- the answer of a drr's class, by its number
abbrev pub class_answer : Schedule → List Asked → ℕ → Option Asked
class_answer s below name = option_and_then (slice_get below) (class_at name s)

abbrev pub is_among : List Entry → Class → Bool
is_among entries c = list_any (λ (e : Entry). e.class == c.name) entries

-- the children of a drr, where those of these entries were asked
abbrev pub peeked_classes : Schedule → List Entry → List Asked → List Worked
peeked_classes s entries below =
    map (λ pair. if is_among entries pair.0 then pair.1.peeked else pair.1.before) (zip s.classes below)

-- what each class shows: the length of its packet
abbrev pub length_of : Asked → Option ℕ
length_of a = option_map (λ (p : Descriptor). p.len) a.shown

abbrev pub head_of : Schedule → List Asked → ℕ → Option ℕ
head_of s below name = option_and_then length_of (class_answer s below name)

-- What a drr's asking comes to before a packet is handed out: its schedule after the grants, where the class that is met has
-- paid for what it shows; its children, peeked where they were asked; what they have to report to the nodes above; the grants.
pub record Service : Type 0 where
  pub schedule : Schedule
  pub below : List Worked
  pub rises : List Note
  pub grants : List Note

abbrev pub service_of : Schedule → List Asked → Service
service_of s below =
    let choice = choice_of (head_of s below) s in
    let entries = asked_entries choice s.active in
    record {
      schedule = served (head_of s below) s;
      below = peeked_classes s entries below;
      rises = flat_map (λ (e : Entry). option_map_or (λ (a : Asked). a.rises) (class_answer s below e.class) []) entries;
      grants = granted_notes choice s.active;
    }

-- the place among the children of the class that is met
abbrev pub place_met : Schedule → List Asked → Option ℕ
place_met s below = option_and_then (λ (m : Met). class_at m.class s) (met (head_of s below) s)

abbrev pub gives_nothing : Own → List Asked → Service → Asked
gives_nothing own below v = dequeued own below (record {
  after = record own { discipline = Drr v.schedule };
  children = v.below;
  rises = v.rises;
  mine = v.grants;
  packet = None;
  since = 0;
})

-- the class hands out its packet, and leaves the active list where its child is empty
abbrev pub class_gives : Own → List Asked → Service → ℕ → Asked → Descriptor → Asked
class_gives own below v i child p =
    let schedule = settled_class i (is_empty child.taken) v.schedule in
    dequeued own below (record {
      after = record own { discipline = Drr schedule };
      children = set v.below i child.taken;
      rises = v.rises;
      mine = v.grants;
      packet = Some p;
      since = since_shown child;
    })

abbrev pub class_serves : Own → List Asked → Service → ℕ → Asked → Asked
class_serves own below v i child = option_map_or (class_gives own below v i child) child.shown (gives_nothing own below v)

-- A drr asks the classes of its active list in turn, and grants to each whose packet is longer than its deficit, until one
-- is met that can send its packet, or that shows nothing; then the drr returns nothing.
abbrev pub ask_drr : Own → List Asked → Schedule → Asked
ask_drr own below s =
    let v = service_of s below in
    let nothing = gives_nothing own below v in
    option_map_or (λ i. option_map_or (class_serves own below v i) (slice_get below i) nothing) (place_met s below) nothing

-- an fq_codel chooses a flow, from which CoDel takes a packet; what CoDel drops is lost before that
abbrev pub marks_of : Option Taken → List Note
marks_of None = []
marks_of (Some t) = if t.marked then Marked t.packet ∷ [] else []

abbrev pub ask_fq_codel : ℕ → Own → List Asked → FqState → Asked
ask_fq_codel now own below s =
    let chosen = selected s in
    let sent = sent_from now chosen in
    dequeued own below (record {
      after = record own { discipline = FqCodel (after_sending now chosen) };
      children = befores below;
      rises = losses_of CoDel (packets_of (dropped_from now chosen)) ++ marks_of sent;
      mine = flow_notes s chosen sent;
      packet = option_map (λ (t : Taken). t.packet) sent;
      since = option_map_or (λ (s : Stamped). s.at) (head_sent now chosen) 0;
    })

abbrev pub ask_discipline : ℕ → Own → List Asked → Discipline → Asked
ask_discipline now own below (Fifo limit queue) = ask_fifo own below limit queue
ask_discipline now own below (Prio priomap) = ask_prio own below
ask_discipline now own below (Tbf bucket limit) = ask_tbf now own below bucket limit
ask_discipline now own below (Drr s) = ask_drr own below s
ask_discipline now own below (FqCodel s) = ask_fq_codel now own below s

abbrev pub ask_own : ℕ → Own → List Asked → Asked
ask_own now own below = option_map_or (holding own below) own.held (ask_discipline now own below own.discipline)

-- a whole tree
abbrev pub ask : ℕ → Shape → Asked
ask now s = from_below (ask_own now) s

-- a take is a peek, after which what is shown is taken
abbrev pub take_from : ℕ → Shape → Work
take_from now s =
    let a = ask now s in
    record { node = if is_some a.shown then a.taken else a.peeked; rises = a.rises }
