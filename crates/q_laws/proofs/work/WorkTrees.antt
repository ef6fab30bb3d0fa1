-- A whole tree without a tbf gives a packet to every poll that finds one queued, and a prio serves its bands in order.
use Rattle.std.proofs.Common.{◌≡◌, ℕ, zero, suc, ◌<◌, ◌≤◌, ◌^◌, ◌∙◌, inl, inr, refl, sym, ap, ap₂, subst, arith, List, [], ◌∷◌, ◌++◌, map, length, Option, Some, None, option_map, option_to_list}
use Rattle.std.specs.Prelude.{true, false, All, IsSome, ◌==◌, slice_get}
use Rattle.std.specs.List.{filter_map}
use Rattle.std.specs.Option.{option_map_or}
use Rattle.std.proofs.lemmas.Bool.{true≢false, ne_eqb}
use Rattle.std.proofs.lemmas.List.{append_cancel_left}
use Rattle.std.proofs.lemmas.List.Elements.{All-head, All-tail, filter_map-append}
use Rattle.std.proofs.lemmas.Option.{none-some, same_Some, slice_get-map}
use Rattle.q_packet.specs.Descriptor.{Descriptor}
use Rattle.q_model.specs.declared.event.Event.{Event}
use Rattle.q_model.specs.declared.event.Event.TheVariants as event
use Rattle.q_model.specs.declared.polled.Polled.TheVariants as polled
use Rattle.q_model.specs.declared.reply.Reply.TheVariants as reply
use Rattle.q_model.specs.Ask.{Asked, befores, holding, ask_prio, ask_discipline, ask_own, ask}
use Rattle.q_model.specs.Beneath.{beneath_own, beneath, is_empty}
use Rattle.q_model.specs.Conserved.{nodes_of, sent_in}
use Rattle.q_model.specs.Lawful.{CanHold, IsLawfulOwn}
use Rattle.q_model.specs.Node.{Prio, Own, Forest, none, more, Node, Shape, nodes_in, children, each, each_memory, from_below, shape}
use Rattle.q_model.specs.Replay.{Replay, nothing_yet}
use Rattle.q_model.specs.Settings.{DeviceSettings, IsInRange}
use Rattle.q_model.specs.Step.{DeviceState, counts_at, polled_of, step}
use Rattle.q_model.specs.Stretches.{qdisc}
use Rattle.q_model.specs.Tally.{Note, Arrived, Sent, Lost, Marked, Granted, Spent, FlowGranted, FlowGave, history}
use Rattle.q_model.specs.TreeState.{given, take_packet}
use Rattle.q_model.specs.Work.{Worked}
use Rattle.q_model.proofs.ShrinkLemmas.{each-each_memory, is_empty-with_memory, nodes_in-each_memory}
use Rattle.q_invariants.specs.Kept.{AllLawful, IsLawfulRoot}
use Rattle.q_invariants.specs.Weights.{weigh}
use Rattle.q_invariants.proofs.again.SecondPeeks.{asked-shape, kept-shape}
use Rattle.q_invariants.proofs.ask.Answer.{one, IsAnswer, beneath-worked}
use Rattle.q_invariants.proofs.ask.Asks.{before-is, before-root, beneath-befores, forest-answers, ask-answers}
use Rattle.q_invariants.proofs.ask.AskStages.{IsStageOf}
use Rattle.q_invariants.proofs.edit.EditLater.{root-later}
use Rattle.q_invariants.proofs.Replays.{IsKept, not-before, not-after, replay-kept}
use Rattle.q_invariants.proofs.sums.NoteSums.{AreRisen}
use Rattle.q_invariants.proofs.sums.Risen.{all-rise}
use Rattle.q_invariants.proofs.sums.Told.{noted-history}
use Rattle.q_invariants.proofs.sums.Weights.{weigh-count, weigh-one}
use Rattle.q_invariants.proofs.tree.Forests.{each-nodes, lawful-with_memory}
use Rattle.q_invariants.proofs.tree.Members.{All-front, All-back}
use Rattle.q_invariants.proofs.tree.Quiet.{beneath-quiet, child-lawful}
use Rattle.q_invariants.proofs.tree.StepNodes.{IsAsked, becomes}
use Rattle.q_invariants.proofs.tree.Within.{found, lawful-of}
use Rattle.q_tree.specs.answers.Ways.{is_tbf}
use Rattle.q_tree.proofs.ForeseenAsks.{or_else, first_of, prio-shown}
use Rattle.q_device.specs.Sharing.{device_after}
use Rattle.q_device.proofs.ReplayLemmas.{replay_from-append}
use Rattle.q_device.proofs.waiting.RenewedTrees.{take-empty}
use Rattle.q_laws.specs.work.Work.{HasNoTbf, IsNeverHeldBack, WorkIsConserved, GivesInOrder, BandsAreStrict}
use Rattle.q_laws.proofs.work.WorkAsks.{Rests, AreRests, own-rests}

-- ---- forests without a tbf

abbrev pub NoTbfs : {M : Type 0} → Forest M → Type 0
NoTbfs none = Unit {0}
NoTbfs (more own m below others) = (is_tbf own.discipline ≡ false) × NoTbfs below × NoTbfs others

pub no-tbfs : {M : Type 0} (x : Forest M) → All (λ (n : Node M). is_tbf n.own.discipline ≡ false) (nodes_of x) → NoTbfs x
no-tbfs none h = tt
no-tbfs {M} (more own m below others) h =
    let P : Node M → Type 0 = λ n. is_tbf n.own.discipline ≡ false in
    let n : Node M = record { own = own; memory = m; below = below } in
    let rest : All P (nodes_of below ++ nodes_of others) = All-tail P n (nodes_of below ++ nodes_of others) h in
    (All-head P n (nodes_of below ++ nodes_of others) h, no-tbfs below (All-front P (nodes_of below) (nodes_of others) rest), no-tbfs others (All-back P (nodes_of below) (nodes_of others) rest))

pub tbfs-memory : {M N : Type 0} (f : M → N) (x : Forest M) → NoTbfs x → NoTbfs (each_memory f x)
tbfs-memory f none h = tt
tbfs-memory f (more own m below others) h = (h.0, tbfs-memory f below h.1, tbfs-memory f others h.2)

-- ---- trees that show nothing

module _ (mtu now : ℕ) (least : 1 ≤ mtu) (low : now ≤ 2 ^ 62) where
  node-rests : (own : Own) (x : Forest (Unit {0})) → is_tbf own.discipline ≡ false → IsLawfulOwn mtu now own (each beneath_own x) → AllLawful mtu now x → AreRests (each (ask_own now) x)
      → Rests (ask_own now own (each (ask_own now) x))
  node-rests own x other h lawful rest silent =
      let below : List Asked = each (ask_own now) x in
      ap (λ (w : Worked). length (beneath w)) (before-is now own below) ∙ ap length (beneath-worked own [] (befores below))
      ∙ own-rests mtu now low own.handle own.filters own.since own.held own.discipline below other
      (subst (IsLawfulOwn mtu now own) (sym (beneath-befores now x)) h) (forest-answers mtu now least low x lawful) rest silent

  pub forest-rests : (x : Forest (Unit {0})) → AllLawful mtu now x → NoTbfs x → AreRests (each (ask_own now) x)
  forest-rests none h other = tt
  forest-rests (more own m below others) h other =
      (node-rests own below other.0 h.0 h.1 (forest-rests below h.1 other.1), forest-rests others h.2 other.2)

  -- at any node of a tree
  pub rests-empty : {M : Type 0} (n : Node M) → IsLawfulRoot mtu now (shape n) → HasNoTbf n → (ask now (shape n)).shown ≡ None → is_empty n ≡ true
  rests-empty {M} n h other silent =
      let P : Node M → Type 0 = λ m. is_tbf m.own.discipline ≡ false in
      let s : Shape = shape n in
      let below : NoTbfs s.below = tbfs-memory (λ m. tt) n.below (no-tbfs n.below (All-tail P n (nodes_of n.below) other)) in
      let nothing : length (beneath (ask now s).before) ≡ 0 = node-rests s.own s.below (All-head P n (nodes_of n.below) other) h.0 h.1 (forest-rests s.below h.1 below) silent in
      let here : length (beneath s) ≡ 0 = sym (ap (λ (w : Worked). length (beneath w)) (before-root now s) ∙ ap length (beneath-quiet s)) ∙ nothing in
      sym (is_empty-with_memory (λ m. tt) n) ∙ ap (λ k. k == 0) here

  -- a tree that shows a packet has one
  shows-some : {M : Type 0} (n : Node M) (p : Descriptor) → IsLawfulRoot mtu now (shape n) → (ask now (shape n)).shown ≡ Some p → is_empty n ≡ false
  shows-some n p h shows =
      let s : Shape = shape n in
      let answer : IsAnswer mtu now (ask now s) = ask-answers mtu now least low s h in
      let shown : weigh one (option_to_list (ask now s).shown) ≡ weigh one (p ∷ []) = ap (λ (o : Option Descriptor). weigh one (option_to_list o)) shows in
      let before : length (beneath (ask now s).before) ≡ length (beneath s) = ap (λ (w : Worked). length (beneath w)) (before-root now s) ∙ ap length (beneath-quiet s) in
      sym (is_empty-with_memory (λ m. tt) n)
      ∙ ne_eqb (length (beneath s)) 0 (λ e. absurd (omega (arith, e, before, weigh-count (beneath (ask now s).before), answer.peeks one, answer.gives one, shown, weigh-one one p)))

-- ---- no idle link

pub work-is-conserved : (settings : DeviceSettings) → IsInRange settings → WorkIsConserved settings
work-is-conserved settings range events moment all within other =
    let d : DeviceState (List Note) = device_after settings events in
    by d (replay-kept settings events range all) other
  where
    by : (d : DeviceState (List Note)) → IsKept d → HasNoTbf d.tree.root → IsNeverHeldBack d (step history d (event.Poll moment)).reply
    by d kept other = answered (given t d.tree) refl
      where
        t : ℕ
        t = counts_at moment d

        low : t ≤ 2 ^ 62
        low = not-after d.clock moment (2 ^ 62) kept.moment within

        lawful : IsLawfulRoot d.tree.device.mtu t (shape d.tree.root)
        lawful = kept-shape d.clock t d.tree kept (not-before d.clock moment) low

        answered : (o : Option Descriptor) → given t d.tree ≡ o → IsNeverHeldBack d (step history d (event.Poll moment)).reply
        answered (Some p) e =
            let is : (step history d (event.Poll moment)).reply ≡ reply.Polled (polled.Packet p) =
            ap (λ (o : Option Descriptor). reply.Polled (polled_of o (is_empty (shape (take_packet history t d.tree).root)))) e in
            record {
              gives = λ some. (p, is);
              idle = λ empty. absurd (true≢false (sym empty ∙ shows-some d.tree.device.mtu t kept.least_mtu low d.tree.root p lawful e));
              never_later = λ later. let wrong : reply.Polled (polled.Packet p) ≡ reply.Polled polled.Later = sym is ∙ later in cc;
            }
        answered None e =
            let empty : is_empty d.tree.root ≡ true = rests-empty d.tree.device.mtu t kept.least_mtu low d.tree.root lawful other e in
            let after : is_empty (shape (take_packet history t d.tree).root) ≡ true =
            is_empty-with_memory (λ m. tt) (take_packet history t d.tree).root ∙ take-empty history t t d.tree kept.least_mtu low (omega arith) lawful e ∙ empty in
            let is : (step history d (event.Poll moment)).reply ≡ reply.Polled polled.Idle = ap₂ (λ (o : Option Descriptor) b. reply.Polled (polled_of o b)) e after in
            record {
              gives = λ some. absurd (true≢false (sym empty ∙ some));
              idle = λ none. is;
              never_later = λ later. let wrong : reply.Polled polled.Idle ≡ reply.Polled polled.Later = sym is ∙ later in cc;
            }

-- ---- strict priority

-- the first band that shows a packet
record FirstBand (below : List Asked) (p : Descriptor) : Type 0 where
  place : ℕ
  band : Asked
  there : slice_get below place ≡ Some band
  shows : band.shown ≡ Some p
  before : (i : ℕ) (a : Asked) → i < place → slice_get below i ≡ Some a → a.shown ≡ None

first-band : (below : List Asked) (p : Descriptor) → first_of below ≡ Some p → FirstBand below p
first-band [] p e = absurd (none-some p e)
first-band (a ∷ below) p e = by a.shown refl e (λ later. first-band below p later)
  where
    passed : a.shown ≡ None → (rest : FirstBand below p) (i : ℕ) (b : Asked) → i < suc rest.place → slice_get (a ∷ below) i ≡ Some b → b.shown ≡ None
    passed is rest zero b lt there = sym (ap (λ (x : Asked). x.shown) (same_Some a b there)) ∙ is
    passed is rest (suc i) b lt there = rest.before i b (omega (arith, lt)) there

    by : (o : Option Descriptor) → a.shown ≡ o → or_else o (first_of below) ≡ Some p → (first_of below ≡ Some p → FirstBand below p) → FirstBand (a ∷ below) p
    by (Some q) is e later = record { place = 0; band = a; there = refl; shows = is ∙ e; before = λ i b lt there. absurd (omega (arith, lt)) }
    by None is e later =
        let rest = later e in
        record { place = suc rest.place; band = rest.band; there = rest.there; shows = rest.shows; before = passed is rest }

-- what losses and marks say of packets that were sent
risen-sent : (notes : List Note) → AreRisen notes → filter_map sent_in notes ≡ []
risen-sent [] h = refl
risen-sent (Lost p cause ∷ notes) h = risen-sent notes h.1
risen-sent (Marked p ∷ notes) h = risen-sent notes h.1
risen-sent (Arrived p ∷ notes) h = absurd h.0
risen-sent (Sent p ∷ notes) h = absurd h.0
risen-sent (Granted class times ∷ notes) h = absurd h.0
risen-sent (Spent bytes ∷ notes) h = absurd h.0
risen-sent (FlowGranted flow times ∷ notes) h = absurd h.0
risen-sent (FlowGave flow bytes ∷ notes) h = absurd h.0

given-sent : (o : Option Descriptor) → filter_map sent_in (map Sent (option_to_list o)) ≡ option_to_list o
given-sent None = refl
given-sent (Some p) = refl

-- a prio that sends a packet shows it
stage-shows : (own : Own) (below : List Asked) (w : Worked) (p : Descriptor) → AreRisen (ask_prio own below).rises → IsStageOf (ask_prio own below) w → filter_map sent_in w.memory ≡ p ∷ []
    → (ask_prio own below).shown ≡ Some p
stage-shows own below w p risen (inl e) sent = let wrong : ◌≡◌ {A = List Descriptor} [] (p ∷ []) = sym (ap (λ (x : Worked). filter_map sent_in x.memory) e) ∙ sent in cc
stage-shows own below w p risen (inr (inl e)) sent =
    let wrong : [] ≡ p ∷ [] = sym (ap (λ (x : Worked). filter_map sent_in x.memory) e ∙ risen-sent (ask_prio own below).rises risen) ∙ sent in cc
stage-shows own below w p risen (inr (inr e)) sent =
    let notes : List Note = (ask_prio own below).rises in
    let shown : Option Descriptor = (ask_prio own below).shown in
    by shown (sym (ap (λ (x : Worked). filter_map sent_in x.memory) e ∙ filter_map-append sent_in notes (map Sent (option_to_list shown))
    ∙ ap (λ ps. ps ++ filter_map sent_in (map Sent (option_to_list shown))) (risen-sent notes risen) ∙ given-sent shown) ∙ sent)
  where
    by : (o : Option Descriptor) → option_to_list o ≡ p ∷ [] → o ≡ Some p
    by None e = cc
    by (Some q) e = cc

module _ (mtu now : ℕ) (least : 1 ≤ mtu) (low : now ≤ 2 ^ 62) (n : Node (List Note)) (priomap : List ℕ) (is : n.own.discipline ≡ Prio priomap) (lawful : IsLawfulRoot mtu now (shape n)) where
  abbrev below : List Asked
  below = each (ask_own now) (shape n).below

  holds-none : n.own.held ≡ None
  holds-none = by n.own.held refl
    where
      by : (o : Option Descriptor) → n.own.held ≡ o → n.own.held ≡ None
      by None e = e
      by (Some p) e = absurd (subst CanHold is (lawful.0.held (subst (λ (o : Option Descriptor). IsSome o) (sym e) refl)))

  asked-prio : ask now (shape n) ≡ ask_prio n.own below
  asked-prio =
      ap (λ (o : Option Descriptor). option_map_or (holding n.own below) o (ask_discipline now n.own below n.own.discipline)) holds-none
      ∙ ap (ask_discipline now n.own below) is

  child-at : (i : ℕ) (c : Node (List Note)) → slice_get (children n) i ≡ Some c → slice_get below i ≡ Some (ask now (shape c))
  child-at i c there =
      ap (λ (xs : List Asked). slice_get xs i) (each-each_memory (ask_own now) (λ m. tt) n.below ∙ each-nodes (ask_own now) n.below)
      ∙ slice_get-map (from_below (ask_own now)) (nodes_in n.below) i ∙ ap (option_map (from_below (ask_own now))) there ∙ ap Some (sym (asked-shape now c))

  at-child : (i : ℕ) (a : Asked) → slice_get below i ≡ Some a → (c : Node (List Note)) × (slice_get (children n) i ≡ Some c)
  at-child i a there = by (slice_get (nodes_in n.below) i) refl
    where
      by : (o : Option (Node (List Note))) → slice_get (nodes_in n.below) i ≡ o → (c : Node (List Note)) × (slice_get (children n) i ≡ Some c)
      by (Some c) e = (c, e)
      by None e =
          let missing : slice_get below i ≡ None =
          ap (λ (xs : List Asked). slice_get xs i) (each-each_memory (ask_own now) (λ m. tt) n.below ∙ each-nodes (ask_own now) n.below)
          ∙ slice_get-map (from_below (ask_own now)) (nodes_in n.below) i ∙ ap (option_map (from_below (ask_own now))) e in
          absurd (none-some a (sym missing ∙ there))

  lawful-child : (i : ℕ) (c : Node (List Note)) → slice_get (children n) i ≡ Some c → IsLawfulRoot mtu now (shape c)
  lawful-child i c there =
      child-lawful mtu now (shape n).below i (shape c) lawful.1
      (ap (λ (xs : List Shape). slice_get xs i) (nodes_in-each_memory (λ m. tt) n.below) ∙ slice_get-map shape (nodes_in n.below) i ∙ ap (option_map shape) there)

  in-order : (p : Descriptor) → (ask_prio n.own below).shown ≡ Some p → GivesInOrder now n p
  in-order p shows =
      let first = first-band below p (sym (prio-shown n.own below) ∙ shows) in
      let child = at-child first.place first.band first.there in
      let band : ask now (shape child.0) ≡ first.band = same_Some (ask now (shape child.0)) first.band (sym (child-at first.place child.0 child.1) ∙ first.there) in
      record {
        band = first.place;
        child = child.0;
        there = child.1;
        gives = ap (λ (a : Asked). a.shown) band ∙ first.shows;
        before = λ i other lt there. first.before i (ask now (shape other)) lt (child-at i other there);
        empty = λ i other lt there no_tbf.
            rests-empty mtu now least low other (lawful-child i other there) no_tbf (first.before i (ask now (shape other)) lt (child-at i other there));
      }

  sends-in-order : (w : Worked) (p : Descriptor) → IsStageOf (ask now (shape n)) w → filter_map sent_in w.memory ≡ p ∷ [] → GivesInOrder now n p
  sends-in-order w p stage sent =
      let risen : AreRisen (ask now (shape n)).rises = (all-rise now (more n.own tt (shape n).below none)).0 in
      in-order p (stage-shows n.own below w p (subst (λ (a : Asked). AreRisen a.rises) asked-prio risen) (subst (λ (a : Asked). IsStageOf a w) asked-prio stage) sent)

pub bands-are-strict : (settings : DeviceSettings) → IsInRange settings → BandsAreStrict settings
bands-are-strict settings range events moment major prio next priomap p all within there is at sent =
    let d : DeviceState (List Note) = device_after settings events in
    let e : Event = event.Poll moment in
    let goes : device_after settings (events ++ e ∷ []) ≡ (step history d e).device = ap (λ (r : Replay (List Note)). r.device) (replay_from-append history (nothing_yet history settings) events e) in
    subst (λ (x : DeviceState (List Note)). GivesInOrder x.clock prio p) (sym goes)
    (by d (replay-kept settings events range all) there (ap (qdisc major) (sym goes) ∙ at))
  where
    by : (d : DeviceState (List Note)) → IsKept d → qdisc major d ≡ Some prio → qdisc major (step history d (event.Poll moment)).device ≡ Some next → GivesInOrder (counts_at moment d) prio p
    by d kept there at =
        let t : ℕ = counts_at moment d in
        let low : t ≤ 2 ^ 62 = not-after d.clock moment (2 ^ 62) kept.moment within in
        let asked : IsAsked t prio next = becomes major d (event.Poll moment) prio next kept within there at in
        let lawful : IsLawfulRoot d.tree.device.mtu t (shape prio) =
        lawful-with_memory d.tree.device.mtu t (λ m. tt) prio
        (lawful-of d.tree.device.mtu t prio d.tree.root
        (root-later d.clock t (not-before d.clock moment) d.tree.device.mtu d.tree.root kept.lawful) (found major d prio there).there) in
        let memory : next.memory ≡ prio.memory ++ asked.worked.memory = ap (λ (k : Node (List Note)). k.memory) (sym asked.is) ∙ noted-history prio.memory asked.worked.memory in
        let alone : filter_map sent_in asked.worked.memory ≡ p ∷ [] =
        append_cancel_left (filter_map sent_in prio.memory) (filter_map sent_in asked.worked.memory) (p ∷ [])
        (sym (ap (filter_map sent_in) memory ∙ filter_map-append sent_in prio.memory asked.worked.memory) ∙ sent) in
        sends-in-order d.tree.device.mtu t kept.least_mtu low prio priomap is lawful asked.worked p asked.stage alone
