-- What a device answers of a packet that is to come next to the fifo of a class of a drr is what it answers of it once it has come.
use Rattle.std.proofs.Common.{◌≡◌, ℕ, ◌+◌, ◌≤◌, max, refl, sym, ap, subst, ◌∙◌, inl, inr, List, [], ◌∷◌, ◌++◌, length, Option, Some, None, option_map, option_and_then, arith, eq-eqb}
use Rattle.std.specs.Prelude.{All, Bool, true, false, ◌==◌, nat_lt, slice_get, if◌then◌else◌}
use Rattle.std.specs.Option.{option_map_or}
use Rattle.std.proofs.lemmas.Bool.{cases_Bool, cond-false, cond-true, ltb-false, ne_eqb, or_left, or_right}
use Rattle.std.proofs.lemmas.List.{length-append}
use Rattle.std.proofs.lemmas.Option.{none-some, same_Some, option_and_then_some}
use Rattle.q_packet.specs.Descriptor.{Descriptor}
use Rattle.q_packet.specs.declared.cause.Cause.TheVariants.{TooLong}
use Rattle.q_codel.specs.declared.limit.Limit.{Limit}
use Rattle.q_drr.specs.Schedule.{Class, Entry, Schedule, is_active, quantum_of, woken}
use Rattle.q_drr.specs.Waiting.{bytes_of_turn}
use Rattle.q_model.specs.declared.class_id.ClassId.{ClassId}
use Rattle.q_model.specs.declared.event.Event.{Event}
use Rattle.q_model.specs.declared.event.Event.TheVariants as event
use Rattle.q_model.specs.declared.place.Place.TheVariants as place
use Rattle.q_model.specs.Beneath.{beneath, is_empty, totals_in}
use Rattle.q_model.specs.Events.{IsEvent}
use Rattle.q_model.specs.Find.{class_path, node_at}
use Rattle.q_model.specs.Node.{Discipline, Fifo, Prio, Tbf, Drr, FqCodel, Own, Node, Shape, children, each, shape}
use Rattle.q_model.specs.Put.{put_along, put_beneath, put_here}
use Rattle.q_model.specs.Route.{Route, device_route, route}
use Rattle.q_model.specs.Settings.{DeviceSettings, IsInRange}
use Rattle.q_model.specs.Step.{DeviceState, step}
use Rattle.q_model.specs.Stretches.{length_held}
use Rattle.q_model.specs.Tally.{Note, history}
use Rattle.q_model.specs.TreeState.{loss_on, put_on}
use Rattle.q_model.specs.Work.{Worked, booked, settled_class, settled_in}
use Rattle.q_model.proofs.ShrinkLemmas.{child-with_memory}
use Rattle.q_invariants.specs.Kept.{IsLawfulRoot}
use Rattle.q_invariants.proofs.edit.EditLater.{root-later}
use Rattle.q_invariants.proofs.Replays.{IsKept, not-before, replay-kept, step-kept}
use Rattle.q_invariants.proofs.tree.Forests.{lawful-with_memory}
use Rattle.q_invariants.proofs.tree.Related.{forget}
use Rattle.q_invariants.proofs.tree.Within.{IsOf}
use Rattle.q_tree.specs.declared.answers.turns.Turn.{Turn}
use Rattle.q_tree.specs.declared.answers.ways.Link.{Link}
use Rattle.q_tree.specs.answers.Lanes.{level_of, limit_of}
use Rattle.q_tree.specs.answers.Turns.{turn_to}
use Rattle.q_tree.specs.answers.Ways.{DrrClass, way_from, way_to}
use Rattle.q_device.specs.promises.Latest.{latest_on}
use Rattle.q_device.specs.Sharing.{device_after}
use Rattle.q_laws.specs.line.Line.{bytes_in, line, line_own}
use Rattle.q_tree.specs.answers.TurnNow.{bytes_along, bytes_before, bytes_in_drr}
use Rattle.q_device.specs.promises.Latest.{latest_in_turn}
use Rattle.q_drr.specs.Waiting.{turn_now}
use Rattle.q_laws.specs.line.Worst.{IsKeptAt, with_arrival}
use Rattle.q_laws.proofs.line.LanesStay.{AreAlike, class-alike, level-alike, put-alike, way-at-alike}
use Rattle.q_laws.proofs.line.LineDelay.{line-within}
use Rattle.q_laws.proofs.line.WorstKept.{arrived, bytes-last, no-loss}
use Rattle.q_laws.proofs.share.PromiseWays.{of-child}
use Rattle.q_laws.proofs.turn.FifoTurns.{fifo-line}
use Rattle.q_laws.proofs.turn.LatestTurnKept.{fifo-beneath}
use Rattle.q_laws.proofs.turn.TurnLimits.{booked-at, end-of-way, kept-route, put-at, put-fifo, puts-last, shape-at, turn-limit}

-- ---- a class that is woken

woken-last : (i : ℕ) (active : List Entry) (e : Entry) → e.class ≡ i → is_active i (active ++ e ∷ []) ≡ true
woken-last i [] e same = or_left (i == e.class) false (eq-eqb i e.class (sym same))
woken-last i (x ∷ active) e same = or_right (i == x.class) (is_active i (active ++ e ∷ [])) (woken-last i active e same)

module _ (i : ℕ) (s : Schedule) where
  stays-awake : is_active i s.active ≡ true → woken i s ≡ s
  stays-awake e = cond-true (is_active i s.active) s
      (record s { active = s.active ++ record { class = i; deficit = quantum_of i s.classes; granted = 0 } ∷ [] }) e

  wakes : is_active i s.active ≡ false → woken i s ≡ record s { active = s.active ++ record { class = i; deficit = quantum_of i s.classes; granted = 0 } ∷ [] }
  wakes e = cond-false (is_active i s.active) s
      (record s { active = s.active ++ record { class = i; deficit = quantum_of i s.classes; granted = 0 } ∷ [] }) e

  classes-woken : (woken i s).classes ≡ s.classes
  classes-woken = elim (cases_Bool (is_active i s.active)) [
    | inl active ↦ ap (λ (t : Schedule). t.classes) (stays-awake active)
    | inr not_active ↦ ap (λ (t : Schedule). t.classes) (wakes not_active)
  ]

-- waking it again changes nothing, and neither does it change a turn
woken-twice : (i : ℕ) (s : Schedule) → woken i (woken i s) ≡ woken i s
woken-twice i s = elim (cases_Bool (is_active i s.active)) [
  | inl active ↦ ap (woken i) (stays-awake i s active)
  | inr not_active ↦
      let e : Entry = record { class = i; deficit = quantum_of i s.classes; granted = 0 } in
      let t : Schedule = record s { active = s.active ++ e ∷ [] } in
      ap (woken i) (wakes i s not_active) ∙ stays-awake i t (woken-last i s.active e refl) ∙ sym (wakes i s not_active)
]

turn-woken : (i bytes : ℕ) (s : Schedule) → turn_now i bytes (woken i s) ≡ turn_now i bytes s
turn-woken i bytes s =
    ap (λ (cs : List Class). bytes_of_turn i (quantum_of i cs) cs (woken i (woken i s)).active bytes) (classes-woken i s)
    ∙ ap (λ (t : Schedule). bytes_of_turn i (quantum_of i s.classes) s.classes t.active bytes) (woken-twice i s)

-- ---- the drr after a packet was put into a class

module _ (i len queued : ℕ) (own : Own) (c after : Node (List Note)) (grows : (totals_in (beneath after)).bytes ≡ (totals_in (beneath c)).bytes + len) where
  abbrev told : ℕ → Node (List Note) → Discipline → Option ℕ
  told more x d = bytes_in_drr i more own x d

  same-turn : (s : Schedule) → told 0 after (Drr (settled_class i false s)) ≡ told len c (Drr s)
  same-turn s = by (slice_get s.classes i) refl
    where
      size : (totals_in (beneath after)).bytes + 0 ≡ (totals_in (beneath c)).bytes + len
      size = omega (arith, grows)

      by : (o : Option Class) → slice_get s.classes i ≡ o → told 0 after (Drr (settled_class i false s)) ≡ told len c (Drr s)
      by None is =
          ap (λ (o : Option Class). told 0 after (Drr (option_map_or (λ (k : Class). woken k.name s) o s))) is
          ∙ ap (λ n. option_map (λ (k : Class). length_held own.held + turn_now k.name n s) (slice_get s.classes i)) size
      by (Some k) is =
          let held : ℕ = length_held own.held in
          let at : slice_get (woken k.name s).classes i ≡ Some k = ap (λ (cs : List Class). slice_get cs i) (classes-woken k.name s) ∙ is in
          ap (λ (o : Option Class). told 0 after (Drr (option_map_or (λ (x : Class). woken x.name s) o s))) is
          ∙ ap (option_map (λ (x : Class). held + turn_now x.name ((totals_in (beneath after)).bytes + 0) (woken k.name s))) at
          ∙ ap (λ n. Some (held + turn_now k.name n (woken k.name s))) size
          ∙ ap (λ n. Some (held + n)) (turn-woken k.name ((totals_in (beneath c)).bytes + len) s)
          ∙ sym (ap (option_map (λ (x : Class). held + turn_now x.name ((totals_in (beneath c)).bytes + len) s)) is)

  same-told : (d : Discipline) → told 0 after (settled_in i false d) ≡ told len c d
  same-told (Drr s) = same-turn s
  same-told (Fifo limit queue) = refl
  same-told (Prio priomap) = refl
  same-told (Tbf b limit) = refl
  same-told (FqCodel s) = refl

-- ---- along the path of the packet

module _ (now : ℕ) (p : Descriptor) (c : Node (List Note)) where
  abbrev put_into : Worked
  put_into = (put_here now p None (shape c)).node

  abbrev after_put : Node (List Note)
  after_put = booked history c (put_here now p None (shape c)).node

  module _ (grows : (totals_in (beneath (booked history c (put_here now p None (shape c)).node))).bytes ≡ (totals_in (beneath c)).bytes + p.len)
      (some : is_empty (put_here now p None (shape c)).node ≡ false) where
    -- the child in this place, or what is below it, has changed
    module _ (n : Node (List Note)) (i : ℕ) (k : Node (List Note)) (there : slice_get (children n) i ≡ Some k) where
      child-shape : slice_get (children (shape n)) i ≡ Some (shape k)
      child-shape = child-with_memory (λ (m : List Note). tt) n i ∙ ap (option_map shape) there

    at-end : (i : ℕ) (n : Node (List Note)) → slice_get (children n) i ≡ Some c
        → bytes_along 0 (i ∷ []) (booked history n (put_along now p None (i ∷ []) (shape n)).node) ≡ bytes_along p.len (i ∷ []) n
    at-end i n there =
        let s : Shape = shape n in
        subst (λ (o : Option Shape). bytes_along 0 (i ∷ []) (booked history n (option_map_or (λ (x : Shape). put_beneath p i s (put_along now p None [] x)) o
        (put_here now p None s)).node) ≡ bytes_along p.len (i ∷ []) n) (sym (child-shape n i c there))
        (ap (option_and_then (λ (x : Node (List Note)). bytes_in_drr i 0 n.own x (settled_in i (is_empty put_into) n.own.discipline)))
        (booked-at n.below i c put_into there)
        ∙ ap (λ t. bytes_in_drr i 0 n.own after_put (settled_in i t n.own.discipline)) some
        ∙ same-told i p.len 0 n.own c after_put grows n.own.discipline
        ∙ sym (ap (option_and_then (λ (x : Node (List Note)). bytes_in_drr i p.len n.own x n.own.discipline)) there))

    pub along-same : (path : List ℕ) (n : Node (List Note)) → node_at path n ≡ Some c
        → bytes_along 0 path (booked history n (put_along now p None path (shape n)).node) ≡ bytes_along p.len path n
    along-same [] n e = refl
    along-same (i ∷ []) n e =
        option_and_then_some (node_at []) (slice_get (children n) i) c e (λ k there rest. at-end i n (there ∙ rest))
    along-same (i ∷ j ∷ path) n e =
        option_and_then_some (node_at (j ∷ path)) (slice_get (children n) i) c e (λ k there rest. by k there (along-same (j ∷ path) k rest))
      where
        by : (k : Node (List Note)) → slice_get (children n) i ≡ Some k
            → bytes_along 0 (j ∷ path) (booked history k (put_along now p None (j ∷ path) (shape k)).node) ≡ bytes_along p.len (j ∷ path) k
            → bytes_along 0 (i ∷ j ∷ path) (booked history n (put_along now p None (i ∷ j ∷ path) (shape n)).node) ≡ bytes_along p.len (i ∷ j ∷ path) n
        by k there on =
            let s : Shape = shape n in
            let w : Worked = (put_along now p None (j ∷ path) (shape k)).node in
            subst (λ (o : Option Shape). bytes_along 0 (i ∷ j ∷ path) (booked history n (option_map_or (λ (x : Shape). put_beneath p i s (put_along now p None (j ∷ path) x)) o
            (put_here now p None s)).node) ≡ bytes_along p.len (i ∷ j ∷ path) n) (sym (child-shape n i k there))
            (ap (option_and_then (bytes_along 0 (j ∷ path))) (booked-at n.below i k w there) ∙ on
            ∙ sym (ap (option_and_then (bytes_along p.len (j ∷ path))) there))

-- ---- in a device

module _ (dev next : DeviceState (List Note)) (now : ℕ) (kept : IsKept dev) (kept_next : IsKept next) (later : dev.clock ≤ now) (p : Descriptor)
    (link : Option Link) (d : DrrClass) (limit : Limit) where
  abbrev root : Node (List Note)
  root = dev.tree.root

  abbrev mtu : ℕ
  mtu = dev.tree.device.mtu

  lawful : IsLawfulRoot mtu now (shape root)
  lawful = lawful-with_memory mtu now (λ m. tt) root (root-later dev.clock now later mtu root kept.lawful)

  pub told-there : p.len ≤ mtu → (path : List ℕ) → next.tree.root ≡ booked history root (put_along now p None path (shape root)).node
      → AreAlike root next.tree.root → way_from path root root.own.discipline ≡ Some (record { link = link; drrs = d ∷ [] })
      → route p (shape root) ≡ record { path = path; refusal = None }
      → (c : Node (List Note)) → node_at path root ≡ Some c → limit_of c.own.discipline ≡ Some limit
      → bytes_along 0 path next.tree.root ≡ bytes_along p.len path root
  told-there short path becomes alike found goes c there is =
      let w : Worked = (put_here now p None (shape c)).node in
      let after : Node (List Note) = booked history c w in
      let last = (puts-last mtu now p short limit path (shape root) (shape c) lawful (shape-at path root c there) goes is).last in
      let was = end-of-way path root link d found in
      let ends = end-of-way path next.tree.root link d (way-at-alike path root next.tree.root alike ∙ found) in
      let is_c : was.step.child ≡ c = same_Some was.step.child c (sym was.ends ∙ there) in
      let is_after : ends.step.child ≡ after =
      same_Some ends.step.child after (sym ends.ends ∙ ap (node_at path) becomes ∙ put-at now p path root c there) in
      let in_root : IsOf c root =
      subst (λ (k : Node (List Note)). IsOf k root) is_c (of-child was.step.child was.drr root was.place was.step.there was.within) in
      let in_next : IsOf after next.tree.root =
      subst (λ (k : Node (List Note)). IsOf k next.tree.root) is_after
      (of-child ends.step.child ends.drr next.tree.root ends.place ends.step.there ends.within) in
      let fifo_after : limit_of after.own.discipline ≡ Some limit = put-fifo now p c.own.discipline limit is in
      let bare_is : line (shape c) ≡ line c = fifo-line c.own limit is (each line_own (forget c.below)) (each line_own c.below) in
      let after_is : line w ≡ line after = fifo-line w.own limit fifo_after (each line_own w.below) (each line_own after.below) in
      let size : bytes_in (line after) ≡ bytes_in (line c) + p.len =
      ap bytes_in (sym after_is ∙ last ∙ ap (λ (xs : List Descriptor). xs ++ p ∷ []) bare_is) ∙ bytes-last p (line c) in
      let grows : (totals_in (beneath after)).bytes ≡ (totals_in (beneath c)).bytes + p.len =
      sym (fifo-beneath next kept_next after limit in_next fifo_after) ∙ size ∙ ap (λ n. n + p.len) (fifo-beneath dev kept c limit in_root is) in
      let longer = ap length last ∙ length-append (line (shape c)) (p ∷ []) in
      let some : is_empty w ≡ false = ne_eqb (length (beneath w)) 0 (λ none. absurd (omega (arith, none, longer, line-within w))) in
      ap (bytes_along 0 path) becomes ∙ along-same now p c grows some path root there

  -- no packet that is kept was refused or too long
  pub told-kept : (path : List ℕ) → (route p root).path ≡ path → (long : Bool) → nat_lt mtu p.len ≡ long
      → next.tree.root ≡ booked history root (put_on now p (if long then None else Some (route p (shape root))) (shape root)).node → AreAlike root next.tree.root
      → way_from path root root.own.discipline ≡ Some (record { link = link; drrs = d ∷ [] })
      → (c : Node (List Note)) → node_at path root ≡ Some c → limit_of c.own.discipline ≡ Some limit
      → loss_on now p (if long then None else Some (route p (shape root))) (shape root) ≡ None
      → bytes_along 0 path next.tree.root ≡ bytes_along p.len path root
  told-kept path goes true e becomes alike found c there is loss = absurd (none-some TooLong (sym loss))
  told-kept path goes false e becomes alike found c there is loss =
      let r : Route = route p (shape root) in
      let on = kept-route dev now p path goes loss in
      told-there (ltb-false mtu p.len e) path
      (becomes ∙ ap (λ (x : Route). booked history root (put_along now p x.refusal x.path (shape root)).node) on) alike found on c there is

module _ (settings : DeviceSettings) (range : IsInRange settings) (before : List Event) (p : Descriptor) (moment : ℕ) (link : Option Link)
    (d : DrrClass) (limit : Limit) (turn : Turn) (class : ClassId) (earlier : All IsEvent before) (comes : IsEvent (event.Arrive p moment))
    (leads : way_to class (device_after settings before).tree.root ≡ Some (record { link = link; drrs = d ∷ [] }))
    (found : turn_to (place.Class class) (device_after settings before).tree.root ≡ Some turn) (same : turn.limit ≡ limit)
    (at : IsKeptAt (place.Class class) p moment (device_after settings before)) where
  abbrev start : DeviceState (List Note)
  start = device_after settings before

  abbrev stepped : DeviceState (List Note)
  stepped = (step history (device_after settings before) (event.Arrive p moment)).device

  abbrev come : ℕ
  come = max (device_after settings before).clock moment

  alike : AreAlike (device_after settings before).tree.root (step history (device_after settings before) (event.Arrive p moment)).device.tree.root
  alike = put-alike come p (device_route p start.tree.device.mtu (shape start.tree.root)) start.tree.root

  same-bytes : bytes_before class 0 (step history (device_after settings before) (event.Arrive p moment)).device.tree.root
      ≡ bytes_before class p.len (device_after settings before).tree.root
  same-bytes =
      option_and_then_some (λ path. option_and_then (λ (c : Node (List Note)). limit_of c.own.discipline) (node_at path start.tree.root))
      (class_path class start.tree.root) limit (turn-limit class start.tree.root turn found ∙ ap Some same)
      (λ path is rest. option_and_then_some (λ (c : Node (List Note)). limit_of c.own.discipline) (node_at path start.tree.root) limit rest
      (λ c there fifo. along path is c there fifo))
    where
      along : (path : List ℕ) → class_path class (device_after settings before).tree.root ≡ Some path → (c : Node (List Note))
          → node_at path (device_after settings before).tree.root ≡ Some c → limit_of c.own.discipline ≡ Some limit
          → bytes_before class 0 (step history (device_after settings before) (event.Arrive p moment)).device.tree.root
          ≡ bytes_before class p.len (device_after settings before).tree.root
      along path is c there fifo =
          let kept : IsKept start = replay-kept settings before range earlier in
          let mtu : ℕ = start.tree.device.mtu in
          let goes : (route p start.tree.root).path ≡ path = same_Some (route p start.tree.root).path path (sym at.goes ∙ is) in
          let ways : way_from path start.tree.root start.tree.root.own.discipline ≡ Some (record { link = link; drrs = d ∷ [] }) =
          sym (ap (option_and_then (λ xs. way_from xs start.tree.root start.tree.root.own.discipline)) is) ∙ leads in
          let told = told-kept start stepped come kept (step-kept start (event.Arrive p moment) kept comes) (not-before start.clock moment) p link d limit
          path goes (nat_lt mtu p.len) refl refl alike ways c there fifo
          (no-loss (loss_on come p (if nat_lt mtu p.len then None else Some (route p (shape start.tree.root))) (shape start.tree.root)) at.kept) in
          ap (option_and_then (λ xs. bytes_along 0 xs stepped.tree.root)) (class-alike class start.tree.root stepped.tree.root alike ∙ is) ∙ told
          ∙ sym (ap (option_and_then (λ xs. bytes_along p.len xs start.tree.root)) is)

  -- what is answered once it has come
  pub becomes : latest_in_turn class 0 settings.mtu (device_after settings (with_arrival before p moment)) link
      ≡ option_and_then (λ bytes. latest_on settings.mtu come bytes (level_of come (device_after settings before).tree.root.own.discipline) link)
      (bytes_before class p.len (device_after settings before).tree.root)
  becomes =
      ap (λ (x : DeviceState (List Note)). latest_in_turn class 0 settings.mtu x link) (arrived settings before p moment)
      ∙ ap (option_and_then (λ bytes. latest_on settings.mtu come bytes (level_of come stepped.tree.root.own.discipline) link)) same-bytes
      ∙ ap (λ (l : Option ℕ). option_and_then (λ bytes. latest_on settings.mtu come bytes l link) (bytes_before class p.len start.tree.root))
      (level-alike come start.tree.root stepped.tree.root alike)
