-- What an arrival that a fifo in a class of a drr keeps makes of the fifo: the packet is last in it, and it has no more bytes than its limit.
use Rattle.std.proofs.Common.{◌≡◌, ℕ, zero, suc, ◌≤◌, max, refl, sym, ap, subst, ◌∙◌, inl, List, [], ◌∷◌, ◌++◌, length, map, set, Option, Some, None, option_map, option_and_then, arith}
use Rattle.std.specs.Prelude.{Bool, true, false, nat_lt, slice_get, if◌then◌else◌}
use Rattle.std.specs.Option.{option_map_or}
use Rattle.std.proofs.lemmas.Bool.{ltb-false}
use Rattle.std.proofs.lemmas.Option.{none-some, same_Some, option_and_then_some}
use Rattle.q_packet.specs.Descriptor.{Descriptor}
use Rattle.q_packet.specs.declared.cause.Cause.{Cause}
use Rattle.q_packet.specs.declared.cause.Cause.TheVariants.{TooLong}
use Rattle.q_bucket.specs.Level.{TokenBucket}
use Rattle.q_codel.specs.declared.limit.Limit.{Limit}
use Rattle.q_model.specs.declared.class_id.ClassId.{ClassId}
use Rattle.q_model.specs.declared.event.Event.TheVariants as event
use Rattle.q_model.specs.declared.place.Place.TheVariants as place
use Rattle.q_model.specs.Find.{class_path, node_at}
use Rattle.q_model.specs.Node.{Discipline, Fifo, Prio, Tbf, Drr, FqCodel, Forest, none, more, Node, Shape, children, each, nodes_in, shape, side_by_side}
use Rattle.q_model.specs.Put.{put_along, put_beneath, put_here, queued_in}
use Rattle.q_model.specs.Route.{Route, device_route, route, way}
use Rattle.q_model.specs.Settings.{DeviceSettings, IsInRange}
use Rattle.q_model.specs.Step.{DeviceState, step}
use Rattle.q_model.specs.Tally.{Note, history}
use Rattle.q_model.specs.TreeState.{loss_on, put_on}
use Rattle.q_model.specs.Work.{Worked, booked, each_booked, quiet}
use Rattle.q_model.proofs.ShrinkLemmas.{child-with_memory}
use Rattle.q_invariants.specs.Kept.{IsLawfulRoot}
use Rattle.q_invariants.proofs.edit.EditLater.{root-later}
use Rattle.q_invariants.proofs.edit.Edits.{found_in_shape}
use Rattle.q_invariants.proofs.Replays.{IsKept, not-before, replay-kept, step-kept}
use Rattle.q_invariants.proofs.tree.Forests.{lawful-with_memory}
use Rattle.q_invariants.proofs.tree.Quiet.{child-lawful}
use Rattle.q_invariants.proofs.tree.Related.{forget}
use Rattle.q_invariants.proofs.tree.Ways.{route-goes}
use Rattle.q_invariants.proofs.tree.Within.{IsOf}
use Rattle.q_tree.specs.declared.answers.turns.Turn.{Turn}
use Rattle.q_tree.specs.declared.answers.ways.Link.{Link}
use Rattle.q_tree.specs.declared.answers.ways.Share.{Share}
use Rattle.q_tree.specs.answers.Lanes.{limit_of}
use Rattle.q_tree.specs.answers.Turns.{limit_in, turn_on, turn_to}
use Rattle.q_tree.specs.answers.Ways.{DrrClass, Way, drr_class, drrs_on, has_tbf, shares_of, way_below, way_from, way_to}
use Rattle.q_device.specs.promises.Worst.{most_bytes}
use Rattle.q_device.specs.Sharing.{device_after}
use Rattle.q_device.proofs.ClassStretches.{mtu-stays}
use Rattle.q_laws.specs.line.Line.{bytes_in, line, line_own}
use Rattle.q_laws.specs.turn.FifoTurn.{class_line}
use Rattle.q_tree.specs.answers.TurnNow.{bytes_along}
use Rattle.q_laws.specs.line.Worst.{EndsWithin, with_arrival}
use Rattle.q_laws.specs.turn.TurnWorst.{TurnsKeepLimits, id_of, turn_of}
use Rattle.q_laws.proofs.line.LanePuts.{IsPutLast, lane-puts}
use Rattle.q_laws.proofs.line.LanesStay.{AreAlike, put-alike, way-at-alike}
use Rattle.q_laws.proofs.line.WorstKept.{arrived, bytes-last, no-loss, not-refused}
use Rattle.q_laws.proofs.share.PromiseKept.{bare, link-is}
use Rattle.q_laws.proofs.share.PromiseWays.{IsStep, of-child, on-way, step-of}
use Rattle.q_laws.proofs.turn.FifoTurns.{fifo-line, line-at}

-- ---- where a way ends

-- the drr at the end of a path, and the child of its class
pub record EndOfWay (path : List ℕ) (root : Node (List Note)) (d : DrrClass) : Type 0 where
  pub drr : Node (List Note)
  pub within : IsOf drr root
  pub place : ℕ
  pub step : IsStep place [] drr d []
  pub ends : node_at path root ≡ Some step.child
  pub along : (len : ℕ) → bytes_along len path root ≡ bytes_along len (place ∷ []) drr

-- a path that has no class more goes no further
last-step : (i : ℕ) (rest : List ℕ) (n : Node (List Note)) (d : DrrClass) → drrs_on (i ∷ rest) n ≡ Some (d ∷ []) → rest ≡ []
last-step i [] n d e = refl
last-step i (j ∷ rest) n d e = by (step-of i (j ∷ rest) n d [] e).child (step-of i (j ∷ rest) n d [] e).rest
  where
    more_than : (k : DrrClass) (o : Option (List DrrClass)) → option_map (λ (ds : List DrrClass). k ∷ ds) o ≡ Some [] → ⊥
    more_than k None some = none-some [] some
    more_than k (Some ds) some = let size = ap (λ (xs : List DrrClass). length xs) (same_Some (k ∷ ds) [] some) in omega (arith, size)

    by : (c : Node (List Note)) → drrs_on (j ∷ rest) c ≡ Some [] → j ∷ rest ≡ []
    by c at =
        option_and_then_some (λ (k : DrrClass). option_map (λ (ds : List DrrClass). k ∷ ds) (option_and_then (drrs_on rest) (slice_get (children c) j)))
        (drr_class j c.own) [] at (λ k there some. absurd (more_than k (option_and_then (drrs_on rest) (slice_get (children c) j)) some))

ends-at : (i : ℕ) (rest : List ℕ) (n : Node (List Note)) (d : DrrClass) → drrs_on (i ∷ rest) n ≡ Some (d ∷ [])
    → (s : IsStep i [] n d []) × (node_at (i ∷ rest) n ≡ Some s.child) × ((len : ℕ) → bytes_along len (i ∷ rest) n ≡ bytes_along len (i ∷ []) n)
ends-at i rest n d e =
    let none = last-step i rest n d e in
    let s = step-of i [] n d [] (ap (λ xs. drrs_on (i ∷ xs) n) (sym none) ∙ e) in
    (s, ap (λ xs. node_at (i ∷ xs) n) none ∙ ap (option_and_then (node_at [])) s.there, λ len. ap (λ xs. bytes_along len (i ∷ xs) n) none)

pub end-of-way : (path : List ℕ) (root : Node (List Note)) (link : Option Link) (d : DrrClass)
    → way_from path root root.own.discipline ≡ Some (record { link = link; drrs = d ∷ [] }) → EndOfWay path root d
end-of-way path root None d e = by path (bare root (d ∷ []) path e)
  where
    by : (path : List ℕ) → drrs_on path root ≡ Some (d ∷ []) → EndOfWay path root d
    by [] at = absurd (let size = ap (λ (xs : List DrrClass). length xs) (same_Some [] (d ∷ []) at) in omega (arith, size))
    by (i ∷ rest) at =
        let s = ends-at i rest root d at in
        record { drr = root; within = inl refl; place = i; step = s.0; ends = s.1; along = s.2 }
end-of-way path root (Some link) d e = by path root.own.discipline e
  where
    w : Way
    w = record { link = Some link; drrs = d ∷ [] }

    made : (l : Option Link) (t : Bool) (o : Option (List DrrClass)) → (if t then None else option_map (λ (ds : List DrrClass). record { link = l; drrs = ds }) o) ≡ Some w
        → o ≡ Some (d ∷ [])
    made l true o at = absurd (none-some w at)
    made l false None at = absurd (none-some w at)
    made l false (Some ds) at = ap Some (link-is root l (Some link) ds (d ∷ []) at).1

    below : (j : ℕ) (l : Link) (rest : List ℕ) (c : Node (List Note)) → slice_get (children root) j ≡ Some c → way_below l rest c ≡ Some w
        → EndOfWay (j ∷ rest) root d
    below j l [] c there at = absurd (none-some w at)
    below j l (i ∷ rest) c there at =
        let s = ends-at i rest c d (made (Some l) (has_tbf c) (drrs_on (i ∷ rest) c) at) in
        record {
          drr = c;
          within = of-child c root root j there (inl refl);
          place = i;
          step = s.0;
          ends = ap (option_and_then (node_at (i ∷ rest))) there ∙ s.1;
          along = λ len. ap (option_and_then (bytes_along len (i ∷ rest))) there ∙ s.2 len;
        }

    beneath : (j : ℕ) (l : Link) (rest : List ℕ) (o : Option (Node (List Note))) → slice_get (children root) j ≡ o → option_and_then (way_below l rest) o ≡ Some w
        → EndOfWay (j ∷ rest) root d
    beneath j l rest None there at = absurd (none-some w at)
    beneath j l rest (Some c) there at = below j l rest c there at

    handled : (b : TokenBucket) (j : ℕ) (rest : List ℕ) (o : Option ℕ)
        → option_and_then (λ h. option_and_then (way_below (record { handle = h; rate = b.rate; burst = b.burst }) rest) (slice_get (children root) j)) o
        ≡ Some w → EndOfWay (j ∷ rest) root d
    handled b j rest None at = absurd (none-some w at)
    handled b j rest (Some h) at = beneath j (record { handle = h; rate = b.rate; burst = b.burst }) rest (slice_get (children root) j) refl at

    no_link : (o : Option (List DrrClass)) → option_map (λ (ds : List DrrClass). record { link = None; drrs = ds }) o ≡ Some w → ⊥
    no_link None at = none-some w at
    no_link (Some ds) at = none-some link (link-is root None (Some link) ds (d ∷ []) at).0

    by : (path : List ℕ) (k : Discipline) → way_from path root k ≡ Some w → EndOfWay path root d
    by [] k at = absurd (none-some w at)
    by (j ∷ rest) (Tbf b most) at = handled b j rest root.own.handle at
    by (j ∷ rest) (Drr s) at = absurd (no_link (drrs_on (j ∷ rest) root) at)
    by (j ∷ rest) (Fifo most queue) at = absurd (none-some w at)
    by (j ∷ rest) (Prio priomap) at = absurd (none-some w at)
    by (j ∷ rest) (FqCodel s) at = absurd (none-some w at)

-- ---- the node at the end of a path, after a packet was put there

pub booked-at : (x : Forest (List Note)) (i : ℕ) (c : Node (List Note)) (w : Worked) → slice_get (nodes_in x) i ≡ Some c
    → slice_get (nodes_in (each_booked history x (side_by_side (set (map quiet (nodes_in (forget x))) i w)))) i ≡ Some (booked history c w)
booked-at none i c w e = absurd (none-some c e)
booked-at (more own m below others) zero c w e = ap (λ (k : Node (List Note)). Some (booked history k w)) (same_Some (record { own = own; memory = m; below = below }) c e)
booked-at (more own m below others) (suc i) c w e = booked-at others i c w e

pub put-at : (now : ℕ) (p : Descriptor) (path : List ℕ) (n c : Node (List Note)) → node_at path n ≡ Some c
    → node_at path (booked history n (put_along now p None path (shape n)).node) ≡ Some (booked history c (put_here now p None (shape c)).node)
put-at now p [] n c e = ap (λ (k : Node (List Note)). Some (booked history k (put_here now p None (shape k)).node)) (same_Some n c e)
put-at now p (i ∷ path) n c e = option_and_then_some (node_at path) (slice_get (children n) i) c e (λ k there rest. by k there (put-at now p path k c rest))
  where
    by : (k : Node (List Note)) → slice_get (children n) i ≡ Some k
        → node_at path (booked history k (put_along now p None path (shape k)).node) ≡ Some (booked history c (put_here now p None (shape c)).node)
        → node_at (i ∷ path) (booked history n (put_along now p None (i ∷ path) (shape n)).node) ≡ Some (booked history c (put_here now p None (shape c)).node)
    by k there on =
        let s : Shape = shape n in
        let child : slice_get (children s) i ≡ Some (shape k) = child-with_memory (λ (m : List Note). tt) n i ∙ ap (option_map shape) there in
        let w : Worked = (put_along now p None path (shape k)).node in
        subst (λ (o : Option Shape). node_at (i ∷ path) (booked history n (option_map_or (λ (x : Shape). put_beneath p i s (put_along now p None path x)) o (put_here now p None s)).node)
        ≡ Some (booked history c (put_here now p None (shape c)).node)) (sym child)
        (ap (option_and_then (node_at path)) (booked-at n.below i k w there) ∙ on)

-- ---- the packet is last in the fifo

module _ (mtu now : ℕ) (p : Descriptor) (short : p.len ≤ mtu) (limit : Limit) where
  pub puts-last : (path : List ℕ) (s c : Shape) → IsLawfulRoot mtu now s → node_at path s ≡ Some c → route p s ≡ record { path = path; refusal = None }
      → limit_of c.own.discipline ≡ Some limit → IsPutLast (most_bytes mtu limit) p (line c) (line (put_here now p None c).node)
  puts-last [] s c h e goes is =
      subst (λ (x : Shape). IsPutLast (most_bytes mtu limit) p (line x) (line (put_here now p None x).node)) (same_Some s c e)
      (lane-puts mtu now p short [] s limit h (ap (λ (x : Shape). limit_of x.own.discipline) (same_Some s c e) ∙ is) goes)
  puts-last (i ∷ path) s c h e goes is =
      let on = route-goes p s i path None goes in
      puts-last path on.child c (child-lawful mtu now s.below i on.child h.1 on.there) (sym (ap (option_and_then (node_at path)) on.there) ∙ e) on.way is

-- a fifo's line is that of what was made of it
pub put-fifo : (now : ℕ) (p : Descriptor) (d : Discipline) (limit : Limit) → limit_of d ≡ Some limit → limit_of (queued_in p now d) ≡ Some limit
put-fifo now p (Fifo most queue) limit e = e
put-fifo now p (Prio priomap) limit e = absurd (none-some limit e)
put-fifo now p (Tbf b most) limit e = absurd (none-some limit e)
put-fifo now p (Drr s) limit e = absurd (none-some limit e)
put-fifo now p (FqCodel s) limit e = absurd (none-some limit e)

-- ---- in a device

-- a fifo at the end of a path, in a shape too
pub shape-at : (path : List ℕ) (n c : Node (List Note)) → node_at path n ≡ Some c → node_at path (shape n) ≡ Some (shape c)
shape-at [] n c e = ap (λ (o : Option (Node (List Note))). option_map shape o) e
shape-at (i ∷ path) n c e =
    option_and_then_some (node_at path) (slice_get (children n) i) c e
    (λ k there rest. ap (option_and_then (node_at path)) (child-with_memory (λ (m : List Note). tt) n i ∙ ap (option_map shape) there) ∙ shape-at path k c rest)

-- what a turn was found by
limit-on : (link : Option Link) (shares : List Share) (l : Limit) (turn : Turn) → turn_on link shares l ≡ Some turn → l ≡ turn.limit
limit-on link [] l turn e = absurd (none-some turn e)
limit-on link (share ∷ []) l turn e = ap (λ (t : Turn). t.limit) (same_Some (record { link = link; share = share; limit = l }) turn e)
limit-on link (share ∷ other ∷ shares) l turn e = absurd (none-some turn e)

pub turn-limit : (class : ClassId) (root : Node (List Note)) (turn : Turn) → turn_to (place.Class class) root ≡ Some turn → limit_in class root ≡ Some turn.limit
turn-limit class root turn e =
    option_and_then_some (λ (w : Way). option_and_then (turn_on w.link (shares_of w)) (limit_in class root)) (way_to class root) turn e
    (λ w there rest. option_and_then_some (turn_on w.link (shares_of w)) (limit_in class root) turn rest
    (λ l found made. found ∙ ap Some (limit-on w.link (shares_of w) l turn made)))

-- the route of a packet that is kept
pub kept-route : (dev : DeviceState (List Note)) (now : ℕ) (p : Descriptor) (path : List ℕ) → (route p dev.tree.root).path ≡ path
    → loss_on now p (Some (route p (shape dev.tree.root))) (shape dev.tree.root) ≡ None
    → route p (shape dev.tree.root) ≡ record { path = path; refusal = None }
kept-route dev now p path goes loss =
    let root : Node (List Note) = dev.tree.root in
    let r : Route = route p (shape root) in
    let same : r ≡ route p root = found_in_shape (λ own below. way p own below own.discipline) root in
    let refusal : r.refusal ≡ None = not-refused now p (shape root) r.path r.refusal loss in
    let steps : r.path ≡ path = ap (λ (x : Route). x.path) same ∙ goes in
    ap (λ (o : Option Cause). record { path = r.path; refusal = o }) refusal ∙ ap (λ (xs : List ℕ). record { path = xs; refusal = None }) steps

module _ (dev next : DeviceState (List Note)) (now : ℕ) (kept : IsKept dev) (kept_next : IsKept next) (later : dev.clock ≤ now) (p : Descriptor)
    (link : Option Link) (d : DrrClass) (limit : Limit) where
  abbrev root : Node (List Note)
  root = dev.tree.root

  abbrev mtu : ℕ
  mtu = dev.tree.device.mtu

  lawful : IsLawfulRoot mtu now (shape root)
  lawful = lawful-with_memory mtu now (λ m. tt) root (root-later dev.clock now later mtu root kept.lawful)

  -- once it is put in its place
  put-there : p.len ≤ mtu → (path : List ℕ) → next.tree.root ≡ booked history root (put_along now p None path (shape root)).node → AreAlike root next.tree.root
      → way_from path root root.own.discipline ≡ Some (record { link = link; drrs = d ∷ [] }) → route p (shape root) ≡ record { path = path; refusal = None }
      → (c : Node (List Note)) → node_at path root ≡ Some c → limit_of c.own.discipline ≡ Some limit
      → IsPutLast (most_bytes mtu limit) p (line c) (class_line d.major d.class.name next)
  put-there short path becomes alike found goes c there is =
      let after : Node (List Note) = booked history c (put_here now p None (shape c)).node in
      let w : Worked = (put_here now p None (shape c)).node in
      let last = puts-last mtu now p short limit path (shape root) (shape c) lawful (shape-at path root c there) goes is in
      let end = end-of-way path next.tree.root link d (way-at-alike path root next.tree.root alike ∙ found) in
      let o = on-way next kept_next end.place [] end.drr d [] end.step end.within in
      let child : o.class.child ≡ after =
      o.child_is ∙ same_Some end.step.child after
      (sym end.ends ∙ ap (node_at path) becomes ∙ put-at now p path root c there) in
      let line_is : class_line d.major d.class.name next ≡ line w =
      line-at d.major d.class.name next o.class o.there ∙ ap (λ (k : Node (List Note)). line k) child
      ∙ fifo-line w.own limit (put-fifo now p c.own.discipline limit is) (each line_own after.below) (each line_own w.below) in
      let bare_is : line (shape c) ≡ line c = fifo-line c.own limit is (each line_own (forget c.below)) (each line_own c.below) in
      subst (λ (xs : List Descriptor). IsPutLast (most_bytes mtu limit) p xs (class_line d.major d.class.name next)) bare_is
      (subst (λ (xs : List Descriptor). IsPutLast (most_bytes mtu limit) p (line (shape c)) xs) (sym line_is) last)

  -- no packet that is kept was refused or too long
  put-kept : (path : List ℕ) → (route p root).path ≡ path → (long : Bool) → nat_lt mtu p.len ≡ long
      → next.tree.root ≡ booked history root (put_on now p (if long then None else Some (route p (shape root))) (shape root)).node → AreAlike root next.tree.root
      → way_from path root root.own.discipline ≡ Some (record { link = link; drrs = d ∷ [] })
      → (c : Node (List Note)) → node_at path root ≡ Some c → limit_of c.own.discipline ≡ Some limit
      → loss_on now p (if long then None else Some (route p (shape root))) (shape root) ≡ None
      → IsPutLast (most_bytes mtu limit) p (line c) (class_line d.major d.class.name next)
  put-kept path goes true e becomes alike found c there is loss = absurd (none-some TooLong (sym loss))
  put-kept path goes false e becomes alike found c there is loss =
      let on = kept-route dev now p path goes loss in
      put-there (ltb-false mtu p.len e) path
      (becomes ∙ ap (λ (x : Route). booked history root (put_along now p x.refusal x.path (shape root)).node) on) alike found on c there is

pub turns-keep-limits : (settings : DeviceSettings) → IsInRange settings → TurnsKeepLimits settings
turns-keep-limits settings range before p moment link d limit earlier comes leads found at =
    option_and_then_some (λ path. option_and_then (λ (c : Node (List Note)). limit_of c.own.discipline) (node_at path dev.tree.root)) (class_path (id_of d) dev.tree.root) limit
    (turn-limit (id_of d) dev.tree.root (turn_of link d limit) found)
    (λ path is rest. option_and_then_some (λ (c : Node (List Note)). limit_of c.own.discipline) (node_at path dev.tree.root) limit rest
    (λ c there fifo. ends path is c there fifo))
  where
    dev : DeviceState (List Note)
    dev = device_after settings before

    next : DeviceState (List Note)
    next = (step history (device_after settings before) (event.Arrive p moment)).device

    ends : (path : List ℕ) → class_path (id_of d) (device_after settings before).tree.root ≡ Some path → (c : Node (List Note))
        → node_at path (device_after settings before).tree.root ≡ Some c → limit_of c.own.discipline ≡ Some limit
        → EndsWithin (most_bytes settings.mtu limit) p (class_line d.major d.class.name (device_after settings (with_arrival before p moment)))
    ends path is c there fifo =
        let kept : IsKept dev = replay-kept settings before range earlier in
        let mtu : ℕ = dev.tree.device.mtu in
        let now : ℕ = max dev.clock moment in
        let goes : (route p dev.tree.root).path ≡ path = same_Some (route p dev.tree.root).path path (sym at.goes ∙ is) in
        let ways : way_from path dev.tree.root dev.tree.root.own.discipline ≡ Some (record { link = link; drrs = d ∷ [] }) =
        sym (ap (option_and_then (λ xs. way_from xs dev.tree.root dev.tree.root.own.discipline)) is) ∙ leads in
        let put = put-kept dev next now kept (step-kept dev (event.Arrive p moment) kept comes) (not-before dev.clock moment) p link d limit path goes
        (nat_lt mtu p.len) refl refl (put-alike now p (device_route p mtu (shape dev.tree.root)) dev.tree.root) ways c there fifo
        (no-loss (loss_on now p (if nat_lt mtu p.len then None else Some (route p (shape dev.tree.root))) (shape dev.tree.root)) at.kept) in
        let after = arrived settings before p moment in
        let last : class_line d.major d.class.name (device_after settings (with_arrival before p moment)) ≡ line c ++ p ∷ [] =
        ap (class_line d.major d.class.name) after ∙ put.last in
        let within = put.within in
        let size = bytes-last p (line c) in
        let few : bytes_in (line c ++ p ∷ []) ≤ most_bytes mtu limit = omega (arith, size, within) in
        record {
          others = line c;
          last = last;
          within = subst (λ (xs : List Descriptor). bytes_in xs ≤ most_bytes settings.mtu limit) (sym last)
              (subst (λ m. bytes_in (line c ++ p ∷ []) ≤ most_bytes m limit) (mtu-stays settings before) few);
        }
