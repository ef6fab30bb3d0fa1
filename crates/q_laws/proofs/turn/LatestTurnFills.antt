-- A packet of a class of a drr that comes later finds a bucket that has filled meanwhile: what a device answers of it then.
use Rattle.std.proofs.Common.{◌≡◌, ℕ, max, refl, sym, ap, subst, ◌∙◌, List, [], ◌∷◌, Option, Some, None, option_map, option_and_then}
use Rattle.std.specs.Prelude.{Bool, true, false, slice_get, if◌then◌else◌}
use Rattle.std.proofs.lemmas.Option.{none-some, same_Some, option_and_then_some}
use Rattle.q_model.specs.declared.class_id.ClassId.{ClassId}
use Rattle.q_model.specs.declared.place.Place.TheVariants as place
use Rattle.q_model.specs.Find.{class_path}
use Rattle.q_model.specs.Node.{Discipline, Fifo, Prio, Tbf, Drr, FqCodel, Node, children}
use Rattle.q_model.specs.Settings.{DeviceSettings, IsInRange}
use Rattle.q_model.specs.Step.{DeviceState}
use Rattle.q_model.specs.Tally.{Note}
use Rattle.q_tree.specs.declared.answers.ways.Link.{Link}
use Rattle.q_tree.specs.answers.Lanes.{level_of}
use Rattle.q_tree.specs.answers.TurnNow.{bytes_before}
use Rattle.q_tree.specs.answers.Ways.{DrrClass, Way, drrs_on, has_tbf, way_below, way_from, way_to}
use Rattle.q_device.specs.promises.Latest.{latest_on}
use Rattle.q_device.specs.Sharing.{device_after}
use Rattle.q_laws.specs.line.Latest.{IsToldBy, at_best}
use Rattle.q_laws.specs.turn.TurnLatest.{LatestTurnStandsAsItFills}
use Rattle.q_laws.proofs.line.LatestArrives.{answered-in-turn, one-drr, turn-becomes}
use Rattle.q_laws.proofs.line.LatestFills.{IsItsBucket, stands-on}

-- ---- the bucket above a drr

link-of : (link : Link) (path : List ℕ) (n : Node (List Note)) (w : Way) → way_below link path n ≡ Some w → Some link ≡ w.link
link-of link [] n w e = absurd (none-some w e)
link-of link (i ∷ path) n w e = by (has_tbf n) (drrs_on (i ∷ path) n) e
  where
    by : (t : Bool) (o : Option (List DrrClass))
        → (if t then None else option_map (λ (ds : List DrrClass). record { link = Some link; drrs = ds }) o) ≡ Some w → Some link ≡ w.link
    by true o e = absurd (none-some w e)
    by false None e = absurd (none-some w e)
    by false (Some ds) e = ap (λ (x : Way). x.link) (same_Some (record { link = Some link; drrs = ds }) w e)

its-bucket : (root : Node (List Note)) (path : List ℕ) (d : Discipline) (w : Way) (link : Link) → way_from path root d ≡ Some w
    → w.link ≡ Some link → IsItsBucket d link
its-bucket root [] d w link e is = absurd (none-some w e)
its-bucket root (i ∷ path) (Tbf b most) w link e is = by root.own.handle e
  where
    child : (h : ℕ) (o : Option (Node (List Note)))
        → option_and_then (way_below (record { handle = h; rate = b.rate; burst = b.burst }) path) o ≡ Some w → IsItsBucket (Tbf b most) link
    child h None e = absurd (none-some w e)
    child h (Some c) e =
        let own : Link = record { handle = h; rate = b.rate; burst = b.burst } in
        let same : own ≡ link = same_Some own link (link-of own path c w e ∙ is) in
        record { bucket = b; most = most; is = refl; rate = ap (λ (l : Link). l.rate) same; burst = ap (λ (l : Link). l.burst) same }

    by : (o : Option ℕ)
        → option_and_then (λ h. option_and_then (way_below (record { handle = h; rate = b.rate; burst = b.burst }) path) (slice_get (children root) i)) o ≡ Some w
        → IsItsBucket (Tbf b most) link
    by None e = absurd (none-some w e)
    by (Some h) e = child h (slice_get (children root) i) e
its-bucket root (i ∷ path) (Drr s) w link e is = by (drrs_on (i ∷ path) root) e
  where
    by : (o : Option (List DrrClass)) → option_map (λ (ds : List DrrClass). record { link = None; drrs = ds }) o ≡ Some w → IsItsBucket (Drr s) link
    by None e = absurd (none-some w e)
    by (Some ds) e = absurd (none-some link (ap (λ (x : Way). x.link) (same_Some (record { link = None; drrs = ds }) w e) ∙ is))
its-bucket root (i ∷ path) (Fifo limit queue) w link e is = absurd (none-some w e)
its-bucket root (i ∷ path) (Prio priomap) w link e is = absurd (none-some w e)
its-bucket root (i ∷ path) (FqCodel s) w link e is = absurd (none-some w e)

bucket-to : (root : Node (List Note)) (class : ClassId) (w : Way) (link : Link) → way_to class root ≡ Some w → w.link ≡ Some link
    → IsItsBucket root.own.discipline link
bucket-to root class w link leads is =
    option_and_then_some (λ path. way_from path root root.own.discipline) (class_path class root) w leads
    (λ path there e. its-bucket root path root.own.discipline w link e is)

-- ---- the law

pub latest-turn-stands-as-it-fills : (settings : DeviceSettings) → IsInRange settings → LatestTurnStandsAsItFills settings
latest-turn-stands-as-it-fills settings range before p moment class turn link w at all_before comes found linked answered kept timed early =
    subst (IsToldBy by w) (sym (turn-becomes settings range before p moment (place.Class class) all_before comes kept class refl turn found))
    (with_link turn.link linked (bytes_before class p.len root) (sym (answered-in-turn class p.len settings.mtu start turn found) ∙ answered))
  where
    start : DeviceState (List Note)
    start = device_after settings before

    root : Node (List Note)
    root = (device_after settings before).tree.root

    now : ℕ
    now = max (device_after settings before).clock moment

    by : ℕ
    by = max at (at_best settings.mtu (max (device_after settings before).clock moment) link w.bytes)

    its : IsItsBucket root.own.discipline link
    its = let o = one-drr class root turn found in bucket-to root class (record { link = turn.link; drrs = o.drr ∷ [] }) link o.leads linked

    with_bytes : (o : Option ℕ)
        → option_and_then (λ n. latest_on settings.mtu start.clock n (level_of start.clock root.own.discipline) (Some link)) o ≡ Some w
        → IsToldBy by w (option_and_then (λ n. latest_on settings.mtu now n (level_of now root.own.discipline) (Some link)) o)
    with_bytes None e = absurd (none-some w e)
    with_bytes (Some n) e = stands-on settings range before moment all_before link n w at its e timed early

    with_link : (l : Option Link) → l ≡ Some link → (o : Option ℕ)
        → option_and_then (λ n. latest_on settings.mtu start.clock n (level_of start.clock root.own.discipline) l) o ≡ Some w
        → IsToldBy by w (option_and_then (λ n. latest_on settings.mtu now n (level_of now root.own.discipline) l) o)
    with_link l is o e =
        subst (λ (x : Option Link). IsToldBy by w (option_and_then (λ n. latest_on settings.mtu now n (level_of now root.own.discipline) x) o)) (sym is)
        (with_bytes o (subst (λ (x : Option Link). option_and_then (λ n. latest_on settings.mtu start.clock n (level_of start.clock root.own.discipline) x) o
        ≡ Some w) is e))
