-- What a device answers of the worst delay of a class of a drr is that of the turn: such a class is never in line.
use Rattle.std.proofs.Common.{◌≡◌, ℕ, refl, ap, ◌∙◌, List, [], ◌∷◌, Option, Some, None, option_map, option_and_then}
use Rattle.std.specs.Prelude.{Bool, true, false, ◌&&◌, ◌==◌, slice_get, if◌then◌else◌}
use Rattle.std.specs.Option.{option_map_or}
use Rattle.std.proofs.lemmas.Option.{none-some, option_and_then_some}
use Rattle.q_codel.specs.declared.limit.Limit.{Limit}
use Rattle.q_bucket.specs.Level.{TokenBucket}
use Rattle.q_model.specs.declared.class_id.ClassId.{ClassId}
use Rattle.q_model.specs.declared.place.Place.TheVariants as place
use Rattle.q_model.specs.Find.{class_path}
use Rattle.q_model.specs.Node.{Discipline, Fifo, Prio, Tbf, Drr, FqCodel, Node, children}
use Rattle.q_model.specs.Settings.{DeviceSettings}
use Rattle.q_model.specs.Tally.{Note}
use Rattle.q_tree.specs.declared.answers.lanes.Lane.{Lane}
use Rattle.q_tree.specs.declared.answers.turns.Turn.{Turn}
use Rattle.q_tree.specs.declared.answers.ways.Link.{Link}
use Rattle.q_tree.specs.answers.Lanes.{is_prio, lane_below, lane_from, lane_to, limit_along}
use Rattle.q_tree.specs.answers.Turns.{limit_in, turn_on, turn_to}
use Rattle.q_tree.specs.answers.Ways.{DrrClass, Way, class_of_drr, drr_class, drrs_on, has_tbf, shares_of, way_below, way_from, way_to}
use Rattle.q_device.specs.promises.Worst.{worst_in_turn, worst_on}
use Rattle.q_device.specs.Sharing.{device_after}
use Rattle.q_laws.specs.turn.TurnWorst.{TurnIsAnswered}

-- no line goes on below what is no prio
no-band : (i : ℕ) (path : List ℕ) (n : Node (List Note)) → is_prio n.own.discipline ≡ false → limit_along (i ∷ path) n ≡ None
no-band i path n e =
    ap (λ (t : Bool). if i == 0 && t then option_and_then (limit_along path) (slice_get (children n) i) else None) e ∙ by (i == 0)
  where
    by : (t : Bool) → (if t && false then option_and_then (limit_along path) (slice_get (children n) i) else None) ≡ None
    by true = refl
    by false = refl

no-lane : (link : Option Link) (i : ℕ) (path : List ℕ) (n : Node (List Note)) → is_prio n.own.discipline ≡ false → lane_below link (i ∷ path) n ≡ None
no-lane link i path n e =
    ap (λ (o : Option Limit). if has_tbf n then None else option_map (λ (limit : Limit). record { link = link; limit = limit }) o) (no-band i path n e)
    ∙ by (has_tbf n)
  where
    by : (t : Bool) → ◌≡◌ {A = Option Lane} (if t then None else option_map (λ (limit : Limit). record { link = link; limit = limit }) None) None
    by true = refl
    by false = refl

-- what has a class of a drr is no prio
no-prio : (i major : ℕ) (k : DrrClass) (d : Discipline) → class_of_drr i major d ≡ Some k → is_prio d ≡ false
no-prio i major k (Drr s) e = refl
no-prio i major k (Fifo limit queue) e = refl
no-prio i major k (Tbf b limit) e = refl
no-prio i major k (FqCodel s) e = refl
no-prio i major k (Prio priomap) e = absurd (none-some k e)

drr-there : (i : ℕ) (path : List ℕ) (n : Node (List Note)) (ds : List DrrClass) → drrs_on (i ∷ path) n ≡ Some ds → is_prio n.own.discipline ≡ false
drr-there i path n ds e =
    option_and_then_some (λ (d : DrrClass). option_map (λ (rest : List DrrClass). d ∷ rest) (option_and_then (drrs_on path) (slice_get (children n) i)))
    (drr_class i n.own) ds e
    (λ k class rest. option_and_then_some (λ major. class_of_drr i major n.own.discipline) n.own.handle k class
    (λ major handle is. no-prio i major k n.own.discipline is))

module _ (root : Node (List Note)) (w : Way) where
  below-none : (link : Link) (path : List ℕ) (c : Node (List Note)) → way_below link path c ≡ Some w → lane_below (Some link) path c ≡ None
  below-none link [] c e = absurd (none-some w e)
  below-none link (i ∷ path) c e = by (has_tbf c) (drrs_on (i ∷ path) c) refl e
    where
      by : (t : Bool) (o : Option (List DrrClass)) → drrs_on (i ∷ path) c ≡ o
          → (if t then None else option_map (λ (ds : List DrrClass). record { link = Some link; drrs = ds }) o) ≡ Some w → lane_below (Some link) (i ∷ path) c ≡ None
      by true o is at = absurd (none-some w at)
      by false None is at = absurd (none-some w at)
      by false (Some ds) is at = no-lane (Some link) i path c (drr-there i path c ds is)

  beneath-none : (link : Link) (path : List ℕ) (o : Option (Node (List Note))) → option_and_then (way_below link path) o ≡ Some w
      → option_and_then (lane_below (Some link) path) o ≡ None
  beneath-none link path None e = refl
  beneath-none link path (Some c) e = below-none link path c e

  handled-none : (b : TokenBucket) (i : ℕ) (path : List ℕ) (o : Option ℕ)
      → option_and_then (λ h. option_and_then (way_below (record { handle = h; rate = b.rate; burst = b.burst }) path) (slice_get (children root) i)) o ≡ Some w
      → option_and_then (λ h. option_and_then (lane_below (Some (record { handle = h; rate = b.rate; burst = b.burst })) path) (slice_get (children root) i)) o ≡ None
  handled-none b i path None e = refl
  handled-none b i path (Some h) e = beneath-none (record { handle = h; rate = b.rate; burst = b.burst }) path (slice_get (children root) i) e

  way-no-lane : (path : List ℕ) (d : Discipline) → root.own.discipline ≡ d → way_from path root d ≡ Some w → lane_from path root d ≡ None
  way-no-lane [] d is e = absurd (none-some w e)
  way-no-lane (i ∷ path) (Tbf b limit) is e = handled-none b i path root.own.handle e
  way-no-lane (i ∷ path) (Drr s) is e = no-lane None i path root (ap is_prio is)
  way-no-lane (i ∷ path) (Fifo limit queue) is e = absurd (none-some w e)
  way-no-lane (i ∷ path) (Prio priomap) is e = absurd (none-some w e)
  way-no-lane (i ∷ path) (FqCodel s) is e = absurd (none-some w e)

pub turn-no-lane : (class : ClassId) (root : Node (List Note)) (turn : Turn) → turn_to (place.Class class) root ≡ Some turn
    → lane_to (place.Class class) root ≡ None
turn-no-lane class root turn found =
    option_and_then_some (λ (w : Way). option_and_then (turn_on w.link (shares_of w)) (limit_in class root)) (way_to class root) turn found
    (λ w leads rest. option_and_then_some (λ path. way_from path root root.own.discipline) (class_path class root) w leads
    (λ path is way. ap (option_and_then (λ xs. lane_from xs root root.own.discipline)) is ∙ way-no-lane root w path root.own.discipline refl way))

pub turn-is-answered : (settings : DeviceSettings) → TurnIsAnswered settings
turn-is-answered settings events class turn found =
    let root : Node (List Note) = (device_after settings events).tree.root in
    ap (λ (o : Option Lane). option_map_or (worst_on settings.mtu) o (option_and_then (worst_in_turn settings.mtu) (turn_to (place.Class class) root)))
    (turn-no-lane class root turn found)
    ∙ ap (option_and_then (worst_in_turn settings.mtu)) found
