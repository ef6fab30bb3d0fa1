-- What is promised is delivered: the way to a class, as a device shows it, is one of the laws of service, and the numbers are theirs.
use Rattle.std.proofs.Common.{◌≡◌, ℕ, zero, suc, ◌+◌, ◌-◌, ◌*◌, ◌<◌, ◌≤◌, Bool, true, false, ◌||◌, inl, List, [], ◌∷◌, ◌++◌, map, length, refl, sym, ap, subst, ◌∙◌, Option, Some, None, option_map, option_and_then, arith}
use Rattle.std.specs.Prelude.{All, IfSome, slice_get, if◌then◌else◌}
use Rattle.std.specs.List.{list_any}
use Rattle.std.proofs.Math.Nat.{add-mul, mul_assoc}
use Rattle.std.proofs.lemmas.Bool.{leb-true, or_parts}
use Rattle.std.proofs.lemmas.List.{length-map}
use Rattle.std.proofs.lemmas.List.Elements.{All-nil, All-cons, All-append}
use Rattle.std.proofs.lemmas.Option.{none-some, same_Some}
use Rattle.q_bucket.specs.Level.{TokenBucket, units_in_byte}
use Rattle.q_model.specs.declared.class_id.ClassId.{ClassId}
use Rattle.q_model.specs.declared.event.Event.{Event}
use Rattle.q_model.specs.Beneath.{beneath_own}
use Rattle.q_model.specs.Conserved.{nodes_of}
use Rattle.q_model.specs.Find.{class_path}
use Rattle.q_model.specs.Lawful.{IsLawfulDiscipline}
use Rattle.q_model.specs.Node.{Discipline, Fifo, Prio, Tbf, Drr, FqCodel, Own, Forest, none, more, Node, children, each, from_below}
use Rattle.q_model.specs.Settings.{DeviceSettings, IsInRange}
use Rattle.q_model.specs.Step.{DeviceState}
use Rattle.q_model.specs.Stretches.{tbf_of}
use Rattle.q_model.specs.Tally.{Note}
use Rattle.q_invariants.proofs.Replays.{IsKept}
use Rattle.q_invariants.proofs.tree.Forests.{each-nodes}
use Rattle.q_invariants.proofs.tree.Within.{IsOf}
use Rattle.q_tree.specs.declared.answers.ways.Link.{Link}
use Rattle.q_tree.specs.declared.answers.ways.Share.{Share}
use Rattle.q_tree.specs.answers.Ways.{DrrClass, Way, drrs_on, has_tbf, is_tbf, share_of, way_below, way_from, way_to}
use Rattle.q_device.specs.promises.Promise.{Promise, has_room, lack_of_link, late_of, late_on, part_of, promise_on, rate_of, slack_on}
use Rattle.q_device.specs.Sharing.{device_after}
use Rattle.q_laws.specs.line.Line.{IsLink}
use Rattle.q_laws.specs.rate.Rate.{HasRoom, IsDrained}
use Rattle.q_laws.specs.share.Delivered.{IsPart, IsServed, LatenessIsTheGreatest, ServiceIsDelivered, ShareIsDelivered, SlackIsTheLaws, level_of, levels_of}
use Rattle.q_laws.specs.share.InTime.{Level, IsLinkOver, IsWay, last_level, quanta_on, sums_on, lacks_on, sent_at}
use Rattle.q_laws.specs.share.Service.{all_sent}
use Rattle.q_laws.proofs.share.LeastShare.{kept-at}
use Rattle.q_laws.proofs.share.PromiseNumbers.{enough, late-most, late-room, no-more, rounded-down, some-sums, timed-numbers, timed-part, shared-part}
use Rattle.q_laws.proofs.share.PromiseWays.{of-child, qdisc-of, queued-above, whole-way}
use Rattle.q_laws.proofs.share.WayStretches.{shares-multiply, way-shares}

-- ---- beneath a tbf at the root

abbrev tbf_here : Own → List Bool → Bool
tbf_here own below = is_tbf own.discipline || list_any (λ b. b) below

abbrev IsOther : Node (List Note) → Type 0
IsOther n = is_tbf n.own.discipline ≡ false

none-beneath : (x : Forest (List Note)) → list_any (λ b. b) (each tbf_here x) ≡ false → All IsOther (nodes_of x)
none-beneath none e = All-nil IsOther
none-beneath (more own m below others) e =
    let both = or_parts (tbf_here own (each tbf_here below)) (list_any (λ b. b) (each tbf_here others)) e in
    let here = or_parts (is_tbf own.discipline) (list_any (λ b. b) (each tbf_here below)) both.0 in
    All-cons IsOther (record { own = own; memory = m; below = below }) (nodes_of below ++ nodes_of others) here.0
    (All-append IsOther (nodes_of below) (nodes_of others) (none-beneath below here.1) (none-beneath others both.1))

pub one-child : {X : Type 0} (xs : List X) (i : ℕ) (c : X) → length xs ≡ 1 → slice_get xs i ≡ Some c → xs ≡ c ∷ []
one-child [] i c one e = absurd (none-some c e)
one-child (x ∷ y ∷ xs) i c one e = absurd (omega (arith, one))
one-child (x ∷ []) zero c one e = ap (λ k. k ∷ []) (same_Some x c e)
one-child (x ∷ []) (suc i) c one e = absurd (none-some c e)

-- a tbf at the root, and the way beneath it
pub record IsLinked (root : Node (List Note)) (link : Link) (ds : List DrrClass) : Type 0 where
  pub bucket : TokenBucket
  pub limit : ℕ
  pub discipline : root.own.discipline ≡ Tbf bucket limit
  pub handle : root.own.handle ≡ Some link.handle
  pub rate : bucket.rate ≡ link.rate
  pub burst : bucket.burst ≡ link.burst
  pub place : ℕ
  pub child : Node (List Note)
  pub there : slice_get (children root) place ≡ Some child
  pub path : List ℕ
  pub way : drrs_on path child ≡ Some ds
  pub alone : has_tbf child ≡ false

module _ (root : Node (List Note)) where
  -- a way that was found
  pub path-of-way : (class : ClassId) (w : Way) → way_to class root ≡ Some w → (path : List ℕ) × (way_from path root root.own.discipline ≡ Some w)
  path-of-way class w e = by (class_path class root) e
    where
      by : (o : Option (List ℕ)) → option_and_then (λ path. way_from path root root.own.discipline) o ≡ Some w → (path : List ℕ) × (way_from path root root.own.discipline ≡ Some w)
      by None e = absurd (none-some w e)
      by (Some path) e = (path, e)

  pub link-is : (a b : Option Link) (x y : List DrrClass) → ◌≡◌ {A = Option Way} (Some (record { link = a; drrs = x })) (Some (record { link = b; drrs = y })) → (a ≡ b) × (x ≡ y)
  link-is a b x y e =
      let same : ◌≡◌ {A = Way} (record { link = a; drrs = x }) (record { link = b; drrs = y }) = same_Some (record { link = a; drrs = x }) (record { link = b; drrs = y }) e in
      (ap (λ (w : Way). w.link) same, ap (λ (w : Way). w.drrs) same)

  pub linked : (link : Link) (ds : List DrrClass) (path : List ℕ) → way_from path root root.own.discipline ≡ Some (record { link = Some link; drrs = ds }) → IsLinked root link ds
  linked link ds path e = by path root.own.discipline refl e
    where
      w : Way
      w = record { link = Some link; drrs = ds }

      found : (b : TokenBucket) (limit h i : ℕ) (c : Node (List Note)) (path : List ℕ) (tbf_there : Bool) (o : Option (List DrrClass)) → root.own.discipline ≡ Tbf b limit → root.own.handle ≡ Some h
          → slice_get (children root) i ≡ Some c → has_tbf c ≡ tbf_there → drrs_on path c ≡ o
          → (if tbf_there then None else option_map
          (λ (xs : List DrrClass). record { link = Some (record { handle = h; rate = b.rate; burst = b.burst }); drrs = xs }) o) ≡ Some w
          → IsLinked root link ds
      found b limit h i c path true o is handle there has way e = absurd (none-some w e)
      found b limit h i c path false None is handle there has way e = absurd (none-some w e)
      found b limit h i c path false (Some xs) is handle there has way e =
          let here : Link = record { handle = h; rate = b.rate; burst = b.burst } in
          let same = link-is (Some here) (Some link) xs ds e in
          let link_same : here ≡ link = same_Some here link same.0 in
          record {
            bucket = b;
            limit = limit;
            discipline = is;
            handle = handle ∙ ap (λ (l : Link). Some l.handle) link_same;
            rate = ap (λ (l : Link). l.rate) link_same;
            burst = ap (λ (l : Link). l.burst) link_same;
            place = i;
            child = c;
            there = there;
            path = path;
            way = way ∙ ap Some same.1;
            alone = has;
          }

      below : (b : TokenBucket) (limit h i : ℕ) (c : Node (List Note)) (path : List ℕ) → root.own.discipline ≡ Tbf b limit → root.own.handle ≡ Some h → slice_get (children root) i ≡ Some c
          → way_below (record { handle = h; rate = b.rate; burst = b.burst }) path c ≡ Some w → IsLinked root link ds
      below b limit h i c [] is handle there e = absurd (none-some w e)
      below b limit h i c (j ∷ path) is handle there e = found b limit h i c (j ∷ path) (has_tbf c) (drrs_on (j ∷ path) c) is handle there refl refl e

      beneath : (b : TokenBucket) (limit h i : ℕ) (o : Option (Node (List Note))) (path : List ℕ) → root.own.discipline ≡ Tbf b limit → root.own.handle ≡ Some h → slice_get (children root) i ≡ o
          → option_and_then (way_below (record { handle = h; rate = b.rate; burst = b.burst }) path) o ≡ Some w → IsLinked root link ds
      beneath b limit h i None path is handle there e = absurd (none-some w e)
      beneath b limit h i (Some c) path is handle there e = below b limit h i c path is handle there e

      handled : (b : TokenBucket) (limit i : ℕ) (o : Option ℕ) (path : List ℕ) → root.own.discipline ≡ Tbf b limit → root.own.handle ≡ o
          → option_and_then (λ h. option_and_then (way_below (record { handle = h; rate = b.rate; burst = b.burst }) path) (slice_get (children root) i)) o ≡ Some w → IsLinked root link ds
      handled b limit i None path is handle e = absurd (none-some w e)
      handled b limit i (Some h) path is handle e = beneath b limit h i (slice_get (children root) i) path is handle refl e

      not_linked : (o : Option (List DrrClass)) → option_map (λ (xs : List DrrClass). record { link = None; drrs = xs }) o ≡ Some w → ⊥
      not_linked None e = none-some w e
      not_linked (Some xs) e = none-some link ((link-is None (Some link) xs ds e).0)

      by : (path : List ℕ) (k : Discipline) → root.own.discipline ≡ k → way_from path root k ≡ Some w → IsLinked root link ds
      by [] k is e = absurd (none-some w e)
      by (i ∷ path) (Tbf b limit) is e = handled b limit i root.own.handle path is refl e
      by (i ∷ path) (Drr s) is e = absurd (not_linked (drrs_on (i ∷ path) root) e)
      by (i ∷ path) (Fifo limit queue) is e = absurd (none-some w e)
      by (i ∷ path) (Prio priomap) is e = absurd (none-some w e)
      by (i ∷ path) (FqCodel s) is e = absurd (none-some w e)

  -- and a way from a drr at the root
  pub bare : (ds : List DrrClass) (path : List ℕ) → way_from path root root.own.discipline ≡ Some (record { link = None; drrs = ds }) → drrs_on path root ≡ Some ds
  bare ds path e = by path root.own.discipline e
    where
      w : Way
      w = record { link = None; drrs = ds }

      is_drrs : (o : Option (List DrrClass)) → option_map (λ (xs : List DrrClass). record { link = None; drrs = xs }) o ≡ Some w → o ≡ Some ds
      is_drrs None e = absurd (none-some w e)
      is_drrs (Some xs) e = ap Some (link-is None None xs ds e).1

      has_link : (link : Link) (t : Bool) (o : Option (List DrrClass)) → (if t then None else option_map (λ (xs : List DrrClass). record { link = Some link; drrs = xs }) o) ≡ Some w → ⊥
      has_link link true o e = none-some w e
      has_link link false None e = none-some w e
      has_link link false (Some xs) e = none-some link (sym (link-is (Some link) None xs ds e).0)

      below : (link : Link) (path : List ℕ) (c : Node (List Note)) → way_below link path c ≡ Some w → ⊥
      below link [] c e = none-some w e
      below link (j ∷ path) c e = has_link link (has_tbf c) (drrs_on (j ∷ path) c) e

      beneath : (link : Link) (path : List ℕ) (o : Option (Node (List Note))) → option_and_then (way_below link path) o ≡ Some w → ⊥
      beneath link path None e = none-some w e
      beneath link path (Some c) e = below link path c e

      handled : (b : TokenBucket) (i : ℕ) (path : List ℕ) (o : Option ℕ)
          → option_and_then (λ h. option_and_then (way_below (record { handle = h; rate = b.rate; burst = b.burst }) path) (slice_get (children root) i)) o ≡ Some w → ⊥
      handled b i path None e = none-some w e
      handled b i path (Some h) e = beneath (record { handle = h; rate = b.rate; burst = b.burst }) path (slice_get (children root) i) e

      by : (path : List ℕ) (k : Discipline) → way_from path root k ≡ Some w → drrs_on path root ≡ Some ds
      by [] k e = absurd (none-some w e)
      by (i ∷ path) (Tbf b limit) e = absurd (handled b i path root.own.handle e)
      by (i ∷ path) (Drr s) e = is_drrs (drrs_on (i ∷ path) root) e
      by (i ∷ path) (Fifo limit queue) e = absurd (none-some w e)
      by (i ∷ path) (Prio priomap) e = absurd (none-some w e)
      by (i ∷ path) (FqCodel s) e = absurd (none-some w e)

-- ---- in a device that is kept

-- the tbf that was found at the root, and its one child
pub link-of : (dev : DeviceState (List Note)) → IsKept dev → (link : Link) (ds : List DrrClass) (l : IsLinked dev.tree.root link ds)
    → IsLink link.handle link.rate link.burst dev × (children dev.tree.root ≡ l.child ∷ [])
link-of dev kept link ds l =
    let root : Node (List Note) = dev.tree.root in
    let law = subst (IsLawfulDiscipline dev.tree.device.mtu dev.clock (each beneath_own root.below)) l.discipline kept.lawful.0.discipline in
    let size : length (children root) ≡ 1 = sym (length-map (children root) (from_below beneath_own)) ∙ ap length (sym (each-nodes beneath_own root.below)) ∙ law.one in
    let child : children root ≡ l.child ∷ [] = one-child (children root) l.place l.child size l.there in
    let others : list_any (λ b. b) (each tbf_here root.below) ≡ false =
    ap (list_any (λ b. b)) (each-nodes tbf_here root.below) ∙ ap
    (λ (ns : List (Node (List Note))). list_any (λ b. b) (map (λ (n : Node (List Note)). has_tbf n) ns)) child ∙ ap (λ b. b || false) l.alone in (
      record {
        tbf = record {
          tbf = record { bucket = l.bucket; held = root.own.held; noted = root.memory };
          there = ap (option_and_then (λ (n : Node (List Note)). tbf_of n n.own.discipline)) (qdisc-of link.handle dev root kept l.handle (inl refl)) ∙ ap (tbf_of root) l.discipline;
          same_rate = l.rate;
          same_burst = l.burst;
        };
        root = l.handle;
        alone = none-beneath root.below others;
      },
      child,
    )

module _ (dev : DeviceState (List Note)) (kept : IsKept dev) (d : DrrClass) (ds : List DrrClass) where
  root-is : IsOf dev.tree.root dev.tree.root
  root-is = inl refl

  record Linked (link : Link) : Type 0 where
    over : IsLinkOver link.handle link.rate link.burst d.major dev
    way : IsWay (level_of d) (levels_of ds) dev
    parts : All IsPart (map share_of (d ∷ ds))

  linked-way : (link : Link) → IsServed d ds (Some link) dev → Linked link
  linked-way link served =
      let root : Node (List Note) = dev.tree.root in
      let last : Level = last_level (level_of d) (levels_of ds) in
      let at = path-of-way root (record { major = last.major; minor = last.minor }) (record { link = Some link; drrs = d ∷ ds }) served.0 in
      let l = linked root link (d ∷ ds) at.0 at.1 in
      let whole = whole-way dev kept l.path l.child d ds l.way (of-child l.child root root l.place l.there root-is) served.1 in
      let k = link-of dev kept link (d ∷ ds) l in
      record {
        over = record {
          rated = record { tbf = k.0.tbf; root = k.0.root; alone = k.0.alone; queued = queued-above root l.child l.place l.there whole.queued };
          drr = l.child;
          there = whole.is;
          child = k.1;
        };
        way = whole.way;
        parts = whole.parts;
      }

  record Bare : Type 0 where
    way : IsWay (level_of d) (levels_of ds) dev
    parts : All IsPart (map share_of (d ∷ ds))

  bare-way : IsServed d ds None dev → Bare
  bare-way served =
      let root : Node (List Note) = dev.tree.root in
      let last : Level = last_level (level_of d) (levels_of ds) in
      let at = path-of-way root (record { major = last.major; minor = last.minor }) (record { link = None; drrs = d ∷ ds }) served.0 in
      let whole = whole-way dev kept at.0 root d ds (bare root (d ∷ ds) at.0 at.1) root-is served.1 in
      record { way = whole.way; parts = whole.parts }

-- ---- the promise

record IsPromise (mtu : ℕ) (link : Option Link) (on : List Share) (p : Promise) : Type 0 where
  room : has_room mtu link ≡ true
  shares : p.shares ≡ on
  slack : p.slack ≡ slack_on mtu (lack_of_link mtu link) on
  late : p.late ≡ late_of mtu link

promise-is : (mtu : ℕ) (link : Option Link) (on : List Share) (p : Promise) → promise_on mtu link on ≡ Some p → IsPromise mtu link on p
promise-is mtu link on p e = by (has_room mtu link) refl e
  where
    made : Promise
    made = record { link = rate_of link; shares = on; slack = slack_on mtu (lack_of_link mtu link) on; late = late_of mtu link }

    by : (b : Bool) → has_room mtu link ≡ b → (if b then Some made else None) ≡ Some p → IsPromise mtu link on p
    by true is e =
        let same : made ≡ p = same_Some made p e in
        record { room = is; shares = ap (λ (q : Promise). q.shares) (sym same); slack = ap (λ (q : Promise). q.slack) (sym same); late = ap (λ (q : Promise). q.late) (sym same) }
    by false is e = absurd (none-some p e)

pub service-is-delivered : (settings : DeviceSettings) → IsInRange settings → ServiceIsDelivered settings
service-is-delivered settings range before during link d ds p all_before all_during promised served drained polled_before polled_after =
    let l : Level = level_of d in
    let levels : List Level = levels_of ds in
    let is = promise-is settings.mtu (Some link) (map share_of (d ∷ ds)) p promised in
    let least : settings.mtu * units_in_byte + link.rate ≤ link.burst * units_in_byte = leb-true (settings.mtu * units_in_byte + link.rate) (link.burst * units_in_byte) is.room in
    let late : ℕ = late_on settings.mtu link in
    let room : HasRoom settings.mtu late link.rate link.burst = late-room settings.mtu late link least refl in
    let in_time : IsDrained late (device_after settings before) during = subst (λ (o : Option ℕ). IfSome o (λ n. IsDrained n (device_after settings before) during)) is.late drained in
    let here = λ (seen later : List Event) (e : seen ++ later ≡ during).
    linked-way (device_after settings (before ++ seen)) (kept-at settings range before during all_before all_during seen later e) d ds link (served seen later e) in
    let parts : All IsPart (map share_of (d ∷ ds)) = (here [] during refl).parts in
    let law =
    shares-multiply settings range before during link.handle link.rate link.burst late l levels all_before all_during room
    (λ seen later e. (here seen later e).over) (λ seen later e. (here seen later e).way)
    in_time polled_before polled_after in
    let time : ℕ = (device_after settings (before ++ during)).clock - (device_after settings before).clock in
    let sent : ℕ = sent_at (last_level l levels) (device_after settings before) during in
    let P : ℕ = quanta_on l levels in
    let R : ℕ = sums_on l levels in
    let fits : 2 * (settings.mtu * P) + lacks_on settings.mtu l levels ≤ p.slack * R =
    omega (arith, enough settings.mtu (2 * settings.mtu) d ds parts, mul_assoc 2 settings.mtu P, ap (λ k. k * R) is.slack) in
    let exact : link.rate * time * P < (sent + p.slack) * R * units_in_byte =
    timed-numbers link.rate time P R sent (2 * (settings.mtu * P) + lacks_on settings.mtu l levels) p.slack units_in_byte law fits in
    record {
      exact = exact;
      rounded = timed-part (part_of p.shares link.rate) link.rate time P R (sent + p.slack) units_in_byte
          (subst (λ ss. part_of ss link.rate * R ≤ link.rate * P) (sym is.shares) (rounded-down link.rate d ds)) exact;
    }

pub share-is-delivered : (settings : DeviceSettings) → IsInRange settings → ShareIsDelivered settings
share-is-delivered settings range before during d ds p all_before all_during promised served =
    let l : Level = level_of d in
    let levels : List Level = levels_of ds in
    let is = promise-is settings.mtu None (map share_of (d ∷ ds)) p promised in
    let here = λ (seen later : List Event) (e : seen ++ later ≡ during).
    bare-way (device_after settings (before ++ seen)) (kept-at settings range before during all_before all_during seen later e) d ds (served seen later e) in
    let parts : All IsPart (map share_of (d ∷ ds)) = (here [] during refl).parts in
    let law = way-shares settings range before during all_before all_during l levels (λ seen later e. (here seen later e).way) in
    let all : ℕ = all_sent d.major d.classes (device_after settings before) during in
    let sent : ℕ = sent_at (last_level l levels) (device_after settings before) during in
    let P : ℕ = quanta_on l levels in
    let R : ℕ = sums_on l levels in
    let fits : lacks_on settings.mtu l levels ≤ p.slack * R = omega (arith, enough settings.mtu 0 d ds parts, ap (λ k. k * R) is.slack) in
    let exact : all * P ≤ (sent + p.slack) * R = omega (arith, law, fits, add-mul sent p.slack R) in
    record {
      exact = exact;
      rounded = shared-part (part_of p.shares all) all P R (sent + p.slack) (some-sums d ds parts)
          (subst (λ ss. part_of ss all * R ≤ all * P) (sym is.shares) (rounded-down all d ds)) exact;
    }

pub slack-is-the-laws : (settings : DeviceSettings) → SlackIsTheLaws settings
slack-is-the-laws settings link d ds p parts promised =
    let is = promise-is settings.mtu link (map share_of (d ∷ ds)) p promised in
    let l : Level = level_of d in
    let levels : List Level = levels_of ds in
    let x : ℕ = lack_of_link settings.mtu link in
    record {
      enough = subst (λ s. x * quanta_on l levels + lacks_on settings.mtu l levels ≤ s * sums_on l levels) (sym is.slack) (enough settings.mtu x d ds parts);
      no_more = subst (λ s. s * sums_on l levels < x * quanta_on l levels + lacks_on settings.mtu l levels + (length levels + 1) * sums_on l levels) (sym is.slack) (no-more settings.mtu x d ds parts);
    }

pub lateness-is-the-greatest : (settings : DeviceSettings) → LatenessIsTheGreatest settings
lateness-is-the-greatest settings link shares p one promised =
    let is = promise-is settings.mtu (Some link) shares p promised in
    let least : settings.mtu * units_in_byte + link.rate ≤ link.burst * units_in_byte = leb-true (settings.mtu * units_in_byte + link.rate) (link.burst * units_in_byte) is.room in
    record {
      late = late_on settings.mtu link;
      promised = is.late;
      enough = late-room settings.mtu (late_on settings.mtu link) link least refl;
      no_more = late-most settings.mtu (late_on settings.mtu link) link one least refl;
    }
