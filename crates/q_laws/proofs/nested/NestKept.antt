-- A way that leads through drrs, at the root or below a tbf there: what polls give until a packet in a class of the last one has left.
use Rattle.std.proofs.Common.{◌≡◌, ℕ, ◌+◌, ◌≤◌, inl, List, [], ◌∷◌, ◌++◌, length, map, refl, sym, ap, subst, ◌∙◌, Option, Some, None, arith}
use Rattle.std.specs.Prelude.{All}
use Rattle.std.specs.List.{filter_map}
use Rattle.std.proofs.lemmas.List.{append-nil}
use Rattle.std.proofs.lemmas.List.Elements.{All-append, All-cons, All-nil}
use Rattle.std.proofs.lemmas.Option.{same_Some}
use Rattle.q_model.specs.declared.class_id.ClassId.{ClassId}
use Rattle.q_model.specs.declared.event.Event.{Event}
use Rattle.q_model.specs.Events.{IsEvent}
use Rattle.q_model.specs.Node.{Node}
use Rattle.q_model.specs.Settings.{DeviceSettings, IsInRange}
use Rattle.q_model.specs.Step.{DeviceState}
use Rattle.q_model.specs.Stretches.{length_held, qdisc, Throughout}
use Rattle.q_model.specs.Tally.{Note}
use Rattle.q_invariants.proofs.Replays.{IsKept, replay-kept}
use Rattle.q_invariants.proofs.tree.Members.{All-front}
use Rattle.q_invariants.proofs.tree.Within.{IsOf}
use Rattle.q_tree.specs.declared.answers.ways.Link.{Link}
use Rattle.q_tree.specs.declared.answers.ways.Share.{Share}
use Rattle.q_tree.specs.answers.Ways.{DrrClass, drrs_on, share_of}
use Rattle.q_device.specs.Laws.{given_in}
use Rattle.q_device.specs.promises.Worst.{most_held}
use Rattle.q_device.specs.Sharing.{device_after}
use Rattle.q_device.proofs.ClassStretches.{at-start}
use Rattle.q_laws.specs.line.Line.{bytes_in}
use Rattle.q_laws.specs.nested.NestedTurn.{IsNestedTurn, IsPath, NestedTurnIsEnough, most_of_turns, share_at}
use Rattle.q_laws.specs.order.Order.{answers}
use Rattle.q_laws.specs.share.Delivered.{level_of, levels_of}
use Rattle.q_laws.specs.share.InTime.{last_level}
use Rattle.q_laws.specs.turn.FifoTurn.{IsFifoClass}
use Rattle.q_laws.proofs.nested.NestTurns.{reached-at}
use Rattle.q_laws.proofs.nested.PathTurns.{path-has, paths-are-bounded}
use Rattle.q_laws.proofs.rate.GivenPaid.{given-paid}
use Rattle.q_laws.proofs.rate.HoldsNone.{holds-none}
use Rattle.q_laws.proofs.rate.LinkStretches.{root-at}
use Rattle.q_laws.proofs.share.LeastShare.{drr-node}
use Rattle.q_laws.proofs.share.PromiseKept.{bare, link-of, linked, path-of-way}
use Rattle.q_laws.proofs.share.PromiseWays.{of-child, on-way, step-of}
use Rattle.q_laws.proofs.share.ShareInTime.{held-in}
use Rattle.q_laws.proofs.turn.TurnPaid.{pays, sends}
use Rattle.q_laws.proofs.turn.TurnPolls.{IsOver}

-- the shares of drrs are those of their levels
pub same-shares : (ds : List DrrClass) → map share_at (levels_of ds) ≡ map share_of ds
same-shares [] = refl
same-shares (d ∷ ds) = ap (λ (xs : List Share). share_of d ∷ xs) (same-shares ds)

-- ---- what stands in a device

module _ (dev : DeviceState (List Note)) (kept : IsKept dev) where
  -- the class of a fifo at the end of these drrs
  abbrev EndsInFifo : DrrClass → List DrrClass → Type 0
  EndsInFifo a ds =
      IsFifoClass (last_level (level_of a) (levels_of ds)).major (last_level (level_of a) (levels_of ds)).minor (last_level (level_of a) (levels_of ds)).quantum dev

  record PathAt (n : Node (List Note)) (a : DrrClass) (ds : List DrrClass) : Type 0 where
    is : qdisc a.major dev ≡ Some n
    handle : n.own.handle ≡ Some a.major
    path : IsPath (level_of a) (levels_of ds) dev

  none-there : (ds : List DrrClass) (d : DrrClass) → Some [] ≡ Some (d ∷ ds) → ⊥
  none-there ds d e = let z = ap (λ (xs : List DrrClass). length xs) (same_Some [] (d ∷ ds) e) in omega (arith, z)

  path-on : (path : List ℕ) (n : Node (List Note)) (a : DrrClass) (ds : List DrrClass) → drrs_on path n ≡ Some (a ∷ ds) → IsOf n dev.tree.root → EndsInFifo a ds
      → PathAt n a ds
  path-on [] n a ds e within fifo = absurd (none-there ds a e)
  path-on (i ∷ path) n a [] e within fifo =
      let s = step-of i path n a [] e in
      let o = on-way dev kept i path n a [] s within in
      record { is = o.is; handle = s.at.handle; path = (o.has, fifo) }
  path-on (i ∷ path) n a (b ∷ ds) e within fifo =
      let s = step-of i path n a (b ∷ ds) e in
      let o = on-way dev kept i path n a (b ∷ ds) s within in
      let rest = path-on path s.child b ds s.rest (of-child s.child n dev.tree.root i s.there within) fifo in
      record {
        is = o.is;
        handle = s.at.handle;
        path = (
          o.has,
          record { class = o.class; there = o.there; same_quantum = o.quantum },
          record { class = o.class; there = o.there; child = rest.is ∙ ap Some (sym o.child_is) },
          rest.path,
        );
      }

  pub record StandsOn (link : Option Link) (a : DrrClass) (ds : List DrrClass) : Type 0 where
    pub over : IsOver link a.major dev
    pub path : IsPath (level_of a) (levels_of ds) dev

  pub stands-on : (link : Option Link) (class : ClassId) (a : DrrClass) (ds : List DrrClass) → IsNestedTurn link class a ds dev → StandsOn link a ds
  stands-on None class a ds e =
      let at = path-of-way dev.tree.root class (record { link = None; drrs = a ∷ ds }) e.0 in
      let t = path-on at.0 dev.tree.root a ds (bare dev.tree.root (a ∷ ds) at.0 at.1) (inl refl) e.1 in
      record { over = t.handle; path = t.path }
  stands-on (Some link) class a ds e =
      let root : Node (List Note) = dev.tree.root in
      let at = path-of-way root class (record { link = Some link; drrs = a ∷ ds }) e.0 in
      let l = linked root link (a ∷ ds) at.0 at.1 in
      let t = path-on l.path l.child a ds l.way (of-child l.child root root l.place l.there (inl refl)) e.1 in
      let k = link-of dev kept link (a ∷ ds) l in
      record { over = (k.0, l.child, t.is, k.1); path = t.path }

-- ---- over a stretch

module _ (settings : DeviceSettings) (range : IsInRange settings) (before events : List Event) (link : Option Link) (class : ClassId) (a : DrrClass) (ds : List DrrClass)
    (earlier : All IsEvent before) (happen : All IsEvent events) (stays : Throughout (IsNestedTurn link class a ds) settings before events) where
  pub kept-so : (seen rest : List Event) → seen ++ rest ≡ events → IsKept (device_after settings (before ++ seen))
  kept-so seen rest s =
      replay-kept settings (before ++ seen) range (All-append IsEvent before seen earlier (All-front IsEvent seen rest (subst (All IsEvent) (sym s) happen)))

  pub paths : Throughout (IsPath (level_of a) (levels_of ds)) settings before events
  paths seen rest s = (stands-on (device_after settings (before ++ seen)) (kept-so seen rest s) link class a ds (stays seen rest s)).path

  pub overs : Throughout (IsOver link a.major) settings before events
  overs seen rest s = (stands-on (device_after settings (before ++ seen)) (kept-so seen rest s) link class a ds (stays seen rest s)).over

  pub frees : (seen rest : List Event) → seen ++ rest ≡ events → (device_after settings (before ++ seen)).tree.root.own.held ≡ None
  frees seen rest s = holds-none settings (before ++ seen) range (All-append IsEvent before seen earlier (All-front IsEvent seen rest (subst (All IsEvent) (sym s) happen)))

-- ---- the law

pub nested-turn-is-enough : (settings : DeviceSettings) → IsInRange settings → NestedTurnIsEnough settings
nested-turn-is-enough settings range before during e link class a ds bytes earlier happen happens stays keep few yet = by link stays
  where
    happen_all : All IsEvent (during ++ e ∷ [])
    happen_all = All-append IsEvent during (e ∷ []) happen (All-cons IsEvent e [] happens (All-nil IsEvent))

    by : (o : Option Link) → Throughout (IsNestedTurn o class a ds) settings before (during ++ e ∷ [])
        → bytes_in (filter_map given_in (answers (device_after settings before) (during ++ e ∷ [])))
        ≤ most_held settings.mtu o + most_of_turns settings.mtu bytes (share_of a) (map share_of ds)
    by None stays =
        let whole : List Event = during ++ e ∷ [] in
        let start : DeviceState (List Note) = device_after settings before in
        let end : DeviceState (List Note) = device_after settings (before ++ whole) in
        let path = paths settings range before whole None class a ds earlier happen_all stays in
        let over = overs settings range before whole None class a ds earlier happen_all stays in
        let over_first = at-start (IsOver None a.major) settings before whole over in
        let over_last = over whole [] (append-nil whole) in
        let most = paths-are-bounded settings range before during e (level_of a) (levels_of ds) bytes earlier happen happens path keep few yet in
        let sent = sends a.major settings before whole range earlier happen_all over in
        let held = ap length_held (holds-none settings before range earlier) in
        omega (
          arith,
          most,
          sent,
          held,
          reached-at a.major start start.tree.root (root-at a.major start over_first),
          reached-at a.major end end.tree.root (root-at a.major end over_last),
          ap (λ xs. most_of_turns settings.mtu bytes (share_of a) xs) (same-shares ds),
        )
    by (Some l) stays =
        let whole : List Event = during ++ e ∷ [] in
        let start : DeviceState (List Note) = device_after settings before in
        let end : DeviceState (List Note) = device_after settings (before ++ whole) in
        let path = paths settings range before whole (Some l) class a ds earlier happen_all stays in
        let over = overs settings range before whole (Some l) class a ds earlier happen_all stays in
        let first = at-start (IsPath (level_of a) (levels_of ds)) settings before whole path in
        let n = drr-node a.major a.classes start (path-has (level_of a) (levels_of ds) start first) in
        let m = drr-node a.major a.classes end (path-has (level_of a) (levels_of ds) end (path whole [] (append-nil whole))) in
        let most = paths-are-bounded settings range before during e (level_of a) (levels_of ds) bytes earlier happen happens path keep few yet in
        let paid = pays l a.major settings before whole range earlier happen_all over n.node m.node n.there m.there in
        let gave = given-paid l.handle l.rate l.burst settings before whole range earlier happen_all
        (λ seen rest s. ((over seen rest s).0, frees settings range before whole (Some l) class a ds earlier happen_all stays seen rest s)) in
        let held = held-in settings range before earlier a.major n.node n.there in
        omega (
          arith,
          most,
          paid,
          gave,
          held,
          reached-at a.major start n.node n.there,
          reached-at a.major end m.node m.there,
          ap (λ xs. most_of_turns settings.mtu bytes (share_of a) xs) (same-shares ds),
        )
