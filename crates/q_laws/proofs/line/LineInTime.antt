-- The line below a tbf at the root over a stretch: the tbf pays for its packets in their order, and for all of them in time.
use Rattle.std.proofs.Common.{◌≡◌, ℕ, ◌+◌, ◌≤◌, ◌^◌, max, inl, inr, refl, sym, ap, subst, ◌∙◌, List, [], ◌∷◌, ◌++◌, map, length, Option, Some, None, option_map, option_to_list, arith}
use Rattle.std.specs.Prelude.{Bool, true, false, All, nat_lt, is_some, unwrap_or, slice_get, if◌then◌else◌}
use Rattle.std.specs.Option.{option_map_or}
use Rattle.std.proofs.lemmas.List.{append_assoc, append_cancel_left}
use Rattle.std.proofs.lemmas.List.Sums.{sum_by-cons, sum_by-append}
use Rattle.std.proofs.lemmas.Option.{same_Some, slice_get-map}
use Rattle.q_packet.specs.Descriptor.{Descriptor}
use Rattle.q_bucket.specs.Level.{TokenBucket}
use Rattle.q_model.specs.declared.event.Event.{Event}
use Rattle.q_model.specs.declared.event.Event.TheVariants as event
use Rattle.q_model.specs.Ask.{ask_own, ask, take_from}
use Rattle.q_model.specs.Beneath.{beneath_own}
use Rattle.q_model.specs.Events.{IsEvent}
use Rattle.q_model.specs.Lawful.{IsLawfulDiscipline}
use Rattle.q_model.specs.Node.{Discipline, Tbf, Own, none, more, Node, Shape, nodes_in, children, each, shape, from_below}
use Rattle.q_model.specs.Settings.{DeviceSettings, IsInRange}
use Rattle.q_model.specs.Step.{DeviceState, step}
use Rattle.q_model.specs.Stretches.{spent_by, bytes_spent, length_held, TbfAt, Throughout}
use Rattle.q_model.specs.Tally.{Note, history}
use Rattle.q_model.specs.Work.{Worked, booked}
use Rattle.q_model.proofs.ShrinkLemmas.{each-each_memory}
use Rattle.q_invariants.specs.Kept.{IsLawfulRoot}
use Rattle.q_invariants.proofs.Along.{counted}
use Rattle.q_invariants.proofs.ask.Answer.{IsAnswer}
use Rattle.q_invariants.proofs.ask.Asks.{before-root, ask-answers}
use Rattle.q_invariants.proofs.ask.AskStages.{IsStageOf}
use Rattle.q_invariants.proofs.bucket.BucketMoves.{tbf-node}
use Rattle.q_invariants.proofs.edit.EditLater.{root-later}
use Rattle.q_invariants.proofs.put.PutKinds.{put-stage}
use Rattle.q_invariants.proofs.Replays.{IsKept, not-before, not-after}
use Rattle.q_invariants.proofs.sums.NoteSums.{AreRisen}
use Rattle.q_invariants.proofs.sums.Risen.{all-rise}
use Rattle.q_invariants.proofs.sums.Told.{IsRootTold, noted-history, root-memory, root-booked}
use Rattle.q_invariants.proofs.tree.Forests.{each-nodes, lawful-with_memory}
use Rattle.q_invariants.proofs.tree.Related.{forget}
use Rattle.q_invariants.proofs.tree.StepNodes.{Becomes, becomes, taken-stage}
use Rattle.q_device.specs.Sharing.{device_after}
use Rattle.q_laws.specs.line.Line.{line_in, line_own, line, line_at_root, line_below_root, bytes_in, BeginsWith, KeepLine, IsLink}
use Rattle.q_laws.specs.rate.Delay.{paid_so_far}
use Rattle.q_laws.proofs.line.LineAsks.{begins-refl, IsLined, root-lined}
use Rattle.q_laws.proofs.line.LineStretches.{begins-on, put-line}
use Rattle.q_laws.proofs.rate.LinkAsks.{Leaves, TakesOf, root-takes}
use Rattle.q_laws.proofs.rate.LinkStretches.{root-at}
use Rattle.q_laws.proofs.share.PassedStretches.{IsQuiet, put-quiet, command-quiet, only-child}
use Rattle.q_laws.proofs.work.WorkTrees.{NoTbfs, no-tbfs, tbfs-memory}

-- the line of a node that is a tbf is what it holds and then the line below it
pub below-line : (n : Node (List Note)) (b : TokenBucket) (limit : ℕ) → n.own.discipline ≡ Tbf b limit → line n ≡ option_to_list n.own.held ++ unwrap_or (option_map line (slice_get (children n) 0)) []
below-line n b limit is =
    ap (λ (d : Discipline). option_to_list n.own.held ++ line_in d (each line_own n.below)) is
    ∙ ap (λ ls. option_to_list n.own.held ++ unwrap_or (slice_get ls 0) []) (each-nodes line_own n.below)
    ∙ ap (λ (o : Option (List Descriptor)). option_to_list n.own.held ++ unwrap_or o []) (slice_get-map (from_below line_own) (nodes_in n.below) 0)

cancel-begins : (held xs ys : List Descriptor) → BeginsWith (held ++ xs) (held ++ ys) → BeginsWith xs ys
cancel-begins held xs ys h = (h.0, append_cancel_left held ys (xs ++ h.0) (h.1 ∙ append_assoc held xs h.0))

module _ (link rate burst : ℕ) where
  abbrev pub Stays : DeviceState (List Note) → Type 0
  Stays d = IsLink link rate burst d

  -- what the tbf is, at the root
  pub record RootIs (d : DeviceState (List Note)) : Type 0 where
    pub bucket : TokenBucket
    pub limit : ℕ
    pub is : d.tree.root.own.discipline ≡ Tbf bucket limit
    pub paid : paid_so_far link d ≡ bytes_spent d.tree.root.memory

  pub root-is : (d : DeviceState (List Note)) → Stays d → RootIs d
  root-is d h =
      let x : TbfAt = h.tbf.tbf in
      let t = tbf-node link d x h.tbf.there in
      let here : t.node ≡ d.tree.root = same_Some t.node d.tree.root (sym t.there ∙ root-at link d h.root) in
      record {
        bucket = x.bucket;
        limit = t.limit;
        is = ap (λ (n : Node (List Note)). n.own.discipline) (sym here) ∙ t.discipline;
        paid = ap (λ (o : Option TbfAt). option_map_or (λ (z : TbfAt). bytes_spent z.noted) o 0) h.tbf.there
            ∙ ap (λ (z : TbfAt). bytes_spent z.noted) (sym t.is) ∙ ap (λ (n : Node (List Note)). bytes_spent n.memory) here;
      }

  pub root-bucket : (d : DeviceState (List Note)) (h : Stays d) → (root-is d h).bucket ≡ h.tbf.tbf.bucket
  unfolding root-is
  root-bucket d h = refl

  -- what was paid for, and what is in line after it
  pub record Passes (d end : DeviceState (List Note)) : Type 0 where
    pub taken : List Descriptor
    pub begins : BeginsWith (line_below_root d) (taken ++ line_below_root end)
    pub paid : paid_so_far link end ≡ paid_so_far link d + bytes_in taken

  -- nothing was paid for
  quiet-passes : (d next : DeviceState (List Note)) → Stays d → Stays next → IsQuiet d.tree.root next.tree.root → BeginsWith (line_below_root d) (line_below_root next) → Passes d next
  quiet-passes d next h k q begins =
      let before = root-is d h in
      let after = root-is next k in
      let sum : bytes_spent next.tree.root.memory ≡ bytes_spent d.tree.root.memory + bytes_spent q.notes = ap bytes_spent q.memory ∙ sum_by-append spent_by d.tree.root.memory q.notes in
      record { taken = []; begins = begins; paid = omega (arith, before.paid, after.paid, sum, q.spent) }

  -- where the root still holds what it held
  same-held : (d next : DeviceState (List Note)) → Stays d → Stays next → next.tree.root.own.held ≡ d.tree.root.own.held
      → BeginsWith (line_at_root d) (line_at_root next) → BeginsWith (line_below_root d) (line_below_root next)
  same-held d next h k held begins =
      let before = root-is d h in
      let after = root-is next k in
      cancel-begins (option_to_list d.tree.root.own.held) (line_below_root d) (line_below_root next)
      (subst (λ (o : Option Descriptor). BeginsWith (option_to_list d.tree.root.own.held ++ line_below_root d) (option_to_list o ++ line_below_root next)) held
      (subst (λ (xs : List Descriptor). BeginsWith xs (option_to_list next.tree.root.own.held ++ line_below_root next)) (below-line d.tree.root before.bucket before.limit before.is)
      (subst (λ (xs : List Descriptor). BeginsWith (line_at_root d) xs) (below-line next.tree.root after.bucket after.limit after.is) begins)))

  -- a poll
  module _ (d : DeviceState (List Note)) (now : ℕ) (kept : IsKept d) (later : d.clock ≤ now) (low : now ≤ 2 ^ 62) (h : Stays d) where
    abbrev root : Node (List Note)
    root = d.tree.root

    abbrev bare : Shape
    bare = shape root

    lawful : IsLawfulRoot d.tree.device.mtu now bare
    lawful = lawful-with_memory d.tree.device.mtu now (λ m. tt) root (root-later d.clock now later d.tree.device.mtu root kept.lawful)

    abbrev work : Worked
    work = (take_from now bare).node

    told : IsRootTold root work
    told = root-memory (λ m. tt) root work (root-memory (λ u. []) bare work (subst (λ (n : Worked). IsRootTold n work) (before-root now bare) (by (is_some (ask now bare).shown))))
      where
        answer : IsAnswer d.tree.device.mtu now (ask now bare)
        answer = ask-answers d.tree.device.mtu now kept.least_mtu low bare lawful

        by : (t : Bool) → IsRootTold (ask now bare).before (if t then (ask now bare).taken else (ask now bare).peeked)
        by true = answer.told_taken
        by false = answer.told_peeked

    -- with its only child
    module _ (n : Node (List Note)) (only : children root ≡ n ∷ []) where
      one : root.below ≡ more n.own n.memory n.below none
      one = only-child root n only

      takes : TakesOf (ask now (shape n)) work
      takes =
          let r = root-is d h in
          let alone : each (ask_own now) bare.below ≡ ask now (shape n) ∷ [] = ap (λ x. each (ask_own now) (forget x)) one in
          let risen : AreRisen (ask now (shape n)).rises = (all-rise now (more n.own tt (shape n).below none)).0 in
          root-takes now root.own (ask now (shape n)) risen r.bucket r.limit r.is work
          (subst (λ xs. IsStageOf (ask_own now root.own xs) work) alone (taken-stage (is_some (ask now bare).shown) (ask now bare)))

      lined : IsLined (line n) (ask now (shape n))
      lined =
          let all : NoTbfs (more n.own n.memory n.below none) = subst NoTbfs one (no-tbfs root.below h.alone) in
          subst (λ (xs : List Descriptor). IsLined xs (ask now (shape n))) (ap (line_own n.own) (each-each_memory line_own (λ m. tt) n.below))
          (root-lined now (shape n) (tbfs-memory (λ m. tt) n.below all.1))

      record Takes : Type 0 where
        taken : List Descriptor
        begins : BeginsWith (line n) (taken ++ line takes.child)
        bytes : bytes_in taken ≡ bytes_spent work.memory

      bytes-held : (o : Option Descriptor) → bytes_in (option_to_list o) ≡ length_held o
      bytes-held None = refl
      bytes-held (Some p) = omega (arith, sum_by-cons (λ (q : Descriptor). q.len) p [])

      child-takes : Takes
      child-takes = by takes.leaves
        where
          by : Leaves (ask now (shape n)) takes.child (bytes_spent work.memory) → Takes
          by (inl e) = record {
            taken = [];
            begins = subst (BeginsWith (line n)) (sym (ap line e.0 ∙ lined.before)) (begins-refl (line n));
            bytes = sym e.1;
          }
          by (inr (inl e)) = record {
            taken = [];
            begins = subst (λ (w : Worked). BeginsWith (line n) (line w)) (sym e.0) lined.peeked;
            bytes = sym e.1;
          }
          by (inr (inr e)) = record {
            taken = option_to_list (ask now (shape n)).shown;
            begins = subst (λ (w : Worked). BeginsWith (line n) (option_to_list (ask now (shape n)).shown ++ line w)) (sym e.0) lined.taken;
            bytes = bytes-held (ask now (shape n)).shown ∙ sym e.1;
          }

      poll-passes : (next : DeviceState (List Note)) → next.tree.root ≡ booked history root work → Stays next → Passes d next
      poll-passes next becomes_is k =
          let before = root-is d h in
          let after = root-is next k in
          let t = child-takes in
          let own : next.tree.root.own ≡ work.own = ap (λ (m : Node (List Note)). m.own) becomes_is in
          let memory : next.tree.root.memory ≡ root.memory ++ work.memory = ap (λ (m : Node (List Note)). m.memory) becomes_is ∙ noted-history root.memory work.memory in
          let sum : bytes_spent next.tree.root.memory ≡ bytes_spent root.memory + bytes_spent work.memory = ap bytes_spent memory ∙ sum_by-append spent_by root.memory work.memory in
          let work_is : work.own.discipline ≡ Tbf after.bucket after.limit = sym (ap (λ (o : Own). o.discipline) own) ∙ after.is in
          let whole : line next.tree.root ≡ line work = ap (λ (m : Node (List Note)). line m) becomes_is ∙ root-booked history line_own root work told in
          let here : line work ≡ option_to_list work.own.held ++ line takes.child =
          below-line work after.bucket after.limit work_is ∙ ap (λ x. option_to_list work.own.held ++ unwrap_or (option_map line (slice_get (nodes_in x) 0)) []) takes.below_is in
          let there : option_to_list work.own.held ++ line_below_root next ≡ option_to_list work.own.held ++ line takes.child =
          ap (λ (o : Own). option_to_list o.held ++ line_below_root next) (sym own) ∙ sym (below-line next.tree.root after.bucket after.limit after.is) ∙ whole ∙ here in
          let last : line_below_root next ≡ line takes.child = append_cancel_left (option_to_list work.own.held) (line_below_root next) (line takes.child) there in
          let first : line n ≡ line_below_root d = ap (λ (ns : List (Node (List Note))). unwrap_or (option_map line (slice_get ns 0)) []) (sym only) in
          record {
            taken = t.taken;
            begins =
                subst (λ (xs : List Descriptor). BeginsWith xs (t.taken ++ line_below_root next)) first
                (subst (λ (xs : List Descriptor). BeginsWith (line n) (t.taken ++ xs)) (sym last) t.begins);
            paid = omega (arith, before.paid, after.paid, sum, t.bytes);
          }

    polled-passes : (next : DeviceState (List Note)) → next.tree.root ≡ booked history root work → Stays next → Passes d next
    polled-passes next becomes_is k = by (children root) refl many
      where
        many : length (children root) ≡ 1
        many =
            let r = root-is d h in
            let one_packets : length (each beneath_own root.below) ≡ 1 = (subst (IsLawfulDiscipline d.tree.device.mtu d.clock (each beneath_own root.below)) r.is kept.lawful.0.discipline).one in
            sym (ap length (each-nodes beneath_own root.below) ∙ length-of (nodes_in root.below)) ∙ one_packets
          where
            length-of : (ns : List (Node (List Note))) → length (map (from_below beneath_own) ns) ≡ length ns
            length-of [] = refl
            length-of (m ∷ ns) = omega (arith, length-of ns)

        by : (ns : List (Node (List Note))) → children root ≡ ns → length ns ≡ 1 → Passes d next
        by [] e one = absurd (omega (arith, one))
        by (n ∷ []) e one = poll-passes n e next becomes_is k
        by (n ∷ m ∷ ns) e one = absurd (omega (arith, one))

  -- one event
  event-passes : (d : DeviceState (List Note)) (e : Event) → IsKept d → IsEvent e → Stays d → Stays (step history d e).device → KeepLine line_below_root d (e ∷ []) → Passes d (step history d e).device
  event-passes d e kept range h k keep =
      by e range k keep (becomes link d e d.tree.root (step history d e).device.tree.root kept range (root-at link d h.root) (root-at link (step history d e).device k.root))
    where
      by : (e : Event) → IsEvent e → Stays (step history d e).device → KeepLine line_below_root d (e ∷ [])
          → Becomes (step history d e).device.clock e d.tree.root (step history d e).device.tree.root → Passes d (step history d e).device
      by (event.Arrive p moment) range k keep put =
          let next : DeviceState (List Note) = (step history d (event.Arrive p moment)).device in
          let st = put-stage next.clock p put.refusal (shape d.tree.root) put.worked put.way in
          quiet-passes d next h k (put-quiet next.clock p d.tree.root next.tree.root put)
          (same-held d next h k (ap (λ (m : Node (List Note)). m.own.held) (sym put.is) ∙ st.held)
          (put-line d (max d.clock moment) kept (not-before d.clock moment) (not-after d.clock moment (2 ^ 62) kept.moment range.1) h.alone p range.0.len.0 (nat_lt d.tree.device.mtu p.len) refl))
      by (event.Poll moment) range k keep asked =
          polled-passes d (max d.clock moment) kept (not-before d.clock moment) (not-after d.clock moment (2 ^ 62) kept.moment range) h (step history d (event.Poll moment)).device refl k
      by (event.Command c moment) range k keep edit =
          let next : DeviceState (List Note) = (step history d (event.Command c moment)).device in
          quiet-passes d next h k (command-quiet next.clock d.tree.root next.tree.root edit) keep.0

  abbrev Moves : DeviceState (List Note) → List Event → DeviceState (List Note) → Type 0
  Moves d during end = KeepLine line_below_root d during → Passes d end

  still : (d : DeviceState (List Note)) → IsKept d → Stays d → Moves d [] d
  still d kept h keep = record { taken = []; begins = begins-refl (line_below_root d); paid = omega arith }

  more-passes : (d : DeviceState (List Note)) (e : Event) (during : List Event) (end : DeviceState (List Note)) → IsKept d → IsEvent e → Stays d → Stays (step history d e).device
      → Moves (step history d e).device during end → Moves d (e ∷ during) end
  more-passes d e during end kept range h k on keep =
      let next : DeviceState (List Note) = (step history d e).device in
      let here = event-passes d e kept range h k (keep.0, tt) in
      let rest = on keep.1 in
      let bytes : bytes_in (here.taken ++ rest.taken) ≡ bytes_in here.taken + bytes_in rest.taken = sum_by-append (λ (p : Descriptor). p.len) here.taken rest.taken in
      record {
        taken = here.taken ++ rest.taken;
        begins = subst (BeginsWith (line_below_root d)) (sym (append_assoc here.taken rest.taken (line_below_root end)))
            (begins-on (line_below_root d) here.taken (line_below_root next) (rest.taken ++ line_below_root end) here.begins rest.begins);
        paid = omega (arith, here.paid, rest.paid, bytes);
      }

  -- a stretch
  pub line-passes : (settings : DeviceSettings) (before during : List Event) → IsInRange settings → All IsEvent before → All IsEvent during → Throughout Stays settings before during
      → KeepLine line_below_root (device_after settings before) during → Passes (device_after settings before) (device_after settings (before ++ during))
  line-passes settings before during range all_before all_during stays keep =
      counted Stays Moves still more-passes settings before during range all_before all_during stays keep
