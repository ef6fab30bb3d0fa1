-- A tbf with another rate and burst, whose implicit leaf gets the new limit: the packets beneath it stay, and stay short enough.
use Rattle.std.proofs.Common.{◌≡◌, ℕ, ◌≤◌, min, Bool, true, false, List, [], ◌∷◌, ◌++◌, length, map, get_or, refl, sym, ap, subst, ◌∙◌, Some, arith}
use Rattle.std.specs.Prelude.{slice_get, is_some, if◌then◌else◌, ◌||◌}
use Rattle.std.specs.List.{All, list_any}
use Rattle.std.specs.Option.{option_to_list}
use Rattle.std.proofs.lemmas.Option.{slice_get-get_or}
use Rattle.std.proofs.lemmas.List.{length-map, append-nil}
use Rattle.std.proofs.lemmas.List.Elements.{All-nil, All-cons, All-head}
use Rattle.q_packet.specs.Descriptor.{Descriptor}
use Rattle.q_bucket.specs.Level.{TokenBucket, after_change}
use Rattle.q_model.specs.declared.tbf_limit.TbfLimit.{TbfLimit}
use Rattle.q_model.specs.Numbers.{IsWithin}
use Rattle.q_model.specs.Ranges.{IsTbf}
use Rattle.q_model.specs.Tally.{Note, history}
use Rattle.q_model.specs.Node.{Discipline, Fifo, Prio, Tbf, Drr, FqCodel, Own, Node, children, each, shape}
use Rattle.q_model.specs.Beneath.{packets_in, beneath_own, beneath}
use Rattle.q_model.specs.Conserved.{held_beneath}
use Rattle.q_model.specs.Find.{class_in}
use Rattle.q_model.specs.Edit.{Child, Kept, Retuned, with_own, child_of, keeps}
use Rattle.q_model.specs.QdiscCommands.{relimited, leaf_of_tbf}
use Rattle.q_model.specs.Lawful.{IsLawfulDiscipline, IsLawfulOwn, CanHold}
use Rattle.q_invariants.specs.Kept.{AreCounted, IsCountedRoot, IsLawfulRoot}
use Rattle.q_invariants.specs.Weights.{weigh}
use Rattle.q_invariants.proofs.edit.EditChildren.{kids, gone}
use Rattle.q_invariants.proofs.edit.EditRemade.{Remakes, own_changed, times_in}
use Rattle.q_invariants.proofs.edit.EditRetuned.{own_lawful, children_lawful, children_counted}
use Rattle.q_invariants.proofs.edit.EditSuits.{children-shape, gone_from}
use Rattle.q_invariants.proofs.sums.Joined.{joined, weigh-joined-set, weigh-beneath}
use Rattle.q_invariants.proofs.sums.Lengths.{lengths-among}
use Rattle.q_invariants.proofs.sums.Weights.{weigh-nil}

-- ---- the leaf

module _ (limit : ℕ) where
  relimited_packets : (d : Discipline) → packets_in (relimited limit d) ≡ packets_in d
  relimited_packets (Fifo old queue) = refl
  relimited_packets (Prio priomap) = refl
  relimited_packets (Tbf b old) = refl
  relimited_packets (Drr s) = refl
  relimited_packets (FqCodel s) = refl

  relimited_lawful : (mtu clock : ℕ) (below : List (List Descriptor)) (d : Discipline) → IsLawfulDiscipline mtu clock below d → IsLawfulDiscipline mtu clock below (relimited limit d)
  relimited_lawful mtu clock below (Fifo old queue) h = h
  relimited_lawful mtu clock below (Prio priomap) h = h
  relimited_lawful mtu clock below (Tbf b old) h = h
  relimited_lawful mtu clock below (Drr s) h = h
  relimited_lawful mtu clock below (FqCodel s) h = h

  relimited_holds : (d : Discipline) → CanHold d → CanHold (relimited limit d)
  relimited_holds (Fifo old queue) h = h
  relimited_holds (Prio priomap) h = h
  relimited_holds (Tbf b old) h = h
  relimited_holds (Drr s) h = h
  relimited_holds (FqCodel s) h = h

  relimited_class : (bands minor : ℕ) (d : Discipline) → class_in bands minor (relimited limit d) ≡ class_in bands minor d
  relimited_class bands minor (Fifo old queue) = refl
  relimited_class bands minor (Prio priomap) = refl
  relimited_class bands minor (Tbf b old) = refl
  relimited_class bands minor (Drr s) = refl
  relimited_class bands minor (FqCodel s) = refl

-- the child that stays, as it is or with the limit
record Stays (mtu now : ℕ) (c : Node (List Note)) (stays : List (Node (List Note))) : Type 0 where
  waiting : map beneath stays ≡ map beneath (c ∷ [])
  held : map held_beneath stays ≡ map held_beneath (c ∷ [])
  handles : (h : ℕ) → times_in h stays ≡ times_in h (c ∷ [])
  lawful : All (IsLawfulRoot mtu now) stays
  counted : All IsCountedRoot stays

module _ (mtu now limit : ℕ) (c : Node (List Note)) (lawful : IsLawfulRoot mtu now c) (counted : IsCountedRoot c) where
  abbrev leaf_own : Own
  leaf_own = record c.own { discipline = relimited limit c.own.discipline }

  leaf_beneath : beneath (with_own leaf_own c) ≡ beneath c
  leaf_beneath = ap (λ (packets : List Descriptor). option_to_list c.own.held ++ packets ++ joined (each beneath_own c.below)) (relimited_packets limit c.own.discipline)

  leaf_lawful : IsLawfulRoot mtu now (with_own leaf_own c)
  leaf_lawful = (
    own_changed mtu now c.own leaf_own (each beneath_own c.below) (each beneath_own c.below) lawful.0 refl (relimited_packets limit c.own.discipline) (λ w. omega arith)
        (relimited_lawful limit mtu now (each beneath_own c.below) c.own.discipline lawful.0.discipline) (relimited_holds limit c.own.discipline) lawful.0.filters lawful.0.in_order
        (λ k d lt. ap is_some (relimited_class limit (length (each beneath_own c.below)) (get_or c.own.filters k d).minor c.own.discipline) ∙ lawful.0.named k d lt),
    lawful.1,
  )

  leaf_counted : IsCountedRoot (with_own leaf_own c)
  leaf_counted = (subst (λ (waiting : List Descriptor). AreCounted c.memory waiting (held_beneath c)) (sym leaf_beneath) counted.0, counted.1)

  stays : (t : Bool) → Stays mtu now c (child_of history (c ∷ []) (if t then Kept 0 else Retuned 0 leaf_own))
  stays true = record {
    waiting = refl;
    held = refl;
    handles = λ h. refl;
    lawful = All-cons (IsLawfulRoot mtu now) c [] lawful (All-nil (IsLawfulRoot mtu now));
    counted = All-cons IsCountedRoot c [] counted (All-nil IsCountedRoot);
  }
  stays false = record {
    waiting = ap (λ (b : List Descriptor). b ∷ []) leaf_beneath;
    held = refl;
    handles = λ h. refl;
    lawful = All-cons (IsLawfulRoot mtu now) (with_own leaf_own c) [] leaf_lawful (All-nil (IsLawfulRoot mtu now));
    counted = All-cons IsCountedRoot (with_own leaf_own c) [] leaf_counted (All-nil IsCountedRoot);
  }

keeps_first : (t : Bool) (own : Own) → keeps 0 (if t then Kept 0 else Retuned 0 own) ≡ true
keeps_first true own = refl
keeps_first false own = refl

-- ---- the one child of a tbf

record StayAll (mtu now limit : ℕ) (cs : List (Node (List Note))) : Type 0 where
  waiting : map beneath (kids history cs (map (leaf_of_tbf limit) (map shape cs))) ≡ map beneath cs
  held : map held_beneath (kids history cs (map (leaf_of_tbf limit) (map shape cs))) ≡ map held_beneath cs
  handles : (h : ℕ) → times_in h (kids history cs (map (leaf_of_tbf limit) (map shape cs))) ≡ times_in h cs
  lawful : All (IsLawfulRoot mtu now) (kids history cs (map (leaf_of_tbf limit) (map shape cs)))
  counted : All IsCountedRoot (kids history cs (map (leaf_of_tbf limit) (map shape cs)))
  none : gone (λ j. list_any (keeps j) (map (leaf_of_tbf limit) (map shape cs))) 0 (map beneath cs) ≡ []

stay_all : (mtu now limit : ℕ) (cs : List (Node (List Note))) → length cs ≡ 1 → All (IsLawfulRoot mtu now) cs → All IsCountedRoot cs → StayAll mtu now limit cs
stay_all mtu now limit [] one lawful counted = absurd (omega arith)
stay_all mtu now limit (c ∷ c' ∷ cs) one lawful counted = absurd (omega arith)
stay_all mtu now limit (c ∷ []) one lawful counted =
    let t : Bool = is_some c.own.handle in
    let child : Child = if t then Kept 0 else Retuned 0 (record c.own { discipline = relimited limit c.own.discipline }) in
    let s : Stays mtu now c (child_of history (c ∷ []) child) =
    stays mtu now limit c (All-head (IsLawfulRoot mtu now) c [] lawful) (All-head IsCountedRoot c [] counted) t in
    let alone : kids history (c ∷ []) (child ∷ []) ≡ child_of history (c ∷ []) child = append-nil (child_of history (c ∷ []) child) in
    let kept : Bool = keeps 0 child in
    let first : keeps 0 child ≡ true = keeps_first t (record c.own { discipline = relimited limit c.own.discipline }) in
    record {
      waiting = ap (map beneath) alone ∙ s.waiting;
      held = ap (map held_beneath) alone ∙ s.held;
      handles = λ h. ap (times_in h) alone ∙ s.handles h;
      lawful = subst (All (IsLawfulRoot mtu now)) (sym alone) s.lawful;
      counted = subst (All IsCountedRoot) (sym alone) s.counted;
      none = ap (λ (b : Bool). (if b || false then [] else beneath c) ++ []) first;
    }

-- ---- the tbf

-- packets beneath one child are packets beneath the node
one_of : (w : Descriptor → ℕ) (below : List (List Descriptor)) (i : ℕ) (ps : List Descriptor) → slice_get below i ≡ Some ps → weigh w ps ≤ weigh w (joined below)
one_of w below i ps e = omega (arith, weigh-joined-set w below i ps [] e, weigh-nil w)

pub remakes_bucket : (mtu now : ℕ) (old : Node (List Note)) (lawful : IsLawfulRoot mtu now old) (counted : IsCountedRoot old) (b : TokenBucket) (was rate burst bytes : ℕ) (limit : TbfLimit)
    → old.own.discipline ≡ Tbf b was → IsTbf rate burst limit → min b.burst mtu ≤ burst
    → Remakes mtu now (gone_from (map (leaf_of_tbf bytes) (children (shape old))) old) old (record old.own { discipline = Tbf (after_change b rate burst now) bytes })
    (kids history (children old) (map (leaf_of_tbf bytes) (children (shape old))))
remakes_bucket mtu now old lawful counted b was rate burst bytes limit is range enough =
    let cs : List (Node (List Note)) = children old in
    let below : List (List Descriptor) = map beneath cs in
    let own : Own = record old.own { discipline = Tbf (after_change b rate burst now) bytes } in
    let had : IsLawfulOwn mtu now old.own below = own_lawful mtu now old lawful counted in
    let bucket : IsLawfulDiscipline mtu now below (Tbf b was) = subst (IsLawfulDiscipline mtu now below) is had.discipline in
    let one : length cs ≡ 1 = omega (arith, bucket.one, length-map cs beneath) in
    let all : StayAll mtu now bytes cs = stay_all mtu now bytes cs one (children_lawful mtu now old lawful counted) (children_counted mtu now old lawful counted) in
    let short : All (λ packets. All (λ (p : Descriptor). p.len ≤ burst) packets) below = λ k d lt.
    let ps : List Descriptor = get_or below k d in
    let within : All (λ (p : Descriptor). IsWithin 1 mtu p.len) ps =
    lengths-among mtu (beneath_own old.own below) ps (λ w. omega (arith, weigh-beneath w old.own below, one_of w below k ps (slice_get-get_or below k d lt))) had.lengths in
    let less : All (λ (p : Descriptor). p.len ≤ b.burst) ps = bucket.short k d lt in
    λ j e below_it. omega (arith, (within j e below_it).1, less j e below_it) in
    let done : Remakes mtu now (gone (λ j. list_any (keeps j) (map (leaf_of_tbf bytes) (map shape cs))) 0 below) old own (kids history cs (map (leaf_of_tbf bytes) (map shape cs))) = record {
      handle = refl;
      held = refl;
      packets = ap packets_in (sym is);
      lawful = subst (IsLawfulOwn mtu now own) (sym all.waiting)
          (own_changed mtu now old.own own below below had refl (ap packets_in (sym is)) (λ w. omega arith)
          (record {
            level = record { rate_from = range.bits.0; rate_to = range.bits.1; burst_from = range.bytes.0; burst_to = range.bytes.1; within_burst = omega arith };
            last = omega arith;
            one = bucket.one;
            short = short;
          })
          (λ c. tt) had.filters had.in_order
          (λ k d lt. ap (λ (x : Discipline). is_some (class_in (length below) (get_or old.own.filters k d).minor x)) (sym is) ∙ had.named k d lt));
      lawful_below = all.lawful;
      counted_below = all.counted;
      waiting = λ w. omega (arith, ap (λ x. weigh w (joined x)) all.waiting, ap (weigh w) all.none, weigh-nil w);
      held_below = λ w. omega (arith, ap (λ x. weigh w (joined x)) all.held);
      handles_below = λ h. omega (arith, all.handles h);
    } in
    subst (λ (shapes : List (Node (Unit {0}))). Remakes mtu now (gone (λ j. list_any (keeps j) (map (leaf_of_tbf bytes) shapes)) 0 below) old own (kids history cs (map (leaf_of_tbf bytes) shapes)))
    (sym (children-shape old)) done
