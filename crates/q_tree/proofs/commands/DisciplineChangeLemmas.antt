-- What waits beneath a discipline once it is changed: what waited there, without what is lost.
use Rattle.std.proofs.Common.{◌≡◌, ℕ, zero, suc, ◌+◌, ◌≤◌, ◌∙◌, Bool, true, false, List, [], ◌∷◌, ◌++◌, map, take, drop, length, refl, sym, ap, subst, Option, Some, None, option_and_then, option_map, arith}
use Rattle.std.specs.Prelude.{All, is_some, slice_get, if◌then◌else◌}
use Rattle.std.specs.List.{remove}
use Rattle.std.specs.Option.{option_map_or, option_to_list}
use Rattle.std.proofs.lemmas.List.{map-append, take-append-drop}
use Rattle.std.proofs.lemmas.List.Elements.{All-append, All-cons, All-drop, All-head, All-nil, All-tail, All-take}
use Rattle.std.proofs.lemmas.Option.{none-some, same_Some}
use Rattle.q_codel.specs.declared.limit.Limit.{Limit}
use Rattle.q_drr.specs.Schedule.{Schedule, added, removed}
use Rattle.q_bucket.specs.Level.{TokenBucket}
use Rattle.q_fqcodel.specs.FqState as flows
use Rattle.q_packet.specs.Descriptor.{Descriptor}
use Rattle.q_model.specs.declared.totals.Totals.{Totals}
use Rattle.q_model.specs.Beneath.{beneath, beneath_own, packets_in, packets_of}
use Rattle.q_model.specs.Conserved.{held_beneath}
use Rattle.q_model.specs.Node as spec
use Rattle.q_model.specs.Node.{Node}
use Rattle.q_model.specs.Options.{FqOptions}
use Rattle.q_model.specs.QdiscCommands.{relimited}
use Rattle.q_model.specs.Tally.{Counts}
use Rattle.q_invariants.specs.Weights.{weigh}
use Rattle.q_invariants.proofs.edit.EditNew.{held-le-beneath}
use Rattle.q_invariants.proofs.sums.Joined.{joined, weigh-joined-append, weigh-joined-cons}
use Rattle.q_invariants.proofs.sums.Weights.{weigh-nil}
use Rattle.q_tree.specs.arrival.PutSteps.{packets_beneath}
use Rattle.q_tree.specs.commands.DisciplineChanges.{AreReady, IsFresh, bands_going, bands_staying, can_join, children_after, class_child, discipline_after, leaf_limited, leaves_limited, limited, lost_with, place_in, rebucketed, remapped, reoptioned, requantum, rescheduled, resettled}
use Rattle.q_tree.specs.Kept.{Kept}
use Rattle.q_tree.specs.Seen.{IsCountedWithin}
use Rattle.q_tree.specs.declared.commands.discipline_change.DisciplineChange.{DisciplineChange}
use Rattle.q_tree.specs.declared.commands.discipline_change.DisciplineChange.TheVariants.{Nothing, SetLimit, SetBands, SetBucket, SetOptions, AddClass, SetQuantum, RemoveClass}

-- what is beneath nodes side by side, and what is held there
abbrev waits : (Descriptor → ℕ) → List (Node Kept) → ℕ
waits w ns = weigh w (joined (map beneath ns))

abbrev holds : (Descriptor → ℕ) → List (Node Kept) → ℕ
holds w ns = weigh w (joined (map held_beneath ns))

abbrev pub Within : Totals → Node Kept → Type 0
Within t n = IsCountedWithin n.memory.counts.arrived t

waits-append : (w : Descriptor → ℕ) (xs ys : List (Node Kept)) → waits w (xs ++ ys) ≡ waits w xs + waits w ys
waits-append w xs ys = ap (λ b. weigh w (joined b)) (map-append beneath xs ys) ∙ weigh-joined-append w (map beneath xs) (map beneath ys)

holds-append : (w : Descriptor → ℕ) (xs ys : List (Node Kept)) → holds w (xs ++ ys) ≡ holds w xs + holds w ys
holds-append w xs ys = ap (λ b. weigh w (joined b)) (map-append held_beneath xs ys) ∙ weigh-joined-append w (map held_beneath xs) (map held_beneath ys)

held-less : (w : Descriptor → ℕ) (ns : List (Node Kept)) → holds w ns ≤ waits w ns
held-less w [] = omega arith
held-less w (n ∷ ns) = omega (arith, weigh-joined-cons w (held_beneath n) (map held_beneath ns), weigh-joined-cons w (beneath n) (map beneath ns), held-le-beneath w n, held-less w ns)

fresh-waits : (w : Descriptor → ℕ) (ns : List (Node Kept)) → All IsFresh ns → waits w ns ≡ 0
fresh-waits w [] h = omega (arith, weigh-nil w)
fresh-waits w (n ∷ ns) h =
    omega (arith, weigh-joined-cons w (beneath n) (map beneath ns), ap (weigh w) (All-head IsFresh n ns h).alone, weigh-nil w, fresh-waits w ns (All-tail IsFresh n ns h))

-- new nodes have counted no arrival
fresh-within : (t : Totals) (n : Node Kept) → IsFresh n → Within t n
fresh-within t n h = record {
  packets = omega (arith, ap (λ (c : Counts). c.arrived.packets) h.counts);
  bytes = omega (arith, ap (λ (c : Counts). c.arrived.bytes) h.counts);
}

all-within : (t : Totals) (ns : List (Node Kept)) → All IsFresh ns → All (Within t) ns
all-within t [] h = All-nil (Within t)
all-within t (n ∷ ns) h = All-cons (Within t) n ns (fresh-within t n (All-head IsFresh n ns h)) (all-within t ns (All-tail IsFresh n ns h))

-- between one discipline with its children and another these packets are lost
pub record IsConserved (old new : spec.Discipline) (ns ms : List (Node Kept)) (lost : List Descriptor) : Type 0 where
  pub packets : packets_in new ≡ packets_in old
  pub waits : (w : Descriptor → ℕ) → waits w ns ≡ waits w ms + weigh w lost
  pub holds : (w : Descriptor → ℕ) → holds w ns ≤ holds w ms + weigh w lost
  pub within : (t : Totals) → All (Within t) ns → All (Within t) ms

nothing-goes : (old new : spec.Discipline) (ns : List (Node Kept)) → packets_in new ≡ packets_in old → IsConserved old new ns ns []
nothing-goes old new ns same = record { packets = same; waits = λ w. omega (arith, weigh-nil w); holds = λ w. omega (arith, weigh-nil w); within = λ t h. h }

rescheduled-packets : (f : Schedule → Schedule) (d : spec.Discipline) → packets_in (rescheduled f d) ≡ packets_in d
rescheduled-packets f (spec.Drr s) = refl
rescheduled-packets f (spec.Fifo limit queue) = refl
rescheduled-packets f (spec.Prio priomap) = refl
rescheduled-packets f (spec.Tbf bucket limit) = refl
rescheduled-packets f (spec.FqCodel s) = refl

limited-packets : (l : Limit) (d : spec.Discipline) → packets_in (limited l d) ≡ packets_in d
limited-packets l (spec.Drr s) = refl
limited-packets l (spec.Fifo limit queue) = refl
limited-packets l (spec.Prio priomap) = refl
limited-packets l (spec.Tbf bucket limit) = refl
limited-packets l (spec.FqCodel s) = refl

retuned-packets : (target interval : ℕ) (ecn : Bool) (fs : List flows.Flow) → flows.all_packets (map (flows.retuned target interval ecn) fs) ≡ flows.all_packets fs
unfolding flows.all_packets flows.retuned
retuned-packets target interval ecn [] = refl
retuned-packets target interval ecn (f ∷ fs) = ap (λ ps. f.queue ++ ps) (retuned-packets target interval ecn fs)

reoptioned-packets : (o : FqOptions) (d : spec.Discipline) → packets_in (reoptioned o d) ≡ packets_in d
reoptioned-packets o (spec.Drr s) = refl
reoptioned-packets o (spec.Fifo limit queue) = refl
reoptioned-packets o (spec.Prio priomap) = refl
reoptioned-packets o (spec.Tbf bucket limit) = refl
reoptioned-packets o (spec.FqCodel s) =
    let settings : flows.FqSettings = resettled o s.settings in
    ap packets_of (retuned-packets settings.target settings.interval settings.ecn s.flows)

-- nodes of which some go
some-go : (old new : spec.Discipline) (ns front back : List (Node Kept)) → ns ≡ front ++ back → packets_in new ≡ packets_in old → IsConserved old new ns front (packets_beneath back)
some-go old new ns front back is same = record {
  packets = same;
  waits = λ w. omega (arith, ap (waits w) is, waits-append w front back);
  holds = λ w. omega (arith, ap (holds w) is, holds-append w front back, held-less w back);
  within = λ t h. subst (λ xs. All (Within t) xs) (sym (take-front front back)) (All-take (Within t) (length front) (front ++ back) (subst (λ xs. All (Within t) xs) is h));
}
  where
    take-front : (xs ys : List (Node Kept)) → xs ≡ take (length xs) (xs ++ ys)
    take-front [] ys = refl
    take-front (x ∷ xs) ys = ap (λ zs. x ∷ zs) (take-front xs ys)

-- and of which new ones are added first
bands-go : (priomap new : List ℕ) (bands : ℕ) (ns leaves : List (Node Kept)) → All IsFresh leaves
    → IsConserved (spec.Prio priomap) (spec.Prio new) ns (take bands (ns ++ leaves)) (packets_beneath (drop bands (ns ++ leaves)))
bands-go priomap new bands ns leaves fresh =
    let go = some-go (spec.Prio priomap) (spec.Prio new) (ns ++ leaves) (take bands (ns ++ leaves)) (drop bands (ns ++ leaves)) (sym (take-append-drop bands (ns ++ leaves))) refl in
    record {
      packets = refl;
      waits = λ w. omega (arith, go.waits w, waits-append w ns leaves, fresh-waits w leaves fresh);
      holds = λ w. omega (arith, go.holds w, holds-append w ns leaves);
      within = λ t h. go.within t (All-append (Within t) ns leaves h (all-within t leaves fresh));
    }

bands-conserved : (d : spec.Discipline) (priomap : List ℕ) (bands : ℕ) (ns leaves : List (Node Kept)) → All IsFresh leaves
    → IsConserved d (remapped priomap d) ns (bands_staying bands leaves d ns) (packets_beneath (bands_going bands leaves d ns))
bands-conserved (spec.Prio old) priomap bands ns leaves fresh = bands-go old priomap bands ns leaves fresh
bands-conserved (spec.Fifo limit queue) priomap bands ns leaves fresh = nothing-goes (spec.Fifo limit queue) (spec.Fifo limit queue) ns refl
bands-conserved (spec.Tbf bucket limit) priomap bands ns leaves fresh = nothing-goes (spec.Tbf bucket limit) (spec.Tbf bucket limit) ns refl
bands-conserved (spec.Drr s) priomap bands ns leaves fresh = nothing-goes (spec.Drr s) (spec.Drr s) ns refl
bands-conserved (spec.FqCodel s) priomap bands ns leaves fresh = nothing-goes (spec.FqCodel s) (spec.FqCodel s) ns refl

-- another limit of a leaf keeps its packets
relimited-packets : (limit : ℕ) (d : spec.Discipline) → packets_in (relimited limit d) ≡ packets_in d
relimited-packets l (spec.Drr s) = refl
relimited-packets l (spec.Fifo limit queue) = refl
relimited-packets l (spec.Prio priomap) = refl
relimited-packets l (spec.Tbf bucket limit) = refl
relimited-packets l (spec.FqCodel s) = refl

pub leaf-keeps : (limit : ℕ) (n : Node Kept) → (beneath (leaf_limited limit n) ≡ beneath n) × (held_beneath (leaf_limited limit n) ≡ held_beneath n) × ((leaf_limited limit n).memory ≡ n.memory)
leaf-keeps limit n = by (is_some n.own.handle) where
  by : (b : Bool) → let m : Node Kept = if b then n else record n { own = record n.own { discipline = relimited limit n.own.discipline } } in
      (beneath m ≡ beneath n) × (held_beneath m ≡ held_beneath n) × (m.memory ≡ n.memory)
  by true = (refl, refl, refl)
  by false = (ap (λ ps. option_to_list n.own.held ++ ps ++ joined (spec.each beneath_own n.below)) (relimited-packets limit n.own.discipline), refl, refl)

leaves-keep : (limit : ℕ) (ns : List (Node Kept)) → (map beneath (map (leaf_limited limit) ns) ≡ map beneath ns) × (map held_beneath (map (leaf_limited limit) ns) ≡ map held_beneath ns)
leaves-keep limit [] = (refl, refl)
leaves-keep limit (n ∷ ns) =
    let rest = leaves-keep limit ns in
    let first = leaf-keeps limit n in
    ((λ i. first.0 i ∷ rest.0 i), (λ i. first.1 i ∷ rest.1 i))

leaves-within : (t : Totals) (limit : ℕ) (ns : List (Node Kept)) → All (Within t) ns → All (Within t) (map (leaf_limited limit) ns)
leaves-within t limit [] h = All-nil (Within t)
leaves-within t limit (n ∷ ns) h =
    All-cons (Within t) (leaf_limited limit n) (map (leaf_limited limit) ns)
    (subst (λ (m : Kept). IsCountedWithin m.counts.arrived t) (sym (leaf-keeps limit n).2) (All-head (Within t) n ns h)) (leaves-within t limit ns (All-tail (Within t) n ns h))

bucket-conserved : (bucket : TokenBucket) (limit : ℕ) (d : spec.Discipline) (ns : List (Node Kept)) → IsConserved d (rebucketed bucket limit d) ns (leaves_limited limit d ns) []
bucket-conserved bucket limit (spec.Tbf old was) ns = record {
  packets = refl;
  waits = λ w. omega (arith, weigh-nil w, ap (λ b. weigh w (joined b)) (leaves-keep limit ns).0);
  holds = λ w. omega (arith, weigh-nil w, ap (λ b. weigh w (joined b)) (leaves-keep limit ns).1);
  within = λ t h. leaves-within t limit ns h;
}
bucket-conserved bucket limit (spec.Fifo l queue) ns = nothing-goes (spec.Fifo l queue) (spec.Fifo l queue) ns refl
bucket-conserved bucket limit (spec.Prio priomap) ns = nothing-goes (spec.Prio priomap) (spec.Prio priomap) ns refl
bucket-conserved bucket limit (spec.Drr s) ns = nothing-goes (spec.Drr s) (spec.Drr s) ns refl
bucket-conserved bucket limit (spec.FqCodel s) ns = nothing-goes (spec.FqCodel s) (spec.FqCodel s) ns refl

-- a class more, and one less
class-joins : (d new : spec.Discipline) (ns : List (Node Kept)) (leaf : Node Kept) → packets_in new ≡ packets_in d → IsFresh leaf → IsConserved d new ns (ns ++ leaf ∷ []) []
class-joins d new ns leaf same fresh = record {
  packets = same;
  waits = λ w. omega (arith, waits-append w ns (leaf ∷ []), fresh-waits w (leaf ∷ []) (one fresh), weigh-nil w);
  holds = λ w. omega (arith, holds-append w ns (leaf ∷ []), weigh-nil w);
  within = λ t h. All-append (Within t) ns (leaf ∷ []) h (all-within t (leaf ∷ []) (one fresh));
}
  where
    one : IsFresh leaf → All IsFresh (leaf ∷ [])
    one h = All-cons IsFresh leaf [] h (All-nil IsFresh)

waits-remove : (w : Descriptor → ℕ) (ns : List (Node Kept)) (i : ℕ) (c : Node Kept) → slice_get ns i ≡ Some c → waits w ns ≡ waits w (remove ns i) + weigh w (beneath c)
waits-remove w [] i c e = absurd (none-some c e)
waits-remove w (n ∷ ns) zero c e = omega (arith, weigh-joined-cons w (beneath n) (map beneath ns), ap (λ (k : Node Kept). weigh w (beneath k)) (same_Some n c e))
waits-remove w (n ∷ ns) (suc i) c e = omega (arith, weigh-joined-cons w (beneath n) (map beneath ns), weigh-joined-cons w (beneath n) (map beneath (remove ns i)), waits-remove w ns i c e)

holds-remove : (w : Descriptor → ℕ) (ns : List (Node Kept)) (i : ℕ) (c : Node Kept) → slice_get ns i ≡ Some c → holds w ns ≡ holds w (remove ns i) + weigh w (held_beneath c)
holds-remove w [] i c e = absurd (none-some c e)
holds-remove w (n ∷ ns) zero c e = omega (arith, weigh-joined-cons w (held_beneath n) (map held_beneath ns), ap (λ (k : Node Kept). weigh w (held_beneath k)) (same_Some n c e))
holds-remove w (n ∷ ns) (suc i) c e =
    omega (
      arith,
      weigh-joined-cons w (held_beneath n) (map held_beneath ns),
      weigh-joined-cons w (held_beneath n) (map held_beneath (remove ns i)),
      holds-remove w ns i c e,
    )

class-goes : (d new : spec.Discipline) (ns : List (Node Kept)) (i : ℕ) (c : Node Kept) → packets_in new ≡ packets_in d → slice_get ns i ≡ Some c → IsConserved d new ns (remove ns i) (beneath c)
class-goes d new ns i c same there = record {
  packets = same;
  waits = λ w. waits-remove w ns i c there;
  holds = λ w. omega (arith, holds-remove w ns i c there, held-le-beneath w c);
  within = λ t h. All-append (Within t) (take i ns) (drop (suc i) ns) (All-take (Within t) i ns h) (All-drop (Within t) (suc i) ns h);
}

-- the class that goes stands where it is found
pub record IsClassChild (d : spec.Discipline) (class : ℕ) (ns : List (Node Kept)) (i : ℕ) (c : Node Kept) : Type 0 where
  pub place : place_in class d ≡ Some i
  pub there : slice_get ns i ≡ Some c

pub child-of-class : (class : ℕ) (d : spec.Discipline) (ns : List (Node Kept)) (x : ℕ × Node Kept) → class_child class d ns ≡ Some x → IsClassChild d class ns x.0 x.1
child-of-class class d ns x e = at (place_in class d) refl e where
  node : (i : ℕ) (o : Option (Node Kept)) → place_in class d ≡ Some i → slice_get ns i ≡ o → option_map {U = ℕ × Node Kept} (λ (c : Node Kept). (i, c)) o ≡ Some x → IsClassChild d class ns x.0 x.1
  node i None place there same = absurd (none-some x same)
  node i (Some c) place there same =
      let pair = same_Some (i, c) x same in
      record {
        place = place ∙ ap (λ (y : ℕ × Node Kept). Some y.0) pair;
        there = ap (λ (y : ℕ × Node Kept). slice_get ns y.0) (sym pair) ∙ there ∙ ap (λ (y : ℕ × Node Kept). Some y.1) pair;
      }

  at : (o : Option ℕ) → place_in class d ≡ o → option_and_then (λ i. option_map {U = ℕ × Node Kept} (λ (c : Node Kept). (i, c)) (slice_get ns i)) o ≡ Some x → IsClassChild d class ns x.0 x.1
  at None place same = absurd (none-some x same)
  at (Some i) place same = node i (slice_get ns i) place refl same

class-conserved : (class : ℕ) (f : Schedule → Schedule) (d : spec.Discipline) (ns : List (Node Kept)) (o : Option (ℕ × Node Kept)) → class_child class d ns ≡ o
    → IsConserved d (option_map_or (λ x. rescheduled f d) o d) ns (option_map_or (λ (x : ℕ × Node Kept). remove ns x.0) o ns) (option_map_or (λ (x : ℕ × Node Kept). beneath x.1) o [])
class-conserved class f d ns None e = nothing-goes d d ns refl
class-conserved class f d ns (Some x) e = class-goes d (rescheduled f d) ns x.0 x.1 (rescheduled-packets f d) (child-of-class class d ns x e).there

join-conserved : (b : Bool) (f : Schedule → Schedule) (d : spec.Discipline) (ns : List (Node Kept)) (leaf : Node Kept) → IsFresh leaf
    → IsConserved d (if b then rescheduled f d else d) ns (if b then ns ++ leaf ∷ [] else ns) []
join-conserved true f d ns leaf fresh = class-joins d (rescheduled f d) ns leaf (rescheduled-packets f d) fresh
join-conserved false f d ns leaf fresh = nothing-goes d d ns refl

pub conserved : (r : DisciplineChange) (d : spec.Discipline) (ns : List (Node Kept)) → AreReady r → IsConserved d (discipline_after r d ns) ns (children_after r d ns) (lost_with r d ns)
conserved Nothing d ns h = nothing-goes d d ns refl
conserved (SetLimit limit) d ns h = nothing-goes d (limited limit d) ns (limited-packets limit d)
conserved (SetBands options leaves) d ns h = bands-conserved d options.priomap options.bands ns leaves.items h
conserved (SetBucket bucket limit) d ns h = bucket-conserved bucket limit d ns
conserved (SetOptions options) d ns h = nothing-goes d (reoptioned options d) ns (reoptioned-packets options d)
conserved (AddClass class quantum leaf) d ns h = join-conserved (can_join class d) (added class quantum) d ns leaf h
conserved (SetQuantum class quantum) d ns h = nothing-goes d (rescheduled (requantum class quantum) d) ns (rescheduled-packets (requantum class quantum) d)
conserved (RemoveClass class) d ns h = class-conserved class (removed class) d ns (class_child class d ns) refl
