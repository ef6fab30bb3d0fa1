-- Children that are asked one after another: what each is then, and what was lost and marked for that so far.
use Rattle.std.proofs.Common.{◌≡◌, ℕ, zero, suc, ◌+◌, ◌≤◌, ◌∙◌, List, [], ◌∷◌, ◌++◌, map, set, length, refl, sym, ap, ap₂, subst, Some, flat_map, arith}
use Rattle.std.specs.Prelude.{slice_get}
use Rattle.std.specs.List.{All}
use Rattle.std.proofs.lemmas.Option.{same_Some}
use Rattle.std.proofs.lemmas.List.{length-set}
use Rattle.std.proofs.lemmas.List.Elements.{All-set}
use Rattle.q_packet.specs.Descriptor.{Descriptor}
use Rattle.q_model.specs.declared.totals.Totals.{Totals}
use Rattle.q_model.specs.Ask.{befores, ask}
use Rattle.q_model.specs.Beneath.{beneath, beneath_own}
use Rattle.q_model.specs.Conserved.{held_own, held_beneath}
use Rattle.q_model.specs.Node.{Node, shape, side_by_side, more}
use Rattle.q_model.specs.Tally.{Note, noted}
use Rattle.q_model.specs.Work.{Worked, booked, each_booked}
use Rattle.q_model.proofs.ShrinkLemmas.{each-each_memory}
use Rattle.q_invariants.specs.Kept.{AreLawful, IsLawfulRoot}
use Rattle.q_invariants.specs.Weights.{arrived, lost, marked, weigh}
use Rattle.q_invariants.proofs.ask.Answer.{IsAnswer}
use Rattle.q_invariants.proofs.ask.Asks.{ask-answers, before-root}
use Rattle.q_invariants.proofs.edit.EditNew.{held-le-beneath}
use Rattle.q_invariants.proofs.sums.Told.{IsRootTold, root-memory, root-booked}
use Rattle.q_invariants.proofs.sums.Weights.{weigh-append, lost-nil, marked-nil, lost-append, marked-append, IsQuiet, quiet-nil, quiet-append}
use Rattle.q_invariants.proofs.tree.Forests.{lawful-with_memory}
use Rattle.q_invariants.proofs.tree.Members.{All-at}
use Rattle.q_tree.specs.arrival.PutSteps.{packets_beneath}
use Rattle.q_tree.specs.departure.AskSteps.{CanAsk, answers}
use Rattle.q_tree.specs.Kept.{Kept, kept}
use Rattle.q_tree.specs.Seen.{IsCountedWithin}
use Rattle.q_tree.proofs.departure.Forms.{booked-quiet}

-- nodes side by side, each as the rules leave it
abbrev pub booked_all : List (Node Kept) → List Worked → List (Node Kept)
booked_all [] ws = []
booked_all (n ∷ ns) [] = []
booked_all (n ∷ ns) (w ∷ ws) = booked kept n w ∷ booked_all ns ws

pub side-all : (ns : List (Node Kept)) (ws : List Worked) → side_by_side (booked_all ns ws) ≡ each_booked kept (side_by_side ns) (side_by_side ws)
side-all [] ws = refl
side-all (n ∷ ns) [] = refl
side-all (n ∷ ns) (w ∷ ws) = ap (λ o. more w.own (noted kept n.memory w.memory) (each_booked kept n.below w.below) o) (side-all ns ws)

pub all-at : (ns : List (Node Kept)) (ws : List Worked) (i : ℕ) (n : Node Kept) (w : Worked) → slice_get ns i ≡ Some n → slice_get ws i ≡ Some w
    → slice_get (booked_all ns ws) i ≡ Some (booked kept n w)
all-at [] ws i n w e f = cc
all-at (m ∷ ns) [] i n w e f = cc
all-at (m ∷ ns) (v ∷ ws) zero n w e f = ap (λ (x : Node Kept). Some (booked kept x v)) (same_Some m n e) ∙ ap (λ (x : Worked). Some (booked kept n x)) (same_Some v w f)
all-at (m ∷ ns) (v ∷ ws) (suc i) n w e f = all-at ns ws i n w e f

pub all-set : (ns : List (Node Kept)) (ws : List Worked) (i : ℕ) (n : Node Kept) (w : Worked) → slice_get ns i ≡ Some n → set (booked_all ns ws) i (booked kept n w) ≡ booked_all ns (set ws i w)
all-set [] ws i n w e = cc
all-set (m ∷ ns) [] zero n w e = refl
all-set (m ∷ ns) [] (suc i) n w e = refl
all-set (m ∷ ns) (v ∷ ws) zero n w e = ap (λ (x : Node Kept). booked kept x w ∷ booked_all ns ws) (sym (same_Some m n e))
all-set (m ∷ ns) (v ∷ ws) (suc i) n w e = ap (λ xs. booked kept m v ∷ xs) (all-set ns ws i n w e)

-- what stands in a place that was set
pub set-at : (ms : List (Node Kept)) (i : ℕ) (x d : Node Kept) → slice_get ms i ≡ Some x → slice_get (set ms i d) i ≡ Some d
set-at [] i x d e = cc
set-at (m ∷ ms) zero x d e = refl
set-at (m ∷ ms) (suc i) x d e = set-at ms i x d e

-- and what is put back in its place
pub set-same : (ms : List (Node Kept)) (i : ℕ) (x : Node Kept) → slice_get ms i ≡ Some x → set ms i x ≡ ms
set-same [] i x e = cc
set-same (m ∷ ms) zero x e = ap (λ (y : Node Kept). y ∷ ms) (sym (same_Some m x e))
set-same (m ∷ ms) (suc i) x e = ap (λ xs. m ∷ xs) (set-same ms i x e)

-- a node that was not asked yet
pub booked-before : (now : ℕ) (n : Node Kept) → booked kept n (ask now (shape n)).before ≡ n
booked-before now n =
    ap (λ (w : Worked). booked kept n w) (before-root now (shape n))
    ∙ ap (λ b. record { own = n.own; memory = n.memory; below = b }) (booked-quiet kept n.below)

pub all-before : (now : ℕ) (ns : List (Node Kept)) → booked_all ns (befores (answers now ns)) ≡ ns
all-before now [] = refl
all-before now (n ∷ ns) = ap₂ (λ x xs. x ∷ xs) (booked-before now n) (all-before now ns)

-- one node that was asked: what it has less, and what it holds more
pub record IsWeighed (rises : List Note) (n m : Node Kept) : Type 0 where
  pub waits : (w : Descriptor → ℕ) → weigh w (beneath n) ≡ lost w rises + weigh w (beneath m)
  pub marks : (w : Descriptor → ℕ) → marked w rises + weigh w (held_beneath n) ≤ lost w rises + weigh w (held_beneath m)
  pub quiet : IsQuiet rises

module _ (now : ℕ) (n : Node Kept) (h : CanAsk now n) where
  pub answered : IsAnswer h.mtu now (ask now (shape n))
  answered = ask-answers h.mtu now h.least h.moment (shape n) (lawful-with_memory h.mtu now (λ m. tt) n h.lawful)

  pub asked-told : IsRootTold n (ask now (shape n)).peeked
  asked-told =
      root-memory (λ m. tt) n (ask now (shape n)).peeked
      (root-memory (λ u. []) (shape n) (ask now (shape n)).peeked (subst (λ (w : Worked). IsRootTold w (ask now (shape n)).peeked) (before-root now (shape n)) answered.told_peeked))

  pub taken-told : IsRootTold n (ask now (shape n)).taken
  taken-told =
      root-memory (λ m. tt) n (ask now (shape n)).taken
      (root-memory (λ u. []) (shape n) (ask now (shape n)).taken (subst (λ (w : Worked). IsRootTold w (ask now (shape n)).taken) (before-root now (shape n)) answered.told_taken))

  same-beneath : beneath (ask now (shape n)).before ≡ beneath n
  same-beneath =
      ap beneath (before-root now (shape n))
      ∙ ap (beneath_own n.own) (each-each_memory beneath_own (λ u. []) (shape n).below ∙ each-each_memory beneath_own (λ m. tt) n.below)

  same-held : held_beneath (ask now (shape n)).before ≡ held_beneath n
  same-held =
      ap held_beneath (before-root now (shape n))
      ∙ ap (held_own n.own) (each-each_memory held_own (λ u. []) (shape n).below ∙ each-each_memory held_own (λ m. tt) n.below)

  pub asked-weighs : IsWeighed (ask now (shape n)).rises n (booked kept n (ask now (shape n)).peeked)
  asked-weighs =
      let a = answered in
      let after = root-booked kept beneath_own n (ask now (shape n)).peeked asked-told in
      let held = root-booked kept held_own n (ask now (shape n)).peeked asked-told in
      record {
        waits = λ w. omega (arith, a.peeks w, ap (weigh w) same-beneath, ap (weigh w) after);
        marks = λ w. omega (arith, a.marks w, ap (weigh w) same-held, ap (weigh w) held);
        quiet = a.quiet;
      }

-- what waits, and what is held, in one of the children and in the others
abbrev pub held_in : List (Node Kept) → List Descriptor
held_in ns = flat_map (λ packets. packets) (map held_beneath ns)

pub weigh-set : (f : Node Kept → List Descriptor) (w : Descriptor → ℕ) (ns : List (Node Kept)) (i : ℕ) (c d : Node Kept) → slice_get ns i ≡ Some c
    → weigh w (flat_map (λ packets. packets) (map f (set ns i d))) + weigh w (f c) ≡ weigh w (flat_map (λ packets. packets) (map f ns)) + weigh w (f d)
weigh-set f w [] i c d e = cc
weigh-set f w (n ∷ ns) zero c d e =
    let rest : List Descriptor = flat_map (λ packets. packets) (map f ns) in
    omega (arith, weigh-append w (f d) rest, weigh-append w (f n) rest, ap (λ (x : Node Kept). weigh w (f x)) (same_Some n c e))
weigh-set f w (n ∷ ns) (suc i) c d e =
    omega (arith, weigh-set f w ns i c d e, weigh-append w (f n) (flat_map (λ packets. packets) (map f (set ns i d))), weigh-append w (f n) (flat_map (λ packets. packets) (map f ns)))

-- the others hold no more than what waits in them
pub held-beside : (w : Descriptor → ℕ) (ns : List (Node Kept)) (i : ℕ) (c : Node Kept) → slice_get ns i ≡ Some c
    → weigh w (held_in ns) + weigh w (beneath c) ≤ weigh w (packets_beneath ns) + weigh w (held_beneath c)
held-beside w [] i c e = cc
held-beside w (n ∷ ns) zero c e = omega (
  arith,
  weigh-append w (held_beneath n) (held_in ns),
  weigh-append w (beneath n) (packets_beneath ns),
  ap (λ (x : Node Kept). weigh w (beneath x)) (same_Some n c e),
  ap (λ (x : Node Kept). weigh w (held_beneath x)) (same_Some n c e),
  held-all ns,
)
  where
    held-all : (ms : List (Node Kept)) → weigh w (held_in ms) ≤ weigh w (packets_beneath ms)
    held-all [] = omega arith
    held-all (m ∷ ms) = omega (arith, weigh-append w (held_beneath m) (held_in ms), weigh-append w (beneath m) (packets_beneath ms), held-le-beneath w m, held-all ms)
held-beside w (n ∷ ns) (suc i) c e = omega (
  arith,
  weigh-append w (held_beneath n) (held_in ns),
  weigh-append w (beneath n) (packets_beneath ns),
  held-le-beneath w n,
  held-beside w ns i c e,
)

pub part-of : (f : Node Kept → List Descriptor) (w : Descriptor → ℕ) (ns : List (Node Kept)) (i : ℕ) (c : Node Kept) → slice_get ns i ≡ Some c
    → weigh w (f c) ≤ weigh w (flat_map (λ packets. packets) (map f ns))
part-of f w [] i c e = cc
part-of f w (n ∷ ns) zero c e = omega (arith, weigh-append w (f n) (flat_map (λ packets. packets) (map f ns)), ap (λ (x : Node Kept). weigh w (f x)) (same_Some n c e))
part-of f w (n ∷ ns) (suc i) c e = omega (arith, weigh-append w (f n) (flat_map (λ packets. packets) (map f ns)), part-of f w ns i c e)

pub lawful-at : (mtu now : ℕ) (ns : List (Node Kept)) (i : ℕ) (c : Node Kept) → AreLawful mtu now ns → slice_get ns i ≡ Some c → IsLawfulRoot mtu now c
lawful-at mtu now [] i c h e = cc
lawful-at mtu now (n ∷ ns) zero c h e = subst (IsLawfulRoot mtu now) (same_Some n c e) h.0
lawful-at mtu now (n ∷ ns) (suc i) c h e = lawful-at mtu now ns i c h.1 e

-- Children in the midst of being asked: first they were `ns`, and are `ms` now, which the rules made of them; what was told
-- of them so far is `rises`.
pub record IsAsking (ns ms : List (Node Kept)) (ws : List Worked) (rises : List Note) : Type 0 where
  pub children : ms ≡ booked_all ns ws
  pub long : length ms ≡ length ns
  pub waits : (w : Descriptor → ℕ) → weigh w (packets_beneath ns) ≡ lost w rises + weigh w (packets_beneath ms)
  pub marks : (w : Descriptor → ℕ) → marked w rises + weigh w (held_in ns) ≤ lost w rises + weigh w (held_in ms)
  pub quiet : IsQuiet rises
  pub within : (t : Totals) → All (λ (child : Node Kept). IsCountedWithin child.memory.counts.arrived t) ns → All (λ (child : Node Kept). IsCountedWithin child.memory.counts.arrived t) ms

pub asking-starts : (now : ℕ) (ns : List (Node Kept)) → IsAsking ns ns (befores (answers now ns)) []
asking-starts now ns = record {
  children = sym (all-before now ns);
  long = refl;
  waits = λ w. omega (arith, lost-nil w);
  marks = λ w. omega (arith, marked-nil w, lost-nil w);
  quiet = quiet-nil;
  within = λ t h. h;
}

-- one of them that was not asked yet
module _ (now : ℕ) (ns ms : List (Node Kept)) (ws : List Worked) (rises : List Note) (h : IsAsking ns ms ws rises) (i : ℕ) (c : Node Kept)
    (at : slice_get ns i ≡ Some c) (before : slice_get ws i ≡ Some (ask now (shape c)).before) where
  pub still-there : slice_get ms i ≡ Some c
  still-there = ap (λ xs. slice_get xs i) h.children ∙ all-at ns ws i c (ask now (shape c)).before at before ∙ ap Some (booked-before now c)

  -- is asked next
  pub asking-goes : CanAsk now c → (d : Node Kept) → d ≡ booked kept c (ask now (shape c)).peeked → d.memory.counts.arrived ≡ c.memory.counts.arrived
      → IsAsking ns (set ms i d) (set ws i (ask now (shape c)).peeked) (rises ++ (ask now (shape c)).rises)
  asking-goes can d new arrived =
      let a = ask now (shape c) in
      let one_more = asked-weighs now c can in
      record {
        children = ap (set ms i) new ∙ ap (λ xs. set xs i (booked kept c a.peeked)) h.children ∙ all-set ns ws i c a.peeked at;
        long = length-set ms i d ∙ h.long;
        waits = λ w. omega (arith, h.waits w, one_more.waits w, lost-append w rises a.rises, weigh-set beneath w ms i c d still-there, ap (λ (x : Node Kept). weigh w (beneath x)) new);
        marks =
            λ w. omega (
              arith,
              h.marks w,
              one_more.marks w,
              lost-append w rises a.rises,
              marked-append w rises a.rises,
              weigh-set held_beneath w ms i
                  c d still-there,
              ap (λ (x : Node Kept). weigh w (held_beneath x)) new,
            );
        quiet = quiet-append rises a.rises h.quiet one_more.quiet;
        within = λ t all.
            let so_far = h.within t all in
            All-set (λ (child : Node Kept). IsCountedWithin child.memory.counts.arrived t) ms i d
            (subst (λ (x : Totals). IsCountedWithin x t) (sym arrived) (All-at (λ (child : Node Kept). IsCountedWithin child.memory.counts.arrived t) ms i c so_far still-there)) so_far;
      }

  -- what was lost and marked so far, and what this child has, is no more than what waited
  pub record Fits : Type 0 where
    pub lost_fits : (w : Descriptor → ℕ) → lost w rises + weigh w (beneath c) ≤ weigh w (packets_beneath ns)
    pub marked_fits : (w : Descriptor → ℕ) → marked w rises + weigh w (beneath c) ≤ weigh w (packets_beneath ns)

  pub fits : Fits
  fits = record {
    lost_fits = λ w. omega (arith, h.waits w, part-of beneath w ms i c still-there);
    marked_fits = λ w. omega (arith, h.waits w, h.marks w, held-beside w ms i c still-there, part-of held_beneath w ns i c at);
  }
