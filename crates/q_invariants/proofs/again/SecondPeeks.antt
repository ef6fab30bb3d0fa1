-- A second peek at the same moment changes nothing, and a take right after a peek gives what the peek has shown and loses nothing.
use Rattle.std.proofs.Common.{◌≡◌, ℕ, ◌≤◌, ◌^◌, List, [], ◌++◌, map, length, refl, sym, ap, ap₂, subst, ◌∙◌, Option, Some, None, arith}
use Rattle.std.specs.Prelude.{All}
use Rattle.std.proofs.lemmas.List.{length-map}
use Rattle.std.proofs.lemmas.List.Elements.{All-head, All-tail}
use Rattle.q_packet.specs.Descriptor.{Descriptor}
use Rattle.q_drr.specs.Schedule.{Schedule, IsLawful, is_active}
use Rattle.q_drr.specs.Changes.{HeadsFit}
use Rattle.q_drr.specs.Take.{served}
use Rattle.q_drr.proofs.ServedLemmas.{served_lawful}
use Rattle.q_model.proofs.ShrinkLemmas.{each-each_memory}
use Rattle.q_model.specs.declared.filter.Filter.{Filter}
use Rattle.q_model.specs.Tally.{Tally, Note}
use Rattle.q_model.specs.Node.{Discipline, Fifo, Prio, Tbf, Drr, FqCodel, Own, Forest, none, more, Node, Shape, each, each_memory, shape}
use Rattle.q_model.specs.Beneath.{beneath}
use Rattle.q_model.specs.Conserved.{nodes_of}
use Rattle.q_model.specs.Lawful.{IsLawfulOwn, IsLawfulNode, IsLawfulTree}
use Rattle.q_model.specs.Work.{Worked, quiet, each_booked}
use Rattle.q_model.specs.Ask.{Asked, befores, head_of, ask_own, ask}
use Rattle.q_model.specs.TreeState.{TreeState, with_work, given, noted_by_take, peek_packet}
use Rattle.q_invariants.specs.Kept.{AllLawful, IsKeptTree, IsLawfulRoot}
use Rattle.q_invariants.proofs.again.SecondDrr.{second-drr}
use Rattle.q_invariants.proofs.again.SecondFlow.{second-fq_codel}
use Rattle.q_invariants.proofs.again.SecondPeek.{IsSecond, Repeats, again, IsStable, AreStable, again-quiet, node, second-holding, second-fifo, second-tbf}
use Rattle.q_invariants.proofs.again.SecondPrio.{second-prio}
use Rattle.q_invariants.proofs.ask.Answer.{IsAnswer, AreAnswers}
use Rattle.q_invariants.proofs.ask.Asks.{before-is, before-root, beneath-befores, forest-answers, ask-answers}
use Rattle.q_invariants.proofs.ask.DrrService.{heads-fit}
use Rattle.q_invariants.proofs.class.Exact.{exact-length}
use Rattle.q_invariants.proofs.edit.EditLater.{root-later}
use Rattle.q_invariants.proofs.sums.Told.{IsRootTold, root-memory, root-booked}
use Rattle.q_invariants.proofs.tree.Forests.{lawful-with_memory}
use Rattle.q_invariants.proofs.tree.Members.{All-front, All-back}

-- ---- every node

module _ (mtu now : ℕ) (least : 1 ≤ mtu) (low : now ≤ 2 ^ 62) where
  -- a drr's schedule stays lawful, and has a class for each child
  drr-second : (handle : Option ℕ) (filters : List Filter) (since : ℕ) (s : Schedule) (below : List Asked)
      → IsLawfulOwn mtu now (node now handle filters since (Drr s) None) (map beneath (befores below))
      → AreAnswers mtu now below → AreStable now below
      → Repeats now (ask_own now (node now handle filters since (Drr s) None) below)
  drr-second handle filters since s below h all stable =
      let same : length s.classes ≡ length below =
      omega (
        arith,
        exact-length (λ n. is_active n s.active) s.classes (map beneath (befores below)) h.discipline.exact,
        length-map (befores below)
            beneath,
        length-map below (λ (a : Asked). a.before),
      ) in
      let lawful : IsLawful (served (head_of s below) s) =
      served_lawful s (head_of s below) h.discipline.schedule (subst (λ n. HeadsFit (head_of s below) n) (sym h.discipline.longest) (heads-fit mtu now s below all)) in
      second-drr now handle filters since s below stable same lawful

  node-second : (handle : Option ℕ) (filters : List Filter) (since : ℕ) (held : Option Descriptor) (d : Discipline) (below : List Asked)
      → (let own : Own = node now handle filters since d held in
      IsLawfulOwn mtu now own (map beneath (befores below)) → AreAnswers mtu now below → AreStable now below → Repeats now (ask_own now own below))
  node-second handle filters since (Some p) d below h all stable = second-holding now handle filters since d below p stable
  node-second handle filters since None (Fifo limit queue) below h all stable = second-fifo now handle filters since limit queue below stable
  node-second handle filters since None (Prio priomap) below h all stable = second-prio now handle filters since priomap below stable
  node-second handle filters since None (Tbf b limit) below h all stable = second-tbf now handle filters since b limit below stable
  node-second handle filters since None (Drr s) below h all stable = drr-second handle filters since s below h all stable
  node-second handle filters since None (FqCodel s) below h all stable =
      second-fq_codel now handle filters since s below h.discipline.lists h.discipline.settings.quantum_low stable

  own-stable : (own : Own) (below : List Asked) → IsLawfulOwn mtu now own (map beneath (befores below))
      → AreAnswers mtu now below → AreStable now below → IsStable now (ask_own now own below)
  own-stable own below h all stable = record {
    same = ap (again now) (before-is now own below) ∙ again-quiet now own [] below stable;
    second = node-second own.handle own.filters own.since own.held own.discipline below h all stable;
  }

  pub forest-stable : (x : Forest (Unit {0})) → AllLawful mtu now x → AreStable now (each (ask_own now) x)
  forest-stable none h = tt
  forest-stable (more own m below others) h = (
    own-stable own (each (ask_own now) below) (subst (IsLawfulOwn mtu now own) (sym (beneath-befores now below)) h.0) (forest-answers mtu now least low below h.1) (forest-stable below h.1),
    forest-stable others h.2,
  )

  pub ask-stable : (s : Shape) → IsLawfulRoot mtu now s → IsStable now (ask now s)
  ask-stable s h =
      own-stable s.own (each (ask_own now) s.below) (subst (IsLawfulOwn mtu now s.own) (sym (beneath-befores now s.below)) h.0)
      (forest-answers mtu now least low s.below h.1) (forest-stable s.below h.1)

-- what remembers is asked as its shape is
pub asked-shape : {M : Type 0} (now : ℕ) (n : Node M)
    → ask now (shape n) ≡ ask_own now n.own (each (ask_own now) n.below)
asked-shape now n = ap (ask_own now n.own) (each-each_memory (ask_own now) (λ m. tt) n.below)

-- ---- a whole tree

-- a node asked once more where asking left it
pub record IsRepeated (now : ℕ) (s after : Shape) : Type 0 where
  pub shown : (ask now after).shown ≡ (ask now s).shown
  pub rises : (ask now after).rises ≡ []
  pub peeked : (ask now after).peeked ≡ quiet after

repeated : (now : ℕ) (s after : Shape) → IsSecond (ask now s) (ask now after) → IsRepeated now s after
repeated now s after h = record { shown = h.shown; rises = h.rises; peeked = h.peeked ∙ before-root now after }

-- nothing noted, nothing changed
booked-quiet : {M : Type 0} (t : Tally M) (x : Forest M)
    → each_booked t x (each_memory (λ u. []) (each_memory {N = Unit {0}} (λ m. tt) x)) ≡ x
booked-quiet t none = refl
booked-quiet t (more own m below others) = ap₂ (λ b o. more own m b o) (booked-quiet t below) (booked-quiet t others)

module _ {M : Type 0} (t : Tally M) (now : ℕ) (s : TreeState M) (least : 1 ≤ s.device.mtu) (low : now ≤ 2 ^ 62) (lawful : IsLawfulRoot s.device.mtu now (shape s.root)) where
  abbrev root : Shape
  root = shape s.root

  pub told : IsRootTold s.root (ask now root).peeked
  told =
      let answer : IsAnswer s.device.mtu now (ask now root) = ask-answers s.device.mtu now least low root lawful in
      root-memory (λ m. tt) s.root (ask now root).peeked
      (root-memory (λ u. []) root (ask now root).peeked (subst (λ (n : Worked). IsRootTold n (ask now root).peeked) (before-root now root) answer.told_peeked))

  -- the tree after a peek
  abbrev pub peeked_once : TreeState M
  peeked_once = peek_packet t now s

  pub asked-again : ask now (shape peeked_once.root) ≡ again now (ask now root).peeked
  asked-again = asked-shape now peeked_once.root ∙ root-booked t (ask_own now) s.root (ask now root).peeked told

  pub second : IsRepeated now root (shape peeked_once.root)
  second = repeated now root (shape peeked_once.root) (subst (IsSecond (ask now root)) (sym asked-again) (ask-stable s.device.mtu now least low root lawful).second)

  -- a second peek leaves the tree as the first left it, counters and all
  pub second-peek : peek_packet t now peeked_once ≡ peeked_once
  second-peek =
      ap₂ (λ (notes : List Note) (w : Worked). with_work t notes w peeked_once) second.rises second.peeked
      ∙ ap (λ (b : Forest M). record peeked_once { root = record peeked_once.root { below = b } }) (booked-quiet t peeked_once.root.below)

  -- and what a peek or a take then gives is what was shown, and nothing is lost or marked on the way
  pub given-again : given now peeked_once ≡ given now s
  given-again = second.shown

  pub noted-again : noted_by_take now peeked_once ≡ []
  noted-again = second.rises

-- ---- of a tree that is known to be lawful

-- one with any tally
lawful-forest : {M : Type 0} (t : Tally M) (mtu clock : ℕ) (x : Forest M) → All (IsLawfulNode t mtu clock) (nodes_of x)
    → AllLawful mtu clock x
lawful-forest t mtu clock none h = tt
lawful-forest {M} t mtu clock (more own m below others) h =
    let P = IsLawfulNode t mtu clock in
    let n : Node M = record { own = own; memory = m; below = below } in
    let rest : All P (nodes_of below ++ nodes_of others) = All-tail P n (nodes_of below ++ nodes_of others) h in (
      (All-head P n (nodes_of below ++ nodes_of others) h).own,
      lawful-forest t mtu clock below (All-front P (nodes_of below) (nodes_of others) rest),
      lawful-forest t mtu clock others (All-back P (nodes_of below) (nodes_of others) rest),
    )

pub lawful-shape : {M : Type 0} (t : Tally M) (clock now : ℕ) (s : TreeState M) → IsLawfulTree t clock s → clock ≤ now
    → IsLawfulRoot s.device.mtu now (shape s.root)
lawful-shape t clock now s h later =
    let P = IsLawfulNode t s.device.mtu clock in
    let lawful : IsLawfulRoot s.device.mtu clock s.root =
    ((All-head P s.root (nodes_of s.root.below) h.nodes).own, lawful-forest t s.device.mtu clock s.root.below (All-tail P s.root (nodes_of s.root.below) h.nodes)) in
    lawful-with_memory s.device.mtu now (λ m. tt) s.root (root-later clock now later s.device.mtu s.root lawful)

-- one of histories
module _ (clock now : ℕ) (s : TreeState (List Note)) (h : IsKeptTree clock s) (later : clock ≤ now) (low : now ≤ 2 ^ 62) where
  pub kept-shape : IsLawfulRoot s.device.mtu now (shape s.root)
  kept-shape = lawful-with_memory s.device.mtu now (λ m. tt) s.root (root-later clock now later s.device.mtu s.root h.lawful)
