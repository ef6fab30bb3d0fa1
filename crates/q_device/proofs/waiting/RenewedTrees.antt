-- What is known of a whole tree once it was polled in vain, against what was known before.
use Rattle.std.proofs.Common.{◌≡◌, ℕ, ◌≤◌, ◌^◌, ◌∙◌, refl, sym, ap, subst, List, [], map, length, None}
use Rattle.std.specs.Prelude.{Bool, ◌==◌, if◌then◌else◌, is_some}
use Rattle.q_model.specs.Ask.{Asked, befores, ask_own, ask}
use Rattle.q_model.specs.Beneath.{beneath_own, is_empty}
use Rattle.q_model.specs.Node.{Own, Forest, none, more, Node, Shape, each, shape}
use Rattle.q_model.specs.Tally.{Tally}
use Rattle.q_model.specs.TreeState.{TreeState, given, take_packet}
use Rattle.q_model.specs.Work.{Worked, booked}
use Rattle.q_model.specs.Lawful.{IsLawfulOwn}
use Rattle.q_model.proofs.ShrinkLemmas.{each-each_memory}
use Rattle.q_invariants.specs.Kept.{AllLawful, IsLawfulRoot}
use Rattle.q_invariants.proofs.again.SecondPeeks.{asked-shape, told}
use Rattle.q_invariants.proofs.ask.Answer.{IsAnswer}
use Rattle.q_invariants.proofs.ask.AskClasses.{empty-peeked}
use Rattle.q_invariants.proofs.ask.Asks.{before-is, before-root, beneath-befores, ask-answers}
use Rattle.q_invariants.proofs.sums.Told.{root-booked}
use Rattle.q_tree.specs.answers.ReadyAt.{outlook_own, outlook}
use Rattle.q_tree.proofs.Foreseeing.{Foresees}
use Rattle.q_tree.proofs.ForeseenAsks.{foreseen}
use Rattle.q_device.proofs.waiting.Renewed.{Outlook, Renews}
use Rattle.q_device.proofs.waiting.RenewedAsks.{IsRenewed, AreRenewed, asked-outlook, befores-renew, aged, asked-renews}

module _ (mtu now t : ℕ) (least : 1 ≤ mtu) (low : t ≤ 2 ^ 62) (order : now ≤ t) where
  pub own-renewed : (own : Own) (x : Forest (Unit {0})) → IsLawfulRoot mtu t (record { own = own; memory = tt; below = x }) → AreRenewed now t order (each (outlook_own now) x) (each (ask_own t) x)
      → IsRenewed now t order (outlook_own now own (each (outlook_own now) x)) (ask_own t own (each (ask_own t) x))
  own-renewed own x lawful all =
      let n : Shape = record { own = own; memory = tt; below = x } in
      let os : List Outlook = each (outlook_own now) x in
      let below : List Asked = each (ask_own t) x in
      let sees : Foresees now t (outlook_own now own os) (ask_own t own below).shown =
      subst (λ (a : Asked). Foresees now t (outlook now n) a.shown) (asked-shape t n) (foreseen mtu now t least low order n lawful) in
      record {
        foreseen = sees;
        before = subst (Renews t (outlook_own now own os)) (sym (ap (outlook t) (before-is t own below) ∙ asked-outlook t own [] (befores below)))
            (aged now t order mtu own.handle own.filters own.since own.held own.discipline os (map (outlook t) (befores below)) (each beneath_own x) lawful.0 (befores-renew now t order os below all));
        peeked = asked-renews now t order own.handle own.filters own.since mtu own.held own.discipline os below (subst (IsLawfulOwn mtu t own) (sym (beneath-befores t x)) lawful.0) all sees;
      }

  pub forest-renewed : (x : Forest (Unit {0})) → AllLawful mtu t x → AreRenewed now t order (each (outlook_own now) x) (each (ask_own t) x)
  forest-renewed none h = tt
  forest-renewed (more own m below others) h = (own-renewed own below (h.0, h.1) (forest-renewed below h.1), forest-renewed others h.2)

  shape-renewed : (n : Shape) → IsLawfulRoot mtu t n → Renews t (outlook now n) (outlook t (ask_own t n.own (each (ask_own t) n.below)).peeked)
  shape-renewed n lawful = (own-renewed n.own n.below lawful (forest-renewed n.below lawful.1)).peeked

-- ---- a tree from which a take gave nothing

module _ {M : Type 0} (tally : Tally M) (now t : ℕ) (s : TreeState M) (least : 1 ≤ s.device.mtu) (low : t ≤ 2 ^ 62) (order : now ≤ t) (lawful : IsLawfulRoot s.device.mtu t (shape s.root)) where
  abbrev root : Shape
  root = shape s.root

  pub sees : Foresees now t (outlook now s.root) (given t s)
  sees =
      subst (λ (a : Asked). Foresees now t (outlook now s.root) a.shown) (sym (asked-shape t s.root ∙ ap (ask_own t s.root.own) refl))
      (subst (λ os. Foresees now t (outlook_own now s.root.own os) (ask_own t s.root.own (each (ask_own t) s.root.below)).shown) (each-each_memory (outlook_own now) (λ m. tt) s.root.below)
      (subst (λ (a : Asked). Foresees now t (outlook now root) a.shown)
      (asked-shape t root ∙ ap (ask_own t s.root.own) (each-each_memory (ask_own t) (λ m. tt) s.root.below))
      (foreseen s.device.mtu now t least low order root lawful)))

  module _ (silent : given t s ≡ None) where
    abbrev after : TreeState M
    after = take_packet tally t s

    pub left : {A : Type 0} (f : Own → List A → A) → (λ (n : Node M). f n.own (each f n.below)) after.root ≡ f (ask t root).peeked.own (each f (ask t root).peeked.below)
    left f =
        ap (λ (b : Bool). (λ (n : Node M). f n.own (each f n.below)) (booked tally s.root (if b then (ask t root).taken else (ask t root).peeked))) (ap is_some silent)
        ∙ root-booked tally f s.root (ask t root).peeked (told tally t s least low lawful)

    pub take-renews : Renews t (outlook now s.root) (outlook t after.root)
    take-renews =
        subst (Renews t (outlook now s.root)) (sym (left (outlook_own t)))
        (subst (λ (a : Asked). Renews t (outlook now s.root) (outlook t a.peeked)) (sym (ap (ask_own t s.root.own) refl))
        (subst (λ os. Renews t (outlook_own now s.root.own os) (outlook t (ask t root).peeked)) (each-each_memory (outlook_own now) (λ m. tt) s.root.below)
        (shape-renewed s.device.mtu now t least low order root lawful)))

    pub take-empty : is_empty after.root ≡ is_empty s.root
    take-empty =
        let answer : IsAnswer s.device.mtu t (ask t root) = ask-answers s.device.mtu t least low root lawful in
        ap (λ ps. length ps == 0) (left beneath_own) ∙ empty-peeked s.device.mtu t (ask t root) answer
        ∙ ap (λ (n : Worked). is_empty n) (before-root t root)
        ∙ ap (λ ps. length (beneath_own s.root.own ps) == 0) (each-each_memory beneath_own (λ u. []) root.below ∙ each-each_memory beneath_own (λ m. tt) s.root.below)
