-- A poll keeps a tree: every node that is asked answers as `Answer` says, and notes what becomes of it.
use Rattle.std.proofs.Common.{◌≡◌, ℕ, ◌≤◌, ◌^◌, List, [], ◌∷◌, ◌++◌, map, refl, sym, ap, ap₂, subst, Option, Some, None, suc, option_to_list, ◌∙◌, arith}
use Rattle.std.specs.Prelude.{Bool, true, false, is_some, slice_get, if◌then◌else◌}
use Rattle.std.specs.List.{AllPairs, sum}
use Rattle.std.specs.Option.{option_map_or}
use Rattle.std.proofs.lemmas.List.{append-nil}
use Rattle.q_packet.specs.Descriptor.{Descriptor}
use Rattle.q_drr.specs.Schedule.{Schedule}
use Rattle.q_bucket.specs.Level.{TokenBucket, allows}
use Rattle.q_model.specs.declared.filter.Filter.{Filter}
use Rattle.q_model.specs.Tally.{Note, Sent, history, noted}
use Rattle.q_model.specs.Node.{Discipline, Fifo, Prio, Tbf, Drr, FqCodel, Own, Forest, none, more, Node, Shape, side_by_side, each, each_memory, shape}
use Rattle.q_model.specs.Beneath.{beneath_own, beneath}
use Rattle.q_model.specs.Conserved.{held_own, held_beneath}
use Rattle.q_model.specs.Find.{Address, addresses_own, addresses, greatest, depth, count_nodes}
use Rattle.q_model.specs.Lawful.{IsLawfulOwn}
use Rattle.q_model.specs.Work.{Worked, worked, quiet, booked}
use Rattle.q_model.specs.Ask.{Asked, befores, holding, dequeued, waits, spends, ask_child, ask_tbf, service_of, place_met, gives_nothing, class_gives, class_serves, ask_drr, ask_discipline, ask_own, ask}
use Rattle.q_model.specs.TreeState.{TreeState, peek_packet, with_work, take_packet}
use Rattle.q_model.proofs.ShrinkLemmas.{each-each_memory}
use Rattle.q_invariants.specs.Kept.{AllLawful, AreCounted, IsCountedRoot, IsKeptTree, IsLawfulRoot}
use Rattle.q_invariants.specs.Weights.{weigh}
use Rattle.q_invariants.proofs.ask.Answer.{IsAnswer, AreAnswers, beneath-worked}
use Rattle.q_invariants.proofs.ask.AskDrr.{drr-answers}
use Rattle.q_invariants.proofs.ask.AskFqCodel.{fq_codel-answers}
use Rattle.q_invariants.proofs.ask.AskLeaf.{holding-answers, fifo-answers}
use Rattle.q_invariants.proofs.ask.AskPrio.{prio-answers}
use Rattle.q_invariants.proofs.ask.AskTbf.{tbf-answers}
use Rattle.q_invariants.proofs.edit.EditLater.{root-later}
use Rattle.q_invariants.proofs.sums.Told.{IsTold, IsRootTold, each-booked, counted-noted, booked-counted, booked-lawful, root-memory, LooksAtHandle, root-told, root-booked}
use Rattle.q_invariants.proofs.sums.Weights.{IsQuiet, arrived-append, sent-append, lost-append, dropped-append, marked-append, arrived-given, sent-given, lost-given, dropped-given, marked-given}
use Rattle.q_invariants.proofs.tree.Forests.{lawful-with_memory}

-- every node is before as it was
before-child : (now : ℕ) (own : Own) (below : List Asked) (b : TokenBucket) (limit : ℕ) (a : Asked) (o : Option Descriptor)
    → (option_map_or (λ (p : Descriptor). if allows b now p.len then spends own below b limit now a p else waits own below a) o
    (waits own below a)).before ≡ worked own [] (befores below)
before-child now own below b limit a None = refl
before-child now own below b limit a (Some p) = by (allows b now p.len)
  where
    by : (may : Bool) → (if may then spends own below b limit now a p else waits own below a).before ≡ worked own [] (befores below)
    by true = refl
    by false = refl

before-tbf : (now : ℕ) (own : Own) (below : List Asked) (b : TokenBucket) (limit : ℕ) → (ask_tbf now own below b limit).before ≡ worked own [] (befores below)
before-tbf now own below b limit = by (slice_get below 0)
  where
    by : (o : Option Asked)
        → (option_map_or (ask_child now own below b limit) o
        (dequeued own below (record { after = own; children = []; rises = []; mine = []; packet = None; since = 0 }))).before
        ≡ worked own [] (befores below)
    by None = refl
    by (Some a) = before-child now own below b limit a a.shown

before-drr : (own : Own) (below : List Asked) (s : Schedule) → (ask_drr own below s).before ≡ worked own [] (befores below)
before-drr own below s = by (place_met s below)
  where
    serves : (i : ℕ) (a : Asked) (o : Option Descriptor)
        → (option_map_or (class_gives own below (service_of s below) i a) o (gives_nothing own below (service_of s below))).before
        ≡ worked own [] (befores below)
    serves i a None = refl
    serves i a (Some p) = refl

    child : (i : ℕ) (o : Option Asked) → (option_map_or (class_serves own below (service_of s below) i) o (gives_nothing own below (service_of s below))).before ≡ worked own [] (befores below)
    child i None = refl
    child i (Some a) = serves i a a.shown

    by : (o : Option ℕ)
        → (option_map_or (λ i. option_map_or (class_serves own below (service_of s below) i) (slice_get below i)
        (gives_nothing own below (service_of s below))) o (gives_nothing own below (service_of s below))).before ≡ worked own [] (befores below)
    by None = refl
    by (Some i) = child i (slice_get below i)

pub before-is : (now : ℕ) (own : Own) (below : List Asked) → (ask_own now own below).before ≡ worked own [] (befores below)
before-is now own below = by own.held own.discipline
  where
    discipline : (d : Discipline) → (ask_discipline now own below d).before ≡ worked own [] (befores below)
    discipline (Fifo limit queue) = refl
    discipline (Prio priomap) = refl
    discipline (Tbf b limit) = before-tbf now own below b limit
    discipline (Drr s) = before-drr own below s
    discipline (FqCodel s) = refl

    by : (o : Option Descriptor) (d : Discipline) → (option_map_or (holding own below) o (ask_discipline now own below d)).before ≡ worked own [] (befores below)
    by None d = discipline d
    by (Some p) d = refl

befores-forest : (now : ℕ) (x : Forest (Unit {0})) → side_by_side (befores (each (ask_own now) x)) ≡ each_memory (λ u. []) x
befores-forest now none = refl
befores-forest now (more own m below others) =
    ap (λ (n : Worked). more n.own n.memory n.below (side_by_side (befores (each (ask_own now) others)))) (before-is now own (each (ask_own now) below))
    ∙ ap₂ (λ b o. more own [] b o) (befores-forest now below) (befores-forest now others)

pub before-root : (now : ℕ) (s : Shape) → (ask now s).before ≡ quiet s
before-root now s = before-is now s.own (each (ask_own now) s.below) ∙ ap (λ b. record { own = s.own; memory = []; below = b }) (befores-forest now s.below)

pub beneath-befores : (now : ℕ) (x : Forest (Unit {0})) → map beneath (befores (each (ask_own now) x)) ≡ each beneath_own x
beneath-befores now none = refl
beneath-befores now (more own m below others) =
    ap₂ (λ a b. a ∷ b)
    (ap beneath (before-is now own (each (ask_own now) below)) ∙ beneath-worked own [] (befores (each (ask_own now) below)) ∙ ap (beneath_own own) (beneath-befores now below))
    (beneath-befores now others)

module _ (mtu now : ℕ) (least : 1 ≤ mtu) (low : now ≤ 2 ^ 62) where
  node-answers : (handle : Option ℕ) (filters : List Filter) (since : ℕ) (held : Option Descriptor) (d : Discipline) (below : List Asked)
      → (let own : Own = record { handle = handle; discipline = d; held = held; since = since; filters = filters } in
      IsLawfulOwn mtu now own (map beneath (befores below)) → AreAnswers mtu now below → IsAnswer mtu now (ask_own now own below))
  node-answers handle filters since (Some p) d below h all = holding-answers mtu now (record { handle = handle; discipline = d; held = Some p; since = since; filters = filters }) below p refl h all
  node-answers handle filters since None (Fifo limit queue) below h all = fifo-answers mtu now handle filters since limit queue below h all
  node-answers handle filters since None (Prio priomap) below h all = prio-answers mtu now handle filters since priomap below h all
  node-answers handle filters since None (Tbf b limit) below h all = tbf-answers mtu now handle filters since limit b below h all
  node-answers handle filters since None (Drr s) below h all = drr-answers mtu now least handle filters since s below h all
  node-answers handle filters since None (FqCodel s) below h all = fq_codel-answers mtu now low handle filters since s below h all

  own-answers : (own : Own) (below : List Asked) → IsLawfulOwn mtu now own (map beneath (befores below)) → AreAnswers mtu now below → IsAnswer mtu now (ask_own now own below)
  own-answers own below h all = node-answers own.handle own.filters own.since own.held own.discipline below h all

  pub forest-answers : (x : Forest (Unit {0})) → AllLawful mtu now x → AreAnswers mtu now (each (ask_own now) x)
  forest-answers none h = tt
  forest-answers (more own m below others) h = (
    own-answers own (each (ask_own now) below) (subst (IsLawfulOwn mtu now own) (sym (beneath-befores now below)) h.0) (forest-answers below h.1),
    forest-answers others h.2,
  )

  pub ask-answers : (s : Shape) → IsLawfulRoot mtu now s → IsAnswer mtu now (ask now s)
  ask-answers s h = own-answers s.own (each (ask_own now) s.below) (subst (IsLawfulOwn mtu now s.own) (sym (beneath-befores now s.below)) h.0) (forest-answers s.below h.1)

-- addresses, depth and the number of nodes rest on handles and on the form alone
addressed : List (List Address) → Option ℕ → List Address
addressed xs h = addresses_own (record { handle = h; discipline = Prio []; held = None; since = 0; filters = [] }) xs

pub addresses-look : LooksAtHandle addresses_own
unfolding addressed
addresses-look a b xs e = ap (addressed xs) e

-- what the rules left of a tree of histories: the same nodes, kept
pub record IsKeptRoot (mtu clock : ℕ) (n m : Node (List Note)) : Type 0 where
  pub counted : IsCountedRoot m
  pub lawful : IsLawfulRoot mtu clock m
  pub addresses : addresses m ≡ addresses n
  pub depth : depth m ≡ depth n
  pub count : count_nodes m ≡ count_nodes n

pub booked-kept : (mtu clock : ℕ) (n : Node (List Note)) (w : Worked) → IsCountedRoot n → IsRootTold n w → IsLawfulRoot mtu clock w → IsKeptRoot mtu clock n (booked history n w)
booked-kept mtu clock n w c h l = record {
  counted = (
    subst (λ bs. AreCounted (noted history n.memory w.memory) (beneath_own w.own bs) (held_beneath (booked history n w))) (sym (each-booked history beneath_own n.below w.below h.2))
        (subst (λ hs. AreCounted (noted history n.memory w.memory) (beneath w) (held_own w.own hs)) (sym (each-booked history held_own n.below w.below h.2))
        (counted-noted n.memory w.memory (beneath n) (beneath w) (held_beneath n) (held_beneath w) c.0 h.0)),
    booked-counted n.below w.below c.1 h.2,
  );
  lawful = (subst (IsLawfulOwn mtu clock w.own) (sym (each-booked history beneath_own n.below w.below h.2)) l.0, booked-lawful history mtu clock n.below w.below h.2 l.1);
  addresses = root-booked history addresses_own n w h ∙ root-told addresses_own addresses-look n w h;
  depth = root-booked history (λ own below. suc (greatest below)) n w h ∙ root-told (λ own below. suc (greatest below)) (λ a b xs e. refl) n w h;
  count = root-booked history (λ own below. suc (sum below)) n w h ∙ root-told (λ own below. suc (sum below)) (λ a b xs e. refl) n w h;
}

-- a whole tree after such a step, where its device was told what became of the packets
pub worked-kept : (clock now : ℕ) (s : TreeState (List Note)) (notes : List Note) (w : Worked) → IsKeptTree clock s → now ≤ 2 ^ 62 → IsRootTold s.root w → IsLawfulRoot s.device.mtu now w
    → IsTold notes (beneath s.root) (beneath w) (held_beneath s.root) (held_beneath w) → IsKeptTree now (with_work history notes w s)
worked-kept clock now s notes w h low told lawful top =
    let root = booked-kept s.device.mtu now s.root w h.counted told lawful in
    record {
      moment = low;
      least_mtu = h.least_mtu;
      most_mtu = h.most_mtu;
      top = subst (λ ps. AreCounted (noted history s.top notes) ps (held_beneath (booked history s.root w))) (sym (root-booked history beneath_own s.root w told))
          (subst (λ ps. AreCounted (noted history s.top notes) (beneath w) ps) (sym (root-booked history held_own s.root w told))
          (counted-noted s.top notes (beneath s.root) (beneath w) (held_beneath s.root) (held_beneath w) h.top top));
      counted = root.counted;
      lawful = root.lawful;
      handles = subst (λ (xs : List Address). AllPairs (λ (a b : Address). (a.handle ≡ b.handle) → ⊥) xs) (sym root.addresses) h.handles;
      levels = omega (arith, h.levels, root.depth);
      few = omega (arith, h.few, root.count);
    }

-- a poll
module _ (clock now : ℕ) (s : TreeState (List Note)) (h : IsKeptTree clock s) (later : clock ≤ now) (low : now ≤ 2 ^ 62) where
  abbrev asked_root : Asked
  asked_root = ask now (shape s.root)

  answer : IsAnswer s.device.mtu now asked_root
  answer = ask-answers s.device.mtu now h.least_mtu low (shape s.root) (lawful-with_memory s.device.mtu now (λ m. tt) s.root (root-later clock now later s.device.mtu s.root h.lawful))

  told : (w : Worked) → IsRootTold asked_root.before w → IsRootTold s.root w
  told w t = root-memory (λ m. tt) s.root w (root-memory (λ u. []) (shape s.root) w (subst (λ (n : Worked). IsRootTold n w) (before-root now (shape s.root)) t))

  waiting-before : beneath asked_root.before ≡ beneath s.root
  waiting-before =
      ap beneath (before-root now (shape s.root)) ∙ ap (beneath_own s.root.own)
      (each-each_memory beneath_own (λ u. []) (each_memory (λ m. tt) s.root.below) ∙ each-each_memory beneath_own (λ m. tt) s.root.below)

  holds-before : held_beneath asked_root.before ≡ held_beneath s.root
  holds-before =
      ap held_beneath (before-root now (shape s.root)) ∙ ap (held_own s.root.own)
      (each-each_memory held_own (λ u. []) (each_memory (λ m. tt) s.root.below) ∙ each-each_memory held_own (λ m. tt) s.root.below)

  -- what a peek leaves
  pub peek-kept : IsKeptTree now (peek_packet history now s)
  peek-kept = worked-kept clock now s asked_root.rises asked_root.peeked h low (told asked_root.peeked answer.told_peeked) answer.lawful_peeked (record {
    conserved = λ w. omega (arith, answer.peeks w, ap (weigh w) waiting-before, answer.quiet.no_arrival w, answer.quiet.nothing_sent w);
    marks = λ w. omega (arith, answer.marks w, ap (weigh w) holds-before, answer.quiet.all_dropped w);
  })

  -- what a take leaves, with a packet that is given, or with none
  polled : (o : Option Descriptor) → asked_root.shown ≡ o
      → IsKeptTree now (with_work history (asked_root.rises ++ map Sent (option_to_list o)) (if is_some o then asked_root.taken else asked_root.peeked) s)
  polled None e = subst (λ (notes : List Note). IsKeptTree now (with_work history notes asked_root.peeked s)) (sym (append-nil asked_root.rises)) peek-kept
  polled (Some p) e =
      let sent : List Note = map Sent (option_to_list (Some p)) in
      let shown : (w : Descriptor → ℕ) → weigh w (option_to_list asked_root.shown) ≡ weigh w (option_to_list (Some p)) = λ w. ap (λ (o : Option Descriptor). weigh w (option_to_list o)) e in
      worked-kept clock now s (asked_root.rises ++ sent) asked_root.taken h low (told asked_root.taken answer.told_taken) answer.lawful_taken (record {
        conserved = λ w. omega (
          arith,
          answer.peeks w,
          answer.gives w,
          shown w,
          ap (weigh w) waiting-before,
          answer.quiet.no_arrival w,
          answer.quiet.nothing_sent w,
          arrived-append w asked_root.rises sent,
          sent-append w asked_root.rises sent,
          lost-append w asked_root.rises sent,
          arrived-given w (Some p),
          sent-given w (Some p),
          lost-given w (Some p),
        );
        marks = λ w. omega (
          arith,
          answer.marks w,
          answer.marks_given w,
          shown w,
          ap (weigh w) holds-before,
          answer.quiet.all_dropped w,
          marked-append w asked_root.rises sent,
          sent-append w asked_root.rises sent,
          dropped-append w asked_root.rises sent,
          marked-given w (Some p),
          sent-given w (Some p),
          dropped-given w (Some p),
        );
      })

  pub take-kept : IsKeptTree now (take_packet history now s)
  take-kept = polled asked_root.shown refl

  -- what the poll hands up
  pub ask-quiet : IsQuiet asked_root.rises
  ask-quiet = answer.quiet
