use Rattle.std.proofs.Common.{◌≡◌, ◌≢◌, ℕ, ◌+◌, ◌-◌, ◌<◌, ◌≤◌, ◌==◌, ◌&&◌, min, nat_le, Bool, true, false, length, ⊎_elim, List, [], ◌∷◌, take, sym, ap, ap₂, ◌∙◌, arith, subst, length-append}
use Rattle.std.proofs.lemmas.Bool.{cases_eq, eq-eqb, ne_eqb, lt-leb, and_right}
use Rattle.q_packet.specs.Totals.{count}
use Rattle.q_packet.specs.Descriptor.{Descriptor}
use Rattle.q_packet.specs.declared.stamped.Stamped.{Stamped}
use Rattle.q_packet.specs.declared.cause.Cause.TheVariants.{FatFlow}
use Rattle.q_codel.specs.Losses.{AreLost}
use Rattle.q_fqcodel.specs.Cleared.{adjust}
use Rattle.q_fqcodel.specs.FqState.{Flow, queue_of, packets_of}
use Rattle.q_fqcodel.specs.Pool.{stamp}
use Rattle.q_fqcodel.specs.Put.{joined, fattest, shed_count, shortened}
use Rattle.q_fqcodel.proofs.FlowLemmas.{packets_at}
use Rattle.q_fqcodel.proofs.PutLemmas.{own_queue, own_some, other_queue, packets_of-joined, shed_within}
use Rattle.q_fqcodel.proofs.flows.Flows.push_over.Goals as goal
use Rattle.q_fqcodel.proofs.flows.Flows.push_over.Goals.{After-fattest_with-fat, After-sheds_one, After-min-lost}

-- the flows once the packet has joined
abbrev fuller : (g : _) → After-fattest_with-fat g → List Flow
fuller g c = adjust (joined (stamp c.args.packet.now c.args.now)) c.args.flow c.args.self.now.flows

fat_is : (g : _) (c : After-fattest_with-fat g) → c.fattest_with-fat.result ≡ fattest (fuller g c)
fat_is g c = c.fattest_with-fat.ensures.value (stamp c.args.packet.now c.args.now) (sym (ap (λ (p : Descriptor). p.len) c.packet.view_is))

more : (g : _) (c : After-fattest_with-fat g) → packets_of (fuller g c) ≡ packets_of c.args.self.now.flows + 1
more g c = packets_of-joined (stamp c.args.packet.now c.args.now) c.args.flow c.args.self.now.flows c.requires.in_range

-- ---- a batch of one, of a flow that had a packet

one_shed : (flows : List Flow) (s : Stamped) (n fat batch : ℕ) → n < length flows → fat ≡ fattest (adjust (joined s) n flows) → 0 < count (queue_of flows fat) → batch ≡ 1
    → shed_count (adjust (joined s) n flows) batch ≡ 1
unfolding shed_count
one_shed flows s n fat batch within is some one =
    let a : List Flow = adjust (joined s) n flows in
    let has : 1 ≤ count (queue_of a fat) = ⊎_elim
    (λ (e : fat ≡ n). omega (arith, ap (λ (m : ℕ). count (queue_of a m)) e, own_some s n flows within))
    (λ (ne : fat ≢ n). omega (arith, some, ap count (other_queue (joined s) n fat flows ne)))
    (cases_eq fat n) in
    omega (arith, has, ap (λ (m : ℕ). count (queue_of a m)) is, packets_of-joined s n flows within, packets_at fat flows, some, one)

one_is : (g : _) (c : After-sheds_one g) → c.sheds_one.result ≡ true → shed_count (adjust (joined (stamp c.args.packet.now c.args.now)) c.args.flow c.args.self.now.flows) c.args.batch ≡ 1
one_is g c single =
    one_shed c.args.self.now.flows (stamp c.args.packet.now c.args.now) c.args.flow c.fattest_with-fat.result c.args.batch c.requires.in_range
    (c.fattest_with-fat.ensures.value (stamp c.args.packet.now c.args.now) (sym (ap (λ (p : Descriptor). p.len) c.packet.view_is))) (c.sheds_one.ensures.held single) (c.sheds_one.ensures.one single)

pub swap-requires-clause-room : goal.swap-requires-clause-room
swap-requires-clause-room g c = omega (arith, one_is g (goal.at.swap-requires-clause-room g c).After-sheds_one c.if-sheds_one.true, c.requires.room)

-- what a flow has that was not empty is more than one
answer_one : (flows : List Flow) (s : Stamped) (n fat lost : ℕ) → n < length flows → fat ≡ fattest (adjust (joined s) n flows) → 0 < count (queue_of flows fat) → lost ≡ 1
    → ((fattest (adjust (joined s) n flows) == n) && nat_le (count (queue_of (adjust (joined s) n flows) n)) lost) ≡ false
answer_one flows s n fat lost within is some one =
    let a : List Flow = adjust (joined s) n flows in
    ⊎_elim
    (λ (e : fat ≡ n).
    let two : lost < count (queue_of a n) =
    omega (arith, one, some, ap (λ (m : ℕ). count (queue_of flows m)) e, ap count (own_queue s n flows within), length-append (queue_of flows n) (s ∷ [])) in
    and_right (fattest a == n) (nat_le (count (queue_of a n)) lost) (lt-leb (count (queue_of a n)) lost two))
    (λ (ne : fat ≢ n). ap (λ (t : Bool). t && nat_le (count (queue_of a n)) lost) (ne_eqb (fattest a) n (λ e. ne (is ∙ e))))
    (cases_eq fat n)

pub returns-then-sheds_one-clause-answer : goal.returns-then-sheds_one-clause-answer
returns-then-sheds_one-clause-answer g c =
    let d = (goal.at.returns-then-sheds_one-clause-answer g c).After-sheds_one in
    let e = (goal.at.returns-then-sheds_one-clause-answer g c).After-fattest_with-fat in
    sym (answer_one c.args.self.now.flows (stamp c.args.packet.now c.args.now) c.args.flow c.fattest_with-fat.result _ c.requires.in_range
    (fat_is g e) (c.sheds_one.ensures.held c.if-sheds_one.true) (one_is g d c.if-sheds_one.true))

pub returns-then-sheds_one-clause-flows : goal.returns-then-sheds_one-clause-flows
returns-then-sheds_one-clause-flows g c =
    let d = (goal.at.returns-then-sheds_one-clause-flows g c).After-sheds_one in
    let e = (goal.at.returns-then-sheds_one-clause-flows g c).After-fattest_with-fat in
    let a : List Flow = adjust (joined (stamp c.args.packet.now c.args.now)) c.args.flow c.args.self.now.flows in
    c.swap.ensures.flows ∙ ap₂ (λ (l m : ℕ). adjust (shortened l) m a) (sym (one_is g d c.if-sheds_one.true)) (fat_is g e)

pub returns-then-sheds_one-clause-lost : goal.returns-then-sheds_one-clause-lost
returns-then-sheds_one-clause-lost g c =
    let d = (goal.at.returns-then-sheds_one-clause-lost g c).After-sheds_one in
    let e = (goal.at.returns-then-sheds_one-clause-lost g c).After-fattest_with-fat in
    let a : List Flow = adjust (joined (stamp c.args.packet.now c.args.now)) c.args.flow c.args.self.now.flows in
    subst (λ (q : List Stamped). AreLost FatFlow q (g.S.Sink.state c.args.sink.now) (g.S.Sink.state c.swap.new.sink))
    (ap₂ (λ (l m : ℕ). take l (queue_of a m)) (sym (one_is g d c.if-sheds_one.true)) (fat_is g e)) c.swap.ensures.lost

-- ---- another flow is the fat one

pub shed_count-lost-requires-clause-some : goal.shed_count-lost-requires-clause-some
shed_count-lost-requires-clause-some g c =
    let d = (goal.at.shed_count-lost-requires-clause-some g c).After-fattest_with-fat in
    omega (arith, ap packets_of c.push.ensures.flows, more g d)

pub lose-requires-clause-held : goal.lose-requires-clause-held
lose-requires-clause-held g c =
    let d = (goal.at.lose-requires-clause-held g c).After-fattest_with-fat in
    let fat : c.fattest_with-fat.result ≡ fattest c.push.new.self.flows = fat_is g d ∙ ap fattest (sym c.push.ensures.flows) in
    omega (arith, c.shed_count-lost.ensures, shed_within c.push.new.self.flows c.args.batch, ap (λ (n : ℕ). count (queue_of c.push.new.self.flows n)) fat)

-- ---- the packet's own flow is

pub overflow_add-held : goal.overflow_add-held
overflow_add-held g c = omega (arith, c.count_of-held.ensures, packets_at c.args.flow c.args.self.now.flows, c.requires.few)

own_fat : (g : _) (c : After-min-lost g) → c.args.flow ≡ fattest (adjust (joined (stamp c.args.packet.now c.args.now)) c.args.flow c.args.self.now.flows)
own_fat g c = sym c.if-fat-flow.false ∙ c.fattest_with-fat.ensures.value (stamp c.args.packet.now c.args.now) (sym (ap (λ (p : Descriptor). p.len) c.packet.view_is))

held_is : (g : _) (c : After-min-lost g) → c.count_of-held.result + 1 ≡ count (queue_of (adjust (joined (stamp c.args.packet.now c.args.now)) c.args.flow c.args.self.now.flows) c.args.flow)
held_is g c =
    let flows : List Flow = c.args.self.now.flows in
    omega (
      arith,
      c.count_of-held.ensures,
      ap count (own_queue (stamp c.args.packet.now c.args.now) c.args.flow flows c.requires.in_range),
      length-append (queue_of flows c.args.flow) ((stamp c.args.packet.now c.args.now) ∷ []),
    )

lost_is : (g : _) (c : After-min-lost g) → c.min-lost.result ≡ shed_count (adjust (joined (stamp c.args.packet.now c.args.now)) c.args.flow c.args.self.now.flows) c.args.batch
unfolding shed_count
lost_is g c =
    let a : List Flow = adjust (joined (stamp c.args.packet.now c.args.now)) c.args.flow c.args.self.now.flows in
    let packets : c.count.result ≡ packets_of a - 1 = omega (arith, c.count.ensures, packets_of-joined (stamp c.args.packet.now c.args.now) c.args.flow c.args.self.now.flows c.requires.in_range) in
    c.min-lost.ensures
    ∙ ap (λ (n : ℕ). min n c.args.batch) (c.min-most.ensures ∙ ap₂ (λ (m n : ℕ). min m n) (held_is g c ∙ ap (λ (n : ℕ). count (queue_of a n)) (own_fat g c)) packets)

pub exchange-requires-clause-held : goal.exchange-requires-clause-held
exchange-requires-clause-held g c = omega (arith, c.min-lost.ensures, c.min-most.ensures, held_is g (goal.at.exchange-requires-clause-held g c).After-min-lost)

pub exchange-requires-clause-room : goal.exchange-requires-clause-room
exchange-requires-clause-room g c = omega (arith, lost_is g (goal.at.exchange-requires-clause-room g c).After-min-lost, c.requires.room)

pub returns-clause-answer : goal.returns-clause-answer
returns-clause-answer g c =
    let d = (goal.at.returns-clause-answer g c).After-min-lost in
    let a : List Flow = adjust (joined (stamp c.args.packet.now c.args.now)) c.args.flow c.args.self.now.flows in
    ap₂ (λ (m n : ℕ). nat_le m n) (held_is g d) (lost_is g d)
    ∙ sym (ap (λ (t : Bool). t && nat_le (count (queue_of a c.args.flow)) (shed_count a c.args.batch)) (eq-eqb (fattest a) c.args.flow (sym (own_fat g d))))

pub returns-clause-flows : goal.returns-clause-flows
returns-clause-flows g c =
    let d = (goal.at.returns-clause-flows g c).After-min-lost in
    let a : List Flow = adjust (joined (stamp c.args.packet.now c.args.now)) c.args.flow c.args.self.now.flows in
    c.exchange.ensures.flows ∙ ap₂ (λ (l m : ℕ). adjust (shortened l) m a) (lost_is g d) (own_fat g d)

pub returns-clause-lost : goal.returns-clause-lost
returns-clause-lost g c =
    let d = (goal.at.returns-clause-lost g c).After-min-lost in
    let a : List Flow = adjust (joined (stamp c.args.packet.now c.args.now)) c.args.flow c.args.self.now.flows in
    subst (λ (q : List Stamped). AreLost FatFlow q (g.S.Sink.state c.args.sink.now) (g.S.Sink.state c.exchange.new.sink))
    (ap₂ (λ (l m : ℕ). take l (queue_of a m)) (lost_is g d) (own_fat g d)) c.exchange.ensures.lost
