use Rattle.std.proofs.Common.{◌≡◌, ℕ, ◌+◌, ◌%◌, List, [], ◌∷◌, ◌++◌, Option, Some, IsSome, IfSome, refl, sym, ap, ◌∙◌, arith, subst}
use Rattle.q_packet.specs.Descriptor.{Descriptor}
use Rattle.q_packet.specs.declared.stamped.Stamped.{Stamped}
use Rattle.q_fqcodel.specs.Chain.{queue_in, stamped_of, led_to, IsNode}
use Rattle.q_fqcodel.specs.Linked.{IsAppended}
use Rattle.q_fqcodel.specs.Nodes.{used}
use Rattle.q_fqcodel.specs.declared.node.Node.{Node}
use Rattle.q_fqcodel.proofs.ChainLemmas.{first_queue, first_bytes, first_list, first_keeps, tail_there, next_queue, next_list, next_keeps, claimed_first, claimed_apart, claimed_next, node_of, few_bytes}
use Rattle.q_fqcodel.proofs.NodesLemmas.{some_of}
use Rattle.q_fqcodel.proofs.chain.append.Goals as goal
use Rattle.q_fqcodel.proofs.chain.append.Goals.{After-claim-key, After-link}

abbrev stamped : After-claim-key → Stamped
stamped c = record { packet = c.args.packet.now; at = c.args.now }

-- the node that has the packet now
abbrev node : After-claim-key → Node
node c = (some_of (used c.claim-key.new.self c.claim-key.result) c.claim-key.ensures.there).0

stored : (c : After-claim-key) → used c.claim-key.new.self c.claim-key.result ≡ Some (node c)
stored c = (some_of (used c.claim-key.new.self c.claim-key.result) c.claim-key.ensures.there).1

holds : (c : After-claim-key) → stamped_of (node c) ≡ stamped c
holds c = subst (λ (o : Option Node). IfSome o (λ x. stamped_of x ≡ stamped c)) (stored c) c.claim-key.ensures.stored

len : (c : After-claim-key) → c.packet.inside.stored.len ≡ c.args.packet.now.len
len c = ap (λ (p : Descriptor). p.len) c.packet.view_is

own : (c : After-claim-key) (w : ℕ) → IsNode w (c.args.packet.now.hash % w) (node c)
own c w = node_of w (node c) (stamped c) (holds c) (omega (arith, len c, c.packet.invariant.len)) (omega (arith, len c))

more : (c : After-claim-key) (q : List Stamped) → q ++ stamped_of (node c) ∷ [] ≡ q ++ stamped c ∷ []
more c q = ap (λ (s : Stamped). q ++ s ∷ []) (holds c)

heavier : (c : After-claim-key) → c.packet.inside.stored.len ≡ (node c).packet.len
heavier c = len c ∙ sym (ap (λ (s : Stamped). s.packet.len) (holds c))

-- ---- the first packet

added1 : (c : After-claim-key) → IsAppended led_to (used c.args.nodes.now) (used c.claim-key.new.self) c.claim-key.result c.claim-key.result (node c)
added1 c = claimed_first (used c.args.nodes.now) (used c.claim-key.new.self) c.claim-key.result (node c) c.claim-key.ensures.vacant (stored c) c.claim-key.ensures.same

pub returns-then-list-eq0-clause-queue : goal.returns-then-list-eq0-clause-queue
returns-then-list-eq0-clause-queue c =
    let d = (goal.at.returns-then-list-eq0-clause-queue c).After-claim-key in
    let w = c.requires.linked.0 in
    first_queue (used c.args.nodes.now) (used c.claim-key.new.self) w _ c.args.list c.claim-key.result (node d) (own d w) c.requires.linked.1 c.if-list-eq0.true (added1 d)
    ∙ more d (queue_in (used c.args.nodes.now) c.args.list)

pub returns-then-list-eq0-clause-linked : goal.returns-then-list-eq0-clause-linked
returns-then-list-eq0-clause-linked c w linked =
    let d = (goal.at.returns-then-list-eq0-clause-linked c).After-claim-key in
    first_list (used c.args.nodes.now) (used c.claim-key.new.self) w _ c.args.list c.claim-key.result (node d) (own d w) linked _ (heavier d) (added1 d)

pub returns-then-list-eq0-clause-others : goal.returns-then-list-eq0-clause-others
returns-then-list-eq0-clause-others c w linked =
    let d = (goal.at.returns-then-list-eq0-clause-others c).After-claim-key in
    first_keeps (used c.args.nodes.now) (used c.claim-key.new.self) w _ c.args.list c.claim-key.result (node d) (own d w) linked (added1 d)

pub returns-then-list-eq0-clause-bytes : goal.returns-then-list-eq0-clause-bytes
returns-then-list-eq0-clause-bytes c =
    let d = (goal.at.returns-then-list-eq0-clause-bytes c).After-claim-key in
    let w = c.requires.linked.0 in
    omega (arith, len d, first_bytes (used c.args.nodes.now) (used c.claim-key.new.self) w _ c.args.list c.claim-key.result (node d) (own d w) c.requires.linked.1 c.if-list-eq0.true)

-- ---- one behind others

pub link-requires : goal.link-requires
link-requires c =
    let x = tail_there (used c.args.nodes.now) c.requires.linked.0 _ c.args.list c.requires.linked.1 c.if-list-eq0.false in
    let apart = claimed_apart (used c.args.nodes.now) c.args.list.tail c.claim-key.result x.0 c.claim-key.ensures.vacant x.1 in
    subst (λ (o : Option Node). IsSome o) (sym (c.claim-key.ensures.same c.args.list.tail apart ∙ x.1)) refl

abbrev stamped_led : After-link → Stamped
stamped_led c = record { packet = c.args.packet.now; at = c.args.now }

-- the node_led that has the packet now
abbrev node_led : After-link → Node
node_led c = (some_of (used c.claim-key.new.self c.claim-key.result) c.claim-key.ensures.there).0

stored_led : (c : After-link) → used c.claim-key.new.self c.claim-key.result ≡ Some (node_led c)
stored_led c = (some_of (used c.claim-key.new.self c.claim-key.result) c.claim-key.ensures.there).1

holds_led : (c : After-link) → stamped_of (node_led c) ≡ stamped_led c
holds_led c = subst (λ (o : Option Node). IfSome o (λ x. stamped_of x ≡ stamped_led c)) (stored_led c) c.claim-key.ensures.stored

len_led : (c : After-link) → c.packet.inside.stored.len ≡ c.args.packet.now.len
len_led c = ap (λ (p : Descriptor). p.len) c.packet.view_is

own_led : (c : After-link) (w : ℕ) → IsNode w (c.args.packet.now.hash % w) (node_led c)
own_led c w = node_of w (node_led c) (stamped_led c) (holds_led c) (omega (arith, len_led c, c.packet.invariant.len)) (omega (arith, len_led c))

more_led : (c : After-link) (q : List Stamped) → q ++ stamped_of (node_led c) ∷ [] ≡ q ++ stamped_led c ∷ []
more_led c q = ap (λ (s : Stamped). q ++ s ∷ []) (holds_led c)

heavier_led : (c : After-link) → c.packet.inside.stored.len ≡ (node_led c).packet.len
heavier_led c = len_led c ∙ sym (ap (λ (s : Stamped). s.packet.len) (holds_led c))

added : (c : After-link) → IsAppended led_to (used c.args.nodes.now) (used c.link.new.self) c.args.list.tail c.claim-key.result (node_led c)
added c =
    let x = tail_there (used c.args.nodes.now) c.requires.linked.0 _ c.args.list c.requires.linked.1 c.if-list-eq0.false in
    claimed_next (used c.args.nodes.now) (used c.claim-key.new.self) (used c.link.new.self) c.args.list.tail c.claim-key.result (node_led c) x.0
    c.claim-key.ensures.vacant (stored_led c) c.claim-key.ensures.same x.1 c.link.ensures.led c.link.ensures.same

pub overflow_add-result-2 : goal.overflow_add-result-2
overflow_add-result-2 c =
    let bytes = few_bytes (used c.args.nodes.now) c.requires.linked.0 _ c.args.list.tail c.args.list.count c.args.list.head c.requires.linked.1.linked in
    omega (arith, bytes, c.requires.linked.1.bytes, c.requires.few)

pub returns-clause-queue : goal.returns-clause-queue
returns-clause-queue c =
    let e = (goal.at.returns-clause-queue c).After-link in
    let w = c.requires.linked.0 in
    next_queue (used c.args.nodes.now) (used c.link.new.self) w _ c.args.list c.claim-key.result (node_led e) (own_led e w) c.requires.linked.1 c.if-list-eq0.false (added e)
    ∙ more_led e (queue_in (used c.args.nodes.now) c.args.list)

pub returns-clause-linked : goal.returns-clause-linked
returns-clause-linked c w linked =
    let e = (goal.at.returns-clause-linked c).After-link in
    next_list (used c.args.nodes.now) (used c.link.new.self) w _ c.args.list c.claim-key.result (node_led e) (own_led e w) linked _
    (ap (λ (n : ℕ). c.args.list.bytes + n) (heavier_led e)) c.if-list-eq0.false (added e)

pub returns-clause-others : goal.returns-clause-others
returns-clause-others c w linked =
    let e = (goal.at.returns-clause-others c).After-link in
    next_keeps (used c.args.nodes.now) (used c.link.new.self) w _ c.args.list c.claim-key.result (node_led e) (own_led e w) linked c.if-list-eq0.false (added e)
