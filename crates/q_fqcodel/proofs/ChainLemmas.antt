-- The packets of a flow as linked nodes: what keeps them, one more at the end, and the first taken out.
use Rattle.std.proofs.Common.{◌≡◌, ◌≢◌, ℕ, zero, suc, ◌+◌, ◌*◌, ◌%◌, ◌<◌, ◌≤◌, List, [], ◌∷◌, ◌++◌, Option, Some, None, refl, sym, ap, ◌∙◌, arith, subst}
use Rattle.std.specs.Prelude.{◌-◌, ◌^◌}
use Rattle.q_packet.specs.Totals.{count, size}
use Rattle.q_packet.specs.declared.stamped.Stamped.{Stamped}
use Rattle.q_packet.proofs.TotalsLemmas.{size-cons, size_push}
use Rattle.q_fqcodel.specs.Chain.{stamped_of, packets, led_to, queue_in, IsNode, IsList, KeepsOthers}
use Rattle.q_fqcodel.specs.Linked.{chain, IsChain, IsAppended}
use Rattle.q_fqcodel.specs.declared.node.Node.{Node}
use Rattle.q_fqcodel.specs.declared.flow_list.FlowList.{FlowList}
use Rattle.q_fqcodel.proofs.LinkedLemmas.{chain_none, chain_more, kept, kept_items, tail_of, Leads, taken_key, alone, alone_items, longer, longer_items, first_own, shorter, shorter_items}

-- so many packets of a flow
abbrev Linked : (ℕ → Option Node) → ℕ → ℕ → ℕ → ℕ → ℕ → Type 0
Linked at w f t n k = IsChain packets (IsNode w f) at t n k

leading : (w f : ℕ) → Leads packets (IsNode w f) led_to
leading w f = record {
  next = λ k x. refl;
  item = λ j k x. refl;
  mine = λ k x o. record { own = o.own; low = o.low; high = o.high };
}

-- a change to nodes of one flow alone
pub others_kept : (w f : ℕ) (at at2 : ℕ → Option Node) → ((j : ℕ) (x : Node) → at j ≡ Some x → x.packet.hash % w ≢ f → at2 j ≡ at j) → KeepsOthers w f at at2
unfolding IsChain
others_kept w f at at2 same =
    let stays : (g t m j : ℕ) → g ≢ f → Linked at w g t (suc m) j → at2 j ≡ at j = λ g t m j ne c. found g t m j ne c in
    record {
      linked = λ g l ne a. record {
        linked = kept packets (IsNode w g) at at2 l.tail l.count l.head a.linked (λ m j less c. stays g l.tail m j ne c);
        bytes = a.bytes ∙ ap size (sym (kept_items packets (IsNode w g) at at2 l.tail l.count l.head a.linked (λ m j less c. stays g l.tail m j ne c)));
      };
      same = λ g l ne a. kept_items packets (IsNode w g) at at2 l.tail l.count l.head a.linked (λ m j less c. stays g l.tail m j ne c);
    }
  where
    found : (g t m j : ℕ) → g ≢ f → Linked at w g t (suc m) j → at2 j ≡ at j
    found g t m j ne c = same j c.0 c.1 (λ e. ne (sym c.2.own ∙ e))

-- how many packets, and at most and at least how many bytes
pub counted : (at : ℕ → Option Node) (w f t n k : ℕ) → Linked at w f t n k → count (chain packets at n k) ≡ n
unfolding IsChain
counted at w f t zero k a = ap count (chain_none packets at k)
counted at w f t (suc n) k a = ap count (chain_more packets at n k a.0 a.1) ∙ ap suc (counted at w f t n a.0.next a.4)

pub few_bytes : (at : ℕ → Option Node) (w f t n k : ℕ) → Linked at w f t n k → size (chain packets at n k) ≤ 65535 * n
unfolding IsChain
few_bytes at w f t zero k a = omega (arith, ap size (chain_none packets at k))
few_bytes at w f t (suc n) k a =
    let x : Node = a.0 in
    omega (arith, ap size (chain_more packets at n k x a.1), size-cons (stamped_of x) (chain packets at n x.next), few_bytes at w f t n x.next a.4, a.2.high)

pub enough_bytes : (at : ℕ → Option Node) (w f t n k : ℕ) → Linked at w f t n k → n ≤ size (chain packets at n k)
unfolding IsChain
enough_bytes at w f t zero k a = omega arith
enough_bytes at w f t (suc n) k a =
    let x : Node = a.0 in
    omega (arith, ap size (chain_more packets at n k x a.1), size-cons (stamped_of x) (chain packets at n x.next), enough_bytes at w f t n x.next a.4, a.2.low)

-- ---- the list of a flow

suc_of : (l : FlowList) → l.count ≢ 0 → l.count ≡ suc (l.count - 1)
suc_of l some = omega (arith, some)

-- the last packet of a list
pub tail_there : (at : ℕ → Option Node) (w f : ℕ) (l : FlowList) → IsList at w f l → l.count ≢ 0 → (x : Node) × (at l.tail ≡ Some x) × IsNode w f x
tail_there at w f l linked some = tail_of packets (IsNode w f) at l.tail (l.count - 1) l.head (subst (λ (n : ℕ). Linked at w f l.tail n l.head) (suc_of l some) linked.linked)

module _ (at at2 : ℕ → Option Node) (w f : ℕ) (l : FlowList) (key : ℕ) (new : Node) (own : IsNode w f new) (linked : IsList at w f l) where
  -- the tail is of the flow itself
  append_keeps : (tail : ℕ) → IsAppended led_to at at2 tail key new → ((x : Node) → at tail ≡ Some x → x.packet.hash % w ≡ f) → KeepsOthers w f at at2
  append_keeps tail h tail_own = others_kept w f at at2 (λ j x e ne.
      h.same j (λ p. ne (tail_own x (ap at (sym p) ∙ e))) (taken_key packets (IsNode w f) led_to (leading w f) at at2 tail key new own h j x e))

  -- the first packet of all
  pub first_queue : l.count ≡ 0 → IsAppended led_to at at2 key key new → chain packets at2 1 key ≡ queue_in at l ++ stamped_of new ∷ []
  first_queue none h =
      alone_items packets (IsNode w f) led_to (leading w f) at at2 key key new own h
      ∙ ap (λ (q : List Stamped). q ++ stamped_of new ∷ []) (sym (ap (λ (n : ℕ). chain packets at n l.head) none ∙ chain_none packets at l.head))

  pub first_bytes : l.count ≡ 0 → l.bytes ≡ 0
  first_bytes none = linked.bytes ∙ ap size (ap (λ (n : ℕ). chain packets at n l.head) none ∙ chain_none packets at l.head)

  pub first_list : (bytes : ℕ) → bytes ≡ new.packet.len → IsAppended led_to at at2 key key new → IsList at2 w f (record { head = key; tail = key; count = 1; bytes = bytes })
  first_list bytes e h = record {
    linked = alone packets (IsNode w f) led_to (leading w f) at at2 key key new own h;
    bytes = e ∙ sym (ap size (alone_items packets (IsNode w f) led_to (leading w f) at at2 key key new own h) ∙ size_one (stamped_of new));
  }
    where
      size_one : (s : Stamped) → size (s ∷ []) ≡ s.packet.len
      size_one s = omega (arith, size-cons s [])

  pub first_keeps : IsAppended led_to at at2 key key new → KeepsOthers w f at at2
  first_keeps h = append_keeps key h (λ x e. let p : Some x ≡ None = sym e ∙ h.vacant in absurd cc)

  -- one behind those that are there
  pub next_queue : l.count ≢ 0 → IsAppended led_to at at2 l.tail key new → chain packets at2 (l.count + 1) l.head ≡ queue_in at l ++ stamped_of new ∷ []
  next_queue some h =
      let e : l.count ≡ suc (l.count - 1) = suc_of l some in
      let e2 : l.count + 1 ≡ suc (suc (l.count - 1)) = omega (arith, some) in
      ap (λ (n : ℕ). chain packets at2 n l.head) e2
      ∙ longer_items packets (IsNode w f) led_to (leading w f) at at2 l.tail key new own h (l.count - 1) l.head (subst (λ (n : ℕ). Linked at w f l.tail n l.head) e linked.linked)
      ∙ ap (λ (n : ℕ). chain packets at n l.head ++ stamped_of new ∷ []) (sym e)

  pub next_list : (bytes : ℕ) → bytes ≡ l.bytes + new.packet.len → l.count ≢ 0 → IsAppended led_to at at2 l.tail key new
      → IsList at2 w f (record { head = l.head; tail = key; count = l.count + 1; bytes = bytes })
  next_list bytes more some h =
      let e : l.count ≡ suc (l.count - 1) = suc_of l some in
      let e2 : suc (suc (l.count - 1)) ≡ l.count + 1 = omega (arith, some) in
      record {
        linked = subst (λ (n : ℕ). Linked at2 w f key n l.head) e2
            (longer packets (IsNode w f) led_to (leading w f) at at2 l.tail key new own h (l.count - 1) l.head (subst (λ (n : ℕ). Linked at w f l.tail n l.head) e linked.linked));
        bytes = omega (arith, more, linked.bytes, ap size (next_queue some h), size_push (queue_in at l) (stamped_of new));
      }

  pub next_keeps : l.count ≢ 0 → IsAppended led_to at at2 l.tail key new → KeepsOthers w f at at2
  next_keeps some h =
      let t = tail_there at w f l linked some in
      append_keeps l.tail h
      (λ x e. let p : Some t.0 ≡ Some x = sym t.1 ∙ e in let q : t.0 ≡ x = cc in ap (λ (v : Node). v.packet.hash % w) (sym q) ∙ t.2.own)

-- ---- a packet in a node that had none

pub claimed_first : (at at1 : ℕ → Option Node) (key : ℕ) (new : Node) → at key ≡ None → at1 key ≡ Some new → ((j : ℕ) → j ≢ key → at1 j ≡ at j) → IsAppended led_to at at1 key key new
claimed_first at at1 key new vacant stored same = record {
  vacant = vacant;
  stored = stored;
  led = λ x e. let p : Some x ≡ None = sym e ∙ vacant in absurd cc;
  same = λ j _ away. same j away;
}

pub claimed_apart : (at : ℕ → Option Node) (tail key : ℕ) (x : Node) → at key ≡ None → at tail ≡ Some x → tail ≢ key
claimed_apart at tail key x vacant there e = let p : Some x ≡ None = sym there ∙ ap at e ∙ vacant in absurd cc

pub claimed_next : (at at1 at2 : ℕ → Option Node) (tail key : ℕ) (new x : Node) → at key ≡ None → at1 key ≡ Some new → ((j : ℕ) → j ≢ key → at1 j ≡ at j) → at tail ≡ Some x
    → ((z : Node) → at1 tail ≡ Some z → at2 tail ≡ Some (led_to key z)) → ((j : ℕ) → j ≢ tail → at2 j ≡ at1 j) → IsAppended led_to at at2 tail key new
claimed_next at at1 at2 tail key new x vacant stored same there led same2 =
    let apart : tail ≢ key = claimed_apart at tail key x vacant there in
    record {
      vacant = vacant;
      stored = same2 key (λ e. apart (sym e)) ∙ stored;
      led = λ z e. led z (same tail apart ∙ e);
      same = λ j a b. same2 j a ∙ same j b;
    }

-- the node of a packet of its flow
pub node_of : (w : ℕ) (x : Node) (s : Stamped) → stamped_of x ≡ s → 1 ≤ s.packet.len → s.packet.len < 2 ^ 16 → IsNode w (s.packet.hash % w) x
node_of w x s is low high = record {
  own = ap (λ (t : Stamped). t.packet.hash % w) is;
  low = omega (arith, low, ap (λ (t : Stamped). t.packet.len) is);
  high = omega (arith, high, ap (λ (t : Stamped). t.packet.len) is);
}

-- ---- the first of a list is taken

cut : (at : ℕ → Option Node) (w f : ℕ) (l : FlowList) → IsList at w f l → 0 < l.count → Linked at w f l.tail (suc (l.count - 1)) l.head
cut at w f l linked some =
    let e : l.count ≡ suc (l.count - 1) = omega (arith, some) in
    subst (λ (n : ℕ). Linked at w f l.tail n l.head) e linked.linked

pub head_there : (at : ℕ → Option Node) (w f : ℕ) (l : FlowList) → IsList at w f l → 0 < l.count → (x : Node) × (at l.head ≡ Some x)
unfolding IsChain
head_there at w f l linked some = let a = cut at w f l linked some in (a.0, a.1)

module _ (at at2 : ℕ → Option Node) (w f : ℕ) (l : FlowList) (x : Node) (linked : IsList at w f l) (some : 0 < l.count) (read : at l.head ≡ Some x) (same : (j : ℕ) → j ≢ l.head → at2 j ≡ at j) where
  pub rest_queue : queue_in at l ≡ stamped_of x ∷ chain packets at2 (l.count - 1) x.next
  rest_queue =
      let e : l.count ≡ suc (l.count - 1) = omega (arith, some) in
      ap (λ (n : ℕ). chain packets at n l.head) e
      ∙ shorter_items packets (IsNode w f) at at2 l.tail (l.count - 1) l.head x (cut at w f l linked some) read same

  pub rest_bytes : l.bytes ≡ x.packet.len + size (chain packets at2 (l.count - 1) x.next)
  rest_bytes = linked.bytes ∙ ap size rest_queue ∙ size-cons (stamped_of x) (chain packets at2 (l.count - 1) x.next)

  pub rest_list : (bytes : ℕ) → bytes ≡ l.bytes - x.packet.len → IsList at2 w f (record { head = x.next; tail = l.tail; count = l.count - 1; bytes = bytes })
  rest_list bytes e = record {
    linked = shorter packets (IsNode w f) at at2 l.tail (l.count - 1) l.head x (cut at w f l linked some) read same;
    bytes = omega (arith, e, rest_bytes);
  }

  pub rest_keeps : KeepsOthers w f at at2
  rest_keeps =
      let mine = first_own packets (IsNode w f) at at2 l.tail (l.count - 1) l.head x (cut at w f l linked some) read same in
      others_kept w f at at2 (λ j y e ne. same j (λ (p : j ≡ l.head).
      let q : Some y ≡ Some x = sym e ∙ ap at p ∙ read in
      let z : y ≡ x = cc in
      ne (ap (λ (v : Node). v.packet.hash % w) z ∙ mine.own)))

pub first_packet : (at : ℕ → Option Node) (l : FlowList) (x : Node) → 0 < l.count → at l.head ≡ Some x → queue_in at l ≡ stamped_of x ∷ chain packets at (l.count - 1) x.next
first_packet at l x some read =
    let e : l.count ≡ suc (l.count - 1) = omega (arith, some) in
    ap (λ (n : ℕ). chain packets at n l.head) e ∙ chain_more packets at (l.count - 1) l.head x read
