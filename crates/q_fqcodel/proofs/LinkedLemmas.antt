-- Lists of linked values: what keeps them, one more at the end, the first taken out, and the first written anew.
use Rattle.std.proofs.Common.{◌≡◌, ◌≢◌, ℕ, zero, suc, ◌<◌, List, [], ◌∷◌, ◌++◌, length, Option, Some, None, refl, sym, ap, ap₂, ◌∙◌, arith, subst}
use Rattle.q_fqcodel.specs.Linked.{Form, onwards, chain, IsChain, IsAppended}

module _ {X A : Type 0} (form : Form X A) where
  pub chain_none : (at : ℕ → Option X) (k : ℕ) → chain form at 0 k ≡ []
  unfolding chain
  chain_none at k = refl

  pub chain_more : (at : ℕ → Option X) (n k : ℕ) (x : X) → at k ≡ Some x → chain form at (suc n) k ≡ form.item k x ∷ chain form at n (form.next x)
  unfolding chain
  chain_more at n k x e = ap (onwards form k (chain form at n)) e

module _ {X A : Type 0} (form : Form X A) (own : X → Type 0) where
  -- from one key to one tail there are as many values, whichever way they are counted
  pub same_count : (at : ℕ → Option X) (t n m k : ℕ) → IsChain form own at t (suc n) k → IsChain form own at t (suc m) k → n ≡ m
  unfolding IsChain
  same_count at t zero zero k a b = refl
  same_count at t zero (suc m) k a b = absurd (omega (arith, b.3.0 (a.3.1 refl)))
  same_count at t (suc n) zero k a b = absurd (omega (arith, a.3.0 (b.3.1 refl)))
  same_count at t (suc n) (suc m) k a b =
      let x : X = a.0 in
      let y : X = b.0 in
      let p : at k ≡ Some x = a.1 in
      let q : at k ≡ Some y = b.1 in
      let same : y ≡ x = cc in
      ap suc (same_count at t n m (form.next x) a.4 (subst (λ (z : X). IsChain form own at t (suc m) (form.next z)) same b.4))

  -- values that stay leave the list as it was
  pub kept : (at at2 : ℕ → Option X) (t n k : ℕ) → IsChain form own at t n k → ((m j : ℕ) → m < n → IsChain form own at t (suc m) j → at2 j ≡ at j) → IsChain form own at2 t n k
  unfolding IsChain
  kept at at2 t zero k a same = tt
  kept at at2 t (suc n) k a same =
      (a.0, same n k (omega arith) a ∙ a.1, a.2, a.3, kept at at2 t n (form.next a.0) a.4 (λ m j less. same m j (omega (arith, less))))

  pub kept_items : (at at2 : ℕ → Option X) (t n k : ℕ) → IsChain form own at t n k → ((m j : ℕ) → m < n → IsChain form own at t (suc m) j → at2 j ≡ at j) → chain form at2 n k ≡ chain form at n k
  unfolding IsChain
  kept_items at at2 t zero k a same = chain_none form at2 k ∙ sym (chain_none form at k)
  kept_items at at2 t (suc n) k a same =
      let x : X = a.0 in
      chain_more form at2 n k x (same n k (omega arith) a ∙ a.1)
      ∙ ap (λ (l : List A). form.item k x ∷ l) (kept_items at at2 t n (form.next x) a.4 (λ m j less. same m j (omega (arith, less))))
      ∙ sym (chain_more form at n k x a.1)

  pub length-chain : (at : ℕ → Option X) (t n k : ℕ) → IsChain form own at t n k → length (chain form at n k) ≡ n
  unfolding IsChain
  length-chain at t zero k a = ap length (chain_none form at k)
  length-chain at t (suc n) k a = ap length (chain_more form at n k a.0 a.1) ∙ ap suc (length-chain at t n (form.next a.0) a.4)

  -- what stands at a key of the list
  pub there : (at : ℕ → Option X) (t n k : ℕ) → IsChain form own at t (suc n) k → (x : X) × (at k ≡ Some x) × own x
  unfolding IsChain
  there at t n k a = (a.0, a.1, a.2)

  -- the last value of a list
  pub tail_of : (at : ℕ → Option X) (t n k : ℕ) → IsChain form own at t (suc n) k → (x : X) × (at t ≡ Some x) × own x
  unfolding IsChain
  tail_of at t zero k a = (a.0, ap at (sym (a.3.1 refl)) ∙ a.1, a.2)
  tail_of at t (suc n) k a = tail_of at t n (form.next a.0) a.4

-- ---- one value more at the end

-- the write that leads a value to another one changes nothing else
pub record Leads {X A : Type 0} (form : Form X A) (own : X → Type 0) (to : ℕ → X → X) : Type 0 where
  pub next : (k : ℕ) (x : X) → form.next (to k x) ≡ k
  pub item : (j k : ℕ) (x : X) → form.item j (to k x) ≡ form.item j x
  pub mine : (k : ℕ) (x : X) → own x → own (to k x)

module _ {X A : Type 0} (form : Form X A) (own : X → Type 0) (to : ℕ → X → X) (leads : Leads form own to)
    (at at2 : ℕ → Option X) (tail key : ℕ) (new : X) (mine : own new) (h : IsAppended to at at2 tail key new) where
  pub taken_key : (j : ℕ) (x : X) → at j ≡ Some x → j ≢ key
  taken_key j x e same = let p : Some x ≡ None = sym e ∙ ap at same ∙ h.vacant in absurd cc

  pub alone : IsChain form own at2 key 1 key
  unfolding IsChain
  alone = (new, h.stored, mine, (λ _. refl, λ _. refl), tt)

  pub alone_items : chain form at2 1 key ≡ form.item key new ∷ []
  alone_items = chain_more form at2 0 key new h.stored ∙ ap (λ (l : List A). form.item key new ∷ l) (chain_none form at2 (form.next new))

  pub longer : (n k : ℕ) → IsChain form own at tail (suc n) k → IsChain form own at2 key (suc (suc n)) k
  unfolding IsChain
  longer zero k a =
      let here : k ≡ tail = a.3.1 refl in (
        to key a.0,
        ap at2 here ∙ h.led a.0 (ap at (sym here) ∙ a.1),
        leads.mine key a.0 a.2,
        (λ e. absurd (taken_key k a.0 a.1 e), λ e. absurd (omega (arith, e))),
        subst (λ (j : ℕ). IsChain form own at2 key 1 j) (sym (leads.next key a.0)) alone,
      )
  longer (suc n) k a = (
    a.0,
    h.same k (λ e. absurd (omega (arith, a.3.0 e))) (taken_key k a.0 a.1) ∙ a.1,
    a.2,
    (λ e. absurd (taken_key k a.0 a.1 e), λ e. absurd (omega (arith, e))),
    longer n (form.next a.0) a.4,
  )

  pub longer_items : (n k : ℕ) → IsChain form own at tail (suc n) k → chain form at2 (suc (suc n)) k ≡ chain form at (suc n) k ++ form.item key new ∷ []
  unfolding IsChain
  longer_items zero k a =
      let x : X = a.0 in
      let here : k ≡ tail = a.3.1 refl in
      chain_more form at2 1 k (to key x) (ap at2 here ∙ h.led x (ap at (sym here) ∙ a.1))
      ∙ ap₂ (λ (i : A) (l : List A). i ∷ l) (leads.item k key x) (ap (chain form at2 1) (leads.next key x) ∙ alone_items)
      ∙ ap (λ (l : List A). form.item k x ∷ l ++ form.item key new ∷ []) (sym (chain_none form at (form.next x)))
      ∙ ap (λ (l : List A). l ++ form.item key new ∷ []) (sym (chain_more form at 0 k x a.1))
  longer_items (suc n) k a =
      let x : X = a.0 in
      chain_more form at2 (suc (suc n)) k x (h.same k (λ e. absurd (omega (arith, a.3.0 e))) (taken_key k x a.1) ∙ a.1)
      ∙ ap (λ (l : List A). form.item k x ∷ l) (longer_items n (form.next x) a.4)
      ∙ ap (λ (l : List A). l ++ form.item key new ∷ []) (sym (chain_more form at (suc n) k x a.1))

-- ---- the first taken out, or written anew

module _ {X A : Type 0} (form : Form X A) (own : X → Type 0) (at at2 : ℕ → Option X) (tail n k : ℕ) (x : X) (a : IsChain form own at tail (suc n) k) (read : at k ≡ Some x)
    (same : (j : ℕ) → j ≢ k → at2 j ≡ at j) where
  -- the first is met no more behind it
  behind : (m j : ℕ) → m < n → IsChain form own at tail (suc m) j → at2 j ≡ at j
  behind m j less c = same j (λ (e : j ≡ k). absurd (omega (arith, less, same_count form own at tail n m k a (subst (IsChain form own at tail (suc m)) e c))))

  rest_linked : IsChain form own at tail n (form.next x)
  unfolding IsChain
  rest_linked =
      let y : X = a.0 in
      let p : at k ≡ Some y = a.1 in
      let e : y ≡ x = cc in
      subst (λ (z : X). IsChain form own at tail n (form.next z)) e a.4

  pub first_own : own x
  unfolding IsChain
  first_own =
      let y : X = a.0 in
      let p : at k ≡ Some y = a.1 in
      let e : y ≡ x = cc in
      subst own e a.2

  pub shorter : IsChain form own at2 tail n (form.next x)
  shorter = kept form own at at2 tail n (form.next x) rest_linked behind

  pub shorter_items : chain form at (suc n) k ≡ form.item k x ∷ chain form at2 n (form.next x)
  shorter_items = chain_more form at n k x read ∙ ap (λ (l : List A). form.item k x ∷ l) (sym (kept_items form own at at2 tail n (form.next x) rest_linked behind))

  pub rewritten : (y : X) → at2 k ≡ Some y → own y → form.next y ≡ form.next x → IsChain form own at2 tail (suc n) k
  unfolding IsChain
  rewritten y stored mine next = (y, stored, mine, a.3, subst (IsChain form own at2 tail n) (sym next) shorter)

  pub rewritten_items : (y : X) → at2 k ≡ Some y → form.next y ≡ form.next x → chain form at2 (suc n) k ≡ form.item k y ∷ chain form at2 n (form.next x)
  rewritten_items y stored next = chain_more form at2 n k y stored ∙ ap (λ (j : ℕ). form.item k y ∷ chain form at2 n j) next
