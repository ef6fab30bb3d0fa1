-- Values that are linked by keys into lists: `at` says what is at a key.
-- This is how the crate keeps packets and the new and old flows; nothing public names it.
use Rattle.std.specs.Prelude.{◌≡◌, ◌≢◌, ◌↔◌, ℕ, zero, suc, List, [], ◌∷◌, Option, Some, None, ⊤}

-- how a list of such values is read: the key of the one behind, and what the value at a key stands for
pub record Form (X A : Type 0) : Type 0 where
  pub next : X → ℕ
  pub item : ℕ → X → A

module _ {X A : Type 0} (form : Form X A) where
  -- an item, and those behind it
  abbrev pub onwards : ℕ → (ℕ → List A) → Option X → List A
  onwards key rest None = []
  onwards key rest (Some x) = form.item key x ∷ rest (form.next x)

  -- the items from a key on, so many of them
  unfoldable pub chain : (ℕ → Option X) → ℕ → ℕ → List A
  chain at zero key = []
  chain at (suc n) key = onwards key (chain at n) (at key)

  -- from this key on there are so many values, all of one list, and the last one alone is the tail
  unfoldable pub IsChain : (X → Type 0) → (ℕ → Option X) → ℕ → ℕ → ℕ → Type 0
  IsChain own at tail zero key = ⊤
  IsChain own at tail (suc n) key =
      (x : X) × (at key ≡ Some x) × own x × ((key ≡ tail) ↔ (n ≡ 0)) × IsChain own at tail n (form.next x)

-- a value more: it is at a key that was vacant, and the tail, where there is one, leads to it
pub record IsAppended {X : Type 0} (to : ℕ → X → X) (at at2 : ℕ → Option X) (tail key : ℕ) (new : X) : Type 0 where
  pub vacant : at key ≡ None
  pub stored : at2 key ≡ Some new
  pub led : (x : X) → at tail ≡ Some x → at2 tail ≡ Some (to key x)
  pub same : (j : ℕ) → j ≢ tail → j ≢ key → at2 j ≡ at j
