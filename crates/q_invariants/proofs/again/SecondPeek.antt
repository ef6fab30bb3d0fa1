-- A node that is asked once more at the same moment shows the same and has nothing to tell: what holds a packet, and a tbf.
use Rattle.std.proofs.Common.{◌≡◌, ℕ, List, [], ◌∷◌, ◌++◌, map, refl, sym, ap, ap₂, subst, ◌∙◌, Option, Some, None}
use Rattle.std.specs.Prelude.{Bool, true, false, if◌then◌else◌}
use Rattle.std.specs.Option.{option_map_or}
use Rattle.q_packet.specs.Descriptor.{Descriptor}
use Rattle.q_packet.specs.declared.stamped.Stamped.{Stamped}
use Rattle.q_codel.specs.declared.limit.Limit.{Limit}
use Rattle.q_bucket.specs.Level.{TokenBucket, allows, after_spend}
use Rattle.q_model.specs.declared.filter.Filter.{Filter}
use Rattle.q_model.specs.Tally.{Note, Spent}
use Rattle.q_model.specs.Node.{Discipline, Fifo, Tbf, Own, from_below}
use Rattle.q_model.specs.Work.{Worked, worked}
use Rattle.q_model.specs.Ask.{Asked, befores, holding, dequeued, spends, waits, ask_child, ask_tbf, ask_fifo, ask_own, since_shown}
use Rattle.q_invariants.proofs.tree.Forests.{each-side}

-- the same node asked once more: it shows the same, has nothing to tell, and neither it nor what is beneath it changes
pub record IsSecond (a b : Asked) : Type 0 where
  pub shown : b.shown ≡ a.shown
  pub rises : b.rises ≡ []
  pub peeked : b.peeked ≡ b.before

module _ (now : ℕ) where
  -- a node asked, whatever it has noted
  abbrev pub again : Worked → Asked
  again w = from_below (ask_own now) w

  -- a node that answers so once more where the first asking left it
  abbrev pub Repeats : Asked → Type 0
  Repeats a = IsSecond a (again a.peeked)

  -- a node that was not asked answers so still, and one that was asked does not change any more
  pub record IsStable (a : Asked) : Type 0 where
    pub same : again a.before ≡ a
    pub second : Repeats a

  abbrev pub AreStable : List Asked → Type 0
  AreStable [] = Unit {0}
  AreStable (a ∷ below) = IsStable a × AreStable below

  pub again-worked : (own : Own) (notes : List Note) (ws : List Worked)
      → again (worked own notes ws) ≡ ask_own now own (map again ws)
  again-worked own notes ws = ap (ask_own now own) (each-side (ask_own now) ws)

  pub again-befores : (below : List Asked) → AreStable below → map again (befores below) ≡ below
  again-befores [] h = refl
  again-befores (a ∷ below) h = ap₂ (λ (b : Asked) (bs : List Asked). b ∷ bs) h.0.same (again-befores below h.1)

  -- a node whose children were not asked
  pub again-quiet : (own : Own) (notes : List Note) (below : List Asked) → AreStable below
      → again (worked own notes (befores below)) ≡ ask_own now own below
  again-quiet own notes below h = again-worked own notes (befores below) ∙ ap (ask_own now own) (again-befores below h)

  pub second-by : (a b c : Asked) → b ≡ c → IsSecond a c → IsSecond a b
  second-by a b c e h = subst (IsSecond a) (sym e) h

  -- ---- a node that shows what it has at hand

  -- it answers just so again
  pub second-same : (a : Asked) → again a.peeked ≡ a → a.rises ≡ [] → a.peeked ≡ a.before → Repeats a
  second-same a e rises peeked = second-by a (again a.peeked) a e (record { shown = refl; rises = rises; peeked = peeked })

  module _ (handle : Option ℕ) (filters : List Filter) (since : ℕ) where
    abbrev pub node : Discipline → Option Descriptor → Own
    node d held = record { handle = handle; discipline = d; held = held; since = since; filters = filters }

    -- once it has dequeued a packet that arrived then
    abbrev pub held_since : Discipline → Option Descriptor → ℕ → Own
    held_since d held at = record (node d held) { since = at }

    pub second-holding : (d : Discipline) (below : List Asked) (p : Descriptor) → AreStable below
        → Repeats (holding (node d (Some p)) below p)
    second-holding d below p h = second-same (holding (node d (Some p)) below p) (again-quiet (node d (Some p)) [] below h) refl refl

    pub second-fifo : (limit : Limit) (queue : List Stamped) (below : List Asked) → AreStable below
        → Repeats (ask_fifo (node (Fifo limit queue) None) below limit queue)
    second-fifo limit queue below h =
        second-same (ask_fifo (node (Fifo limit queue) None) below limit queue) (again-quiet (node (Fifo limit queue) None) [] below h) refl refl

    -- ---- a node that has dequeued a packet holds it

    pub second-dequeued : (own : Own) (below : List Asked) (d : Discipline) (children : List Worked) (rises mine : List Note) (p : Descriptor) (at : ℕ)
        → (let a : Asked = dequeued own below (record { after = node d None; children = children; rises = rises; mine = mine; packet = Some p; since = at }) in Repeats a)
    second-dequeued own below d children rises mine p at =
        let a : Asked = dequeued own below (record { after = node d None; children = children; rises = rises; mine = mine; packet = Some p; since = at }) in
        second-by a (again a.peeked) (holding (held_since d (Some p) at) (map again children) p)
        (again-worked (held_since d (Some p) at) (rises ++ mine) children)
        (record { shown = refl; rises = refl; peeked = refl })

    -- ---- a tbf

    module _ (b : TokenBucket) (limit : ℕ) where
      abbrev tbf : Own
      tbf = node (Tbf b limit) None

      -- the same, where it has nothing to hold
      abbrev idle : Own
      idle = held_since (Tbf b limit) None 0

      -- a tbf that waits, waits once more
      waits-again : (below : List Asked) (a : Asked) → IsStable a
          → ask_child now idle (again a.peeked ∷ []) b limit (again a.peeked) ≡ waits idle (again a.peeked ∷ []) (again a.peeked)
          → Repeats (waits tbf below a)
      waits-again below a h e =
          let c : Asked = again a.peeked in
          second-by (waits tbf below a) (again (waits tbf below a).peeked) (waits idle (c ∷ []) c)
          (again-worked idle (a.rises ++ []) (a.peeked ∷ []) ∙ e)
          (record {
            shown = refl;
            rises = h.second.rises;
            peeked = ap₂ (λ (notes : List Note) (w : Worked). worked idle (notes ++ []) (w ∷ [])) h.second.rises h.second.peeked;
          })

      second-child : (below : List Asked) (a : Asked) → IsStable a
          → Repeats (ask_child now tbf below b limit a)
      second-child below a h = by a.shown refl
        where
          answer : Own → List Asked → Asked → Option Descriptor → Asked
          answer own bs c o = option_map_or (λ (p : Descriptor). if allows b now p.len then spends own bs b limit now c p else waits own bs c) o (waits own bs c)

          may : (p : Descriptor) (t : Bool) → allows b now p.len ≡ t → a.shown ≡ Some p
              → (let x : Asked = if t then spends tbf below b limit now a p else waits tbf below a in Repeats x)
          may p true e is = second-dequeued tbf below (Tbf (after_spend b now p.len) limit) (a.taken ∷ []) a.rises (Spent p.len ∷ []) p (since_shown a)
          may p false e is =
              let c : Asked = again a.peeked in
              waits-again below a h (ap (answer idle (c ∷ []) c) (h.second.shown ∙ is) ∙ ap (λ (t : Bool). if t then spends idle (c ∷ []) b limit now c p else waits idle (c ∷ []) c) e)

          by : (o : Option Descriptor) → a.shown ≡ o → (let x : Asked = answer tbf below a o in Repeats x)
          by None is = let c : Asked = again a.peeked in waits-again below a h (ap (answer idle (c ∷ []) c) (h.second.shown ∙ is))
          by (Some p) is = may p (allows b now p.len) refl is

      pub second-tbf : (below : List Asked) → AreStable below
          → Repeats (ask_tbf now tbf below b limit)
      second-tbf [] h = record { shown = refl; rises = refl; peeked = refl }
      second-tbf (a ∷ below) h = second-child (a ∷ below) a h.0
