-- A node of the code that was made anew is the model's, of which nothing was noted, and its queues have no places.
-- Nothing here is of a standard.
use Rattle.std.specs.Prelude.{◌≡◌, ℕ, List, [], ◌∷◌, map}
use Rattle.q_bucket.specs.Level.{TokenBucket}
use Rattle.q_model.specs.declared.kind.Kind.{Kind}
use Rattle.q_model.specs.declared.kind.Kind.TheVariants as kind
use Rattle.q_model.specs.Make.{implicit_bfifo}
use Rattle.q_model.specs.Node as spec
use Rattle.q_model.specs.Node.{Node, Shape, blank, children}
use Rattle.q_tree.specs.Kept.{Kept, kept}
use Rattle.q_tree.specs.Seen.{children_seen, discipline_seen, places_seen}
use Rattle.q_tree.specs.declared.node.Discipline.{Discipline}

abbrev pub IsNewNode : Node Kept → Shape → Type 0
IsNewNode n s = n ≡ blank kept s

abbrev pub AreNew : List (Node Kept) → List Shape → Type 0
AreNew ns shapes = ns ≡ map (blank kept) shapes

-- the discipline of a new qdisc, with its implicit leaves
pub record IsNewDiscipline (d : Discipline) (s : Shape) : Type 0 where
  pub discipline : discipline_seen d ≡ s.own.discipline
  pub places : places_seen d ≡ 0
  pub leaves : AreNew (children_seen d) (children s)

-- a new tbf with this bucket, over an implicit bfifo of so many bytes
pub record IsNewTbf (d : Discipline) (bucket : TokenBucket) (limit : ℕ) : Type 0 where
  pub discipline : discipline_seen d ≡ spec.Tbf bucket limit
  pub places : places_seen d ≡ 0
  pub leaf : AreNew (children_seen d) (implicit_bfifo limit ∷ [])

-- the kinds that need memory of their own, for bands, an implicit leaf or flows
abbrev pub NeedsMemory : Kind → Type 0
NeedsMemory (kind.Pfifo limit) = ⊥
NeedsMemory (kind.Bfifo limit) = ⊥
NeedsMemory (kind.Prio options) = Unit {0}
NeedsMemory (kind.Tbf rate burst limit) = Unit {0}
NeedsMemory kind.Drr = ⊥
NeedsMemory (kind.FqCodel options) = Unit {0}
