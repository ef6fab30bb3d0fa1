-- What leaves a drr before a packet of one of its classes, in a tree whose nodes remember something else.
use Rattle.std.proofs.Common.{◌≡◌, ℕ, ◌+◌, ◌∙◌, List, [], ◌∷◌, refl, ap, Option, Some, None, option_map, option_and_then}
use Rattle.std.specs.Prelude.{slice_get}
use Rattle.q_packet.specs.Descriptor.{Descriptor}
use Rattle.q_model.specs.declared.class_id.ClassId.{ClassId}
use Rattle.q_model.specs.Beneath.{beneath_own, totals_in}
use Rattle.q_model.specs.Find.{class_path}
use Rattle.q_model.specs.Node.{Discipline, Fifo, Prio, Tbf, Drr, FqCodel, Own, Node, children}
use Rattle.q_model.specs.Stretches.{length_held}
use Rattle.q_model.specs.Tally.{Counts, totals}
use Rattle.q_model.proofs.ShrinkLemmas.{child-with_memory, each-each_memory}
use Rattle.q_drr.specs.Schedule.{Class}
use Rattle.q_drr.specs.Waiting.{turn_now}
use Rattle.q_tree.specs.answers.TurnNow.{bytes_along, bytes_before, bytes_in_drr}
use Rattle.q_tree.specs.Kept.{Kept, kept}
use Rattle.q_device.proofs.device.StatsStands.{class-stands}
use Rattle.q_device.proofs.promises.PromiseStands.{counted}

module _ (len : ℕ) where
  drr-stands : (i : ℕ) (own : Own) (c : Node Kept) (d : Discipline) → bytes_in_drr i len own (counted c) d ≡ bytes_in_drr i len own c d
  drr-stands i own c (Drr s) =
      ap (λ (ps : List Descriptor). option_map (λ (k : Class). length_held own.held + turn_now k.name ((totals_in ps).bytes + len) s) (slice_get s.classes i))
      (ap (beneath_own c.own) (each-each_memory beneath_own (λ (k : Kept). k.counts) c.below))
  drr-stands i own c (Fifo limit queue) = refl
  drr-stands i own c (Prio priomap) = refl
  drr-stands i own c (Tbf bucket limit) = refl
  drr-stands i own c (FqCodel s) = refl

  along-stands : (path : List ℕ) (n : Node Kept) → bytes_along len path (counted n) ≡ bytes_along len path n
  along-stands [] n = refl
  along-stands (i ∷ []) n =
      ap (option_and_then (λ (c : Node Counts). bytes_in_drr i len n.own c n.own.discipline)) (child-with_memory (λ (k : Kept). k.counts) n i)
      ∙ by (slice_get (children n) i)
    where
      by : (o : Option (Node Kept)) → option_and_then (λ (c : Node Counts). bytes_in_drr i len n.own c n.own.discipline) (option_map counted o)
          ≡ option_and_then (λ (c : Node Kept). bytes_in_drr i len n.own c n.own.discipline) o
      by None = refl
      by (Some c) = drr-stands i n.own c n.own.discipline
  along-stands (i ∷ j ∷ path) n =
      ap (option_and_then (bytes_along len (j ∷ path))) (child-with_memory (λ (k : Kept). k.counts) n i)
      ∙ by (slice_get (children n) i) (λ c. along-stands (j ∷ path) c)
    where
      by : (o : Option (Node Kept)) → ((c : Node Kept) → bytes_along len (j ∷ path) (counted c) ≡ bytes_along len (j ∷ path) c)
          → option_and_then (bytes_along len (j ∷ path)) (option_map counted o) ≡ option_and_then (bytes_along len (j ∷ path)) o
      by None rest = refl
      by (Some c) rest = rest c

pub before-stands : (class : ClassId) (len : ℕ) (n : Node Kept) → bytes_before class len (counted n) ≡ bytes_before class len n
before-stands class len n =
    ap (option_and_then (λ path. bytes_along len path (counted n))) (class-stands kept totals (λ (k : Kept). k.counts) (λ k. refl) class n)
    ∙ by (class_path class n)
  where
    by : (o : Option (List ℕ)) → option_and_then (λ path. bytes_along len path (counted n)) o ≡ option_and_then (λ path. bytes_along len path n) o
    by None = refl
    by (Some path) = along-stands len path n
