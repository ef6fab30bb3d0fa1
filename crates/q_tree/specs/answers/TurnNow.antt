-- What leaves a drr before a packet of one of its classes, from the state of the moment: a turn of the drr for the bytes of the class that are
-- queued, and the packet that the drr holds. M. Shreedhar and G. Varghese, "Efficient Fair Queuing Using Deficit Round-Robin" (1995), and
-- tc-drr(8); tc(8) names a class.
use Rattle.std.specs.Prelude.{ℕ, ◌+◌, List, [], ◌∷◌, Option, None, option_map, option_and_then, slice_get}
use Rattle.q_drr.specs.Schedule.{Class}
use Rattle.q_drr.specs.Waiting.{turn_now}
use Rattle.q_model.specs.declared.class_id.ClassId.{ClassId}
use Rattle.q_model.specs.Beneath.{beneath, totals_in}
use Rattle.q_model.specs.Find.{class_path}
use Rattle.q_model.specs.Node.{Discipline, Fifo, Prio, Tbf, Drr, FqCodel, Own, Node, children}
use Rattle.q_model.specs.Stretches.{length_held}

-- Until the packet has left the drr that is queued last in the class of this child, or one of this length that comes there next (a length of 0
-- for the packet that was queued last).
abbrev pub bytes_in_drr : {M : Type 0} → ℕ → ℕ → Own → Node M → Discipline → Option ℕ
bytes_in_drr i len own child (Drr s) =
    option_map (λ (c : Class). length_held own.held + turn_now c.name ((totals_in (beneath child)).bytes + len) s) (slice_get s.classes i)
bytes_in_drr i len own child (Fifo limit queue) = None
bytes_in_drr i len own child (Prio priomap) = None
bytes_in_drr i len own child (Tbf bucket limit) = None
bytes_in_drr i len own child (FqCodel s) = None

-- the class at the end of a path down
abbrev pub bytes_along : {M : Type 0} → ℕ → List ℕ → Node M → Option ℕ
bytes_along len [] n = None
bytes_along len (i ∷ []) n = option_and_then (λ child. bytes_in_drr i len n.own child n.own.discipline) (slice_get (children n) i)
bytes_along len (i ∷ j ∷ path) n = option_and_then (bytes_along len (j ∷ path)) (slice_get (children n) i)

abbrev pub bytes_before : {M : Type 0} → ClassId → ℕ → Node M → Option ℕ
bytes_before class len n = option_and_then (λ path. bytes_along len path n) (class_path class n)
