-- A class of the only drr on its way, whose packets are in a fifo: they wait their turn in that drr, and for nothing else but the tbf at the
-- root, if there is one. tc(8) names a class, tc-drr(8) has the quanta, and tc-pfifo(8) and tc-bfifo(8) have the limits.
use Rattle.std.specs.Prelude.{List, [], ◌∷◌, Option, Some, None, option_and_then}
use Rattle.q_codel.specs.declared.limit.Limit.{Limit}
use Rattle.q_model.specs.declared.class_id.ClassId.{ClassId}
use Rattle.q_model.specs.declared.place.Place.{Place}
use Rattle.q_model.specs.declared.place.Place.TheVariants as place
use Rattle.q_model.specs.Find.{class_path, node_at}
use Rattle.q_model.specs.Node.{Node}
use Rattle.q_tree.specs.declared.answers.turns.Turn.{Turn}
use Rattle.q_tree.specs.declared.answers.ways.Link.{Link}
use Rattle.q_tree.specs.declared.answers.ways.Share.{Share}
use Rattle.q_tree.specs.answers.Lanes.{limit_of}
use Rattle.q_tree.specs.answers.Ways.{Way, shares_of, way_to}

-- where one class of a drr is on the way
abbrev pub turn_on : Option Link → List Share → Limit → Option Turn
turn_on link [] limit = None
turn_on link (share ∷ []) limit = Some (record { link = link; share = share; limit = limit })
turn_on link (share ∷ other ∷ shares) limit = None

-- the limit of the fifo in a class
abbrev pub limit_in : {M : Type 0} → ClassId → Node M → Option Limit
limit_in class n = option_and_then (λ path. option_and_then (λ child. limit_of child.own.discipline) (node_at path n)) (class_path class n)

-- the class in this place
abbrev pub turn_to : {M : Type 0} → Place → Node M → Option Turn
turn_to place.Top n = None
turn_to place.Root n = None
turn_to (place.Class class) n = option_and_then (λ (w : Way). option_and_then (turn_on w.link (shares_of w)) (limit_in class n)) (way_to class n)
