-- How a proof tells apart nodes where they are. Nothing here is of a standard.
use Rattle.std.specs.Prelude.{List}
use Rattle.std.specs.Coded.{Coded, coded×, coded_list}
use Rattle.q_model.specs.declared.place.Place.{Place}
use Rattle.q_model.specs.Node.{Node}
use Rattle.q_model.specs.contracts.place.Place as place
use Rattle.q_tree.specs.Kept.{Kept}
use Rattle.q_tree.specs.NodeCode.{node_code}

abbrev pub standing_code : Coded (Place × Node Kept)
standing_code = coded× place.the_row.coded node_code

abbrev pub nodes_code : Coded (List (Place × Node Kept))
nodes_code = coded_list standing_code
