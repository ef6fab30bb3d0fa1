use Rattle.qtree_c.proofs.show.Naming.{fault-named}
use Rattle.qtree_c.proofs.show.names.fault_name.Goals as goal

pub returns-clause-faults : goal.returns-clause-faults
returns-clause-faults c = fault-named c.args.number c.listed_fault.result.now c.listed_fault.ensures
