-- What a contract sees of the handles of a tree of the code: that of the root, and a map for those below it.
use Rattle.std.specs.Prelude.{◌+◌, [], ◌++◌, length}
use Rattle.std.specs.HashMap.{spare}
use Rattle.q_tree.specs.commands.Index.{Index, listed, own_address}
use Rattle.q_tree.specs.declared.commands.handles.Handles.TheInside.{Inside}

abbrev pub index_seen : Inside → Index
index_seen a = record {
  addresses = own_address [] a.root ++ listed a.beneath.entries;
  room = length a.beneath.entries + spare a.beneath;
}
