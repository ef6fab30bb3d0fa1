use Rattle.std.proofs.Common.{◌≡◌, ◌∙◌, [], ◌++◌, length, map, ap, arith, List}
use Rattle.std.specs.List.{fold}
use Rattle.std.proofs.lemmas.List.{length-map}
use Rattle.q_model.specs.Find.{Address}
use Rattle.q_model.specs.Node.{Node}
use Rattle.q_tree.specs.commands.Index.{Index, added, address_of, addresses_beneath, listed, own_address, under}
use Rattle.q_tree.specs.Kept.{Kept}
use Rattle.q_tree.proofs.commands.IndexLemmas.{all-beneath, few-beneath, renewed}
use Rattle.q_tree.proofs.commands.handles.Handles.renew.Goals as goal

pub add_beneath-requires-clause-room : goal.add_beneath-requires-clause-room
add_beneath-requires-clause-room c = omega (arith, c.requires.room, few-beneath c.args.root.now, c.clear.ensures.capacity, ap (λ (i : Index). i.room) c.self.view_is)

-- from nothing, seen from the root
all : (c : goal.After-add_beneath) → listed c.add_beneath.new.ways.entries ≡ fold added [] (map (under []) (addresses_beneath c.args.root.now))
all c =
    c.add_beneath.ensures.added
    ∙ ap (λ es. fold added (listed es) (map (under c.new-path.result.items) (addresses_beneath c.args.root.now))) c.clear.ensures.empty
    ∙ ap (λ p. fold added [] (map (under p) (addresses_beneath c.args.root.now))) c.new-path.ensures

pub returns-clause-same : goal.returns-clause-same
returns-clause-same c =
    ap (λ o. own_address [] o ++ listed c.add_beneath.new.ways.entries) (ap (λ (n : Node Kept). n.own.handle) c.root.view_is)
    ∙ renewed c.args.root.now (listed c.add_beneath.new.ways.entries) c.requires.apart (all c)

pub returns-clause-room : goal.returns-clause-room
returns-clause-room c =
    omega (
      arith,
      c.add_beneath.ensures.room,
      c.clear.ensures.capacity,
      ap (λ (i : Index). i.room) c.self.view_is,
      ap (λ (xs : List Address). length xs) (all-beneath c.args.root.now (listed c.add_beneath.new.ways.entries) c.requires.apart (all c)),
      length-map c.add_beneath.new.ways.entries address_of,
    )
