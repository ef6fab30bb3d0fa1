-- The places of a tree's queues are memory, and say nothing of when it is ready, of what a take gives and of what the tree can hold.
use Rattle.std.proofs.Common.{◌≡◌, ℕ, ap}
use Rattle.q_model.specs.Ask.{ask}
use Rattle.q_model.specs.Beneath.{beneath, beneath_own}
use Rattle.q_model.specs.Node.{Shape}
use Rattle.q_model.specs.TreeState.{TreeState, given}
use Rattle.q_model.proofs.ShrinkLemmas.{each-each_memory, shape-with_memory}
use Rattle.q_tree.specs.answers.MostPackets.{most_own, most_packets}
use Rattle.q_tree.specs.answers.ReadyAt.{outlook_own, ready_at, is_sure, is_before}
use Rattle.q_tree.specs.Kept.{Kept}
use Rattle.q_tree.specs.TreeSeen.{tree_numbers}

pub given-numbers : (t : ℕ) (s : TreeState Kept) → given t (tree_numbers s) ≡ given t s
given-numbers t s = ap (λ (r : Shape). (ask t r).shown) (shape-with_memory (λ (k : Kept). k.counts) s.root)

pub ready-numbers : (now : ℕ) (s : TreeState Kept) → ready_at now (tree_numbers s).root ≡ ready_at now s.root
ready-numbers now s = ap (λ os. (outlook_own now s.root.own os).at) (each-each_memory (outlook_own now) (λ (k : Kept). k.counts) s.root.below)

pub sure-numbers : (now : ℕ) (s : TreeState Kept) → is_sure now (tree_numbers s).root ≡ is_sure now s.root
sure-numbers now s =
    ap (λ os. is_before (outlook_own now s.root.own os).at (outlook_own now s.root.own os).until) (each-each_memory (outlook_own now) (λ (k : Kept). k.counts) s.root.below)

pub most-numbers : (s : TreeState Kept) → most_packets (tree_numbers s).root ≡ most_packets s.root
most-numbers s = ap (most_own s.root.own) (each-each_memory most_own (λ (k : Kept). k.counts) s.root.below)

pub beneath-numbers : (s : TreeState Kept) → beneath (tree_numbers s).root ≡ beneath s.root
beneath-numbers s = ap (beneath_own s.root.own) (each-each_memory beneath_own (λ (k : Kept). k.counts) s.root.below)
