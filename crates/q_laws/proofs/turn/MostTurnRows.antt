-- The most bytes of a turn, computed from the definition for worked classes.
use Rattle.std.proofs.Common.{◌≡◌, ℕ, refl}
use Rattle.q_tree.specs.declared.answers.ways.Share.{Share}
use Rattle.q_device.specs.promises.Worst.{most_of_turn}

share : ℕ → ℕ → ℕ → Share
share quantum quanta classes = record { quantum = quantum; quanta = quanta; classes = classes }

-- 3000 of 4500, two classes: 1500 bytes need one grant, and the other has a deficit of 1500 + 1513 at most
customer : most_of_turn 1514 1500 (share 3000 4500 2) ≡ 6013
unfolding share
customer = refl

-- a byte more than the quantum needs a second grant
second_grant : most_of_turn 1514 3001 (share 3000 4500 2) ≡ 9014
unfolding share
second_grant = refl

-- 300 of 6300, five classes: 1500 bytes need five grants
small_quantum : most_of_turn 1514 1500 (share 300 6300 5) ≡ 43552
unfolding share
small_quantum = refl

-- a class alone waits for nobody
alone : most_of_turn 1514 1500 (share 3000 3000 1) ≡ 1500
unfolding share
alone = refl
