-- The numbers of a calm class and of what a class hands over, computed from the definitions for worked classes; a turn that has each of them.
use Rattle.std.proofs.Common.{◌≡◌, ℕ, List, [], ◌∷◌, refl}
use Rattle.q_drr.specs.Schedule.{Class, Entry}
use Rattle.q_drr.specs.Waiting.{bytes_of_turn}
use Rattle.q_tree.specs.declared.answers.ways.Share.{Share}
use Rattle.q_laws.specs.share.Calm.{most_of_calm_turn}
use Rattle.q_laws.specs.share.Handed.{lacks_handed}
use Rattle.q_device.specs.promises.Worst.{most_of_turn}

share : ℕ → ℕ → ℕ → Share
share quantum quanta classes = record { quantum = quantum; quanta = quanta; classes = classes }

both : List Class
both = record { name = 1; quantum = 3000 } ∷ record { name = 2; quantum = 1500 } ∷ []

entry : ℕ → ℕ → Entry
entry class deficit = record { class = class; deficit = deficit; granted = 0 }

-- ---- 3000 of 4500, two classes

customer : most_of_calm_turn 1514 1500 (share 3000 4500 2) ≡ 4513
unfolding share
customer = refl

-- in front with no deficit left, before one that has the most that a grant leaves
in_front : bytes_of_turn 1 3000 both (entry 1 0 ∷ entry 2 3013 ∷ []) 1500 ≡ 4513
unfolding both entry
in_front = refl

-- behind that one with a quantum, of which a byte more takes a grant
second_grant : most_of_calm_turn 1514 3001 (share 3000 4500 2) ≡ 7514
unfolding share
second_grant = refl

behind : bytes_of_turn 1 3000 both (entry 2 3013 ∷ entry 1 3000 ∷ []) 3001 ≡ 7514
unfolding both entry
behind = refl

-- a class behind that has no deficit, as where a command has raised its quantum, is not calm: others send a quantum more
not_calm : bytes_of_turn 1 3000 both (entry 2 3013 ∷ entry 1 0 ∷ []) 1500 ≡ 6013
unfolding both entry
not_calm = refl

as_in_any_state : most_of_turn 1514 1500 (share 3000 4500 2) ≡ 6013
unfolding share
as_in_any_state = refl

-- 300 of 6300, five classes
small_quantum : most_of_calm_turn 1514 1500 (share 300 6300 5) ≡ 37552
unfolding share
small_quantum = refl

-- ---- what may lack of a rate, times the sum of the quanta: for 3000 of 4500 that is less than 4523 bytes

handed : lacks_handed 2 3000 4500 1514 ≡ 20350500
handed = refl
