-- What a look-up by name finds in a list with one more in front: that one, where it has the name, and else what it finds
-- behind.
use Rattle.std.proofs.Common.{◌≡◌, ℕ, Bool, true, false, cond, eqb, List, ◌∷◌, Some, ap}
use Rattle.std.specs.Prelude.{◌==◌, unwrap_or}
use Rattle.std.specs.List.{find}
use Rattle.std.specs.Option.{option_map_or}
use Rattle.q_drr.specs.Schedule.{Class, Entry, quantum_of, deficit_of, granted_of}
use Rattle.q_drr.specs.States.{NamedState, no_state, state_of}

pub state_here : (n : ℕ) (c : NamedState) (cs : List NamedState) → eqb n c.name ≡ true → state_of n (c ∷ cs) ≡ c
state_here n c cs e = ap (λ (t : Bool). unwrap_or (cond t (Some c) (find (λ (c : NamedState). n == c.name) cs)) no_state) e

pub state_behind : (n : ℕ) (c : NamedState) (cs : List NamedState) → eqb n c.name ≡ false → state_of n (c ∷ cs) ≡ state_of n cs
state_behind n c cs e = ap (λ (t : Bool). unwrap_or (cond t (Some c) (find (λ (c : NamedState). n == c.name) cs)) no_state) e

pub quantum_here : (n : ℕ) (c : Class) (cs : List Class) → eqb n c.name ≡ true → quantum_of n (c ∷ cs) ≡ c.quantum
quantum_here n c cs e = ap (λ (t : Bool). option_map_or (λ (c : Class). c.quantum) (cond t (Some c) (find (λ (c : Class). n == c.name) cs)) 0) e

pub quantum_behind : (n : ℕ) (c : Class) (cs : List Class) → eqb n c.name ≡ false → quantum_of n (c ∷ cs) ≡ quantum_of n cs
quantum_behind n c cs e = ap (λ (t : Bool). option_map_or (λ (c : Class). c.quantum) (cond t (Some c) (find (λ (c : Class). n == c.name) cs)) 0) e

pub deficit_here : (n : ℕ) (e : Entry) (es : List Entry) → eqb n e.class ≡ true → deficit_of n (e ∷ es) ≡ e.deficit
deficit_here n e es q = ap (λ (t : Bool). option_map_or (λ (e : Entry). e.deficit) (cond t (Some e) (find (λ (e : Entry). n == e.class) es)) 0) q

pub deficit_behind : (n : ℕ) (e : Entry) (es : List Entry) → eqb n e.class ≡ false → deficit_of n (e ∷ es) ≡ deficit_of n es
deficit_behind n e es q = ap (λ (t : Bool). option_map_or (λ (e : Entry). e.deficit) (cond t (Some e) (find (λ (e : Entry). n == e.class) es)) 0) q

pub granted_here : (n : ℕ) (e : Entry) (es : List Entry) → eqb n e.class ≡ true → granted_of n (e ∷ es) ≡ e.granted
granted_here n e es q = ap (λ (t : Bool). option_map_or (λ (e : Entry). e.granted) (cond t (Some e) (find (λ (e : Entry). n == e.class) es)) 0) q

pub granted_behind : (n : ℕ) (e : Entry) (es : List Entry) → eqb n e.class ≡ false → granted_of n (e ∷ es) ≡ granted_of n es
granted_behind n e es q = ap (λ (t : Bool). option_map_or (λ (e : Entry). e.granted) (cond t (Some e) (find (λ (e : Entry). n == e.class) es)) 0) q
