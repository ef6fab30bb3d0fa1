-- What RFC 8290 promises to sparse flows (section 4.2): a flow that has just become new goes before the old ones.
-- It speaks of any number of takes, at any times, with no put in between.
use Rattle.std.specs.Prelude.{◌≡◌, ℕ, ◌==◌, ◌≤◌, ◌<◌, ◌<ℤ◌, pos, ◌⊎◌, false, if◌then◌else◌, List, [], ◌∷◌, ◌++◌, All, map, option_to_list}
use Rattle.q_packet.specs.Descriptor.{Descriptor}
use Rattle.q_fqcodel.specs.FqState.{FqState, is_idle, packets_of}
use Rattle.q_fqcodel.specs.Lawful.{IsLawful}
use Rattle.q_fqcodel.specs.Put.{flow_of, is_listed, after_put}
use Rattle.q_fqcodel.specs.Take.{selected, front, after_sending}
use Rattle.q_fqcodel.specs.Entry.{Entry}

-- the flow is in the list, with credits
abbrev pub HasCredits : ℕ → List Entry → Type 0
HasCredits n [] = ⊥
HasCredits n (e ∷ es) = ((e.flow ≡ n) × (pos 0 <ℤ e.credits)) ⊎ HasCredits n es

-- the flow is new: in the new list with credits, and has a packet
pub record IsNew (n : ℕ) (s : FqState) : Type 0 where
  pub listed : HasCredits n s.new_flows
  pub busy : is_idle s.flows n ≡ false

-- the flows that send, in order, in takes at these times
abbrev pub served : List ℕ → FqState → List ℕ
served [] s = []
served (now ∷ nows) s = map (λ (e : Entry). e.flow) (option_to_list (front (selected s))) ++ served nows (after_sending now (selected s))

-- those before the first n
abbrev pub served_before : ℕ → List ℕ → List ℕ
served_before n [] = []
served_before n (m ∷ ms) = if m == n then [] else m ∷ served_before n ms

-- A packet that finds its flow in neither list makes it new, where it does not pass the limit.
abbrev pub BecomesNew : Type 0
BecomesNew =
    (s : FqState) (packet : Descriptor) (now : ℕ) → IsLawful s → 1 ≤ s.settings.quantum → flow_of s packet < s.settings.flows
    → is_listed (flow_of s packet) (s.new_flows ++ s.old_flows) ≡ false → packets_of s.flows < s.settings.limit → IsNew (flow_of s packet) (after_put s packet now)

-- Until a new flow sends, no flow sends that was in the old list.
abbrev pub NewBeforeOld : Type 0
NewBeforeOld =
    (s : FqState) (n : ℕ) → IsLawful s → IsNew n s → (nows : List ℕ)
    → All (λ (m : ℕ). is_listed m s.old_flows ≡ false) (served_before n (served nows s))
