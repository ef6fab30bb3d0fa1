-- A class of a drr as it is once a packet comes there, and a turn in numbers.
use Rattle.std.proofs.Common.{◌≡◌, ℕ, ◌+◌, ◌-◌, ◌*◌, ◌^◌, ◌≤◌, false, eqb, refl, List, [], ◌∷◌, ◌++◌, sym, ap, ◌∙◌, eq-eqb, arith}
use Rattle.std.specs.Int.{div_ceil}
use Rattle.std.specs.Prelude.{sum_by}
use Rattle.std.proofs.Math.Nat.{mul-le-mul_left, mul-le-mul_right}
use Rattle.std.proofs.lemmas.Bool.{cond-false, or_parts}
use Rattle.std.proofs.lemmas.Grind.{div_ceil_times}
use Rattle.q_drr.specs.Schedule.{Class, Entry, Schedule, deficit_of, is_active, quantum_of, woken}
use Rattle.q_drr.specs.Waiting.{deficits_ahead, turn_now}
use Rattle.q_drr.proofs.LookupLemmas.{deficit_behind, deficit_here}
use Rattle.q_tree.specs.declared.answers.ways.Share.{Share}
use Rattle.q_tree.specs.answers.Ways.{share_among}

deficit-last : (i : ℕ) (active : List Entry) (e : Entry) → e.class ≡ i → is_active i active ≡ false → deficit_of i (active ++ e ∷ []) ≡ e.deficit
deficit-last i [] e same none = deficit_here i e [] (eq-eqb i e.class (sym same))
deficit-last i (x ∷ active) e same none =
    let apart = or_parts (eqb i x.class) (is_active i active) none in
    deficit_behind i x (active ++ e ∷ []) apart.0 ∙ deficit-last i active e same apart.1

pub deficit-woken : (i : ℕ) (s : Schedule) → is_active i s.active ≡ false → deficit_of i (woken i s).active ≡ quantum_of i s.classes
deficit-woken i s asleep =
    let last : Entry = record { class = i; deficit = quantum_of i s.classes; granted = 0 } in
    ap (λ (t : Schedule). deficit_of i t.active) (cond-false (is_active i s.active) s (record s { active = s.active ++ last ∷ [] }) asleep)
    ∙ deficit-last i s.active last refl asleep

-- so few grants cover so many bytes, and so few bytes are in a turn
pub turn-fits : (bytes quantum others ahead : ℕ) → 1 ≤ quantum → quantum ≤ 2 ^ 48 → bytes ≤ 2 ^ 65 → others ≤ 2 ^ 48 → ahead ≤ 2 ^ 97 → (x : ℕ) → x ≤ bytes
    → bytes + div_ceil x quantum * others + ahead ≤ 2 ^ 115
turn-fits bytes quantum others ahead some small few quanta left x less =
    let n : ℕ = div_ceil x quantum in
    let times = (div_ceil_times x quantum (omega (arith, some))).1 in
    let one : n * 1 ≤ n * quantum = mul-le-mul_left n some in
    let grants : n ≤ 2 ^ 66 = omega (arith, times, one, small, few, less) in
    let all : n * others ≤ 2 ^ 66 * others = mul-le-mul_right others grants in
    omega (arith, all, quanta, few, left)

-- what a turn of these numbers is
pub turn-is : (name class : ℕ) (s : Schedule) (share : Share) (bytes deficit ahead : ℕ) (k : Class) → name ≡ class → share ≡ share_among k s.classes
    → quantum_of name s.classes ≡ k.quantum → deficit ≡ deficit_of class (woken class s).active → ahead ≡ deficits_ahead class (woken class s).active s.classes
    → bytes + div_ceil (bytes - deficit) share.quantum * (share.quanta - share.quantum) + ahead ≡ turn_now name bytes s
turn-is name class s share bytes deficit ahead k same shares quantum deficits left =
    let d : ℕ = deficit_of name (woken name s).active in
    let a : ℕ = deficits_ahead name (woken name s).active s.classes in
    ap (λ n. bytes + div_ceil (bytes - n) share.quantum * (share.quanta - share.quantum) + ahead)
    (deficits ∙ ap (λ i. deficit_of i (woken i s).active) (sym same))
    ∙ ap (λ n. bytes + div_ceil (bytes - d) share.quantum * (share.quanta - share.quantum) + n)
    (left ∙ ap (λ i. deficits_ahead i (woken i s).active s.classes) (sym same))
    ∙ ap (λ (z : Share). bytes + div_ceil (bytes - d) z.quantum * (z.quanta - z.quantum) + a) shares
    ∙ ap (λ q. bytes + div_ceil (bytes - d) q * (sum_by (λ (c : Class). c.quantum) s.classes - q) + a) (sym quantum)
