-- What noting events one by one leaves in a ring.
use Rattle.std.proofs.Common.{◌≡◌, ◌∙◌, ◌-◌, ◌≤◌, ℕ, List, [], ◌∷◌, ◌++◌, length, drop, min, refl, sym, ap, ap₂, arith}
use Rattle.std.proofs.lemmas.List.{append_assoc, append-nil, drop_all, drop-append-le, drop-drop, length-append, length-drop}
use Rattle.q_model.specs.declared.event.Event.{Event}
use Rattle.q_device.specs.device.DeviceSeen.{most_events}
use Rattle.q_device.specs.log.LastNoted.{LastNoted, all_noted, last_of, none_noted, with_noted}

-- the last of a list and one more are the last of what was kept and that one
pub last-more : {A : Type 0} (n : ℕ) (xs : List A) (x : A) → last_of n (last_of n xs ++ x ∷ []) ≡ last_of n (xs ++ x ∷ [])
last-more n xs x =
    let k : ℕ = length xs - n in
    let kept = drop k xs in
    let all = xs ++ x ∷ [] in
    ap (λ ys. drop (length (kept ++ x ∷ []) - n) ys) (sym (drop-append-le k xs (x ∷ []) (omega arith)))
    ∙ drop-drop (length (kept ++ x ∷ []) - n) k all
    ∙ ap (λ m. drop m all) (omega (arith, length-append kept (x ∷ []), length-append xs (x ∷ []), length-drop k xs))

-- where all of so many places are taken, the oldest leaves; else none does
pub last-full : {A : Type 0} (n : ℕ) (xs : List A) → 1 ≤ n → length xs ≡ n → drop 1 xs ≡ last_of (n - 1) xs
last-full n xs some is = let one : 1 ≡ length xs - (n - 1) = omega (arith, some, is) in ap (λ m. drop m xs) one

pub last-all : {A : Type 0} (n : ℕ) (xs : List A) → length xs ≤ n → xs ≡ last_of n xs
last-all n xs within = let none : 0 ≡ length xs - n = omega (arith, within) in ap (λ m. drop m xs) none

-- then one more comes
pub last-room : {A : Type 0} (n : ℕ) (xs : List A) (x : A) → 1 ≤ n → last_of (n - 1) xs ++ x ∷ [] ≡ last_of n (xs ++ x ∷ [])
last-room n xs x some =
    let same : length xs - (n - 1) ≡ length (xs ++ x ∷ []) - n = omega (arith, some, length-append xs (x ∷ [])) in
    sym (drop-append-le (length xs - (n - 1)) xs (x ∷ []) (omega arith)) ∙ ap (λ m. drop m (xs ++ x ∷ [])) same

-- no place keeps nothing
pub last-none : {A : Type 0} (xs : List A) (x : A) → length xs ≡ 0 → xs ≡ last_of 0 (xs ++ x ∷ [])
last-none [] x none = refl
last-none (y ∷ ys) x none = absurd (omega (arith, none))

abbrev ring : ℕ → List Event → LastNoted
ring places es = record { places = places; noted = min (length es) most_events; events = last_of places es }

-- in a new ring there are the last of none
pub ring-new : (places : ℕ) → none_noted places ≡ ring places []
ring-new places =
    let none : List Event = [] in
    ap₂ (λ n (xs : List Event). record { places = places; noted = n; events = xs }) (omega arith) (sym (drop_all (length none - places) none (omega arith)))

pub noted-more : (places : ℕ) (es : List Event) (e : Event) → with_noted e (ring places es) ≡ ring places (es ++ e ∷ [])
noted-more places es e = ap₂ (λ n (xs : List Event). record { places = places; noted = n; events = xs }) (omega (arith, length-append es (e ∷ []))) (last-more places es e)

pub all-more : (places : ℕ) (before es : List Event) → all_noted es (ring places before) ≡ ring places (before ++ es)
all-more places before [] = ap (ring places) (sym (append-nil before))
all-more places before (e ∷ es) =
    ap (all_noted es) (noted-more places before e)
    ∙ all-more places (before ++ e ∷ []) es
    ∙ ap (ring places) (append_assoc before (e ∷ []) es)
