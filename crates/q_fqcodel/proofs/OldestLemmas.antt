-- The earliest of times that are joined, and that of the flows up to one.
use Rattle.std.proofs.Common.{◌≡◌, ℕ, zero, suc, ◌<◌, ◌∙◌, List, [], ◌∷◌, ◌++◌, take, length, Option, Some, None, refl, sym, ap, arith}
use Rattle.std.specs.Prelude.{min}
use Rattle.std.specs.Option.{option_to_list}
use Rattle.std.proofs.lemmas.List.{append_assoc, append-nil}
use Rattle.q_fqcodel.specs.FqState.{Flow, queue_of}
use Rattle.q_fqcodel.specs.Oldest.{earlier, earliest, first_arrival, first_arrivals}

-- the earlier of three times
pub earlier_assoc : (a b c : Option ℕ) → earlier (earlier a b) c ≡ earlier a (earlier b c)
earlier_assoc None b c = refl
earlier_assoc (Some x) None c = refl
earlier_assoc (Some x) (Some y) None = refl
earlier_assoc (Some x) (Some y) (Some z) = ap (λ (n : ℕ). Some n) (least x y z)
  where
    least : (x y z : ℕ) → min (min x y) z ≡ min x (min y z)
    least x y z = omega arith

pub earliest-append : (xs ys : List ℕ) → earliest (xs ++ ys) ≡ earlier (earliest xs) (earliest ys)
earliest-append [] ys = refl
earliest-append (x ∷ xs) ys = ap (earlier (Some x)) (earliest-append xs ys) ∙ sym (earlier_assoc (Some x) (earliest xs) (earliest ys))

pub earliest-one : (o : Option ℕ) → earliest (option_to_list o) ≡ o
earliest-one None = refl
earliest-one (Some x) = refl

-- one flow more
arrivals-more : (n : ℕ) (flows : List Flow) → n < length flows → first_arrivals (take (suc n) flows) ≡ first_arrivals (take n flows) ++ option_to_list (first_arrival (queue_of flows n))
arrivals-more n [] h = absurd (omega (arith, h))
arrivals-more zero (f ∷ flows) h = append-nil (option_to_list (first_arrival f.queue))
arrivals-more (suc n) (f ∷ flows) h =
    ap (λ (ts : List ℕ). option_to_list (first_arrival f.queue) ++ ts) (arrivals-more n flows (omega (arith, h)))
    ∙ sym (append_assoc (option_to_list (first_arrival f.queue)) (first_arrivals (take n flows)) (option_to_list (first_arrival (queue_of flows n))))

pub oldest-next : (n : ℕ) (flows : List Flow) → n < length flows
    → earlier (earliest (first_arrivals (take n flows))) (first_arrival (queue_of flows n)) ≡ earliest (first_arrivals (take (suc n) flows))
oldest-next n flows h =
    ap (earlier (earliest (first_arrivals (take n flows)))) (sym (earliest-one (first_arrival (queue_of flows n))))
    ∙ sym (earliest-append (first_arrivals (take n flows)) (option_to_list (first_arrival (queue_of flows n))))
    ∙ ap earliest (sym (arrivals-more n flows h))
