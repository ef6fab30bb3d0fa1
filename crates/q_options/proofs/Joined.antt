-- What a line has gained while a text was added to it byte by byte.
use Rattle.std.proofs.Common.{◌≡◌, ◌∙◌, ◌⊎◌, inl, inr, ◌≤◌, ◌<◌, ◌+◌, ◌++◌, [], ◌∷◌, All, Bool, false, List, ℕ, ap, ap₂, arith, get_or, length, refl, rules, subst, sym, take}
use Rattle.std.proofs.lemmas.List.{append-nil, append_assoc, append_cancel_left, length-append, take_more}
use Rattle.std.proofs.lemmas.List.Elements.{All-get_or, All-nil, All-push}
use Rattle.q_options.specs.Usage.{IsPrintable}

pub record Joins (text old new : List ℕ) (begins : Bool) (count : ℕ) : Type 0 where
  pub joined : List ℕ
  pub printable : All IsPrintable joined
  pub is : new ≡ old ++ joined
  pub short : length joined ≤ count
  -- of printable bytes none was left out or changed
  pub plain : All IsPrintable text → (joined ≡ take count text) × (begins ≡ false)

pub joins_none : (text old : List ℕ) → Joins text old old false 0
joins_none text old = record { joined = []; printable = All-nil IsPrintable; is = sym (append-nil old); short = search rules; plain = λ _. (refl, refl) }

-- a byte was added, or what stands for it, or it was left out; one that is printable was added as it is
pub joins_step : (text old new newer : List ℕ) (begins after : Bool) (count byte d : ℕ) → count < length text → byte ≡ get_or text count d
    → (newer ≡ new) ⊎ ((shown : ℕ) × IsPrintable shown × (newer ≡ new ++ (shown ∷ [])))
    → (begins ≡ false → IsPrintable byte → (after ≡ false) × (newer ≡ new ++ (byte ∷ [])))
    → Joins text old new begins count → Joins text old newer after (count + 1)
joins_step text old new newer begins after count byte d within at kept plain j = by_case kept
  where
    here : All IsPrintable text → IsPrintable byte
    here all = subst IsPrintable (sym at) (All-get_or IsPrintable text count d within all)

    more : (joined : List ℕ) → newer ≡ old ++ joined → All IsPrintable text → (joined ≡ take (count + 1) text) × (after ≡ false)
    more joined is all =
        let (front, off) = j.plain all in
        let (stays, grown) = plain off (here all) in
        let whole : old ++ joined ≡ old ++ take (count + 1) text =
        sym is ∙ grown ∙ ap₂ (λ xs x. xs ++ (x ∷ [])) (j.is ∙ ap (λ xs. old ++ xs) front) at ∙ append_assoc old (take count text) (get_or text count d ∷ []) ∙ ap (λ xs. old ++ xs) (sym (take_more text count d within)) in
        (append_cancel_left old joined (take (count + 1) text) whole, stays)

    by_case : (newer ≡ new) ⊎ ((shown : ℕ) × IsPrintable shown × (newer ≡ new ++ (shown ∷ []))) → Joins text old newer after (count + 1)
    by_case (inl same) = let short = j.short in
        let is = same ∙ j.is in
        record { joined = j.joined; printable = j.printable; is = is; short = omega arith; plain = more j.joined is }
    by_case (inr (shown, p, e)) = let short = j.short in
        let is = e ∙ ap (λ xs. xs ++ (shown ∷ [])) j.is ∙ append_assoc old j.joined (shown ∷ []) in
        record {
          joined = j.joined ++ (shown ∷ []);
          printable = All-push IsPrintable j.joined shown j.printable p;
          is = is;
          short = omega (arith, length-append j.joined (shown ∷ []));
          plain = more (j.joined ++ (shown ∷ [])) is;
        }
