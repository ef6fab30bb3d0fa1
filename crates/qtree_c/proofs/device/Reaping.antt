-- Losses that are handed out into lent places, after so many of them.
use Rattle.std.proofs.Common.{◌≡◌, ℕ, suc, ◌+◌, ◌<◌, ◌≤◌, List, [], ◌∷◌, ◌++◌, refl, sym, ap, ap₂, subst, ◌∙◌, arith, Some, None}
use Rattle.std.specs.Prelude.{drop, length, map, set, slice_get, take}
use Rattle.q_codel.specs.declared.loss.Loss.{Loss}
use Rattle.q_device.specs.device.DeviceSeen.{DeviceSeen, reaped}
use Rattle.qtree_c.specs.abi.Structs.{loss_of}
use Rattle.qtree_c.specs.device.Folds.{IsReaps}
use Rattle.qtree_c.specs.declared.abi.c_loss.CLoss.{CLoss}
use Rattle.q_device.proofs.PlaceLemmas.{filled-more, next-taken, next-dropped, next-counted, some-left, none-left, map-more, length-taken, all-dropped}

-- where none waits nothing is handed out
nothing-more : (i : ℕ) (d : DeviceSeen) → length d.waiting ≤ i
    → reaped (record d { waiting = drop i d.waiting; handed_out = d.handed_out + i })
    ≡ record d { waiting = drop i d.waiting; handed_out = d.handed_out + i }
nothing-more i d le =
    let none : drop i d.waiting ≡ [] = all-dropped i d.waiting le in
    ap₂ (λ (ws : List Loss) (n : ℕ). record d { waiting = ws; handed_out = n }) (ap (λ (xs : List Loss). drop 1 xs) none ∙ sym none)
    (ap (λ (xs : List Loss). d.handed_out + i + length (take 1 xs)) none ∙ omega arith)

-- `i` losses are handed out, and stand in the first places
pub record IsReaping (i : ℕ) (before after : List CLoss) (d d' : DeviceSeen) : Type 0 where
  pub most : i ≤ length d.waiting
  pub places : after ≡ map loss_of (take i d.waiting) ++ drop i before
  pub rest : d' ≡ record d { waiting = drop i d.waiting; handed_out = d.handed_out + i }

pub reaping-begins : (before : List CLoss) (d : DeviceSeen) → IsReaping 0 before before d d
reaping-begins before d = record {
  most = omega arith;
  places = refl;
  rest = ap (λ (n : ℕ). record d { handed_out = n }) (omega arith);
}

pub reaping-more : (i : ℕ) (before after : List CLoss) (d d' d'' : DeviceSeen) (l : Loss) → IsReaping i before after d d' → i < length before
    → Some l ≡ slice_get d'.waiting 0 → d'' ≡ reaped d' → IsReaping (i + 1) before (set after i (loss_of l)) d d''
reaping-more i before after d d' d'' l inv lt oldest is =
    let next : suc i ≡ i + 1 = omega arith in
    let there : slice_get (drop i d.waiting) 0 ≡ Some l = sym (oldest ∙ ap (λ (x : DeviceSeen). slice_get x.waiting 0) inv.rest) in
    let counted : length (map loss_of (take i d.waiting)) ≡ i = length-taken i d.waiting loss_of inv.most in
    record {
      most = let left = some-left i d.waiting l there in omega (arith, left);
      places = ap (λ (xs : List CLoss). set xs i (loss_of l)) inv.places
          ∙ (subst (λ (k : ℕ). set (map loss_of (take i d.waiting) ++ drop k before) k (loss_of l) ≡ (map loss_of (take i d.waiting) ++ loss_of l ∷ []) ++ drop (suc k) before) counted
          (filled-more (map loss_of (take i d.waiting)) before (loss_of l) (omega (arith, counted, lt)))
          ∙ ap₂ (λ (xs : List CLoss) (k : ℕ). xs ++ drop k before)
          (sym (ap (λ ys. map loss_of ys) (next-taken i d.waiting l there) ∙ map-more loss_of (take i d.waiting) l) ∙ ap (λ (k : ℕ). map loss_of (take k d.waiting)) next) next);
      rest = is ∙ (ap (λ (x : DeviceSeen). reaped x) inv.rest
          ∙ ap₂ (λ (ws : List Loss) (n : ℕ). record d { waiting = ws; handed_out = n }) (next-dropped i d.waiting ∙ ap (λ (k : ℕ). drop k d.waiting) next)
          (let one = next-counted i d.waiting l there in omega (arith, one)));
    }

-- as many as there are places
pub reaping-ends : (i n : ℕ) (before after : List CLoss) (d d' : DeviceSeen) → IsReaping i before after d d' → i ≡ n → length before ≡ n → IsReaps 0 i before after d d'
reaping-ends i n before after d d' inv end len = record {
  most = inv.most;
  losses = inv.places;
  rest = inv.rest;
  all = λ _. omega (arith, end, len);
  none_left = λ ne. absurd (ne refl);
}

-- no more of them wait
pub reaping-stops : (i : ℕ) (before after : List CLoss) (d d' d'' : DeviceSeen) → IsReaping i before after d d' → i < length before
    → None ≡ slice_get d'.waiting 0 → d'' ≡ reaped d' → IsReaps 32 i before after d d''
reaping-stops i before after d d' d'' inv lt none is =
    let gone : slice_get (drop i d.waiting) 0 ≡ None = sym (none ∙ ap (λ (x : DeviceSeen). slice_get x.waiting 0) inv.rest) in
    let left : length d.waiting ≤ i = none-left i d.waiting gone in
    record {
      most = inv.most;
      losses = inv.places;
      rest = is ∙ (ap (λ (x : DeviceSeen). reaped x) inv.rest ∙ nothing-more i d left);
      all = λ e. absurd (omega (arith, e));
      none_left = λ _. (refl, lt, omega (arith, left, inv.most));
    }
