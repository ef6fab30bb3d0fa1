-- What holds throughout a part of a replay, and of its events, shown by computing a test of each state.
use Rattle.std.proofs.Common.{◌≡◌, List, [], ◌∷◌, ◌++◌, drop, refl, sym, ap, subst, Option, Some, None, option_map}
use Rattle.std.specs.Prelude.{Bool, true, false, ◌&&◌, All, is_some, slice_get}
use Rattle.std.specs.List.{list_all}
use Rattle.std.specs.Option.{option_map_or}
use Rattle.std.proofs.lemmas.Bool.{and_from, and_parts, false≢true}
use Rattle.std.proofs.lemmas.List.Elements.{All-nil, All-cons}
use Rattle.std.proofs.lemmas.Option.{none-some, same_Some}
use Rattle.q_model.specs.declared.event.Event.{Event}
use Rattle.q_model.specs.Replay.{Replay, with_step, replay_from, replay, nothing_yet}
use Rattle.q_model.specs.Settings.{DeviceSettings}
use Rattle.q_model.specs.Step.{DeviceState, step}
use Rattle.q_model.specs.Stretches.{Throughout}
use Rattle.q_model.specs.Tally.{Note, history}
use Rattle.q_invariants.proofs.Along.{replay-twice}

-- ---- what is there

pub record Found (A : Type 0) (o : Option A) : Type 0 where
  pub value : A
  pub is : o ≡ Some value

pub found : {A : Type 0} (o : Option A) → is_some o ≡ true → Found A o
found None h = absurd (false≢true h)
found (Some x) h = record { value = x; is = refl }

pub record Passing (A : Type 0) (test : A → Bool) (o : Option A) : Type 0 where
  pub value : A
  pub is : o ≡ Some value
  pub passes : test value ≡ true

pub passing : {A : Type 0} (test : A → Bool) (o : Option A) → option_map_or test o false ≡ true → Passing A test o
passing test None h = absurd (false≢true h)
passing test (Some x) h = record { value = x; is = refl; passes = h }

-- what is computed of it
pub value-of : {A B : Type 0} (f : A → B) (o : Option A) (x : A) (y : B) → o ≡ Some x → option_map f o ≡ Some y → f x ≡ y
value-of f o x y is h = same_Some (f x) y (subst (λ p. option_map f p ≡ Some y) is h)

-- ---- lists

pub all-by : {A : Type 0} (P : A → Type 0) (test : A → Bool) → ((x : A) → test x ≡ true → P x) → (xs : List A) → list_all test xs ≡ true → All P xs
all-by P test sound [] h = All-nil P
all-by P test sound (x ∷ xs) h =
    let parts = and_parts (test x) (list_all test xs) h in
    All-cons P x xs (sound x parts.0) (all-by P test sound xs parts.1)

-- ---- states of a replay

abbrev pub passes : (DeviceState (List Note) → Bool) → Replay (List Note) → List Event → Bool
passes test r [] = test r.device
passes test r (e ∷ events) = test r.device && passes test (with_step r (step history r.device e)) events

-- two tests at once
abbrev pub both : (DeviceState (List Note) → Bool) → (DeviceState (List Note) → Bool) → DeviceState (List Note) → Bool
both a b d = a d && b d

module _ (a b : DeviceState (List Note) → Bool) where
  pub passes-left : (r : Replay (List Note)) (events : List Event) → passes (both a b) r events ≡ true → passes a r events ≡ true
  passes-left r [] h = (and_parts (a r.device) (b r.device) h).0
  passes-left r (e ∷ events) h =
      let next : Replay (List Note) = with_step r (step history r.device e) in
      let here = and_parts (both a b r.device) (passes (both a b) next events) h in
      and_from (a r.device) (passes a next events) (and_parts (a r.device) (b r.device) here.0).0 (passes-left next events here.1)

  pub passes-right : (r : Replay (List Note)) (events : List Event) → passes (both a b) r events ≡ true → passes b r events ≡ true
  passes-right r [] h = (and_parts (a r.device) (b r.device) h).1
  passes-right r (e ∷ events) h =
      let next : Replay (List Note) = with_step r (step history r.device e) in
      let here = and_parts (both a b r.device) (passes (both a b) next events) h in
      and_from (b r.device) (passes b next events) (and_parts (a r.device) (b r.device) here.0).1 (passes-right next events here.1)

module _ (P : DeviceState (List Note) → Type 0) where
  abbrev pub InEach : Replay (List Note) → List Event → Type 0
  InEach r [] = P r.device
  InEach r (e ∷ events) = P r.device × InEach (with_step r (step history r.device e)) events

  in-one : (r : Replay (List Note)) (during : List Event) → InEach r during → (seen later : List Event) → seen ++ later ≡ during → P (replay_from history r seen).device
  in-one r [] h [] later e = h
  in-one r [] h (x ∷ seen) later e = absurd (none-some x (sym (ap (λ xs. slice_get xs 0) e)))
  in-one r (d ∷ during) h [] later e = h.0
  in-one r (d ∷ during) h (x ∷ seen) later e =
      let same : x ≡ d = same_Some x d (ap (λ xs. slice_get xs 0) e) in
      subst (λ y. P (replay_from history (with_step r (step history r.device y)) seen).device) (sym same)
      (in-one (with_step r (step history r.device d)) during h.1 seen later (ap (λ xs. drop 1 xs) e))

  pub in-each : (settings : DeviceSettings) (before during : List Event) → InEach (replay history settings before) during → Throughout P settings before during
  in-each settings before during h seen later e =
      subst (λ (r : Replay (List Note)). P r.device) (sym (replay-twice (nothing_yet history settings) before seen))
      (in-one (replay history settings before) during h seen later e)

  module _ (test : DeviceState (List Note) → Bool) (sound : (d : DeviceState (List Note)) → test d ≡ true → P d) where
    by-each : (r : Replay (List Note)) (during : List Event) → passes test r during ≡ true → InEach r during
    by-each r [] h = sound r.device h
    by-each r (e ∷ during) h =
        let next : Replay (List Note) = with_step r (step history r.device e) in
        let parts = and_parts (test r.device) (passes test next during) h in
        (sound r.device parts.0, by-each next during parts.1)

    pub by-test : (settings : DeviceSettings) (before during : List Event) → passes test (replay history settings before) during ≡ true → Throughout P settings before during
    by-test settings before during h = in-each settings before during (by-each (replay history settings before) during h)
