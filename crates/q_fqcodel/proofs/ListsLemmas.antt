-- Both lists of flows at once: what one of them is after a change of it, and the other one.
use Rattle.std.proofs.Common.{◌≡◌, ◌≢◌, ℕ, zero, suc, ◌<◌, ◌≤◌, Bool, true, false, not, ◌==◌, ◌||◌, List, [], ◌∷◌, ◌++◌, length, set, drop, replicate, slice_get, if◌then◌else◌, Some, None, IfSome, refl, sym, ap, ◌∙◌, arith, subst, ⊎_elim, ◌⊎◌, inl, inr}
use Rattle.std.proofs.Math.ListN.{length-replicate}
use Rattle.std.proofs.lemmas.List.{length-set}
use Rattle.std.proofs.lemmas.Bool.{false≢true, cond-true, cond-false, eqb-true, not-true, not-false}
use Rattle.std.proofs.lemmas.List.{nil_from_length}
use Rattle.q_fqcodel.specs.Entry.{Entry}
use Rattle.q_fqcodel.specs.Linked.{IsChain}
use Rattle.q_fqcodel.specs.Links.{ListsState, no_link, no_ends, link_of, where_listed, link_at, listing, IsAt, entries_in, IsLine, IsLists, KeepsLines}
use Rattle.q_fqcodel.specs.Put.{is_listed}
use Rattle.q_fqcodel.specs.declared.ends.Ends.{Ends}
use Rattle.q_fqcodel.specs.declared.link.Link.{Link}
use Rattle.q_fqcodel.specs.declared.place.Place.{Place}
use Rattle.q_fqcodel.specs.declared.place.Place.TheVariants.{Unlisted, New, Old}
use Rattle.q_fqcodel.proofs.LinkedLemmas.{length-chain}
use Rattle.q_fqcodel.proofs.LinkLemmas.{no_entries, front_entry, listed_there, free_at, head_within, renewed_entries, renewed_line, renewed_keeps}

pub counted : (links : List Link) (place : Place) (ends : Ends) → IsLine links place ends → length (entries_in links ends) ≡ ends.count
counted links place ends line = length-chain listing (IsAt place) (link_at links) ends.tail ends.count ends.head line.linked

-- the flow in front is the one that the list begins with
pub front_flow : (links : List Link) (place : Place) (ends : Ends) (n : ℕ) → IsLine links place ends → 0 < ends.count → IfSome (slice_get (entries_in links ends) 0) (λ e. e.flow ≡ n) → ends.head ≡ n
front_flow links place ends n line some own =
    subst (λ (l : List Entry). IfSome (slice_get l 0) (λ e. e.flow ≡ n)) (front_entry links place ends some line) own

pub front_flow_all : (links : List Link) (place : Place) (ends : Ends) (behind : List Entry) (n : ℕ) → IsLine links place ends → 0 < ends.count
    → IfSome (slice_get (entries_in links ends ++ behind) 0) (λ e. e.flow ≡ n) → ends.head ≡ n
front_flow_all links place ends behind n line some own =
    subst (λ (l : List Entry). IfSome (slice_get (l ++ behind) 0) (λ e. e.flow ≡ n)) (front_entry links place ends some line) own

-- ---- the front is written: in the old list where the new one is empty

pub none_new : (n : ℕ) → not (n == 0) ≡ false → n ≡ 0
none_new n h = eqb-true n 0 (not-false (n == 0) h)

pub written_new : (new_flows old_flows : List Entry) (e : Entry) → not (length new_flows == 0) ≡ true → old_flows ≡ (if length new_flows == 0 then set old_flows 0 e else old_flows)
written_new new_flows old_flows e h = sym (cond-false (length new_flows == 0) (set old_flows 0 e) old_flows (not-true (length new_flows == 0) h))

pub written_old : (new_flows old_flows : List Entry) (e : Entry) → not (length new_flows == 0) ≡ false
    → (new_flows ≡ set new_flows 0 e) × (set old_flows 0 e ≡ (if length new_flows == 0 then set old_flows 0 e else old_flows))
written_old new_flows old_flows e h =
    let none : new_flows ≡ [] = nil_from_length new_flows (none_new (length new_flows) h) in (
      none ∙ sym (ap (λ (l : List Entry). set l 0 e) none),
      sym (cond-true (length new_flows == 0) (set old_flows 0 e) old_flows (not-false (length new_flows == 0) h)),
    )

pub some_or_none : (n : ℕ) → (0 < n) ⊎ (n ≡ 0)
some_or_none zero = inr refl
some_or_none (suc n) = inl (omega arith)

-- the link of the flow in front is written, which is found by the flow's index
module _ (links : List Link) (place : Place) (ends : Ends) (some : 0 < ends.count) (line : IsLine links place ends) (e : Entry) (own : ends.head ≡ e.flow) where
  abbrev paid : List Link
  paid = set links e.flow (record (link_of links e.flow) { credits = e.credits })

  by_index : set links ends.head (record (link_of links ends.head) { credits = e.credits }) ≡ paid
  by_index = ap (λ (n : ℕ). set links n (record (link_of links n) { credits = e.credits })) own

  pub own_within : e.flow < length links
  own_within = omega (arith, own, head_within links place ends some line)

  pub paid_entries : entries_in paid ends ≡ set (entries_in links ends) 0 e
  paid_entries =
      ap (λ (l : List Link). entries_in l ends) (sym by_index)
      ∙ renewed_entries links place ends some line e.credits
      ∙ ap (λ (n : ℕ). set (entries_in links ends) 0 (record { flow = n; credits = e.credits })) own

  pub paid_line : IsLine paid place ends
  paid_line = subst (λ (l : List Link). IsLine l place ends) by_index (renewed_line links place ends some line e.credits)

  pub paid_keeps : KeepsLines place links paid
  paid_keeps = subst (λ (l : List Link). KeepsLines place links l) by_index (renewed_keeps links place ends some line e.credits)

-- a list of one flow, written or turned round
pub turned_alone : (l : List Entry) (e : Entry) → length l ≡ 1 → set l 0 e ≡ drop 1 l ++ e ∷ []
turned_alone [] e h = absurd (omega (arith, h))
turned_alone (x ∷ []) e h = refl
turned_alone (x ∷ y ∷ l) e h = absurd (omega (arith, h))

pub new_or_old : New ≢ Old
new_or_old e = absurd cc

-- both lists, once the flow in front is written
module _ (links : List Link) (new_flows old_flows : Ends) (lists : IsLists links new_flows old_flows) (e : Entry) where
  abbrev written_links : List Link
  written_links = set links e.flow (record (link_of links e.flow) { credits = e.credits })

  long : length written_links ≡ length links
  long = length-set links e.flow (record (link_of links e.flow) { credits = e.credits })

  module _ (some : 0 < new_flows.count) (own : new_flows.head ≡ e.flow) where
    pub written_new_lists : IsLists written_links new_flows old_flows
    written_new_lists = record {
      room = omega (arith, lists.room, long);
      new = paid_line links New new_flows some lists.new e own;
      old = (paid_keeps links New new_flows some lists.new e own).linked Old old_flows (λ at. new_or_old (sym at)) lists.old;
    }

    pub written_new_entries : (entries_in written_links new_flows ≡ set (entries_in links new_flows) 0 e) × (entries_in written_links old_flows ≡ entries_in links old_flows)
    written_new_entries = (
      paid_entries links New new_flows some lists.new e own,
      (paid_keeps links New new_flows some lists.new e own).same Old old_flows (λ at. new_or_old (sym at)) lists.old,
    )

  module _ (some : 0 < old_flows.count) (own : old_flows.head ≡ e.flow) where
    pub written_old_lists : IsLists written_links new_flows old_flows
    written_old_lists = record {
      room = omega (arith, lists.room, long);
      new = (paid_keeps links Old old_flows some lists.old e own).linked New new_flows new_or_old lists.new;
      old = paid_line links Old old_flows some lists.old e own;
    }

    pub written_old_entries : (entries_in written_links new_flows ≡ entries_in links new_flows) × (entries_in written_links old_flows ≡ set (entries_in links old_flows) 0 e)
    written_old_entries = (
      (paid_keeps links Old old_flows some lists.old e own).same New new_flows new_or_old lists.new,
      paid_entries links Old old_flows some lists.old e own,
    )

-- ---- whether a flow is listed

is_listed_in_either : (n : ℕ) (es fs : List Entry) → is_listed n (es ++ fs) ≡ true → (is_listed n es ≡ true) ⊎ (is_listed n fs ≡ true)
is_listed_in_either n [] fs h = inr h
is_listed_in_either n (e ∷ es) fs h = wider (e.flow == n) (is_listed n es) (is_listed n (es ++ fs)) h (is_listed_in_either n es fs)
  where
    wider : (a b c : Bool) → (a || c) ≡ true → (c ≡ true → (b ≡ true) ⊎ (is_listed n fs ≡ true)) → ((a || b) ≡ true) ⊎ (is_listed n fs ≡ true)
    wider true b c h on = inl refl
    wider false b c h on = on h

listed_left : (n : ℕ) (es fs : List Entry) → is_listed n es ≡ true → is_listed n (es ++ fs) ≡ true
listed_left n [] fs h = absurd (false≢true h)
listed_left n (e ∷ es) fs h = wider (e.flow == n) (is_listed n es) (is_listed n (es ++ fs)) h (listed_left n es fs)
  where
    wider : (a b c : Bool) → (a || b) ≡ true → (b ≡ true → c ≡ true) → (a || c) ≡ true
    wider true b c h on = refl
    wider false b c h on = on h

listed_right : (n : ℕ) (es fs : List Entry) → is_listed n fs ≡ true → is_listed n (es ++ fs) ≡ true
listed_right n [] fs h = h
listed_right n (e ∷ es) fs h = or_yes (e.flow == n) (is_listed n (es ++ fs)) (listed_right n es fs h)
  where
    or_yes : (a b : Bool) → b ≡ true → (a || b) ≡ true
    or_yes true b e = refl
    or_yes false b e = e

module _ (links : List Link) (new_flows old_flows : Ends) (lists : IsLists links new_flows old_flows) (n : ℕ) where
  abbrev all : List Entry
  all = entries_in links new_flows ++ entries_in links old_flows

  pub not_listed : (link_of links n).place ≡ Unlisted → false ≡ is_listed n all
  not_listed free = sym (unless (is_listed n all) (λ h. ⊎_elim
      (λ (a : is_listed n (entries_in links new_flows) ≡ true). nowhere (listed_there (link_at links) New new_flows.tail new_flows.count new_flows.head n lists.new.linked a))
      (λ (b : is_listed n (entries_in links old_flows) ≡ true). nowhere (listed_there (link_at links) Old old_flows.tail old_flows.count old_flows.head n lists.old.linked b))
      (is_listed_in_either n (entries_in links new_flows) (entries_in links old_flows) h)))
    where
      unless : (b : Bool) → (b ≡ true → false ≡ true) → b ≡ false
      unless true h = absurd (false≢true (h refl))
      unless false h = refl

      nowhere : {P : Link → Type 0} → (x : Link) × (link_at links n ≡ Some x) × P x → false ≡ true
      nowhere x = let p : None ≡ Some x.0 = sym (free_at links n free) ∙ x.1 in absurd cc

  pub listed_new : (link_of links n).place ≡ New → true ≡ is_listed n all
  listed_new at = sym (listed_left n (entries_in links new_flows) (entries_in links old_flows) (lists.new.whole n (link_of links n) (ap (where_listed (link_of links n)) at) at))

  pub listed_old : (link_of links n).place ≡ Old → true ≡ is_listed n all
  listed_old at = sym (listed_right n (entries_in links new_flows) (entries_in links old_flows) (lists.old.whole n (link_of links n) (ap (where_listed (link_of links n)) at) at))

-- ---- no flow is listed

nothing_of : (n k : ℕ) → link_of (replicate n no_link) k ≡ no_link
nothing_of zero k = refl
nothing_of (suc n) zero = refl
nothing_of (suc n) (suc k) = nothing_of n k

nothing_at : (n k : ℕ) → link_at (replicate n no_link) k ≡ None
nothing_at n k = free_at (replicate n no_link) k (ap (λ (x : Link). x.place) (nothing_of n k))

empty_line : (n : ℕ) (place : Place) → IsLine (replicate n no_link) place no_ends
unfolding IsChain
empty_line n place = record {
  linked = tt;
  whole = λ k x there own. let p : None ≡ Some x = sym (nothing_at n k) ∙ there in absurd cc;
}

pub empty_lists : (n : ℕ) (links : List Link) (new_flows old_flows : Ends) → links ≡ replicate n no_link → new_flows ≡ no_ends → old_flows ≡ no_ends → n ≤ 65536 → IsLists links new_flows old_flows
empty_lists n links new_flows old_flows all new old few =
    rw (all, new, old) (record { room = omega (arith, few, length-replicate n no_link); new = empty_line n New; old = empty_line n Old })

pub empty_state : (n : ℕ) (links : List Link) (new_flows old_flows : Ends) → links ≡ replicate n no_link → new_flows ≡ no_ends → old_flows ≡ no_ends
    → ◌≡◌ {A = ListsState} (record { new_flows = entries_in links new_flows; old_flows = entries_in links old_flows; room = length links }) (record { new_flows = []; old_flows = []; room = n })
empty_state n links new_flows old_flows all new old =
    let a : entries_in links new_flows ≡ [] = no_entries links new_flows (ap (λ (e : Ends). e.count) new) in
    let b : entries_in links old_flows ≡ [] = no_entries links old_flows (ap (λ (e : Ends). e.count) old) in
    let c : length links ≡ n = ap length all ∙ length-replicate n no_link in
    cc
