-- The lists of new and old flows as linked values: one flow more at the end, the first taken out, and the first written anew.
use Rattle.std.proofs.Common.{◌≡◌, ◌≢◌, ℕ, zero, suc, ◌+◌, ◌<◌, ◌≤◌, ℤ, Bool, true, false, ◌||◌, ◌==◌, List, [], ◌∷◌, ◌++◌, length, set, drop, ◌⊎◌, inl, inr, Option, Some, None, refl, sym, ap, ap₂, ◌∙◌, arith, eq-eqb, subst, subst₂, ⊎_elim}
use Rattle.std.specs.Prelude.{◌-◌}
use Rattle.std.proofs.lemmas.Bool.{cases_eq, cases_lt, false≢true, eqb-true}
use Rattle.std.proofs.lemmas.List.{length-set, get_or-set_same, get_or-set_other, get_or_past, set-set}
use Rattle.q_fqcodel.specs.Entry.{Entry}
use Rattle.q_fqcodel.specs.Linked.{chain, IsChain, IsAppended}
use Rattle.q_fqcodel.specs.Links.{no_link, link_of, where_listed, link_at, listing, led_on, IsAt, entries_in, IsLine, KeepsLines}
use Rattle.q_fqcodel.specs.Put.{is_listed}
use Rattle.q_fqcodel.specs.declared.ends.Ends.{Ends}
use Rattle.q_fqcodel.specs.declared.link.Link.{Link}
use Rattle.q_fqcodel.specs.declared.place.Place.{Place}
use Rattle.q_fqcodel.specs.declared.place.Place.TheVariants.{Unlisted, New, Old}
use Rattle.q_fqcodel.proofs.LinkedLemmas.{chain_none, chain_more, kept, kept_items, there, tail_of, Leads, alone, alone_items, longer, longer_items, shorter, shorter_items, rewritten, rewritten_items}

-- ---- one link

listed_is : (x y : Link) (place : Place) → where_listed x place ≡ Some y → y ≡ x
listed_is x y Unlisted e = absurd cc
listed_is x y New e = cc
listed_is x y Old e = cc

listed_shows : (x : Link) (place : Place) → place ≢ Unlisted → where_listed x place ≡ Some x
listed_shows x Unlisted ne = absurd (ne refl)
listed_shows x New ne = refl
listed_shows x Old ne = refl

place_listed : (x y : Link) (place : Place) → where_listed x place ≡ Some y → place ≢ Unlisted
place_listed x y place e none = let p : None ≡ Some y = ap (where_listed x) (sym none) ∙ e in absurd cc

pub free_at : (links : List Link) (n : ℕ) → (link_of links n).place ≡ Unlisted → link_at links n ≡ None
free_at links n e = ap (where_listed (link_of links n)) e

pub link_there : (links : List Link) (n : ℕ) (x : Link) → link_at links n ≡ Some x → (x ≡ link_of links n) × (n < length links)
link_there links n x e = (
  listed_is (link_of links n) x (link_of links n).place e,
  ⊎_elim (λ (within : n < length links). within)
      (λ (past : length links ≤ n). absurd (place_listed (link_of links n) x (link_of links n).place e (ap (λ (y : Link). y.place) (get_or_past links n no_link past))))
      (cases_lt n (length links)),
)

written : (links : List Link) (n : ℕ) (x : Link) → n < length links → link_at (set links n x) n ≡ where_listed x x.place
written links n x within = ap (λ (y : Link). where_listed y y.place) (get_or-set_same links n x no_link within)

beside : (links : List Link) (n : ℕ) (x : Link) (j : ℕ) → j ≢ n → link_at (set links n x) j ≡ link_at links j
beside links n x j ne = ap (λ (y : Link). where_listed y y.place) (get_or-set_other links n j x no_link ne)

-- ---- which flows are listed

or_yes : (a b : Bool) → b ≡ true → (a || b) ≡ true
or_yes true b e = refl
or_yes false b e = e

or_rest : (a b : Bool) → a ≡ false → (a || b) ≡ true → b ≡ true
or_rest true b none e = absurd (false≢true (sym none))
or_rest false b none e = e

other_flow : (k n : ℕ) → n ≢ k → (k == n) ≡ false
other_flow k n ne = at (k == n) refl
  where
    at : (b : Bool) → (k == n) ≡ b → (k == n) ≡ false
    at true e = absurd (ne (sym (eqb-true k n e)))
    at false e = e

itself : (n : ℕ) → (n == n) ≡ true
itself n = eq-eqb n n refl

wider : (a b c : Bool) → (a || b) ≡ true → (b ≡ true → c ≡ true) → (a || c) ≡ true
wider true b c h on = refl
wider false b c h on = on h

listed_more : (n : ℕ) (es : List Entry) (e : Entry) → is_listed n es ≡ true → is_listed n (es ++ e ∷ []) ≡ true
listed_more n [] e h = absurd (false≢true h)
listed_more n (x ∷ es) e h = wider (x.flow == n) (is_listed n es) (is_listed n (es ++ e ∷ [])) h (listed_more n es e)

listed_last : (n : ℕ) (es : List Entry) (e : Entry) → e.flow ≡ n → is_listed n (es ++ e ∷ []) ≡ true
listed_last n [] e own = ap (λ (m : ℕ). (m == n) || false) own ∙ ap (λ (b : Bool). b || false) (itself n)
listed_last n (x ∷ es) e own = or_yes (x.flow == n) (is_listed n (es ++ e ∷ [])) (listed_last n es e own)

-- a flow of a chain is there, at the chain's place
pub listed_there : (at : ℕ → Option Link) (place : Place) (t n k m : ℕ) → IsChain listing (IsAt place) at t n k
    → is_listed m (chain listing at n k) ≡ true → (x : Link) × (at m ≡ Some x) × (x.place ≡ place)
unfolding IsChain
listed_there at place t zero k m a h = absurd (false≢true (ap (is_listed m) (sym (chain_none listing at k)) ∙ h))
listed_there at place t (suc n) k m a h =
    let x : Link = a.0 in
    let h2 : ((k == m) || is_listed m (chain listing at n x.next)) ≡ true = ap (is_listed m) (sym (chain_more listing at n k x a.1)) ∙ h in
    by (k == m) refl h2 (listed_there at place t n x.next m a.4)
  where
    by : (b : Bool) → (k == m) ≡ b → ((k == m) || is_listed m (chain listing at n a.0.next)) ≡ true
        → (is_listed m (chain listing at n a.0.next) ≡ true → (x : Link) × (at m ≡ Some x) × (x.place ≡ place)) → (x : Link) × (at m ≡ Some x) × (x.place ≡ place)
    by true same h2 on = (a.0, ap at (sym (eqb-true k m same)) ∙ a.1, a.2)
    by false same h2 on = on (or_rest (k == m) _ same h2)

pub no_entries : (links : List Link) (ends : Ends) → ends.count ≡ 0 → entries_in links ends ≡ []
no_entries links ends e = ap (λ (n : ℕ). chain listing (link_at links) n ends.head) e ∙ chain_none listing (link_at links) ends.head

-- ---- what leaves the other lists alone

lines_kept : (place : Place) (links links2 : List Link) → ((j : ℕ) (x : Link) → link_at links j ≡ Some x → x.place ≢ place → link_at links2 j ≡ link_at links j)
    → ((j : ℕ) (x : Link) → link_at links2 j ≡ Some x → x.place ≢ place → link_at links2 j ≡ link_at links j) → KeepsLines place links links2
lines_kept place links links2 stays back = record { linked = λ q ends ne line. linked q ends ne line; same = λ q ends ne line. same q ends ne line }
  where
    at_chain : (q : Place) (t m j : ℕ) → q ≢ place → IsChain listing (IsAt q) (link_at links) t (suc m) j → link_at links2 j ≡ link_at links j
    at_chain q t m j ne c = let x = there listing (IsAt q) (link_at links) t m j c in stays j x.0 x.1 (λ e. ne (sym x.2 ∙ e))

    same : (q : Place) (ends : Ends) → q ≢ place → IsLine links q ends → entries_in links2 ends ≡ entries_in links ends
    same q ends ne line = kept_items listing (IsAt q) (link_at links) (link_at links2) ends.tail ends.count ends.head line.linked (λ m j less c. at_chain q ends.tail m j ne c)

    linked : (q : Place) (ends : Ends) → q ≢ place → IsLine links q ends → IsLine links2 q ends
    linked q ends ne line = record {
      linked = kept listing (IsAt q) (link_at links) (link_at links2) ends.tail ends.count ends.head line.linked (λ m j less c. at_chain q ends.tail m j ne c);
      whole = λ n x e own. ap (is_listed n) (same q ends ne line) ∙ line.whole n x (sym (back n x e (λ p. ne (sym own ∙ p))) ∙ e) own;
    }

-- ---- one flow more

leading : (place : Place) → Leads listing (IsAt place) led_on
leading place = record { next = λ k x. refl; item = λ j k x. refl; mine = λ k x o. o }

-- no flow is behind it, whatever its link says is
module _ (links : List Link) (place : Place) (ends : Ends) (flow : ℕ) (credits : ℤ) (next : ℕ) (within : flow < length links)
    (free : link_at links flow ≡ None) (named : place ≢ Unlisted) (line : IsLine links place ends) where
  abbrev new : Link
  new = record { credits = credits; next = next; place = place }

  abbrev entry : Entry
  entry = record { flow = flow; credits = credits }

  stored : link_at (set links flow new) flow ≡ Some new
  stored = written links flow new within ∙ listed_shows new place named

  -- the first flow of all
  pub first_appended : IsAppended led_on (link_at links) (link_at (set links flow new)) flow flow new
  first_appended = record {
    vacant = free;
    stored = stored;
    led = λ x e. let p : Some x ≡ None = sym e ∙ free in absurd cc;
    same = λ j _ away. beside links flow new j away;
  }

  abbrev only : Ends
  only = record { head = flow; tail = flow; count = 1 }

  pub first_entries : ends.count ≡ 0 → entries_in (set links flow new) only ≡ entries_in links ends ++ entry ∷ []
  first_entries e =
      alone_items listing (IsAt place) led_on (leading place) (link_at links) (link_at (set links flow new)) flow flow new refl first_appended
      ∙ ap (λ (l : List Entry). l ++ entry ∷ []) (sym (no_entries links ends e))

  pub first_line : ends.count ≡ 0 → IsLine (set links flow new) place only
  first_line e = record {
    linked = alone listing (IsAt place) led_on (leading place) (link_at links) (link_at (set links flow new)) flow flow new refl first_appended;
    whole = λ n x there own. ap (is_listed n) (first_entries e) ∙ whole n x there own (cases_eq n flow);
  }
    where
      whole : (n : ℕ) (x : Link) → link_at (set links flow new) n ≡ Some x → x.place ≡ place → (n ≡ flow) ⊎ (n ≢ flow) → is_listed n (entries_in links ends ++ entry ∷ []) ≡ true
      whole n x there own (inl same) = listed_last n (entries_in links ends) entry (sym same)
      whole n x there own (inr ne) = listed_more n (entries_in links ends) entry (line.whole n x (sym (beside links flow new n ne) ∙ there) own)

  pub first_keeps : KeepsLines place links (set links flow new)
  first_keeps = lines_kept place links (set links flow new)
      (λ j x e ne. beside links flow new j (λ same. let p : Some x ≡ None = sym e ∙ ap (link_at links) same ∙ free in absurd cc))
      (λ j x e ne. beside links flow new j (λ same. ne (own_place x (sym e ∙ ap (link_at (set links flow new)) same ∙ stored))))
    where
      own_place : (x : Link) → Some x ≡ Some new → x.place ≡ place
      own_place x e = let p : x ≡ new = cc in ap (λ (y : Link). y.place) p

  -- one behind those that are there
  module _ (some : ends.count ≢ 0) where
    abbrev first : List Link
    first = set links flow new

    count_is : ends.count ≡ suc (ends.count - 1)
    count_is = omega (arith, some)

    at_tail : (x : Link) × (link_at links ends.tail ≡ Some x) × (x.place ≡ place)
    at_tail = tail_of listing (IsAt place) (link_at links) ends.tail (ends.count - 1) ends.head
        (subst (λ (n : ℕ). IsChain listing (IsAt place) (link_at links) ends.tail n ends.head) count_is line.linked)

    apart : ends.tail ≢ flow
    apart e = let p : Some at_tail.0 ≡ None = sym at_tail.1 ∙ ap (link_at links) e ∙ free in absurd cc

    abbrev last : Link
    last = led_on flow (link_of first ends.tail)

    abbrev both : List Link
    both = set first ends.tail last

    -- the tail's link is as it was
    tail_is : at_tail.0 ≡ link_of first ends.tail
    tail_is = (link_there links ends.tail at_tail.0 at_tail.1).0 ∙ sym (get_or-set_other links flow ends.tail new no_link apart)

    pub tail_within : ends.tail < length first
    tail_within = omega (arith, (link_there links ends.tail at_tail.0 at_tail.1).1, length-set links flow new)

    tail_led : link_at both ends.tail ≡ Some (led_on flow at_tail.0)
    tail_led =
        written first ends.tail last tail_within
        ∙ ap (λ (x : Link). where_listed (led_on flow x) x.place) (sym tail_is)
        ∙ listed_shows (led_on flow at_tail.0) at_tail.0.place (λ e. named (sym at_tail.2 ∙ e))

    next_appended : IsAppended led_on (link_at links) (link_at both) ends.tail flow new
    next_appended = record {
      vacant = free;
      stored = beside first ends.tail last flow (λ e. apart (sym e)) ∙ stored;
      led = λ x e. let p : Some at_tail.0 ≡ Some x = sym at_tail.1 ∙ e in let q : at_tail.0 ≡ x = cc in tail_led ∙ ap (λ (y : Link). Some (led_on flow y)) q;
      same = λ j a b. beside first ends.tail last j a ∙ beside links flow new j b;
    }

    abbrev more : Ends
    more = record { head = ends.head; tail = flow; count = ends.count + 1 }

    linked_by : IsChain listing (IsAt place) (link_at links) ends.tail (suc (ends.count - 1)) ends.head
    linked_by = subst (λ (n : ℕ). IsChain listing (IsAt place) (link_at links) ends.tail n ends.head) count_is line.linked

    pub next_entries : entries_in both more ≡ entries_in links ends ++ entry ∷ []
    next_entries =
        let e2 : ends.count + 1 ≡ suc (suc (ends.count - 1)) = omega (arith, some) in
        ap (λ (n : ℕ). chain listing (link_at both) n ends.head) e2
        ∙ longer_items listing (IsAt place) led_on (leading place) (link_at links) (link_at both) ends.tail flow new refl next_appended (ends.count - 1) ends.head linked_by
        ∙ ap (λ (n : ℕ). chain listing (link_at links) n ends.head ++ entry ∷ []) (sym count_is)

    pub next_line : IsLine both place more
    next_line =
        let e2 : suc (suc (ends.count - 1)) ≡ ends.count + 1 = omega (arith, some) in
        record {
          linked = subst (λ (n : ℕ). IsChain listing (IsAt place) (link_at both) flow n ends.head) e2
              (longer listing (IsAt place) led_on (leading place) (link_at links) (link_at both) ends.tail flow new refl next_appended (ends.count - 1) ends.head linked_by);
          whole = λ n x there own. ap (is_listed n) next_entries ∙ whole n x there own (cases_eq n flow) (cases_eq n ends.tail);
        }
      where
        whole : (n : ℕ) (x : Link) → link_at both n ≡ Some x → x.place ≡ place → (n ≡ flow) ⊎ (n ≢ flow) → (n ≡ ends.tail) ⊎ (n ≢ ends.tail) → is_listed n (entries_in links ends ++ entry ∷ []) ≡ true
        whole n x there own (inl same) c = listed_last n (entries_in links ends) entry (sym same)
        whole n x there own (inr ne) (inl end) = listed_more n (entries_in links ends) entry (line.whole n at_tail.0 (ap (link_at links) end ∙ at_tail.1) at_tail.2)
        whole n x there own (inr ne) (inr other) = listed_more n (entries_in links ends) entry (line.whole n x (sym (next_appended.same n other ne) ∙ there) own)

    pub next_keeps : KeepsLines place links both
    next_keeps = lines_kept place links both
        (λ j x e ne. next_appended.same j (λ same. ne (tail_place x (sym at_tail.1 ∙ ap (link_at links) (sym same) ∙ e)))
        (λ same. let p : Some x ≡ None = sym e ∙ ap (link_at links) same ∙ free in absurd cc))
        (λ j x e ne. next_appended.same j
        (λ same. ne (led_place x (sym e ∙ ap (link_at both) same ∙ tail_led)))
        (λ same. ne (own_place x (sym e ∙ ap (link_at both) same ∙ next_appended.stored))))
      where
        own_place : (x : Link) → Some x ≡ Some new → x.place ≡ place
        own_place x e = let p : x ≡ new = cc in ap (λ (y : Link). y.place) p

        tail_place : (x : Link) → Some at_tail.0 ≡ Some x → x.place ≡ place
        tail_place x e = let p : x ≡ at_tail.0 = cc in ap (λ (y : Link). y.place) p ∙ at_tail.2

        led_place : (x : Link) → Some x ≡ Some (led_on flow at_tail.0) → x.place ≡ place
        led_place x e = let p : x ≡ led_on flow at_tail.0 = cc in ap (λ (y : Link). y.place) p ∙ at_tail.2

-- ---- the first is taken out, or written anew

module _ (links : List Link) (place : Place) (ends : Ends) (some : 0 < ends.count) (line : IsLine links place ends) where
  abbrev head : Link
  head = link_of links ends.head

  cut_is : ends.count ≡ suc (ends.count - 1)
  cut_is = omega (arith, some)

  cut : IsChain listing (IsAt place) (link_at links) ends.tail (suc (ends.count - 1)) ends.head
  cut = subst (λ (n : ℕ). IsChain listing (IsAt place) (link_at links) ends.tail n ends.head) cut_is line.linked

  at_head : (x : Link) × (link_at links ends.head ≡ Some x) × (x.place ≡ place)
  at_head = there listing (IsAt place) (link_at links) ends.tail (ends.count - 1) ends.head cut

  head_is : at_head.0 ≡ head
  head_is = (link_there links ends.head at_head.0 at_head.1).0

  pub head_within : ends.head < length links
  head_within = (link_there links ends.head at_head.0 at_head.1).1

  pub tail_there : ends.tail < length links
  tail_there =
      let x = tail_of listing (IsAt place) (link_at links) ends.tail (ends.count - 1) ends.head cut in
      (link_there links ends.tail x.0 x.1).1

  head_read : link_at links ends.head ≡ Some head
  head_read = at_head.1 ∙ ap (λ (x : Link). Some x) head_is

  head_place : head.place ≡ place
  head_place = ap (λ (x : Link). x.place) (sym head_is) ∙ at_head.2

  pub named : place ≢ Unlisted
  named e = let p : None ≡ Some at_head.0 = sym (free_at links ends.head (head_place ∙ e)) ∙ at_head.1 in absurd cc

  pub front_entry : entries_in links ends ≡ record { flow = ends.head; credits = head.credits } ∷ chain listing (link_at links) (ends.count - 1) head.next
  front_entry = ap (λ (n : ℕ). chain listing (link_at links) n ends.head) cut_is ∙ chain_more listing (link_at links) (ends.count - 1) ends.head head head_read

  -- the lists where only this link is written
  module _ (y : Link) where
    abbrev after : List Link
    after = set links ends.head y

    same : (j : ℕ) → j ≢ ends.head → link_at after j ≡ link_at links j
    same j ne = beside links ends.head y j ne

    rest_entries : entries_in links ends ≡ record { flow = ends.head; credits = head.credits } ∷ chain listing (link_at after) (ends.count - 1) head.next
    rest_entries =
        ap (λ (n : ℕ). chain listing (link_at links) n ends.head) cut_is
        ∙ shorter_items listing (IsAt place) (link_at links) (link_at after) ends.tail (ends.count - 1) ends.head head cut head_read same

    keeps : (y.place ≡ Unlisted) ⊎ (y.place ≡ place) → KeepsLines place links after
    keeps written_as = lines_kept place links after
        (λ j x e ne. same j (λ at. ne (was_place x (sym e ∙ ap (link_at links) at ∙ head_read))))
        (λ j x e ne. same j (λ at. ne (is_place x (sym (ap (link_at after) at ∙ written links ends.head y head_within) ∙ e) written_as)))
      where
        was_place : (x : Link) → Some x ≡ Some head → x.place ≡ place
        was_place x e = let p : x ≡ head = cc in ap (λ (z : Link). z.place) p ∙ head_place

        is_place : (x : Link) → where_listed y y.place ≡ Some x → (y.place ≡ Unlisted) ⊎ (y.place ≡ place) → x.place ≡ place
        is_place x e (inl none) = absurd (place_listed y x y.place e none)
        is_place x e (inr own) = ap (λ (z : Link). z.place) (listed_is y x y.place e) ∙ own

  -- taken out
  abbrev freed : Link
  freed = no_link

  abbrev rest : Ends
  rest = record { head = head.next; tail = ends.tail; count = ends.count - 1 }

  pub freed_at : link_at (after freed) ends.head ≡ None
  freed_at = written links ends.head freed head_within

  pub removed_entries : entries_in (after freed) rest ≡ drop 1 (entries_in links ends)
  removed_entries = ap (drop 1) (sym (rest_entries freed))

  pub removed_line : IsLine (after freed) place rest
  removed_line = record {
    linked = shorter listing (IsAt place) (link_at links) (link_at (after freed)) ends.tail (ends.count - 1) ends.head head cut head_read (same freed);
    whole = λ n x there own. whole n x there own (cases_eq n ends.head);
  }
    where
      whole : (n : ℕ) (x : Link) → link_at (after freed) n ≡ Some x → x.place ≡ place → (n ≡ ends.head) ⊎ (n ≢ ends.head) → is_listed n (entries_in (after freed) rest) ≡ true
      whole n x there own (inl at) = let p : None ≡ Some x = sym freed_at ∙ ap (link_at (after freed)) (sym at) ∙ there in absurd cc
      whole n x there own (inr ne) =
          or_rest (ends.head == n) (is_listed n (entries_in (after freed) rest)) (other_flow ends.head n ne)
          (ap (is_listed n) (sym (rest_entries freed)) ∙ line.whole n x (sym (same freed n ne) ∙ there) own)

  pub removed_keeps : KeepsLines place links (after freed)
  removed_keeps = keeps freed (inl refl)

  -- written anew
  module _ (credits : ℤ) where
    abbrev renewed : Link
    renewed = record head { credits = credits }

    renewed_at : link_at (after renewed) ends.head ≡ Some renewed
    renewed_at = written links ends.head renewed head_within ∙ listed_shows renewed head.place (λ e. named (sym head_place ∙ e))

    renewed_first : entries_in (after renewed) ends ≡ record { flow = ends.head; credits = credits } ∷ chain listing (link_at (after renewed)) (ends.count - 1) head.next
    renewed_first =
        ap (λ (n : ℕ). chain listing (link_at (after renewed)) n ends.head) cut_is
        ∙ rewritten_items listing (IsAt place) (link_at links) (link_at (after renewed)) ends.tail (ends.count - 1) ends.head head cut head_read (same renewed) renewed renewed_at refl

    pub renewed_entries : entries_in (after renewed) ends ≡ set (entries_in links ends) 0 (record { flow = ends.head; credits = credits })
    renewed_entries = renewed_first ∙ ap (λ (l : List Entry). set l 0 (record { flow = ends.head; credits = credits })) (sym (rest_entries renewed))

    pub renewed_line : IsLine (after renewed) place ends
    renewed_line = record {
      linked = subst (λ (n : ℕ). IsChain listing (IsAt place) (link_at (after renewed)) ends.tail n ends.head) (sym cut_is)
          (rewritten listing (IsAt place) (link_at links) (link_at (after renewed)) ends.tail (ends.count - 1) ends.head head cut head_read (same renewed) renewed renewed_at head_place refl);
      whole = λ n x there own. ap (is_listed n) renewed_first ∙ ap (is_listed n) (sym (rest_entries renewed)) ∙ whole n x there own (cases_eq n ends.head);
    }
      where
        whole : (n : ℕ) (x : Link) → link_at (after renewed) n ≡ Some x → x.place ≡ place → (n ≡ ends.head) ⊎ (n ≢ ends.head) → is_listed n (entries_in links ends) ≡ true
        whole n x there own (inl at) = line.whole n head (ap (link_at links) at ∙ head_read) head_place
        whole n x there own (inr ne) = line.whole n x (sym (same renewed n ne) ∙ there) own

    pub renewed_keeps : KeepsLines place links (after renewed)
    renewed_keeps = keeps renewed (inr head_place)

-- ---- the first goes behind the others

module _ (links : List Link) (place : Place) (ends : Ends) (credits : ℤ) (several : 1 < ends.count) (line : IsLine links place ends) where
  some : 0 < ends.count
  some = omega (arith, several)

  abbrev front : Link
  front = link_of links ends.head

  -- as if it were taken out first
  abbrev without : List Link
  without = set links ends.head no_link

  abbrev others : Ends
  others = record { head = front.next; tail = ends.tail; count = ends.count - 1 }

  free : link_at without ends.head ≡ None
  free = freed_at links place ends some line

  left : IsLine without place others
  left = removed_line links place ends some line

  inside : ends.head < length without
  inside = omega (arith, head_within links place ends some line, length-set links ends.head no_link)

  more_than_none : others.count ≢ 0
  more_than_none e = omega (arith, several, e)

  abbrev paid : List Link
  paid = set links ends.head (record front { credits = credits })

  paid_is : set without ends.head (record { credits = credits; next = front.next; place = place }) ≡ paid
  paid_is =
      set-set links ends.head no_link (record { credits = credits; next = front.next; place = place })
      ∙ ap (λ (p : Place). set links ends.head (record { credits = credits; next = front.next; place = p })) (sym (head_place links place ends some line))

  abbrev turned : List Link
  turned = set paid ends.tail (led_on ends.head (link_of paid ends.tail))

  abbrev turned_ends : Ends
  turned_ends = record { head = front.next; tail = ends.head; count = ends.count }

  appended_is : set (set without ends.head (record { credits = credits; next = front.next; place = place })) ends.tail
      (led_on ends.head (link_of (set without ends.head (record { credits = credits; next = front.next; place = place })) ends.tail)) ≡ turned
  appended_is = ap (λ (l : List Link). set l ends.tail (led_on ends.head (link_of l ends.tail))) paid_is

  ends_are : ◌≡◌ {A = Ends} (record { head = front.next; tail = ends.head; count = ends.count - 1 + 1 }) turned_ends
  ends_are = let e : ends.count - 1 + 1 ≡ ends.count = omega (arith, several) in ap (λ (n : ℕ). record { head = front.next; tail = ends.head; count = n }) e

  pub turned_entries : entries_in turned turned_ends ≡ drop 1 (entries_in links ends) ++ record { flow = ends.head; credits = credits } ∷ []
  turned_entries =
      ap₂ (λ (l : List Link) (e : Ends). entries_in l e) (sym appended_is) (sym ends_are)
      ∙ next_entries without place others ends.head credits front.next inside free (named links place ends some line) left more_than_none
      ∙ ap (λ (l : List Entry). l ++ record { flow = ends.head; credits = credits } ∷ []) (removed_entries links place ends some line)

  pub turned_line : IsLine turned place turned_ends
  turned_line =
      subst₂ (λ (l : List Link) (e : Ends). IsLine l place e) appended_is ends_are
      (next_line without place others ends.head credits front.next inside free (named links place ends some line) left more_than_none)

  pub turned_keeps : KeepsLines place links turned
  turned_keeps =
      let away : KeepsLines place links without = removed_keeps links place ends some line in
      let back : KeepsLines place without turned = subst (λ (l : List Link). KeepsLines place without l) appended_is
      (next_keeps without place others ends.head credits front.next inside free (named links place ends some line) left more_than_none) in
      record {
        linked = λ q e ne l. back.linked q e ne (away.linked q e ne l);
        same = λ q e ne l. back.same q e ne (away.linked q e ne l) ∙ away.same q e ne l;
      }
