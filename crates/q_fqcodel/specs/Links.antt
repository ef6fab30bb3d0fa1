-- The lists of new and of old flows (RFC 8290, section 4.2), linked through the links of the flows, by their indices.
-- This is how the crate keeps them; nothing public names it.
use Rattle.std.specs.Prelude.{◌≡◌, ◌≢◌, ℕ, ◌≤◌, pos, true, List, length, get_or, Option, Some, None}
use Rattle.q_fqcodel.specs.Entry.{Entry}
use Rattle.q_fqcodel.specs.Linked.{Form, chain, IsChain}
use Rattle.q_fqcodel.specs.Put.{is_listed}
use Rattle.q_fqcodel.specs.declared.ends.Ends.{Ends}
use Rattle.q_fqcodel.specs.declared.link.Link.{Link}
use Rattle.q_fqcodel.specs.declared.place.Place.{Place}
use Rattle.q_fqcodel.specs.declared.place.Place.TheVariants.{Unlisted, New, Old}

-- what a contract sees of both lists: their flows, and the number below which each index is that of a flow
pub record ListsState : Type 0 where
  pub new_flows : List Entry
  pub old_flows : List Entry
  pub room : ℕ

-- the link of a flow that is in no list
abbrev pub no_link : Link
no_link = record { credits = pos 0; next = 0; place = Unlisted }

abbrev pub link_of : List Link → ℕ → Link
link_of links n = get_or links n no_link

-- the ends of a list without flows
abbrev pub no_ends : Ends
no_ends = record { head = 0; tail = 0; count = 0 }

-- a link, where its flow is in a list
abbrev pub where_listed : Link → Place → Option Link
where_listed x Unlisted = None
where_listed x New = Some x
where_listed x Old = Some x

abbrev pub link_at : List Link → ℕ → Option Link
link_at links n = where_listed (link_of links n) (link_of links n).place

-- a link stands for its flow, with the flow's credits
abbrev pub listing : Form Link Entry
listing = record { next = λ x. x.next; item = λ n x. record { flow = n; credits = x.credits } }

-- the link with another flow behind its own
abbrev pub led_on : ℕ → Link → Link
led_on n x = record x { next = n }

abbrev pub IsAt : Place → Link → Type 0
IsAt place x = x.place ≡ place

-- the flows of the list with these ends
abbrev pub entries_in : List Link → Ends → List Entry
entries_in links ends = chain listing (link_at links) ends.count ends.head

-- the list at this place: each of its links says so, and each link that says so is in it
pub record IsLine (links : List Link) (place : Place) (ends : Ends) : Type 0 where
  pub linked : IsChain listing (IsAt place) (link_at links) ends.tail ends.count ends.head
  pub whole : (n : ℕ) (x : Link) → link_at links n ≡ Some x → x.place ≡ place → is_listed n (entries_in links ends) ≡ true

-- both lists, in links that have room for at most 65536 flows
pub record IsLists (links : List Link) (new_flows old_flows : Ends) : Type 0 where
  pub room : length links ≤ 65536
  pub new : IsLine links New new_flows
  pub old : IsLine links Old old_flows

-- every list but the one at this place keeps its flows
pub record KeepsLines (place : Place) (links links2 : List Link) : Type 0 where
  pub linked : (other : Place) (ends : Ends) → other ≢ place → IsLine links other ends → IsLine links2 other ends
  pub same : (other : Place) (ends : Ends) → other ≢ place → IsLine links other ends → entries_in links2 ends ≡ entries_in links ends
