-- `tc qdisc add`, `change` and `del`: which edit of the tree each is, and when it is refused.
-- tc(8) and the pages of the disciplines; where they are silent, and in the order of refusals, this project's choice.
use Rattle.std.specs.Prelude.{ℕ, ◌-◌, min, true, not, ◌==◌, nat_lt, if◌then◌else◌, List, [], ◌∷◌, ◌++◌, map, take, length, replicate, Option, Some, None, Result, Ok, Err, is_some, is_none, option_and_then, unwrap_or}
use Rattle.std.specs.List.{list_any, range_with_len}
use Rattle.std.specs.Option.{option_map_or}
use Rattle.q_codel.specs.declared.limit.Limit.TheVariants.{Packets, Bytes}
use Rattle.q_fqcodel.specs.FqState as flows
use Rattle.q_bucket.specs.Level.{TokenBucket, after_change}
use Rattle.q_model.specs.declared.filter.Filter.{Filter}
use Rattle.q_model.specs.declared.kind.Kind.{Kind}
use Rattle.q_model.specs.declared.kind.Kind.TheVariants as kind
use Rattle.q_model.specs.declared.place.Place.{Place}
use Rattle.q_model.specs.declared.place.Place.TheVariants as place
use Rattle.q_model.specs.declared.refusal.Refusal.{Refusal}
use Rattle.q_model.specs.declared.refusal.Refusal.TheVariants.{NoParent, Exists, NoQdisc, HandleTaken, NotClassful, NoClass, Busy, CannotChange, SmallBurst}
use Rattle.q_model.specs.Node.{Discipline, Fifo, Prio, Tbf, Drr, FqCodel, Shape, children}
use Rattle.q_model.specs.Make.{Device, implicit_pfifo, implicit_beneath, limit_bytes, with_options, made}
use Rattle.q_model.specs.Find.{path_of, has_handle, free_handle, node_at, class_place, place_path, is_explicit}
use Rattle.q_model.specs.Edit.{Child, Kept, Retuned, New, Edit, Graft, Remake}
use Rattle.q_model.specs.Refusals.{Check, refuse, done_unless, is_so, is_classless}

-- ADD

-- the qdisc whose class a place is; the root is in no class
abbrev pub parent_of : Place → Shape → Option Shape
parent_of (place.Class class) root = option_and_then (λ path. node_at path root) (path_of class.major root)
parent_of place.Root root = None
parent_of place.Top root = None

-- refusals of the place: its qdisc is not there, has no classes, or has no such class
abbrev pub place_checks : Place → Shape → List Check
place_checks (place.Class class) root =
    let parent = parent_of (place.Class class) root in
    refuse NoParent (is_none parent)
    ∷ refuse NotClassful (is_so (λ (n : Shape). is_classless n.own.discipline) parent)
    ∷ refuse NoClass (is_so (λ (n : Shape). is_none (class_place class.minor n)) parent)
    ∷ []
place_checks place.Root root = []
place_checks place.Top root = refuse Exists true ∷ []

-- and then: another explicit qdisc is there, or has the handle
abbrev pub qdisc_add_checks : Place → Option ℕ → List ℕ → Shape → List Check
qdisc_add_checks place handle path root =
    place_checks place root
    ++ refuse Exists (is_explicit path root)
    ∷ refuse HandleTaken (is_so (λ h. has_handle h root) handle)
    ∷ []

-- the new qdisc at the end of the path
abbrev pub new_qdisc : Device → ℕ → Option ℕ → Kind → Shape → Shape
new_qdisc d now handle kind root = made d now (Some (unwrap_or handle (free_handle root))) kind

abbrev pub qdisc_add : Device → ℕ → Place → Option ℕ → Kind → Shape → Result Edit Refusal
qdisc_add d now place handle kind root =
    let path = unwrap_or (place_path place root) [] in
    done_unless (qdisc_add_checks place handle path root) (Graft path (new_qdisc d now handle kind root))

-- CHANGE AND DEL

-- the path to the explicit qdisc that a line names, by its place, its handle or both, which then name the same one
abbrev pub explicit_at : Option Place → Shape → Option (List ℕ)
explicit_at place root =
    option_and_then (λ path. if is_explicit path root then Some path else None) (option_and_then (λ p. place_path p root) place)

abbrev pub handle_at : List ℕ → Shape → Option ℕ
handle_at path root = option_and_then (λ (n : Shape). n.own.handle) (node_at path root)

abbrev pub target : Option Place → Option ℕ → Shape → Option (List ℕ)
target None None root = None
target (Some place) None root = explicit_at (Some place) root
target None (Some handle) root = path_of handle root
target (Some place) (Some handle) root =
    option_and_then (λ path. if is_so (λ h. h == handle) (handle_at path root) then Some path else None) (explicit_at (Some place) root)

-- the same children
abbrev pub all_kept : Shape → List Child
all_kept n = map Kept (range_with_len 0 (length (children n)))

-- a change that keeps the children and loses nothing
abbrev pub retuned : Shape → List ℕ → Discipline → Edit
retuned n path discipline = Remake path (record n.own { discipline = discipline }) (all_kept n)

-- Bands more begin with an implicit pfifo; of bands fewer the highest go, in rising order, with all that is below them.
abbrev pub rebanded : Device → Shape → List ℕ → ℕ → List ℕ → Edit
rebanded d n path bands priomap =
    let old = length (children n) in
    let new_bands = map Kept (range_with_len 0 (min old bands)) ++ replicate (bands - old) (New (implicit_pfifo d)) in
    Remake path (record n.own { discipline = Prio priomap }) new_bands

-- An implicit bfifo below a tbf has the new limit at once; its packets stay.
abbrev pub relimited : ℕ → Discipline → Discipline
relimited limit (Fifo old queue) = Fifo (Bytes limit) queue
relimited limit (Prio priomap) = Prio priomap
relimited limit (Tbf bucket old) = Tbf bucket old
relimited limit (Drr s) = Drr s
relimited limit (FqCodel s) = FqCodel s

abbrev pub leaf_of_tbf : ℕ → Shape → Child
leaf_of_tbf limit leaf =
    if is_some leaf.own.handle then Kept 0 else Retuned 0 (record leaf.own { discipline = relimited limit leaf.own.discipline })

-- The bucket fills up to now at its old rate, and is cut to its new burst.
abbrev pub reshaped : ℕ → Shape → List ℕ → TokenBucket → ℕ → ℕ → ℕ → Edit
reshaped now n path bucket rate burst bytes =
    Remake path (record n.own { discipline = Tbf (after_change bucket rate burst now) bytes }) (map (leaf_of_tbf bytes) (children n))

-- a prio may not lose a band that a filter names; the burst of a tbf may not fall below both what it was and the mtu; the
-- number of flows stays
abbrev pub bands_check : ℕ → Shape → List Check
bands_check bands n = refuse Busy (list_any (λ (f : Filter). nat_lt bands f.minor) n.own.filters) ∷ []

abbrev pub burst_check : ℕ → ℕ → ℕ → List Check
burst_check old new mtu = refuse SmallBurst (nat_lt new (min old mtu)) ∷ []

abbrev pub flows_check : Option ℕ → ℕ → List Check
flows_check new old = refuse CannotChange (not (unwrap_or new old == old)) ∷ []

-- what a change makes of a qdisc, where it is of the same kind
abbrev pub change_of : Device → ℕ → Shape → List ℕ → Discipline → Kind → Result Edit Refusal
change_of d now n path (Fifo (Packets old) queue) (kind.Pfifo limit) = Ok (retuned n path (Fifo (Packets (unwrap_or limit old)) queue))
change_of d now n path (Fifo (Bytes old) queue) (kind.Bfifo limit) = Ok (retuned n path (Fifo (Bytes (unwrap_or limit old)) queue))
change_of d now n path (Prio old) (kind.Prio s) = done_unless (bands_check s.bands n) (rebanded d n path s.bands s.priomap)
change_of d now n path (Tbf bucket old) (kind.Tbf rate burst limit) =
    done_unless (burst_check bucket.burst burst d.mtu) (reshaped now n path bucket rate burst (limit_bytes rate burst limit))
change_of d now n path (Drr s) kind.Drr = Ok (retuned n path (Drr s))
change_of d now n path (FqCodel s) (kind.FqCodel o) =
    done_unless (flows_check o.flows s.settings.flows) (retuned n path (FqCodel (flows.after_change s (with_options o s.settings))))
change_of d now n path discipline other = Err CannotChange

-- an edit of the node that is found, or the refusal where there is none
abbrev pub at_target : Refusal → Option (List ℕ) → (List ℕ → Shape → Result Edit Refusal) → Shape → Result Edit Refusal
at_target refusal found f root =
    option_map_or (λ path. option_map_or (f path) (node_at path root) (Err refusal)) found (Err refusal)

abbrev pub qdisc_change : Device → ℕ → Option Place → Option ℕ → Kind → Shape → Result Edit Refusal
qdisc_change d now place handle kind root =
    at_target NoQdisc (target place handle root) (λ path n. change_of d now n path n.own.discipline kind) root

-- all but the last step of a path
abbrev pub way_to_parent : List ℕ → List ℕ
way_to_parent path = take (length path - 1) path

-- the implicit leaf of the place where the path ends
abbrev pub leaf_at : Device → List ℕ → Shape → Shape
leaf_at d [] root = implicit_pfifo d
leaf_at d (i ∷ path) root =
    option_map_or (λ (parent : Shape). implicit_beneath d parent.own.discipline) (node_at (way_to_parent (i ∷ path)) root) (implicit_pfifo d)

-- the implicit leaf of its place comes back, empty
abbrev pub qdisc_del : Device → Option Place → Option ℕ → Shape → Result Edit Refusal
qdisc_del d place handle root = at_target NoQdisc (target place handle root) (λ path n. Ok (Graft path (leaf_at d path root))) root
