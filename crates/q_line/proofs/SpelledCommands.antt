-- A line that changes the tree is read as what was written: its object, its verb, the device, its head, and what stands behind.
use Rattle.std.proofs.Common.{◌≡◌, ℕ, ◌||◌, true, false, List, [], ◌∷◌, ◌++◌, Option, Some, None, IfSome, IsTrue, Ok, is_some, option_map, refl, ap, arith, codes, lit<}
use Rattle.std.specs.Fmt.{decimal}
use Rattle.q_words.specs.Addresses.{class_of}
use Rattle.q_words.specs.Units.{size_in}
use Rattle.q_words.specs.Values.{handle_of}
use Rattle.q_line.specs.Laws.{IsName}
use Rattle.q_line.proofs.SpelledWords.{handle_read, number_read}
use Rattle.q_model.specs.Numbers.{IsHandle, IsQuantum, IsFilterPrio}
use Rattle.q_model.specs.Ranges.{IsClassId, IsCommand, IsFilter, IsKind, IsPlace}
use Rattle.q_model.specs.declared.class_id.ClassId.{ClassId}
use Rattle.q_model.specs.declared.command.Command.{Command}
use Rattle.q_model.specs.declared.command.Command.TheVariants as command
use Rattle.q_model.specs.declared.filter.Filter.{Filter}
use Rattle.q_model.specs.declared.kind.Kind.{Kind}
use Rattle.q_model.specs.declared.place.Place.{Place}
use Rattle.q_model.specs.declared.place.Place.TheVariants as place
use Rattle.q_line.specs.Drafts.{Verb, of_qdisc, of_class, of_filter, no_head, no_keys, qdisc_line, qdisc_del_line}
use Rattle.q_line.specs.Grammar.{ended, fits, most, said, value}
use Rattle.q_line.specs.Positions
use Rattle.q_line.specs.Positions.{Position, first, tc, head, head_value, keys, key_value, quantum_of, quantum_value}
use Rattle.q_line.specs.Ranges.{IsAgreed, IsBelow, IsWhole}
use Rattle.q_line.specs.Spelling.{bytes_word, change_words, class_word, command_words, filter_words, given, handle_word, keys_words, kind_words, protocol_word, some_place_words}
use Rattle.q_line.specs.declared.class_verb.ClassVerb.{ClassVerb}
use Rattle.q_line.specs.declared.class_verb.ClassVerb.TheVariants as class_verb
use Rattle.q_line.specs.declared.filter_verb.FilterVerb.{FilterVerb}
use Rattle.q_line.specs.declared.filter_verb.FilterVerb.TheVariants as filter_verb
use Rattle.q_line.specs.declared.head_draft.HeadDraft.{HeadDraft}
use Rattle.q_line.specs.declared.key_draft.KeyDraft.{KeyDraft}
use Rattle.q_line.specs.declared.key_name.KeyName.TheVariants as key
use Rattle.q_line.specs.declared.line.Line.TheVariants.{Tc}
use Rattle.q_line.specs.declared.qdisc_verb.QdiscVerb.{QdiscVerb}
use Rattle.q_line.specs.declared.qdisc_verb.QdiscVerb.TheVariants as qdisc_verb
use Rattle.q_line.proofs.SpelledFilters.{keys_path, protocol_path}
use Rattle.q_line.proofs.SpelledKinds.{Makes, bytes_reads, kind_says}
use Rattle.q_line.proofs.SpelledSteps.{Path, Says, Word, chain, chain_says, class_is_word, decimal_word, device, ended_says, handle_is_word, name_read, nowhere, option, pair, word}
use Rattle.q_line.proofs.SpelledValues.{class_read}

abbrev pub named : HeadDraft
named = record no_head { named = true }

-- tc OBJECT VERB dev NAME
pub starts : (object verb name : List ℕ) (p : Position) (v : Verb) → Word object → Word verb → ((i : ℕ) → fits i (tc false) object ≡ Ok p)
    → ((i : ℕ) → fits i p verb ≡ Ok (head v no_head)) → IsName name
    → Path first (head v named) (change_words object verb name)
starts object verb name p v a b f g is_name =
    chain first (tc false) (head v named) (codes "tc" ∷ []) (object ∷ verb ∷ codes "dev" ∷ name ∷ []) (word first (tc false) (codes "tc") (refl, refl) (λ i. refl))
    (chain (tc false) (head v no_head) (head v named) (object ∷ verb ∷ []) (codes "dev" ∷ name ∷ []) (pair (tc false) p (head v no_head) object verb a b f g)
    (chain (head v no_head) (head_value Positions.dev v no_head) (head v named) (codes "dev" ∷ []) (name ∷ []) (word (head v no_head) (head_value Positions.dev v no_head) (codes "dev") (refl, refl) (λ i. refl))
    (device (head_value Positions.dev v no_head) (head v named) name is_name (λ i. ap (λ r. value r (λ _. head v named)) (name_read name is_name.short)))))

handle_reads : (o : Option ℕ) → IfSome o IsHandle → IfSome o (λ n. Word (handle_word n) × (handle_of (handle_word n) ≡ Ok n))
handle_reads None h = tt
handle_reads (Some n) h = (handle_is_word n h.1, handle_read n h.0 h.1)

class_good : (c : ClassId) → IsClassId c → Word (class_word c)
class_good c h = class_is_word c.major c.minor h.major.1 h.minor.1

class_gives : (c : ClassId) → IsClassId c → class_of (class_word c) ≡ Ok c
class_gives c h = class_read c.major c.minor h.major.0 h.major.1 h.minor.0 h.minor.1

-- qdiscs

abbrev put : Option Place → Option ℕ → HeadDraft
put place handle = record named { place = place; handle = handle }

place_path : (v : QdiscVerb) (p : Option Place) → IfSome p IsPlace → IfSome p IsBelow → Path (head (of_qdisc v) named) (head (of_qdisc v) (put p None)) (some_place_words p)
place_path v None h below = nowhere (head (of_qdisc v) named)
place_path v (Some place.Top) h below = absurd below
place_path v (Some place.Root) h below = word (head (of_qdisc v) named) (head (of_qdisc v) (put (Some place.Root) None)) (codes "root") (refl, refl) (λ i. refl)
place_path v (Some (place.Class c)) h below =
    pair (head (of_qdisc v) named) (head_value Positions.in_class (of_qdisc v) named) (head (of_qdisc v) (put (Some (place.Class c)) None)) (codes "parent") (class_word c) (refl, refl) (class_good c h) (λ i. refl)
    (λ i. ap (λ r. value r (λ x. head (of_qdisc v) (put (Some (place.Class x)) None))) (class_gives c h))

handle_path : (v : QdiscVerb) (p : Option Place) (n : Option ℕ) → IfSome n IsHandle → Path (head (of_qdisc v) (put p None)) (head (of_qdisc v) (put p n)) (given (codes "handle") handle_word n)
handle_path v p n h =
    option (codes "handle") handle_word handle_of n (λ x. head (of_qdisc v) (put p x)) (head_value Positions.handle (of_qdisc v) (put p None)) (refl, refl) (λ i. refl)
    (λ i a e. ap (λ r. value r (λ x. head (of_qdisc v) (put p (Some x)))) e) (handle_reads n h)

-- a qdisc's place, its handle and its kind
made_says : (v : QdiscVerb) (p : Option Place) (n : Option ℕ) (k : Kind) (c : Command) → Makes v → IfSome p IsPlace → IfSome p IsBelow
    → IfSome n IsHandle → IsKind k → qdisc_line v (put p n) k ≡ Some c
    → Says (head (of_qdisc v) named) (Tc c) (some_place_words p ++ (given (codes "handle") handle_word n ++ kind_words k))
made_says v p n k c m in_place below handle is made =
    chain_says (head (of_qdisc v) named) (head (of_qdisc v) (put p None)) (Tc c) (some_place_words p) (given (codes "handle") handle_word n ++ kind_words k) (place_path v p in_place below)
    (chain_says (head (of_qdisc v) (put p None)) (head (of_qdisc v) (put p n)) (Tc c) (given (codes "handle") handle_word n) (kind_words k) (handle_path v p n handle) (kind_says v (put p n) k c m is made))

changes : (p : Option Place) (n : Option ℕ) (k : Kind) → IsTrue (is_some p || is_some n) → qdisc_line qdisc_verb.Change (put p n) k ≡ Some (command.QdiscChange p n k)
changes (Some p) n k h = refl
changes None (Some n) k h = refl
changes None None k h = cc

removes : (p : Option Place) (n : Option ℕ) → IsTrue (is_some p || is_some n) → qdisc_del_line (put p n) ≡ Some (command.QdiscDel p n)
removes (Some p) n h = refl
removes None (Some n) h = refl
removes None None h = cc

gone_says : (p : Option Place) (n : Option ℕ) → IfSome p IsPlace → IfSome p IsBelow → IfSome n IsHandle → IsTrue (is_some p || is_some n)
    → Says (head (of_qdisc qdisc_verb.Del) named) (Tc (command.QdiscDel p n)) (some_place_words p ++ given (codes "handle") handle_word n)
gone_says p n in_place below handle some =
    let v = qdisc_verb.Del in
    ended_says (head (of_qdisc v) named) (head (of_qdisc v) (put p n)) (Tc (command.QdiscDel p n)) (some_place_words p ++ given (codes "handle") handle_word n)
    (chain (head (of_qdisc v) named) (head (of_qdisc v) (put p None)) (head (of_qdisc v) (put p n)) (some_place_words p) (given (codes "handle") handle_word n) (place_path v p in_place below) (handle_path v p n handle))
    (λ i. ap (λ o. said (option_map Tc o) i) (removes p n some))

-- classes

abbrev pub owned : Option ℕ → Option ClassId → HeadDraft
owned parent class = record named { parent = parent; class = class }

pub parent_path : (v : ClassVerb) (n : Option ℕ) → IfSome n IsHandle → Path (head (of_class v) named) (head (of_class v) (owned n None)) (given (codes "parent") handle_word n)
parent_path v n h =
    option (codes "parent") handle_word handle_of n (λ x. head (of_class v) (owned x None)) (head_value Positions.parent (of_class v) named) (refl, refl) (λ i. refl)
    (λ i a e. ap (λ r. value r (λ x. head (of_class v) (owned (Some x) None))) e) (handle_reads n h)

pub class_path : (v : ClassVerb) (n : Option ℕ) (c : ClassId) → IsClassId c → Path (head (of_class v) (owned n None)) (head (of_class v) (owned n (Some c))) (codes "classid" ∷ class_word c ∷ [])
class_path v n c h =
    pair (head (of_class v) (owned n None)) (head_value Positions.class_id (of_class v) (owned n None)) (head (of_class v) (owned n (Some c))) (codes "classid") (class_word c) (refl, refl) (class_good c h) (λ i. refl)
    (λ i. ap (λ r. value r (λ x. head (of_class v) (owned n (Some x)))) (class_gives c h))

quantum_path : (v : ClassVerb) (h : HeadDraft) (q : Option ℕ) → IfSome q IsQuantum → Path (quantum_of v h None) (quantum_of v h q) (given (codes "quantum") bytes_word q)
quantum_path v h q is =
    option (codes "quantum") bytes_word (size_in 1 most) q (λ x. quantum_of v h x) (quantum_value v h) (refl, refl) (λ i. refl)
    (λ i a e. ap (λ r. value r (λ x. quantum_of v h (Some x))) e) (bytes_reads 1 q is)

-- a class's parent, its name, drr and its quantum
class_says : (v : ClassVerb) (n : Option ℕ) (c : ClassId) (q : Option ℕ) (made : Command) → IfSome n IsHandle → IsClassId c → IfSome q IsQuantum
    → ((i : ℕ) → fits i (head (of_class v) (owned n (Some c))) (codes "drr") ≡ Ok (quantum_of v (owned n (Some c)) None))
    → ((i : ℕ) → ended (quantum_of v (owned n (Some c)) q) i ≡ Ok (Tc made))
    → Says (head (of_class v) named) (Tc made) (given (codes "parent") handle_word n ++ ((codes "classid" ∷ class_word c ∷ codes "drr" ∷ []) ++ given (codes "quantum") bytes_word q))
class_says v n c q made parent is quantum drr last =
    let start = head (of_class v) named in
    let one = head (of_class v) (owned n None) in
    let two = head (of_class v) (owned n (Some c)) in
    let three = quantum_of v (owned n (Some c)) None in
    let four = quantum_of v (owned n (Some c)) q in
    let behind = given (codes "quantum") bytes_word q in
    let mid = codes "classid" ∷ class_word c ∷ codes "drr" ∷ [] in
    ended_says start four (Tc made) (given (codes "parent") handle_word n ++ (mid ++ behind))
    (chain start one four (given (codes "parent") handle_word n) (mid ++ behind) (parent_path v n parent)
    (chain one three four mid behind
    (chain one two three (codes "classid" ∷ class_word c ∷ []) (codes "drr" ∷ []) (class_path v n c is) (word two three (codes "drr") (refl, refl) drr))
    (quantum_path v (owned n (Some c)) q quantum)))
    last

class_gone_says : (n : Option ℕ) (c : ClassId) → IfSome n IsHandle → IsClassId c
    → Says (head (of_class class_verb.Del) named) (Tc (command.ClassDel n c)) (given (codes "parent") handle_word n ++ (codes "classid" ∷ class_word c ∷ []))
class_gone_says n c parent is =
    let v = class_verb.Del in
    let start = head (of_class v) named in
    let one = head (of_class v) (owned n None) in
    let two = head (of_class v) (owned n (Some c)) in
    ended_says start two (Tc (command.ClassDel n c)) (given (codes "parent") handle_word n ++ (codes "classid" ∷ class_word c ∷ []))
    (chain start one two (given (codes "parent") handle_word n) (codes "classid" ∷ class_word c ∷ []) (parent_path v n parent) (class_path v n c is))
    (λ i. refl)

-- filters

abbrev under : ℕ → HeadDraft
under parent = record named { parent = Some parent }

abbrev ranked : ℕ → ℕ → HeadDraft
ranked parent prio = record (under parent) { prio = Some prio }

ranked_path : (v : FilterVerb) (parent prio : ℕ) → IsHandle parent → IsFilterPrio prio
    → Path (head (of_filter v) named) (head (of_filter v) (ranked parent prio)) (codes "parent" ∷ handle_word parent ∷ codes "prio" ∷ decimal prio ∷ [])
ranked_path v parent prio h k =
    let few = k.1 in
    let start = head (of_filter v) named in
    let one = head (of_filter v) (under parent) in
    let two = head (of_filter v) (ranked parent prio) in
    chain start one two (codes "parent" ∷ handle_word parent ∷ []) (codes "prio" ∷ decimal prio ∷ [])
    (pair start (head_value Positions.parent (of_filter v) named) one (codes "parent") (handle_word parent) (refl, refl) (handle_is_word parent h.1) (λ i. refl)
    (λ i. ap (λ r. value r (λ n. head (of_filter v) (under n))) (handle_read parent h.0 h.1)))
    (pair one (head_value Positions.filter_prio (of_filter v) (under parent)) two (codes "prio") (decimal prio) (refl, refl) (decimal_word prio (omega arith)) (λ i. refl)
    (λ i. ap (λ r. value r (λ n. head (of_filter v) (ranked parent n))) (number_read 1 65535 prio k.0 few (lit< tt))))

filter_says : (parent major : ℕ) (f : Filter) → IsHandle parent → IsHandle major → IsFilter f → IsAgreed f
    → Says (head (of_filter filter_verb.Add) named) (Tc (command.FilterAdd parent major f)) (filter_words parent major f)
filter_says parent major f h m is agreed =
    let v = of_filter filter_verb.Add in
    let class : ClassId = record { major = major; minor = f.minor } in
    let class_is : IsClassId class = record { major = m; minor = is.minor } in
    let whole = record (ranked parent f.prio) { protocol = Some f.protocol } in
    let given_keys : KeyDraft = record { keys = f.keys; class = None } in
    let start = head v named in
    let one = head v (ranked parent f.prio) in
    let two = head_value Positions.protocol v (ranked parent f.prio) in
    let three = head v whole in
    let four = keys whole no_keys in
    let five = keys whole given_keys in
    let six = keys whole (record given_keys { class = Some class }) in
    let front = codes "parent" ∷ handle_word parent ∷ codes "prio" ∷ decimal f.prio ∷ [] in
    let into = codes "classid" ∷ class_word class ∷ [] in
    ended_says start six (Tc (command.FilterAdd parent major f)) (filter_words parent major f)
    (chain start four six (front ++ (codes "protocol" ∷ protocol_word f.protocol ∷ codes "flower" ∷ [])) (keys_words f.keys ++ into)
    (chain start one four front (codes "protocol" ∷ protocol_word f.protocol ∷ codes "flower" ∷ []) (ranked_path filter_verb.Add parent f.prio h is.prio)
    (chain one two four (codes "protocol" ∷ []) (protocol_word f.protocol ∷ codes "flower" ∷ []) (word one two (codes "protocol") (refl, refl) (λ i. refl))
    (chain two three four (protocol_word f.protocol ∷ []) (codes "flower" ∷ []) (protocol_path (ranked parent f.prio) f.protocol)
    (word three four (codes "flower") (refl, refl) (λ i. refl)))))
    (chain four five six (keys_words f.keys) into (keys_path whole f refl is agreed)
    (pair five (key_value key.Class whole given_keys) six (codes "classid") (class_word class) (refl, refl) (class_good class class_is) (λ i. refl)
    (λ i. ap (λ r. value (value r (λ c. record given_keys { class = Some c })) (λ x. keys whole x)) (class_gives class class_is)))))
    (λ i. refl)

filter_gone_says : (parent prio : ℕ) → IsHandle parent → IsFilterPrio prio
    → Says (head (of_filter filter_verb.Del) named) (Tc (command.FilterDel parent prio)) (codes "parent" ∷ handle_word parent ∷ codes "prio" ∷ decimal prio ∷ [])
filter_gone_says parent prio h k =
    let v = of_filter filter_verb.Del in
    ended_says (head v named) (head v (ranked parent prio)) (Tc (command.FilterDel parent prio)) (codes "parent" ∷ handle_word parent ∷ codes "prio" ∷ decimal prio ∷ [])
    (ranked_path filter_verb.Del parent prio h k) (λ i. refl)

-- each command

pub command_says : (name : List ℕ) (c : Command) → IsName name → IsCommand c → IsWhole c → Says first (Tc c) (command_words name c)
command_says name (command.QdiscAdd place handle kind) n h w =
    let v = of_qdisc qdisc_verb.Add in
    chain_says first (head v named) _ (change_words (codes "qdisc") (codes "add") name) _
    (starts (codes "qdisc") (codes "add") name (Positions.qdisc false) v (refl, refl) (refl, refl) (λ i. refl) (λ i. refl) n)
    (made_says qdisc_verb.Add (Some place) handle kind (command.QdiscAdd place handle kind) tt h.0 w h.1 h.2 refl)
command_says name (command.QdiscChange place handle kind) n h w =
    let v = of_qdisc qdisc_verb.Change in
    chain_says first (head v named) _ (change_words (codes "qdisc") (codes "change") name) _
    (starts (codes "qdisc") (codes "change") name (Positions.qdisc false) v (refl, refl) (refl, refl) (λ i. refl) (λ i. refl) n)
    (made_says qdisc_verb.Change place handle kind (command.QdiscChange place handle kind) tt h.0 w.0 h.1 h.2 (changes place handle kind w.1))
command_says name (command.QdiscDel place handle) n h w =
    let v = of_qdisc qdisc_verb.Del in
    chain_says first (head v named) _ (change_words (codes "qdisc") (codes "del") name) _
    (starts (codes "qdisc") (codes "del") name (Positions.qdisc false) v (refl, refl) (refl, refl) (λ i. refl) (λ i. refl) n)
    (gone_says place handle h.0 w.0 h.1 w.1)
command_says name (command.ClassAdd parent class quantum) n h w =
    let v = of_class class_verb.Add in
    chain_says first (head v named) _ (change_words (codes "class") (codes "add") name) _
    (starts (codes "class") (codes "add") name (Positions.class false) v (refl, refl) (refl, refl) (λ i. refl) (λ i. refl) n)
    (class_says class_verb.Add (Some parent) class quantum (command.ClassAdd parent class quantum) h.0 h.1 h.2 (λ i. refl) (λ i. refl))
command_says name (command.ClassChange parent class quantum) n h w =
    let v = of_class class_verb.Change in
    chain_says first (head v named) _ (change_words (codes "class") (codes "change") name) _
    (starts (codes "class") (codes "change") name (Positions.class false) v (refl, refl) (refl, refl) (λ i. refl) (λ i. refl) n)
    (class_says class_verb.Change parent class quantum (command.ClassChange parent class quantum) h.0 h.1 h.2 (λ i. refl) (λ i. refl))
command_says name (command.ClassDel parent class) n h w =
    let v = of_class class_verb.Del in
    chain_says first (head v named) _ (change_words (codes "class") (codes "del") name) _
    (starts (codes "class") (codes "del") name (Positions.class false) v (refl, refl) (refl, refl) (λ i. refl) (λ i. refl) n)
    (class_gone_says parent class h.0 h.1)
command_says name (command.FilterAdd parent major filter) n h w =
    let v = of_filter filter_verb.Add in
    chain_says first (head v named) _ (change_words (codes "filter") (codes "add") name) _
    (starts (codes "filter") (codes "add") name (Positions.filter false) v (refl, refl) (refl, refl) (λ i. refl) (λ i. refl) n)
    (filter_says parent major filter h.0 h.1 h.2 w)
command_says name (command.FilterDel parent prio) n h w =
    let v = of_filter filter_verb.Del in
    chain_says first (head v named) _ (change_words (codes "filter") (codes "del") name) _
    (starts (codes "filter") (codes "del") name (Positions.filter false) v (refl, refl) (refl, refl) (λ i. refl) (λ i. refl) n)
    (filter_gone_says parent prio h.0 h.1)
