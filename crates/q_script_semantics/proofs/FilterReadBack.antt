-- What show prints of a filter is what a line writes of it, once `flower` stands before its keys, and so is read back.
use Rattle.std.proofs.Common.{◌≡◌, ◌∙◌, ℕ, ◌≤◌, List, [], ◌∷◌, ◌++◌, Option, Some, None, IfSome, refl, sym, ap, arith, codes, append-nil, append_assoc}
use Rattle.std.specs.List.{flat_map, join_with_byte}
use Rattle.std.specs.Fmt.{decimal}
use Rattle.std.proofs.lemmas.List.Concat.{flat_map-append}
use Rattle.q_model.specs.Numbers.{IsWithin}
use Rattle.q_model.specs.Ranges
use Rattle.q_model.specs.declared.filter_keys.FilterKeys.{FilterKeys}
use Rattle.q_model.specs.declared.filter_view.FilterView.{FilterView}
use Rattle.q_model.specs.declared.protocol.Protocol.{Protocol}
use Rattle.q_model.specs.declared.protocol.Protocol.TheVariants.{All, Ip, Ipv6}
use Rattle.q_line.specs.Grammar.{line_of}
use Rattle.q_line.specs.Spelling.{class_word, given, handle_word, hex, keys_words, prefix_word, protocol_word, spelling}
use Rattle.q_line.specs.declared.line.Line.TheVariants.{Tc}
use Rattle.q_line.proofs.SpelledLines.{spellings}
use Rattle.q_show.specs.ShowText
use Rattle.q_show.specs.ShowText.{keys_text, into_text, protocol_text, prefix_text}
use Rattle.q_script_semantics.specs.ReadBack.{IsFilter, filter_added, filter_command, FiltersAreReadBack}
use Rattle.q_script_semantics.proofs.PrefixReadBack.{prefix_spelled}

-- words, each with a blank before it
abbrev lead : List (List ℕ) → List ℕ
lead ws = flat_map (λ w. 32 ∷ w) ws

joined_lead : (w : List ℕ) (ws : List (List ℕ)) → join_with_byte 32 (w ∷ ws) ≡ w ++ lead ws
joined_lead w [] = sym (append-nil w)
joined_lead w (x ∷ ws) = ap (λ t. w ++ 32 ∷ t) (joined_lead x ws)

given_lead : {A : Type 0} (name : List ℕ) (text word : A → List ℕ) (o : Option A) → ((a : A) → text a ≡ word a) → ShowText.given name text o ≡ lead (given name word o)
given_lead name text word None same = refl
given_lead name text word (Some a) same =
    ap (λ t. 32 ∷ t) (append_assoc name (codes " ") (text a)) ∙ ap (λ t. 32 ∷ (name ++ 32 ∷ t)) (same a ∙ sym (append-nil (word a)))

keys_lead : (k : FilterKeys) → keys_text k ≡ lead (keys_words k)
keys_lead k =
    let a = given (codes "ip_proto") hex k.ip_proto in
    let b = given (codes "src_ip") prefix_word k.src_ip in
    let c = given (codes "dst_ip") prefix_word k.dst_ip in
    let d = given (codes "src_port") decimal k.src_port in
    let e = given (codes "dst_port") decimal k.dst_port in
    let ga = given_lead (codes "ip_proto") hex hex k.ip_proto (λ n. refl) in
    let gb = given_lead (codes "src_ip") prefix_text prefix_word k.src_ip prefix_spelled in
    let gc = given_lead (codes "dst_ip") prefix_text prefix_word k.dst_ip prefix_spelled in
    let gd = given_lead (codes "src_port") decimal decimal k.src_port (λ n. refl) in
    let ge = given_lead (codes "dst_port") decimal decimal k.dst_port (λ n. refl) in
    let here : keys_text k ≡ lead a ++ lead b ++ lead c ++ lead d ++ lead e = rw (ga, gb, gc, gd, ge) refl in
    let f : List ℕ → List ℕ = λ w. 32 ∷ w in
    let assoc : lead a ++ lead b ++ lead c ++ lead d ++ lead e ≡ lead a ++ (lead b ++ (lead c ++ (lead d ++ lead e))) =
    append_assoc (lead a ++ lead b ++ lead c) (lead d) (lead e) ∙ append_assoc (lead a ++ lead b) (lead c) (lead d ++ lead e) ∙ append_assoc (lead a) (lead b) (lead c ++ (lead d ++ lead e)) in
    here ∙ assoc
    ∙ ap (λ t. lead a ++ (lead b ++ (lead c ++ t))) (sym (flat_map-append f d e))
    ∙ ap (λ t. lead a ++ (lead b ++ t)) (sym (flat_map-append f c (d ++ e)))
    ∙ ap (λ t. lead a ++ t) (sym (flat_map-append f b (c ++ (d ++ e))))
    ∙ sym (flat_map-append f a (b ++ (c ++ (d ++ e))))

protocol_spelled : (p : Protocol) → protocol_text p ≡ protocol_word p
protocol_spelled All = refl
protocol_spelled Ip = refl
protocol_spelled Ipv6 = refl

abbrev class_words : FilterView → List (List ℕ)
class_words f = codes "classid" ∷ class_word (record { major = f.parent; minor = f.filter.minor }) ∷ []

class_lead : (f : FilterView) → into_text f ≡ lead (class_words f)
class_lead f = ap (λ t. codes " classid " ++ t) (sym (append-nil (class_word (record { major = f.parent; minor = f.filter.minor }))))

abbrev flower_words : FilterView → List (List ℕ)
flower_words f = codes "flower" ∷ (keys_words f.filter.keys ++ class_words f)

flower_spelled : (f : FilterView) → codes "flower" ++ keys_text f.filter.keys ++ into_text f ≡ join_with_byte 32 (flower_words f)
flower_spelled f =
    ap (λ t. codes "flower" ++ t ++ into_text f) (keys_lead f.filter.keys)
    ∙ ap (λ t. codes "flower" ++ lead (keys_words f.filter.keys) ++ t) (class_lead f)
    ∙ ap (λ t. codes "flower" ++ t) (sym (flat_map-append (λ w. 32 ∷ w) (keys_words f.filter.keys) (class_words f)))
    ∙ sym (joined_lead (codes "flower") (keys_words f.filter.keys ++ class_words f))

abbrev with_head : List ℕ → FilterView → List ℕ → List (List ℕ) → List (List ℕ)
with_head name f protocol ws =
    codes "tc" ∷ codes "filter" ∷ codes "add" ∷ codes "dev" ∷ name ∷ codes "parent" ∷ handle_word f.parent ∷ codes "prio" ∷ decimal f.filter.prio ∷ codes "protocol" ∷ protocol ∷ ws

spelled : (name : List ℕ) (f : FilterView) → filter_command name f ≡ spelling name [] (Tc (filter_added f))
spelled name f =
    ap (λ t. join_with_byte 32 (with_head name f (protocol_text f.filter.protocol) (t ∷ []))) (flower_spelled f)
    ∙ ap (λ t. join_with_byte 32 (with_head name f t (flower_words f))) (protocol_spelled f.filter.protocol)

from_0 : (most : ℕ) (o : Option ℕ) → IfSome o (λ n. n ≤ most) → IfSome o (IsWithin 0 most)
from_0 most None h = tt
from_0 most (Some n) h = (omega arith, h)

in_range : (f : FilterView) → IsFilter f → Ranges.IsFilter f.filter
in_range f h = record {
  prio = h.prio;
  ip_proto = from_0 255 f.filter.keys.ip_proto h.ip_proto;
  src_ip = h.src_ip;
  dst_ip = h.dst_ip;
  src_port = from_0 65535 f.filter.keys.src_port h.src_port;
  dst_port = from_0 65535 f.filter.keys.dst_port h.dst_port;
  minor = h.minor;
}

pub filters_read_back : FiltersAreReadBack
filters_read_back name f is_name h =
    ap (λ text. line_of text) (spelled name f) ∙ spellings name [] (Tc (filter_added f)) is_name ((h.parent, h.parent, in_range f h), h.agreed)
