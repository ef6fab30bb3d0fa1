-- A filter that is written is read as itself: its protocol, each key that is given, and its class.
use Rattle.std.proofs.Common.{◌≡◌, ◌∙◌, ℕ, ◌<◌, ◌≤◌, ◌^◌, Bool, true, not, [], ◌∷◌, ◌++◌, ltb, Option, Ok, Err, Some, None, IfSome, option_map, refl, ap, arith, if◌then◌else◌, codes, lit<}
use Rattle.std.specs.Option.{option_map_or, option_or}
use Rattle.std.specs.Fmt.{decimal}
use Rattle.q_words.specs.Addresses.{is_slash, prefix_of, protocol_number}
use Rattle.q_words.specs.Values.{number_in}
use Rattle.q_words.specs.Words.{is_blank}
use Rattle.q_words.specs.declared.wrong.Wrong.TheVariants.{OutOfRange}
use Rattle.q_line.proofs.SpelledWords.{both, digit_not_blank, digit_small, every_digit, decimal_digits}
use Rattle.q_model.specs.Numbers.{IsWithin}
use Rattle.q_model.specs.Options.{Prefix, IsPrefix, bits_of}
use Rattle.q_model.specs.Ranges.{IsFilter}
use Rattle.q_model.specs.declared.filter.Filter.{Filter}
use Rattle.q_model.specs.declared.ip_version.IpVersion.{IpVersion}
use Rattle.q_model.specs.declared.ip_version.IpVersion.TheVariants.{V4, V6}
use Rattle.q_model.specs.declared.protocol.Protocol.{Protocol}
use Rattle.q_model.specs.declared.protocol.Protocol.TheVariants.{All, Ip, Ipv6}
use Rattle.q_line.specs.Drafts.{Verb, of_filter, no_keys}
use Rattle.q_line.specs.Grammar.{of_version, same_version, value, version_of}
use Rattle.q_line.specs.Positions
use Rattle.q_line.specs.Positions.{Position, head, head_value, keys, key_value}
use Rattle.q_line.specs.Ranges.{IsAgreed}
use Rattle.q_line.specs.Spelling.{address_word, given, hex, keys_words, prefix_word, protocol_word}
use Rattle.q_line.specs.declared.filter_verb.FilterVerb.TheVariants.{Add}
use Rattle.q_line.specs.declared.head_draft.HeadDraft.{HeadDraft}
use Rattle.q_line.specs.declared.key_draft.KeyDraft.{KeyDraft}
use Rattle.q_line.specs.declared.key_name.KeyName.TheVariants as key
use Rattle.q_line.proofs.SpelledAddresses.{no_slash, prefix_gives}
use Rattle.q_line.proofs.SpelledAddresses6.{address_good, address_passes, address_read}
use Rattle.q_line.proofs.SpelledProtocols.{proto_read}
use Rattle.q_line.proofs.SpelledSteps.{Path, Word, chain, hex_word, number_reads, option, word, word_more}

-- prefixes

length_small : (v : IpVersion) (len : ℕ) → len ≤ bits_of v → len < 2 ^ 64
length_small V4 len h = omega arith
length_small V6 len h = omega arith

pub prefix_read : (p : Prefix) → IsPrefix p → prefix_of (prefix_word p) ≡ Ok p
prefix_read p h =
    prefix_gives (record { version = p.version; address = p.address }) (address_word p.version p.address) p.len
    (address_passes (λ c. not (is_slash c)) no_slash refl refl p.version p.address) (address_read p.version p.address h.address) h.len (length_small p.version p.len h.len)

prefix_good : (p : Prefix) → IsPrefix p → Word (prefix_word p)
prefix_good p h =
    let d = decimal_digits p.len (length_small p.version p.len h.len) in
    word_more (address_word p.version p.address) (codes "/" ++ decimal p.len) (address_good p.version p.address)
    (both refl (every_digit 16 (λ c. not (is_blank c)) digit_not_blank (decimal p.len) d.each)) (both refl (every_digit 16 (λ c. ltb c 128) digit_small (decimal p.len) d.each))

-- a prefix of the version that is wanted
wanted_read : (w : Option IpVersion) (p : Prefix) → option_map_or (same_version p.version) w true ≡ true → IsPrefix p → of_version w (λ (q : Prefix). q.version) (prefix_of (prefix_word p)) ≡ Ok p
wanted_read w p e h = ap (λ r. of_version w (λ (q : Prefix). q.version) r) (prefix_read p h) ∙ ap (λ (b : Bool). if b then Ok p else Err OutOfRange) e

prefix_reads : (w : Option IpVersion) (o : Option Prefix) → IfSome o IsPrefix → IfSome o (λ p. option_map_or (same_version p.version) w true ≡ true)
    → IfSome o (λ p. Word (prefix_word p) × (of_version w (λ (q : Prefix). q.version) (prefix_of (prefix_word p)) ≡ Ok p))
prefix_reads w None h agreed = tt
prefix_reads w (Some p) h agreed = (prefix_good p h, wanted_read w p agreed h)

proto_reads : (o : Option ℕ) → IfSome o (IsWithin 0 255) → IfSome o (λ n. Word (hex n) × (protocol_number (hex n) ≡ Ok n))
proto_reads None h = tt
proto_reads (Some n) h = let few = h.1 in (hex_word n (omega arith), proto_read n few)

-- the keys so far
abbrev drafted : Option ℕ → Option Prefix → Option Prefix → Option ℕ → Option ℕ → KeyDraft
drafted a b c d e = record { keys = record { ip_proto = a; src_ip = b; dst_ip = c; src_port = d; dst_port = e }; class = None }

or_none : {A : Type 0} (o : Option A) → option_or o None ≡ o
or_none None = refl
or_none (Some a) = refl

with_version : (o : Option Prefix) (v w : Option IpVersion) → w ≡ v → IfSome o (λ p. option_map_or (same_version p.version) v true ≡ true)
    → IfSome o (λ p. option_map_or (same_version p.version) w true ≡ true)
with_version None v w e h = tt
with_version (Some p) v w e h = ap (λ x. option_map_or (same_version p.version) x true) e ∙ h

pub keys_path : (h : HeadDraft) (f : Filter) → h.protocol ≡ Some f.protocol → IsFilter f → IsAgreed f → Path (keys h no_keys) (keys h (record { keys = f.keys; class = None })) (keys_words f.keys)
keys_path h f of_protocol is agreed =
    let k = f.keys in
    let v = version_of h.protocol in
    let own : v ≡ version_of (Some f.protocol) = ap version_of of_protocol in
    let first_wanted = option_or v None in
    let second_wanted = option_or v (option_map (λ (q : Prefix). q.version) (option_or k.src_ip None)) in
    let src_agreed = with_version k.src_ip (version_of (Some f.protocol)) first_wanted (or_none v ∙ own) agreed.0 in
    let dst_agreed = with_version k.dst_ip (option_or (version_of (Some f.protocol)) (option_map (λ (q : Prefix). q.version) k.src_ip)) second_wanted
    (ap (λ o. option_or v (option_map (λ (q : Prefix). q.version) o)) (or_none k.src_ip) ∙ ap (λ w. option_or w (option_map (λ (q : Prefix). q.version) k.src_ip)) own) agreed.1 in
    let one = drafted k.ip_proto None None None None in
    let two = drafted k.ip_proto k.src_ip None None None in
    let three = drafted k.ip_proto k.src_ip k.dst_ip None None in
    let four = drafted k.ip_proto k.src_ip k.dst_ip k.src_port None in
    let last = drafted k.ip_proto k.src_ip k.dst_ip k.src_port k.dst_port in
    let w5 = given (codes "dst_port") decimal k.dst_port in
    let w4 = given (codes "src_port") decimal k.src_port ++ w5 in
    let w3 = given (codes "dst_ip") prefix_word k.dst_ip ++ w4 in
    let w2 = given (codes "src_ip") prefix_word k.src_ip ++ w3 in
    chain (keys h no_keys) (keys h one) (keys h last) (given (codes "ip_proto") hex k.ip_proto) w2
    (option (codes "ip_proto") hex protocol_number k.ip_proto (λ x. keys h (drafted x None None None None)) (key_value key.IpProto h no_keys) (refl, refl) (λ i. refl)
    (λ i a e. ap (λ r. value (value r (λ m. drafted (Some m) None None None None)) (λ x. keys h x)) e) (proto_reads k.ip_proto is.ip_proto))
    (chain (keys h one) (keys h two) (keys h last) (given (codes "src_ip") prefix_word k.src_ip) w3
    (option (codes "src_ip") prefix_word (λ w. of_version first_wanted (λ (q : Prefix). q.version) (prefix_of w)) k.src_ip (λ x. keys h (drafted k.ip_proto x None None None)) (key_value key.SrcIp h one) (refl, refl) (λ i. refl)
    (λ i a e. ap (λ r. value (value r (λ m. drafted k.ip_proto (Some m) None None None)) (λ x. keys h x)) e) (prefix_reads first_wanted k.src_ip is.src_ip src_agreed))
    (chain (keys h two) (keys h three) (keys h last) (given (codes "dst_ip") prefix_word k.dst_ip) w4
    (option (codes "dst_ip") prefix_word (λ w. of_version second_wanted (λ (q : Prefix). q.version) (prefix_of w)) k.dst_ip (λ x. keys h (drafted k.ip_proto k.src_ip x None None)) (key_value key.DstIp h two) (refl, refl) (λ i. refl)
    (λ i a e. ap (λ r. value (value r (λ m. drafted k.ip_proto k.src_ip (Some m) None None)) (λ x. keys h x)) e) (prefix_reads second_wanted k.dst_ip is.dst_ip dst_agreed))
    (chain (keys h three) (keys h four) (keys h last) (given (codes "src_port") decimal k.src_port) w5
    (option (codes "src_port") decimal (number_in 0 65535) k.src_port (λ x. keys h (drafted k.ip_proto k.src_ip k.dst_ip x None)) (key_value key.SrcPort h three) (refl, refl) (λ i. refl)
    (λ i a e. ap (λ r. value (value r (λ m. drafted k.ip_proto k.src_ip k.dst_ip (Some m) None)) (λ x. keys h x)) e) (number_reads 0 65535 k.src_port (lit< tt) is.src_port))
    (option (codes "dst_port") decimal (number_in 0 65535) k.dst_port (λ x. keys h (drafted k.ip_proto k.src_ip k.dst_ip k.src_port x)) (key_value key.DstPort h four) (refl, refl) (λ i. refl)
    (λ i a e. ap (λ r. value (value r (λ m. drafted k.ip_proto k.src_ip k.dst_ip k.src_port (Some m))) (λ x. keys h x)) e) (number_reads 0 65535 k.dst_port (lit< tt) is.dst_port)))))

abbrev verb : Verb
verb = of_filter Add

pub protocol_path : (h : HeadDraft) (p : Protocol) → Path (head_value Positions.protocol verb h) (head verb (record h { protocol = Some p })) (protocol_word p ∷ [])
protocol_path h All = word (head_value Positions.protocol verb h) (head verb (record h { protocol = Some All })) (codes "all") (refl, refl) (λ i. refl)
protocol_path h Ip = word (head_value Positions.protocol verb h) (head verb (record h { protocol = Some Ip })) (codes "ip") (refl, refl) (λ i. refl)
protocol_path h Ipv6 = word (head_value Positions.protocol verb h) (head verb (record h { protocol = Some Ipv6 })) (codes "ipv6") (refl, refl) (λ i. refl)
