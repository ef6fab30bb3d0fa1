-- Lines, and what they say.
-- The faults are those of docs/LANGUAGE.md; the forms of tc lines are of tc(8) and tc-pfifo(8).
use Rattle.std.proofs.Common.{◌≡◌, [], ◌∷◌, ◌++◌, refl}
use Rattle.std.specs.Prelude.{codes, Some, Ok, Err}
use Rattle.std.specs.Str.{is_utf8, chars}
use Rattle.q_line.specs.Grammar.{line_of}
use Rattle.q_words.specs.Words.{words_in}
use Rattle.q_words.specs.Values.{handle_of, number_in}
use Rattle.q_line.specs.declared.line.Line.TheVariants as line
use Rattle.q_words.specs.declared.line_fault.LineFault.TheVariants as fault
use Rattle.q_words.specs.declared.wrong.Wrong.TheVariants as wrong
use Rattle.q_model.specs.declared.command.Command.TheVariants.{QdiscAdd}
use Rattle.q_model.specs.declared.place.Place.TheVariants.{Root}
use Rattle.q_model.specs.declared.kind.Kind.TheVariants.{Pfifo}

blanks : words_in (32 ∷ 9 ∷ codes "pkt" ++ (9 ∷ 32 ∷ codes "7" ++ (13 ∷ []))) ≡ codes "pkt" ∷ codes "7" ∷ []
unfolding is_utf8 chars lib.Utf8.encode
blanks = refl

minor : handle_of (codes "1:0") ≡ Ok 1
unfolding is_utf8 chars lib.Utf8.encode
minor = refl

minor_of_two_digits : handle_of (codes "1:00") ≡ Err wrong.OutOfRange
unfolding is_utf8 chars lib.Utf8.encode
minor_of_two_digits = refl

form_before_range : handle_of (codes "12345:g") ≡ Err wrong.BadNumber
unfolding is_utf8 chars lib.Utf8.encode
form_before_range = refl

forty_digits : number_in 1 65535 (codes "1234567890123456789012345678901234567890") ≡ Err wrong.OutOfRange
unfolding is_utf8 chars lib.Utf8.encode
forty_digits = refl

add : line_of (codes "tc qdisc add handle fffe: root dev eth0 pfifo limit 2") ≡ Ok (line.Tc (QdiscAdd Root (Some 65534) (Pfifo (Some 2))))
unfolding is_utf8 chars lib.Utf8.encode
add = refl

no_number : line_of (codes "tc qdisc add dev eth0 root pfifo limit 1k") ≡ Err (fault.BadNumber 9)
unfolding is_utf8 chars lib.Utf8.encode
no_number = refl

head_after_kind : line_of (codes "tc qdisc add root pfifo dev eth0") ≡ Err (fault.UnknownWord 6)
unfolding is_utf8 chars lib.Utf8.encode
head_after_kind = refl

twice : line_of (codes "tc qdisc show dev eth0 dev") ≡ Err (fault.Twice 6)
unfolding is_utf8 chars lib.Utf8.encode
twice = refl

missing : line_of (codes "tc qdisc add dev eth0 pfifo") ≡ Err (fault.Missing 7)
unfolding is_utf8 chars lib.Utf8.encode
missing = refl

no_utf8 : line_of (codes "pkt " ++ (255 ∷ [])) ≡ Err (fault.BadUtf8 2)
unfolding is_utf8 chars lib.Utf8.encode
no_utf8 = refl

comment : line_of (codes "#" ++ (255 ∷ [])) ≡ Ok line.Blank
unfolding is_utf8 chars lib.Utf8.encode
comment = refl
