-- What show prints of a prefix is what a line writes of it, and so is read as itself.
use Rattle.std.proofs.Common.{◌≡◌, ◌∙◌, ◌++◌, ap, append_assoc, codes}
use Rattle.std.specs.Fmt.{decimal}
use Rattle.q_model.specs.Options.{Prefix}
use Rattle.q_words.specs.Addresses.{prefix_of}
use Rattle.q_line.specs.Spelling.{prefix_word}
use Rattle.q_line.proofs.SpelledFilters.{prefix_read}
use Rattle.q_show.specs.ShowText.{address_text, prefix_text}
use Rattle.q_spelling.proofs.Spelled.{address_spelled}
use Rattle.q_script_semantics.specs.ReadBack.{PrefixesAreReadBack}

pub prefix_spelled : (p : Prefix) → prefix_text p ≡ prefix_word p
prefix_spelled p =
    append_assoc (address_text p.version p.address) (codes "/") (decimal p.len) ∙ ap (λ t. t ++ (codes "/" ++ decimal p.len)) (address_spelled p.version p.address)

pub prefixes_read_back : PrefixesAreReadBack
prefixes_read_back p h = ap prefix_of (prefix_spelled p) ∙ prefix_read p h
