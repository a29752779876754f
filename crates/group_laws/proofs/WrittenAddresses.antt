-- A line of one more address that was written is read again.
use Rattle.std.proofs.Common.{◌≡◌, true, [], ◌∷◌, Ok, refl}
use Rattle.dirdoc_grammar.specs.Writing.{written}
use Rattle.dir_values.specs.Arguments.{Argument}
use Rattle.frame_values.specs.{Arguments.arguments_of, Fields.span_of, Items.bare}
use Rattle.frame_laws.proofs.Words.{arguments_of_word}
use Rattle.item_terms.specs.Items.{Item}
use Rattle.relay_entries.specs.{Fields.is_address, Lines.address_of}
use Rattle.group_laws.specs.EntryAgain.{AddressLinesAreReadAgain, rest_start}

-- an item whose argument is known
address_is : (item : Item) (a : Argument) → arguments_of item ≡ a ∷ [] → is_address a.text ≡ true
    → address_of item ≡ Ok (span_of a)
address_is item a args is = rw (args, is) refl

pub address_again : AddressLinesAreReadAgain
address_again place keyword text are =
    let start = rest_start place keyword text in
    address_is (written place (bare keyword text)) (record { place = start; text = text })
    (arguments_of_word start text are.word) are.address
