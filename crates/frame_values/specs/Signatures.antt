-- The objects of items, and the signature of a vote.
use Rattle.std.specs.Prelude.{ℕ, ◌+◌, ◌==◌, Bool, false, List, length, Option, Some, None, is_some, Result, Ok, Err}
use Rattle.std.specs.{Prelude.{codes, if◌then◌else◌}, Str.bytes_eq}
use Rattle.item_terms.specs.{Items.{Item, Object}, Bytes.space}
use Rattle.dir_values.specs.{Arguments.Argument, Digests.{fingerprint, key_digest}, Names.algorithm}
use Rattle.dir_values.specs.declared.algorithm.Algorithm.{Algorithm}
use Rattle.frame_values.specs.{declared.found.{Span.Span, VoteSignature.VoteSignature}, Arguments.{arguments_of, front}}
use Rattle.frame_values.specs.{Arguments.{others, field, next}, Fields.{is_there, span}}

-- whether there is an object, and it has these words
abbrev pub has_words : Option Object → List ℕ → Bool
has_words None words = false
has_words (Some object) words = bytes_eq object.words words

-- where the lines of an object stand, if it is the one that is wanted
abbrev pub object_if : Bool → ℕ → Option Object → Result Span ℕ
object_if is_wanted item None = Err item
object_if is_wanted item (Some object) = if is_wanted then Ok (span object.start object.text) else Err item

-- where the lines of the item's object stand, if it is the one that is wanted
abbrev pub object_of : Bool → Item → Result Span ℕ
object_of is_wanted item = object_if is_wanted item.place item.object

-- the algorithm is named exactly where the first argument is no fingerprint
abbrev pub algorithm_if : Argument → Result (Option Algorithm) ℕ
algorithm_if first =
    if is_some (fingerprint first.text) then Ok None
    else next (field first (algorithm first.text)) (λ name. Ok (Some name))

-- the arguments after the algorithm, where one is named
abbrev pub after_algorithm : Option Algorithm → List Argument → List Argument
after_algorithm None arguments = arguments
after_algorithm (Some name) arguments = others arguments

-- an identity, the digest of a signing key, and the signature
abbrev pub signed_by : Option Algorithm → List Argument → Item → Result VoteSignature ℕ
signed_by name arguments item =
    let identity = front item.place arguments in
    let key = front item.place (others arguments) in
    next (field identity (fingerprint identity.text)) (λ signer.
    next (field key (key_digest key.text)) (λ digest.
    next (object_of (has_words item.object (codes "SIGNATURE")) item) (λ signature.
    Ok (record { algorithm = name; identity = signer; key_digest = digest; signature = signature }))))

-- what a signature says by an algorithm that is known or none, and nothing where it names another
abbrev pub signed_if : Item → Result (Option Algorithm) ℕ → Result (Option VoteSignature) ℕ
signed_if item (Err place) = Ok None
signed_if item (Ok name) =
    next (signed_by name (after_algorithm name (arguments_of item)) item) (λ signature. Ok (Some signature))

-- one of several signatures: an argument has to stand there; nothing is said by an algorithm that is not known
abbrev pub known_signature_of : Item → Result (Option VoteSignature) ℕ
known_signature_of item =
    let first = front item.place (arguments_of item) in
    if is_there first.text then signed_if item (algorithm_if first) else Err item.place

-- whether a space is the byte right after the keyword, which the signed part of a document ends with
abbrev pub is_space : Option ℕ → Bool
is_space None = false
is_space (Some b) = b == space

-- nothing, where a space stands right after the keyword; the place is that of another byte there
abbrev pub space_of : Item → Result (Unit {0}) ℕ
space_of item = if is_space item.separator then Ok tt else Err (item.place + length item.keyword)

-- a space, an algorithm or none, and by whom the document is signed
abbrev pub signature_of : Item → Result VoteSignature ℕ
signature_of item =
    if is_space item.separator then
    next (algorithm_if (front item.place (arguments_of item))) (λ name.
    signed_by name (after_algorithm name (arguments_of item)) item)
    else Err (item.place + length item.keyword)
