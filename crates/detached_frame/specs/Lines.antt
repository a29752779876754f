-- What the lines of detached signatures say, or the place of what is wrong: their arguments from left to right, then the
-- object (dir-spec, "Serving and fetching detached signatures").
use Rattle.std.specs.Prelude.{ℕ, true, is_some, Option, None, Result, Ok, if◌then◌else◌}
use Rattle.item_terms.specs.Items.{Item}
use Rattle.dir_bytes.specs.HexBytes.{hex_bytes}
use Rattle.dir_values.specs.{Arguments.Argument, Digests.{fingerprint, key_digest}, declared.digest.Digest1.Digest1}
use Rattle.frame_values.specs.{declared.found.Span.Span, Arguments.{arguments_of, front, others, field, next}}
use Rattle.frame_values.specs.{Fields.{is_there, span_if}, Signatures.object_of}
use Rattle.detached_frame.specs.declared.said.AdditionalDigestLine.{AdditionalDigestLine}
use Rattle.detached_frame.specs.declared.said.AdditionalSignatureLine.{AdditionalSignatureLine}

-- the digest of a consensus, as 40 hex digits
abbrev pub digest_of : Item → Result Digest1 ℕ
digest_of item = let first = front item.place (arguments_of item) in field first (key_digest first.text)

-- where a word stands, whatever it is
abbrev pub word : Argument → Option Span
word argument = span_if (is_there argument.text) argument

-- where bytes stand in hex, one byte or more
abbrev pub hex : Argument → Option Span
hex argument = if is_some (hex_bytes argument.text) then word argument else None

-- the digest of another flavour's consensus: the flavour, the algorithm, and the digest in hex, of any length
abbrev pub additional_digest_of : Item → Result AdditionalDigestLine ℕ
additional_digest_of item =
    let from_first = arguments_of item in
    let from_second = others from_first in
    let from_third = others from_second in
    let first = front item.place from_first in
    let second = front item.place from_second in
    let third = front item.place from_third in
    next (field first (word first)) (λ flavour.
    next (field second (word second)) (λ algorithm.
    next (field third (hex third)) (λ digest.
    Ok (record { flavour = flavour; algorithm = algorithm; digest = digest }))))

-- a signature over another flavour's consensus: the flavour, the algorithm, whatever it is, the identity, the digest of
-- the signing key, and an object of any words
abbrev pub additional_signature_of : Item → Result AdditionalSignatureLine ℕ
additional_signature_of item =
    let from_first = arguments_of item in
    let from_second = others from_first in
    let from_third = others from_second in
    let from_fourth = others from_third in
    let first = front item.place from_first in
    let second = front item.place from_second in
    let third = front item.place from_third in
    let fourth = front item.place from_fourth in
    next (field first (word first)) (λ flavour.
    next (field second (word second)) (λ algorithm.
    next (field third (fingerprint third.text)) (λ identity.
    next (field fourth (key_digest fourth.text)) (λ digest.
    next (object_of true item) (λ signature.
    Ok (record {
      flavour = flavour;
      algorithm = algorithm;
      identity = identity;
      key_digest = digest;
      signature = signature;
    }))))))
