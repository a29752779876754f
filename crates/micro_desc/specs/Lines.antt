-- What the items of a microdescriptor say, or the place of what is wrong: their arguments from left to right (dir-spec,
-- "Computing microdescriptors").
use Rattle.std.specs.{Prelude.{ℕ, true, Option, Result, Ok, Err, codes, if◌then◌else◌}, Result.result_ok, Str.bytes_eq}
use Rattle.item_terms.specs.Items.{Item}
use Rattle.frame_values.specs.{declared.{found.Span.Span, values.Value.Value}, Arguments.{arguments_of, front, others}}
use Rattle.frame_values.specs.{Arguments.{field, next}, Lines.rest_of, Signatures.object_of}
use Rattle.frame_values.specs.declared.values.Value.TheVariants as value
use Rattle.relay_entries.specs.Fields.{identity}
use Rattle.descriptor_frame.specs.{Fields.key, Lines.first_of}
use Rattle.micro_desc.specs.declared.said.{MicroId.{MicroId, TheVariants.{Ed25519, Rsa1024}}, MicroKind.MicroKind}
use Rattle.micro_desc.specs.declared.said.{MicroKind.TheVariants.{OnionKey, Key, Rest, Id}, MicroValue.MicroValue}
use Rattle.micro_desc.specs.declared.said.MicroValue.TheVariants as own

-- where the lines of an onion key stand: those of any object, and nowhere where there is none
abbrev pub onion_key_of : Item → Option Span
onion_key_of item = result_ok (object_of true item)

-- whose microdescriptor it is: `ed25519` and 32 bytes in base64, or `rsa1024` and 20; another kind is wrong at its
-- place
abbrev pub id_of : Item → Result MicroId ℕ
id_of item =
    let kind = front item.place (arguments_of item) in
    let id = front item.place (others (arguments_of item)) in
    if bytes_eq kind.text (codes "ed25519") then next (field id (key id.text)) (λ bytes. Ok (Ed25519 bytes))
    else if bytes_eq kind.text (codes "rsa1024") then next (field id (identity id.text)) (λ rsa. Ok (Rsa1024 rsa))
    else Err kind.place

-- what an item says, or the place of what is wrong
abbrev pub value_at : MicroKind → Item → Result (Value MicroValue) ℕ
value_at OnionKey item = Ok (value.Own (own.OnionKey (onion_key_of item)))
value_at Key item = next (first_of key item) (λ bytes. Ok (value.Own (own.Key bytes)))
value_at Rest item = Ok (value.Text (rest_of item))
value_at Id item = next (id_of item) (λ id. Ok (value.Own (own.Id id)))
