-- What a microdescriptor may say that is written and read again (dir-spec, "Computing microdescriptors").
use Rattle.std.specs.Prelude.{◌≡◌, true, All, IfSome}
use Rattle.dirdoc_grammar.specs.{Writers.is_argument, Writing.AreWritable}
use Rattle.frame_values.specs.Ranges.{AreTwenty}
use Rattle.descriptor_laws.specs.Ranges.{AreBytes}
use Rattle.micro_desc.specs.declared.{said.MicroId.{MicroId, TheVariants.{Ed25519, Rsa1024}}, micro.Micro.Micro}
use Rattle.micro_desc.specs.{Reading.max_micro, Texts.micro_items}

-- a key of 32 bytes, or an RSA identity of twenty
abbrev pub IsIdInRange : MicroId → Type 0
IsIdInRange (Ed25519 key) = AreBytes 32 key
IsIdInRange (Rsa1024 identity) = AreTwenty identity.0

-- each of the microdescriptor's values is one that can be read; the names of its family are words, of which there may
-- be none, and what it says of families and its summaries of ports are any texts
pub record SaysInRange (micro : Micro) : Type 0 where
  pub ntor_onion_key : IfSome micro.ntor_onion_key (AreBytes 32)
  pub family : IfSome micro.family (λ relays. All (λ relay. is_argument relay ≡ true) relays)
  pub id : IfSome micro.id IsIdInRange

-- The microdescriptor says what can be read, and its items may be written: its object is of bytes, and no line, no
-- object and not the whole passes its limit.
pub record IsInRange (micro : Micro) : Type 0 where
  pub says : SaysInRange micro
  pub items : AreWritable max_micro 0 (micro_items micro)
