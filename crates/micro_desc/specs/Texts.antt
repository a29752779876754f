-- The canonical text of a microdescriptor: its items in the order of the table, with single spaces; and its digest
-- (dir-spec, "Computing microdescriptors").
use Rattle.std.specs.{Prelude.{ℕ, List, [], ◌∷◌, ◌++◌, Option, Some, None, codes}, Option.option_map}
use Rattle.sha2.specs.Sha256.{sha256}
use Rattle.dir_bytes.specs.FieldTexts.{base64_text}
use Rattle.dir_values.specs.declared.digest.Digest2.{Digest2}
use Rattle.dirdoc_grammar.specs.Writing.{NewItem, items_text}
use Rattle.frame_terms.specs.declared.keyword.Keyword.TheVariants as the
use Rattle.frame_values.specs.Items.{bare, with_object, item_if}
use Rattle.descriptor_frame.specs.Families.{family_text}
use Rattle.micro_desc.specs.declared.{said.MicroId.{MicroId, TheVariants.{Ed25519, Rsa1024}}, micro.Micro.Micro}

-- the first item, with the onion key as its object where there is one
abbrev pub onion_key_item : Option (List ℕ) → NewItem
onion_key_item None = bare the.OnionKey []
onion_key_item (Some key) = with_object the.OnionKey [] (codes "RSA PUBLIC KEY") key

-- whose microdescriptor it is: the kind of the key, a space, and the key or its SHA-1
abbrev pub id_text : MicroId → List ℕ
id_text (Ed25519 key) = codes "ed25519 " ++ base64_text key
id_text (Rsa1024 identity) = codes "rsa1024 " ++ base64_text identity.0

-- the item of the ntor onion key, where there is one
abbrev pub ntor_key_items : Option (List ℕ) → List NewItem
ntor_key_items key = item_if the.NtorOnionKey (option_map base64_text key)

-- the item of the family, where there is one
abbrev pub family_items : Option (List (List ℕ)) → List NewItem
family_items family = item_if the.Family (option_map family_text family)

-- the item that says whose microdescriptor it is, where it is said
abbrev pub id_items : Option MicroId → List NewItem
id_items id = item_if the.Id (option_map id_text id)

-- the items of a microdescriptor that says this
abbrev pub micro_items : Micro → List NewItem
micro_items micro =
    onion_key_item micro.onion_key
    ∷ (ntor_key_items micro.ntor_onion_key
    ++ (family_items micro.family
    ++ (item_if the.FamilyIds micro.family_ids
    ++ (item_if the.P micro.p
    ++ (item_if the.P6 micro.p6
    ++ id_items micro.id)))))

-- the text of a microdescriptor that says this
abbrev pub micro_text : Micro → List ℕ
micro_text micro = items_text (micro_items micro)

-- the digest of a microdescriptor of this text: the SHA-256 of the whole text
abbrev pub digest_of : List ℕ → Digest2
digest_of text = record { 0 = sha256 text }
