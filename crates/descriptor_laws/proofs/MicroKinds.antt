-- What the items of a microdescriptor mean, without places, and the facts of each kind.
use Rattle.std.proofs.Common.{◌≡◌, ℕ, Bool, true, false, List, [], ◌∷◌, Option, Some, None, Result, Ok, Err, refl, ap}
use Rattle.std.{proofs.{Common.{subst, ◌∙◌, arith}, lemmas.List.Elements.{All-cons, All-nil}}, specs.Prelude.IfSome}
use Rattle.std.specs.{Prelude.{codes, unwrap_or, if◌then◌else◌}, Option.option_map, Result.result_ok, Str.bytes_eq}
use Rattle.dir_bytes.{specs.{FieldTexts.base64_text, Fields.base64}, proofs.ReadAgain.base64-base64_text}
use Rattle.item_terms.specs.{Items.Item, Words.words_of}
use Rattle.dirdoc_grammar.specs.Writing.{IsWritableObject}
use Rattle.grammar_laws.proofs.WrittenBytes.{decoded-body_text}
use Rattle.dir_values.specs.declared.digest.Fingerprint.{Fingerprint}
use Rattle.frame_values.specs.{Arguments.{arguments_of, front, next}, Parts.{bytes_in, part}, Signatures.object_of}
use Rattle.frame_values.specs.declared.{found.Span.Span, values.Value.Value}
use Rattle.frame_values.specs.declared.values.Value.TheVariants as value
use Rattle.frame_laws.proofs.{Base64Words.word_of_base64, Words.{IsWord, two_words, words_of-join}}
use Rattle.relay_entries.specs.Fields.{identity}
use Rattle.group_laws.proofs.WrittenRelays.{identity_again, word_of_twenty}
use Rattle.descriptor_frame.specs.Fields.{key}
use Rattle.micro_desc.specs.{Lines.{id_of, onion_key_of, value_at}, Tables.micro_tables, Texts.id_text}
use Rattle.micro_desc.specs.declared.said.{MicroId.{MicroId, TheVariants.{Ed25519, Rsa1024}}, MicroKind.MicroKind}
use Rattle.micro_desc.specs.declared.said.MicroValue.{MicroValue}
use Rattle.micro_desc.specs.declared.said.MicroKind.TheVariants as kind
use Rattle.micro_desc.specs.declared.said.MicroValue.TheVariants as own
use Rattle.row_laws.proofs.{ItemKinds.{IsKind, Kind, KindLaws, a_rest, kind_tied, of_line, rest_laws}, Columns.last}
use Rattle.row_laws.proofs.{ItemArguments.IsSound, Ties.{any_gives, Tied, behind_it, first_text, head_word, in_item}}
use Rattle.row_laws.proofs.{Ties.{object_means, object_tied, plain, tail_words}, Rows.{Meaning, RowLaws}, Spoken.Rest}
use Rattle.row_laws.proofs.Spoken.{Words, new_object, new_words, words_in}
use Rattle.descriptor_laws.specs.{Ranges.AreBytes, MicroRanges.IsIdInRange}

-- what an item says
pub data Saying : Type 0 where
  onion : Option (List ℕ) → Saying
  a_key : List ℕ → Saying
  text : List ℕ → Saying
  an_id : MicroId → Saying
  silent : Saying

abbrev pub said : List ℕ → Value MicroValue → Saying
said bytes (value.Text span) = text (part bytes span)
said bytes (value.Own (own.OnionKey lines)) = onion (option_map (bytes_in bytes) lines)
said bytes (value.Own (own.Key k)) = a_key k
said bytes (value.Own (own.Id i)) = an_id i
said bytes _ = silent

-- ---- the onion key: an object of any words or none

abbrev pub onion_kind : Kind (Option Span) (Option (List ℕ))
onion_kind = record {
  read = λ (item : Item). Ok (onion_key_of item);
  said = λ bytes lines. option_map (bytes_in bytes) lines;
  means = λ (words : Words). Some (object_means true words.object);
  write = λ k. record {
    rest = [];
    object = option_map
        (λ bytes. record { words = codes "RSA PUBLIC KEY"; bytes = bytes }) k;
  };
}

onion_laws : KindLaws onion_kind (λ k. Unit {0}) (λ k. Unit {0})
onion_laws = record {
  tied = λ bytes item sound. by bytes (object_of true item) _ (object_tied true bytes item sound.in_place);
  again = λ k is object. back k object;
  fits = λ words rest. tt;
}
  where
    by : (bytes : List ℕ) (r : Result Span ℕ) (o : Option (List ℕ)) → Tied (bytes_in bytes) r o
        → option_map (bytes_in bytes) (result_ok r) ≡ o
    by bytes (Ok a) (Some f) is = ap (λ (l : List ℕ). Some l) is
    by bytes (Ok a) None is = absurd is
    by bytes (Err e) (Some f) is = absurd is
    by bytes (Err e) None is = refl

    back : (k : Option (List ℕ)) → IfSome (onion_kind.write k).object IsWritableObject
        → Some (object_means true (new_object (onion_kind.write k).object)) ≡ Some k
    back None object = refl
    back (Some bytes) object =
        ap (λ (o : Option (List ℕ)). Some (Some (unwrap_or o []))) (decoded-body_text bytes object.bytes)

-- ---- a key of 32 bytes

abbrev pub key_kind : Kind (List ℕ) (List ℕ)
key_kind = of_line (last (record { read = λ a. key a.text; said = λ bytes k. k; means = key; text = base64_text }))

spelled : (count : ℕ) (bytes : List ℕ) → AreBytes count bytes → base64 count (base64_text bytes) ≡ Some bytes
spelled count bytes are =
    subst (λ (n : ℕ). base64 n (base64_text bytes) ≡ Some bytes) are.count_is (base64-base64_text bytes are.each)

one_word : (word : List ℕ) → IsWord word → words_of word ≡ word ∷ []
one_word word is = words_of-join (word ∷ []) (All-cons IsWord word [] is (All-nil IsWord))

key_word : (bytes : List ℕ) → AreBytes 32 bytes → IsWord (base64_text bytes)
key_word bytes are = word_of_base64 bytes (omega (arith, are.count_is)) are.each

key_laws : KindLaws key_kind (AreBytes 32) (λ k. Unit {0})
key_laws = record {
  tied = λ bytes item sound. plain key item.place (in_item sound);
  again = λ k is object.
      ap (λ (ws : List (List ℕ)). key (head_word ws)) (one_word (base64_text k) (key_word k is)) ∙ spelled 32 k is;
  fits = λ words rest. any_gives (key (head_word (words_of words.arguments)));
}

-- ---- whose it is

abbrev pub id_means : List (List ℕ) → Option MicroId
id_means words =
    if bytes_eq (head_word words) (codes "ed25519") then option_map (λ k. Ed25519 k)
    (key (head_word (tail_words words)))
    else if bytes_eq (head_word words) (codes "rsa1024") then
    option_map (λ i. Rsa1024 i) (identity (head_word (tail_words words)))
    else None

abbrev pub id_kind : Kind MicroId MicroId
id_kind = record {
  read = id_of;
  said = λ bytes i. i;
  means = λ (words : Words). id_means (words_of words.arguments);
  write = λ i. record { rest = id_text i; object = None };
}

id_tied : (bytes : List ℕ) (item : Item) → IsSound bytes item
    → Tied (λ (i : MicroId). i) (id_of item) (id_means (words_of item.arguments))
id_tied bytes item sound =
    let there = in_item sound in
    let second = behind_it there in
    subst (λ (t : List ℕ). Tied (λ (i : MicroId). i) (id_of item)
    (if bytes_eq t (codes "ed25519") then option_map (λ k. Ed25519 k)
    (key (head_word (tail_words (words_of item.arguments))))
    else if bytes_eq t (codes "rsa1024") then
    option_map (λ i. Rsa1024 i) (identity (head_word (tail_words (words_of item.arguments)))) else None))
    (first_text item.place there)
    (by (bytes_eq (front item.place (arguments_of item)).text (codes "ed25519"))
    (bytes_eq (front item.place (arguments_of item)).text (codes "rsa1024")) _ _ _ _ _
    (plain key item.place second) (plain identity item.place second))
  where
    by : (t u : Bool) (k : Result (List ℕ) ℕ) (l : Option (List ℕ)) (f : Result Fingerprint ℕ) (g : Option Fingerprint)
        (place : ℕ)
        → Tied (λ (b : List ℕ). b) k l → Tied (λ (b : Fingerprint). b) f g
        → Tied (λ (i : MicroId). i)
        (if t then next k (λ bytes. Ok (Ed25519 bytes)) else if u then next f (λ rsa. Ok (Rsa1024 rsa)) else Err place)
        (if t then option_map (λ k. Ed25519 k) l else if u then option_map (λ i. Rsa1024 i) g else None)
    by true u (Ok k) (Some l) f g place is too = ap (λ (b : List ℕ). Ed25519 b) is
    by true u (Ok k) None f g place is too = absurd is
    by true u (Err e) (Some l) f g place is too = absurd is
    by true u (Err e) None f g place is too = tt
    by false true k l (Ok f) (Some g) place is too = ap (λ (b : Fingerprint). Rsa1024 b) too
    by false true k l (Ok f) None place is too = absurd too
    by false true k l (Err e) (Some g) place is too = absurd too
    by false true k l (Err e) None place is too = tt
    by false false k l f g place is too = tt

id_is : (words : List (List ℕ)) (b bytes : List ℕ) → words ≡ codes "ed25519" ∷ b ∷ [] → key b ≡ Some bytes
    → id_means words ≡ Some (Ed25519 bytes)
id_is words b bytes are is = rw (are, is) refl

rsa_is : (words : List (List ℕ)) (b : List ℕ) (rsa : Fingerprint) → words ≡ codes "rsa1024" ∷ b ∷ []
    → identity b ≡ Some rsa → id_means words ≡ Some (Rsa1024 rsa)
rsa_is words b rsa are is = rw (are, is) refl

id_again : (id : MicroId) → IsIdInRange id → id_means (words_of (id_text id)) ≡ Some id
id_again (Ed25519 bytes) are =
    let word = base64_text bytes in
    id_is (words_of (id_text (Ed25519 bytes))) word bytes
    (words_of-join (codes "ed25519" ∷ word ∷ []) (two_words (codes "ed25519") word refl (key_word bytes are)))
    (spelled 32 bytes are)
id_again (Rsa1024 rsa) are =
    let word = base64_text rsa.0 in
    rsa_is (words_of (id_text (Rsa1024 rsa))) word rsa
    (words_of-join (codes "rsa1024" ∷ word ∷ []) (two_words (codes "rsa1024") word refl (word_of_twenty rsa.0 are)))
    (identity_again rsa are)

id_laws : KindLaws id_kind IsIdInRange (λ i. Unit {0})
id_laws = record {
  tied = id_tied;
  again = λ i is object. id_again i is;
  fits = λ words rest. any_gives (id_means (words_of words.arguments));
}

-- ---- all of them

abbrev pub means : MicroKind → Words → Option Saying
means kind.OnionKey words = option_map onion (onion_kind.means words)
means kind.Key words = option_map a_key (key_kind.means words)
means kind.Rest words = option_map text (a_rest.means words)
means kind.Id words = option_map an_id (id_kind.means words)

abbrev pub write : MicroKind → Saying → Rest
write k (onion o) = onion_kind.write o
write k (a_key b) = key_kind.write b
write k (text t) = a_rest.write t
write k (an_id i) = id_kind.write i
write k silent = record { rest = []; object = None }

abbrev pub meaning : Meaning MicroKind (Value MicroValue) Saying
meaning = record { said = said; means = means; write = write; as_read = λ k s. s; none = value.Nothing }

abbrev pub MayWrite : MicroKind → Saying → Type 0
MayWrite kind.OnionKey (onion o) = Unit {0}
MayWrite kind.Key (a_key b) = AreBytes 32 b
MayWrite kind.Rest (text t) = Unit {0}
MayWrite kind.Id (an_id i) = IsIdInRange i
MayWrite _ _ = ⊥

abbrev pub IsRead : MicroKind → Saying → Type 0
IsRead k s = Unit {0}

tied : (across : Unit {0}) (k : MicroKind) (bytes : List ℕ) (item : Item) → IsSound bytes item
    → Tied (said bytes) (micro_tables.value_of across k item) (means k (words_in item))
tied across kind.OnionKey bytes item sound =
    let is : IsKind onion_kind (value_at kind.OnionKey) said (λ (o : Option Span). value.Own (own.OnionKey o)) onion =
    record { same = λ item. refl; says = λ bytes o. refl } in kind_tied is onion_laws bytes item sound
tied across kind.Key bytes item sound =
    let is : IsKind key_kind (value_at kind.Key) said (λ (b : List ℕ). value.Own (own.Key b)) a_key =
    record { same = λ item. refl; says = λ bytes b. refl } in kind_tied is key_laws bytes item sound
tied across kind.Rest bytes item sound =
    let is : IsKind a_rest (value_at kind.Rest) said (λ (s : Span). value.Text s) text =
    record { same = λ item. refl; says = λ bytes s. refl } in kind_tied is rest_laws bytes item sound
tied across kind.Id bytes item sound =
    let is : IsKind id_kind (value_at kind.Id) said (λ (i : MicroId). value.Own (own.Id i)) an_id =
    record { same = λ item. refl; says = λ bytes i. refl } in kind_tied is id_laws bytes item sound

again : (k : MicroKind) (s : Saying) → MayWrite k s → IfSome (write k s).object IsWritableObject
    → means k (new_words (write k s)) ≡ Some s
again kind.OnionKey (onion o) may object = ap (λ (m : Option (Option (List ℕ))). option_map onion m)
    (onion_laws.again o may object)
again kind.Key (a_key b) may object = ap (λ (m : Option (List ℕ)). option_map a_key m) (key_laws.again b may object)
again kind.Rest (text t) may object = refl
again kind.Id (an_id i) may object = ap (λ (m : Option MicroId). option_map an_id m) (id_laws.again i may object)
again _ _ may object = absurd may

pub laws : RowLaws micro_tables meaning MayWrite IsRead
laws = record {
  tied = tied;
  again = again;
  fits = λ k words rest. any_gives (means k words);
  known = λ k item. refl;
  steady = λ a b k item. refl;
}
