-- The parts of a server descriptor's text.
use Rattle.std.proofs.Common.{◌≡◌, ℕ, ◌+◌, ◌<◌, List, [], ◌∷◌, ◌++◌, length, Option, Some, refl, sym, ap, ◌∙◌}
use Rattle.std.{proofs.Common.{append_assoc, arith, length-append}, specs.Prelude.{codes, map, option_map}}
use Rattle.dir_bytes.{specs.FieldTexts.base64_text, proofs.Spelling.length-base64_text}
use Rattle.dirdoc_grammar.specs.{Bodies.object_text, Writing.{NewItem, item_text, items_text, tail}}
use Rattle.frame_terms.specs.Keywords.{text_of}
use Rattle.frame_terms.specs.declared.keyword.Keyword.TheVariants as the
use Rattle.frame_values.{specs.Items.{bare, item_if}, proofs.ItemsTexts.sections}
use Rattle.frame_laws.proofs.{Entries.item_of, Places.after_all-same}
use Rattle.descriptor_doc.specs.declared.descriptor.{Descriptor.Descriptor, EdSignature.EdSignature}
use Rattle.descriptor_text.specs.{Lines.ed_signature_text, Texts.descriptor_text}
use Rattle.descriptor_laws.specs.{Again.{ed_signature_items, signed_text, unsigned_items}, Ranges.AreBytes}
use Rattle.descriptor_laws.proofs.{DescriptorRead.{last_place, others}, DescriptorRows.{router_entry, signature_entry}}
use Rattle.descriptor_laws.proofs.DescriptorSame.{before_items, items_parts}

-- ---- what the signing key signs

-- the text before the last item
abbrev pub front_text : Descriptor → List ℕ
front_text d = items_text (unsigned_items d ++ ed_signature_items d)

-- the text of the last item's object
abbrev pub last_object : Descriptor → List ℕ
last_object d = object_text (codes "SIGNATURE") d.router_signature

-- the last item's keyword line, with its NL
abbrev pub last_line : List ℕ
last_line = item_text (bare the.RouterSignature [])

signed_parts : (d : Descriptor) → signed_text d ≡ front_text d ++ (last_line ++ [])
signed_parts d = sections (unsigned_items d ++ ed_signature_items d) (bare the.RouterSignature [] ∷ [])

-- the whole text goes on with the object
pub whole_parts : (d : Descriptor) → descriptor_text d ≡ signed_text d ++ (last_object d ++ [])
whole_parts d =
    ap items_text (items_parts d)
    ∙ sections (unsigned_items d ++ ed_signature_items d) (item_of (signature_entry d) ∷ [])
    ∙ split (front_text d) (text_of the.RouterSignature ++ []) (last_object d)
    ∙ ap (λ (l : List ℕ). l ++ (last_object d ++ [])) (sym (signed_parts d))
  where
    split : (front line object : List ℕ)
        → front ++ ((line ++ 10 ∷ object) ++ []) ≡ (front ++ ((line ++ 10 ∷ []) ++ [])) ++ (object ++ [])
    split front line object = simp append_assoc refl

-- where the last item begins
pub last_begins : (d : Descriptor) → last_place d ≡ length (front_text d)
last_begins d =
    let same = after_all-same 0 (router_entry d.router ∷ others d) in
    let zero : 0 + length (items_text (map item_of (router_entry d.router ∷ others d)))
    ≡ length (items_text (map item_of (router_entry d.router ∷ others d))) = omega arith in
    same ∙ zero ∙ ap (λ (l : List NewItem). length (items_text l)) (before_items d)

pub signed_length : (d : Descriptor)
    → length (signed_text d) ≡ length (front_text d) + (length (text_of the.RouterSignature ++ []) + 1)
signed_length d =
    ap (λ (l : List ℕ). length l) (signed_parts d) ∙ size (front_text d) (text_of the.RouterSignature ++ [])
  where
    size : (front keyword : List ℕ)
        → length (front ++ ((keyword ++ 10 ∷ []) ++ [])) ≡ length front + (length keyword + 1)
    size front keyword =
        omega (
          arith,
          length-append front ((keyword ++ 10 ∷ []) ++ []),
          length-append (keyword ++ 10 ∷ []) [],
          length-append keyword (10 ∷ []),
        )

-- ---- what the Ed25519 signature is made over

-- the text before its space
abbrev pub ed_front : Descriptor → List ℕ
ed_front d = items_text (unsigned_items d) ++ text_of the.RouterSigEd25519

-- the text behind its space
abbrev pub ed_back : Descriptor → EdSignature → List ℕ
ed_back d signature =
    base64_text signature.signature ++ 10 ∷ items_text (item_of (signature_entry d) ∷ [])

-- a rest of a line that is not empty
tail_some : (rest : List ℕ) → 0 < length rest → tail rest ≡ 32 ∷ rest
tail_some [] some = absurd (omega (arith, some))
tail_some (b ∷ rest) some = refl

-- the whole text around that space
pub ed_parts : (d : Descriptor) (signature : EdSignature) → d.router_sig_ed25519 ≡ Some signature
    → AreBytes 64 signature.signature → descriptor_text d ≡ ed_front d ++ 32 ∷ ed_back d signature
ed_parts d signature is are =
    let last = item_of (signature_entry d) in
    let rest = base64_text signature.signature in
    let filled : 0 < length rest = omega (arith, length-base64_text signature.signature, are.count_is) in
    ap items_text (items_parts d)
    ∙ ap (λ (o : Option EdSignature). items_text ((unsigned_items d ++ item_if the.RouterSigEd25519
    (option_map ed_signature_text o)) ++ last ∷ [])) is
    ∙ sections (unsigned_items d ++ bare the.RouterSigEd25519 rest ∷ []) (last ∷ [])
    ∙ ap (λ (l : List ℕ). l ++ items_text (last ∷ [])) (sections (unsigned_items d) (bare the.RouterSigEd25519 rest ∷ []))
    ∙ ap (λ (l : List ℕ). (items_text (unsigned_items d) ++ ((((text_of the.RouterSigEd25519 ++ l) ++ 10 ∷ []) ++ [])))
    ++ items_text (last ∷ [])) (tail_some rest filled)
    ∙ split (items_text (unsigned_items d)) (text_of the.RouterSigEd25519) (32 ∷ rest) (items_text (last ∷ []))
  where
    split : (u k r l : List ℕ) → (u ++ (((k ++ r) ++ 10 ∷ []) ++ [])) ++ l ≡ (u ++ k) ++ (r ++ 10 ∷ l)
    split u k r l = simp append_assoc refl
