-- What is taken of a certificate says the same where its bytes stand behind others.
use Rattle.std.proofs.Common.{◌≡◌, ℕ, ◌+◌, ◌-◌, ◌≤◌, Bool, true, false, List, [], ◌∷◌, ◌++◌, length, take, drop, Option}
use Rattle.std.proofs.{Common.{Some, refl, ap, ◌∙◌, arith}, Math.Seq.drop-append-add, lemmas.List.drop-append-le}
use Rattle.std.{proofs.lemmas.List.{length-drop, take-append-le}, specs.Prelude.{map, option_map, is_some, slice_range}}
use Rattle.std.specs.{Prelude.{unwrap_or, if◌then◌else◌}, List.AllByRecursion}
use Rattle.sha1.specs.Sha1.{sha1}
use Rattle.dirdoc_grammar.specs.Bodies.{decoded_bytes}
use Rattle.frame_terms.specs.{Keywords.same, declared.{document.Taken.Taken, keyword.Keyword.Keyword}}
use Rattle.frame_terms.specs.declared.keyword.Keyword.TheVariants as the
use Rattle.frame_values.specs.{Parts.{bytes_in, moment_of, part}, Values.{after_in, fingerprint_of_value, item_at}}
use Rattle.frame_values.specs.Values.{line_end_in, number_of_value, place_in, object_of_value, text_of_value, value_if}
use Rattle.frame_values.specs.declared.{found.Span.Span, values.Value.Value}
use Rattle.frame_values.specs.declared.values.Value.TheVariants as value
use Rattle.authority_certs.specs.{Certs.{cert_in, whole_part}, Heads.head_of}
use Rattle.certificate_laws.specs.{Lifted.{lifted_value, moved_span, moved_taken}, Within.{AreTakenIn, CertsSayTheSame}}
use Rattle.certificate_laws.{specs.Within.{IsSpanIn, IsTakenIn, IsValueIn}, proofs.Holding.{CertTaken, Said}}

slice_moved : (front bytes rest : List ℕ) (a b : ℕ) → a ≤ length bytes → b ≤ length bytes
    → slice_range (front ++ (bytes ++ rest)) (a + length front) (b + length front) ≡ slice_range bytes a b
slice_moved front bytes rest a b begins within =
    let count : b + length front - (a + length front) ≡ b - a = omega arith in
    let place : a + length front ≡ length front + a = omega arith in
    let size : b - a ≤ length (drop a bytes) = omega (arith, length-drop a bytes, begins, within) in
    ap (λ (k : ℕ). take k (drop (a + length front) (front ++ (bytes ++ rest)))) count
    ∙ ap (λ (k : ℕ). take (b - a) (drop k (front ++ (bytes ++ rest)))) place
    ∙ ap (λ (l : List ℕ). take (b - a) l) (drop-append-add front (bytes ++ rest) a ∙ drop-append-le a bytes rest begins)
    ∙ take-append-le (b - a) (drop a bytes) rest size

module _ (front bytes rest : List ℕ) (W : Type 0) where
  abbrev n : ℕ
  n = length front

  abbrev all : List ℕ
  all = front ++ (bytes ++ rest)

  part_same : (span : Span) → IsSpanIn (length bytes) span → part all (moved_span n span) ≡ part bytes span
  part_same span is =
      let begins : span.start ≤ length bytes = omega (arith, is.order, is.within) in
      slice_moved front bytes rest span.start span.end begins is.within

  -- ---- what one item says

  -- a value says in all the bytes what another says in its own
  record SaysAlike (there : Value W) (here : Said) : Type 0 where
    text : option_map (part all) (text_of_value there) ≡ option_map (part bytes) (text_of_value here)
    object : bytes_in all (object_of_value there) ≡ bytes_in bytes (object_of_value here)
    number : number_of_value there ≡ number_of_value here
    identity : fingerprint_of_value there ≡ fingerprint_of_value here

  values_alike : (said : Said) → IsValueIn (length bytes) said → SaysAlike (lifted_value n said) said
  values_alike (value.Text span) is =
      record { text = ap (λ (l : List ℕ). Some l) (part_same span is); object = refl; number = refl; identity = refl }
  values_alike (value.Object lines) is = record {
    text = refl;
    object = ap (λ (l : List ℕ). unwrap_or (decoded_bytes l) []) (part_same lines is);
    number = refl;
    identity = refl;
  }
  values_alike _ is = record { text = refl; object = refl; number = refl; identity = refl }

  -- an item that is there stands within the bytes, and another so many bytes further on
  record StandsAlike (there : Option (Taken (Value W))) (here : Option CertTaken) : Type 0 where
    place : place_in there ≡ place_in here + n
    line : line_end_in there ≡ line_end_in here + n
    after : after_in there ≡ after_in here + n
    place_in_it : place_in here ≤ length bytes
    line_in_it : line_end_in here ≤ length bytes
    after_in_it : after_in here ≤ length bytes

  record IsAlike (there : Option (Taken (Value W))) (here : Option CertTaken) : Type 0 where
    says : SaysAlike (value_if there) (value_if here)
    stands : is_some here ≡ true → StandsAlike there here

  -- the item of a keyword
  found_alike : (taken : List CertTaken) → AllByRecursion (IsTakenIn (length bytes)) taken → (keyword : Keyword)
      → IsAlike (item_at (map (moved_taken n) taken) keyword) (item_at taken keyword)
  found_alike [] are keyword = record { says = values_alike value.Nothing tt; stands = λ some. absurd (cc some) }
  found_alike (one ∷ taken) are keyword = by (found_alike taken are.1 keyword) (same one.keyword keyword)
    where
      by : IsAlike (item_at (map (moved_taken n) taken) keyword) (item_at taken keyword) → (t : Bool)
          → IsAlike (if t then Some (moved_taken n one) else item_at (map (moved_taken n) taken) keyword)
          (if t then Some one else item_at taken keyword)
      by more true = record {
        says = values_alike one.value are.0.value;
        stands = λ some. record {
          place = refl;
          line = refl;
          after = refl;
          place_in_it = are.0.place;
          line_in_it = are.0.line;
          after_in_it = are.0.after;
        };
      }
      by more false = more

  -- ---- the certificate

  part_alike : (begin end there_begin there_end : ℕ) → there_begin ≡ begin + n → there_end ≡ end + n
      → begin ≤ length bytes → end ≤ length bytes → slice_range all there_begin there_end ≡ slice_range bytes begin end
  part_alike begin end there_begin there_end first last begins ends =
      ap (λ (k : ℕ). slice_range all k there_end) first ∙ ap (λ (k : ℕ). slice_range all (begin + n) k) last
      ∙ slice_moved front bytes rest begin end begins ends

  cert_alike : (taken : List CertTaken) → AreTakenIn bytes taken
      → cert_in all (head_of (map (moved_taken {W = W} n) taken)) ≡ cert_in bytes (head_of taken)
  cert_alike taken are =
      let found = found_alike taken are.each in
      let first = (found the.DirKeyCertificateVersion).stands are.version in
      let last = (found the.DirKeyCertification).stands are.certification in
      let covered = part_alike _ _ _ _ first.place last.line first.place_in_it last.line_in_it in
      λ i. record {
        address = (found the.DirAddress).says.text i;
        fingerprint = (found the.Fingerprint).says.identity i;
        identity_key = (found the.DirIdentityKey).says.object i;
        published = moment_of ((found the.DirKeyPublished).says.number i);
        expires = moment_of ((found the.DirKeyExpires).says.number i);
        signing_key = (found the.DirSigningKey).says.object i;
        crosscert = (found the.DirKeyCrosscert).says.object i;
        certification = (found the.DirKeyCertification).says.object i;
        covered = record { 0 = sha1 (covered i) };
      }

  whole_alike : (taken : List CertTaken) → AreTakenIn bytes taken
      → whole_part all (head_of (map (moved_taken {W = W} n) taken)) ≡ whole_part bytes (head_of taken)
  whole_alike taken are =
      let found = found_alike taken are.each in
      let first = (found the.DirKeyCertificateVersion).stands are.version in
      let last = (found the.DirKeyCertification).stands are.certification in
      part_alike _ _ _ _ first.place last.after first.place_in_it last.after_in_it

pub certs_say : (W : Type 0) → CertsSayTheSame W
certs_say W front bytes rest taken are =
    record { says = cert_alike front bytes rest W taken are; whole = whole_alike front bytes rest W taken are }
