-- A certificate's own part alone is read as the same certificate.
use Rattle.std.proofs.Common.{◌≡◌, ℕ, ◌+◌, true, List, [], ◌∷◌, ◌++◌, length, take, drop, Result, Ok, Err, refl, sym}
use Rattle.std.{proofs.{Common.{ap, ◌∙◌, arith}, lemmas.List.{length-take-le, take-append-drop}}, specs.Prelude.is_some}
use Rattle.std.specs.{Prelude.map, List.AllByRecursion}
use Rattle.item_terms.specs.Items.{Item}
use Rattle.frame_terms.specs.{Keywords.same, declared.{document.Group.Group, fault.ReadRefusal.ReadRefusal}}
use Rattle.frame_terms.specs.declared.row.Row.{Row}
use Rattle.frame_terms.specs.declared.keyword.Keyword.TheVariants as the
use Rattle.frame_values.specs.{Faults.at_place, declared.found.Span.Span}
use Rattle.frame_values.specs.declared.values.Value.TheVariants as value
use Rattle.authority_certs.specs.{Certs.cert_in, Heads.head_of, Reading.{cert_of, max_cert}, Tables.cert_tables}
use Rattle.authority_certs.specs.{Tables.cert_value, declared.{cert.Cert.Cert, frame.CertKind.CertKind}}
use Rattle.vote_frame.specs.{Tables.vote_tables, declared.frame.VoteSection.TheVariants.{Authority, Certificate}}
use Rattle.vote_frame.specs.declared.frame.VoteKind.TheVariants as kind
use Rattle.grammar_laws.{specs.Parts.EndWithObjects, proofs.OwnPart.{own_part_same, within_text}}
use Rattle.certificate_laws.specs.{Inside.OwnPartsAreCertificates, Lifted.{lifted_value, moved_span, moved_taken}}
use Rattle.certificate_laws.{specs.Within.{AreTakenIn, IsTakenIn, IsValueIn}, proofs.CertMakes.{IsLastRow, found_has}}
use Rattle.certificate_laws.proofs.{CertMakes.{last_rows, object_there}, Holding.{CertTaken, Said, alone_rows}}
use Rattle.certificate_laws.proofs.{InVotes.votes_hold, Lone.{first_taken, lone_is, says_of, was_read}}
use Rattle.certificate_laws.proofs.MovedParts.{certs_say}

-- ---- certificates end with their last item's object

says_object : (row : Row CertKind) (item : Item) (said : Said) → IsLastRow row
    → same the.DirKeyCertification row.keyword ≡ true
    → at_place (cert_value row.kind item) ≡ Ok said → is_some item.object ≡ true
says_object row item said last e is = by (cert_value row.kind item) refl is
  where
    by : (r : Result Said ℕ) → cert_value row.kind item ≡ r → at_place r ≡ Ok said → is_some item.object ≡ true
    by (Err place) v is = absurd (cc is)
    by (Ok found) v is = object_there row.kind item found (last e) v

pub cert_ends : EndWithObjects cert_tables
cert_ends = record {
  alone = λ section e. cc e;
  objects = λ section keyword row there e across item said is.
      says_object row item said
      (found_has IsLastRow (λ (r : Row CertKind). same r.keyword keyword) alone_rows row last_rows there) e is;
}

-- ---- what was taken says the same of the part

none_more : (k : ℕ) → k + 0 ≡ k
none_more k = omega arith

span_unmoved : (s : Span) → moved_span 0 s ≡ s
span_unmoved s = λ i. record { start = none_more s.start i; end = none_more s.end i }

said_unmoved : (end : ℕ) (said : Said) → IsValueIn end said → lifted_value {W = Unit {0}} 0 said ≡ said
said_unmoved end (value.Text s) is = ap (λ (s : Span). value.Text s) (span_unmoved s)
said_unmoved end (value.Object s) is = ap (λ (s : Span). value.Object s) (span_unmoved s)
said_unmoved end (value.Own own) is = absurd is
said_unmoved end said is = refl

unmoved : (end : ℕ) (one : CertTaken) → IsTakenIn end one → moved_taken {W = Unit {0}} 0 one ≡ one
unmoved end one is =
    let said = said_unmoved end one.value is.value in
    λ i. record {
      keyword = one.keyword;
      value = said i;
      place = none_more one.place i;
      separator = none_more one.separator i;
      line_end = none_more one.line_end i;
      after = none_more one.after i;
    }

all_unmoved : (end : ℕ) (taken : List CertTaken) → AllByRecursion (IsTakenIn end) taken
    → map (moved_taken {W = Unit {0}} 0) taken ≡ taken
all_unmoved end [] all = refl
all_unmoved end (one ∷ taken) all =
    ap (λ (t : CertTaken). t ∷ map (moved_taken {W = Unit {0}} 0) taken) (unmoved end one all.0)
    ∙ ap (λ (l : List CertTaken). one ∷ l) (all_unmoved end taken all.1)

-- what is taken of bytes says the same with others behind them
same_in_front : (bytes rest : List ℕ) (taken : List CertTaken) → AreTakenIn bytes taken
    → cert_in (bytes ++ rest) (head_of taken) ≡ cert_in bytes (head_of taken)
same_in_front bytes rest taken are =
    sym (ap (λ (l : List CertTaken). cert_in (bytes ++ rest) (head_of l)) (all_unmoved (length bytes) taken are.each))
    ∙ (certs_say (Unit {0}) [] bytes rest taken are).says

-- ---- the certificate

pub own_parts : OwnPartsAreCertificates
own_parts bytes cert used is =
    let was = was_read bytes cert used is in
    let document = was.document in
    let part = take document.used bytes in
    let there = own_part_same cert_tables cert_ends max_cert bytes document was.read in
    let size : length part ≡ document.used =
    length-take-le document.used bytes (within_text cert_tables cert_ends max_cert bytes document was.read) in
    let lone =
    lone_is vote_tables Authority Certificate kind.Certificate kind.Version votes_hold part document there (sym size) in
    let taken = first_taken lone.alone.begins ∷ lone.goes.taken in
    let says : cert_in part (head_of taken) ≡ cert =
    sym (same_in_front part (drop document.used bytes) taken lone.within)
    ∙ ap (λ (l : List ℕ). cert_in l (head_of taken)) (take-append-drop document.used bytes)
    ∙ was.says taken lone.goes.groups in
    ap (λ (n : ℕ). cert_of (take n bytes)) (sym was.used_is)
    ∙ ap (says_of part) there
    ∙ ap (λ (g : List (Group (Unit {0}) Said)). says_of part
    (Ok (record { groups = g; used = document.used }))) lone.goes.groups
    ∙ ap (λ (c : Cert). answer c document.used) says
    ∙ ap (λ (n : ℕ). answer cert n) was.used_is
  where
    answer : Cert → ℕ → Result (Cert × ℕ) ReadRefusal
    answer cert used = Ok (cert, used)
