-- The sections of a vote that was written suit their tables, and may follow each other.
use Rattle.std.proofs.Common.{◌≡◌, true, [], ◌∷◌, None, refl}
use Rattle.frame_terms.specs.{Keywords.same, Rows.row, declared.row.Count.TheVariants.One}
use Rattle.frame_terms.specs.declared.keyword.Keyword.TheVariants as the
use Rattle.frame_laws.proofs.{Both.both_hold, Ends.IsEnded, Following.{IsFirst, MayFollow, opener_follows}}
use Rattle.frame_laws.proofs.{Sections.IsWritten, TableRows.are_plain}
use Rattle.authority_certs.specs.declared.cert.Cert.{Cert}
use Rattle.certificate_laws.proofs.CertRows.{HasCertificates, certificate_rows}
use Rattle.vote_terms.specs.declared.facts.{SignatureFacts.SignatureFacts, VoteFacts.VoteFacts}
use Rattle.value_groups.specs.declared.line.RandomLine.TheVariants as line
use Rattle.vote_frame.specs.{Tables.vote_tables, declared.frame.VoteSection.TheVariants.{Authority, Certificate}}
use Rattle.vote_frame.specs.declared.frame.VoteSection.TheVariants.{Footer, Preamble}
use Rattle.vote_frame.specs.declared.frame.VoteKind.TheVariants as kind
use Rattle.vote_laws.{specs.Again.{HasValuesInRange, IsSignatureInRange}, proofs.VoteLists.both_said}
use Rattle.vote_laws.proofs.VoteRows.{authority, certificate_row, footer, no_randoms, preamble, preamble_rows}
use Rattle.vote_laws.proofs.{VoteRows.preamble_said, VoteItems.{said_rest_if, signature_entry, signature_row}}
use Rattle.vote_laws.proofs.{VoteItems.suits_signature, VoteRandoms.said_random}

-- ---- the preamble

pub preamble_written : (facts : VoteFacts) → HasValuesInRange facts → IsWritten vote_tables (preamble facts) []
unfolding same
preamble_written facts are =
    record {
      table = refl;
      apart = refl;
      plain = refl;
      opens = refl;
      said =
          both_said (preamble_rows facts) no_randoms (preamble_said facts are)
          (both_hold (said_random line.Previous None tt) (both_hold (said_random line.Current None tt) tt));
    }

pub preamble_first : IsFirst vote_tables (row the.NetworkStatusVersion One kind.Version)
unfolding same
preamble_first = record { begins = refl; row_there = refl }

-- ---- the section of the authority, up to the certificate

pub authority_written : (facts : VoteFacts) → HasValuesInRange facts
    → IsWritten vote_tables (authority facts) (certificate_row ∷ [])
unfolding same
authority_written facts are = record {
  table = refl;
  apart = refl;
  plain = refl;
  opens = refl;
  said =
      both_hold (said_rest_if the.Contact facts.contact)
      (both_hold (said_random line.Previous facts.random_previous are.random_previous)
      (both_hold (said_random line.Current facts.random_current are.random_current) tt));
}

pub authority_follows : MayFollow vote_tables Preamble Authority (row the.DirSource One kind.Source)
unfolding same
authority_follows =
    opener_follows vote_tables Preamble Authority (row the.DirSource One kind.Source) refl
    (record { not_here = refl; opens = refl; passes_none = refl; row_there = refl })

-- ---- the certificate

certificate_plain : (cert : Cert) → are_plain vote_tables Certificate (certificate_rows kind.Certificate cert) ≡ true
unfolding same
certificate_plain cert = refl

pub has_certificate : HasCertificates vote_tables Certificate kind.Certificate
unfolding same
has_certificate = record {
  rows = refl;
  shape = refl;
  plain = certificate_plain;
  known = λ of item. refl;
  values = λ across of item. refl;
}

-- ---- the footer

pub footer_ended : (signature : SignatureFacts) → IsSignatureInRange signature
    → IsEnded vote_tables footer signature_row (signature_entry signature)
unfolding same
footer_ended signature are = record {
  written = record { table = refl; apart = refl; plain = refl; opens = refl; said = tt };
  ends_it = record { row_there = refl; last = refl };
  inside = refl;
  suits = suits_signature signature are.identity are.key_digest;
}

pub footer_follows : MayFollow vote_tables Authority Footer (row the.DirectoryFooter One kind.Nothing)
unfolding same
footer_follows =
    opener_follows vote_tables Authority Footer (row the.DirectoryFooter One kind.Nothing) refl
    (record { not_here = refl; opens = refl; passes_none = refl; row_there = refl })
