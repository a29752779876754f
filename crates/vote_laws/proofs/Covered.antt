-- What is covered of a certificate, by the places that were kept of it.
use Rattle.std.{proofs.Common.{◌≡◌, ℕ, ◌≤◌, List, ap, ◌∙◌}, specs.Prelude.slice_range}
use Rattle.sha1.specs.Sha1.{sha1}
use Rattle.item_terms.specs.Items.{Item}
use Rattle.authority_certs.specs.{Certs.cert_in, declared.head.CertHead.CertHead}
use Rattle.vote_laws.{specs.Signed.IsOfCovered, proofs.{Lines.StandsFrom, Slices.{line, line_is, through_line}}}

-- it is the text from the first item through the keyword line of the last
pub covered_is : (bytes : List ℕ) (place : ℕ) (first last : Item) (head : CertHead) → StandsFrom bytes place last
    → first.place ≤ last.place → head.begin ≡ first.place → head.covered_end ≡ last.line_end
    → IsOfCovered bytes first last (cert_in bytes head).covered
covered_is bytes place first last head from le begin end = record {
  line = line bytes place last from;
  is_line = line_is bytes place last from;
  covered = ap sha1
      (ap (λ (n : ℕ). slice_range bytes n head.covered_end) begin
      ∙ ap (λ (n : ℕ). slice_range bytes first.place n) end
      ∙ through_line bytes place last from first le);
}
