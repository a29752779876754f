use Rattle.std.proofs.Common.{◌≡◌, ◌++◌, ℕ, List, ap, ap₂, ◌∙◌}
use Rattle.vote_terms.specs.declared.facts.VoteFacts.{VoteFacts}
use Rattle.vote_maker.specs.{Made.{basis, made}, Private.{back_text, front_text, said_around}}
use Rattle.vote_maker.proofs.EntryTexts.{whole_part}
use Rattle.vote_maker.proofs.facts.signed_part.Goals as goal

pub returns : goal.returns
returns g c =
    let station = c.args.station.now in
    let its = basis station c.args.pool.now.descriptors c.args.valid_after c.args.now in
    let under = c.in_ok-push_ruled.ensures in
    let before = c.in_ok-out.out.items in
    let text = c.push_ruled.new.out.items in
    let around = said_around station c.args.valid_after c.args.now in
    let front : before ≡ front_text around station.certificate_bytes =
    c.in_ok-out.ensures
    ∙ ap₂ (λ (f : VoteFacts) (b : List ℕ). front_text f b) c.in_ok-around.ensures c.as_bytes-certificate.ensures in
    let last : c.extend_from_slice.new.self.items ≡ text ++ back_text =
    c.in_ok-extend_from_slice.ensures.items ∙ ap (λ (l : List ℕ). text ++ l) c.back.ensures in
    record {
      rulings = under.rulings;
      allowed = under.allowed;
      text_is = whole_part (made its under.rulings) station.certificate_bytes before text _ front under.new_is last;
    }
