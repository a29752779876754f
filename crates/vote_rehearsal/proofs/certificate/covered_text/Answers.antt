use Rattle.vote_rehearsal.specs.Certificates.{covered_text, holder_items, key_items, last_items}
use Rattle.vote_rehearsal.proofs.CertificateTexts.{in_three}
use Rattle.vote_rehearsal.proofs.certificate.covered_text.Goals as goal

pub returns : goal.returns
unfolding covered_text
returns c =
    let its = c.args.authority.now in
    in_three (holder_items its) (key_items its) (last_items its) c.new-out.result.items c.push_holder.new.out.items
    c.push_keys.new.out.items c.push_last.new.out.items c.new-out.ensures.items c.in_ok-push_holder.ensures
    c.in_ok-push_keys.ensures c.in_ok-push_last.ensures
