use Rattle.std.proofs.Common.{◌≡◌, refl}
use Rattle.item_terms.specs.Items.{items_of}
use Rattle.vote_terms.specs.Votes.{max_vote}
use Rattle.vote_doc.proofs.KeptVotes.{kept_is}
use Rattle.vote_doc.proofs.reading.keep.Goals as goal

pub returns : goal.returns
returns c =
    let items : c.new-items.result ≡ items_of max_vote c.args.bytes.now = c.new-items.ensures in (
      kept_is c.args.bytes.now c.in_ok-kept.kept c.read_document.new.facts c.new-items.result c.in_ok-end.end items
          c.in_ok-kept.ensures c.in_ok-end.ensures.folds,
      c.in_ok-end.ensures.within 0 16777216 c.args.bytes.now items refl,
    )
